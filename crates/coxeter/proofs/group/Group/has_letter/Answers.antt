use Rattle.std.proofs.Common.{arith}
use Rattle.std.proofs.lemmas.Bool.Decides.{nat_tests}
use Rattle.coxeter.proofs.Matrices.{cut_rank}
use Rattle.coxeter.proofs.group.Group.has_letter.Goals as goal

pub returns : goal.returns
returns c = let l = cut_rank c.args.self.now.rank c.args.self.now.rows in let r = c.contains.ensures.value in let b = c.new.ensures in grind (arith, nat_tests)
