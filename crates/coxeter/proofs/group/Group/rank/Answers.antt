use Rattle.std.proofs.Common.{sym, refl}
use Rattle.coxeter.proofs.Matrices.{cut_rank}
use Rattle.coxeter.proofs.group.Group.rank.Goals as goal

pub returns : goal.returns
returns c = record { plain = refl; told = sym (cut_rank c.args.self.now.rank c.args.self.now.rows) }
