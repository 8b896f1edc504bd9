use Rattle.std.proofs.Common.{sym, refl}
use Rattle.coxeter.proofs.Matrices.{answered_letters}
use Rattle.coxeter.proofs.group.Group.exponent.Goals as goal

pub returns : goal.returns
returns c = sym (answered_letters c.args.self.now.rank c.args.self.now.rows c.args.s c.args.t (c.if-not-has_letter.ensures.0 refl) (c.if-not-has_letter-2.ensures.0 refl))
