use Rattle.coxeter.proofs.Forms.{joining_decided}
use Rattle.coxeter.proofs.theorems.joining_is_decided.Goals as goal

pub returns : goal.returns
returns c = joining_decided
