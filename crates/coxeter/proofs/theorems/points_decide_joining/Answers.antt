use Rattle.coxeter.proofs.Forms.{points_decide}
use Rattle.coxeter.proofs.theorems.points_decide_joining.Goals as goal

pub returns : goal.returns
returns c = points_decide
