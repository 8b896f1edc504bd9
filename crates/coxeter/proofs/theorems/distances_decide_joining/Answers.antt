use Rattle.coxeter.proofs.Inverses.{distances_decide}
use Rattle.coxeter.proofs.theorems.distances_decide_joining.Goals as goal

pub returns : goal.returns
returns c = distances_decide
