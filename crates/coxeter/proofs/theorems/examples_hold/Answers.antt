use Rattle.coxeter.proofs.Examples.{examples_hold_lem}
use Rattle.coxeter.proofs.theorems.examples_hold.Goals as goal

pub returns : goal.returns
returns c = examples_hold_lem
