use Rattle.coxeter.proofs.Signs.{signs_agree_lem}
use Rattle.coxeter.proofs.theorems.signs_agree.Goals as goal

pub returns : goal.returns
returns c = signs_agree_lem
