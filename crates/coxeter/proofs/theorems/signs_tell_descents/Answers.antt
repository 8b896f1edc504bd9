use Rattle.coxeter.proofs.Lengths.{signs_tell_descents_lem}
use Rattle.coxeter.proofs.theorems.signs_tell_descents.Goals as goal

pub returns : goal.returns
returns c = signs_tell_descents_lem
