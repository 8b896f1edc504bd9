use Rattle.coxeter.proofs.Lengths.{forms_measure}
use Rattle.coxeter.proofs.theorems.forms_measure_length.Goals as goal

pub returns : goal.returns
returns c = forms_measure
