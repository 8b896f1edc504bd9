use Rattle.coxeter.proofs.Forms.{forms_computed}
use Rattle.coxeter.proofs.theorems.forms_are_computed.Goals as goal

pub returns : goal.returns
returns c = forms_computed
