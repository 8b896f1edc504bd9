use Rattle.coxeter.proofs.Forms.{forms_decide}
use Rattle.coxeter.proofs.theorems.forms_decide_joining.Goals as goal

pub returns : goal.returns
returns c = forms_decide
