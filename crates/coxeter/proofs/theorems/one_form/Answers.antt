use Rattle.coxeter.proofs.Forms.{one_form}
use Rattle.coxeter.proofs.theorems.one_form.Goals as goal

pub returns : goal.returns
returns c = one_form
