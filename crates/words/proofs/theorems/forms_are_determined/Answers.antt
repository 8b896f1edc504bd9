use Rattle.words.proofs.FormsDetermined.{forms_determined}
use Rattle.words.proofs.theorems.forms_are_determined.Goals as goal

pub returns : goal.returns
returns c = forms_determined
