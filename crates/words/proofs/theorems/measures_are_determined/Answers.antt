use Rattle.words.proofs.FormsDetermined.{measures_determined}
use Rattle.words.proofs.theorems.measures_are_determined.Goals as goal

pub returns : goal.returns
returns c = measures_determined
