use Rattle.words.proofs.Determined.{descents_determined}
use Rattle.words.proofs.theorems.descents_are_determined.Goals as goal

pub returns : goal.returns
returns c = descents_determined
