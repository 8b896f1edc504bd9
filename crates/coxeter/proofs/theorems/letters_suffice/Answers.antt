use Rattle.coxeter.proofs.Readings.{letters_suffice_lem}
use Rattle.coxeter.proofs.theorems.letters_suffice.Goals as goal

pub returns : goal.returns
returns c = letters_suffice_lem
