use Rattle.std.proofs.Common.{◌-◌, length}
use Rattle.coxeter.specs.Moves.{Word}
use Rattle.words.specs.Views.{letters_of}
use Rattle.words.proofs.TakingOff.{Taking}
use Rattle.words.proofs.reading.take_off.Given as goal

abbrev pub invariant-loop-s : goal.invariant-loop-s
invariant-loop-s g l = (t : Word) × g.K.Kept.keeps l.letters t × Taking g.C.Carrier.frame g.C.Carrier.at (g.C.Carrier.frame l.fn.carrier) (letters_of l.word) l.carrier t

abbrev pub decreases-loop-s : goal.decreases-loop-s
decreases-loop-s g l = length (letters_of l.word) - g.K.Kept.count l.letters
