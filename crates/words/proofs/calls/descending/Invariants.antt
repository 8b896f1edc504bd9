use Rattle.coxeter.specs.Moves.{Word}
use Rattle.words.proofs.Inserting.{Filled}
use Rattle.words.proofs.TakingOff.{Falls}
use Rattle.words.proofs.calls.descending.Given as goal

abbrev pub invariant-loop-s : goal.invariant-loop-s
invariant-loop-s g l = (w : Word) → g.C.Carrier.at l.carrier w → Filled (Falls (g.C.Carrier.frame l.carrier) w) l.set.bits l.s
