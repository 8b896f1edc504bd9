use Rattle.std.specs.Iterator.Adapters.{enumerate_source, enumerate_count}
use Rattle.words.specs.Views.{letters_of}
use Rattle.words.proofs.Ways.{Passing}
use Rattle.words.proofs.stepping.step_through.Given as goal

abbrev pub invariant-loop-k : goal.invariant-loop-k
invariant-loop-k g l = Passing g.C.Carrier.frame g.C.Carrier.at (g.C.Carrier.frame l.fn.carrier) (letters_of l.word) l.carrier (enumerate_count l.k-iterator) (letters_of (enumerate_source l.k-iterator))
