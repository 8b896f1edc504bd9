-- What is proved of the answers of the calls. Each statement is the contract of a function of the crate.
use Rattle.std.specs.Prelude.{◌≡◌, ℕ, List, Result}
use Rattle.coxeter.specs.Moves.{Word}
use Rattle.carriers.specs.Frames.{Frame}
use Rattle.words.specs.declared.faults.WordFault.{WordFault}
use Rattle.words.specs.declared.descents.Descents.{Descents}
use Rattle.words.specs.Outcomes.{DescentsTold, Measured, Written}

-- frame and word determine what descents answers
abbrev pub DescentsAreDetermined : Type 0
DescentsAreDetermined = (f : Frame) (w : Word) (r s : Result Descents WordFault) → DescentsTold f w r → DescentsTold f w s → r ≡ s

-- frame and word determine what length and distance answer
abbrev pub MeasuresAreDetermined : Type 0
MeasuresAreDetermined = (f : Frame) (w : Word) (r s : Result ℕ WordFault) → Measured f w r → Measured f w s → r ≡ s

-- frame, word and buffer determine what form, product and inverse answer and write
abbrev pub FormsAreDetermined : Type 0
FormsAreDetermined = (f : Frame) (w : Word) (before after after' : List ℕ) (r s : Result ℕ WordFault) → Written f w before after r → Written f w before after' s → (r ≡ s) × (after ≡ after')
