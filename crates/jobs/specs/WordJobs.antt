-- The answers to jobs over words: f is the carrier's frame, w the job's word.
use Rattle.std.specs.Prelude.{◌≡◌, ℕ, List, length, Ok, Err, string_bytes, Result, String}
use Rattle.coxeter.specs.Moves.{Word}
use Rattle.carriers.specs.Frames.{Frame}
use Rattle.words.specs.Outcomes.{DescentsTold, Passed, Refused}
use Rattle.words.specs.declared.descents.Descents.{Descents}
use Rattle.words.specs.declared.faults.WordFault.{WordFault}
use Rattle.answers.specs.Texts.{DescentsAnswer, form_text, number_text}

-- the line of the letters that descend at the element of w, or its refusal
abbrev pub DescentsJob : {Z : Type 0} → Frame → Word → Result (String Z) WordFault → Type 0
DescentsJob f w (Ok s) = (d : Descents) × DescentsTold f w (Ok d) × DescentsAnswer d.bits (string_bytes s)
DescentsJob f w (Err e) = DescentsTold f w (Err e)

-- the line of the form of w, under the job's key, or its refusal
abbrev pub FormJob : {Z : Type 0} → List ℕ → Frame → Word → Result (String Z) WordFault → Type 0
FormJob key f w (Ok s) = (h : Word) × Passed f w h × (string_bytes s ≡ form_text key h)
FormJob key f w (Err e) = Refused f w e

-- the line of the length of w, under the job's key, or its refusal
abbrev pub NumberJob : {Z : Type 0} → List ℕ → Frame → Word → Result (String Z) WordFault → Type 0
NumberJob key f w (Ok s) = (h : Word) × Passed f w h × (string_bytes s ≡ number_text key (length h))
NumberJob key f w (Err e) = Refused f w e
