-- What the parts of the way to a word's element answer.
use Rattle.std.specs.Prelude.{ℕ, Some, None, Ok, Err, Option, Result}
use Rattle.coxeter.specs.Groups.{Matrix}
use Rattle.coxeter.specs.Moves.{Word, Letters}
use Rattle.carriers.specs.Frames.{Frame}
use Rattle.words.specs.declared.faults.WordFault.{WordFault}
use Rattle.words.specs.Outcomes.{Misread, Entered, Barred}

-- the first letter that is none of the group's, if there is one
abbrev pub Outsides : Matrix → Word → Option ℕ → Type 0
Outsides g w None = Letters g w
Outsides g w (Some k) = Misread g w k

-- r tells the first letter outside
pub record Outside (g : Matrix) (w : Word) (r : Option ℕ) : Type 0 where
  pub told : Outsides g w r

-- the carrier stands at w, or w is barred
abbrev pub Arrives : Frame → (Word → Type 0) → Word → Result (Unit {0}) WordFault → Type 0
Arrives f at w (Ok _) = Entered f w × at w
Arrives f at w (Err e) = Barred f w e

-- r tells how the way to w went
pub record Arrived (f : Frame) (at : Word → Type 0) (w : Word) (r : Result (Unit {0}) WordFault) : Type 0 where
  pub told : Arrives f at w r
