-- What the parts of the way down a word's form answer.
use Rattle.std.specs.Prelude.{◌≡◌, ℕ, false, reverse, Some, None, Ok, Err, Option, Result}
use Rattle.coxeter.specs.Numbers.{negative}
use Rattle.coxeter.specs.Groups.{Matrix, Letter}
use Rattle.coxeter.specs.Moves.{Word}
use Rattle.coxeter.specs.Points.{point, Least}
use Rattle.carriers.specs.Frames.{Frame}
use Rattle.words.specs.declared.faults.WordFault.{WordFault}
use Rattle.words.specs.Outcomes.{Passed, Refused}

-- no letter descends
abbrev pub Bare : Matrix → Word → Type 0
Bare g w = (a : ℕ) → Letter g a → negative (point g w a) ≡ false

-- the least descending letter, if there is one
abbrev pub LowestLetter : Matrix → Word → Option ℕ → Type 0
LowestLetter g w None = Bare g w
LowestLetter g w (Some s) = Least g (point g w) s

-- r is the least descending letter, whatever word the carrier stands at
pub record Found (g : Matrix) (at : Word → Type 0) (r : Option ℕ) : Type 0 where
  pub found : (w : Word) → at w → LowestLetter g w r

-- the form of w was read off, the last letter first, and its letters are kept; or w is refused
abbrev pub ReadOff : Frame → Word → (Word → Type 0) → Result (Unit {0}) WordFault → Type 0
ReadOff f w kept (Ok _) = (letters : Word) × kept letters × Passed f w (reverse letters)
ReadOff f w kept (Err e) = Refused f w e

-- r tells whether letters that are kept were read off
pub record Read (f : Frame) (w : Word) (kept : Word → Type 0) (r : Result (Unit {0}) WordFault) : Type 0 where
  pub told : ReadOff f w kept r
