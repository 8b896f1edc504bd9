-- What a call does that is handed on as a closure: post says which results it may have, from a carrier and a buffer to both behind it.
use Rattle.std.specs.Prelude.{ℕ, ◌≤◌, List, length, Ok, Result}
use Rattle.std.specs.Borrow.{MutBor}
use Rattle.coxeter.specs.Moves.{Word}
use Rattle.carriers.specs.Frames.{Frame}
use Rattle.carriers.specs.Carriers.{BroughtHome}
use Rattle.words.specs.Outcomes.{Written}
use Rattle.words.specs.declared.faults.WordFault.{WordFault}

-- it brings the carrier home, and counts no more letters than the buffer holds
pub record Asks {X : Type 0} (frame : X → Frame) (at : X → Word → Type 0) (post : MutBor X → MutBor (List ℕ) → Result ℕ WordFault → MutBor X → MutBor (List ℕ) → Type 0) : Type 0 where
  pub home : (c d : MutBor X) (o p : MutBor (List ℕ)) (r : Result ℕ WordFault) → post c o r d p → BroughtHome frame at c.now d.now
  pub fits : (c d : MutBor X) (o p : MutBor (List ℕ)) (n : ℕ) → post c o (Ok n) d p → n ≤ length p.now

-- it writes the form of w
abbrev pub WritesForm : {X : Type 0} → (X → Frame) → (MutBor X → MutBor (List ℕ) → Result ℕ WordFault → MutBor X → MutBor (List ℕ) → Type 0) → Word → Type 0
WritesForm {X} frame post w =
    (c d : MutBor X) (o p : MutBor (List ℕ)) (r : Result ℕ WordFault) → post c o r d p → Written (frame c.now) w o.now p.now r
