-- What holds of every carrier, and what a step of it does.
use Rattle.std.specs.Prelude.{◌≡◌, ℕ, true, false, [], ◌∷◌, ◌++◌, Ok, Err, Result}
use Rattle.carriers.specs.declared.faults.StepFault.{StepFault}
use Rattle.carriers.specs.declared.faults.StepFault.TheVariants.{Letter as NoLetter, Reach as OutOfReach}
use Rattle.coxeter.specs.Groups.{Lawful, Letter}
use Rattle.coxeter.specs.Moves.{Word, Letters, Joined}
use Rattle.carriers.specs.Frames.{Frame}

-- the laws of a carrier with the frame f that stands at the words of `at`: its group is a Coxeter group; the reach is a set
-- of elements with the identity in it; it stands at the words of one element, which is in reach
pub record Laws (f : Frame) (at : Word → Type 0) : Type 0 where
  pub lawful : Lawful f.group
  pub letters : (w : Word) → f.reach w ≡ true → Letters f.group w
  pub identity : f.reach [] ≡ true
  pub reach_joined : (u v : Word) → Joined f.group u v → f.reach u ≡ true → f.reach v ≡ true
  pub within : (w : Word) → at w → f.reach w ≡ true
  pub at_joined : (u v : Word) → Joined f.group u v → at u → at v
  pub one_element : (u v : Word) → at u → at v → Joined f.group u v

-- what a step by s answers and does; x is the carrier before it, y after it
abbrev pub Took : {X : Type 0} → (X → Frame) → (X → Word → Type 0) → X → X → ℕ → Result (Unit {0}) StepFault → Type 0
Took frame at x y s (Ok _) = Letter (frame x).group s × ((w : Word) → at x w → ((frame x).reach (w ++ (s ∷ [])) ≡ true) × at y (w ++ (s ∷ [])))
Took frame at x y s (Err NoLetter) = (y ≡ x) × ¬ Letter (frame x).group s
Took frame at x y s (Err OutOfReach) = (y ≡ x) × Letter (frame x).group s × ((w : Word) → at x w → (frame x).reach (w ++ (s ∷ [])) ≡ false)

-- a step by s from x to y with the answer r: the frame stays
pub record Stepped {X : Type 0} (frame : X → Frame) (at : X → Word → Type 0) (x y : X) (s : ℕ) (r : Result (Unit {0}) StepFault) : Type 0 where
  pub same : frame y ≡ frame x
  pub took : Took frame at x y s r

-- the carrier x was brought home: it is y now, with the same group and reach, and stands at the identity
pub record BroughtHome {X : Type 0} (frame : X → Frame) (at : X → Word → Type 0) (x y : X) : Type 0 where
  pub same : frame y ≡ frame x
  pub here : at y []
