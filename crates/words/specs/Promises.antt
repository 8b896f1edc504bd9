-- What the answers of the calls mean, by moves.
use Rattle.std.specs.Prelude.{◌≡◌, ℕ, ◌⊎◌, ◌↔◌, List, take, Ok, Err, Result}
use Rattle.coxeter.specs.Groups.{Matrix}
use Rattle.coxeter.specs.Moves.{Word, Letters, Joined}
use Rattle.coxeter.specs.Points.{Form}
use Rattle.coxeter.specs.Lengths.{LengthOf, DistanceOf}
use Rattle.carriers.specs.Frames.{Frame}
use Rattle.words.specs.declared.faults.WordFault.{WordFault}
use Rattle.words.specs.declared.elements.Comparison.{Comparison}
use Rattle.words.specs.declared.elements.Comparison.TheVariants.{Same, Unlike, OtherGroup}
use Rattle.words.specs.Outcomes.{Passed, Refused}

-- what stands at the front of the buffer is joined to w, has as many letters as the element is long, and equals the form of exactly the words joined to w
abbrev pub TellsForm : Matrix → Word → List ℕ → Result ℕ WordFault → Type 0
TellsForm g w after (Ok n) = Joined g w (take n after) × LengthOf g w n × ((u h : Word) → Letters g u → Form g u h → (take n after ≡ h) ↔ Joined g w u)
TellsForm g w after (Err e) = Unit {0}

-- the answer r of form, product or inverse, by moves
pub record FormTold (g : Matrix) (w : Word) (after : List ℕ) (r : Result ℕ WordFault) : Type 0 where
  pub told : TellsForm g w after r

-- n is the length of the element of w
abbrev pub TellsLength : Matrix → Word → Result ℕ WordFault → Type 0
TellsLength g w (Ok n) = LengthOf g w n
TellsLength g w (Err e) = Unit {0}

-- the answer r of length, by moves
pub record LengthTold (g : Matrix) (w : Word) (r : Result ℕ WordFault) : Type 0 where
  pub told : TellsLength g w r

-- n is the distance of u and v, and 0 exactly when they are joined
abbrev pub TellsDistance : Matrix → Word → Word → Result ℕ WordFault → Type 0
TellsDistance g u v (Ok n) = DistanceOf g u v n × ((n ≡ 0) ↔ Joined g u v)
TellsDistance g u v (Err e) = Unit {0}

-- the answer r of distance, by moves
pub record DistanceTold (g : Matrix) (u v : Word) (r : Result ℕ WordFault) : Type 0 where
  pub told : TellsDistance g u v r

-- a carrier with the frame f gives the form of w
abbrev pub FormedBy : Frame → Word → Type 0
FormedBy f w = (h : Word) × Passed f w h

-- whether u and v name one element; e is the frame of the carrier that takes u, f that of the one that takes v
abbrev pub Compares : Frame → Frame → Word → Word → Result Comparison WordFault → Type 0
Compares e f u v (Ok Same) = (e.group ≡ f.group) × FormedBy e u × FormedBy f v × Joined e.group u v
Compares e f u v (Ok Unlike) = (e.group ≡ f.group) × FormedBy e u × FormedBy f v × ¬ Joined e.group u v
Compares e f u v (Ok OtherGroup) = ¬ (e.group ≡ f.group)
Compares e f u v (Err x) = (e.group ≡ f.group) × (Refused e u x ⊎ (FormedBy e u × Refused f v x))

-- r is the answer of the comparison
pub record Compared (e f : Frame) (u v : Word) (r : Result Comparison WordFault) : Type 0 where
  pub compares : Compares e f u v r
