-- When a carrier can be made over a lent row, and what the check of it answers.
use Rattle.std.specs.Prelude.{◌≡◌, ℕ, ◌<◌, ◌≤◌, Bool, true, ◌⊎◌, Ok, Err, Result}
use Rattle.carriers.specs.declared.faults.OpenFault.{OpenFault}
use Rattle.carriers.specs.declared.faults.OpenFault.TheVariants.{Short, Kind}
use Rattle.coxeter.specs.Numbers.{Exact}
use Rattle.coxeter.specs.Groups.{Matrix}
use Rattle.coxeter.specs.Pairs.{WithoutFive}
use Rattle.numbers.specs.Kinds.{phi}

-- a kind of number carries the group: φ fits, or no exponent asks for φ
abbrev pub Carried : (Exact → Bool) → Matrix → Type 0
Carried fits g = (fits phi ≡ true) ⊎ WithoutFive g

-- the row is long enough, and the group can be carried; n is what the row needs, l its length
pub record Opens (n l : ℕ) (Fit : Type 0) : Type 0 where
  pub wide : n ≤ l
  pub kind : Fit

-- the answer r over a row, a short row before another group: Yes is known behind a yes to the group, No behind a no
abbrev pub Answered : ℕ → ℕ → Type 0 → Type 0 → Result (Unit {0}) OpenFault → Type 0
Answered n l Yes No (Ok _) = Opens n l Yes
Answered n l Yes No (Err Short) = l < n
Answered n l Yes No (Err Kind) = (n ≤ l) × No

-- the answer of the check, a short row before another group
abbrev pub Opening : ℕ → ℕ → Type 0 → Result (Unit {0}) OpenFault → Type 0
Opening n l Fit r = Answered n l Fit (¬ Fit) r

-- r is the answer of the check
pub record Checked (n l : ℕ) (Fit : Type 0) (r : Result (Unit {0}) OpenFault) : Type 0 where
  pub told : Opening n l Fit r
