-- A step of a point in a row, by a column of coefficients.
use Rattle.std.specs.Prelude.{◌≡◌, ℕ, ◌<◌, Bool, false, List, map, length, Result, MatchResult, slice_index_or}
use Rattle.coxeter.specs.Numbers.{Exact, minus, times}
use Rattle.numbers.specs.Coefficients.{worth, zero}
use Rattle.numbers.specs.declared.coefficient.Coefficient.{Coefficient}
use Rattle.carriers.specs.declared.faults.StepFault.{StepFault}
use Rattle.carriers.specs.declared.faults.StepFault.TheVariants.{Reach}
use Rattle.carriers.specs.Rows.{nought, numbers}

-- the number at index i of the row l, after a step by a letter with this column and the number x
abbrev pub taken_off : List Coefficient → Exact → List Exact → ℕ → Exact
taken_off column x l i = minus (slice_index_or l i nought) (times (worth (slice_index_or column i zero)) x)

-- the first n numbers of m are those of l after the step
abbrev pub Moved : ℕ → List Coefficient → Exact → List Exact → List Exact → Type 0
Moved n column x l m = (i : ℕ) → i < n → slice_index_or m i nought ≡ taken_off column x l i

-- one of the first n numbers does not fit after the step
pub record Stuck (fits : Exact → Bool) (n : ℕ) (column : List Coefficient) (x : Exact) (l : List Exact) : Type 0 where
  pub at : ℕ
  pub below : at < n
  pub misfit : fits (taken_off column x l at) ≡ false

-- what a row l answers to a step by the letter s with this column, and the row m that it is then
abbrev pub Advanced : {N : Type 0} → (N → Exact) → (Exact → Bool) → List Coefficient → ℕ → List N → List N → Result (Unit {0}) StepFault → Type 0
Advanced value fits column s l m r =
    MatchResult r (λ u. Moved (length l) column (numbers (map value l) s) (map value l) (map value m))
    (λ fault. (fault ≡ Reach) × (m ≡ l) × Stuck fits (length l) column (numbers (map value l) s) (map value l))
