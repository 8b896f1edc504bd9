-- The table of a group's coefficients.
use Rattle.std.specs.Prelude.{◌≡◌, ℕ, ◌-◌, List, [], slice_index_or}
use Rattle.coxeter.specs.Groups.{Matrix, Letter}
use Rattle.coxeter.specs.Points.{coefficient}
use Rattle.numbers.specs.Coefficients.{worth, zero}
use Rattle.numbers.specs.declared.coefficient.Coefficient.{Coefficient}

-- the column of the letter s: c(a,s) stands at index a - 1
abbrev pub Column : Matrix → ℕ → List Coefficient → Type 0
Column g s column = (a : ℕ) → Letter g a → worth (slice_index_or column (a - 1) zero) ≡ coefficient g a s

-- the column of each letter s stands at index s - 1
abbrev pub Table : Matrix → List (List Coefficient) → Type 0
Table g columns = (s : ℕ) → Letter g s → Column g s (slice_index_or columns (s - 1) [])
