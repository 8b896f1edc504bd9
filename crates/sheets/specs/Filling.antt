-- The rows that a table has so far.
use Rattle.std.specs.Prelude.{ℕ, ◌<◌, ◌≤◌, List, map}
use Rattle.std.specs.List.{range_with_len}
use Rattle.coxeter.specs.Tables.{place}
use Rattle.sheets.specs.Fitting.{Fits}

-- the first n entries of the first k rows
abbrev pub part : ℕ → ℕ → List (List ℕ) → List (List ℕ)
part n k rows = map (λ i. map (λ j. place rows i j) (range_with_len 0 n)) (range_with_len 0 k)

-- the first n entries of the first k rows are exponents that may stand there
pub record Filled (n k : ℕ) (rows : List (List ℕ)) : Type 0 where
  pub small : (r c : ℕ) → r < k → c < n → place rows r c ≤ 6
  pub fits : (r c : ℕ) → r < k → c < n → Fits rows r c (place rows r c)
