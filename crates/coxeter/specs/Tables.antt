-- The matrix that a table of rows is cut to.
use Rattle.std.specs.Prelude.{ℕ, List, [], map, slice_index, slice_index_or}
use Rattle.std.specs.List.{range_with_len}
use Rattle.coxeter.specs.Groups.{Matrix}

-- what stands in row i at column j, both from 0
abbrev pub place : List (List ℕ) → ℕ → ℕ → ℕ
place rows i j = slice_index (slice_index_or rows i []) j

-- the first n entries of the first n rows
abbrev pub cut : ℕ → List (List ℕ) → Matrix
cut n rows = map (λ i. map (λ j. place rows i j) (range_with_len 0 n)) (range_with_len 0 n)
