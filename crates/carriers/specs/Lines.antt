-- One-line notation of a permutation: each letter exchanges two neighbours.
use Rattle.std.specs.Prelude.{◌≡◌, ℕ, ◌+◌, ◌-◌, ◌<◌, ◌≤◌, List, pos, ◌-ℤ◌, slice_index}
use Rattle.coxeter.specs.Numbers.{integer}
use Rattle.coxeter.specs.Groups.{Matrix, rank}
use Rattle.coxeter.specs.Moves.{Word}
use Rattle.coxeter.specs.Points.{Point}
use Rattle.carriers.specs.Rows.{Shows}

-- the point that a row of entries shows: letter a has the difference of its entry and the next
abbrev pub gaps : List ℕ → Point
gaps row a = integer (pos (slice_index row a) -ℤ pos (slice_index row (a - 1)))

-- the numbers 1 to n stand in the first n places, each in one
abbrev pub Arranged : ℕ → List ℕ → Type 0
Arranged n row = (k : ℕ) → 1 ≤ k → k ≤ n → (i : ℕ) × (i < n) × (slice_index row i ≡ k)

-- the row is the one-line notation of the element of w
pub record Stands (g : Matrix) (row : List ℕ) (w : Word) : Type 0 where
  pub arranged : Arranged (rank g + 1) row
  pub shows : Shows g (gaps row) w
