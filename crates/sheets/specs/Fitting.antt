-- Which exponents a row may have, below the rows that are there.
use Rattle.std.specs.Prelude.{◌≡◌, ℕ, ◌<◌, ◌≢◌, List, length, slice_index}
use Rattle.coxeter.specs.Tables.{place}
use Rattle.sheets.specs.Rows.{column_place}

-- e may stand in row r at column c, both from 0: 1 on the diagonal and nowhere else, and equal to its mirror above
pub record Fits (rows : List (List ℕ)) (r c e : ℕ) : Type 0 where
  pub diagonal : c ≡ r → e ≡ 1
  pub unlike : c ≢ r → e ≢ 1
  pub mirrored : c < r → e ≡ place rows c r

-- the first n exponents of row r may stand there
abbrev pub AllExponentsFit : List (List ℕ) → ℕ → List ℕ → ℕ → Type 0
AllExponentsFit rows r es n = (c : ℕ) → c < n → Fits rows r c (slice_index es c)

-- p is the place of the first exponent that may not stand in row r
pub record Misfit (rows : List (List ℕ)) (r : ℕ) (es : List ℕ) (p : ℕ) : Type 0 where
  pub column : ℕ
  pub inside : column < length es
  pub before : AllExponentsFit rows r es column
  pub wrong : Fits rows r column (slice_index es column) → ⊥
  pub at : p ≡ column_place es column
