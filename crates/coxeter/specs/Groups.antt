-- A Coxeter group by its matrix: row s, entry t is the exponent of the letters s and t; 0 stands for inf.
use Rattle.std.specs.Prelude.{◌≡◌, ℕ, ◌-◌, ◌≤◌, cond, ◌&&◌, ◌≢◌, ◌⊎◌, List, [], length, nat_le, slice_index_or}

-- a list of rows
abbrev pub Matrix : Type 0
Matrix = List (List ℕ)

-- how many letters the group has
abbrev pub rank : Matrix → ℕ
rank g = length g

-- the exponent of the letters s and t; meant for letters only: outside the table it is 255, and number 0 reads as letter 1 does
abbrev pub exponent : Matrix → ℕ → ℕ → ℕ
exponent g s t = slice_index_or (slice_index_or g (s - 1) []) (t - 1) 255

-- letters are the numbers 1 to rank
pub record Letter (g : Matrix) (s : ℕ) : Type 0 where
  pub from_one : 1 ≤ s
  pub to_rank : s ≤ rank g

-- a Coxeter matrix of rank 1 to 8: square, symmetric, 1 on the diagonal and else 2 to 6 or inf
pub record Lawful (g : Matrix) : Type 0 where
  pub some : 1 ≤ rank g
  pub few : rank g ≤ 8
  pub diagonal : (s : ℕ) → Letter g s → exponent g s s ≡ 1
  pub mirrored : (s t : ℕ) → Letter g s → Letter g t → exponent g s t ≡ exponent g t s
  pub apart : (s t : ℕ) → Letter g s → Letter g t → s ≢ t → (exponent g s t ≡ 0) ⊎ ((2 ≤ exponent g s t) × (exponent g s t ≤ 6))
  pub square : (s : ℕ) → Letter g s → length (slice_index_or g (s - 1) []) ≡ rank g

-- what is answered for the exponent of two numbers: 255 where one of them is no letter
abbrev pub answered_exponent : Matrix → ℕ → ℕ → ℕ
answered_exponent g s t = cond (nat_le 1 s && nat_le s (rank g) && nat_le 1 t && nat_le t (rank g)) (exponent g s t) 255
