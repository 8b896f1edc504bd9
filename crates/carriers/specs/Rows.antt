-- A row of numbers as a point: letter a has its number at index a - 1.
use Rattle.std.specs.Prelude.{◌≡◌, ℕ, zero, suc, ◌-◌, Bool, true, ◌&&◌, List, [], ◌∷◌, pos, nat_le, slice_index_or}
use Rattle.coxeter.specs.Numbers.{Exact, integer}
use Rattle.coxeter.specs.Groups.{Matrix, Letter, rank}
use Rattle.coxeter.specs.Points.{Point, point}
use Rattle.coxeter.specs.Moves.{Word, Letters}
use Rattle.carriers.specs.Frames.{Frame}

-- the exact number 0
abbrev pub nought : Exact
nought = integer (pos 0)

-- the point whose numbers stand in a row
abbrev pub numbers : List Exact → Point
numbers l a = slice_index_or l (a - 1) nought

-- do the numbers of the letters 1 .. n fit?
abbrev pub all_fit : (Exact → Bool) → Point → ℕ → Bool
all_fit fits v zero = true
all_fit fits v (suc n) = fits (v (suc n)) && all_fit fits v n

-- are all letters of w letters of g?
abbrev pub letters_test : Matrix → Word → Bool
letters_test g [] = true
letters_test g (s ∷ w) = nat_le 1 s && nat_le s (rank g) && letters_test g w

-- is w a word of letters whose point fits?
abbrev pub fitting : (Exact → Bool) → Matrix → Word → Bool
fitting fits g w = letters_test g w && all_fit fits (point g w) (rank g)

-- w is a word of letters, and every number of its point fits
abbrev pub AllFit : (Exact → Bool) → Matrix → Word → Type 0
AllFit fits g w = Letters g w × ((a : ℕ) → Letter g a → fits (point g w a) ≡ true)

-- v is the point of the word w, on the letters
pub record Shows (g : Matrix) (v : Point) (w : Word) : Type 0 where
  pub letters : Letters g w
  pub shown : (a : ℕ) → Letter g a → v a ≡ point g w a

-- the frame of a carrier that stands wherever every number of the point fits
abbrev pub fitting_frame : (Exact → Bool) → Matrix → Frame
fitting_frame fits g = record { group = g; reach = λ w. fitting fits g w }

-- the frame of a carrier that stands everywhere
abbrev pub full_frame : Matrix → Frame
full_frame g = record { group = g; reach = λ w. letters_test g w }
