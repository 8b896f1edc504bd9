-- The form as a function that computes.
use Rattle.std.specs.Prelude.{ℕ, zero, suc, cond, [], ◌∷◌, ◌++◌, length, Some, None, Option}
use Rattle.coxeter.specs.Numbers.{negative}
use Rattle.coxeter.specs.Groups.{Matrix, rank}
use Rattle.coxeter.specs.Moves.{Word}
use Rattle.coxeter.specs.Points.{Point, stepped, point}

-- of the n letters from s on, the least whose number is negative
abbrev pub least_negative : Point → ℕ → ℕ → Option ℕ
least_negative v zero s = None
least_negative v (suc n) s = cond (negative (v s)) (Some s) (least_negative v n (suc s))

-- nothing is left to read, or s is the last letter and `rest` reads on after the step by it
abbrev pub read_on : Matrix → (Point → Word) → Point → Option ℕ → Word
read_on g rest v None = []
read_on g rest v (Some s) = rest (stepped g s v) ++ (s ∷ [])

-- what is read off the point v, up to n letters
abbrev pub read_off : Matrix → ℕ → Point → Word
read_off g zero v = []
read_off g (suc n) v = read_on g (read_off g n) v (least_negative v (rank g) 1)

-- the form of a word, which has no more letters than the word
abbrev pub form_of : Matrix → Word → Word
form_of g w = read_off g (length w) (point g w)
