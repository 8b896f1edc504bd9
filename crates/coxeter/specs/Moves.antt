-- Words, moves between them, and the words that a chain of moves joins.
use Rattle.std.specs.Prelude.{ℕ, zero, suc, ◌≢◌, List, [], ◌∷◌, ◌++◌}
use Rattle.coxeter.specs.Groups.{Matrix, Letter, exponent}

-- letters, one after another
abbrev pub Word : Type 0
Word = List ℕ

-- every letter of the word is a letter of the group
abbrev pub Letters : Matrix → Word → Type 0
Letters g [] = Unit {0}
Letters g (s ∷ w) = Letter g s × Letters g w

-- s t s .., n letters
abbrev pub alternating : ℕ → ℕ → ℕ → Word
alternating zero s t = []
alternating (suc n) s t = s ∷ alternating n t s

-- one move: a pair s s is struck out or put in, or one side of a braid relation is replaced by the other
pub data Move (g : Matrix) : Word → Word → Type 0 where
  strike : (x y : Word) (s : ℕ) → Letter g s → Move g (x ++ (s ∷ (s ∷ y))) (x ++ y)
  insert : (x y : Word) (s : ℕ) → Letter g s → Move g (x ++ y) (x ++ (s ∷ (s ∷ y)))
  braid : (x y : Word) (s t : ℕ) → Letter g s → Letter g t → s ≢ t → exponent g s t ≢ 0 → Move g (x ++ (alternating (exponent g s t) s t ++ y)) (x ++ (alternating (exponent g s t) t s ++ y))

-- a chain of moves, perhaps of none
pub data Joined (g : Matrix) : Word → Word → Type 0 where
  none : {w : Word} → Joined g w w
  then : {u v w : Word} → Move g u v → Joined g v w → Joined g u w
