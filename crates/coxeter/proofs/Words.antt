-- Words from their end, and words of two letters in turn.
use Rattle.std.proofs.Common.{◌≡◌, ℕ, zero, suc, ◌⊎◌, [], ◌∷◌, ◌++◌, length, sym, refl, ap, inl, inr}
use mathlib.Core.Logic.{⊎_swap}
use Rattle.coxeter.specs.Moves.{Word, alternating}

-- ---- the last letter
-- a word is empty, or has a last letter
pub data Last : Word → Type 0 where
  nothing : Last []
  ending : (u : Word) (t : ℕ) → Last (u ++ (t ∷ []))

pub last : (w : Word) → Last w
last [] = nothing
last (a ∷ w) = by (last w)
  where
    by : {w : Word} → Last w → Last (a ∷ w)
    by nothing = ending [] a
    by (ending u t) = ending (a ∷ u) t

-- ---- two letters in turn
-- the letter whose turn it is after k letters
abbrev pub in_turn : ℕ → ℕ → ℕ → ℕ
in_turn zero s t = s
in_turn (suc k) s t = in_turn k t s

pub alternating_more : (k a b : ℕ) → alternating (suc k) a b ≡ alternating k a b ++ (in_turn k a b ∷ [])
alternating_more zero a b = refl
alternating_more (suc k) a b = ap (λ r. a ∷ r) (alternating_more k b a)

pub length_alternating : (k a b : ℕ) → length (alternating k a b) ≡ k
length_alternating zero a b = refl
length_alternating (suc k) a b = ap suc (length_alternating k b a)

-- of two letters in turn, it is the turn of s or it was
pub turn_of : (k : ℕ) {s a b : ℕ} → (s ≡ a) ⊎ (s ≡ b) → (in_turn k a b ≡ s) ⊎ (in_turn k b a ≡ s)
turn_of zero (inl e) = inl (sym e)
turn_of zero (inr e) = inr (sym e)
turn_of (suc k) o = ⊎_swap (turn_of k o)
