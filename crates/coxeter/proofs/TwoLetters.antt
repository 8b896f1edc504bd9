-- Two unlike letters in turn: how many steps their exponent leaves free, and that these keep positive numbers positive.
use Rattle.std.proofs.Common.{◌≡◌, ℕ, suc, ◌<◌, ◌≤◌, not, ltb, ◌≢◌, ◌⊎◌, [], sym, ap, ◌∙◌, subst, subst₂, inl, inr, append-nil, arith}
use Rattle.coxeter.specs.Groups.{Matrix, Letter, Lawful, exponent}
use Rattle.coxeter.specs.Moves.{alternating, braid, Joined}
use Rattle.coxeter.specs.Points.{coefficient_of, coefficient, Point, walked}
use Rattle.coxeter.proofs.Positives.{Positive, positive_plus}
use Rattle.coxeter.proofs.Dihedral.{next, next_positive, endless_positive}
use Rattle.coxeter.proofs.Words.{in_turn}
use Rattle.coxeter.proofs.Walks.{in_turn_walk, coefficient_back}
use Rattle.coxeter.proofs.Joining.{join}
use Rattle.std.proofs.lemmas.Bool.{cases_eq, cases_lt}

-- two unlike letters
pub record Two (g : Matrix) (a b : ℕ) : Type 0 where
  pub left : Letter g a
  pub right : Letter g b
  pub apart : a ≢ b

pub swapped : {g : Matrix} {a b : ℕ} → Two g a b → Two g b a
swapped t = record { left = t.right; right = t.left; apart = λ e. t.apart (sym e) }

-- n is no more than the exponent, or there is no relation
abbrev pub Within : Matrix → ℕ → ℕ → ℕ → Type 0
Within g a b n = (exponent g a b ≡ 0) ⊎ (n ≤ exponent g a b)

pub within_less : (g : Matrix) (a b m n : ℕ) → m ≤ n → Within g a b n → Within g a b m
within_less g a b m n h (inl e) = inl e
within_less g a b m n h (inr r) = inr (omega arith)

pub within_swapped : (g : Matrix) → Lawful g → (a b n : ℕ) → Two g a b → Within g a b n → Within g b a n
within_swapped g law a b n t h = subst (λ m. (m ≡ 0) ⊎ (n ≤ m)) (law.mirrored a b t.left t.right) h

pub within_one : (g : Matrix) → Lawful g → (a b : ℕ) → Two g a b → Within g a b 1
within_one g law a b t = by (law.apart a b t.left t.right t.apart)
  where
    by : (exponent g a b ≡ 0) ⊎ ((2 ≤ exponent g a b) × (exponent g a b ≤ 6)) → Within g a b 1
    by (inl e) = inl e
    by (inr r) = inr (omega arith)

-- one step more is free, or n is the exponent
pub within_or_full : (g : Matrix) (a b n : ℕ) → Within g a b n → Within g a b (suc n) ⊎ ((exponent g a b ≡ n) × (n ≢ 0))
within_or_full g a b n (inl e) = inl (inl e)
within_or_full g a b n (inr r) = by (cases_lt n (exponent g a b)) (cases_eq (exponent g a b) 0)
  where
    by : (n < exponent g a b) ⊎ (exponent g a b ≤ n) → (exponent g a b ≡ 0) ⊎ (exponent g a b ≡ 0 → ⊥) → Within g a b (suc n) ⊎ ((exponent g a b ≡ n) × (n ≢ 0))
    by (inl d) z = inl (inr d)
    by (inr d) (inl z) = inl (inl z)
    by (inr d) (inr z) = inr (omega arith, λ e. z (omega arith))

-- in turn from positive numbers, the letter whose turn it is stays positive
pub turn_positive : (g : Matrix) → Lawful g → (a b : ℕ) → Two g a b → (k : ℕ) → Within g a b (suc k) → (v : Point) → Positive (v a) → Positive (v b)
    → Positive (walked g (alternating k a b) v (in_turn k a b))
turn_positive g law a b t k h v p q =
    subst Positive (sym (in_turn_walk g law k a b t.left t.right v)) (by h (law.apart a b t.left t.right t.apart))
  where
    back : coefficient g b a ≡ coefficient_of (exponent g a b) (not (ltb a b))
    back = coefficient_back g law a b t.left t.right t.apart

    endless : exponent g a b ≡ 0 → Positive (next k (coefficient g a b) (coefficient g b a) (v a) (v b))
    endless e =
        subst₂ (λ c d. Positive (next k c d (v a) (v b))) (sym (ap (λ m. coefficient_of m (ltb a b)) e)) (sym (back ∙ ap (λ m. coefficient_of m (not (ltb a b))) e))
        (endless_positive k (v a) (v b) p (positive_plus p q))

    by : Within g a b (suc k) → (exponent g a b ≡ 0) ⊎ ((2 ≤ exponent g a b) × (exponent g a b ≤ 6)) → Positive (next k (coefficient g a b) (coefficient g b a) (v a) (v b))
    by (inl e) r = endless e
    by (inr i) (inl e) = endless e
    by (inr i) (inr r) = subst (λ c. Positive (next k (coefficient g a b) c (v a) (v b))) (sym back) (next_positive (exponent g a b) (ltb a b) r.0 r.1 k i p q)

-- the two sides of a braid, by themselves
pub braid_joined : {g : Matrix} (a b : ℕ) → Two g a b → (k : ℕ) → exponent g a b ≡ k → k ≢ 0 → Joined g (alternating k a b) (alternating k b a)
braid_joined {g} a b t k e z =
    subst (λ m. Joined g (alternating m a b) (alternating m b a)) e
    (subst₂ (Joined g) (append-nil (alternating (exponent g a b) a b)) (append-nil (alternating (exponent g a b) b a))
    (join (braid [] [] a b t.left t.right t.apart (λ i. z (sym e ∙ i)))))
