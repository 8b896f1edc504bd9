-- Walks over a word: by its parts, over two letters in turn, and that moves leave where a walk ends.
use Rattle.std.proofs.Common.{◌≡◌, ℕ, zero, suc, ◌<◌, ◌≤◌, not, ltb, ◌≢◌, ◌⊎◌, [], ◌∷◌, ◌++◌, sym, refl, ap, ◌∙◌, subst, ap₂, inl, inr, arith}
use mathlib.Core.Path.{fun_ext}
use borrow.Author.Differences.{ints}
use Rattle.coxeter.specs.Numbers.{Exact, plus, negated, minus, times}
use Rattle.coxeter.specs.Groups.{Matrix, Letter, Lawful, exponent}
use Rattle.coxeter.specs.Moves.{Word, alternating, Move, strike, insert, braid, Joined, none, then}
use Rattle.coxeter.specs.Points.{coefficient_of, coefficient, Point, stepped, walked}
use Rattle.coxeter.proofs.Integers.{sums}
use Rattle.coxeter.proofs.Exacts.{nought, same_parts, times_nought, times_plus, times_negated}
use Rattle.coxeter.proofs.Words.{in_turn}
use Rattle.coxeter.proofs.Dihedral.{next, totals, Braided, braided}
use Rattle.std.proofs.lemmas.Bool.{cases_order, lt-ltb, le-ltb}

-- ---- over a word by its parts
pub walked_append : (g : Matrix) (x y : Word) (v : Point) → walked g (x ++ y) v ≡ walked g y (walked g x v)
walked_append g [] y v = refl
walked_append g (s ∷ x) y v = walked_append g x y (stepped g s v)

-- ---- a step by a letter turns its own number over
pub own_step : (g : Matrix) → Lawful g → (s : ℕ) → Letter g s → (x : Exact) → minus x (times (coefficient g s s) x) ≡ negated x
own_step g law s l x = ap (λ m. minus x (times (coefficient_of m (ltb s s)) x)) (law.diagonal s l) ∙ same_parts (omega (arith, ints)) (omega (arith, ints))

-- a walk that goes on by the letter s turns its number over
pub walked_more : (g : Matrix) → Lawful g → (u : Word) (s : ℕ) → Letter g s → (v : Point) → walked g (u ++ (s ∷ [])) v s ≡ negated (walked g u v s)
walked_more g law u s l v = ap (λ f. f s) (walked_append g u (s ∷ []) v) ∙ own_step g law s l (walked g u v s)

-- so a second step leads back
back_again : (c x y : Exact) → minus (minus y (times c x)) (times c (negated x)) ≡ y
back_again c x y = ap (minus (minus y (times c x))) (times_negated c x) ∙ cancel (times c x)
  where
    cancel : (z : Exact) → minus (minus y z) (negated z) ≡ y
    cancel z = same_parts (omega (arith, sums)) (omega (arith, sums))

pub double_step : (g : Matrix) → Lawful g → (s : ℕ) → Letter g s → (v : Point) → stepped g s (stepped g s v) ≡ v
double_step g law s l v = fun_ext λ a. ap (λ z. minus (stepped g s v a) (times (coefficient g a s) z)) (own_step g law s l (v s)) ∙ back_again (coefficient g a s) (v s) (v a)

-- ---- over two letters in turn
pub in_turn_walk : (g : Matrix) → Lawful g → (k s t : ℕ) → Letter g s → Letter g t → (v : Point)
    → walked g (alternating k s t) v (in_turn k s t) ≡ next k (coefficient g s t) (coefficient g t s) (v s) (v t)
in_turn_walk g law zero s t l l' v = refl
in_turn_walk g law (suc k) s t l l' v =
    in_turn_walk g law k t s l' l (stepped g s v) ∙ ap (next k (coefficient g t s) (coefficient g s t) (stepped g s v t)) (own_step g law s l (v s))

-- every number drops by the two coefficients times the two sums
abbrev pub dropped : Exact → Exact → Exact → Exact × Exact → Exact
dropped y c d r = minus (minus y (times c r.0)) (times d r.1)

one_more : (y c d x p q : Exact) → dropped (minus y (times c x)) d c (p, q) ≡ dropped y c d (plus x q, p)
one_more y c d x p q = regroup (times c x) (times d p) (times c q) ∙ ap (λ z. minus (minus y z) (times d p)) (sym (times_plus c x q))
  where
    regroup : (a b e : Exact) → minus (minus (minus y a) b) e ≡ minus (minus y (plus a e)) b
    regroup a b e = same_parts (omega (arith, sums)) (omega (arith, sums))

none_dropped : (y c d : Exact) → y ≡ dropped y c d (nought, nought)
none_dropped y c d = same_parts (omega (arith, sums)) (omega (arith, sums)) ∙ ap₂ (λ p q. minus (minus y p) q) (sym (times_nought c)) (sym (times_nought d))

alternating_walk : (g : Matrix) → Lawful g → (k s t : ℕ) → Letter g s → Letter g t → (v : Point) (a : ℕ)
    → walked g (alternating k s t) v a ≡ dropped (v a) (coefficient g a s) (coefficient g a t) (totals k (coefficient g s t) (coefficient g t s) (v s) (v t))
alternating_walk g law zero s t l l' v a = none_dropped (v a) (coefficient g a s) (coefficient g a t)
alternating_walk g law (suc k) s t l l' v a =
    alternating_walk g law k t s l' l (stepped g s v) a
    ∙ ap (λ z. dropped (stepped g s v a) (coefficient g a t) (coefficient g a s) (totals k (coefficient g t s) (coefficient g s t) (stepped g s v t) z)) (own_step g law s l (v s))
    ∙ one_more (v a) (coefficient g a s) (coefficient g a t) (v s) r.0 r.1
  where
    r : Exact × Exact
    r = totals k (coefficient g t s) (coefficient g s t) (stepped g s v t) (negated (v s))

-- ---- the two sides of a braid
other_way : (s t : ℕ) → s ≢ t → ltb t s ≡ not (ltb s t)
other_way s t n = by (cases_order s t)
  where
    by : (s ≡ t) ⊎ ((s < t) ⊎ (t < s)) → ltb t s ≡ not (ltb s t)
    by (inl e) = absurd (n e)
    by (inr (inl h)) = le-ltb t s (omega arith) ∙ ap not (sym (lt-ltb s t h))
    by (inr (inr h)) = lt-ltb t s h ∙ ap not (sym (le-ltb s t (omega arith)))

pub coefficient_back : (g : Matrix) → Lawful g → (s t : ℕ) → Letter g s → Letter g t → s ≢ t → coefficient g t s ≡ coefficient_of (exponent g s t) (not (ltb s t))
coefficient_back g law s t l l' n = ap₂ coefficient_of (law.mirrored t s l' l) (other_way s t n)

braided_letters : (g : Matrix) → Lawful g → (s t : ℕ) → Letter g s → Letter g t → s ≢ t → exponent g s t ≢ 0 → Braided (exponent g s t) (coefficient g s t) (coefficient g t s)
braided_letters g law s t l l' n e = subst (Braided (exponent g s t) (coefficient g s t)) (sym (coefficient_back g law s t l l' n)) (by (law.apart s t l l' n))
  where
    by : (exponent g s t ≡ 0) ⊎ ((2 ≤ exponent g s t) × (exponent g s t ≤ 6)) → Braided (exponent g s t) (coefficient g s t) (coefficient_of (exponent g s t) (not (ltb s t)))
    by (inl z) = absurd (e z)
    by (inr h) = braided (exponent g s t) (ltb s t) h.0 h.1

other_order : (y c d : Exact) (p q : Exact) → dropped y c d (p, q) ≡ dropped y d c (q, p)
other_order y c d p q = swap (times c p) (times d q)
  where
    swap : (a b : Exact) → minus (minus y a) b ≡ minus (minus y b) a
    swap a b = same_parts (omega (arith, sums)) (omega (arith, sums))

braid_walk : (g : Matrix) → Lawful g → (s t : ℕ) → Letter g s → Letter g t → s ≢ t → exponent g s t ≢ 0 → (v : Point)
    → walked g (alternating (exponent g s t) s t) v ≡ walked g (alternating (exponent g s t) t s) v
braid_walk g law s t l l' n e v = fun_ext λ a.
    alternating_walk g law m s t l l' v a
    ∙ other_order (v a) (coefficient g a s) (coefficient g a t) (totals m c d (v s) (v t)).0 (totals m c d (v s) (v t)).1
    ∙ ap₂ (λ p q. dropped (v a) (coefficient g a t) (coefficient g a s) (p, q)) (b.second_same (v s) (v t)) (b.first_same (v s) (v t))
    ∙ sym (alternating_walk g law m t s l' l v a)
  where
    m : ℕ
    m = exponent g s t

    c : Exact
    c = coefficient g s t

    d : Exact
    d = coefficient g t s

    b : Braided m c d
    b = braided_letters g law s t l l' n e

-- ---- moves leave where a walk ends
pub move_walk : (g : Matrix) → Lawful g → {u w : Word} → Move g u w → (v : Point) → walked g u v ≡ walked g w v
move_walk g law (strike x y s l) v = walked_append g x (s ∷ (s ∷ y)) v ∙ ap (walked g y) (double_step g law s l (walked g x v)) ∙ sym (walked_append g x y v)
move_walk g law (insert x y s l) v = walked_append g x y v ∙ ap (walked g y) (sym (double_step g law s l (walked g x v))) ∙ sym (walked_append g x (s ∷ (s ∷ y)) v)
move_walk g law (braid x y s t l l' n e) v =
    walked_append g x (alternating m s t ++ y) v ∙ walked_append g (alternating m s t) y (walked g x v)
    ∙ ap (walked g y) (braid_walk g law s t l l' n e (walked g x v))
    ∙ sym (walked_append g x (alternating m t s ++ y) v ∙ walked_append g (alternating m t s) y (walked g x v))
  where
    m : ℕ
    m = exponent g s t

pub joined_walk : (g : Matrix) → Lawful g → {u w : Word} → Joined g u w → (v : Point) → walked g u v ≡ walked g w v
joined_walk g law none v = refl
joined_walk g law (then m j) v = move_walk g law m v ∙ joined_walk g law j v
