-- The rule of signs: it tells each exact number to be 0, positive or the opposite of a positive number, and its tests decide it.
use Rattle.std.proofs.Common.{◌≡◌, ℕ, zero, suc, ◌+◌, ◌-◌, ◌*◌, ◌<◌, ◌≤◌, Bool, true, false, cond, T, ◌⊎◌, ℤ, pos, negsuc, ◌+ℤ◌, ◌*ℤ◌, neg_ℤ, ◌<ℤ◌, sym, refl, ap, subst, inl, inr, mul-le-mul_left, arith}
use lib.Signed.{lt_z, lt_z_yes}
use borrow.Author.Differences.{ints, up, down, product_is}
use Rattle.coxeter.specs.Numbers.{Exact, negated, BelowZero, neither_above, first_outweighs, second_outweighs, AboveZero, negative, negative_parts}
use Rattle.coxeter.specs.Theorems.{SignsAgree}
use Rattle.coxeter.proofs.Exacts.{nought, same_parts}
use Rattle.coxeter.proofs.Positives.{Positive, turn, natural_positive, nought_apart, positive_apart}
use Rattle.std.proofs.lemmas.Bool.{cases_lt, cases_Bool, false≢true}

-- ---- the sign of a - b φ, by steps as in Euclid's algorithm
data Sign (a b : ℕ) : Type 0 where
  even : a ≡ 0 → b ≡ 0 → Sign a b
  less : a * a < a * b + b * b → Positive (record { whole = neg_ℤ (pos a); golden = pos b }) → Sign a b
  more : a * b + b * b < a * a → Positive (record { whole = pos a; golden = neg_ℤ (pos b) }) → Sign a b

-- φ (a - b φ) = - (b - (a - b) φ)
turn_sign : (a b c : ℕ) → a ≡ b + c → Sign (suc b) c → Sign (suc a) (suc b)
turn_sign a b c e (even p q) = absurd (omega arith)
turn_sign a b c e (less p q) = more (omega (arith, ap (λ (n : ℕ). suc n * suc b) e, ap (λ (n : ℕ). suc n * suc n) e)) (turn (subst Positive (same_parts refl (omega (arith, ints))) q))
turn_sign a b c e (more p q) = less (omega (arith, ap (λ (n : ℕ). suc n * suc b) e, ap (λ (n : ℕ). suc n * suc n) e)) (turn (subst Positive (same_parts refl (omega (arith, ints))) q))

sign : (fuel a b : ℕ) → a + b ≤ fuel → Sign a b
sign zero a b h = even (omega arith) (omega arith)
sign (suc fuel) zero zero h = even refl refl
sign (suc fuel) zero (suc b) h = less (omega arith) (natural_positive _ 0 (suc b) refl refl (omega arith))
sign (suc fuel) (suc a) zero h = more (omega arith) (natural_positive _ (suc a) 0 refl refl (omega arith))
sign (suc fuel) (suc a) (suc b) h = by (cases_lt b a) (sign fuel (suc b) (a - b))
  where
    by : (b < a) ⊎ (a ≤ b) → (suc b + (a - b) ≤ fuel → Sign (suc b) (a - b)) → Sign (suc a) (suc b)
    by (inr k) rest = less (omega (arith, mul-le-mul_left (suc a) k)) (turn (natural_positive _ (suc b) (b - a) refl (omega (arith, ints)) (omega arith)))
    by (inl k) rest = turn_sign a b (a - b) (omega arith) (rest (omega arith))

-- ---- what the rule `negative` says
-- (u - d)² = (x - y)² where u - d = x - y
difference_square : (u d x y : ℕ) → u + y ≡ d + x → u * u + d * d + 2 * (x * y) ≡ 2 * (u * d) + x * x + y * y
difference_square u d x y e = omega (arith, ap (λ (n : ℕ). n * n) e, ap (λ (n : ℕ). n * d) e, ap (λ (n : ℕ). n * y) e)

-- the square of an integer that is x - y
square_is : (p : ℤ) (x y : ℕ) → up p + y ≡ down p + x → up (p *ℤ p) + 2 * (x * y) ≡ down (p *ℤ p) + x * x + y * y
square_is p x y e = omega (arith, difference_square (up p) (down p) x y e, product_is p p)

-- the rule by its tests
parts_true : (p q : ℤ) → (lt_z p (pos 0) ≡ true → lt_z (pos 0) q ≡ true → lt_z (pos 5 *ℤ (q *ℤ q)) (p *ℤ p) ≡ true)
    → (lt_z p (pos 0) ≡ false → (lt_z q (pos 0) ≡ true) × (lt_z (p *ℤ p) (pos 5 *ℤ (q *ℤ q)) ≡ true)) → negative_parts p q ≡ true
parts_true p q f g = by (lt_z p (pos 0)) (lt_z (pos 0) q) (lt_z q (pos 0)) f g
  where
    by : (i j k : Bool) → (i ≡ true → j ≡ true → lt_z (pos 5 *ℤ (q *ℤ q)) (p *ℤ p) ≡ true) → (i ≡ false → (k ≡ true) × (lt_z (p *ℤ p) (pos 5 *ℤ (q *ℤ q)) ≡ true))
        → cond i (cond j (lt_z (pos 5 *ℤ (q *ℤ q)) (p *ℤ p)) true) (cond k (lt_z (p *ℤ p) (pos 5 *ℤ (q *ℤ q))) false) ≡ true
    by true true k f g = f refl refl
    by true false k f g = refl
    by false j true f g = (g refl).1
    by false j false f g = (g refl).0

parts_false : (p q : ℤ) → (lt_z p (pos 0) ≡ true → (lt_z (pos 0) q ≡ true) × (lt_z (pos 5 *ℤ (q *ℤ q)) (p *ℤ p) ≡ false))
    → (lt_z p (pos 0) ≡ false → lt_z q (pos 0) ≡ true → lt_z (p *ℤ p) (pos 5 *ℤ (q *ℤ q)) ≡ false) → negative_parts p q ≡ false
parts_false p q f g = by (lt_z p (pos 0)) (lt_z (pos 0) q) (lt_z q (pos 0)) f g
  where
    by : (i j k : Bool) → (i ≡ true → (j ≡ true) × (lt_z (pos 5 *ℤ (q *ℤ q)) (p *ℤ p) ≡ false)) → (i ≡ false → k ≡ true → lt_z (p *ℤ p) (pos 5 *ℤ (q *ℤ q)) ≡ false)
        → cond i (cond j (lt_z (pos 5 *ℤ (q *ℤ q)) (p *ℤ p)) true) (cond k (lt_z (p *ℤ p) (pos 5 *ℤ (q *ℤ q))) false) ≡ false
    by true true k f g = (f refl).1
    by true false k f g = sym (f refl).0
    by false j true f g = g refl refl
    by false j false f g = refl

far_apart : (x y : ℕ) → x * y + y * y < x * x → 2 * x ≤ y → ⊥
far_apart x y h k = omega (arith, mul-le-mul_left x k)

-- x - y φ doubled is p + q √5 with p = 2 x - y and q = - y (`less_true`, `more_false`); - x + y φ with p = y - 2 x and q = y (the others)
less_true : (x y : ℕ) (p q : ℤ) → x * x < x * y + y * y → up p + y ≡ down p + 2 * x → up q + y ≡ down q → negative_parts p q ≡ true
less_true x zero p q h e f = absurd (omega arith)
less_true x (suc y) p q h e f = parts_true p q (λ i j. absurd (omega (arith, ints)))
    (λ i. (sym (omega (arith, ints)), sym (omega (arith, ints, square_is p (2 * x) (suc y) e, square_is q 0 (suc y) (omega arith)))))

less_false : (x y : ℕ) (p q : ℤ) → x * x < x * y + y * y → up p + 2 * x ≡ down p + y → up q ≡ down q + y → negative_parts p q ≡ false
less_false x zero p q h e f = absurd (omega arith)
less_false x (suc y) p q h e f = parts_false p q
    (λ i. (sym (omega (arith, ints)), sym (omega (arith, ints, square_is p (suc y) (2 * x) e, square_is q (suc y) 0 (omega arith)))))
    (λ i j. absurd (omega (arith, ints)))

more_false : (x y : ℕ) (p q : ℤ) → x * y + y * y < x * x → up p + y ≡ down p + 2 * x → up q + y ≡ down q → negative_parts p q ≡ false
more_false x y p q h e f = parts_false p q
    (λ i. absurd (far_apart x y h (omega (arith, ints))))
    (λ i j. sym (omega (arith, ints, square_is p (2 * x) y e, square_is q 0 y (omega arith))))

more_true : (x y : ℕ) (p q : ℤ) → x * y + y * y < x * x → up p + 2 * x ≡ down p + y → up q ≡ down q + y → negative_parts p q ≡ true
more_true x y p q h e f = parts_true p q
    (λ i j. sym (omega (arith, ints, square_is p y (2 * x) e, square_is q y 0 (omega arith))))
    (λ i. absurd (far_apart x y h (omega (arith, ints))))

-- ---- each number is 0, positive or the opposite of a positive number, and `negative` says which
pub data Sided (x : Exact) : Type 0 where
  level : x ≡ nought → Sided x
  above : Positive x → negative x ≡ false → Sided x
  below : Positive (negated x) → negative x ≡ true → Sided x

-- p, where the number doubled is p + q √5
abbrev doubled : Exact → ℤ
doubled x = pos 2 *ℤ x.whole +ℤ x.golden

-- a - b φ and - a + b φ
falling : (a b : ℕ) (x : Exact) → x.whole ≡ pos a → x.golden ≡ neg_ℤ (pos b) → Sign a b → Sided x
falling a b x d e (even p q) = level (same_parts (omega (arith, ints)) (omega (arith, ints)))
falling a b x d e (less h p) = below (subst Positive (same_parts (omega (arith, ints)) (omega (arith, ints))) p) (less_true a b (doubled x) x.golden h (omega (arith, ints)) (omega (arith, ints)))
falling a b x d e (more h p) = above (subst Positive (same_parts (omega (arith, ints)) (omega (arith, ints))) p) (more_false a b (doubled x) x.golden h (omega (arith, ints)) (omega (arith, ints)))

rising : (a b : ℕ) (x : Exact) → x.whole ≡ neg_ℤ (pos a) → x.golden ≡ pos b → Sign a b → Sided x
rising a b x d e (even p q) = level (same_parts (omega (arith, ints)) (omega (arith, ints)))
rising a b x d e (less h p) = above (subst Positive (same_parts (omega (arith, ints)) (omega (arith, ints))) p) (less_false a b (doubled x) x.golden h (omega (arith, ints)) (omega (arith, ints)))
rising a b x d e (more h p) = below (subst Positive (same_parts (omega (arith, ints)) (omega (arith, ints))) p) (more_true a b (doubled x) x.golden h (omega (arith, ints)) (omega (arith, ints)))

-- a + b φ and - a - b φ
both_up : (a b : ℕ) (x : Exact) → x.whole ≡ pos a → x.golden ≡ pos b → Sided x
both_up zero zero x d e = level (same_parts d e)
both_up zero (suc b) x d e =
    above (natural_positive x 0 (suc b) d e (omega arith))
    (parts_false (doubled x) x.golden (λ i. absurd (omega (arith, ints))) (λ i j. absurd (omega (arith, ints))))
both_up (suc a) b x d e =
    above (natural_positive x (suc a) b d e (omega arith))
    (parts_false (doubled x) x.golden (λ i. absurd (omega (arith, ints))) (λ i j. absurd (omega (arith, ints))))

both_down : (a b : ℕ) (x : Exact) → x.whole ≡ negsuc a → x.golden ≡ negsuc b → Sided x
both_down a b x d e =
    below (natural_positive (negated x) (suc a) (suc b) (ap neg_ℤ d) (ap neg_ℤ e) (omega arith))
    (parts_true (doubled x) x.golden (λ i j. absurd (omega (arith, ints))) (λ i. absurd (omega (arith, ints))))

pub sided : (x : Exact) → Sided x
sided x = by x.whole x.golden refl refl
  where
    by : (a b : ℤ) → x.whole ≡ a → x.golden ≡ b → Sided x
    by (pos a) (pos b) d e = both_up a b x d e
    by (pos a) (negsuc b) d e = falling a (suc b) x d e (sign (a + suc b) a (suc b) (omega arith))
    by (negsuc a) (pos b) d e = rising (suc a) b x d e (sign (suc a + b) (suc a) b (omega arith))
    by (negsuc a) (negsuc b) d e = both_down a b x d e

-- ---- the rule `negative`, for use elsewhere
pub positive_rule : (x : Exact) → Positive x → negative x ≡ false
positive_rule x p = by (sided x)
  where
    by : Sided x → negative x ≡ false
    by (level e) = ap negative e
    by (above q r) = r
    by (below q r) = absurd (positive_apart x p q)

pub negative_rule : (x : Exact) → Positive (negated x) → negative x ≡ true
negative_rule x p = by (sided x)
  where
    by : Sided x → negative x ≡ true
    by (level e) = absurd (nought_apart p (omega (arith, ints, ap (λ (z : Exact). z.whole) e)) (omega (arith, ints, ap (λ (z : Exact). z.golden) e)))
    by (above q r) = absurd (positive_apart x q p)
    by (below q r) = r

-- ---- the tests decide the three cases
lt_of_test : {a b : ℤ} → lt_z a b ≡ true → a <ℤ b
lt_of_test e = lt_z_yes (subst T (sym e) tt)

parts_below : (p q : ℤ) → negative_parts p q ≡ true → BelowZero p q
parts_below p q = by (lt_z p (pos 0)) (lt_z (pos 0) q) (lt_z q (pos 0)) refl refl refl
  where
    by : (i j k : Bool) → lt_z p (pos 0) ≡ i → lt_z (pos 0) q ≡ j → lt_z q (pos 0) ≡ k
        → cond i (cond j (lt_z (pos 5 *ℤ (q *ℤ q)) (p *ℤ p)) true) (cond k (lt_z (p *ℤ p) (pos 5 *ℤ (q *ℤ q))) false) ≡ true → BelowZero p q
    by true true k d e f r = first_outweighs (lt_of_test d) (lt_of_test e) (lt_of_test r)
    by true false k d e f r = neither_above (omega (arith, ints)) (omega (arith, ints)) (λ z. omega (arith, ints, z.0))
    by false j true d e f r = at (cases_Bool (lt_z (pos 0) p))
      where
        at : (lt_z (pos 0) p ≡ true) ⊎ (lt_z (pos 0) p ≡ false) → BelowZero p q
        at (inl h) = second_outweighs (lt_of_test f) (lt_of_test h) (lt_of_test r)
        at (inr h) = neither_above (omega (arith, ints)) (omega (arith, ints)) (λ z. omega (arith, ints, z.1))
    by false j false d e f r = absurd (false≢true r)

-- 0 < q² where q < 0
square_above : (q : ℤ) → lt_z q (pos 0) ≡ true → lt_z (pos 0) (q *ℤ q) ≡ true
square_above (pos n) h = absurd (omega (arith, ints))
square_above (negsuc n) h = sym (omega (arith, ints))

below_parts : (p q : ℤ) → BelowZero p q → negative_parts p q ≡ true
below_parts p q (first_outweighs a b c) = parts_true p q (λ i j. sym (omega (arith, ints, c))) (λ i. absurd (omega (arith, ints)))
below_parts p q (second_outweighs a b c) = parts_true p q (λ i j. absurd (omega (arith, ints))) (λ i. (sym (omega (arith, ints)), sym (omega (arith, ints, c))))
below_parts p q (neither_above a b n) = parts_true p q (λ i j. absurd (omega (arith, ints))) (λ i. (low i, squares i))
  where
    low : lt_z p (pos 0) ≡ false → lt_z q (pos 0) ≡ true
    low i = by (cases_Bool (lt_z q (pos 0)))
      where
        by : (lt_z q (pos 0) ≡ true) ⊎ (lt_z q (pos 0) ≡ false) → lt_z q (pos 0) ≡ true
        by (inl h) = h
        by (inr h) = absurd (n (omega (arith, ints), omega (arith, ints)))

    squares : lt_z p (pos 0) ≡ false → lt_z (p *ℤ p) (pos 5 *ℤ (q *ℤ q)) ≡ true
    squares i =
        let z : p ≡ pos 0 = omega (arith, ints) in
        subst (λ y. lt_z (y *ℤ y) (pos 5 *ℤ (q *ℤ q)) ≡ true) (sym z) (five (q *ℤ q) (square_above q (low i)))
      where
        five : (r : ℤ) → lt_z (pos 0) r ≡ true → lt_z (pos 0) (pos 5 *ℤ r) ≡ true
        five r h = sym (omega (arith, ints))

pub signs_agree_lem : SignsAgree
signs_agree_lem x = (parts_below (doubled x) x.golden, below_parts (doubled x) x.golden)

-- above zero is positive
pub above_positive : (x : Exact) → AboveZero x → Positive x
above_positive x o = by (sided x)
  where
    by : Sided x → Positive x
    by (level e) = absurd (o.not_zero e)
    by (above p r) = p
    by (below p r) = absurd (o.not_negative ((signs_agree_lem x).0 r))
