-- Two letters in turn, by the two numbers that they step on: c and d are the coefficients of the first letter by the second, and of the second by the first.
use Rattle.std.proofs.Common.{◌≡◌, ℕ, zero, suc, ◌+◌, ◌<◌, ◌≤◌, Bool, true, false, not, ◌&&◌, leb, ℤ, pos, negsuc, nat_abs, sym, refl, subst, arith}
use borrow.Author.Differences.{ints}
use Rattle.coxeter.specs.Numbers.{Exact, integer, plus, negated, minus, times}
use Rattle.coxeter.specs.Points.{coefficient_of}
use Rattle.coxeter.proofs.Exacts.{nought, unit, same_parts}
use Rattle.coxeter.proofs.Positives.{Positive, positive_plus, positive_combination}
use Rattle.coxeter.proofs.Linear.{Combination, linear, same_linear, combination_first, combination_nought, combination_plus, combination_swapped, combination_step}
use Rattle.coxeter.proofs.Tests.{every, every_one}
use Rattle.std.proofs.lemmas.Bool.{leb-true, false≢true}

-- from the numbers p and q, after k steps, the number of the letter whose turn it is
abbrev pub next : ℕ → Exact → Exact → Exact → Exact → Exact
next zero c d p q = p
next (suc k) c d p q = next k d c (minus q (times d p)) (negated p)

-- over k steps, the sum of the numbers stepped on by the first letter, and by the second
abbrev pub totals : ℕ → Exact → Exact → Exact → Exact → Exact × Exact
totals zero c d p q = (nought, nought)
totals (suc k) c d p q = (plus p (totals k d c (minus q (times d p)) (negated p)).1, (totals k d c (minus q (times d p)) (negated p)).0)

-- ---- both are linear in p and q
pub combination_next : (k : ℕ) (c d : Exact) → Combination (next k c d)
combination_next zero c d = combination_first
combination_next (suc k) c d = combination_step d (next k d c) (combination_next k d c)

pub combination_totals : (k : ℕ) (c d : Exact) → Combination (λ p q. (totals k c d p q).0) × Combination (λ p q. (totals k c d p q).1)
combination_totals zero c d = (combination_nought, combination_nought)
combination_totals (suc k) c d = (
  combination_plus (λ p q. p) (λ p q. (totals k d c (minus q (times d p)) (negated p)).1) combination_first (combination_step d (λ p q. (totals k d c p q).1) (combination_totals k d c).1),
  combination_step d (λ p q. (totals k d c p q).0) (combination_totals k d c).0,
)

-- ---- by the finite exponents, and the order of the two letters
by_exponent : (P : ℕ → Bool → Type 0) → ((up : Bool) → P 2 up) → ((up : Bool) → P 3 up) → P 4 true → P 4 false → ((up : Bool) → P 5 up) → P 6 true → P 6 false
    → (m : ℕ) (up : Bool) → 2 ≤ m → m ≤ 6 → P m up
by_exponent P a b c d e f g zero up h k = absurd (omega arith)
by_exponent P a b c d e f g (suc zero) up h k = absurd (omega arith)
by_exponent P a b c d e f g (suc (suc zero)) up h k = a up
by_exponent P a b c d e f g (suc (suc (suc zero))) up h k = b up
by_exponent P a b c d e f g (suc (suc (suc (suc zero)))) true h k = c
by_exponent P a b c d e f g (suc (suc (suc (suc zero)))) false h k = d
by_exponent P a b c d e f g (suc (suc (suc (suc (suc zero))))) up h k = e up
by_exponent P a b c d e f g (suc (suc (suc (suc (suc (suc zero)))))) true h k = f
by_exponent P a b c d e f g (suc (suc (suc (suc (suc (suc zero)))))) false h k = g
by_exponent P a b c d e f g (suc (suc (suc (suc (suc (suc (suc m))))))) up h k = absurd (omega arith)

-- ---- the two sides of a braid sum to the same: by computing the coefficients
pub record Braided (m : ℕ) (c d : Exact) : Type 0 where
  pub first_same : (p q : Exact) → (totals m c d p q).0 ≡ (totals m d c q p).1
  pub second_same : (p q : Exact) → (totals m c d p q).1 ≡ (totals m d c q p).0

braided_by : (m : ℕ) (c d : Exact)
    → (totals m c d unit nought).0 ≡ (totals m d c nought unit).1 → (totals m c d nought unit).0 ≡ (totals m d c unit nought).1
    → (totals m c d unit nought).1 ≡ (totals m d c nought unit).0 → (totals m c d nought unit).1 ≡ (totals m d c unit nought).0 → Braided m c d
braided_by m c d e f g h = record {
  first_same = same_linear (λ p q. (totals m c d p q).0) (λ p q. (totals m d c q p).1) (combination_totals m c d).0 (combination_swapped (λ p q. (totals m d c p q).1) (combination_totals m d c).1) e f;
  second_same = same_linear (λ p q. (totals m c d p q).1) (λ p q. (totals m d c q p).0) (combination_totals m c d).1 (combination_swapped (λ p q. (totals m d c p q).0) (combination_totals m d c).0) g h;
}

pub braided : (m : ℕ) (up : Bool) → 2 ≤ m → m ≤ 6 → Braided m (coefficient_of m up) (coefficient_of m (not up))
braided = by_exponent (λ m up. Braided m (coefficient_of m up) (coefficient_of m (not up)))
    (λ up. braided_by _ _ _ refl refl refl refl)
    (λ up. braided_by _ _ _ refl refl refl refl)
    (braided_by _ _ _ refl refl refl refl)
    (braided_by _ _ _ refl refl refl refl)
    (λ up. braided_by _ _ _ refl refl refl refl)
    (braided_by _ _ _ refl refl refl refl)
    (braided_by _ _ _ refl refl refl refl)

-- ---- from positive numbers the letter whose turn it is stays positive, for fewer steps than the exponent
-- is the integer a natural number?
abbrev natural_part : ℤ → Bool
natural_part (pos n) = true
natural_part (negsuc n) = false

-- are the coefficients natural, and not all 0?
abbrev fits : Exact → Exact → Bool
fits x y = natural_part x.whole && (natural_part x.golden && (natural_part y.whole && (natural_part y.golden && leb 1 (nat_abs x.whole + nat_abs x.golden + (nat_abs y.whole + nat_abs y.golden)))))

fits_positive : (x y : Exact) {p q : Exact} → fits x y ≡ true → Positive p → Positive q → Positive (plus (times x p) (times y q))
fits_positive x y {p} {q} = by x.whole x.golden y.whole y.golden
  where
    by : (a b c d : ℤ) → fits (record { whole = a; golden = b }) (record { whole = c; golden = d }) ≡ true → Positive p → Positive q
        → Positive (plus (times (record { whole = a; golden = b }) p) (times (record { whole = c; golden = d }) q))
    by (pos a) (pos b) (pos c) (pos d) t h k = positive_combination a b c d (leb-true 1 (a + b + (c + d)) t) h k
    by (pos a) (pos b) (pos c) (negsuc d) t h k = absurd (false≢true t)
    by (pos a) (pos b) (negsuc c) d t h k = absurd (false≢true t)
    by (pos a) (negsuc b) c d t h k = absurd (false≢true t)
    by (negsuc a) b c d t h k = absurd (false≢true t)

-- are those of the number after k steps?
abbrev next_fits : Exact → Exact → ℕ → Bool
next_fits c d k = fits (next k c d unit nought) (next k c d nought unit)

table : (m : ℕ) (up : Bool) → 2 ≤ m → m ≤ 6 → every (next_fits (coefficient_of m up) (coefficient_of m (not up))) m ≡ true
table = by_exponent (λ m up. every (next_fits (coefficient_of m up) (coefficient_of m (not up))) m ≡ true)
    (λ up. refl) (λ up. refl) refl refl (λ up. refl) refl refl

pub next_positive : (m : ℕ) (up : Bool) → 2 ≤ m → m ≤ 6 → (k : ℕ) → k < m → {p q : Exact} → Positive p → Positive q → Positive (next k (coefficient_of m up) (coefficient_of m (not up)) p q)
next_positive m up h i k j {p} {q} a b =
    subst Positive (sym (linear (next k c d) (combination_next k c d) p q)) (fits_positive (next k c d unit nought) (next k c d nought unit) (every_one (next_fits c d) m k (table m up h i) j) a b)
  where
    c : Exact
    c = coefficient_of m up

    d : Exact
    d = coefficient_of m (not up)

-- where the exponent is inf, for any number of steps
pub endless_positive : (k : ℕ) (p q : Exact) → Positive p → Positive (plus p q) → Positive (next k (integer (negsuc 1)) (integer (negsuc 1)) p q)
endless_positive zero p q h i = h
endless_positive (suc k) p q h i = endless_positive k (minus q (times (integer (negsuc 1)) p)) (negated p)
    (subst Positive (same_parts (omega (arith, ints)) (omega (arith, ints))) (positive_plus h i))
    (subst Positive (same_parts (omega (arith, ints)) (omega (arith, ints))) i)
