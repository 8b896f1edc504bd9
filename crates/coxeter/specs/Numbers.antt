-- Exact numbers a + b φ with whole a and b, where φ is the positive number with φ * φ = φ + 1.
use Rattle.std.specs.Prelude.{◌≡◌, Bool, true, false, cond, ℤ, pos, negsuc, ◌+ℤ◌, ◌-ℤ◌, ◌*ℤ◌, neg_ℤ, ◌≤ℤ◌, ◌<ℤ◌, int_lt, refl}

-- a + b φ: a is the whole part, b the golden part
pub record Exact : Type 0 where
  pub whole : ℤ
  pub golden : ℤ

-- a as an exact number
abbrev pub integer : ℤ → Exact
integer a = record { whole = a; golden = pos 0 }

-- x + y
abbrev pub plus : Exact → Exact → Exact
plus x y = record { whole = x.whole +ℤ y.whole; golden = x.golden +ℤ y.golden }

-- - x
abbrev pub negated : Exact → Exact
negated x = record { whole = neg_ℤ x.whole; golden = neg_ℤ x.golden }

-- x - y
abbrev pub minus : Exact → Exact → Exact
minus x y = record { whole = x.whole -ℤ y.whole; golden = x.golden -ℤ y.golden }

-- x y, by (a + b φ) (c + d φ) = (a c + b d) + (a d + b c + b d) φ
abbrev pub times : Exact → Exact → Exact
times x y = record {
  whole = x.whole *ℤ y.whole +ℤ x.golden *ℤ y.golden;
  golden = x.whole *ℤ y.golden +ℤ x.golden *ℤ y.whole +ℤ x.golden *ℤ y.golden;
}

-- p + q √5 < 0: the three cases
pub data BelowZero (p q : ℤ) : Type 0 where
  neither_above : p ≤ℤ pos 0 → q ≤ℤ pos 0 → ¬ ((p ≡ pos 0) × (q ≡ pos 0)) → BelowZero p q
  first_outweighs : p <ℤ pos 0 → pos 0 <ℤ q → (pos 5 *ℤ (q *ℤ q)) <ℤ (p *ℤ p) → BelowZero p q
  second_outweighs : q <ℤ pos 0 → pos 0 <ℤ p → (p *ℤ p) <ℤ (pos 5 *ℤ (q *ℤ q)) → BelowZero p q

-- a + b φ < 0: twice the number is p + q √5 with p = 2 a + b and q = b
abbrev pub Negative : Exact → Type 0
Negative x = BelowZero (pos 2 *ℤ x.whole +ℤ x.golden) x.golden

-- 0 < a + b φ: it is neither 0 nor negative
pub record AboveZero (x : Exact) : Type 0 where
  pub not_zero : ¬ (x ≡ integer (pos 0))
  pub not_negative : ¬ Negative x

-- is p + q √5 < 0? The three cases as tests
abbrev pub negative_parts : ℤ → ℤ → Bool
negative_parts p q =
    cond (int_lt p (pos 0))
    (cond (int_lt (pos 0) q) (int_lt (pos 5 *ℤ (q *ℤ q)) (p *ℤ p)) true)
    (cond (int_lt q (pos 0)) (int_lt (p *ℤ p) (pos 5 *ℤ (q *ℤ q))) false)

-- is a + b φ < 0?
abbrev pub negative : Exact → Bool
negative x = negative_parts (pos 2 *ℤ x.whole +ℤ x.golden) x.golden

-- 2 - 2 φ < 0
check_below : negative (record { whole = pos 2; golden = negsuc 1 }) ≡ true
check_below = refl

-- 5 - 3 φ > 0
check_above : negative (record { whole = pos 5; golden = negsuc 2 }) ≡ false
check_above = refl

-- -2 + φ < 0 and 0 < -1 + φ
check_first : negative (record { whole = negsuc 1; golden = pos 1 }) ≡ true
check_first = refl

check_not_first : negative (record { whole = negsuc 0; golden = pos 1 }) ≡ false
check_not_first = refl

-- -1 - φ < 0, and 0 is not negative
check_neither : negative (record { whole = negsuc 0; golden = negsuc 0 }) ≡ true
check_neither = refl

check_zero : negative (integer (pos 0)) ≡ false
check_zero = refl

-- φ * φ = φ + 1
check_golden : times (record { whole = pos 0; golden = pos 1 }) (record { whole = pos 0; golden = pos 1 }) ≡ record { whole = pos 1; golden = pos 1 }
check_golden = refl
