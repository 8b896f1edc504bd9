-- The positive exact numbers: those x for which some φ φ .. φ x has natural parts, not both 0. They are closed under sums and natural combinations.
use Rattle.std.proofs.Common.{◌≡◌, ℕ, zero, suc, ◌+◌, ◌≤◌, pos, ◌+ℤ◌, ◌≤ℤ◌, sym, refl, ap, ◌∙◌, subst, arith}
use borrow.Author.Differences.{ints}
use Rattle.coxeter.specs.Numbers.{Exact, plus, negated, times}
use Rattle.coxeter.proofs.Integers.{sums}
use Rattle.coxeter.proofs.Exacts.{nought, same_parts, nought_times, nought_plus, plus_nought}

-- φ x
abbrev pub turned : Exact → Exact
turned x = record { whole = x.golden; golden = x.whole +ℤ x.golden }

-- both parts at least 0, and not both 0
pub record Plain (x : Exact) : Type 0 where
  pub whole_part : pos 0 ≤ℤ x.whole
  pub golden_part : pos 0 ≤ℤ x.golden
  pub either_part : pos 1 ≤ℤ (x.whole +ℤ x.golden)

-- φ φ .. φ x is plain
pub data Positive : Exact → Type 0 where
  plain : {x : Exact} → Plain x → Positive x
  turn : {x : Exact} → Positive (turned x) → Positive x

-- natural parts, not both 0
pub natural_positive : (x : Exact) (a b : ℕ) → x.whole ≡ pos a → x.golden ≡ pos b → 1 ≤ a + b → Positive x
natural_positive x a b d e h = plain (record { whole_part = omega (arith, ints); golden_part = omega (arith, ints); either_part = omega (arith, ints) })

plain_turned : (x : Exact) → Plain x → Plain (turned x)
plain_turned x p = record { whole_part = p.golden_part; golden_part = omega (arith, ints, p.whole_part, p.golden_part); either_part = omega (arith, ints, p.golden_part, p.either_part) }

pub positive_turned : {x : Exact} → Positive x → Positive (turned x)
positive_turned (plain {x = x} p) = plain (plain_turned x p)
positive_turned (turn p) = p

plain_plus : (x y : Exact) → Plain x → Plain y → Plain (plus x y)
plain_plus x y p q = record {
  whole_part = omega (arith, ints, p.whole_part, q.whole_part);
  golden_part = omega (arith, ints, p.golden_part, q.golden_part);
  either_part = omega (arith, ints, p.either_part, q.either_part);
}

turned_plus : (x y : Exact) → turned (plus x y) ≡ plus (turned x) (turned y)
turned_plus x y = same_parts refl (omega (arith, sums))

plain_with : (x : Exact) {y : Exact} → Plain x → Positive y → Positive (plus x y)
plain_with x p (plain {x = y} q) = plain (plain_plus x y p q)
plain_with x p (turn {x = y} q) = turn (subst Positive (sym (turned_plus x y)) (plain_with (turned x) (plain_turned x p) q))

pub positive_plus : {x y : Exact} → Positive x → Positive y → Positive (plus x y)
positive_plus (plain {x = x} p) q = plain_with x p q
positive_plus {y = y} (turn {x = x} p) q = turn (subst Positive (sym (turned_plus x y)) (positive_plus p (positive_turned q)))

-- 0 is not positive
pub nought_apart : {x : Exact} → Positive x → x.whole ≡ pos 0 → x.golden ≡ pos 0 → ⊥
nought_apart (plain p) a b = omega (arith, ints, p.either_part)
nought_apart (turn p) a b = nought_apart p b (omega (arith, ints))

pub positive_apart : (x : Exact) → Positive x → Positive (negated x) → ⊥
positive_apart x p q = nought_apart (positive_plus p q) (omega (arith, sums)) (omega (arith, sums))

-- ---- natural combinations
-- the number a + b φ with natural a and b
abbrev pub natural : ℕ → ℕ → Exact
natural a b = record { whole = pos a; golden = pos b }

positive_times : (a b : ℕ) {x : Exact} → 1 ≤ a + b → Positive x → Positive (times (natural a b) x)
positive_times zero zero h p = absurd (omega arith)
positive_times zero (suc zero) {x} h p = subst Positive (same_parts (omega (arith, ints)) (omega (arith, ints))) (positive_turned p)
positive_times zero (suc (suc b)) {x} h p =
    subst Positive (same_parts (omega (arith, ints)) (omega (arith, ints))) (positive_plus (positive_turned p) (positive_times zero (suc b) (omega arith) p))
positive_times (suc zero) zero {x} h p = subst Positive (same_parts (omega (arith, ints)) (omega (arith, ints))) p
positive_times (suc zero) (suc b) {x} h p =
    subst Positive (same_parts (omega (arith, ints)) (omega (arith, ints))) (positive_plus p (positive_times zero (suc b) (omega arith) p))
positive_times (suc (suc a)) b {x} h p =
    subst Positive (same_parts (omega (arith, ints)) (omega (arith, ints))) (positive_plus p (positive_times (suc a) b (omega arith) p))

positive_more : (c d : ℕ) {x y : Exact} → Positive x → Positive y → Positive (plus x (times (natural c d) y))
positive_more zero zero {x} {y} p q = subst Positive (sym (ap (plus x) (nought_times y) ∙ plus_nought x)) p
positive_more zero (suc d) p q = positive_plus p (positive_times zero (suc d) (omega arith) q)
positive_more (suc c) d p q = positive_plus p (positive_times (suc c) d (omega arith) q)

-- (a + b φ) x + (c + d φ) y, with some of a, b, c and d not 0
pub positive_combination : (a b c d : ℕ) {x y : Exact} → 1 ≤ a + b + (c + d) → Positive x → Positive y → Positive (plus (times (natural a b) x) (times (natural c d) y))
positive_combination zero zero c d {x} {y} h p q =
    subst Positive (sym (ap (λ z. plus z (times (natural c d) y)) (nought_times x) ∙ nought_plus (times (natural c d) y))) (positive_times c d (omega arith) q)
positive_combination zero (suc b) c d h p q = positive_more c d (positive_times zero (suc b) (omega arith) p) q
positive_combination (suc a) b c d h p q = positive_more c d (positive_times (suc a) b (omega arith) p) q

pub positive_nonzero : (x : Exact) → Positive x → ¬ (x ≡ nought)
positive_nonzero x p e = nought_apart p (ap (λ (z : Exact). z.whole) e) (ap (λ (z : Exact). z.golden) e)
