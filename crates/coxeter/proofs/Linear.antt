-- Linear functions of two exact numbers: they are told by their values at (1, 0) and (0, 1).
use Rattle.std.proofs.Common.{◌≡◌, sym, ap, ◌∙◌, ap₂, arith}
use Rattle.coxeter.specs.Numbers.{Exact, plus, negated, minus, times}
use Rattle.coxeter.proofs.Integers.{sums}
use Rattle.coxeter.proofs.Exacts.{nought, unit, same_parts, plus_comm, plus_nought, nought_plus, plus_times, times_minus, minus_times, times_negated, negated_times, times_times, unit_times, nought_times, times_unit, times_nought}

-- f p q = α p + β q for some α and β
pub record Combination (f : Exact → Exact → Exact) : Type 0 where
  pub by_first : Exact
  pub by_second : Exact
  pub is_sum : (p q : Exact) → f p q ≡ plus (times by_first p) (times by_second q)

-- so the values at 1 and 0, and at 0 and 1, are the coefficients
pub linear : (f : Exact → Exact → Exact) → Combination f → (p q : Exact) → f p q ≡ plus (times (f unit nought) p) (times (f nought unit) q)
linear f h p q = h.is_sum p q ∙ ap₂ (λ a b. plus (times a p) (times b q)) (sym first) (sym second)
  where
    first : f unit nought ≡ h.by_first
    first = h.is_sum unit nought ∙ ap₂ plus (times_unit h.by_first) (times_nought h.by_second) ∙ plus_nought h.by_first

    second : f nought unit ≡ h.by_second
    second = h.is_sum nought unit ∙ ap₂ plus (times_nought h.by_first) (times_unit h.by_second) ∙ nought_plus h.by_second

pub same_linear : (f g : Exact → Exact → Exact) → Combination f → Combination g → f unit nought ≡ g unit nought → f nought unit ≡ g nought unit → (p q : Exact) → f p q ≡ g p q
same_linear f g h k a b p q = linear f h p q ∙ ap₂ (λ x y. plus (times x p) (times y q)) a b ∙ sym (linear g k p q)

pub combination_first : Combination (λ p q. p)
combination_first = record { by_first = unit; by_second = nought; is_sum = λ p q. sym (ap₂ plus (unit_times p) (nought_times q) ∙ plus_nought p) }

pub combination_nought : Combination (λ p q. nought)
combination_nought = record { by_first = nought; by_second = nought; is_sum = λ p q. sym (ap₂ plus (nought_times p) (nought_times q) ∙ plus_nought nought) }

four : (x y z w : Exact) → plus (plus x y) (plus z w) ≡ plus (plus x z) (plus y w)
four x y z w = same_parts (omega (arith, sums)) (omega (arith, sums))

pub combination_plus : (f g : Exact → Exact → Exact) → Combination f → Combination g → Combination (λ p q. plus (f p q) (g p q))
combination_plus f g h k = record {
  by_first = plus h.by_first k.by_first;
  by_second = plus h.by_second k.by_second;
  is_sum = λ p q. ap₂ plus (h.is_sum p q) (k.is_sum p q)
      ∙ four (times h.by_first p) (times h.by_second q) (times k.by_first p) (times k.by_second q)
      ∙ sym (ap₂ plus (plus_times h.by_first k.by_first p) (plus_times h.by_second k.by_second q));
}

pub combination_swapped : (f : Exact → Exact → Exact) → Combination f → Combination (λ p q. f q p)
combination_swapped f h = record { by_first = h.by_second; by_second = h.by_first; is_sum = λ p q. h.is_sum q p ∙ plus_comm (times h.by_first q) (times h.by_second p) }

-- α (q - d p) + β (- p) = (- α d - β) p + α q
step_apart : (x y z : Exact) → plus (minus x y) (negated z) ≡ plus (minus (negated y) z) x
step_apart x y z = same_parts (omega (arith, sums)) (omega (arith, sums))

pub combination_step : (d : Exact) (f : Exact → Exact → Exact) → Combination f → Combination (λ p q. f (minus q (times d p)) (negated p))
combination_step d f h = record {
  by_first = minus (negated (times a d)) b;
  by_second = a;
  is_sum = λ p q. h.is_sum (minus q (times d p)) (negated p)
      ∙ ap₂ plus (times_minus a q (times d p)) (times_negated b p)
      ∙ step_apart (times a q) (times a (times d p)) (times b p)
      ∙ ap (λ x. plus x (times a q)) (sym (minus_times (negated (times a d)) b p ∙ ap (λ x. minus x (times b p)) (negated_times (times a d) p ∙ ap negated (times_times a d p))));
}
  where
    a : Exact
    a = h.by_first

    b : Exact
    b = h.by_second
