-- What fits: how the answer for a difference is read off.
use Rattle.std.proofs.Common.{◌≡◌, zero, suc, Bool, false, ℤ, pos, negsuc, ◌-ℤ◌, neg_ℤ, None, Option, sym, refl, ap, ◌∙◌, subst, arith}
use lib.Signed.{le_z}
use Rattle.std.proofs.lemmas.Int.{ints}
use Rattle.std.proofs.lemmas.Bool.{and_left, and_right}
use Rattle.coxeter.specs.Numbers.{Exact, minus, times}
use Rattle.coxeter.proofs.Exacts.{same_parts}
use Rattle.numbers.specs.Kinds.{Held, Fitted, fits_whole, within}

-- z is x less the product n of w and y in both parts, where k is y
pub fitted_product : {N : Type 0} {value : N → Exact} {fits : Exact → Bool} {r : Option N} (z x w : Exact) {k y : Exact} (n : ℤ × ℤ)
    → times w k ≡ record { whole = n.0; golden = n.1 } → k ≡ y → z.whole ≡ x.whole -ℤ n.0 → z.golden ≡ x.golden -ℤ n.1 → Fitted value fits z r → Fitted value fits (minus x (times w y)) r
fitted_product {N} {value} {fits} {r} z x w {k} {y} n e f p q h =
    subst (λ u. Fitted value fits u r) (same_parts {x = z} {y = minus x (record { whole = n.0; golden = n.1 })} p q ∙ ap (minus x) (sym e ∙ ap (times w) f)) h

-- none is held where z does not fit
pub none_fits : {N : Type 0} {value : N → Exact} {fits : Exact → Bool} {r : Option N} (z : Exact) → r ≡ None → fits z ≡ false → Fitted value fits z r
none_fits {N} {value} {fits} {r} z e h = record { told = subst (Held value fits z) (sym e) h }

-- what has a golden part is no whole number
pub golden_misfit : (a z : ℤ) → (z ≡ pos 0 → ⊥) → fits_whole (record { whole = a; golden = pos 0 -ℤ z }) ≡ false
golden_misfit a (pos zero) n = absurd (n refl)
golden_misfit a (pos (suc k)) n =
    let b : le_z (neg_ℤ (pos 0)) (pos 0 -ℤ pos (suc k)) ≡ false = sym (omega (arith, ints)) in
    and_right (within 1000000000000 a) (within 0 (pos 0 -ℤ pos (suc k))) (and_left _ _ b)
golden_misfit a (negsuc k) n =
    let b : le_z (pos 0 -ℤ negsuc k) (pos 0) ≡ false = sym (omega (arith, ints)) in
    and_right (within 1000000000000 a) (within 0 (pos 0 -ℤ negsuc k)) (and_right _ _ b)
