use Rattle.std.proofs.Common.{◌≡◌, pos, ◌-ℤ◌, refl, ap, ◌∙◌, arith, w64, of_z}
use Rattle.std.proofs.lemmas.Bool.{and_left}
use Rattle.std.proofs.lemmas.Int.{ints}
use Rattle.coxeter.specs.Numbers.{integer}
use Rattle.numbers.proofs.Products.{held}
use Rattle.numbers.proofs.Fitting.{fitted_product, none_fits, golden_misfit}
use Rattle.numbers.proofs.whole.WholeNumber.minus_multiple.Goals as goal

pub returns-then-golden-ne0 : goal.returns-then-golden-ne0
returns-then-golden-ne0 c =
    let e : held c.args.by.a.value ≡ c.args.by.a.value = omega (arith, ints) in
    fitted_product _ (integer c.args.self.a.value) _ c.times-whole.result c.times-whole.ensures.value (λ i. integer (e i)) refl refl
    (record { told = golden_misfit (c.args.self.a.value -ℤ c.times-whole.result.0) c.times-whole.result.1 (λ z. c.if-golden-ne0.true (ap (of_z w64) z)) })

pub returns-in_err-new : goal.returns-in_err-new
returns-in_err-new c =
    let r = c.times-whole.result in
    let e : held c.args.by.a.value ≡ c.args.by.a.value = omega (arith, ints) in
    let p : held (held c.args.self.a.value -ℤ held r.0) ≡ c.args.self.a.value -ℤ r.0 = omega (arith, ints) in
    let q : pos 0 ≡ pos 0 -ℤ r.1 = omega (arith, ints) in
    fitted_product (integer _) (integer c.args.self.a.value) _ r c.times-whole.ensures.value (λ i. integer (e i)) p q
    (none_fits _ c.from_residual.ensures (and_left _ _ c.in_err-new.ensures.none))

pub returns : goal.returns
returns c =
    let r = c.times-whole.result in
    let e : held c.args.by.a.value ≡ c.args.by.a.value = omega (arith, ints) in
    let p : held (held c.args.self.a.value -ℤ held r.0) ≡ c.args.self.a.value -ℤ r.0 = omega (arith, ints) in
    let q : pos 0 ≡ pos 0 -ℤ r.1 = omega (arith, ints) in
    fitted_product (integer c.in_ok-new.field-0.value) (integer c.args.self.a.value) _ r c.times-whole.ensures.value (λ i. integer (e i)) (c.in_ok-new.ensures.some ∙ p) q (record { told = refl })
