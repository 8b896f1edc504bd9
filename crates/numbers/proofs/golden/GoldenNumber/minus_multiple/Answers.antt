use Rattle.std.proofs.Common.{◌≡◌, ◌-ℤ◌, refl, ◌∙◌, arith}
use Rattle.std.proofs.lemmas.Bool.{and_left, and_right}
use Rattle.std.proofs.lemmas.Int.{ints}
use Rattle.numbers.proofs.Products.{held}
use Rattle.numbers.proofs.Fitting.{fitted_product, none_fits}
use Rattle.numbers.proofs.golden.GoldenNumber.minus_multiple.Goals as goal

pub returns-in_err-new : goal.returns-in_err-new
returns-in_err-new c =
    let r = c.times-whole.result in
    let x = c.args.self in
    let y = c.args.by in
    let e : held y.a.value ≡ y.a.value = omega (arith, ints) in
    let f : held y.b.value ≡ y.b.value = omega (arith, ints) in
    let p : held (held x.a.value -ℤ held r.0) ≡ x.a.value -ℤ r.0 = omega (arith, ints) in
    fitted_product (record { whole = _; golden = x.b.value -ℤ r.1 }) (record { whole = x.a.value; golden = x.b.value }) _ r c.times-whole.ensures.value (λ i. record { whole = e i; golden = f i }) p refl
    (none_fits _ c.from_residual.ensures (and_left _ _ c.in_err-new.ensures.none))

pub returns-in_err-new-2 : goal.returns-in_err-new-2
returns-in_err-new-2 c =
    let r = c.times-whole.result in
    let x = c.args.self in
    let y = c.args.by in
    let e : held y.a.value ≡ y.a.value = omega (arith, ints) in
    let f : held y.b.value ≡ y.b.value = omega (arith, ints) in
    let q : held (held x.b.value -ℤ held r.1) ≡ x.b.value -ℤ r.1 = omega (arith, ints) in
    fitted_product (record { whole = x.a.value -ℤ r.0; golden = _ }) (record { whole = x.a.value; golden = x.b.value }) _ r c.times-whole.ensures.value (λ i. record { whole = e i; golden = f i }) refl q
    (none_fits _ c.from_residual-in_err-new-2.ensures (and_right _ _ c.in_err-new-2.ensures.none))

pub returns : goal.returns
returns c =
    let r = c.times-whole.result in
    let x = c.args.self in
    let y = c.args.by in
    let e : held y.a.value ≡ y.a.value = omega (arith, ints) in
    let f : held y.b.value ≡ y.b.value = omega (arith, ints) in
    let p : held (held x.a.value -ℤ held r.0) ≡ x.a.value -ℤ r.0 = omega (arith, ints) in
    let q : held (held x.b.value -ℤ held r.1) ≡ x.b.value -ℤ r.1 = omega (arith, ints) in
    fitted_product (record { whole = c.in_ok-new.field-0.value; golden = c.in_ok-new-2.field-0.value }) (record { whole = x.a.value; golden = x.b.value }) _ r c.times-whole.ensures.value
    (λ i. record { whole = e i; golden = f i }) (c.in_ok-new.ensures.some ∙ p) (c.in_ok-new-2.ensures.some ∙ q) (record { told = refl })
