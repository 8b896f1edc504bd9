use Rattle.std.proofs.Common.{◌≡◌, ℤ, ◌+ℤ◌, ◌*ℤ◌, sym, ap, ◌∙◌, subst, arith}
use Rattle.std.proofs.lemmas.Int.{ints}
use Rattle.numbers.specs.Kinds.{Small}
use Rattle.coxeter.proofs.Exacts.{same_parts}
use Rattle.numbers.proofs.Products.{held, held_product}
use Rattle.numbers.proofs.coefficient.Coefficient.times.Goals as goal

-- the products and their sums in the machine's numbers
module _ (c : goal.After-from-d) where
  first : held c.from-c.result ≡ c.args.self.whole
  first = omega (arith, ints)

  second : held c.from-d.result ≡ c.args.self.golden
  second = omega (arith, ints)

  wa : Small 128000000000000 (held c.from-c.result *ℤ held c.args.a)
  wa = held_product c.from-c.result c.args.a (record { low = omega (arith, ints); high = omega (arith, ints) }) c.requires.whole

  gb : Small 128000000000000 (held c.from-d.result *ℤ held c.args.b)
  gb = held_product c.from-d.result c.args.b (record { low = omega (arith, ints); high = omega (arith, ints) }) c.requires.golden

  wb : Small 128000000000000 (held c.from-c.result *ℤ held c.args.b)
  wb = held_product c.from-c.result c.args.b (record { low = omega (arith, ints); high = omega (arith, ints) }) c.requires.golden

  ga : Small 128000000000000 (held c.from-d.result *ℤ held c.args.a)
  ga = held_product c.from-d.result c.args.a (record { low = omega (arith, ints); high = omega (arith, ints) }) c.requires.whole

  two : held (held (held c.from-c.result *ℤ held c.args.a) +ℤ held (held c.from-d.result *ℤ held c.args.b)) ≡ held c.from-c.result *ℤ held c.args.a +ℤ held c.from-d.result *ℤ held c.args.b
  two = omega (arith, ints, wa.low, wa.high, gb.low, gb.high)

  start : held (held (held c.from-c.result *ℤ held c.args.b) +ℤ held (held c.from-d.result *ℤ held c.args.a)) ≡ held c.from-c.result *ℤ held c.args.b +ℤ held c.from-d.result *ℤ held c.args.a
  start = omega (arith, ints, wb.low, wb.high, ga.low, ga.high)

  three : held (held (held (held c.from-c.result *ℤ held c.args.b) +ℤ held (held c.from-d.result *ℤ held c.args.a)) +ℤ held (held c.from-d.result *ℤ held c.args.b))
      ≡ held c.from-c.result *ℤ held c.args.b +ℤ held c.from-d.result *ℤ held c.args.a +ℤ held c.from-d.result *ℤ held c.args.b
  three = ap (λ (z : ℤ). held (z +ℤ held (held c.from-d.result *ℤ held c.args.b))) start ∙ omega (arith, ints, wb.low, wb.high, ga.low, ga.high, gb.low, gb.high)

pub overflow_mul-result-3 : goal.overflow_mul-result-3
overflow_mul-result-3 c = let p = wb c in omega (arith, ints)

pub overflow_mul-result-4 : goal.overflow_mul-result-4
overflow_mul-result-4 c = let p = ga c in omega (arith, ints)

pub overflow_mul-result-5 : goal.overflow_mul-result-5
overflow_mul-result-5 c = let p = gb c in omega (arith, ints)

pub overflow_add-result : goal.overflow_add-result
overflow_add-result c = let p = wa c in let q = gb c in omega (arith, ints)

pub overflow_add-result-2 : goal.overflow_add-result-2
overflow_add-result-2 c = let p = wb c in let q = ga c in omega (arith, ints)

pub overflow_add-result-3 : goal.overflow_add-result-3
overflow_add-result-3 c = let p = wb c in let q = ga c in let r = gb c in omega (arith, ints)

pub returns-clause-whole : goal.returns-clause-whole
returns-clause-whole c = let p = wa c in let q = gb c in record { low = omega (arith, ints); high = omega (arith, ints) }

pub returns-clause-golden : goal.returns-clause-golden
returns-clause-golden c = let p = wb c in let q = ga c in let r = gb c in subst (Small 512000000000000) (sym (three c)) (record { low = omega (arith, ints); high = omega (arith, ints) })

pub returns-clause-value : goal.returns-clause-value
returns-clause-value c = same_parts
    ((λ i. sym (first c) i *ℤ a i +ℤ sym (second c) i *ℤ b i) ∙ sym (two c))
    ((λ i. sym (first c) i *ℤ b i +ℤ sym (second c) i *ℤ a i +ℤ sym (second c) i *ℤ b i) ∙ sym (three c))
  where
    a : c.args.a ≡ held c.args.a
    a = omega (arith, ints)

    b : c.args.b ≡ held c.args.b
    b = omega (arith, ints)
