-- Laws of the ring of exact numbers.
use Rattle.std.proofs.Common.{◌≡◌, ℤ, pos, ◌+ℤ◌, ◌*ℤ◌, ap, ◌∙◌, ap₂, arith}
use lib.IntN.{*ℤ_comm}
use borrow.Author.Differences.{ints}
use Rattle.coxeter.proofs.Integers.{sums, times_sum, sum_times, times_assoc, times_neg}
use Rattle.coxeter.specs.Numbers.{Exact, integer, plus, negated, minus, times}

abbrev pub nought : Exact
nought = integer (pos 0)

abbrev pub unit : Exact
unit = integer (pos 1)

-- numbers with the same two parts are the same
pub same_parts : {x y : Exact} → x.whole ≡ y.whole → x.golden ≡ y.golden → x ≡ y
same_parts p q = λ i. record { whole = p i; golden = q i }

-- ---- sums
pub plus_comm : (x y : Exact) → plus x y ≡ plus y x
plus_comm x y = same_parts (omega (arith, sums)) (omega (arith, sums))

pub plus_nought : (x : Exact) → plus x nought ≡ x
plus_nought x = same_parts (omega (arith, sums)) (omega (arith, sums))

pub nought_plus : (x : Exact) → plus nought x ≡ x
nought_plus x = same_parts (omega (arith, sums)) (omega (arith, sums))

pub negated_negated : (x : Exact) → negated (negated x) ≡ x
negated_negated x = same_parts (omega (arith, sums)) (omega (arith, sums))

-- ---- products
times_plus_parts : (a b c d e f : ℤ) → times (record { whole = a; golden = b }) (plus (record { whole = c; golden = d }) (record { whole = e; golden = f }))
    ≡ plus (times (record { whole = a; golden = b }) (record { whole = c; golden = d })) (times (record { whole = a; golden = b }) (record { whole = e; golden = f }))
times_plus_parts a b c d e f = same_parts
    (omega (arith, sums, times_sum a c e, times_sum b d f))
    (omega (arith, sums, times_sum a d f, times_sum b c e, times_sum b d f))

pub times_plus : (x y z : Exact) → times x (plus y z) ≡ plus (times x y) (times x z)
times_plus x y z = times_plus_parts x.whole x.golden y.whole y.golden z.whole z.golden

pub times_comm : (x y : Exact) → times x y ≡ times y x
times_comm x y = same_parts
    (omega (arith, sums, *ℤ_comm x.whole y.whole, *ℤ_comm x.golden y.golden))
    (omega (arith, sums, *ℤ_comm x.whole y.golden, *ℤ_comm x.golden y.whole, *ℤ_comm x.golden y.golden))

pub plus_times : (x y z : Exact) → times (plus x y) z ≡ plus (times x z) (times y z)
plus_times x y z = times_comm (plus x y) z ∙ times_plus z x y ∙ ap₂ plus (times_comm z x) (times_comm z y)

pub times_negated : (x y : Exact) → times x (negated y) ≡ negated (times x y)
times_negated x y = same_parts
    (omega (arith, sums, times_neg x.whole y.whole, times_neg x.golden y.golden))
    (omega (arith, sums, times_neg x.whole y.golden, times_neg x.golden y.whole, times_neg x.golden y.golden))

pub negated_times : (x y : Exact) → times (negated x) y ≡ negated (times x y)
negated_times x y = times_comm (negated x) y ∙ times_negated y x ∙ ap negated (times_comm y x)

pub times_minus : (x y z : Exact) → times x (minus y z) ≡ minus (times x y) (times x z)
times_minus x y z = times_plus x y (negated z) ∙ ap (plus (times x y)) (times_negated x z)

pub minus_times : (x y z : Exact) → times (minus x y) z ≡ minus (times x z) (times y z)
minus_times x y z = times_comm (minus x y) z ∙ times_minus z x y ∙ ap₂ minus (times_comm z x) (times_comm z y)

pub unit_times : (x : Exact) → times unit x ≡ x
unit_times x = same_parts (omega (arith, ints)) (omega (arith, ints))

pub nought_times : (x : Exact) → times nought x ≡ nought
nought_times x = same_parts (omega (arith, ints)) (omega (arith, ints))

pub times_unit : (x : Exact) → times x unit ≡ x
times_unit x = times_comm x unit ∙ unit_times x

pub times_nought : (x : Exact) → times x nought ≡ nought
times_nought x = times_comm x nought ∙ nought_times x

-- (a c + b d) e, (a d + b c + b d) e and a (c + d + e), multiplied out
two_by : (a b c d e : ℤ) → (a *ℤ c +ℤ b *ℤ d) *ℤ e ≡ a *ℤ (c *ℤ e) +ℤ b *ℤ (d *ℤ e)
two_by a b c d e = omega (arith, sums, sum_times (a *ℤ c) (b *ℤ d) e, times_assoc a c e, times_assoc b d e)

three_by : (a b c d e : ℤ) → (a *ℤ d +ℤ b *ℤ c +ℤ b *ℤ d) *ℤ e ≡ a *ℤ (d *ℤ e) +ℤ b *ℤ (c *ℤ e) +ℤ b *ℤ (d *ℤ e)
three_by a b c d e = omega (arith, sums, sum_times (a *ℤ d +ℤ b *ℤ c) (b *ℤ d) e, two_by a b d c e, times_assoc b d e)

by_three : (a c d e : ℤ) → a *ℤ (c +ℤ d +ℤ e) ≡ a *ℤ c +ℤ a *ℤ d +ℤ a *ℤ e
by_three a c d e = omega (arith, sums, times_sum a (c +ℤ d) e, times_sum a c d)

times_times_parts : (a b c d e f : ℤ) → times (times (record { whole = a; golden = b }) (record { whole = c; golden = d })) (record { whole = e; golden = f })
    ≡ times (record { whole = a; golden = b }) (times (record { whole = c; golden = d }) (record { whole = e; golden = f }))
times_times_parts a b c d e f = same_parts
    (omega (arith, sums, two_by a b c d e, three_by a b c d f, times_sum a (c *ℤ e) (d *ℤ f), by_three b (c *ℤ f) (d *ℤ e) (d *ℤ f)))
    (omega (arith, sums, two_by a b c d f, three_by a b c d e, three_by a b c d f, by_three a (c *ℤ f) (d *ℤ e) (d *ℤ f), times_sum b (c *ℤ e) (d *ℤ f), by_three b (c *ℤ f) (d *ℤ e) (d *ℤ f)))

pub times_times : (x y z : Exact) → times (times x y) z ≡ times x (times y z)
times_times x y z = times_times_parts x.whole x.golden y.whole y.golden z.whole z.golden
