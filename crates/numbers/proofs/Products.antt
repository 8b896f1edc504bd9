-- Products of small numbers: their bounds, and that they fit the machine's numbers.
use Rattle.std.proofs.Common.{unsigned_abs, ◌*◌, ◌≤◌, ℤ, ◌*ℤ◌, mul-le-mul, arith, w64, to_z, of_z}
use Rattle.std.proofs.lemmas.Int.{ints, unsigned_abs-mul}
use Rattle.numbers.specs.Kinds.{Small}

-- the product of a number of at most 128 and one of at most 10¹²
pub product_small : (k x : ℤ) → Small 128 k → Small 1000000000000 x → Small 128000000000000 (k *ℤ x)
product_small k x h i =
    let a : unsigned_abs k ≤ 128 = omega (arith, ints) in
    let b : unsigned_abs x ≤ 1000000000000 = omega (arith, ints) in
    let c : unsigned_abs k * unsigned_abs x ≤ 128000000000000 = mul-le-mul a b in
    let e = unsigned_abs-mul k x in
    record { low = omega (arith, ints); high = omega (arith, ints) }

-- ---- in the machine's numbers
-- the number that a word of 64 bits holds for z
abbrev pub held : ℤ → ℤ
held z = to_z w64 (of_z w64 z)

pub held_product : (k x : ℤ) → Small 128 k → Small 1000000000000 x → Small 128000000000000 (held k *ℤ held x)
held_product k x h i = product_small (held k) (held x) (record { low = omega (arith, ints); high = omega (arith, ints) }) (record { low = omega (arith, ints); high = omega (arith, ints) })
