-- Ring laws of the integers that the library leaves out.
use Rattle.std.proofs.Common.{◌≡◌, ℕ, ◌*◌, ℤ, ◌+ℤ◌, ◌*ℤ◌, neg_ℤ, ap, arith}
use borrow.Author.Differences.{up, down, same_in, same_out, sum_is_lem, neg_is, product_is}

-- for `omega`: sums and differences of integers, products being unknowns
pub ruleset sums = (same_in, same_out, sum_is_lem, neg_is)

-- a (b + c) = a b + a c
pub times_sum : (a b c : ℤ) → a *ℤ (b +ℤ c) ≡ a *ℤ b +ℤ a *ℤ c
times_sum a b c =
    omega (arith, sums, product_is a (b +ℤ c), product_is a b, product_is a c, ap (λ (n : ℕ). up a * n) (sum_is_lem b c), ap (λ (n : ℕ). down a * n) (sum_is_lem b c))

pub sum_times : (a b c : ℤ) → (a +ℤ b) *ℤ c ≡ a *ℤ c +ℤ b *ℤ c
sum_times a b c =
    omega (arith, sums, product_is (a +ℤ b) c, product_is a c, product_is b c, ap (λ (n : ℕ). n * up c) (sum_is_lem a b), ap (λ (n : ℕ). n * down c) (sum_is_lem a b))

-- (a b) c = a (b c)
pub times_assoc : (a b c : ℤ) → (a *ℤ b) *ℤ c ≡ a *ℤ (b *ℤ c)
times_assoc a b c =
    omega (
      arith,
      same_in,
      product_is (a *ℤ b) c,
      product_is a (b *ℤ c),
      ap (λ (n : ℕ). n * up c) (product_is a b).0,
      ap (λ (n : ℕ). n * up c) (product_is a b).1,
      ap (λ (n : ℕ). n * down c) (product_is a b).0,
      ap (λ (n : ℕ). n * down c) (product_is a b).1,
      ap (λ (n : ℕ). up a * n) (product_is b c).0,
      ap (λ (n : ℕ). up a * n) (product_is b c).1,
      ap (λ (n : ℕ). down a * n) (product_is b c).0,
      ap (λ (n : ℕ). down a * n) (product_is b c).1,
    )

-- a (- b) = - (a b)
pub times_neg : (a b : ℤ) → a *ℤ neg_ℤ b ≡ neg_ℤ (a *ℤ b)
times_neg a b =
    omega (
      arith,
      sums,
      product_is a (neg_ℤ b),
      product_is a b,
      ap (λ (n : ℕ). up a * n) (neg_is b).0,
      ap (λ (n : ℕ). up a * n) (neg_is b).1,
      ap (λ (n : ℕ). down a * n) (neg_is b).0,
      ap (λ (n : ℕ). down a * n) (neg_is b).1,
    )
