-- What a test over the numbers from 1 to n answers, said of the numbers.
use Rattle.std.proofs.Common.{◌≡◌, ℕ, ◌+◌, ◌-◌, ◌<◌, ◌≤◌, Bool, true, false, length, get_or, ◌∙◌, subst, arith}
use Rattle.std.specs.Bool.{MatchBool}
use Rattle.std.specs.List.{range_with_len, AllWithin, HoldsAt}
use Rattle.std.proofs.lemmas.List.FromFn.{get_or-range_with_len, length-range_with_len}

-- what holds of all numbers of the list
within : (n : ℕ) (P : ℕ → Type 0) → AllWithin P (range_with_len 1 n) 0 n → (k : ℕ) → 1 ≤ k → k ≤ n → P k
within n P h k j d =
    let e : get_or (range_with_len 1 n) (k - 1) 0 ≡ k = get_or-range_with_len 1 n (k - 1) 0 (omega arith) ∙ omega arith in
    subst P e (h (k - 1) 0 (omega arith) (omega arith))

-- whether all numbers from 1 to n pass
pub passed : (n : ℕ) (r : Bool) (Yes No : ℕ → Type 0)
    → MatchBool r (AllWithin Yes (range_with_len 1 n) 0 (length (range_with_len 1 n))) ((k : ℕ) × (k < length (range_with_len 1 n)) × HoldsAt No (range_with_len 1 n) k)
    → MatchBool r ((k : ℕ) → 1 ≤ k → k ≤ n → Yes k) ((k : ℕ) × (1 ≤ k) × (k ≤ n) × No k)
passed n true Yes No h = within n Yes (subst (λ m. AllWithin Yes (range_with_len 1 n) 0 m) (length-range_with_len 1 n) h)
passed n false Yes No h =
    let l = length-range_with_len 1 n in
    let b : h.0 < n = let a = h.1 in omega arith in
    (1 + h.0, omega arith, omega arith, subst No (get_or-range_with_len 1 n h.0 0 b) (h.2 0))
