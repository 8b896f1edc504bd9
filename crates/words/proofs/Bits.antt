-- Binary digits of a set of letters.
use Rattle.std.proofs.Common.{◌≡◌, ℕ, zero, suc, ◌+◌, ◌-◌, ◌*◌, ◌/◌, ◌%◌, ◌^◌, ◌<◌, ◌≤◌, true, false, ◌||◌, eqb, ◌⊎◌, ◌∷◌, length, w8, sym, ap, ◌∙◌, subst, inl, inr, ⊎_elim, pow-suc, add-one, arith}
use lib.Bits.{bit_or}
use lib.Count.{ones, ones_step, ones-le}
use Rattle.std.specs.Int.{bit_at, trailing_zeros}
use Rattle.std.proofs.lemmas.Nat.{shr-shr, div_below, mod_below, shr_split}
use Rattle.std.proofs.lemmas.Nat.Bits.{bit_at_set_same, bit_at_set_other, bit_at-trailing_zeros, same_from_bits_below}
use Rattle.std.proofs.lemmas.Bool.{cases_eq, cases_lt, both_ways, cond-true, cond-false, eq-eqb, ne_eqb, eqb-true, or_left}
use Rattle.words.specs.Sets.{has, letters_from, LeastIn}

below_two : (x : ℕ) → (x % 2 ≡ 0) ⊎ (x % 2 ≡ 1)
below_two x = let h = mod_below x 2 (omega arith) in ⊎_elim (λ (e : x % 2 ≡ 0). inl e) (λ e. inr (omega arith)) (cases_eq (x % 2) 0)

half_of : (b k : ℕ) → b / 2 ^ k / 2 ≡ b / 2 ^ (k + 1)
half_of b k = shr-shr b k 1

-- ---- a letter more
pub has_none : (b s : ℕ) → b ≡ 0 → has b s ≡ false
has_none b s e = grind (arith, e)

pub has_more : (b s t : ℕ) → 1 ≤ s → s ≤ 8 → 1 ≤ t → has (bit_or b (1 * 2 ^ (s - 1) % 256)) t ≡ (eqb t s || has b t)
has_more b s t i k j = by (cases_eq t s)
  where
    by : (t ≡ s) ⊎ (t ≡ s → ⊥) → has (bit_or b (1 * 2 ^ (s - 1) % 256)) t ≡ (eqb t s || has b t)
    by (inl e) =
        let d : bit_at (bit_or b (1 * 2 ^ (s - 1) % 256)) (t - 1) ≡ 1 = ap (λ n. bit_at (bit_or b (1 * 2 ^ (s - 1) % 256)) (n - 1)) e ∙ bit_at_set_same w8 b (s - 1) (omega arith) in
        eq-eqb _ _ d ∙ sym (or_left (eqb t s) (has b t) (eq-eqb t s e))
    by (inr n) =
        ap (λ x. eqb x 1) (bit_at_set_other w8 b (s - 1) (omega arith) (t - 1) (λ e. n (omega arith))) ∙ ap (λ x. x || has b t) (sym (ne_eqb t s n))

-- ---- the count of the letters
next_digit : (b k : ℕ) → bit_at b (suc k - 1) ≡ bit_at b k
next_digit b k = ap (bit_at b) (let e : suc k - 1 ≡ k = omega arith in e)

half_below : (n b k : ℕ) → b / 2 ^ k < 2 ^ suc n → b / 2 ^ (k + 1) < 2 ^ n
half_below n b k h = subst (λ x. x < 2 ^ n) (half_of b k) (div_below (b / 2 ^ k) 2 (2 ^ n) (omega arith) (subst (λ x. b / 2 ^ k < x) (pow-suc 2 n) h))

ones_more : (n k b : ℕ) → ones (b / 2 ^ (k + 1)) ≡ length (letters_from b n (suc (k + 1))) → ones (b / 2 ^ k) ≡ length (letters_from b (suc n) (suc k))
ones_more n k b h = ones_step (b / 2 ^ k) ∙ by (below_two (b / 2 ^ k))
  where
    rest : ones (b / 2 ^ k / 2) ≡ length (letters_from b n (suc (suc k)))
    rest = ap ones (half_of b k) ∙ h ∙ ap (λ m. length (letters_from b n (suc m))) (add-one k)

    by : (b / 2 ^ k % 2 ≡ 0) ⊎ (b / 2 ^ k % 2 ≡ 1) → b / 2 ^ k % 2 + ones (b / 2 ^ k / 2) ≡ length (letters_from b (suc n) (suc k))
    by (inl e) =
        let d : has b (suc k) ≡ false = ne_eqb (bit_at b (suc k - 1)) 1 (λ o. let z = next_digit b k in omega arith) in
        let c : length (letters_from b (suc n) (suc k)) ≡ length (letters_from b n (suc (suc k))) = ap length (cond-false (has b (suc k)) (suc k ∷ letters_from b n (suc (suc k))) (letters_from b n (suc (suc k))) d) in
        omega (arith, rest)
    by (inr e) =
        let d : has b (suc k) ≡ true = eq-eqb (bit_at b (suc k - 1)) 1 (next_digit b k ∙ e) in
        let c : length (letters_from b (suc n) (suc k)) ≡ suc (length (letters_from b n (suc (suc k)))) = ap length (cond-true (has b (suc k)) (suc k ∷ letters_from b n (suc (suc k))) (letters_from b n (suc (suc k))) d) in
        omega (arith, rest)

pub ones_letters : (n k b : ℕ) → b / 2 ^ k < 2 ^ n → ones (b / 2 ^ k) ≡ length (letters_from b n (suc k))
ones_letters zero k b h = let o = ones-le 0 (b / 2 ^ k) h in omega arith
ones_letters (suc n) k b h = ones_more n k b (ones_letters n (k + 1) b (half_below n b k h))

pub whole_shr : (x : ℕ) → x / 2 ^ 0 ≡ x
whole_shr x = let s = shr_split x 0 in let m = mod_below x 1 (omega arith) in omega arith

-- ---- the least of the letters
pub least_some : (b : ℕ) → 0 < b → b < 256 → LeastIn b (trailing_zeros w8 b + 1)
least_some b p l =
    let t = bit_at-trailing_zeros w8 b p l in
    let below = t.0 in
    record {
      member = λ h. (omega arith, eq-eqb (bit_at b (trailing_zeros w8 b + 1 - 1)) 1 (ap (bit_at b) (let e : trailing_zeros w8 b + 1 - 1 ≡ trailing_zeros w8 b = omega arith in e) ∙ t.1));
      least = λ s i j h.
          let d = eqb-true (bit_at b (s - 1)) 1 h in
          (omega arith, ⊎_elim (λ (k : s < trailing_zeros w8 b + 1). let z = t.2 (s - 1) (omega arith) in absurd (omega arith)) (λ k. k) (cases_lt s (trailing_zeros w8 b + 1)));
    }

-- ---- a byte by its letters
same_digit : (x y : ℕ) → eqb (x % 2) 1 ≡ eqb (y % 2) 1 → x % 2 ≡ y % 2
same_digit x y e = by (below_two x) (below_two y)
  where
    by : (x % 2 ≡ 0) ⊎ (x % 2 ≡ 1) → (y % 2 ≡ 0) ⊎ (y % 2 ≡ 1) → x % 2 ≡ y % 2
    by (inl p) (inl q) = p ∙ sym q
    by (inr p) (inr q) = p ∙ sym q
    by (inl p) (inr q) = absurd (both_ways (eqb (x % 2) 1) (ne_eqb _ _ (λ o. omega arith)) (e ∙ eq-eqb _ _ q))
    by (inr p) (inl q) = absurd (both_ways (eqb (y % 2) 1) (ne_eqb _ _ (λ o. omega arith)) (sym e ∙ eq-eqb _ _ p))

-- two bytes that have the same letters are equal
pub same_letters : (x y : ℕ) → x < 256 → y < 256 → ((s : ℕ) → 1 ≤ s → s ≤ 8 → has x s ≡ has y s) → x ≡ y
same_letters x y h i d =
    same_from_bits_below 8 x y h i
    (λ k l.
    let e : suc k - 1 ≡ k = omega arith in
    subst (λ j. bit_at x j ≡ bit_at y j) e (same_digit (x / 2 ^ (suc k - 1)) (y / 2 ^ (suc k - 1)) (d (suc k) (omega arith) (omega arith))))
