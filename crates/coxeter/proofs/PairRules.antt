-- A rule that is asked of every letter of a table in turn: what its answers tell of the table's matrix.
use Rattle.std.proofs.Common.{◌≡◌, ℕ, ◌+◌, ◌-◌, ◌<◌, Bool, true, false, List, length, Decides, MatchBool, sym, refl, ap, ◌∙◌, subst, arith}
use Rattle.std.specs.List.{range_with_len, AllWithin, HoldsAt}
use Rattle.std.proofs.lemmas.List.FromFn.{get_or-range_with_len, length-range_with_len}
use Rattle.coxeter.specs.Groups.{Matrix, Letter, exponent}
use Rattle.coxeter.specs.Tables.{place, cut}
use Rattle.coxeter.specs.Pairs.{EveryPair, TellsWith, TellsPairs}
use Rattle.coxeter.proofs.Tests.{decides_false}
use Rattle.coxeter.proofs.Matrices.{cut_letter, letter_within, cut_exponent}

module _ (n : ℕ) (rows : List (List ℕ)) where
  -- ---- what `all` over the numbers below n tells of the letters, each by the number before it
  pub letters_told : (Yes No : ℕ → Type 0) (r : Bool)
      → MatchBool r (AllWithin (λ i. Yes (i + 1)) (range_with_len 0 n) 0 (length (range_with_len 0 n))) ((k : ℕ) × (k < length (range_with_len 0 n)) × HoldsAt (λ i. No (i + 1)) (range_with_len 0 n) k)
      → MatchBool r ((s : ℕ) → Letter (cut n rows) s → Yes s) ((s : ℕ) × (Letter (cut n rows) s × No s))
  letters_told Yes No true h = λ s l.
      let b : s - 1 < n = omega (arith, l.from_one, letter_within n rows s l) in
      let e : 0 + (s - 1) + 1 ≡ s = omega (arith, l.from_one) in
      subst Yes (ap (λ (i : ℕ). i + 1) (get_or-range_with_len 0 n (s - 1) 0 b) ∙ e) (h (s - 1) 0 (omega arith) (omega (arith, b, length-range_with_len 0 n)))
  letters_told Yes No false h =
      let b : h.0 < n = omega (arith, h.1, length-range_with_len 0 n) in
      (0 + h.0 + 1, (cut_letter n rows (0 + h.0 + 1) (omega arith) (omega (arith, b)), subst (λ (i : ℕ). No (i + 1)) (get_or-range_with_len 0 n h.0 0 b) (h.2 0)))

  -- ---- the same, of pairs, by what a rule says of them
  module _ (says : ℕ → ℕ → ℕ → ℕ → Bool → Type 0) where
    at_exponents : (r : Bool) (s t : ℕ) → Letter (cut n rows) s → Letter (cut n rows) t → says s t (place rows (s - 1) (t - 1)) (place rows (t - 1) (s - 1)) r
        → says s t (exponent (cut n rows) s t) (exponent (cut n rows) t s) r
    at_exponents r s t l k h = subst (λ m. says s t m (exponent (cut n rows) t s) r) (sym (cut_exponent n rows s t l k))
        (subst (λ m. says s t (place rows (s - 1) (t - 1)) m r) (sym (cut_exponent n rows t s k l)) h)

    pub with_told : (s : ℕ) → Letter (cut n rows) s → (r : Bool)
        → MatchBool r ((t : ℕ) → Letter (cut n rows) t → says s t (place rows (s - 1) (t - 1)) (place rows (t - 1) (s - 1)) true)
        ((t : ℕ) × (Letter (cut n rows) t × says s t (place rows (s - 1) (t - 1)) (place rows (t - 1) (s - 1)) false))
        → TellsWith says (cut n rows) s r
    with_told s l true h = record { told = λ t k. at_exponents true s t l k (h t k) }
    with_told s l false h = record { told = record { other = h.0; letter = h.1.0; broken = at_exponents false s h.0 l h.1.0 h.1.1 } }

    pub pairs_told : (r : Bool) → MatchBool r ((s : ℕ) → Letter (cut n rows) s → TellsWith says (cut n rows) s true) ((s : ℕ) × (Letter (cut n rows) s × TellsWith says (cut n rows) s false))
        → TellsPairs says (cut n rows) r
    pairs_told true h = record { told = λ s t l k. (h s l).told t k }
    pairs_told false h = record { told = record { one = h.0; letter = h.1.0; row = h.1.1.told } }

-- ---- a question that is answered by a rule
pub decided : {says : ℕ → ℕ → ℕ → ℕ → Bool → Type 0} {m : Matrix} {r : Bool} → TellsPairs says m r → (keeps : ℕ → ℕ → ℕ → ℕ → Type 0) (g : Matrix) → m ≡ g
    → ((s t e back : ℕ) → says s t e back true → keeps s t e back) → ((s t e back : ℕ) → says s t e back false → keeps s t e back → ⊥) → Decides r (EveryPair keeps g)
decided {says} {m} {r} h keeps g e always never = by r (subst (λ x. TellsPairs says x r) e h)
  where
    by : (b : Bool) → TellsPairs says g b → Decides b (EveryPair keeps g)
    by true k = (λ d s t l i. always s t _ _ (k.told s t l i), λ p. refl)
    by false k = let t = k.told in decides_false (λ p. never _ _ _ _ t.row.broken (p t.one t.row.other t.letter t.row.letter))
