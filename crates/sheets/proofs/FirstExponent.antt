-- The exponent that some bytes begin with, or how far they begin one.
use Rattle.std.proofs.Common.{◌≡◌, ℕ, zero, suc, ◌<◌, ◌≤◌, ◌≢◌, List, [], ◌∷◌, ◌++◌, length, get_or, take, sym, ap, ◌∙◌, ⊎_elim, arith}
use Rattle.std.proofs.lemmas.List.{get_or-take, get_or_append_left, length-take-le, get_or_past}
use Rattle.std.proofs.lemmas.Bool.{cases_lt}
use Rattle.sheets.specs.Rows.{exponent_text, Halts}

-- what a longer front reads
pub front : (s u w : List ℕ) (j i : ℕ) → i < j → j ≤ length s → take j s ++ u ≡ w → get_or s i 0 ≡ get_or w i 0
front s u w j i lt le e =
    sym (get_or-take j s i 0 lt) ∙ sym (get_or_append_left (take j s) u 0 i (omega (arith, length-take-le j s le))) ∙ ap (λ l. get_or l i 0) e

-- no exponent agrees with bs up to the byte at k
halts : (bs : List ℕ) (k : ℕ) → k ≤ length bs → ((e : ℕ) × (u : List ℕ) × e ≤ 6 × (take k bs ++ u ≡ exponent_text e)) → ((e : ℕ) → e ≤ 6 → (v : List ℕ) → ((i : ℕ) → i ≤ k → get_or bs i 0 ≡ get_or (exponent_text e ++ v) i 0) → ⊥) → Halts bs k
halts bs k le good never = record {
  within = le;
  good = good;
  bad = λ j lt le' e ve u v eq. never e ve v (λ i h. front bs u (exponent_text e ++ v) j i (omega arith) le' eq);
  wrong = λ e ve v eq. never e ve v (λ i h. ap (λ l. get_or l i 0) eq);
}

pub halts_in : (s : List ℕ) → 2 ≤ length s → get_or s 0 0 ≡ 105 → get_or s 1 0 ≡ 110 → (2 < length s → get_or s 2 0 ≢ 102) → Halts s 2
halts_in [] h a b c = absurd (omega arith)
halts_in (x ∷ []) h a b c = absurd (omega arith)
halts_in (x ∷ y ∷ t) h a b c = halts (x ∷ y ∷ t) 2 h (0, 102 ∷ [], omega arith, λ i. a i ∷ b i ∷ 102 ∷ []) never
  where
    never : (e : ℕ) → e ≤ 6 → (v : List ℕ) → ((i : ℕ) → i ≤ 2 → get_or (x ∷ y ∷ t) i 0 ≡ get_or (exponent_text e ++ v) i 0) → ⊥
    never (suc d) ve v f = omega (arith, f 0 (omega arith), a)
    never zero ve v f = ⊎_elim (λ l. c l (f 2 (omega arith))) (λ g. omega (arith, f 2 (omega arith), get_or_past (x ∷ y ∷ t) 2 0 g)) (cases_lt 2 (length (x ∷ y ∷ t)))

pub halts_i : (s : List ℕ) → 1 ≤ length s → get_or s 0 0 ≡ 105 → (1 < length s → get_or s 1 0 ≢ 110) → Halts s 1
halts_i [] h a c = absurd (omega arith)
halts_i (x ∷ t) h a c = halts (x ∷ t) 1 h (0, 110 ∷ 102 ∷ [], omega arith, λ i. a i ∷ 110 ∷ 102 ∷ []) never
  where
    never : (e : ℕ) → e ≤ 6 → (v : List ℕ) → ((i : ℕ) → i ≤ 1 → get_or (x ∷ t) i 0 ≡ get_or (exponent_text e ++ v) i 0) → ⊥
    never (suc d) ve v f = omega (arith, f 0 (omega arith), a)
    never zero ve v f = ⊎_elim (λ l. c l (f 1 (omega arith))) (λ g. omega (arith, f 1 (omega arith), get_or_past (x ∷ t) 1 0 g)) (cases_lt 1 (length (x ∷ t)))
