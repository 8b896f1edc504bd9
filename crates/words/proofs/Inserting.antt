-- A set that is filled letter by letter.
use Rattle.std.proofs.Common.{◌≡◌, ℕ, ◌+◌, ◌<◌, ◌≤◌, true, ◌||◌, eqb, Decides, sym, ◌∙◌, subst, ⊎_elim, arith}
use Rattle.std.proofs.lemmas.Bool.{cases_eq, both_ways, or_cases, or_left, or_right, eqb-true, eq-eqb}
use Rattle.words.specs.Sets.{has}
use Rattle.words.proofs.Bits.{has_none}

-- of the letters below s, exactly those with P are in the set
pub record Filled (P : ℕ → Type 0) (bits s : ℕ) : Type 0 where
  pub byte : bits < 256
  pub exactly : (t : ℕ) → 1 ≤ t → t ≤ 8 → Decides (has bits t) ((t < s) × P t)

module _ (P : ℕ → Type 0) (b s : ℕ) where
  pub filled_none : b ≡ 0 → s ≡ 1 → Filled P b s
  filled_none e q = record {
    byte = omega arith;
    exactly = λ t i j. (λ h. absurd (both_ways (has b t) (has_none b t e) h), λ p. let k = p.0 in absurd (omega arith));
  }

  -- s is one of them, and was put in
  pub filled_in : (c : ℕ) → c < 256 → ((t : ℕ) → 1 ≤ t → has c t ≡ (eqb t s || has b t)) → P s → Filled P b s → Filled P c (s + 1)
  filled_in c l e p f = record {
    byte = l;
    exactly = λ t i j. (
      λ h. ⊎_elim (λ (k : eqb t s ≡ true). let q = eqb-true t s k in (omega arith, subst P (sym q) p)) (λ k. let m = (f.exactly t i j).0 k in (let n = m.0 in omega arith, m.1)) (or_cases (eqb t s) (has b t) (sym (e t i) ∙ h)),
      λ h. e t i ∙ ⊎_elim (λ (q : t ≡ s). or_left (eqb t s) (has b t) (eq-eqb t s q)) (λ q. or_right (eqb t s) (has b t) ((f.exactly t i j).1 (let n = h.0 in omega arith, h.1))) (cases_eq t s),
    );
  }

  -- s is none of them
  pub filled_out : ¬ P s → Filled P b s → Filled P b (s + 1)
  filled_out n f = record {
    byte = f.byte;
    exactly = λ t i j. (
      λ h. let m = (f.exactly t i j).0 h in (let k = m.0 in omega arith, m.1),
      λ h. ⊎_elim (λ (q : t ≡ s). absurd (n (subst P q h.1))) (λ q. (f.exactly t i j).1 (let k = h.0 in omega arith, h.1)) (cases_eq t s),
    );
  }
