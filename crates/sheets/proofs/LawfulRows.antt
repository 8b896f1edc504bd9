-- The rows of a lawful matrix are exponents that may stand there.
use Rattle.std.proofs.Common.{◌≡◌, ℕ, ◌+◌, ◌-◌, ◌<◌, [], length, get_or, ◌∙◌, subst, ⊎_elim, arith}
use Rattle.std.proofs.lemmas.List.{get_or_default}
use Rattle.std.proofs.lemmas.Bool.{cases_eq}
use Rattle.coxeter.specs.Groups.{Matrix, Lawful, Letter, exponent}
use Rattle.coxeter.specs.Tables.{place}
use Rattle.coxeter.specs.Pairs.{IsLawfulPair}
use Rattle.coxeter.proofs.Matrices.{lawful_pairs}
use Rattle.sheets.specs.Filling.{Filled}

module _ (m : Matrix) (law : Lawful m) where
  low : (i : ℕ) → i + 1 - 1 ≡ i
  low i = omega arith

  letter : (i : ℕ) → i < length m → Letter m (i + 1)
  letter i h = record { from_one = omega arith; to_rank = omega arith }

  pub lawful_wide : (i : ℕ) → i < length m → length (get_or m i []) ≡ length m
  lawful_wide i h = subst (λ x. length (get_or m x []) ≡ length m) (low i) (law.square (i + 1) (letter i h))

  exponent_place : (i j : ℕ) → i < length m → j < length m → exponent m (i + 1) (j + 1) ≡ place m i j
  exponent_place i j h k =
      (λ z. get_or (get_or m (low i z) []) (low j z) 255) ∙ get_or_default (get_or m i []) j 255 0 (omega (arith, lawful_wide i h))

  pair : (i j : ℕ) → i < length m → j < length m → IsLawfulPair (i + 1) (j + 1) (place m i j) (place m j i)
  pair i j h k =
      subst (λ z. IsLawfulPair (i + 1) (j + 1) z (place m j i)) (exponent_place i j h k)
      (subst (λ z. IsLawfulPair (i + 1) (j + 1) (exponent m (i + 1) (j + 1)) z) (exponent_place j i k h)
      (lawful_pairs m law (i + 1) (j + 1) (letter i h) (letter j k)))

  pub lawful_filled : Filled (length m) (length m) m
  lawful_filled = record {
    small = λ r c h k. ⊎_elim (λ e. omega (arith, (pair r c h k).like (omega arith))) (λ d. ((pair r c h k).unlike (λ e. d (omega arith))).1) (cases_eq r c);
    fits = λ r c h k. record {
      diagonal = λ e. (pair r c h k).like (omega arith);
      unlike = λ d. ((pair r c h k).unlike (λ e. d (omega arith))).0;
      mirrored = λ l. (pair r c h k).mirror;
    };
  }
