-- The matrix that a table of rows is cut to: its rank, its entries, and when it is lawful.
use Rattle.std.proofs.Common.{◌≡◌, ℕ, ◌-◌, ◌<◌, ◌≤◌, ◌≢◌, ◌⊎◌, List, [], map, length, get_or, take, sym, refl, ap, ◌∙◌, subst, ap₂, inl, inr, ⊎_elim, arith, length-take-le, get_or-take}
use Rattle.std.specs.List.{range_with_len}
use Rattle.std.proofs.lemmas.List.FromFn.{length-map-range_with_len, get_or-map-range_with_len, fill_by_all}
use Rattle.std.proofs.lemmas.Bool.{cases_eq, cases_order}
use mathlib.Core.Logic.{∥∥₁_elim}
use mathlib.Core.HLevel.{×_prop}
use native.Mathlib.Nat.{ℕ_set}
use native.Mathlib.Bridge.{le_prop}
use Rattle.std.proofs.lemmas.Bool.Decides.{nat_tests}
use Rattle.coxeter.specs.Groups.{Matrix, Lawful, Letter, rank, exponent, answered_exponent}
use Rattle.coxeter.specs.Tables.{place, cut}
use Rattle.coxeter.specs.Pairs.{EveryPair, IsLawfulPair}

-- ---- the rank and the entries of a cut
pub cut_rank : (n : ℕ) (rows : List (List ℕ)) → length (cut n rows) ≡ n
cut_rank n rows = length-map-range_with_len (λ i. map (λ j. place rows i j) (range_with_len 0 n)) 0 n

pub cut_letter : (n : ℕ) (rows : List (List ℕ)) (s : ℕ) → 1 ≤ s → s ≤ n → Letter (cut n rows) s
cut_letter n rows s h k = record { from_one = h; to_rank = omega (arith, cut_rank n rows) }

pub letter_within : (n : ℕ) (rows : List (List ℕ)) (s : ℕ) → Letter (cut n rows) s → s ≤ n
letter_within n rows s l = omega (arith, cut_rank n rows, l.to_rank)

pub cut_row : (n : ℕ) (rows : List (List ℕ)) (s : ℕ) → Letter (cut n rows) s → get_or (cut n rows) (s - 1) [] ≡ map (λ j. place rows (s - 1) j) (range_with_len 0 n)
cut_row n rows s l = get_or-map-range_with_len (λ i. map (λ j. place rows i j) (range_with_len 0 n)) 0 n (s - 1) (s - 1) []
    (omega (arith, l.from_one, letter_within n rows s l)) (omega arith)

pub cut_exponent : (n : ℕ) (rows : List (List ℕ)) (s t : ℕ) → Letter (cut n rows) s → Letter (cut n rows) t → exponent (cut n rows) s t ≡ place rows (s - 1) (t - 1)
cut_exponent n rows s t l k =
    ap (λ (r : List ℕ). get_or r (t - 1) 255) (cut_row n rows s l)
    ∙ get_or-map-range_with_len (λ j. place rows (s - 1) j) 0 n (t - 1) (t - 1) 255 (omega (arith, k.from_one, letter_within n rows t k)) (omega arith)

-- the first n entries of a row, by their places
pub front_by_places : (new : List ℕ) (n : ℕ) → n ≤ length new → map (λ j. get_or new j 0) (range_with_len 0 n) ≡ take n new
front_by_places new n h = sym (fill_by_all (λ j. get_or new j 0) (take n new) n 0 (length-take-le n new h) (λ k i. get_or-take n new k 0 i))

-- ---- what the exponent's answer is
pub answered_letters : (n : ℕ) (rows : List (List ℕ)) (s t : ℕ) → Letter (cut n rows) s → Letter (cut n rows) t → answered_exponent (cut n rows) s t ≡ place rows (s - 1) (t - 1)
answered_letters n rows s t l k =
    let q = cut_exponent n rows s t l k in
    grind (arith, nat_tests)

-- ---- there is one proof at most that a matrix is lawful
apart_prop : (e : ℕ) (p q : (e ≡ 0) ⊎ ((2 ≤ e) × (e ≤ 6))) → p ≡ q
apart_prop e (inl x) (inl y) = ap inl (ℕ_set _ _ x y)
apart_prop e (inl x) (inr y) = absurd (omega arith)
apart_prop e (inr x) (inl y) = absurd (omega arith)
apart_prop e (inr x) (inr y) = ap inr (×_prop le_prop le_prop x y)

pub lawful_prop : (g : Matrix) → IsProp (Lawful g)
lawful_prop g p q i = record {
  some = le_prop p.some q.some i;
  few = le_prop p.few q.few i;
  diagonal = λ s h. ℕ_set _ _ (p.diagonal s h) (q.diagonal s h) i;
  mirrored = λ s t h k. ℕ_set _ _ (p.mirrored s t h k) (q.mirrored s t h k) i;
  apart = λ s t h k n. apart_prop (exponent g s t) (p.apart s t h k n) (q.apart s t h k n) i;
  square = λ s h. ℕ_set _ _ (p.square s h) (q.square s h) i;
}

pub lawful_of : (g : Matrix) → ∥ Lawful g ∥₁ → Lawful g
lawful_of g h = ∥∥₁_elim h (lawful_prop g) (λ x. x)

-- ---- a square matrix is lawful exactly when its rank is 1 to 8 and every pair of letters is lawful; a cut is square
apart_either : (e : ℕ) → (e ≢ 1) × (e ≤ 6) → (e ≡ 0) ⊎ ((2 ≤ e) × (e ≤ 6))
apart_either e h = let n = h.0 in let m = h.1 in ⊎_elim (λ (z : e ≡ 0). inl z) (λ z. inr (omega arith, m)) (cases_eq e 0)

apart_bounds : (e : ℕ) → (e ≡ 0) ⊎ ((2 ≤ e) × (e ≤ 6)) → (e ≢ 1) × (e ≤ 6)
apart_bounds e (inl z) = (λ o. omega arith, omega arith)
apart_bounds e (inr r) = (λ o. omega arith, r.1)

pub lawful_from_pairs : (g : Matrix) → 1 ≤ rank g → rank g ≤ 8 → ((s : ℕ) → Letter g s → length (get_or g (s - 1) []) ≡ rank g) → EveryPair IsLawfulPair g → Lawful g
lawful_from_pairs g low high square h = record {
  some = low;
  few = high;
  diagonal = λ s l. (h s s l l).like refl;
  mirrored = λ s t l k. (h s t l k).mirror;
  apart = λ s t l k d. apart_either (exponent g s t) ((h s t l k).unlike d);
  square = square;
}

pub lawful_pairs : (g : Matrix) → Lawful g → EveryPair IsLawfulPair g
lawful_pairs g law s t l k = record {
  mirror = law.mirrored s t l k;
  like = λ e. subst (λ z. exponent g s z ≡ 1) e (law.diagonal s l);
  unlike = λ d. apart_bounds (exponent g s t) (law.apart s t l k d);
}

pub pairs_lawful : (n : ℕ) (rows : List (List ℕ)) → 1 ≤ n → n ≤ 8 → EveryPair IsLawfulPair (cut n rows) → Lawful (cut n rows)
pairs_lawful n rows low high = lawful_from_pairs (cut n rows) (omega (arith, cut_rank n rows)) (omega (arith, cut_rank n rows))
    (λ s l. ap length (cut_row n rows s l) ∙ length-map-range_with_len (λ j. place rows (s - 1) j) 0 n ∙ sym (cut_rank n rows))

-- ---- the same, by places
pub record LawfulPlaces (n : ℕ) (rows : List (List ℕ)) : Type 0 where
  pub diagonal : (i : ℕ) → i < n → place rows i i ≡ 1
  pub unlike : (i j : ℕ) → i < n → j < n → i ≢ j → place rows i j ≢ 1
  pub small : (i j : ℕ) → i < n → j < n → place rows i j ≤ 6
  pub mirrored : (i j : ℕ) → i < n → j < i → place rows i j ≡ place rows j i

pub lawful_of_places : (n : ℕ) (rows : List (List ℕ)) → 1 ≤ n → n ≤ 8 → LawfulPlaces n rows → Lawful (cut n rows)
lawful_of_places n rows low high p = pairs_lawful n rows low high each
  where
    either_way : (i j : ℕ) → i < n → j < n → place rows i j ≡ place rows j i
    either_way i j h k = by (cases_order i j)
      where
        by : (i ≡ j) ⊎ ((i < j) ⊎ (j < i)) → place rows i j ≡ place rows j i
        by (inl e) = ap₂ (place rows) e (sym e)
        by (inr (inl d)) = sym (p.mirrored j i k d)
        by (inr (inr d)) = p.mirrored i j h d

    each : EveryPair IsLawfulPair (cut n rows)
    each s t l k = record {
      mirror = cut_exponent n rows s t l k ∙ either_way (s - 1) (t - 1) h i ∙ sym (cut_exponent n rows t s k l);
      like = λ e. cut_exponent n rows s t l k ∙ ap (λ z. place rows (s - 1) (z - 1)) (sym e) ∙ p.diagonal (s - 1) h;
      unlike = λ d. (
        λ o. p.unlike (s - 1) (t - 1) h i (λ e. d (omega (arith, l.from_one, k.from_one))) (sym (cut_exponent n rows s t l k) ∙ o),
        omega (arith, cut_exponent n rows s t l k, p.small (s - 1) (t - 1) h i),
      );
    }
      where
        h : s - 1 < n
        h = omega (arith, l.from_one, letter_within n rows s l)

        i : t - 1 < n
        i = omega (arith, k.from_one, letter_within n rows t k)
