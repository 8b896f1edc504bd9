-- The exchange of two neighbours in a row of entries steps the point that its gaps show.
use Rattle.std.proofs.Common.{◌≡◌, ℕ, ◌+◌, ◌-◌, ◌<◌, ◌≤◌, true, false, ltb, ◌≢◌, ◌⊎◌, List, [], ◌∷◌, ◌++◌, get_or, drop, set, ℤ, pos, negsuc, ◌+ℤ◌, ◌-ℤ◌, ◌*ℤ◌, sym, refl, ap, ◌∙◌, inl, inr, ⊎_elim, arith}
use mathlib.Core.Logic.{∥∥₁_elim}
use mathlib.Core.HLevel.{Π_prop}
use native.Mathlib.Nat.{ℕ_set}
use lib.Signed.{lt_z}
use Rattle.std.proofs.lemmas.List.{drop-set-lt}
use Rattle.std.proofs.lemmas.Bool.{cases_eq, cases_lt, lt-ltb, le-ltb, cond-true, cond-false}
use Rattle.std.proofs.lemmas.Bool.Decides.{nat_tests}
use Rattle.std.proofs.lemmas.Int.{ints}
use Rattle.std.specs.List.{SwappedAt}
use Rattle.coxeter.specs.Numbers.{integer, minus, times, negative}
use Rattle.coxeter.specs.Groups.{Matrix, Letter, rank}
use Rattle.coxeter.specs.Moves.{Word}
use Rattle.coxeter.specs.Pairs.{Path, path_exponent}
use Rattle.coxeter.proofs.Exacts.{same_parts}
use Rattle.coxeter.specs.Points.{stepped, coefficient, coefficient_of}
use Rattle.carriers.specs.Rows.{Shows}
use Rattle.carriers.proofs.Standing.{step_shows}
use Rattle.carriers.specs.Lines.{gaps, Arranged, Stands}

pub path_of : (g : Matrix) → ∥ Path g ∥₁ → Path g
path_of g h = ∥∥₁_elim h (Π_prop λ s. Π_prop λ t. Π_prop λ i. Π_prop λ j. ℕ_set _ _) (λ x. x)

path_coefficient : (g : Matrix) → Path g → (a s : ℕ) → Letter g a → Letter g s → coefficient g a s ≡ coefficient_of (path_exponent a s) (ltb a s)
path_coefficient g h a s i j = ap (λ n. coefficient_of n (ltb a s)) (h a s i j)

on_path : (a s : ℕ) → a ≡ s → path_exponent a s ≡ 1
on_path a s e = grind (arith, nat_tests)

by_path : (a s : ℕ) → (a ≡ s + 1) ⊎ (s ≡ a + 1) → path_exponent a s ≡ 3
by_path a s e = grind (arith, nat_tests)

off_path : (a s : ℕ) → a ≢ s → a ≢ s + 1 → s ≢ a + 1 → path_exponent a s ≡ 2
off_path a s d e f = grind (arith, nat_tests)

-- the gap at a, where the coefficient is c
gap_by : (g : Matrix) (s a : ℕ) (r q : List ℕ) (c : ℤ) → coefficient g a s ≡ integer c
    → minus (gaps r a) (times (integer c) (gaps r s)) ≡ gaps q a → gaps q a ≡ stepped g s (gaps r) a
gap_by g s a r q c e d = sym d ∙ ap (λ x. minus (gaps r a) (times x (gaps r s))) (sym e)

-- q is the row r with the entries s and s + 1 exchanged
module _ (g : Matrix) (h : Path g) (s : ℕ) (k : Letter g s) (r q : List ℕ) (swapped : SwappedAt r q (s - 1) s) where
  gap_here : (a : ℕ) → Letter g a → a ≡ s → gaps q a ≡ stepped g s (gaps r) a
  gap_here a j e =
      let u : get_or q a 0 ≡ get_or r (s - 1) 0 = ap (λ i. get_or q i 0) e ∙ swapped.1 0 in
      let v : get_or q (a - 1) 0 ≡ get_or r s 0 = ap (λ i. get_or q (i - 1) 0) e ∙ swapped.0 0 in
      let x : get_or r a 0 ≡ get_or r s 0 = ap (λ i. get_or r i 0) e in
      let y : get_or r (a - 1) 0 ≡ get_or r (s - 1) 0 = ap (λ i. get_or r (i - 1) 0) e in
      gap_by g s a r q (pos 2) (path_coefficient g h a s j k ∙ ap (λ n. coefficient_of n (ltb a s)) (on_path a s e))
      (same_parts (omega (arith, ints)) (omega (arith, ints)))

  gap_after : (a : ℕ) → Letter g a → a ≡ s + 1 → gaps q a ≡ stepped g s (gaps r) a
  gap_after a j e =
      let b = k.from_one in
      let m : a - 1 ≡ s = omega arith in
      let u : get_or q a 0 ≡ get_or r a 0 = swapped.2 a 0 (omega arith) (omega arith) in
      let v : get_or q (a - 1) 0 ≡ get_or r (s - 1) 0 = ap (λ i. get_or q i 0) m ∙ swapped.1 0 in
      let y : get_or r (a - 1) 0 ≡ get_or r s 0 = ap (λ i. get_or r i 0) m in
      gap_by g s a r q (negsuc 0) (path_coefficient g h a s j k ∙ ap (λ n. coefficient_of n (ltb a s)) (by_path a s (inl e)))
      (same_parts (omega (arith, ints)) (omega (arith, ints)))

  gap_before : (a : ℕ) → Letter g a → s ≡ a + 1 → gaps q a ≡ stepped g s (gaps r) a
  gap_before a j e =
      let b = j.from_one in
      let m : a ≡ s - 1 = omega arith in
      let u : get_or q a 0 ≡ get_or r s 0 = ap (λ i. get_or q i 0) m ∙ swapped.0 0 in
      let v : get_or q (a - 1) 0 ≡ get_or r (a - 1) 0 = swapped.2 (a - 1) 0 (omega arith) (omega arith) in
      let x : get_or r a 0 ≡ get_or r (s - 1) 0 = ap (λ i. get_or r i 0) m in
      gap_by g s a r q (negsuc 0) (path_coefficient g h a s j k ∙ ap (λ n. coefficient_of n (ltb a s)) (by_path a s (inr e)))
      (same_parts (omega (arith, ints)) (omega (arith, ints)))

  gap_far : (a : ℕ) → Letter g a → a ≢ s → a ≢ s + 1 → s ≢ a + 1 → gaps q a ≡ stepped g s (gaps r) a
  gap_far a j d e f =
      let b = j.from_one in let c = k.from_one in
      let u : get_or q a 0 ≡ get_or r a 0 = swapped.2 a 0 (omega arith) (omega arith) in
      let v : get_or q (a - 1) 0 ≡ get_or r (a - 1) 0 = swapped.2 (a - 1) 0 (omega arith) (omega arith) in
      gap_by g s a r q (pos 0) (path_coefficient g h a s j k ∙ ap (λ n. coefficient_of n (ltb a s)) (off_path a s d e f))
      (same_parts (omega (arith, ints)) (omega (arith, ints)))

  pub gaps_stepped : (a : ℕ) → Letter g a → gaps q a ≡ stepped g s (gaps r) a
  gaps_stepped a j =
      ⊎_elim (gap_here a j) (λ d. ⊎_elim (gap_after a j) (λ e. ⊎_elim (gap_before a j) (λ f. gap_far a j d e f) (cases_eq s (a + 1))) (cases_eq a (s + 1))) (cases_eq a s)

  pub arranged_exchanged : (n : ℕ) → s < n → Arranged n r → Arranged n q
  arranged_exchanged n below h m i j = by (h m i j)
    where
      by : (p : ℕ) × (p < n) × (get_or r p 0 ≡ m) → (p : ℕ) × (p < n) × (get_or q p 0 ≡ m)
      by (p, b, e) =
          ⊎_elim (λ (d : p ≡ s). (s - 1, omega arith, swapped.0 0 ∙ ap (λ x. get_or r x 0) (sym d) ∙ e))
          (λ d. ⊎_elim (λ (f : p ≡ s - 1). (s, below, swapped.1 0 ∙ ap (λ x. get_or r x 0) (sym f) ∙ e)) (λ f. (p, b, swapped.2 p 0 f d ∙ e)) (cases_eq p (s - 1))) (cases_eq p s)

  pub exchanged_beyond : (n : ℕ) → s < n → drop n q ≡ drop n r
  exchanged_beyond n below =
      ap (drop n) (swapped.3 0) ∙ drop-set-lt n (set r (s - 1) (get_or r s 0)) s (get_or r (s - 1) 0) below ∙ drop-set-lt n r (s - 1) (get_or r s 0) (omega arith)

  pub exchanged_stands : (w : Word) → Stands g r w → Stands g q (w ++ (s ∷ []))
  exchanged_stands w h =
      let b = k.to_rank in
      record {
        arranged = arranged_exchanged (rank g + 1) (omega arith) h.arranged;
        shows = step_shows g s (gaps r) (gaps q) w k gaps_stepped h.shows;
      }

-- at home every gap is 1
pub home_gaps : (g : Matrix) (r : List ℕ) → ((i : ℕ) → i < rank g + 1 → get_or r i 0 ≡ i + 1) → Shows g (gaps r) []
home_gaps g r h = record {
  letters = tt;
  shown = λ a k.
      let b = k.from_one in let c = k.to_rank in
      let p = h a (omega arith) in let q = h (a - 1) (omega arith) in
      same_parts (omega (arith, ints)) refl;
}

pub home_stands : (g : Matrix) (r : List ℕ) → ((i : ℕ) → i < rank g + 1 → get_or r i 0 ≡ i + 1) → Stands g r []
home_stands g r h = record {
  arranged = λ m i j. let d : m - 1 + 1 ≡ m = omega arith in (m - 1, omega arith, h (m - 1) (omega arith) ∙ d);
  shows = home_gaps g r h;
}

pub gap_negative : (x y : ℕ) → ltb x y ≡ negative (integer (pos x -ℤ pos y))
gap_negative x y = by (cases_lt x y)
  where
    by : (x < y) ⊎ (y ≤ x) → ltb x y ≡ negative (integer (pos x -ℤ pos y))
    by (inl h) =
        let a : ltb x y ≡ true = lt-ltb x y h in
        let b : lt_z (pos 2 *ℤ (pos x -ℤ pos y) +ℤ pos 0) (pos 0) ≡ true = sym (omega (arith, ints)) in
        a ∙ sym (cond-true _ _ _ b)
    by (inr h) =
        let a : ltb x y ≡ false = le-ltb x y h in
        let b : lt_z (pos 2 *ℤ (pos x -ℤ pos y) +ℤ pos 0) (pos 0) ≡ false = sym (omega (arith, ints)) in
        a ∙ sym (cond-false _ _ _ b)
