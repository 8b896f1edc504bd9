-- The rows that a table has so far: one row more, and all of them.
use Rattle.std.proofs.Common.{◌≡◌, ℕ, zero, suc, ◌+◌, ◌<◌, ◌≤◌, ◌≢◌, List, [], ◌∷◌, ◌++◌, map, length, get_or, take, set, sym, refl, ap, ◌∙◌, subst, ⊎_elim, arith}
use mathlib.Core.Logic.{∥∥₁_elim}
use native.Mathlib.Nat.{ℕ_set}
use native.Mathlib.Bridge.{le_prop}
use mathlib.Core.HLevel.{¬_prop}
use Rattle.std.specs.List.{range_with_len}
use Rattle.std.proofs.lemmas.List.FromFn.{length-map-range_with_len, get_or-map-range_with_len, map-range_with_len_more, fill_by_all}
use Rattle.std.proofs.lemmas.List.{get_or-set_same, get_or-set_other, get_or-take, length-take-le}
use Rattle.std.proofs.lemmas.Bool.{cases_lt}
use Rattle.coxeter.specs.Groups.{Lawful}
use Rattle.coxeter.specs.Tables.{place, cut}
use Rattle.coxeter.proofs.Matrices.{lawful_of_places, front_by_places}
use Rattle.sheets.specs.Rows.{Writable}
use Rattle.sheets.specs.Fitting.{Fits, AllExponentsFit, Misfit}
use Rattle.sheets.specs.Filling.{part, Filled}

-- ---- there is one proof at most that rows are filled
filled_prop : (n k : ℕ) (rows : List (List ℕ)) → IsProp (Filled n k rows)
filled_prop n k rows p q i = record {
  small = λ r c h j. le_prop (p.small r c h j) (q.small r c h j) i;
  fits = λ r c h j. record {
    diagonal = λ e. ℕ_set _ _ ((p.fits r c h j).diagonal e) ((q.fits r c h j).diagonal e) i;
    unlike = λ d. ¬_prop ((p.fits r c h j).unlike d) ((q.fits r c h j).unlike d) i;
    mirrored = λ l. ℕ_set _ _ ((p.fits r c h j).mirrored l) ((q.fits r c h j).mirrored l) i;
  };
}

pub filled_of : (n k : ℕ) (rows : List (List ℕ)) → ∥ Filled n k rows ∥₁ → Filled n k rows
filled_of n k rows h = ∥∥₁_elim h (filled_prop n k rows) (λ x. x)

-- ---- the rows that are there, as a list
pub part_length : (n k : ℕ) (rows : List (List ℕ)) → length (part n k rows) ≡ k
part_length n k rows = length-map-range_with_len (λ i. map (λ j. place rows i j) (range_with_len 0 n)) 0 k

part_row : (n k : ℕ) (rows : List (List ℕ)) (i : ℕ) → i < k → get_or (part n k rows) i [] ≡ map (λ j. place rows i j) (range_with_len 0 n)
part_row n k rows i h = get_or-map-range_with_len (λ i. map (λ j. place rows i j) (range_with_len 0 n)) 0 k i i [] h (omega arith)

pub part_wide : (n k : ℕ) (rows : List (List ℕ)) (i : ℕ) → i < k → length (get_or (part n k rows) i []) ≡ n
part_wide n k rows i h = ap length (part_row n k rows i h) ∙ length-map-range_with_len (λ j. place rows i j) 0 n

part_place : (n k : ℕ) (rows : List (List ℕ)) (i j : ℕ) → i < k → j < n → place (part n k rows) i j ≡ place rows i j
part_place n k rows i j h l = ap (λ r. get_or r j 0) (part_row n k rows i h) ∙ get_or-map-range_with_len (λ j. place rows i j) 0 n j j 0 l (omega arith)

-- what may stand below rows depends on those rows alone
pub fits_elsewhere : (s t : List (List ℕ)) (r c e : ℕ) → (c < r → place s c r ≡ place t c r) → Fits s r c e → Fits t r c e
fits_elsewhere s t r c e same f = record { diagonal = f.diagonal; unlike = f.unlike; mirrored = λ l. f.mirrored l ∙ same l }

pub filled_part : (n k : ℕ) (rows : List (List ℕ)) → k ≤ n → Filled n k rows → Filled n k (part n k rows)
filled_part n k rows le f = record {
  small = λ r c h l. subst (λ e. e ≤ 6) (sym (part_place n k rows r c h l)) (f.small r c h l);
  fits = λ r c h l.
      subst (Fits (part n k rows) r c) (sym (part_place n k rows r c h l))
      (fits_elsewhere rows (part n k rows) r c (place rows r c) (λ m. sym (part_place n k rows c r (omega arith) (omega arith))) (f.fits r c h l));
}

pub misfit_part : (n k : ℕ) (rows : List (List ℕ)) (es : List ℕ) (p : ℕ) → k < n → Misfit rows k es p → Misfit (part n k rows) k es p
misfit_part n k rows es p lt m = record {
  column = m.column;
  inside = m.inside;
  before = λ c h. fits_elsewhere rows (part n k rows) k c (get_or es c 0) (λ l. sym (part_place n k rows c k l lt)) (m.before c h);
  wrong = λ f. m.wrong (fits_elsewhere (part n k rows) rows k m.column (get_or es m.column 0) (λ l. part_place n k rows m.column k l lt) f);
  at = m.at;
}

-- ---- one row more
writable_at : (es : List ℕ) (j : ℕ) → Writable es → j < length es → get_or es j 0 ≤ 6
writable_at [] j v h = absurd (omega arith)
writable_at (e ∷ es) zero v h = v.0
writable_at (e ∷ es) (suc j) v h = writable_at es j v.1 (omega arith)

module _ (n k : ℕ) (rows : List (List ℕ)) (new : List ℕ) (n≤ : n ≤ length new) (k< : k < n) (inside : k < length rows) where
  old_place : (i j : ℕ) → i < k → place (set rows k new) i j ≡ place rows i j
  old_place i j h = let ne : i ≢ k = omega arith in ap (λ r. get_or r j 0) (get_or-set_other rows k i new [] ne)

  new_place : (j : ℕ) → j < n → place (set rows k new) k j ≡ get_or (take n new) j 0
  new_place j h = ap (λ r. get_or r j 0) (get_or-set_same rows k new [] inside) ∙ sym (get_or-take n new j 0 h)

  pub part_more : part n (k + 1) (set rows k new) ≡ part n k rows ++ take n new ∷ []
  part_more =
      map-range_with_len_more (λ i. map (λ j. place (set rows k new) i j) (range_with_len 0 n)) 0 k k (omega arith)
      ∙ (λ i. old i ++ (last i ∷ []))
    where
      old : part n k (set rows k new) ≡ part n k rows
      old = fill_by_all (λ i. map (λ j. place rows i j) (range_with_len 0 n)) (part n k (set rows k new)) k [] (part_length n k (set rows k new)) (λ i h. part_row n k (set rows k new) i h ∙ ap (λ (r : List ℕ). map (λ j. get_or r j 0) (range_with_len 0 n)) (let ne : i ≢ k = omega arith in get_or-set_other rows k i new [] ne))

      last : map (λ j. place (set rows k new) k j) (range_with_len 0 n) ≡ take n new
      last = ap (λ (r : List ℕ). map (λ j. get_or r j 0) (range_with_len 0 n)) (get_or-set_same rows k new [] inside) ∙ front_by_places new n n≤

  refit : (i j e : ℕ) → i ≤ k → Fits rows i j e → Fits (set rows k new) i j e
  refit i j e h = fits_elsewhere rows (set rows k new) i j e (λ l. sym (old_place j i (omega arith)))

  pub filled_more : Filled n k rows → Writable (take n new) → AllExponentsFit rows k (take n new) n → Filled n (k + 1) (set rows k new)
  filled_more f v a = record {
    small = λ r c h l.
        ⊎_elim
        (λ lt. subst (λ e. e ≤ 6) (sym (old_place r c lt)) (f.small r c lt l))
        (λ ge. let same : k ≡ r = omega arith in subst (λ x. place (set rows k new) x c ≤ 6) same (subst (λ e. e ≤ 6) (sym (new_place c l)) (writable_at (take n new) c v (omega (arith, width)))))
        (cases_lt r k);
    fits = λ r c h l.
        ⊎_elim
        (λ lt. subst (Fits (set rows k new) r c) (sym (old_place r c lt)) (refit r c (place rows r c) (omega arith) (f.fits r c lt l)))
        (λ ge. let same : k ≡ r = omega arith in subst (λ x. Fits (set rows k new) x c (place (set rows k new) x c)) same (subst (Fits (set rows k new) k c) (sym (new_place c l)) (refit k c (get_or (take n new) c 0) (omega arith) (a c l))))
        (cases_lt r k);
  }
    where
      width : length (take n new) ≡ n
      width = length-take-le n new n≤

-- ---- all rows
pub filled_lawful : (n : ℕ) (rows : List (List ℕ)) → 1 ≤ n → n ≤ 8 → Filled n n rows → Lawful (cut n rows)
filled_lawful n rows low high f =
    lawful_of_places n rows low high (record {
      diagonal = λ i h. (f.fits i i h h).diagonal refl;
      unlike = λ i j h l d. (f.fits i j h l).unlike (λ e. d (sym e));
      small = λ i j h l. f.small i j h l;
      mirrored = λ i j h l. (f.fits i j h (omega arith)).mirrored l;
    })
