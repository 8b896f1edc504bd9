-- The places of the exponents of a row.
use Rattle.std.proofs.Common.{◌≡◌, ℕ, zero, suc, ◌+◌, ◌*◌, ◌<◌, ◌≤◌, List, [], ◌∷◌, length, get_or, take, sum_by, refl, arith}
use Rattle.std.proofs.lemmas.List.Sums.{sum_by-cons}
use Rattle.sheets.specs.Rows.{exponent_text, column_place}
use Rattle.sheets.specs.Fitting.{Fits, AllExponentsFit, Misfit}

-- the place of a column counts the bytes of the exponents before it, with one space behind each
place_sum : (es : List ℕ) (c : ℕ) → sum_by (λ e. length (exponent_text e) + 1) (take c es) ≡ column_place es c
place_sum [] zero = refl
place_sum [] (suc c) = refl
place_sum (e ∷ es) zero = refl
place_sum (e ∷ es) (suc c) = omega (arith, sum_by-cons (λ e. length (exponent_text e) + 1) e (take c es), place_sum es c)

-- the first exponent that may not stand there
pub misfit_at : (rows : List (List ℕ)) (r : ℕ) (es : List ℕ) (c : ℕ) → c < length es → AllExponentsFit rows r es c → (Fits rows r c (get_or es c 0) → ⊥) → Misfit rows r es (sum_by (λ e. length (exponent_text e) + 1) (take c es))
misfit_at rows r es c h before wrong = record { column = c; inside = h; before = before; wrong = wrong; at = place_sum es c }

text_short : (e : ℕ) → length (exponent_text e) ≤ 3
text_short (suc d) = omega arith
text_short zero = omega arith

pub place_short : (es : List ℕ) (c : ℕ) → column_place es c ≤ 4 * c
place_short [] c = omega arith
place_short (e ∷ es) zero = omega arith
place_short (e ∷ es) (suc c) = omega (arith, place_short es c, text_short e)
