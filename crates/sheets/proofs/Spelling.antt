-- A row's bytes: they spell one list of exponents at most, have one first wrong place, and no byte 10.
use Rattle.std.proofs.Common.{◌≡◌, ℕ, zero, suc, ◌+◌, ◌≢◌, List, [], ◌∷◌, ◌++◌, codes, sym, refl, ap, ◌∙◌, ⊎_elim, arith}
use mathlib.Core.List.{append_cancel_left, tail-eq_of_cons-eq}
use Rattle.std.proofs.lemmas.Bool.{cases_order}
use Rattle.lines.specs.Cuts.{Free}
use Rattle.lines.specs.Lines.{row_key_bytes}
use Rattle.sheets.specs.Rows.{exponent_text, after_text, row_text, column_place, Writable, Stops}
use Rattle.sheets.specs.Fitting.{Misfit}
use Rattle.sheets.specs.Kinds.{kind_name}
use Rattle.sheets.specs.Texts.{keyed, digit}
use Rattle.sheets.specs.Theorems.{RowsSpellOnce}
use Rattle.sheets.specs.declared.kinds.Kind.{Kind}
use Rattle.sheets.specs.declared.kinds.Kind.TheVariants.{Whole, Golden, Line}
use Rattle.sheets.proofs.RowReading.{one_exponent}

-- ---- one list of exponents
after_once : (es fs : List ℕ) → Writable es → Writable fs → after_text es ≡ after_text fs → es ≡ fs
after_once [] [] v w h = refl
after_once [] (f ∷ fs) v w h = cc
after_once (e ∷ es) [] v w h = cc
after_once (e ∷ es) (f ∷ fs) v w h =
    let same = one_exponent e f v.0 w.0 (after_text es) (after_text fs) (tail-eq_of_cons-eq h) in
    let more = after_once es fs v.1 w.1 same.1 in
    λ i. same.0 i ∷ more i

row_once : (es fs : List ℕ) → Writable es → Writable fs → row_text es ≡ row_text fs → es ≡ fs
row_once [] [] v w h = refl
row_once [] (zero ∷ fs) v w h = cc
row_once [] (suc f ∷ fs) v w h = cc
row_once (zero ∷ es) [] v w h = cc
row_once (suc e ∷ es) [] v w h = cc
row_once (e ∷ es) (f ∷ fs) v w h =
    let same = one_exponent e f v.0 w.0 (after_text es) (after_text fs) h in
    let more = after_once es fs v.1 w.1 same.1 in
    λ i. same.0 i ∷ more i

pub rows_spell_once_lem : RowsSpellOnce
rows_spell_once_lem bs es fs s t = row_once es fs s.writable t.writable (sym s.spelled ∙ t.spelled)

-- ---- one place
pub one_stop : {text : List ℕ → List ℕ} {n : ℕ} {bs : List ℕ} {j k : ℕ} → Stops text n bs j → Stops text n bs k → j ≡ k
one_stop {j = j} {k = k} s t =
    ⊎_elim (λ e. e) (⊎_elim (λ l. absurd (s.bad k l t.within t.good)) (λ l. absurd (t.bad j l s.within s.good))) (cases_order j k)

pub one_misfit : {rows : List (List ℕ)} {r : ℕ} {es : List ℕ} {p q : ℕ} → Misfit rows r es p → Misfit rows r es q → p ≡ q
one_misfit {es = es} m o =
    ⊎_elim
    (λ e. m.at ∙ ap (column_place es) e ∙ sym o.at)
    (⊎_elim (λ l. absurd (m.wrong (o.before m.column l))) (λ l. absurd (o.wrong (m.before o.column l))))
    (cases_order m.column o.column)

-- ---- one value behind a key
pub one_value : (key v w : List ℕ) → keyed key v ≡ keyed key w → v ≡ w
one_value key v w e = tail-eq_of_cons-eq (append_cancel_left key (61 ∷ v) (61 ∷ w) e)

-- ---- no byte 10
-- no byte of the list is 10
abbrev Clear : List ℕ → Type 0
Clear [] = Unit {0}
Clear (x ∷ xs) = (x ≢ 10) × Clear xs

clear_join : (xs ys : List ℕ) → Clear xs → Clear ys → Clear (xs ++ ys)
clear_join [] ys f g = g
clear_join (x ∷ xs) ys f g = (f.0, clear_join xs ys f.1 g)

clear_free : (xs : List ℕ) → Clear xs → Free 10 xs
clear_free [] f k h e = omega arith
clear_free (x ∷ xs) f zero h e = f.0 e
clear_free (x ∷ xs) f (suc k) h e = clear_free xs f.1 k (omega arith) e

exponent_clear : (e : ℕ) → Clear (exponent_text e)
exponent_clear zero = (omega arith, (omega arith, (omega arith, tt)))
exponent_clear (suc n) = (omega arith, tt)

after_clear : (es : List ℕ) → Clear (after_text es)
after_clear [] = tt
after_clear (e ∷ es) = (omega arith, clear_join (exponent_text e) (after_text es) (exponent_clear e) (after_clear es))

row_clear : (es : List ℕ) → Clear (row_text es)
row_clear [] = tt
row_clear (e ∷ es) = clear_join (exponent_text e) (after_text es) (exponent_clear e) (after_clear es)

name_clear : (k : Kind) → Clear (kind_name k)
name_clear Whole = (omega arith, (omega arith, (omega arith, (omega arith, (omega arith, tt)))))
name_clear Golden = (omega arith, (omega arith, (omega arith, (omega arith, (omega arith, (omega arith, tt))))))
name_clear Line = (omega arith, (omega arith, (omega arith, (omega arith, tt))))

-- the lines of a sheet
line_free : (a b c d : ℕ) (v : List ℕ) → a ≢ 10 → b ≢ 10 → c ≢ 10 → d ≢ 10 → Clear v → Free 10 (keyed (a ∷ b ∷ c ∷ d ∷ []) v)
line_free a b c d v p q r s f = clear_free (keyed (a ∷ b ∷ c ∷ d ∷ []) v) (p, (q, (r, (s, (omega arith, f)))))

pub rank_free : (n : ℕ) → Free 10 (keyed (codes "rank") (digit n))
rank_free n = line_free 114 97 110 107 (digit n) (omega arith) (omega arith) (omega arith) (omega arith) (omega arith, tt)

pub row_free : (n : ℕ) (es : List ℕ) → Free 10 (keyed (row_key_bytes n) (row_text es))
row_free n es = line_free 114 111 119 (48 + n) (row_text es) (omega arith) (omega arith) (omega arith) (omega arith) (row_clear es)

pub kind_free : (k : Kind) → Free 10 (keyed (codes "kind") (kind_name k))
kind_free k = line_free 107 105 110 100 (kind_name k) (omega arith) (omega arith) (omega arith) (omega arith) (name_clear k)

-- ---- one kind
pub one_name : (j k : Kind) → kind_name j ≡ kind_name k → j ≡ k
one_name Whole Whole e = refl
one_name Whole Golden e = cc
one_name Whole Line e = cc
one_name Golden Whole e = cc
one_name Golden Golden e = refl
one_name Golden Line e = cc
one_name Line Whole e = cc
one_name Line Golden e = cc
one_name Line Line e = refl
