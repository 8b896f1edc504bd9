-- Rows whose texts begin the same bytes: they are the same, or one list goes on behind the other.
use Rattle.std.proofs.Common.{◌≡◌, ℕ, ◌+◌, List, [], ◌∷◌, ◌++◌, length, sym, refl, ◌∙◌, append_assoc, arith}
use Rattle.lines.specs.Cuts.{Cut}
use Rattle.lines.specs.Lines.{row_key_bytes}
use Rattle.lines.proofs.Cutting.{one_cut}
use Rattle.sheets.specs.Rows.{row_text, Writable}
use Rattle.sheets.specs.Texts.{keyed, ended, rows_text}
use Rattle.sheets.proofs.Spelling.{rows_spell_once_lem, one_value, row_free}

-- every row can be written
abbrev pub Written : List (List ℕ) → Type 0
Written [] = Unit {0}
Written (es ∷ rows) = Writable es × Written rows

-- rows' goes on behind rows, and its next row's line stands in tail; the lines are numbered on from n
pub record Extends (n : ℕ) (rows : List (List ℕ)) (tail : List ℕ) (rows' : List (List ℕ)) : Type 0 where
  pub row : List ℕ
  pub more : List (List ℕ)
  pub back : List ℕ
  pub number : ℕ
  pub longer : rows' ≡ rows ++ row ∷ more
  pub numbered : number ≡ n + length rows + 1
  pub cut : Cut 10 tail (keyed (row_key_bytes number) (row_text row)) back

-- the rows are the same, or one list goes on behind the other
pub data Compared (n : ℕ) (rows : List (List ℕ)) (tail : List ℕ) (rows' : List (List ℕ)) (tail' : List ℕ) : Type 0 where
  same : rows ≡ rows' → tail ≡ tail' → Compared n rows tail rows' tail'
  shorter : Extends n rows tail rows' → Compared n rows tail rows' tail'
  longer : Extends n rows' tail' rows → Compared n rows tail rows' tail'

-- a line, its byte 10 and what follows
pub regroup : (line a b : List ℕ) → (ended line ++ a) ++ b ≡ line ++ 10 ∷ (a ++ b)
regroup line a b = simp append_assoc

extends_first : (n : ℕ) (es : List ℕ) (rows : List (List ℕ)) (tail tail' : List ℕ) → tail ≡ rows_text n (es ∷ rows) ++ tail' → Extends n [] tail (es ∷ rows)
extends_first n es rows tail tail' e = record {
  row = es;
  more = rows;
  back = rows_text (n + 1) rows ++ tail';
  number = n + 1;
  longer = refl;
  numbered = omega arith;
  cut = record { whole = sym (e ∙ regroup (keyed (row_key_bytes (n + 1)) (row_text es)) (rows_text (n + 1) rows) tail'); none = row_free (n + 1) es };
}

extends_more : (n : ℕ) (es es' : List ℕ) (rows rows' : List (List ℕ)) (tail : List ℕ) → es ≡ es' → Extends (n + 1) rows tail rows' → Extends n (es ∷ rows) tail (es' ∷ rows')
extends_more n es es' rows rows' tail e x = record {
  row = x.row;
  more = x.more;
  back = x.back;
  number = x.number;
  longer = λ i. sym e i ∷ x.longer i;
  numbered = omega (arith, x.numbered);
  cut = x.cut;
}

compared_more : (n : ℕ) (es es' : List ℕ) (rows rows' : List (List ℕ)) (tail tail' : List ℕ) → es ≡ es' → Compared (n + 1) rows tail rows' tail' → Compared n (es ∷ rows) tail (es' ∷ rows') tail'
compared_more n es es' rows rows' tail tail' e (same p q) = same (λ i. e i ∷ p i) q
compared_more n es es' rows rows' tail tail' e (shorter x) = shorter (extends_more n es es' rows rows' tail e x)
compared_more n es es' rows rows' tail tail' e (longer x) = longer (extends_more n es' es rows' rows tail' (sym e) x)

pub compare : (n : ℕ) (rows rows' : List (List ℕ)) (tail tail' : List ℕ) → Written rows → Written rows' → rows_text n rows ++ tail ≡ rows_text n rows' ++ tail' → Compared n rows tail rows' tail'
compare n [] [] tail tail' v w e = same refl e
compare n [] (es ∷ rows) tail tail' v w e = shorter (extends_first n es rows tail tail' e)
compare n (es ∷ rows) [] tail tail' v w e = longer (extends_first n es rows tail' tail (sym e))
compare n (es ∷ rows) (es' ∷ rows') tail tail' v w e =
    let line = keyed (row_key_bytes (n + 1)) (row_text es) in
    let line' = keyed (row_key_bytes (n + 1)) (row_text es') in
    let back = rows_text (n + 1) rows in
    let back' = rows_text (n + 1) rows' in
    let cut = one_cut 10 line (back ++ tail) line' (back' ++ tail') (row_free (n + 1) es) (row_free (n + 1) es') (sym (regroup line back tail) ∙ e ∙ regroup line' back' tail') in
    let value = one_value (row_key_bytes (n + 1)) (row_text es) (row_text es') cut.0 in
    let first = rows_spell_once_lem (row_text es) es es' (record { spelled = refl; writable = v.0 }) (record { spelled = value; writable = w.0 }) in
    compared_more n es es' rows rows' tail tail' first (compare (n + 1) rows rows' tail tail' v.1 w.1 cut.1)
