-- How many lines a text has: its bytes 10.
use Rattle.std.proofs.Common.{◌≡◌, ℕ, zero, suc, ◌+◌, cond, eqb, List, [], ◌∷◌, ◌++◌, length, codes, refl, ap, arith}
use Rattle.std.proofs.lemmas.Bool.{cond-true, cond-false, eq-eqb, ne_eqb}
use Rattle.lines.specs.Cuts.{Free}
use Rattle.lines.specs.Lines.{row_key_bytes}
use Rattle.lines.proofs.Cutting.{free_tail}
use Rattle.sheets.specs.Rows.{row_text}
use Rattle.sheets.specs.Texts.{keyed, ended, digit, rows_text, draft_text}
use Rattle.sheets.specs.Stages.{Stage, rank_due, row_due, kind_due, read_text, lines_read, Advances}
use Rattle.sheets.proofs.Spelling.{rank_free, row_free}

-- the number of bytes 10
tens : List ℕ → ℕ
tens [] = 0
tens (x ∷ xs) = cond (eqb x 10) 1 0 + tens xs

tens_join : (xs ys : List ℕ) → tens (xs ++ ys) ≡ tens xs + tens ys
unfolding tens
tens_join [] ys = omega arith
tens_join (x ∷ xs) ys = omega (arith, tens_join xs ys)

free_tens : (xs : List ℕ) → Free 10 xs → tens xs ≡ 0
unfolding tens
free_tens [] f = refl
free_tens (x ∷ xs) f = omega (arith, cond-false {A = ℕ} (eqb x 10) 1 0 (ne_eqb x 10 (f 0 (omega arith))), free_tens xs (free_tail 10 x xs f))

tens_free : (xs : List ℕ) → tens xs ≡ 0 → Free 10 xs
unfolding tens
tens_free [] h k l e = omega arith
tens_free (x ∷ xs) h zero l e = omega (arith, cond-true {A = ℕ} (eqb x 10) 1 0 (eq-eqb x 10 e))
tens_free (x ∷ xs) h (suc k) l e = tens_free xs (omega arith) k (omega arith) e

ended_tens : (line : List ℕ) → tens (ended line) ≡ tens line + 1
unfolding tens
ended_tens line = tens_join line (10 ∷ [])

rows_tens : (n : ℕ) (rows : List (List ℕ)) → tens (rows_text n rows) ≡ length rows
unfolding tens
rows_tens n [] = refl
rows_tens n (es ∷ rows) =
    let line = keyed (row_key_bytes (n + 1)) (row_text es) in
    omega (arith, tens_join (ended line) (rows_text (n + 1) rows), ended_tens line, free_tens line (row_free (n + 1) es), rows_tens (n + 1) rows)

draft_tens : (n : ℕ) (rows : List (List ℕ)) → tens (draft_text n rows) ≡ length rows + 1
draft_tens n rows =
    let line = keyed (codes "rank") (digit n) in
    omega (arith, tens_join (ended line) (rows_text 0 rows), ended_tens line, free_tens line (rank_free n), rows_tens 0 rows)

stage_tens : (g : Stage) → tens (read_text g) ≡ lines_read g
unfolding tens
stage_tens rank_due = refl
stage_tens (row_due n rows) = draft_tens n rows
stage_tens (kind_due m) = draft_tens (length m) m

-- what leads from one stage to the next is one line
pub one_line : (g h : Stage) (line : List ℕ) → Advances g line h → Free 10 line
one_line g h line a =
    tens_free line (omega (arith, a.count, ap tens a.text, tens_join (read_text g) (ended line), ended_tens line, stage_tens g, stage_tens h))
