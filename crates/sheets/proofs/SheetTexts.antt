-- The text of a sheet, one line after another.
use Rattle.std.proofs.Common.{◌≡◌, ℕ, suc, ◌+◌, List, [], ◌∷◌, ◌++◌, length, codes, sym, ap, ◌∙◌, append_assoc, append-nil, arith}
use Rattle.lines.specs.Lines.{row_key_bytes}
use Rattle.sheets.specs.Rows.{row_text}
use Rattle.sheets.specs.Texts.{keyed, ended, digit, rows_text, draft_text}

-- the line of row n
abbrev row_line : ℕ → List ℕ → List ℕ
row_line n es = ended (keyed (row_key_bytes n) (row_text es))

rows_text_more : (n : ℕ) (rows : List (List ℕ)) (es : List ℕ) → rows_text n (rows ++ es ∷ []) ≡ rows_text n rows ++ row_line (n + length rows + 1) es
rows_text_more n [] es =
    let z : n + 0 + 1 ≡ n + 1 = omega arith in
    append-nil (row_line (n + 1) es) ∙ ap (λ m. row_line m es) (sym z)
rows_text_more n (r ∷ rows) es =
    let z : n + 1 + length rows + 1 ≡ n + suc (length rows) + 1 = omega arith in
    ap (λ l. row_line (n + 1) r ++ l) (rows_text_more (n + 1) rows es ∙ ap (λ m. rows_text (n + 1) rows ++ row_line m es) z)
    ∙ sym (append_assoc (row_line (n + 1) r) (rows_text (n + 1) rows) (row_line (n + suc (length rows) + 1) es))

-- a draft with one row more
pub draft_more : (n : ℕ) (rows : List (List ℕ)) (es : List ℕ) → draft_text n (rows ++ es ∷ []) ≡ draft_text n rows ++ row_line (length rows + 1) es
draft_more n rows es =
    let z : 0 + length rows + 1 ≡ length rows + 1 = omega arith in
    ap (λ l. ended (keyed (codes "rank") (digit n)) ++ l) (rows_text_more 0 rows es ∙ ap (λ m. rows_text 0 rows ++ row_line m es) z)
    ∙ sym (append_assoc (ended (keyed (codes "rank") (digit n))) (rows_text 0 rows) (row_line (length rows + 1) es))
