-- The text of a sheet: its lines in their order, each with its byte 10.
use Rattle.std.specs.Prelude.{ℕ, ◌+◌, List, [], ◌∷◌, ◌++◌, length, codes}
use Rattle.coxeter.specs.Groups.{Matrix}
use Rattle.lines.specs.Lines.{row_key_bytes}
use Rattle.sheets.specs.Rows.{row_text}
use Rattle.sheets.specs.Kinds.{kind_name}
use Rattle.sheets.specs.declared.kinds.Kind.{Kind}

-- a key, the byte = and a value
abbrev pub keyed : List ℕ → List ℕ → List ℕ
keyed key value = key ++ 61 ∷ value

-- a line with its byte 10
abbrev pub ended : List ℕ → List ℕ
ended line = line ++ 10 ∷ []

-- a number below 10 as a digit
abbrev pub digit : ℕ → List ℕ
digit n = (48 + n) ∷ []

-- the lines of some rows, numbered on from n
abbrev pub rows_text : ℕ → List (List ℕ) → List ℕ
rows_text n [] = []
rows_text n (es ∷ rows) = ended (keyed (row_key_bytes (n + 1)) (row_text es)) ++ rows_text (n + 1) rows

-- the lines of a rank and the first rows
abbrev pub draft_text : ℕ → List (List ℕ) → List ℕ
draft_text n rows = ended (keyed (codes "rank") (digit n)) ++ rows_text 0 rows

-- the lines of a whole sheet: rank, rows and kind
abbrev pub sheet_text : Matrix → Kind → List ℕ
sheet_text m k = draft_text (length m) m ++ ended (keyed (codes "kind") (kind_name k))
