-- How far a sheet has been read, and what the next line may say.
use Rattle.std.specs.Prelude.{◌≡◌, ℕ, ◌+◌, ◌<◌, ◌≤◌, List, [], ◌++◌, length, codes, ◌≢◌, slice_index_or}
use Rattle.coxeter.specs.Groups.{Matrix, Lawful}
use Rattle.lines.specs.Lines.{row_key_bytes}
use Rattle.lines.specs.declared.faults.LineFault.TheVariants.{Unfinished, Unexpected}
use Rattle.sheets.specs.Rows.{row_text, Spells, Stops}
use Rattle.sheets.specs.Fitting.{Misfit}
use Rattle.sheets.specs.Filling.{Filled}
use Rattle.sheets.specs.Kinds.{kind_name, Carries}
use Rattle.sheets.specs.Texts.{keyed, ended, digit, draft_text}
use Rattle.sheets.specs.declared.kinds.Kind.{Kind}
use Rattle.sheets.specs.declared.faults.SheetFault.{SheetFault}
use Rattle.sheets.specs.declared.faults.SheetFault.TheVariants as fault

-- which line is due: the rank's; the next row's, after a rank and some rows; or the kind's, after all rows of a matrix
pub data Stage : Type 0 where
  rank_due : Stage
  row_due : ℕ → List (List ℕ) → Stage
  kind_due : Matrix → Stage

-- the lines that were read
abbrev pub read_text : Stage → List ℕ
read_text rank_due = []
read_text (row_due n rows) = draft_text n rows
read_text (kind_due m) = draft_text (length m) m

-- how many lines were read
abbrev pub lines_read : Stage → ℕ
lines_read rank_due = 0
lines_read (row_due n rows) = length rows + 1
lines_read (kind_due m) = length m + 1

-- a rank from 1 to 8 and fewer rows than that, each of as many exponents, which may stand there
pub record RowsBegun (n : ℕ) (rows : List (List ℕ)) : Type 0 where
  pub some : 1 ≤ n
  pub few : n ≤ 8
  pub left : length rows < n
  pub wide : (r : ℕ) → r < length rows → length (slice_index_or rows r []) ≡ n
  pub filled : Filled n (length rows) rows

-- the lines that were read were right
abbrev pub Reached : Stage → Type 0
Reached rank_due = Unit {0}
Reached (row_due n rows) = RowsBegun n rows
Reached (kind_due m) = Lawful m

-- the line leads from the stage g to the stage h
pub record Advances (g : Stage) (line : List ℕ) (h : Stage) : Type 0 where
  pub text : read_text h ≡ read_text g ++ ended line
  pub count : lines_read h ≡ lines_read g + 1
  pub reached : Reached h

-- the key that is due
abbrev pub key_due : Stage → List ℕ
key_due rank_due = codes "rank"
key_due (row_due n rows) = row_key_bytes (length rows + 1)
key_due (kind_due m) = codes "kind"

-- the rank's line has a value that is not one digit from 1 to 8
pub record WrongRank (g : Stage) (line : List ℕ) : Type 0 where
  pub value : List ℕ
  pub stage : g ≡ rank_due
  pub keyed_so : line ≡ keyed (key_due g) value
  pub wrong : (n : ℕ) → 1 ≤ n → n ≤ 8 → value ≢ digit n

-- the row's line does not spell as many exponents as the rank; p is the place of its first wrong byte
pub record WrongRow (g : Stage) (line : List ℕ) (p : ℕ) : Type 0 where
  pub rank : ℕ
  pub rows : List (List ℕ)
  pub value : List ℕ
  pub right : ℕ
  pub stage : g ≡ row_due rank rows
  pub keyed_so : line ≡ keyed (key_due g) value
  pub stops : Stops row_text rank value right
  pub place : p ≡ 5 + right

-- the row's line spells exponents of which one may not stand there; p is the place of the first such
pub record WrongEntry (g : Stage) (line : List ℕ) (p : ℕ) : Type 0 where
  pub rank : ℕ
  pub rows : List (List ℕ)
  pub exponents : List ℕ
  pub right : ℕ
  pub stage : g ≡ row_due rank rows
  pub size : length exponents ≡ rank
  pub spelled : (value : List ℕ) × (line ≡ keyed (key_due g) value) × Spells row_text value exponents
  pub misfit : Misfit rows (length rows) exponents right
  pub place : p ≡ 5 + right

-- the kind's line names no kind that can carry the group
pub record WrongKind (g : Stage) (line : List ℕ) : Type 0 where
  pub matrix : Matrix
  pub value : List ℕ
  pub stage : g ≡ kind_due matrix
  pub keyed_so : line ≡ keyed (key_due g) value
  pub wrong : (k : Kind) → value ≡ kind_name k → Carries k matrix → ⊥

-- what the line is refused for, at the stage g
abbrev pub Refuses : Stage → List ℕ → SheetFault → Type 0
Refuses g line (fault.Line (Unfinished n)) = ⊥
Refuses g line (fault.Line Unexpected) = (value : List ℕ) → line ≢ keyed (key_due g) value
Refuses g line fault.Rank = WrongRank g line
Refuses g line (fault.Row p) = WrongRow g line p
Refuses g line (fault.Entry p) = WrongEntry g line p
Refuses g line fault.Kind = WrongKind g line

-- the stage after the rank n and these rows
pub record Drafted (n : ℕ) (rows : List (List ℕ)) (h : Stage) : Type 0 where
  pub text : read_text h ≡ draft_text n rows
  pub count : lines_read h ≡ length rows + 1
  pub reached : Reached h
