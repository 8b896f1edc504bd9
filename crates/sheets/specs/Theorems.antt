-- What is proved of rows, lines and sheets: the relations that describe them leave one answer. Each statement is the contract of a function of the crate.
use Rattle.std.specs.Prelude.{◌≡◌, ℕ, List}
use Rattle.coxeter.specs.Matrices.{matrix}
use Rattle.lines.specs.declared.located.Located.{Located}
use Rattle.lines.specs.declared.reader.Reader.{Reader}
use Rattle.sheets.specs.Rows.{row_text, Spells}
use Rattle.sheets.specs.Stages.{Stage, Reached, Advances, Refuses}
use Rattle.sheets.specs.Drafts.{kind_stage, Checked}
use Rattle.sheets.specs.Reading.{SheetRead, SheetRefused}
use Rattle.sheets.specs.declared.drafts.KindDraft.{KindDraft}
use Rattle.sheets.specs.declared.drafts.CheckedDraft.{CheckedDraft}
use Rattle.sheets.specs.declared.drafts.Sheet.{Sheet}
use Rattle.sheets.specs.declared.faults.SheetFault.{SheetFault}

-- bytes spell one row of exponents at most
abbrev pub RowsSpellOnce : Type 0
RowsSpellOnce = (bs es fs : List ℕ) → Spells row_text bs es → Spells row_text bs fs → es ≡ fs

-- two readers are at the same place of the same input
pub record SamePlace (a b : Reader) : Type 0 where
  pub rest : a.rest.now ≡ b.rest.now
  pub lines : a.lines ≡ b.lines
  pub input : a.input.now ≡ b.input.now

-- two sheets describe the same group and the same kind
pub record SameSheet (s t : Sheet) : Type 0 where
  pub group : matrix s.group ≡ matrix t.group
  pub kind : s.kind ≡ t.kind

-- a reader's next lines describe one sheet at most, and it ends at one place
abbrev pub OneSheet : Type 0
OneSheet = (before a b : Reader) (s t : Sheet) → SheetRead before a s → SheetRead before b t → SameSheet s t × SamePlace a b

-- a sheet that is read is not refused
abbrev pub ReadOrRefused : Type 0
ReadOrRefused = (before a b : Reader) (s : Sheet) (e : Located SheetFault) → SheetRead before a s → SheetRefused before b e → ⊥

-- a sheet is refused at one line and for one fault at most, and the reader is left at one place
abbrev pub OneRefusal : Type 0
OneRefusal = (before a b : Reader) (e f : Located SheetFault) → SheetRefused before a e → SheetRefused before b f → (e ≡ f) × SamePlace a b

-- at the stage g, the line leads to one stage at most, or is refused for one fault at most, and not both
pub record OneOutcome (g : Stage) (line : List ℕ) : Type 0 where
  pub onward : (h k : Stage) → Advances g line h → Advances g line k → h ≡ k
  pub refusal : (e f : SheetFault) → Refuses g line e → Refuses g line f → e ≡ f
  pub either : (h : Stage) (f : SheetFault) → Advances g line h → Refuses g line f → ⊥

-- behind right lines, every line is answered once
abbrev pub LinesAnsweredOnce : Type 0
LinesAnsweredOnce = (g : Stage) → Reached g → (line : List ℕ) → OneOutcome g line

-- the kind's line makes one checked draft of d at most, and then it is not refused
pub record OneKind (d : KindDraft) (line : List ℕ) : Type 0 where
  pub group : (b c : CheckedDraft) → Checked d line b → Checked d line c → b.sheet.group ≡ c.sheet.group
  pub kind : (b c : CheckedDraft) → Checked d line b → Checked d line c → b.sheet.kind ≡ c.sheet.kind
  pub either : (c : CheckedDraft) (f : SheetFault) → Checked d line c → Refuses (kind_stage d) line f → ⊥

-- every kind's line is answered once
abbrev pub KindsAnsweredOnce : Type 0
KindsAnsweredOnce = (d : KindDraft) (line : List ℕ) → OneKind d line
