-- A whole sheet, read from the lines of a reader.
use Rattle.std.specs.Prelude.{◌≡◌, ℕ, ◌+◌, List, ◌++◌, length}
use Rattle.coxeter.specs.Matrices.{matrix}
use Rattle.lines.specs.Cuts.{Cut, Free}
use Rattle.lines.specs.declared.faults.LineFault.TheVariants.{Unfinished}
use Rattle.lines.specs.declared.located.Located.{Located}
use Rattle.lines.specs.declared.reader.Reader.{Reader}
use Rattle.sheets.specs.Kinds.{Carries}
use Rattle.sheets.specs.Texts.{sheet_text}
use Rattle.sheets.specs.Stages.{Stage, rank_due, read_text, lines_read, Reached, Refuses}
use Rattle.sheets.specs.Drafts.{Checked}
use Rattle.sheets.specs.declared.drafts.KindDraft.{KindDraft}
use Rattle.sheets.specs.declared.drafts.CheckedDraft.{CheckedDraft}
use Rattle.sheets.specs.declared.drafts.Sheet.{Sheet}
use Rattle.sheets.specs.declared.faults.SheetFault.{SheetFault}
use Rattle.sheets.specs.declared.faults.SheetFault.TheVariants.{Line}

-- where the reader stood, the input went on with the text of the sheet s, and then with what is left after it
pub record SheetRead (before after : Reader) (s : Sheet) : Type 0 where
  pub text : before.rest.now ≡ sheet_text (matrix s.group) s.kind ++ after.rest.now
  pub carried : Carries s.kind (matrix s.group)
  pub count : after.lines ≡ before.lines + length (matrix s.group) + 2
  pub input : after.input.now ≡ before.input.now

-- no whole line is left: the next line is unfinished, and the reader stays as it was
pub record NoSheetLine (before after : Reader) (e : Located SheetFault) : Type 0 where
  pub free : Free 10 before.rest.now
  pub line : e.line ≡ before.lines + 1
  pub fault : e.fault ≡ Line (Unfinished (length before.rest.now))
  pub kept : after ≡ before

-- rest, behind n lines, goes on with no whole line, and the reader stays there; or with a line that is refused at the stage g, and the reader is behind it
pub data RefusesNext (g : Stage) (rest : List ℕ) (n : ℕ) (after : Reader) (f : SheetFault) : Type 0 where
  unfinished : Free 10 rest → f ≡ Line (Unfinished (length rest)) → after.rest.now ≡ rest → after.lines ≡ n → RefusesNext g rest n after f
  refused : (line : List ℕ) → Cut 10 rest line after.rest.now → Refuses g line f → after.lines ≡ n + 1 → RefusesNext g rest n after f

-- from the stage g on, the input went on with the right lines up to some stage, and what comes next is refused
pub record RefusedFrom (g : Stage) (before after : Reader) (e : Located SheetFault) : Type 0 where
  pub stage : Stage
  pub reached : Reached stage
  pub lines : ℕ
  pub rest : List ℕ
  pub text : read_text g ++ before.rest.now ≡ read_text stage ++ rest
  pub count : lines + lines_read g ≡ before.lines + lines_read stage
  pub line : e.line ≡ lines + 1
  pub fault : RefusesNext stage rest lines after e.fault
  pub input : after.input.now ≡ before.input.now

-- a sheet is refused at the first line that is not right
abbrev pub SheetRefused : Reader → Reader → Located SheetFault → Type 0
SheetRefused before after e = RefusedFrom rank_due before after e

-- from the stage g on, right lines led to the stage h
pub record Leads (g : Stage) (before : Reader) (h : Stage) (after : Reader) : Type 0 where
  pub text : read_text g ++ before.rest.now ≡ read_text h ++ after.rest.now
  pub count : after.lines + lines_read g ≡ before.lines + lines_read h
  pub reached : Reached h
  pub input : after.input.now ≡ before.input.now

-- the kind's line makes a checked draft of d
pub record KindRead (d : KindDraft) (before after : Reader) (c : CheckedDraft) : Type 0 where
  pub line : List ℕ
  pub cut : Cut 10 before.rest.now line after.rest.now
  pub checked : Checked d line c
  pub count : after.lines ≡ before.lines + 1
  pub input : after.input.now ≡ before.input.now
