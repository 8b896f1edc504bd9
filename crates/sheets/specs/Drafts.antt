-- What a draft says of the lines that were read, and what a finished sheet is.
use Rattle.std.specs.Prelude.{◌≡◌, ℕ, List, codes}
use Rattle.coxeter.specs.Matrices.{matrix}
use Rattle.sheets.specs.Rows.{Writable}
use Rattle.sheets.specs.Fitting.{AllExponentsFit}
use Rattle.sheets.specs.Filling.{part}
use Rattle.sheets.specs.Kinds.{kind_name, Carries}
use Rattle.sheets.specs.Texts.{keyed}
use Rattle.sheets.specs.Stages.{Stage, row_due, kind_due}
use Rattle.sheets.specs.declared.drafts.RowsDraft.{RowsDraft}
use Rattle.sheets.specs.declared.drafts.KindDraft.{KindDraft}
use Rattle.sheets.specs.declared.drafts.CheckedDraft.{CheckedDraft}
use Rattle.sheets.specs.declared.drafts.Draft.{Draft}
use Rattle.sheets.specs.declared.drafts.Draft.TheVariants.{Rows, Kind}

-- the stage of a draft that wants rows
abbrev pub rows_stage : RowsDraft → Stage
rows_stage d = row_due d.rank (part d.rank d.done d.rows)

-- the stage of a draft that wants its kind
abbrev pub kind_stage : KindDraft → Stage
kind_stage d = kind_due (matrix d.group)

-- the stage of a draft
abbrev pub draft_stage : Draft → Stage
draft_stage (Rows d) = rows_stage d
draft_stage (Kind d) = kind_stage d

-- the exponents are the row that comes next: as many as the rank, which can be written and may stand there
pub record FitsNext (d : RowsDraft) (es : List ℕ) : Type 0 where
  pub writable : Writable es
  pub fit : AllExponentsFit d.rows d.done es d.rank

-- the kind's line makes a checked draft of d: it names a kind that can carry the group
pub record Checked (d : KindDraft) (line : List ℕ) (c : CheckedDraft) : Type 0 where
  pub text : line ≡ keyed (codes "kind") (kind_name c.sheet.kind)
  pub group : c.sheet.group ≡ d.group
  pub carried : Carries c.sheet.kind (matrix d.group)
