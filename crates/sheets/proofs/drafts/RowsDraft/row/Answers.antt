use Rattle.std.proofs.Common.{rules, arith}
use Rattle.lines.specs.declared.faults.LineFault.TheVariants.{Unexpected}
use Rattle.lines.proofs.SheetLines.{no_row}
use Rattle.sheets.specs.Stages.{Refuses}
use Rattle.sheets.specs.Drafts.{rows_stage}
use Rattle.sheets.specs.declared.faults.SheetFault.TheVariants.{Line}
use Rattle.sheets.proofs.StageSteps.{row_unexpected}
use Rattle.sheets.proofs.drafts.RowsDraft.row.Goals as goal

pub returns-in_err-value : goal.returns-in_err-value
returns-in_err-value c =
    let h = c.in_err-value.ensures in
    let unexpected : Refuses (rows_stage c.args.self) c.args.line.now (Line Unexpected) = row_unexpected _ _ _ _ (no_row _ (omega arith) (omega arith) h.1) in
    search (rules, unexpected)
