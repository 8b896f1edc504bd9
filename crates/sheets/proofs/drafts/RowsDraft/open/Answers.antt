use Rattle.std.proofs.Common.{rules}
use Rattle.lines.proofs.SheetLines.{no_rank}
use Rattle.sheets.proofs.drafts.RowsDraft.open.Goals as goal

pub returns-in_err-value : goal.returns-in_err-value
returns-in_err-value c =
    let h = c.in_err-value.ensures in
    let unexpected = no_rank h.1 in
    search (rules, unexpected)
