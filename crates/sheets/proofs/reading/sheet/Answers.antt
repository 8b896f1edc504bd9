use Rattle.std.proofs.Common.{subst, sym}
use Rattle.sheets.specs.Reading.{SheetRead}
use Rattle.sheets.proofs.ReadingSteps.{leads_on, sheet_read}
use Rattle.sheets.proofs.reading.sheet.Goals as goal

pub returns : goal.returns
returns c =
    subst (SheetRead c.args.reader.now c.kind.new.reader) (sym c.finish.ensures)
    (sheet_read c.in_ok-full.full c.in_ok-checked.checked (leads_on c.in_ok-draft.ensures c.in_ok-full.ensures) c.in_ok-checked.ensures)
