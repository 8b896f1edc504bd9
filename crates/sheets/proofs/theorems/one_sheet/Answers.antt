use Rattle.sheets.proofs.OneAnswer.{one_sheet_lem}
use Rattle.sheets.proofs.theorems.one_sheet.Goals as goal

pub returns : goal.returns
returns c = one_sheet_lem
