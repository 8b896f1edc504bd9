use Rattle.sheets.proofs.OneStep.{lines_answered_once_lem}
use Rattle.sheets.proofs.theorems.lines_answered_once.Goals as goal

pub returns : goal.returns
returns c = lines_answered_once_lem
