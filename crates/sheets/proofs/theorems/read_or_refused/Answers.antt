use Rattle.sheets.proofs.OneAnswer.{read_or_refused_lem}
use Rattle.sheets.proofs.theorems.read_or_refused.Goals as goal

pub returns : goal.returns
returns c = read_or_refused_lem
