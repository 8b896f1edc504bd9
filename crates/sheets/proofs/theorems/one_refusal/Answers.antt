use Rattle.sheets.proofs.OneAnswer.{one_refusal_lem}
use Rattle.sheets.proofs.theorems.one_refusal.Goals as goal

pub returns : goal.returns
returns c = one_refusal_lem
