use Rattle.sheets.proofs.Spelling.{rows_spell_once_lem}
use Rattle.sheets.proofs.theorems.rows_spell_once.Goals as goal

pub returns : goal.returns
returns c = rows_spell_once_lem
