use Rattle.lines.proofs.Determined.{one_reading}
use Rattle.lines.proofs.laws.readings_are_determined.Goals as goal

pub returns : goal.returns
returns c = one_reading
