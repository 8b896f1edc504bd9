use Rattle.carriers.specs.CarrierLaws.{line_laws}
use Rattle.carriers.proofs.one_line.carrying.OneLineCarrier.rank.Goals as goal

pub returns-clause-laws : goal.returns-clause-laws
returns-clause-laws c = line_laws c.args.self.now.group c.args.self.now.row.now
