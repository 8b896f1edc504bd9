use Rattle.carriers.specs.CarrierLaws.{chamber_laws}
use Rattle.carriers.proofs.chamber.carrying.ChamberCarrier.rank.Goals as goal

pub returns-clause-laws : goal.returns-clause-laws
returns-clause-laws g c =
    let x = c.args.self.now in chamber_laws g.N.Number.value x.group x.row.now x.wide g.N.Number.fits g.met.N.Number.unit g.met.N.Number.within
