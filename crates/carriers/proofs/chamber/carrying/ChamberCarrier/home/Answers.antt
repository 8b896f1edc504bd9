use Rattle.std.proofs.Common.{◌++◌, drop, length-append, arith}
use Rattle.carriers.specs.CarrierLaws.{chamber_laws}
use Rattle.carriers.proofs.chamber.carrying.ChamberCarrier.home.Goals as goal

pub returns-clause-laws : goal.returns-clause-laws
returns-clause-laws g c =
    let x = c.args.self.now in
    let w = x.wide in
    let rest = drop c.rank-n.result x.row.now in
    let front = c.set_start.new.row in
    chamber_laws g.N.Number.value x.group (front ++ rest) (omega (arith, length-append front rest)) g.N.Number.fits g.met.N.Number.unit g.met.N.Number.within
