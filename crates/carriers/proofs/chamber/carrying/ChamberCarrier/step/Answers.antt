use Rattle.std.proofs.Common.{◌++◌, take, drop, length-append, arith}
use Rattle.std.proofs.lemmas.List.{take-append-drop, length-take-le}
use Rattle.carriers.proofs.Chambers.{chamber_steps}
use Rattle.carriers.specs.CarrierLaws.{chamber_laws}
use Rattle.carriers.proofs.chamber.carrying.ChamberCarrier.step.Goals as goal

pub returns-clause-told : goal.returns-clause-told
returns-clause-told g c =
    let x = c.args.self.now in
    let n = c.rank-n.result in
    let w = x.wide in
    let e = length-take-le n x.row.now (omega arith) in
    chamber_steps g.N.Number.value g.N.Number.fits g.met.N.Number.within x c.args.s (c.has_letter.ensures.0 c.if-not-has_letter.false) (take n x.row.now) (drop n x.row.now) c.step_point.new.row
    (take-append-drop n x.row.now) (omega arith) (omega arith) _ _ c.step_point.result c.step_point.ensures

pub returns-then-not-has_letter-clause-laws : goal.returns-then-not-has_letter-clause-laws
returns-then-not-has_letter-clause-laws g c =
    let x = c.args.self.now in chamber_laws g.N.Number.value x.group x.row.now x.wide g.N.Number.fits g.met.N.Number.unit g.met.N.Number.within

pub returns-clause-laws : goal.returns-clause-laws
returns-clause-laws g c =
    let x = c.args.self.now in
    let w = x.wide in
    let rest = drop c.rank-n.result x.row.now in
    let front = c.step_point.new.row in
    chamber_laws g.N.Number.value x.group (front ++ rest) (omega (arith, length-append front rest)) g.N.Number.fits g.met.N.Number.unit g.met.N.Number.within
