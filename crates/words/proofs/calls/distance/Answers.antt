use Rattle.words.proofs.Answering.{apart_of}
use Rattle.words.proofs.calls.distance.Goals as goal

pub returns-clause-told : goal.returns-clause-told
returns-clause-told g c = apart_of (g.met.C.Carrier.laws c.args.carrier.now).lawful c.args.u.now c.args.v.now c.measure.ensures.measured
