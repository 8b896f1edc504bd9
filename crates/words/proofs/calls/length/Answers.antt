use Rattle.words.proofs.Answering.{lengths_of}
use Rattle.words.proofs.calls.length.Goals as goal

pub returns-clause-told : goal.returns-clause-told
returns-clause-told g c = lengths_of (g.met.C.Carrier.laws c.args.carrier.now).lawful c.measure.ensures.measured
