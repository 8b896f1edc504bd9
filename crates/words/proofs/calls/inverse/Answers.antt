use Rattle.words.proofs.Answering.{told_of}
use Rattle.words.proofs.calls.inverse.Goals as goal

pub returns-clause-told : goal.returns-clause-told
returns-clause-told g c = told_of (g.met.C.Carrier.laws c.args.carrier.now).lawful c.write.ensures.written
