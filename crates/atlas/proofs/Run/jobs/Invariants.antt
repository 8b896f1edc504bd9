use Rattle.std.proofs.Common.{length}
use Rattle.atlas.proofs.Run.jobs.Given as goal

abbrev pub decreases-loop-self : goal.decreases-loop-self
decreases-loop-self g l = length l.self.reader.rest.now
