use Rattle.std.proofs.Common.{rules}
use Rattle.jobs.proofs.CallAnswers.{descents_answered}
use Rattle.jobs.proofs.word_jobs.descents.Goals as goal

pub returns-clause-answered : goal.returns-clause-answered
returns-clause-answered g c = descents_answered (search rules) c.in_ok-set.ensures.told c.in_ok-descents.ensures
