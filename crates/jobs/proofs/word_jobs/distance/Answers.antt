use Rattle.std.proofs.Common.{codes, rules}
use Rattle.jobs.proofs.CallAnswers.{number_answered}
use Rattle.jobs.proofs.word_jobs.distance.Goals as goal

pub returns-clause-answered : goal.returns-clause-answered
returns-clause-answered g c = number_answered (codes "distance") (search rules) c.in_ok-n.ensures.measured c.in_ok-number.ensures
