use Rattle.std.proofs.Common.{codes, rules}
use Rattle.jobs.proofs.CallAnswers.{number_answered}
use Rattle.jobs.proofs.word_jobs.length.Goals as goal

pub returns-clause-answered : goal.returns-clause-answered
returns-clause-answered g c = number_answered (codes "length") (search rules) c.in_ok-n.ensures.measured c.in_ok-number.ensures
