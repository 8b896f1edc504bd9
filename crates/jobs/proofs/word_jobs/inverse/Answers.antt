use Rattle.std.proofs.Common.{map, reverse, rules}
use Rattle.lines.specs.Letters.{letter_of}
use Rattle.jobs.proofs.word_jobs.inverse.Goals as goal

pub returns-clause-answered : goal.returns-clause-answered
returns-clause-answered g c = c.by_form.ensures.answered (reverse (map letter_of c.args.bytes.now)) (search rules)
