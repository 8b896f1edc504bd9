use Rattle.std.proofs.Common.{◌++◌, map, rules}
use Rattle.lines.specs.Letters.{letter_of}
use Rattle.jobs.proofs.word_jobs.product.Goals as goal

pub returns-clause-answered : goal.returns-clause-answered
returns-clause-answered g c = c.by_form.ensures.answered (map letter_of c.args.first.now ++ map letter_of c.args.second.now) (search rules)
