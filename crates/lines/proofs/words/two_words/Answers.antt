use Rattle.std.proofs.Common.{rules}
use Rattle.lines.proofs.NoJobs.{no_slash, no_second}
use Rattle.lines.proofs.words.two_words.Goals as goal

pub returns-in_err-first : goal.returns-in_err-first
returns-in_err-first c = let none = no_slash c.in_err-first.ensures in search (rules, none)

pub returns-in_err-one_word : goal.returns-in_err-one_word
returns-in_err-one_word c = let none = no_second c.in_ok-first.ensures c.in_err-one_word.ensures in search (rules, none)
