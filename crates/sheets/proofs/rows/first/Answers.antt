use Rattle.std.proofs.Common.{rules}
use Rattle.sheets.proofs.FirstExponent.{halts_in, halts_i}
use Rattle.sheets.proofs.rows.first.Goals as goal

pub returns-in-105-2 : goal.returns-in-105-2
returns-in-105-2 c = search (rules, halts_in)

pub returns-in-105-3 : goal.returns-in-105-3
returns-in-105-3 c = search (rules, halts_i)
