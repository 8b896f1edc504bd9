use Rattle.std.proofs.Common.{rules, MatchOption}
use Rattle.lines.specs.Lines.{NoReading, Reads}
use Rattle.lines.proofs.Keyed.{reading}
use Rattle.lines.proofs.keys.read.Goals as goal

pub returns : goal.returns
returns c =
    let found : MatchOption c.and_then.result (NoReading c.args.due c.args.line.now) (Reads c.args.due c.args.line.now) = reading _ _ _ c.split.result c.split.ensures (search rules) in
    search rules
