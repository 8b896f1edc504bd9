use Rattle.std.proofs.lemmas.List.{take_min}
use Rattle.lines.proofs.reader.Reader.new.Goals as goal

pub returns-clause-input : goal.returns-clause-input
returns-clause-input c = rw c.min.ensures (take_min 65536 c.args.input.now)
