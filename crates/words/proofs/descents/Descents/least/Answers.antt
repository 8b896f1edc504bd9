use Rattle.std.proofs.Common.{arith}
use Rattle.words.proofs.Bits.{least_some}
use Rattle.words.proofs.descents.Descents.least.Goals as goal

pub returns : goal.returns
returns c =
    let n = c.if-self-eq0.false in
    least_some c.args.self.bits (omega arith) (omega arith)
