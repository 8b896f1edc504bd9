use Rattle.std.proofs.Common.{pos, arith}
use Rattle.coxeter.specs.Numbers.{integer}
use Rattle.carriers.specs.Rows.{nought}
use Rattle.carriers.proofs.Values.{written_more}
use Rattle.carriers.proofs.point.set_start.Goals as goal

pub loop-x-preserved : goal.loop-x-preserved
loop-x-preserved g c = written_more g.N.Number.value nought (λ k. integer (pos 1)) c.loop-x.row c.loop-x.x-index c.one-one.result (omega arith) c.loop-x.invariant c.one-one.ensures
