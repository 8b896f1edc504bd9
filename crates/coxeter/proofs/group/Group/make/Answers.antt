use Rattle.std.proofs.Common.{arith}
use Rattle.coxeter.proofs.Matrices.{cut_rank}
use Rattle.coxeter.proofs.group.Group.make.Goals as goal

pub invariant_of-result : goal.invariant_of-result
invariant_of-result c =
    let l = cut_rank c.args.rank c.args.rows in
    record { some = omega (arith, l, c.requires.lawful.some); few = omega (arith, l, c.requires.lawful.few); lawful = ∣ c.requires.lawful ∣₁ }
