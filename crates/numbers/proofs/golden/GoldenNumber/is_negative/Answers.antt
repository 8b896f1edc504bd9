use Rattle.std.proofs.Common.{◌+ℤ◌, ◌*ℤ◌, pos, arith, w64, SFits}
use Rattle.std.proofs.lemmas.Int.{ints, to_z-of_z}
use Rattle.numbers.proofs.golden.GoldenNumber.is_negative.Goals as goal

pub returns : goal.returns
returns c =
    let a = c.args.self.now.a.value in
    let b = c.args.self.now.b.value in
    let f : SFits w64 a = omega (arith, ints) in
    let g : SFits w64 b = omega (arith, ints) in
    let h : SFits w64 (pos 2 *ℤ a) = omega (arith, ints) in
    let k : SFits w64 (pos 2 *ℤ a +ℤ b) = omega (arith, ints) in
    simp to_z-of_z at c.is_negative_sum.ensures
