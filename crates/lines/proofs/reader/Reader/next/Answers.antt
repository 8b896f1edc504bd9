use Rattle.std.proofs.Common.{arith, rules}
use Rattle.lines.specs.Cuts.{Cut}
use Rattle.lines.proofs.Cutting.{cut_shorter}
use Rattle.lines.proofs.Placing.{one_more}
use Rattle.lines.proofs.reader.Reader.next.Goals as goal

pub invariant_of-self : goal.invariant_of-self
invariant_of-self c =
    let reader = c.args.self.now in
    let cut : Cut 10 reader.rest.now c.in_ok-bytes.bytes.now c.in_ok-bytes.rest.now = search rules in
    record { place = one_more reader.lines reader.input.now reader.place cut; few = omega (arith, cut_shorter cut, reader.few) }
