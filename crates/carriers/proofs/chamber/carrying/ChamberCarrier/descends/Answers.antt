use Rattle.std.proofs.Common.{map, arith}
use Rattle.coxeter.specs.Matrices.{matrix}
use Rattle.coxeter.proofs.Matrices.{lawful_of, letter_within}
use Rattle.carriers.specs.Rows.{numbers}
use Rattle.carriers.proofs.Standing.{descent_told}
use Rattle.carriers.proofs.chamber.carrying.ChamberCarrier.descends.Goals as goal

pub is_negative_at-requires : goal.is_negative_at-requires
is_negative_at-requires g c =
    let x = c.args.self.now in
    let k = c.has_letter.ensures.0 c.if-has_letter.true in
    let w = x.wide in (k.from_one, omega (arith, letter_within x.group.rank x.group.rows c.args.s k))

pub returns-then-has_letter-clause-told : goal.returns-then-has_letter-clause-told
returns-then-has_letter-clause-told g c w h =
    let x = c.args.self.now in
    let m = matrix x.group in
    descent_told m (numbers (map g.N.Number.value x.row.now)) w c.args.s c.is_negative_at.result (lawful_of m x.group.lawful) (c.has_letter.ensures.0 c.if-has_letter.true) h c.is_negative_at.ensures
