use Rattle.std.proofs.Common.{arith}
use Rattle.coxeter.specs.Matrices.{matrix}
use Rattle.coxeter.proofs.Matrices.{lawful_of, letter_within}
use Rattle.carriers.specs.Lines.{gaps}
use Rattle.carriers.proofs.Standing.{descent_told}
use Rattle.carriers.proofs.Exchanges.{gap_negative}
use Rattle.carriers.proofs.one_line.carrying.OneLineCarrier.descends.Goals as goal

pub bounds-self-s : goal.bounds-self-s
bounds-self-s c =
    let x = c.args.self.now in let w = x.wide in omega (arith, letter_within x.group.rank x.group.rows c.args.s (c.has_letter.ensures.0 c.if-has_letter.true))

pub bounds-self-s-then-has_letter : goal.bounds-self-s-then-has_letter
bounds-self-s-then-has_letter c =
    let x = c.args.self.now in let w = x.wide in omega (arith, letter_within x.group.rank x.group.rows c.args.s (c.has_letter.ensures.0 c.if-has_letter.true))

pub returns-then-has_letter-clause-told : goal.returns-then-has_letter-clause-told
returns-then-has_letter-clause-told c w h =
    let x = c.args.self.now in
    let m = matrix x.group in
    descent_told m (gaps x.row.now) w c.args.s _ (lawful_of m x.group.lawful) (c.has_letter.ensures.0 c.if-has_letter.true) h.shows (gap_negative _ _)
