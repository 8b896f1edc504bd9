use Rattle.std.proofs.Common.{◌<◌, sym, ap, ◌∙◌, arith}
use lib.Count.{ones}
use Rattle.words.proofs.Bits.{whole_shr, ones_letters}
use Rattle.words.proofs.descents.Descents.count.Goals as goal

pub returns : goal.returns
returns c =
    let b : c.args.self.bits < 256 = omega arith in
    let e = whole_shr c.args.self.bits in
    ap ones (sym e) ∙ ones_letters 8 0 c.args.self.bits (omega arith)
