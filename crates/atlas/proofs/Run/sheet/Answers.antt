use Rattle.std.proofs.Common.{sym, ap, subst, arith}
use Rattle.coxeter.specs.Matrices.{matrix}
use Rattle.coxeter.specs.Pairs.{Path}
use Rattle.coxeter.proofs.Matrices.{cut_rank}
use Rattle.atlas.proofs.SheetCarriers.{line_carries}
use Rattle.atlas.proofs.Run.sheet.Goals as goal

pub on_line-requires : goal.on_line-requires
on_line-requires c =
    let wide = cut_rank c.group-group.result.rank c.group-group.result.rows in
    record {
      wide = omega (arith, wide, c.group-group.result.few);
      kind = subst Path (ap matrix (sym c.group-group.ensures)) (line_carries (matrix c.args.sheet.group) c.args.sheet.kind (sym c.in-Line.ensures) c.args.sheet.carried);
    }
