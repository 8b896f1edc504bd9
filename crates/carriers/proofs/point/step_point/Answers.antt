use Rattle.std.proofs.Common.{get_or, sym, ap, ◌∙◌, arith, rules, length-set}
use Rattle.carriers.specs.Rows.{nought}
use Rattle.carriers.proofs.Values.{written_more, value_read, taken_more}
use Rattle.carriers.proofs.point.step_point.Goals as goal

pub loop-i-preserved : goal.loop-i-preserved
loop-i-preserved g c = (
  simp length-set c.loop-i.invariant.0,
  taken_more g.N.Number.value nought c.args.row.now c.loop-i.fresh c.args.column.now c.args.s c.loop-i.i c.x-item.result c.index-row-s.result _ (omega arith) (omega arith) (omega arith) c.x-item.is c.index-row-s.is
      (search rules) c.loop-i.invariant.1,
)

pub loop-k-preserved : goal.loop-k-preserved
loop-k-preserved g c =
    let x = get_or c.loop-i.fresh c.loop-k.k c.index-fresh-k.result in (
      c.loop-k.invariant.0,
      written_more g.N.Number.value nought _ c.loop-k.row c.loop-k.k x (omega arith) c.loop-k.invariant.1
          (ap g.N.Number.value (sym c.index-fresh-k.is) ∙ value_read g.N.Number.value nought c.loop-i.fresh c.loop-k.k c.index-fresh-k.result (omega arith) c.index-fresh-k.is),
    )
