use Rattle.std.proofs.Common.{◌≡◌, ℕ, ◌<◌, map, length, get_or}
use Rattle.carriers.specs.Rows.{nought, numbers}
use Rattle.carriers.specs.Steps.{Moved}
use Rattle.carriers.proofs.point.step_point.Given as goal

abbrev pub invariant-loop-i : goal.invariant-loop-i
invariant-loop-i g l = (length l.fresh ≡ 8) × Moved l.i l.column (numbers (map g.N.Number.value l.x-items) l.s) (map g.N.Number.value l.x-items) (map g.N.Number.value l.fresh)

abbrev pub invariant-loop-k : goal.invariant-loop-k
invariant-loop-k g l = (length l.fresh ≡ 8) × ((j : ℕ) → j < l.k → get_or (map g.N.Number.value l.row) j nought ≡ get_or (map g.N.Number.value l.fresh) j nought)
