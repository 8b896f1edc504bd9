use Rattle.std.proofs.Common.{◌≡◌, ℕ, ◌<◌, map, get_or, pos}
use Rattle.coxeter.specs.Numbers.{integer}
use Rattle.carriers.specs.Rows.{nought}
use Rattle.carriers.proofs.point.set_start.Given as goal

abbrev pub invariant-loop-x : goal.invariant-loop-x
invariant-loop-x g l = (k : ℕ) → k < l.x-index → get_or (map g.N.Number.value l.row) k nought ≡ integer (pos 1)
