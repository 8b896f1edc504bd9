use Rattle.std.proofs.Common.{◌≡◌, ℕ, ◌+◌, ◌<◌, [], length, get_or}
use Rattle.coxeter.specs.Groups.{Letter}
use Rattle.coxeter.specs.Matrices.{matrix}
use Rattle.carriers.specs.Tables.{Column}
use Rattle.carriers.proofs.coefficients.CoefficientsFromRefGroup.from.Given as goal

abbrev pub invariant-loop-i : goal.invariant-loop-i
invariant-loop-i l = (length l.columns ≡ 8) × ((k : ℕ) → k < l.i → Letter (matrix l.group) (k + 1) → Column (matrix l.group) (k + 1) (get_or l.columns k []))
