use Rattle.std.proofs.Common.{◌≡◌, ℕ, ◌+◌, ◌<◌, length, get_or}
use Rattle.coxeter.specs.Groups.{Letter}
use Rattle.coxeter.specs.Points.{coefficient}
use Rattle.coxeter.specs.Matrices.{matrix}
use Rattle.numbers.specs.Coefficients.{worth, zero}
use Rattle.carriers.proofs.coefficients.column_of.Given as goal

abbrev pub invariant-loop-i : goal.invariant-loop-i
invariant-loop-i l = (length l.column ≡ 8) × (Letter (matrix l.group) l.s → (k : ℕ) → k < l.i → worth (get_or l.column k zero) ≡ coefficient (matrix l.group) (k + 1) l.s)
