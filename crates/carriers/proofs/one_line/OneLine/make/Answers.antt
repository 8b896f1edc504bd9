use Rattle.std.proofs.Common.{arith, rules}
use Rattle.coxeter.specs.Matrices.{matrix}
use Rattle.carriers.specs.CarrierLaws.{matrix_rank}
use Rattle.carriers.proofs.Standing.{full_exactly}
use Rattle.carriers.proofs.one_line.OneLine.make.Goals as goal

pub invariant_of-line : goal.invariant_of-line
invariant_of-line c = let n = matrix_rank c.args.group in let w = c.requires.wide in record { wide = omega arith; path = ∣ c.requires.kind ∣₁ }

pub returns-clause-reach : goal.returns-clause-reach
returns-clause-reach c w = full_exactly (matrix c.args.group) _ (search rules) w
