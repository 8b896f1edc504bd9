-- The coefficient by the answered exponent.
use Rattle.std.proofs.Common.{◌≡◌, ℕ, ltb, ap, arith}
use Rattle.std.proofs.lemmas.Bool.Decides.{nat_tests}
use Rattle.coxeter.specs.Groups.{Matrix, Letter, exponent, answered_exponent}
use Rattle.coxeter.specs.Points.{coefficient, coefficient_of}

-- at letters the answer is the exponent
answered_is : (g : Matrix) (a s : ℕ) → Letter g a → Letter g s → answered_exponent g a s ≡ exponent g a s
answered_is g a s j k = let b = j.from_one in let c = j.to_rank in let d = k.from_one in let e = k.to_rank in grind (arith, nat_tests)

pub coefficient_answered : (g : Matrix) (a s : ℕ) → Letter g a → Letter g s → coefficient_of (answered_exponent g a s) (ltb a s) ≡ coefficient g a s
coefficient_answered g a s j k = ap (λ (x : ℕ). coefficient_of x (ltb a s)) (answered_is g a s j k)
