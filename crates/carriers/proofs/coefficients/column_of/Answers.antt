use Rattle.std.proofs.Common.{◌≡◌, ℕ, ◌+◌, ◌-◌, ◌≢◌, ltb, ap, ◌∙◌, arith, rules, length-set, below_more}
use Rattle.std.proofs.lemmas.List.{get_or-set_same, get_or-set_other}
use Rattle.coxeter.specs.Groups.{answered_exponent}
use Rattle.coxeter.specs.Points.{coefficient, coefficient_of}
use Rattle.coxeter.specs.Matrices.{matrix}
use Rattle.coxeter.proofs.Matrices.{cut_letter}
use Rattle.numbers.specs.Coefficients.{worth, zero}
use Rattle.carriers.specs.CarrierLaws.{matrix_rank}
use Rattle.carriers.proofs.Exponents.{coefficient_answered}
use Rattle.carriers.proofs.coefficients.column_of.Goals as goal

pub loop-i-preserved : goal.loop-i-preserved
loop-i-preserved c =
    let group = c.args.group.now in
    let m = matrix group in
    let i = c.loop-i.i in
    let column = c.loop-i.column in
    let new = c.of_exponent.result in
    let told : worth new ≡ coefficient_of (answered_exponent m (i + 1) c.args.s) (ltb (i + 1) c.args.s) = search rules in (
      simp length-set c.loop-i.invariant.0,
      λ h. below_more _ _ (λ k d. let ne : k ≢ i = omega arith in ap worth (get_or-set_other column i k new zero ne) ∙ c.loop-i.invariant.1 h k d)
          (ap worth (get_or-set_same column i new zero (omega (arith, c.loop-i.invariant.0))) ∙ told ∙ coefficient_answered m (i + 1) c.args.s (cut_letter group.rank group.rows (i + 1) (omega arith) (omega arith)) h),
    )

pub returns : goal.returns
returns c h a l =
    let group = c.args.group.now in
    let n = matrix_rank group in
    let i = l.from_one in
    let j = l.to_rank in
    let same : a - 1 + 1 ≡ a = omega arith in
    c.loop-i.invariant.1 h (a - 1) (omega arith) ∙ ap (λ (k : ℕ). coefficient (matrix group) k c.args.s) same
