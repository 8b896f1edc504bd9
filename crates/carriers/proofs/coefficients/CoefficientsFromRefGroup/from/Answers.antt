use Rattle.std.proofs.Common.{◌≡◌, ℕ, ◌+◌, ◌-◌, ◌≢◌, List, [], get_or, sym, subst, arith, length-set, below_more}
use Rattle.std.proofs.lemmas.List.{get_or-set_same, get_or-set_other}
use Rattle.coxeter.specs.Groups.{Letter}
use Rattle.coxeter.specs.Matrices.{matrix}
use Rattle.numbers.specs.declared.coefficient.Coefficient.{Coefficient}
use Rattle.carriers.specs.Tables.{Column}
use Rattle.carriers.specs.CarrierLaws.{matrix_rank}
use Rattle.carriers.proofs.coefficients.CoefficientsFromRefGroup.from.Goals as goal

pub loop-i-preserved : goal.loop-i-preserved
loop-i-preserved c =
    let m = matrix c.args.group.now in
    let i = c.loop-i.i in
    let columns = c.loop-i.columns in
    let new = c.column_of.result in (
      simp length-set c.loop-i.invariant.0,
      below_more _ _
          (λ k d l.
          let ne : k ≢ i = omega arith in
          subst (λ (q : List Coefficient). Column m (k + 1) q) (sym (get_or-set_other columns i k new [] ne)) (c.loop-i.invariant.1 k d l))
          (λ l. subst (λ (q : List Coefficient). Column m (i + 1) q) (sym (get_or-set_same columns i new [] (omega (arith, c.loop-i.invariant.0)))) (c.column_of.ensures l)),
    )

pub returns : goal.returns
returns c s l =
    let m = matrix c.args.group.now in
    let n = matrix_rank c.args.group.now in
    let i = l.from_one in
    let j = l.to_rank in
    let same : s - 1 + 1 ≡ s = omega arith in
    subst (λ (b : ℕ). Letter m b → Column m b (get_or c.loop-i.columns (s - 1) [])) same (c.loop-i.invariant.1 (s - 1) (omega arith)) l
