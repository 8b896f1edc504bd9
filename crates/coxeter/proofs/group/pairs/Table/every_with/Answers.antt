use Rattle.std.proofs.Common.{ℕ, ◌+◌, ◌-◌, Bool, true, false, refl, arith, rules}
use Rattle.std.proofs.lemmas.Iterator.{cases_from_all, YieldsList-from_range}
use Rattle.coxeter.specs.Tables.{place}
use Rattle.coxeter.proofs.Matrices.{cut_letter}
use Rattle.coxeter.proofs.PairRules.{letters_told, with_told}
use Rattle.coxeter.proofs.group.pairs.Table.every_with.Goals as goal

pub returns : goal.returns
returns g c =
    let n = c.args.self.now.rank in let rows = c.args.self.now.rows.now in let s = c.args.s in
    let says : ℕ → Bool → Type 0 = λ t r. goal.F-post g c.args.rule.now s t (place rows (s - 1) (t - 1)) (place rows (t - 1) (s - 1)) r in
    let numbers = cases_from_all _ _ _ (λ j. says (j + 1) true) (λ j. says (j + 1) false) c.all.ensures.ran
    (YieldsList-from_range 0 n n refl (omega arith)) (λ t q k. search rules) (λ t q k. search rules) in
    with_told n rows (goal.F-post g c.args.rule.now) s (cut_letter n rows s c.requires.letter.0 c.requires.letter.1) c.all.result
    (letters_told n rows (λ t. says t true) (λ t. says t false) c.all.result numbers)
