use Rattle.std.proofs.Common.{ℕ, ◌+◌, Bool, true, false, refl, arith, rules}
use Rattle.std.proofs.lemmas.Iterator.{cases_from_all, YieldsList-from_range}
use Rattle.coxeter.specs.Tables.{cut}
use Rattle.coxeter.specs.Pairs.{TellsWith}
use Rattle.coxeter.proofs.PairRules.{letters_told, pairs_told}
use Rattle.coxeter.proofs.group.pairs.Table.every_pair.Goals as goal

pub returns : goal.returns
returns g c =
    let n = c.args.self.now.rank in let rows = c.args.self.now.rows.now in
    let says : ℕ → Bool → Type 0 = λ s r. TellsWith (goal.F-post g c.args.rule) (cut n rows) s r in
    let numbers = cases_from_all _ _ _ (λ i. says (i + 1) true) (λ i. says (i + 1) false) c.all.ensures.ran
    (YieldsList-from_range 0 n n refl (omega arith)) (λ s q k. search rules) (λ s q k. search rules) in
    pairs_told n rows (goal.F-post g c.args.rule) c.all.result (letters_told n rows (λ s. says s true) (λ s. says s false) c.all.result numbers)
