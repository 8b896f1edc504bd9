use Rattle.std.proofs.Common.{arith, refl, rules}
use Rattle.coxeter.specs.Tables.{cut}
use Rattle.coxeter.specs.Pairs.{IsLawfulPair}
use Rattle.coxeter.proofs.Matrices.{cut_rank, pairs_lawful, lawful_pairs}
use Rattle.coxeter.proofs.PairRules.{decided}
use Rattle.coxeter.proofs.Tests.{decides_false}
use Rattle.coxeter.proofs.group.Group.check.Goals as goal

pub returns-then-rank-eq0 : goal.returns-then-rank-eq0
returns-then-rank-eq0 c = decides_false (λ h. omega (arith, cut_rank c.args.rank c.args.rows.now, h.some, h.few, c.then-rank-eq0.either))

pub returns : goal.returns
returns c =
    let n = c.args.rank in let rows = c.args.rows.now in
    let pairs = decided c.every_pair.ensures IsLawfulPair (cut n rows) refl (λ s t m back e. search rules) (λ s t m back e k. search rules) in
    (λ e. pairs_lawful n rows (omega arith) (omega arith) (pairs.0 e), λ h. pairs.1 (lawful_pairs (cut n rows) h))
