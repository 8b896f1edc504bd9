use Rattle.std.proofs.Common.{rules, ◌≡◌, ℕ, ◌+◌, sym, refl, ◌∙◌, arith}
use Rattle.std.proofs.lemmas.Iterator.{cases_from_all, YieldsList-from_range}
use borrow.Author.Tests.{tests}
use Rattle.coxeter.specs.Groups.{Letter, answered_exponent}
use Rattle.words.proofs.Ranges.{passed}
use Rattle.words.proofs.Comparing.{letters_decided, group_decided}
use Rattle.words.proofs.elements.same_group.Goals as goal

pub returns-then-n-rank : goal.returns-then-n-rank
returns-then-n-rank g c =
    let Yes = λ (s : ℕ). (t : ℕ) → Letter (g.C.Carrier.frame c.args.c.now).group t → answered_exponent (g.C.Carrier.frame c.args.c.now).group s t ≡ answered_exponent (g.D.Carrier.frame c.args.d.now).group s t in
    let No = λ (s : ℕ). Yes s → ⊥ in
    group_decided (g.C.Carrier.frame c.args.c.now).group (g.D.Carrier.frame c.args.d.now).group (g.met.C.Carrier.laws c.args.c.now).lawful (g.met.D.Carrier.laws c.args.d.now).lawful (sym c.rank-n.ensures.told ∙ c.if-n-rank.true ∙ c.rank.ensures.told) c.all.result
    (letters_decided (g.C.Carrier.frame c.args.c.now).group c.rank-n.result Yes c.all.result c.rank-n.ensures.told
    (passed c.rank-n.result c.all.result Yes No
    (cases_from_all c.all.new.self _ _ Yes No c.all.ensures.ran (YieldsList-from_range 1 (c.rank-n.result + 1) c.rank-n.result refl (omega arith)) (λ x q k. search (rules, tests)) (λ x q k. search (rules, tests)))))
