use Rattle.std.proofs.Common.{rules, ◌≡◌, ℕ, ◌+◌, refl, arith}
use Rattle.std.proofs.lemmas.Iterator.{cases_from_all, YieldsList-from_range}
use borrow.Author.Tests.{tests}
use Rattle.coxeter.specs.Groups.{answered_exponent}
use Rattle.words.proofs.Ranges.{passed}
use Rattle.words.proofs.Comparing.{letters_decided}
use Rattle.words.proofs.elements.same_exponents.Goals as goal

pub returns : goal.returns
returns g c =
    let Yes = λ (t : ℕ). answered_exponent (g.C.Carrier.frame c.args.c.now).group c.args.s t ≡ answered_exponent (g.D.Carrier.frame c.args.d.now).group c.args.s t in
    let No = λ (t : ℕ). answered_exponent (g.C.Carrier.frame c.args.c.now).group c.args.s t ≡ answered_exponent (g.D.Carrier.frame c.args.d.now).group c.args.s t → ⊥ in
    letters_decided (g.C.Carrier.frame c.args.c.now).group c.rank.result Yes c.all.result c.rank.ensures.told
    (passed c.rank.result c.all.result Yes No
    (cases_from_all c.all.new.self _ _ Yes No c.all.ensures.ran (YieldsList-from_range 1 (c.rank.result + 1) c.rank.result refl (omega arith)) (λ x q k. search (rules, tests)) (λ x q k. search (rules, tests))))
