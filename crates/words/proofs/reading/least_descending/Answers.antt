use Rattle.std.proofs.Common.{ℕ, rules}
use Rattle.std.proofs.lemmas.Iterator.{first_from_Range}
use borrow.Author.Tests.{tests}
use Rattle.words.proofs.TakingOff.{Falls, lowest}
use Rattle.words.proofs.reading.least_descending.Goals as goal

pub returns : goal.returns
returns g c = record {
  found = λ w h.
      let Yes = λ (s : ℕ). Falls (g.C.Carrier.frame c.args.carrier.now) w s in
      let No = λ (s : ℕ). Falls (g.C.Carrier.frame c.args.carrier.now) w s → ⊥ in
      lowest (g.C.Carrier.frame c.args.carrier.now) (g.C.Carrier.at c.args.carrier.now) (g.met.C.Carrier.laws c.args.carrier.now) w h c.rank.result c.rank.ensures.told c.find.result
      (first_from_Range _ c.find.new.self _ c.find.result Yes No c.find.ensures.ran (λ x q k. search (rules, tests)) (λ x q k. search (rules, tests)));
}
