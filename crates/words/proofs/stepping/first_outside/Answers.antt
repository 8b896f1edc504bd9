use Rattle.std.proofs.Common.{rules, refl}
use Rattle.std.proofs.lemmas.Iterator.{IsFirst-from_position}
use Rattle.std.proofs.lemmas.Iterator.Consumers.{YieldsList-from_first}
use borrow.Author.Tests.{tests}
use Rattle.words.specs.Views.{letters_of}
use Rattle.words.proofs.Ways.{Beyond, Within, first_outside_of}
use Rattle.words.proofs.stepping.first_outside.Goals as goal

pub returns : goal.returns
returns g c = record {
  told = first_outside_of (g.C.Carrier.frame c.args.carrier.now).group (letters_of c.args.word) c.rank-n.result c.position.result c.rank-n.ensures.told
      (IsFirst-from_position c.position.new.self _ _ (Beyond c.rank-n.result) (Within c.rank-n.result) c.position.ensures.ran (YieldsList-from_first (λ x. x) letters_of _ refl) (λ x q k. search (rules, tests)) (λ x q k. search (rules, tests)));
}
