use Rattle.std.proofs.Common.{◌≡◌, Ok, subst}
use Rattle.std.proofs.lemmas.Bool.{both_ways}
use Rattle.std.proofs.lemmas.Bool.Decides.{Decides-eqb}
use Rattle.std.proofs.lemmas.Slice.Eq.{slice_eq-Decides}
use Rattle.carriers.specs.Frames.{Frame}
use Rattle.words.specs.Reading.{Read}
use Rattle.words.proofs.Comparing.{compared_same, compared_unlike}
use Rattle.words.proofs.elements.same_element.Goals as goal

pub returns-then-eq-clause-compared : goal.returns-then-eq-clause-compared
returns-then-eq-clause-compared g c =
    compared_same (g.C.Carrier.frame c.args.c.now) (g.D.Carrier.frame c.args.d.now) (g.met.C.Carrier.laws c.args.c.now).lawful (c.same_group-one.ensures.0 c.if-not-one.false) c.args.u.now c.args.v.now c.read_form.new.letters.items c.read_form-2.new.letters.items c.in_ok-read_form.ensures.read
    (subst (λ (x : Frame). Read x c.args.v.now (λ t. c.read_form-2.new.letters.items ≡ t) (Ok tt)) c.home.ensures.home.same c.in_ok-read_form-2.ensures.read) ((slice_eq-Decides Decides-eqb c.read_form.new.letters.items c.read_form-2.new.letters.items _ c.eq.ensures).0 c.if-eq.true)

pub returns-else-eq-clause-compared : goal.returns-else-eq-clause-compared
returns-else-eq-clause-compared g c =
    compared_unlike (g.C.Carrier.frame c.args.c.now) (g.D.Carrier.frame c.args.d.now) (g.met.C.Carrier.laws c.args.c.now).lawful (c.same_group-one.ensures.0 c.if-not-one.false) c.args.u.now c.args.v.now c.read_form.new.letters.items c.read_form-2.new.letters.items c.in_ok-read_form.ensures.read
    (subst (λ (x : Frame). Read x c.args.v.now (λ t. c.read_form-2.new.letters.items ≡ t) (Ok tt)) c.home.ensures.home.same c.in_ok-read_form-2.ensures.read) (λ d. both_ways c.eq.result c.if-eq.false ((slice_eq-Decides Decides-eqb c.read_form.new.letters.items c.read_form-2.new.letters.items _ c.eq.ensures).1 d))
