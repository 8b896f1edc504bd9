use Rattle.std.proofs.Common.{rules, ◌<◌, [], ◌∷◌, ◌++◌, length, refl, arith, length-append}
use Rattle.words.specs.Views.{letters_of}
use Rattle.words.proofs.TakingOff.{take_none, take_room, take_more, take_fails, take_done}
use Rattle.words.proofs.reading.take_off.Given.{Over}
use Rattle.words.proofs.reading.take_off.Goals as goal
use Rattle.words.proofs.reading.take_off.Goals.{In-Some}

pub loop-s-init : goal.loop-s-init
loop-s-init g c = ([], c.clear.ensures, take_none (g.met.C.Carrier.laws c.args.carrier.now) refl c.requires.here)

-- there is a letter to take off
room : (g : Over) (c : In-Some g) → g.K.Kept.count c.loop-s.letters < length (letters_of c.args.word)
room g c =
    let i = c.loop-s.invariant in
    omega (arith, g.met.K.Kept.counted c.loop-s.letters i.0 i.1, take_room i.2 (g.met.C.Carrier.laws c.loop-s.carrier) c.in-Some.ensures)

pub push-requires : goal.push-requires
push-requires g c = omega (arith, room g (goal.at.push-requires g c).In-Some, c.requires.entered.few)

pub loop-s-smaller : goal.loop-s-smaller
loop-s-smaller g c =
    let i = c.loop-s.invariant in
    let n = g.met.K.Kept.counted in
    omega (arith, room g (goal.at.loop-s-smaller g c).In-Some, n c.loop-s.letters i.0 i.1, n c.push.new.self (i.0 ++ (c.in-Some.s ∷ [])) (c.push.ensures i.0 i.1), length-append i.0 (c.in-Some.s ∷ []))

pub loop-s-preserved : goal.loop-s-preserved
loop-s-preserved g c =
    let i = c.loop-s.invariant in
    (i.0 ++ (c.in-Some.s ∷ []), c.push.ensures i.0 i.1, take_more i.2 (g.met.C.Carrier.laws c.loop-s.carrier) c.in-Some.ensures c.step.ensures.told (search rules))

pub returns-in_err-map_err-clause-read : goal.returns-in_err-map_err-clause-read
returns-in_err-map_err-clause-read g c =
    let i = c.loop-s.invariant in
    take_fails i.2 (g.met.C.Carrier.laws c.loop-s.carrier) c.in-Some.ensures c.requires.entered c.step.ensures.told (search rules) (search rules)

pub returns-clause-read : goal.returns-clause-read
returns-clause-read g c =
    let i = c.loop-s.invariant in
    record { told = (i.0, i.1, take_done i.2 (g.met.C.Carrier.laws c.loop-s.carrier) c.requires.entered c.in_default.ensures) }
