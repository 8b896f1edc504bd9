use Rattle.std.proofs.Common.{rules, refl}
use Rattle.words.proofs.Ways.{pass_none, pass_on, pass_out, pass_done}
use Rattle.words.proofs.stepping.step_through.Goals as goal

pub loop-k-init : goal.loop-k-init
loop-k-init g c = pass_none (g.met.C.Carrier.laws c.home.new.self) c.home.ensures.home refl (search rules) (search rules)

pub loop-k-preserved : goal.loop-k-preserved
loop-k-preserved g c = pass_on c.loop-k.invariant c.in-Some.ensures.steps.0 c.step.ensures.told (search rules) c.in-Some.ensures.steps.2

pub returns-in_err-map_err-clause-arrived : goal.returns-in_err-map_err-clause-arrived
returns-in_err-map_err-clause-arrived g c = pass_out c.loop-k.invariant c.in-Some.ensures.steps.0 c.requires.few c.requires.letters c.step.ensures.told (search rules) c.in-Some.ensures.steps.1 (search rules)

pub returns-clause-arrived : goal.returns-clause-arrived
returns-clause-arrived g c = pass_done c.loop-k.invariant c.in-None.ensures.steps.0.0 c.requires.few c.requires.letters
