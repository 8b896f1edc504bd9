use Rattle.std.proofs.Common.{ℕ, ◌+◌, sym, subst, arith}
use Rattle.std.proofs.lemmas.Bool.{both_ways}
use Rattle.words.specs.declared.descents.Descents.{Descents}
use Rattle.words.proofs.Inserting.{Filled, filled_none, filled_in, filled_out}
use Rattle.words.proofs.TakingOff.{Falls}
use Rattle.words.proofs.calls.descending.Goals as goal
use Rattle.words.proofs.calls.descending.Goals.{then-descends, else-descends}

pub loop-s-init : goal.loop-s-init
loop-s-init g c = λ w h. filled_none (Falls (g.C.Carrier.frame c.args.carrier.now) w) c.default-set.result.bits 1 c.default-set.ensures (omega arith)

pub loop-s-preserved : goal.loop-s-preserved
loop-s-preserved g c = λ v h.
    let P = λ (s : ℕ). Falls (g.C.Carrier.frame c.args.carrier.now) v s in
    elim c.if-descends.branch [
      | then-descends w ↦ subst (λ (d : Descents). Filled P d.bits (c.loop-s.s + 1)) (sym w.set-is)
          (filled_in P c.loop-s.set.bits c.loop-s.s w.with-set.result.bits w.with-set.ensures.byte w.with-set.ensures.told ((c.descends.ensures.told v h).0 w.if-descends.true) (c.loop-s.invariant v h))
      | else-descends w ↦ subst (λ (d : Descents). Filled P d.bits (c.loop-s.s + 1)) (sym w.set-is)
          (filled_out P c.loop-s.set.bits c.loop-s.s (λ p. both_ways c.descends.result w.if-descends.false ((c.descends.ensures.told v h).1 p)) (c.loop-s.invariant v h))
    ]

pub with-set-requires : goal.with-set-requires
with-set-requires g c = let l = (g.met.C.Carrier.laws c.args.carrier.now).lawful in (omega arith, omega arith)

pub returns : goal.returns
returns g c = λ w h.
    let f = c.loop-s.invariant w h in
    record { byte = f.byte; exactly = λ s i j. (λ e. ((f.exactly s i j).0 e).1, λ p. (f.exactly s i j).1 (let k = p.0.to_rank in omega arith, p)) }
