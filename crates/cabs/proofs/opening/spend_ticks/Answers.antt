use Rattle.std.proofs.Common.{◌≡◌, ◌<◌, ◌-◌, ℕ, arith, subst}
use Rattle.interp_store.specs.layer.Frames as on
use Rattle.interp_store.specs.layer.Steps.{counted}
use Rattle.cabs.specs.inside.Sweeping.{After, steps_to}
use Rattle.cabs.proofs.Sweeps.{after_as, counted_less, ticked, ticked_if, unticked, unticked_if}
use Rattle.cabs.proofs.opening.spend_ticks.Goals as goal

pub returns-then-not-tick-clause-stopped : goal.returns-then-not-tick-clause-stopped
returns-then-not-tick-clause-stopped c = λ run p fs scene late h.
    unticked run p c.args.limit c.loop-left.clock.spent c.tick.new.self fs scene (on.ticking c.loop-left.left late) c.tick.result c.if-not-tick.true c.tick.ensures.idle c.tick.ensures.same
    (c.loop-left.invariant.does run p fs scene late h)

pub loop-left-preserved : goal.loop-left-preserved
loop-left-preserved c = record {
  spends = (omega (arith, c.loop-left.invariant.spends.0, c.tick.ensures.spends.0), c.tick.ensures.spends.1);
  does = λ run p fs scene late h.
      let some : 0 < c.loop-left.left = omega (arith, c.loop-left-test.true) in
      after_as run p c.tick.new.self.spent fs scene (λ s. counted p c.loop-left.left late s) (steps_to (on.enters (on.ticking (c.loop-left.left - 1) late))) (λ s. counted_less p c.loop-left.left late s some)
      (ticked run p c.loop-left.clock.spent c.tick.new.self.spent fs scene (on.ticking c.loop-left.left late) c.tick.result c.if-not-tick.false c.tick.ensures.taken (c.loop-left.invariant.does run p fs scene late h));
}

pub returns-clause-taken : goal.returns-clause-taken
returns-clause-taken c = λ run p fs scene late h.
    let none : c.loop-left.left ≡ 0 = omega (arith, c.loop-left-test.false) in
    let P : ℕ → Type 0 = λ k. After run p c.loop-left.clock.spent fs scene (steps_to (on.enters (on.ticking k late))) in
    ticked_if run p c.loop-left.clock.spent c.tick-2.new.self.spent fs scene (on.ticking 0 late) c.tick-2.result c.tick-2.ensures.taken (subst P none (c.loop-left.invariant.does run p fs scene late h))

pub returns-clause-stopped : goal.returns-clause-stopped
returns-clause-stopped c = λ run p fs scene late h.
    unticked_if run p c.args.limit c.loop-left.clock.spent c.tick-2.new.self fs scene (on.ticking c.loop-left.left late) c.tick-2.result c.tick-2.ensures.idle c.tick-2.ensures.same (c.loop-left.invariant.does run p fs scene late h)
