use Rattle.std.proofs.Common.{◌+◌, Some, subst, arith}
use Rattle.sim.specs.declared.machine.Outcome.{Outcome}
use Rattle.sim.proofs.Composing.{run_stops, run_goes_on}
use Rattle.sim.specs.Ticks.{Stops}
use Rattle.machine_kept.proofs.Runs.{passes_more}
use Rattle.machine_kept.proofs.stepping.run_to.Goals as goal

pub loop-steps-preserved : goal.loop-steps-preserved
loop-steps-preserved g c =
    let lt = c.loop-steps-test.true in
    record {
      bounded = omega arith;
      came = λ o w h.
          let v = c.loop-steps.invariant.came o w h in
          run_goes_on o w v.0 _ _ _ v.1 (c.in-None.ensures.meets o v.0 v.2);
      passed = λ o w h.
          let v = c.loop-steps.invariant.came o w h in
          passes_more c.args.halt c.loop-steps.steps w v.0 _ _ c.if-is_halted.false c.is_halted.ensures v.2.machine_is v.1 (c.loop-steps.invariant.passed o w h);
    }

pub returns-in-Some : goal.returns-in-Some
returns-in-Some g c =
    let lt = c.loop-steps-test.true in
    record {
      meets = λ o w h.
          let v = c.loop-steps.invariant.came o w h in
          run_stops o w v.0 c.loop-steps.steps (c.loop-steps.steps + 1) _ _ _ v.1 (omega arith) (c.in-Some.ensures.meets o v.0 v.2);
      passes = λ o w h.
          let v = c.loop-steps.invariant.came o w h in
          passes_more c.args.halt c.loop-steps.steps w v.0 _ _ c.if-is_halted.false c.is_halted.ensures v.2.machine_is v.1 (c.loop-steps.invariant.passed o w h);
      fault = c.in-Some.ensures.fault;
      most = omega arith;
      halts = λ e.
          let P : Outcome → Type 0 = λ x. Stops (Some x) in
          absurd (subst P e c.in-Some.ensures.stops);
    }
