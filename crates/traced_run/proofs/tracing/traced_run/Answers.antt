use Rattle.std.proofs.Common.{◌≡◌, ◌≢◌, ◌<◌, ◌+◌, arith}
use Rattle.sim.specs.declared.machine.Outcome.TheVariants as outcome
use Rattle.traced_run.proofs.Composed.{behind, stays, goes, until, one_more}
use Rattle.traced_run.proofs.tracing.traced_run.Goals as goal

pub returns-then-not-told : goal.returns-then-not-told
returns-then-not-told g c = record {
  meets = λ s o w h.
      let v = c.loop-steps.invariant.came s o w h in (
        c.loop-steps.steps,
        (
          c.in_ok-told.told.outcome,
          c.loop-steps-test.true,
          behind o w v.0 c.loop-steps.steps 1 c.in_ok-told.told.outcome _ _ v.1 (c.in_ok-told.ensures.meets (c.loop-steps.invariant.goes_on s) o v.0 v.2),
        ),
      );
  traces = λ s o w h t.
      let v = c.loop-steps.invariant.came s o w h in (
        c.in_ok-told.told.outcome,
        (
          c.loop-steps.steps,
          c.loop-steps-test.true,
          behind o w v.0 c.loop-steps.steps 1 c.in_ok-told.told.outcome _ _ v.1 (c.in_ok-told.ensures.meets (c.loop-steps.invariant.goes_on s) o v.0 v.2),
          one_more (g.T.Tracer.traced c.told_step.new.tracer) c.loop-steps.steps w v.0 _ v.1 v.2.machine_is (c.in_ok-told.ensures.traces _ (c.loop-steps.invariant.traced s o w h t)),
        ),
      );
}

pub returns-in_default : goal.returns-in_default
returns-in_default g c =
    let lt = c.loop-steps-test.true in
    record {
      meets = λ s o w h.
          let v = c.loop-steps.invariant.came s o w h in
          stays o w (c.loop-steps.steps + 1) c.args.max c.in_ok-told.told.outcome _ _ (omega arith) c.in_default.not-Budget
          (behind o w v.0 c.loop-steps.steps 1 c.in_ok-told.told.outcome _ _ v.1 (c.in_ok-told.ensures.meets (c.loop-steps.invariant.goes_on s) o v.0 v.2));
      traces = λ s o w h t.
          let v = c.loop-steps.invariant.came s o w h in
          until (g.T.Tracer.traced c.told_step.new.tracer) o w c.args.max c.in_ok-told.told.outcome _ _ c.in_default.not-Budget (
            c.loop-steps.steps,
            c.loop-steps-test.true,
            behind o w v.0 c.loop-steps.steps 1 c.in_ok-told.told.outcome _ _ v.1 (c.in_ok-told.ensures.meets (c.loop-steps.invariant.goes_on s) o v.0 v.2),
            one_more (g.T.Tracer.traced c.told_step.new.tracer) c.loop-steps.steps w v.0 _ v.1 v.2.machine_is (c.in_ok-told.ensures.traces _ (c.loop-steps.invariant.traced s o w h t)),
          );
    }

pub loop-steps-preserved : goal.loop-steps-preserved
loop-steps-preserved g c =
    let lt = c.loop-steps-test.true in
    record {
      bounded = omega arith;
      goes_on = λ s. c.in_ok-told.ensures.budget c.in-Budget.is (c.loop-steps.invariant.goes_on s);
      came = λ s o w h.
          let v = c.loop-steps.invariant.came s o w h in
          goes o w v.0 c.loop-steps.steps c.in_ok-told.told.outcome _ _ v.1 c.in-Budget.is (c.in_ok-told.ensures.meets (c.loop-steps.invariant.goes_on s) o v.0 v.2);
      traced = λ s o w h t.
          let v = c.loop-steps.invariant.came s o w h in
          one_more (g.T.Tracer.traced c.told_step.new.tracer) c.loop-steps.steps w v.0 _ v.1 v.2.machine_is (c.in_ok-told.ensures.traces _ (c.loop-steps.invariant.traced s o w h t));
    }
