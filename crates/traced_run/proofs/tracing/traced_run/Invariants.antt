use Rattle.std.proofs.Common.{◌≡◌, ◌≤◌, ◌-◌, ℕ, List, [], Option, None}
use Rattle.sim.specs.Runs.{World, Running, rvrun}
use Rattle.sim.specs.Meets.{At}
use Rattle.sim.specs.Machines.{machine_now, stopped_with}
use Rattle.traced_run.specs.Traced.{machines_of}
use Rattle.traced_run.proofs.tracing.traced_run.Given as goal

abbrev pub invariant-loop-steps : goal.invariant-loop-steps
invariant-loop-steps g l = record {
  bounded : l.steps ≤ l.max;
  goes_on : stopped_with l.initial.machine ≡ None → stopped_with l.machine ≡ None;
  came : stopped_with l.initial.machine ≡ None → (o : Option (List ℕ)) (w : World) → At o w (machine_now l.initial.machine) (g.P.Port.seen l.initial.port) →
      (v : World) × (rvrun l.steps w ≡ Running v) × At o v (machine_now l.machine) (g.P.Port.seen l.port);
  traced : stopped_with l.initial.machine ≡ None → (o : Option (List ℕ)) (w : World) → At o w (machine_now l.initial.machine) (g.P.Port.seen l.initial.port) →
      g.T.Tracer.traced l.initial.tracer [] → g.T.Tracer.traced l.tracer (machines_of l.steps w);
}

abbrev pub decreases-loop-steps : goal.decreases-loop-steps
decreases-loop-steps g l = l.max - l.steps
