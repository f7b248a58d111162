use Rattle.std.proofs.Common.{◌≡◌, ◌<◌, ◌≤◌, ◌-◌, ℕ, List, Option}
use Rattle.rv32.specs.Step.{machine_of}
use Rattle.sim.specs.Runs.{World, Running, rvrun}
use Rattle.sim.specs.Meets.{At}
use Rattle.machine_kept.specs.Standing.{Passes}
use Rattle.machine_kept.proofs.stepping.run_to.Given as goal

abbrev pub invariant-loop-steps : goal.invariant-loop-steps
invariant-loop-steps g l = record {
  bounded : l.steps ≤ l.count;
  came : (o : Option (List ℕ)) (w : World) → At o w (machine_of l.initial.state) (g.P.Port.seen l.initial.port) →
      (v : World) × (rvrun l.steps w ≡ Running v) × At o v (machine_of l.state) (g.P.Port.seen l.port);
  passed : (o : Option (List ℕ)) (w : World) → At o w (machine_of l.initial.state) (g.P.Port.seen l.initial.port) →
      (k : ℕ) → k < l.steps → Passes l.halt k (rvrun k w);
}

abbrev pub decreases-loop-steps : goal.decreases-loop-steps
decreases-loop-steps g l = l.count - l.steps
