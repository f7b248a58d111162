-- The result of a traced run.
use Rattle.std.specs.Prelude.{◌<◌, ◌+◌, ℕ, zero, suc, List, [], ◌∷◌, ◌++◌, Option}
use Rattle.rv32.specs.Step.{Machine}
use Rattle.io_ports.specs.Port.{PortView}
use Rattle.sim.specs.Runs.{World, Progress, Running, Ended, Trapped, rvrun}
use Rattle.sim.specs.Meets.{RunMeets}
use Rattle.sim.specs.declared.machine.Outcome.{Outcome}
use Rattle.sim.specs.declared.machine.Outcome.TheVariants as outcome
use Rattle.traced_run.specs.declared.tracing.TraceEnd.{TraceEnd}
use Rattle.traced_run.specs.declared.tracing.TraceEnd.TheVariants.{Stopped, Unwritten}

-- from the world w on: the outcome of the run of max steps; or, where a line was not written, that of a run of at most max steps, which includes the step of
-- that line
abbrev pub TraceMeets : Option (List ℕ) → World → ℕ → TraceEnd → Machine → PortView → Type 0
TraceMeets o w max (Stopped outcome) m port = RunMeets o w max outcome m port
TraceMeets o w max Unwritten m port = (k : ℕ) × ((outcome : Outcome) × (k < max) × RunMeets o w (k + 1) outcome m port)

-- ---- the machines that a tracer sees

abbrev pub machine_in : Progress → Machine
machine_in (Running v) = v.machine
machine_in (Ended s v) = v.machine
machine_in (Trapped c v) = v.machine

-- the machines that take the first k steps from w on
abbrev pub machines_of : ℕ → World → List Machine
machines_of zero w = []
machines_of (suc k) w = machines_of k w ++ (machine_in (rvrun k w) ∷ [])

-- the run stopped in its step k + 1, and T holds of the machines up to that step
abbrev pub TracesUntil : (List Machine → Type 0) → Option (List ℕ) → World → ℕ → Outcome → Machine → PortView → Type 0
TracesUntil T o w max x m port = (k : ℕ) × (k < max) × RunMeets o w (k + 1) x m port × T (machines_of (k + 1) w)

-- T holds of the machines of all steps that were taken, that at which the run stopped among them
abbrev pub TracesMachines : (List Machine → Type 0) → Option (List ℕ) → World → ℕ → TraceEnd → Machine → PortView → Type 0
TracesMachines T o w max (Stopped outcome.Budget) m port = T (machines_of max w)
TracesMachines T o w max (Stopped (outcome.Ended s)) m port = TracesUntil T o w max (outcome.Ended s) m port
TracesMachines T o w max (Stopped (outcome.Trapped pc c)) m port = TracesUntil T o w max (outcome.Trapped pc c) m port
TracesMachines T o w max (Stopped (outcome.Port x)) m port = TracesUntil T o w max (outcome.Port x) m port
TracesMachines T o w max Unwritten m port = (x : Outcome) × TracesUntil T o w max x m port
