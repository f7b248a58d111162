use Rattle.std.proofs.Common.{◌≡◌, ◌≤◌, ◌-◌}
use Rattle.std.specs.Prelude.{Bool}
use Rattle.typing_spec.specs.Program as typed
use Rattle.interp_store.specs.layer.Views.{step_of}
use Rattle.cabs.specs.inside.Standing.{Knows, Outset, Runs, Showing, Whole}
use Rattle.cabs.proofs.running.run_on.Given as goal

abbrev pub invariant-loop-spent : goal.invariant-loop-spent
invariant-loop-spent g l = record {
  quiet : (g.P.Port.seen l.port).failures ≡ (g.P.Port.seen l.initial.port).failures;
  allowed : l.spent ≤ l.ticks;
  runs : (b : Bool) (p : typed.Program) (all : Whole) (o : Outset) → Runs (Knows b (g.O.Observer.told l.initial.observer)) p all o 0 l.initial.interpreter (step_of l.initial.next) (g.P.Port.seen l.initial.port) →
      Runs (Knows b (g.O.Observer.told l.observer)) p all o l.spent l.interpreter (step_of l.next) (g.P.Port.seen l.port);
  shows : (b : Bool) (p : typed.Program) (all : Whole) (o : Outset) → Runs (Knows b (g.O.Observer.told l.initial.observer)) p all o 0 l.initial.interpreter (step_of l.initial.next) (g.P.Port.seen l.initial.port) →
      g.O.Observer.always l.initial.observer → Showing (g.O.Observer.shown l.initial.observer) all 0 → Showing (g.O.Observer.shown l.observer) all l.spent;
  always : g.O.Observer.always l.initial.observer → g.O.Observer.always l.observer;
}

abbrev pub decreases-loop-spent : goal.decreases-loop-spent
decreases-loop-spent g l = l.ticks - l.spent
