use Rattle.std.proofs.Common.{◌≡◌, ℕ, List}
use Rattle.std.specs.Prelude.{Bool}
use Rattle.typing_spec.specs.Program as typed
use Rattle.csem.specs.Store.{Store}
use Rattle.interp_store.specs.layer.Agrees.{frames_of}
use Rattle.interp_store.specs.layer.Views.{step_of}
use Rattle.cabs.specs.inside.Standing.{Knows, Outset, Stands, Whole, distance}
use Rattle.cabs.proofs.running.settle.Given as goal

abbrev pub invariant-loop-next : goal.invariant-loop-next
invariant-loop-next g l = record {
  quiet : (g.P.Port.seen l.port).failures ≡ (g.P.Port.seen l.initial.port).failures;
  stands : (b : Bool) (p : typed.Program) (whole : Whole) (o : Outset) → Stands (Knows b (g.O.Observer.told l.initial.observer)) p whole o l.initial.interpreter (step_of l.initial.next) (g.P.Port.seen l.initial.port) →
      Stands (Knows b (g.O.Observer.told l.observer)) p whole o l.interpreter (step_of l.next) (g.P.Port.seen l.port);
  shown : (objects : List Store) → g.O.Observer.shown l.initial.observer objects → g.O.Observer.shown l.observer objects;
  always : g.O.Observer.always l.initial.observer → g.O.Observer.always l.observer;
}

abbrev pub decreases-loop-next : goal.decreases-loop-next
decreases-loop-next g l = distance (frames_of l.interpreter.machine) (step_of l.next)
