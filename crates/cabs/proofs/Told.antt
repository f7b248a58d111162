-- What was reported to an observer during a run.
use Rattle.std.proofs.Common.{◌≡◌, inl, inr, ℕ, ◌+◌, List, refl, sym, subst}
use Rattle.std.specs.Prelude.{Result, Ok, Err, Bool, true, false, ⊤}
use Rattle.std.specs.Bool.{OnTrue}
use Rattle.typing_spec.specs.Program as typed
use Rattle.csem.specs.History.{Entry}
use Rattle.csem.specs.Machine as machine
use Rattle.interp_store.specs.declared.stop.Stop.{Stop}
use Rattle.interp_store.specs.declared.stop.Stop.TheVariants as stop
use Rattle.interp_store.specs.declared.frames.Node.{Node}
use Rattle.interp_store.specs.declared.frames.Step.{Step}
use Rattle.interp_store.specs.layer.Frames as on
use Rattle.interp_store.specs.layer.Views.{step_of}
use Rattle.interp_transitions.specs.declared.tally.Tally.{Tally}
use Rattle.io_ports.specs.Port.{PortView}
use Rattle.cabs.specs.declared.state.Interpreter.{Interpreter}
use Rattle.cabs.specs.declared.outcome.Run.{Run}
use Rattle.cabs.specs.declared.outcome.Run.TheVariants as run
use Rattle.cabs.specs.Interpreting.{IsTold}
use Rattle.cabs.specs.inside.Standing.{Outset, Whole, Knows, Stands, Stopping, StoppingBy, Stopped, StoppedBy, SettleMeets, Runs, EndsAs, RunStops, MeetsAt}

-- what is known of one observer after a report gives what is known of the other before it
pub known : (b : Bool) (T U : List Entry → Type 0) (f : List Entry → List Entry) → ((h : List Entry) → T h → U (f h)) → (h : List Entry) → Knows b T h → Knows b U (f h)
known true T U f k h t = k h t
known false T U f k h t = tt

-- what is reported of a run, if that is asked for
pub asked : (b : Bool) (T : List Entry → Type 0) (p : typed.Program) (input : List ℕ) (ticks : ℕ) (r : Run) → IsTold (Knows b T) p input ticks r → OnTrue b (IsTold T p input ticks r)
asked false T p input ticks r h = tt
asked true T p input ticks (run.Ended n) h = h
asked true T p input ticks (run.Undefined act at) h = h
asked true T p input ticks run.TicksUsed h = h
asked true T p input ticks (run.Port fault) h = h
asked true T p input ticks run.Memory h = h

pub nothing_told : (b : Bool) → OnTrue b ⊤
nothing_told true = tt
nothing_told false = tt

-- if a history is the one that was reported
pub same_history : (T : List Entry → Type 0) (h : List Entry) → T h → (g : List Entry) → g ≡ h → T g
same_history T h t g e = subst T (sym e) t

pub exactly : (T : List Entry → Type 0) (p : typed.Program) (whole : Whole) (o : Outset) (m : Interpreter) (x : on.Step) (port : PortView) (s : Stands T p whole o m x port) →
    Stands (λ g. g ≡ s.history) p whole o m x port
exactly T p whole o m x port s = record {
  sent = s.sent;
  input = s.input;
  history = s.history;
  program_is = s.program_is;
  follows = s.follows;
  input_is = s.input_is;
  output_is = s.output_is;
  bytes_are = s.bytes_are;
  done = s.done;
  tells = s.tells;
  told = refl;
}

module _ (T U : List Entry → Type 0) (k : (h : List Entry) → T h → U h) (p : typed.Program) (o : Outset) where
  pub stands_told : (whole : Whole) (m : Interpreter) (x : on.Step) (port : PortView) → Stands T p whole o m x port → Stands U p whole o m x port
  stands_told whole m x port s = record {
    sent = s.sent;
    input = s.input;
    history = s.history;
    program_is = s.program_is;
    follows = s.follows;
    input_is = s.input_is;
    output_is = s.output_is;
    bytes_are = s.bytes_are;
    done = s.done;
    tells = s.tells;
    told = k s.history s.told;
  }

  stopping_told : (whole : Whole) (e : machine.Ending) (m : Interpreter) (port : PortView) → Stopping T p whole o e m port → Stopping U p whole o e m port
  stopping_told whole e m port s = record {
    sent = s.sent;
    input = s.input;
    history = s.history;
    stops = s.stops;
    input_is = s.input_is;
    output_is = s.output_is;
    bytes_are = s.bytes_are;
    done = s.done;
    tells = s.tells;
    told = k s.history s.told;
  }

  pub stopping_by_told : (whole : Whole) (e : Stop) (m : Interpreter) (port : PortView) → StoppingBy T p whole o e m port → StoppingBy U p whole o e m port
  stopping_by_told whole (stop.Ended n) m port s = stopping_told whole (machine.Ended n) m port s
  stopping_by_told whole (stop.Undefined act at) m port s = stopping_told whole (machine.Undefined act at) m port s
  stopping_by_told whole stop.Memory m port s = s

  stopped_told : (whole : Whole) (e : machine.Ending) (tally : Tally) (port : PortView) → Stopped T p whole o e tally port → Stopped U p whole o e tally port
  stopped_told whole e tally port s = record {
    input = s.input;
    history = s.history;
    stops = s.stops;
    input_is = s.input_is;
    output_is = s.output_is;
    tells = s.tells;
    told = k s.history s.told;
  }

  pub stopped_by_told : (whole : Whole) (r : Run) (tally : Tally) (port : PortView) → StoppedBy T p whole o r tally port → StoppedBy U p whole o r tally port
  stopped_by_told whole (run.Ended n) tally port s = stopped_told whole (machine.Ended n) tally port s
  stopped_by_told whole (run.Undefined act at) tally port s = stopped_told whole (machine.Undefined act at) tally port s
  stopped_by_told whole run.TicksUsed tally port s = s
  stopped_by_told whole (run.Port fault) tally port s = s
  stopped_by_told whole run.Memory tally port s = s

  pub settle_told : (whole : Whole) (r : Result Node Run) (m : Interpreter) (port : PortView) → SettleMeets T p whole o r m port → SettleMeets U p whole o r m port
  settle_told whole (Ok n) m port s = (stands_told whole m _ port s.0, s.1)
  settle_told whole (Err r) m port s = stopped_by_told whole r m.tally port s

  pub runs_told : (all : Whole) (spent : ℕ) (m : Interpreter) (x : on.Step) (port : PortView) → Runs T p all o spent m x port → Runs U p all o spent m x port
  runs_told all spent m x port r = record {
    grows = r.grows;
    stands = stands_told (λ n. all (n + spent)) m x port r.stands;
  }

  ends_told : (all : machine.Run on.Found) (e : machine.Ending) (tally : Tally) (port : PortView) → EndsAs T p all o e tally port → EndsAs U p all o e tally port
  ends_told all e tally port s = record {
    input = s.input;
    history = s.history;
    stops = s.stops;
    input_is = s.input_is;
    output_is = s.output_is;
    tells = s.tells;
    told = k s.history s.told;
  }

  pub run_stops_told : (all : Whole) (ticks : ℕ) (r : Run) (tally : Tally) (port : PortView) → RunStops T p all o ticks r tally port → RunStops U p all o ticks r tally port
  run_stops_told all ticks (run.Ended n) tally port s = ends_told (all ticks) (machine.Ended n) tally port s
  run_stops_told all ticks (run.Undefined act at) tally port s = ends_told (all ticks) (machine.Undefined act at) tally port s
  run_stops_told all ticks run.TicksUsed tally port (inl s) = inl (ends_told (all ticks) machine.TicksUsed tally port s)
  run_stops_told all ticks run.TicksUsed tally port (inr s) = inr s
  run_stops_told all ticks (run.Port fault) tally port s = s
  run_stops_told all ticks run.Memory tally port s = s

  pub meets_at_told : (all : Whole) (limit : ℕ) (r : Result Step Run) (spent : ℕ) (m : Interpreter) (port : PortView) → MeetsAt T p all o limit r spent m port → MeetsAt U p all o limit r spent m port
  meets_at_told all limit (Ok x) spent m port s = runs_told all spent m (step_of x) port s
  meets_at_told all limit (Err r) spent m port s = run_stops_told all limit r m.tally port s
