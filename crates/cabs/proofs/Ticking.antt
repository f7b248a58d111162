-- The ticks, and the whole run.
use Rattle.std.proofs.Common.{◌≡◌, ◌≤◌, ◌<◌, inl, inr, ℕ, suc, ◌+◌, ◌-◌, ℤ, List, [], ◌∷◌, ◌++◌, Option, Some, None, refl, sym, ap, ◌∙◌, subst, arith, Bor}
use Rattle.std.specs.Prelude.{Result, Ok, Err, false, slice_get}
use Rattle.csem_events.specs.Events.{Event}
use Rattle.typing_spec.specs.Program as typed
use Rattle.typed_ast.specs.declared.units.Program as unit
use Rattle.typed_ast.specs.View.{program_of}
use Rattle.csem.specs.History.{Entry, trace_of, weight_in, greatest_sum}
use Rattle.csem.specs.Machine as machine
use Rattle.csem.specs.Machine.{State, Ending, Goes, Stops, then_do}
use Rattle.csem.specs.Statements.{Returned}
use Rattle.csem.specs.Store.{first_store}
use Rattle.csem.specs.Meaning.{start, end_with, calling, cstep, last_of, ending_of, answer}
use Rattle.interp_store.specs.declared.stop.Stop.{Stop}
use Rattle.interp_store.specs.declared.stop.Stop.TheVariants as stop
use Rattle.interp_store.specs.declared.machine.Machine.{Machine}
use Rattle.interp_store.specs.declared.scene.Scene.{Scene}
use Rattle.interp_store.specs.declared.frames.Node.{Node}
use Rattle.interp_store.specs.declared.frames.Step.{Step}
use Rattle.interp_store.specs.declared.frames.Step.TheVariants as step
use Rattle.interp_store.specs.layer.Frames as on
use Rattle.interp_store.specs.layer.Frames.{moves, halts, enters, to_end, a_flow}
use Rattle.interp_store.specs.layer.Presents.{given, resumed, call_in}
use Rattle.interp_store.specs.layer.Steps.{entered, entered_call}
use Rattle.interp_store.specs.layer.Views.{step_of, node_of}
use Rattle.interp_store.specs.layer.Agrees.{Outside, state_in, onto, Agrees, Takes, frames_of}
use Rattle.interp_store.proofs.Resumes.{run_begins}
use Rattle.interp_store.proofs.Adequate.{real}
use Rattle.interp_transitions.specs.declared.tally.Tally.{Tally}
use Rattle.interp_transitions.specs.Tallied.{Tells}
use Rattle.interp_transitions.specs.Acts.{Acts, outside_behind}
use Rattle.io_ports.specs.Port.{PortView, Flushes}
use Rattle.cabs.specs.declared.state.Interpreter.{Interpreter}
use Rattle.cabs.specs.declared.outcome.Run.{Run}
use Rattle.cabs.specs.declared.outcome.Run.TheVariants as run
use Rattle.cabs.specs.Interpreting.{IsAnswer, IsGivenUp, IsBegun, IsTold, RunMeets}
use Rattle.cabs.specs.inside.Standing.{Outset, Whole, left_of, waiting, bytes_of, entered_where, history_called, Stands, StopsAs, Stopping, StoppingBy, Stopped, StoppedBy, SettleMeets, Runs, StopsBy, EndsAs, RunStops, Fresh, NearsFrom, distance, Done, Grows, Begins, GivenUp, GivenUpBy}
use Rattle.cabs.proofs.Begun.{done_kept, nothing_done, given_up_here, begins_more}
use Rattle.cabs.proofs.Calm.{calm_outside, entered_calm}
use Rattle.cabs.proofs.GivenUp.{trace_grows, given_up}
use Rattle.cabs.proofs.Following.{outside, goes_on, stops_so, node_follows, node_stops, node_waits}
use Rattle.cabs.proofs.Telling.{input_kept, output_kept, output_as, none_waits, nothing_sent, tells_as}

pub stands_as : (T : List Entry → Type 0) (p : typed.Program) (whole : Whole) (o : Outset) (m : Interpreter) (x y : on.Step) (port : PortView) → x ≡ y → Stands T p whole o m x port → Stands T p whole o m y port
stands_as T p whole o m x y port e s = let P : on.Step → Type 0 = λ x. Stands T p whole o m x port in subst P e s

-- ---- the port flushes

pub stands_rested : (T : List Entry → Type 0) (p : typed.Program) (whole : Whole) (o : Outset) (m : Interpreter) (x : on.Step) (old new : PortView) → Stands T p whole o m x old →
    Flushes old new → Stands T p whole o m x new
stands_rested T p whole o m x old new s f = record {
  sent = s.sent;
  input = s.input;
  history = s.history;
  program_is = s.program_is;
  follows = s.follows;
  input_is = input_kept old.input new.input s.input f.input_stays s.input_is;
  output_is = output_kept o.output old.output new.output s.sent f.output_stays s.output_is;
  bytes_are = s.bytes_are;
  done = s.done;
  tells = s.tells;
  told = s.told;
}

pub runs_rested : (T : List Entry → Type 0) (p : typed.Program) (all : Whole) (o : Outset) (k : ℕ) (m : Interpreter) (x : on.Step) (old new : PortView) → Runs T p all o k m x old → Flushes old new →
    Runs T p all o k m x new
runs_rested T p all o k m x old new r f = record {
  grows = r.grows;
  stands = stands_rested T p (λ n. all (n + k)) o m x old new r.stands f;
}

module _ (T : List Entry → Type 0) (p : typed.Program) (all : Whole) (o : Outset) where
  -- ---- how a run of that many ticks stops

  given_up_later : (k ticks : ℕ) (port : PortView) → k ≤ ticks → GivenUpBy all o k port → GivenUpBy all o ticks port
  given_up_later k ticks port le s = (s.0, (omega (arith, le, s.1.0), s.1.1))

  pub stops_by : (k : ℕ) (r : Run) (tally : Tally) (port : PortView) → StoppedBy T p (λ n. all (n + k)) o r tally port → StopsBy T p all o k r tally port
  stops_by k (run.Ended status) tally port s = s
  stops_by k (run.Undefined act at) tally port s = s
  stops_by k run.TicksUsed tally port s = s
  stops_by k (run.Port fault) tally port s = (0 + k, (omega arith, s))
  stops_by k run.Memory tally port s = (0 + k, (omega arith, s))

  next_clock : (n k : ℕ) → suc n + k ≡ n + (k + 1)
  next_clock n k = omega arith

  stopped_later : (k : ℕ) (e : Ending) (tally : Tally) (port : PortView) → Stopped T p (λ n. all (n + k)) o e tally port → Stopped T p (λ n. all (n + (k + 1))) o e tally port
  stopped_later k e tally port s = record {
    input = s.input;
    history = s.history;
    stops = λ n.
        let P : ℕ → Type 0 = λ k. StopsAs (all k) e s.input s.history in
        subst P (next_clock n k) (s.stops (suc n));
    input_is = s.input_is;
    output_is = s.output_is;
    tells = s.tells;
    told = s.told;
  }

  pub stops_later : (k : ℕ) (r : Run) (tally : Tally) (port : PortView) → StopsBy T p all o k r tally port → StopsBy T p all o (k + 1) r tally port
  stops_later k (run.Ended status) tally port s = stopped_later k (machine.Ended status) tally port s
  stops_later k (run.Undefined act at) tally port s = stopped_later k (machine.Undefined act at) tally port s
  stops_later k run.TicksUsed tally port s = λ n.
      let P : ℕ → Type 0 = λ k. (x : on.Found) × ((s : State) × (all k ≡ Goes x s)) in
      subst P (next_clock n k) (s (suc n))
  stops_later k (run.Port fault) tally port s = given_up_later k (k + 1) port (omega arith) s
  stops_later k run.Memory tally port s = given_up_later k (k + 1) port (omega arith) s

  ends_at : (k ticks : ℕ) (e : Ending) (tally : Tally) (port : PortView) → k ≤ ticks → Stopped T p (λ n. all (n + k)) o e tally port → EndsAs T p (all ticks) o e tally port
  ends_at k ticks e tally port le s =
      let same : (ticks - k) + k ≡ ticks = omega arith in
      let P : ℕ → Type 0 = λ k. StopsAs (all k) e s.input s.history in
      record {
        input = s.input;
        history = s.history;
        stops = subst P same (s.stops (ticks - k));
        input_is = s.input_is;
        output_is = s.output_is;
        tells = s.tells;
        told = s.told;
      }

  pub run_stops : (k ticks : ℕ) (r : Run) (tally : Tally) (port : PortView) → k ≤ ticks → StopsBy T p all o k r tally port → RunStops T p all o ticks r tally port
  run_stops k ticks (run.Ended status) tally port le s = ends_at k ticks (machine.Ended status) tally port le s
  run_stops k ticks (run.Undefined act at) tally port le s = ends_at k ticks (machine.Undefined act at) tally port le s
  run_stops k ticks run.TicksUsed tally port le s =
      let same : (ticks - k) + k ≡ ticks = omega arith in
      let P : ℕ → Type 0 = λ k. (x : on.Found) × ((s : State) × (all k ≡ Goes x s)) in
      inr (subst P same (s (ticks - k)))
  run_stops k ticks (run.Port fault) tally port le s = given_up_later k ticks port le s
  run_stops k ticks run.Memory tally port le s = given_up_later k ticks port le s

  -- ---- a tick

  module _ (k : ℕ) (mid : Interpreter) (x : on.Node) (port : PortView) (s : Stands T p (λ n. all (n + k)) o mid (enters x) port) (none : mid.kept ≡ None) where
    -- without a further tick the run stops before the node
    waits_here : StopsAs (all (0 + k)) machine.TicksUsed s.input s.history
    waits_here = node_waits p (frames_of mid.machine) (frames_of mid.machine) x mid.machine.scene mid.machine.scene s.input s.history (λ n. all (n + k)) s.follows

    takes_now : (r : Result Step Stop) (new : Machine) → Takes (λ p s. entered p x s) mid.machine r new → Takes (λ q s. entered p x s) mid.machine r new
    takes_now r new h =
        let P : typed.Program → Type 0 = λ q. (o : Outside) → Agrees (onto (frames_of mid.machine) (entered q x (state_in mid.machine.scene o))) r (frames_of new) (state_in new.scene o) in
        subst P s.program_is h

    pub tick_goes : Grows all → (new : Interpreter) (y : Step) → new.tally ≡ mid.tally → new.kept ≡ mid.kept → new.machine.program ≡ mid.machine.program → Takes (λ p s. entered p x s) mid.machine (Ok y) new.machine →
        Runs T p all o (k + 1) new (step_of y) port
    tick_goes grows new y t kept program takes = record {
      grows = grows;
      stands = record {
        sent = s.sent;
        input = s.input;
        history = s.history;
        program_is = ap (λ (b : Bor unit.Program). program_of b.now) program ∙ s.program_is;
        follows = λ n. node_follows p (frames_of mid.machine) (frames_of new.machine) x mid.machine.scene new.machine.scene s.input s.history (λ n. all (n + k)) s.follows (step_of y) (takes_now (Ok y) new.machine takes) n
            ∙ ap all (next_clock n k);
        input_is = s.input_is;
        output_is = s.output_is;
        bytes_are = s.bytes_are ∙ ap (λ k. s.sent ++ waiting k) (sym kept);
        done = done_kept o.input s.history s.input s.sent mid.kept new.kept kept s.done;
        tells = tells_as p s.history s.history mid.tally new.tally refl t s.tells;
        told = s.told;
      };
    }

    tick_ends : (new : Interpreter) (e : Ending) → new.tally ≡ mid.tally → new.kept ≡ mid.kept → ((o : Outside) → onto (frames_of mid.machine) (entered p x (state_in mid.machine.scene o)) ≡ halts e (state_in new.machine.scene o)) →
        Stopping T p (λ n. all (n + (k + 1))) o e new port
    tick_ends new e t kept takes = record {
      sent = s.sent;
      input = s.input;
      history = s.history;
      stops = λ n.
          let P : ℕ → Type 0 = λ k. StopsAs (all k) e s.input s.history in
          subst P (next_clock n k) (node_stops p (frames_of mid.machine) (frames_of new.machine) x mid.machine.scene new.machine.scene s.input s.history (λ n. all (n + k)) s.follows e takes n);
      input_is = s.input_is;
      output_is = s.output_is;
      bytes_are = s.bytes_are ∙ ap (λ k. s.sent ++ waiting k) (sym kept);
      done = done_kept o.input s.history s.input s.sent mid.kept new.kept kept s.done;
      tells = tells_as p s.history s.history mid.tally new.tally refl t s.tells;
      told = s.told;
    }

    -- with one tick more it does the same first
    given_up_ticking : Grows all → GivenUp (λ n. all (n + (k + 1))) o port
    given_up_ticking grows =
        let g = given_up_here T p (λ n. all (n + k)) o mid (enters x) port s in
        let next : suc (0 + k) ≡ 0 + (k + 1) = omega arith in
        let P : ℕ → Type 0 = λ k. Begins (all k) o port in
        subst P next (begins_more (all (0 + k)) o (all (suc (0 + k))) port (grows (0 + k)) g)

    pub tick_stopping : Grows all → (new : Interpreter) (e : Stop) → new.tally ≡ mid.tally → new.kept ≡ mid.kept → Takes (λ p s. entered p x s) mid.machine (Err e) new.machine →
        StoppingBy T p (λ n. all (n + (k + 1))) o e new port
    tick_stopping grows new (stop.Ended n) t kept takes = tick_ends new (machine.Ended n) t kept (takes_now (Err (stop.Ended n)) new.machine takes)
    tick_stopping grows new (stop.Undefined act at) t kept takes = tick_ends new (machine.Undefined act at) t kept (takes_now (Err (stop.Undefined act at)) new.machine takes)
    tick_stopping grows new stop.Memory t kept takes = given_up_ticking grows

    pub ticks_used : RunStops T p all o k run.TicksUsed mid.tally port
    ticks_used =
        let same : 0 + k ≡ k = omega arith in
        let P : ℕ → Type 0 = λ k. StopsAs (all k) machine.TicksUsed s.input s.history in
        inl (record {
          input = s.input;
          history = s.history;
          stops = subst P same waits_here;
          input_is = s.input_is;
          output_is = output_as o.output port.output _ _ (none_waits s.history s.sent mid.kept none s.bytes_are) s.output_is;
          tells = s.tells;
          told = s.told;
        })

-- ---- the definition's run

pub given_stops : {A : Type 0} (f : A → on.Found) (r : machine.Run A) (e : Ending) (s : State) → given f r ≡ Stops e s → r ≡ Stops e s
given_stops f (Goes a t) e s h = absurd (cc h)
given_stops f (Stops d t) e s h =
    let a : d ≡ e = cc h in
    let b : t ≡ s = cc h in
    ap (λ e. Stops e t) a ∙ ap (Stops e) b

pub given_last : {A : Type 0} (f : A → on.Found) (r : machine.Run A) → last_of (given f r) ≡ last_of r
given_last f (Goes a s) = refl
given_last f (Stops e s) = refl

pub never_goes : (f : Option ℤ → on.Found) (r : machine.Run (Option ℤ)) (x : on.Found) (s : State) → given f (then_do r end_with) ≡ Goes x s → ⊥
never_goes f (Goes v t) x s h = cc h
never_goes f (Stops e t) x s h = cc h

abbrev pub as_found : Option ℤ → on.Found
as_found v = a_flow (Returned v)

-- the run of a program, as a function of its clock
unfoldable pub run_of : typed.Program → List ℕ → Whole
run_of p input n = given as_found (cstep n p input)

-- ---- the result of a run is the answer of the definition

no_more_events : (l : List Event) → l ≡ l ++ []
no_more_events [] = refl
no_more_events (e ∷ l) = ap (λ l. e ∷ l) (no_more_events l)

-- with each further tick it does more
run_grows : (p : typed.Program) (input : List ℕ) → Grows (run_of p input)
unfolding run_of
run_grows p input k =
    let g = trace_grows p input k in (
      g.0,
      ap (λ (s : State). trace_of s.history) (given_last as_found (cstep (suc k) p input)) ∙ g.1
          ∙ ap (λ (s : State). g.0 ++ trace_of s.history) (sym (given_last as_found (cstep k p input))),
    )

abbrev pub outset : List ℕ → PortView → Outset
outset input port = record { input = input; output = port.output }

module _ (T : List Entry → Type 0) (p : typed.Program) (input : List ℕ) (ticks : ℕ) (tally : Tally) (old new : PortView) where
  is_answer : (e : Ending) → EndsAs T p (run_of p input ticks) (outset input old) e tally new → IsAnswer (answer ticks p input) e tally.greatest old new
  unfolding run_of
  is_answer e h =
      let is : cstep ticks p input ≡ Stops e h.stops.state = given_stops as_found (cstep ticks p input) e h.stops.state h.stops.is in
      record {
        ending_is = ap ending_of is;
        input_is = h.input_is ∙ ap Some (sym h.stops.input_is ∙ sym (ap (λ r. (last_of r).input) is));
        output_is = output_as old.output new.output _ _ (ap bytes_of (sym h.stops.history_is) ∙ sym (ap (λ r. bytes_of (last_of r).history) is)) h.output_is;
        greatest_is = h.tells.2 ∙ ap (greatest_sum (weight_in p)) (sym h.stops.history_is) ∙ sym (ap (λ r. greatest_sum (weight_in p) (last_of r).history) is);
      }

  is_begun : (clock : ℕ) → clock ≤ ticks → Begins (run_of p input clock) (outset input old) new → IsBegun p input ticks old new
  unfolding run_of
  is_begun clock le b = record {
    clock = clock;
    within = le;
    events = b.events;
    begins = (b.begins.0, sym (ap (λ (s : State). trace_of s.history) (given_last as_found (cstep clock p input))) ∙ b.begins.1);
    output_is = b.output_is;
    left = b.left;
    left_is = b.left_is;
    got_is = b.got_is;
  }

  never_rests : (x : on.Found) (s : State) → run_of p input ticks ≡ Goes x s → ⊥
  unfolding run_of
  never_rests x s h = never_goes as_found (calling p (suc ticks) p.main [] (start ticks p input)) x s h

  told_so : (e : Ending) → EndsAs T p (run_of p input ticks) (outset input old) e tally new → T (last_of (cstep ticks p input)).history
  unfolding run_of
  told_so e h =
      let is : cstep ticks p input ≡ Stops e h.stops.state = given_stops as_found (cstep ticks p input) e h.stops.state h.stops.is in
      subst T (sym h.stops.history_is ∙ sym (ap (λ r. (last_of r).history) is)) h.told

  pub told_as : (r : Run) → RunStops T p (run_of p input) (outset input old) ticks r tally new → IsTold T p input ticks r
  told_as (run.Ended status) h = told_so (machine.Ended status) h
  told_as (run.Undefined act at) h = told_so (machine.Undefined act at) h
  told_as run.TicksUsed (inl h) = told_so machine.TicksUsed h
  told_as run.TicksUsed (inr h) = absurd (never_rests h.0 h.1.0 h.1.1)
  told_as (run.Port fault) h = tt
  told_as run.Memory h = tt

  pub answered : (r : Run) → RunStops T p (run_of p input) (outset input old) ticks r tally new → RunMeets p input ticks r tally.greatest old new
  answered (run.Ended status) h = is_answer (machine.Ended status) h
  answered (run.Undefined act at) h = is_answer (machine.Undefined act at) h
  answered run.TicksUsed (inl h) = is_answer machine.TicksUsed h
  answered run.TicksUsed (inr h) = absurd (never_rests h.0 h.1.0 h.1.1)
  answered (run.Port fault) h = given_up p input old new ticks (is_begun h.0 h.1.0 h.1.1)
  answered run.Memory h = given_up p input old new ticks (is_begun h.0 h.1.0 h.1.1)

-- ---- main is called

abbrev pub called_main : typed.Program → ℕ → Scene → Outside → on.Moved
called_main p f scene o = entered_call p to_end (slice_get p.functions f) f [] (state_in scene o)

abbrev pub main_at : typed.Program → Scene → Outside → on.Moved
main_at p scene o = called_main p p.main scene o

module _ (p : typed.Program) (input : List ℕ) (gs : List on.Frame) (old new : Scene)
    (fresh : (n : ℕ) → state_in old (outside n input []) ≡ start n p input) where
  abbrev pub first_history : List Entry
  first_history = entered_where (slice_get p.functions p.main) p.main [] []

  main_out : (n : ℕ) → outside_behind (main_at p old (outside n input [])) ≡ outside n input first_history
  main_out n = calm_outside false _ _ (entered_calm p to_end (slice_get p.functions p.main) p.main [] (state_in old (outside n input [])))

  main_is : (n : ℕ) → resumed p (call_in p) (main_at p old (outside n input [])) ≡ run_of p input (n + 0)
  unfolding run_of
  main_is n =
      let same : n ≡ n + 0 = omega arith in
      ap (λ s. resumed p (call_in p) (entered_call p to_end (slice_get p.functions p.main) p.main [] s)) (fresh n) ∙ sym (run_begins p (real p) n input) ∙ ap (λ n. given as_found (cstep n p input)) same

  main_follows : (y : on.Step) → ((o : Outside) → onto [] (main_at p old o) ≡ moves gs y (state_in new (outside_behind (main_at p old o)))) →
      (n : ℕ) → left_of p gs new y input first_history n ≡ run_of p input (n + 0)
  unfolding left_of
  main_follows y step n = goes_on p [] gs new (main_at p old (outside n input [])) y (outside n input first_history) (step (outside n input [])) (main_out n) ∙ main_is n

  main_stops : (e : Ending) → ((o : Outside) → onto [] (main_at p old o) ≡ halts e (state_in new (outside_behind (main_at p old o)))) → (n : ℕ) → StopsAs (run_of p input (n + 0)) e input first_history
  main_stops e step n = stops_so p [] gs new (main_at p old (outside n input [])) e (run_of p input (n + 0)) n input first_history (step (outside n input [])) (main_out n) (main_is n)

trace_begun : (g : Option typed.Function) (f : ℕ) → trace_of (entered_where g f [] []) ≡ []
trace_begun None f = refl
trace_begun (Some g) f = refl

bytes_entered : (g : Option typed.Function) (f : ℕ) → bytes_of (entered_where g f [] []) ≡ []
bytes_entered None f = refl
bytes_entered (Some g) f = refl

pub given_up_first : (p : typed.Program) (input : List ℕ) (ticks : ℕ) (port : PortView) → port.input ≡ Some input → IsGivenUp p input ticks port port × IsBegun p input ticks port port
given_up_first p input ticks port known = given_up p input port port ticks (record {
  clock = 0;
  within = omega arith;
  events = [];
  begins = (trace_of (last_of (cstep 0 p input)).history, no_more_events (trace_of (last_of (cstep 0 p input)).history));
  output_is = nothing_sent port.output;
  left = input;
  left_is = known;
  got_is = refl;
})

module _ (T : List Entry → Type 0) (p : typed.Program) (input : List ℕ) (old new : Interpreter) (mid : Machine) (f : ℕ) (port : PortView) (fresh : Fresh old) (same : mid ≡ old.machine)
    (prog : program_of mid.program.now ≡ p) (is_main : f ≡ p.main) (given : port.input ≡ Some input) (tells : (h : List Entry) → Tells p h old.tally → Tells p (history_called p (typed.function p.main) [] h) new.tally) (told : T (history_called p (typed.function p.main) [] [])) (kept : new.kept ≡ old.kept) where
  none : frames_of mid ≡ []
  none = ap frames_of same ∙ fresh.frames_are

  starts : (n : ℕ) → state_in mid.scene (outside n input []) ≡ start n p input
  starts n =
      let o = outside n input [] in
      ap (λ (m : Machine). state_in m.scene o) same ∙ fresh.state_is o
      ∙ ap (λ (p : typed.Program). start n p input) (sym (ap (λ (m : Machine). program_of m.program.now) same) ∙ prog)

  no_byte : bytes_of (first_history p input (frames_of new.machine) mid.scene new.machine.scene starts) ≡ [] ++ waiting new.kept
  no_byte = bytes_entered (slice_get p.functions p.main) p.main ∙ ap waiting (sym (kept ∙ fresh.none_kept))

  none_done : Done input (first_history p input (frames_of new.machine) mid.scene new.machine.scene starts) input [] new.kept
  none_done = nothing_done input _ new.kept (trace_begun (slice_get p.functions p.main) p.main) (kept ∙ fresh.none_kept)

  pub main_runs : (y : Step) → ((o : Outside) → onto (frames_of mid) (called_main (program_of mid.program.now) f mid.scene o) ≡ moves (frames_of new.machine) (step_of y) (state_in new.machine.scene (outside_behind (called_main (program_of mid.program.now) f mid.scene o)))) →
      new.machine.program ≡ mid.program → Runs T p (run_of p input) (outset input port) 0 new (step_of y) port
  main_runs y acts program =
      let P : typed.Program → ℕ → List on.Frame → Type 0 = λ p f fs. (o : Outside) → onto fs (called_main p f mid.scene o) ≡ moves (frames_of new.machine) (step_of y) (state_in new.machine.scene (outside_behind (called_main p f mid.scene o))) in
      let begun : P p p.main [] = subst (λ (fs : List on.Frame). P p p.main fs) none (subst (λ (f : ℕ). P p f (frames_of mid)) is_main (subst (λ (p : typed.Program). P p f (frames_of mid)) prog acts)) in
      record {
        grows = run_grows p input;
        stands = record {
          sent = [];
          input = input;
          history = first_history p input (frames_of new.machine) mid.scene new.machine.scene starts;
          program_is = ap (λ (b : Bor unit.Program). program_of b.now) program ∙ prog;
          follows = main_follows p input (frames_of new.machine) mid.scene new.machine.scene starts (step_of y) begun;
          input_is = given;
          output_is = nothing_sent port.output;
          bytes_are = no_byte;
          done = none_done;
          tells = tells [] (fresh.none_told p);
          told = told;
        };
      }

  main_ends : (e : Ending) → ((o : Outside) → onto (frames_of mid) (called_main (program_of mid.program.now) f mid.scene o) ≡ halts e (state_in new.machine.scene (outside_behind (called_main (program_of mid.program.now) f mid.scene o)))) →
      Stopping T p (λ n. run_of p input (n + 0)) (outset input port) e new port
  main_ends e acts =
      let P : typed.Program → ℕ → List on.Frame → Type 0 = λ p f fs. (o : Outside) → onto fs (called_main p f mid.scene o) ≡ halts e (state_in new.machine.scene (outside_behind (called_main p f mid.scene o))) in
      let begun : P p p.main [] = subst (λ (fs : List on.Frame). P p p.main fs) none (subst (λ (f : ℕ). P p f (frames_of mid)) is_main (subst (λ (p : typed.Program). P p f (frames_of mid)) prog acts)) in
      record {
        sent = [];
        input = input;
        history = first_history p input (frames_of new.machine) mid.scene new.machine.scene starts;
        stops = main_stops p input (frames_of new.machine) mid.scene new.machine.scene starts e begun;
        input_is = given;
        output_is = nothing_sent port.output;
        bytes_are = no_byte;
        done = none_done;
        tells = tells [] (fresh.none_told p);
        told = told;
      }

  pub main_stopping : (e : Stop) → Acts (λ p s. entered_call p to_end (slice_get p.functions f) f [] s) mid (Err e) new.machine →
      StoppingBy T p (λ n. run_of p input (n + 0)) (outset input port) e new port
  main_stopping (stop.Ended n) acts = main_ends (machine.Ended n) acts
  main_stopping (stop.Undefined act at) acts = main_ends (machine.Undefined act at) acts
  main_stopping stop.Memory acts = record {
    events = [];
    begins = (trace_of (last_of (run_of p input (0 + 0))).history, no_more_events (trace_of (last_of (run_of p input (0 + 0))).history));
    output_is = nothing_sent port.output;
    left = input;
    left_is = given;
    got_is = refl;
  }

pub main_stopped : (T : List Entry → Type 0) (p : typed.Program) (input : List ℕ) (port : PortView) (ticks : ℕ) (r : Run) (tally : Tally) (now : PortView) → StoppedBy T p (λ n. run_of p input (n + 0)) (outset input port) r tally now →
    RunStops T p (run_of p input) (outset input port) ticks r tally now
main_stopped T p input port ticks r tally now h =
    run_stops T p (run_of p input) (outset input port) 0 ticks r tally now (omega arith) (stops_by T p (run_of p input) (outset input port) 0 r tally now h)

-- ---- nearer to the next node

pub falls : (fs : List on.Frame) (s y : Step) (gs : List on.Frame) → ((n : Node) → s ≡ step.Enters n → ⊥) → NearsFrom fs (step_of s) (Ok y) gs → distance gs (step_of y) < distance fs (step_of s)
falls fs (step.Enters n) y gs h near = absurd (h n refl)
falls fs (step.Leaves x) y gs h near = near
falls fs (step.Calls at callee used passed) y gs h near = near

-- ---- a new interpreter

pub fresh_new : (m : Interpreter) (b : Bor unit.Program) → m.machine.program ≡ b → frames_of m.machine ≡ [] →
    ((o : Outside) → state_in m.machine.scene o ≡ record { clock = o.clock; store = first_store (program_of b.now); base = 0; arrays = []; input = o.input; history = o.history }) →
    m.kept ≡ None → ((p : typed.Program) → Tells p [] m.tally) → Fresh m
fresh_new m b e frames state kept tells =
    let P : Bor unit.Program → Type 0 = λ b. (o : Outside) → state_in m.machine.scene o ≡ record { clock = o.clock; store = first_store (program_of b.now); base = 0; arrays = []; input = o.input; history = o.history } in
    record { frames_are = frames; state_is = subst P (sym e) state; none_kept = kept; none_told = tells }

pub meets_new : (a b : Bor unit.Program) (input : List ℕ) (ticks : ℕ) (r : Run) (greatest : ℕ) (old new : PortView) → a ≡ b → RunMeets (program_of a.now) input ticks r greatest old new →
    RunMeets (program_of b.now) input ticks r greatest old new
meets_new a b input ticks r greatest old new e h = let P : Bor unit.Program → Type 0 = λ b. RunMeets (program_of b.now) input ticks r greatest old new in subst P e h

pub told_new : (T : List Entry → Type 0) (a b : Bor unit.Program) (input : List ℕ) (ticks : ℕ) (r : Run) → a ≡ b → IsTold T (program_of a.now) input ticks r → IsTold T (program_of b.now) input ticks r
told_new T a b input ticks r e h = let P : Bor unit.Program → Type 0 = λ b. IsTold T (program_of b.now) input ticks r in subst P e h

-- ---- after the last tick

pub used_up : (T : List Entry → Type 0) (p : typed.Program) (all : Whole) (o : Outset) (k ticks : ℕ) (m : Interpreter) (n : Node) (r : Run) (port : PortView) → k ≡ ticks → r ≡ run.TicksUsed →
    SettleMeets T p (λ n. all (n + k)) o (Ok n) m port → RunStops T p all o ticks r m.tally port
used_up T p all o k ticks m n r port e f met =
    let P : ℕ → Type 0 = λ k. RunStops T p all o k run.TicksUsed m.tally port in
    let Q : Run → Type 0 = λ r. RunStops T p all o ticks r m.tally port in
    subst Q (sym f) (subst P e (ticks_used T p all o k m (node_of n) port met.0 met.1))

pub settle_ends : (U T : List Entry → Type 0) (p : typed.Program) (all : Whole) (o : Outset) (k ticks : ℕ) (old new : Interpreter) (y : on.Step) (x r : Run) (port port2 : PortView) → k ≡ ticks → r ≡ x → Runs U p all o k old y port →
    StoppedBy T p (λ n. all (n + k)) o x new.tally port2 → RunStops T p all o ticks r new.tally port2
settle_ends U T p all o k ticks old new y x r port port2 e f runs h =
    let Q : Run → Type 0 = λ r. RunStops T p all o ticks r new.tally port2 in
    let le : k ≤ ticks = omega arith in
    subst Q (sym f) (run_stops T p all o k ticks x new.tally port2 le (stops_by T p all o k x new.tally port2 h))
