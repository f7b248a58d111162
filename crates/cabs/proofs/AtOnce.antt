-- Parts that are evaluated as a whole.
use Rattle.std.proofs.Common.{◌≡◌, ◌≤◌, ◌<◌, inl, ℕ, ◌+◌, ◌-◌, List, ◌++◌, Option, Some, None, refl, sym, ap, ◌∙◌, subst, arith, Bor}
use Rattle.std.specs.Prelude.{Result, Ok, Err}
use Rattle.typing_spec.specs.Program as typed
use Rattle.typed_ast.specs.declared.units.Program as unit
use Rattle.typed_ast.specs.View.{program_of}
use Rattle.csem.specs.History.{Entry}
use Rattle.csem.specs.Machine as machine
use Rattle.csem.specs.Machine.{State, Ending, Goes, Stops, then_do}
use Rattle.interp_store.specs.declared.scene.Scene.{Scene}
use Rattle.interp_store.specs.declared.frames.Found.{Found}
use Rattle.interp_store.specs.declared.frames.Step.{Step}
use Rattle.interp_store.specs.layer.Frames as on
use Rattle.interp_store.specs.layer.Frames.{enters, leaves}
use Rattle.interp_store.specs.layer.Presents.{resume, presented, call_in}
use Rattle.interp_store.specs.layer.Views.{found_of}
use Rattle.interp_store.specs.layer.Agrees.{frames_of}
use Rattle.interp_transitions.specs.declared.tally.Tally.{Tally}
use Rattle.io_ports.specs.declared.port.PortFault.{PortFault}
use Rattle.io_ports.specs.Port.{PortView}
use Rattle.interp_eval.specs.declared.clock.Clock.{Clock}
use Rattle.interp_eval.specs.declared.clock.Why.{Why}
use Rattle.interp_eval.specs.declared.clock.Why.TheVariants as why
use Rattle.interp_eval.specs.layer.Comes as part
use Rattle.interp_eval.specs.layer.Comes.{Course, state_at, Leads, Comes, DoesIn}
use Rattle.cabs.specs.declared.state.Interpreter.{Interpreter}
use Rattle.cabs.specs.declared.outcome.Run.{Run}
use Rattle.cabs.specs.declared.outcome.Run.TheVariants as run
use Rattle.cabs.specs.inside.Standing.{Outset, Grows, Whole, left_of, waiting, Stands, Runs, EndsAs, RunStops, IsCalm, CountsUntil, BlamesUntil, stopped_for}
use Rattle.cabs.proofs.Begun.{done_kept, given_up_here}
use Rattle.cabs.proofs.Following.{resume_stops}
use Rattle.cabs.proofs.Telling.{output_as, none_waits, tells_as}

-- what the frames do with a result
abbrev pub goes_to : typed.Program → List on.Frame → on.Found → State → machine.Run on.Found
goes_to p fs x s = resume p (call_in p) fs (Goes x s)

pub then_resumed : (p : typed.Program) (fs : List on.Frame) (r : machine.Run on.Found) → then_do r (goes_to p fs) ≡ resume p (call_in p) fs r
then_resumed p fs (Goes x s) = refl
then_resumed p fs (Stops e s) = sym (resume_stops p (call_in p) fs e s)

module _ (T : List Entry → Type 0) (p : typed.Program) (all : Whole) (o : Outset) (limit k : ℕ) (mid : Interpreter) (x : on.Node) (port : PortView)
    (s : Stands T p (λ n. all (n + k)) o mid (enters x) port) (none : mid.kept ≡ None) where
  abbrev pub course : Course
  course = record { whole = all; input = s.input; history = s.history }

  pub leads_here : Leads course k mid.machine.scene (λ s. presented p (call_in p) x s) (goes_to p (frames_of mid.machine))
  unfolding left_of
  leads_here = record { is_left = λ n. then_resumed p (frames_of mid.machine) (presented p (call_in p) x (state_at course mid.machine.scene n)) ∙ s.follows n }

  pub came_here : (r : Option Found) (new : Clock) (later : Scene) →
      DoesIn found_of limit (program_of mid.machine.program.now) (λ p s. presented p (call_in p) x s) (record { spent = k; why = why.Memory }) mid.machine.scene r new later →
      Comes found_of course (goes_to p (frames_of mid.machine)) limit r new later
  came_here r new later does =
      let P : typed.Program → Type 0 = λ q. DoesIn found_of limit q (λ p s. presented p (call_in p) x s) (record { spent = k; why = why.Memory }) mid.machine.scene r new later in
      let here : P p = subst P s.program_is does in
      here course (goes_to p (frames_of mid.machine)) leads_here

  pub came_as : (r t : Option Found) (new : Clock) (later : Scene) → r ≡ t →
      DoesIn found_of limit (program_of mid.machine.program.now) (λ p s. presented p (call_in p) x s) (record { spent = k; why = why.Memory }) mid.machine.scene r new later →
      Comes found_of course (goes_to p (frames_of mid.machine)) limit t new later
  came_as r t new later e does =
      let P : Option Found → Type 0 = λ r. Comes found_of course (goes_to p (frames_of mid.machine)) limit r new later in
      subst P e (came_here r new later does)

  -- the run goes on
  pub once_goes : Grows all → (new : Interpreter) (clock : Clock) (y : Found) → frames_of new.machine ≡ frames_of mid.machine → new.machine.program ≡ mid.machine.program → new.tally ≡ mid.tally → new.kept ≡ mid.kept →
      k < clock.spent → Comes found_of course (goes_to p (frames_of mid.machine)) limit (Some y) clock new.machine.scene → Runs T p all o clock.spent new (leaves (found_of y)) port
  unfolding left_of
  once_goes grows new clock y frames program t kept more came = record {
    grows = grows;
    stands = record {
      sent = s.sent;
      input = s.input;
      history = s.history;
      program_is = ap (λ (b : Bor unit.Program). program_of b.now) program ∙ s.program_is;
      follows = λ n. ap (λ fs. goes_to p fs (found_of y) (state_at course new.machine.scene n)) frames ∙ came n;
      input_is = s.input_is;
      output_is = s.output_is;
      bytes_are = s.bytes_are ∙ ap (λ k. s.sent ++ waiting k) (sym kept);
      done = done_kept o.input s.history s.input s.sent mid.kept new.kept kept s.done;
      tells = tells_as p s.history s.history mid.tally new.tally refl t s.tells;
      told = s.told;
    };
  }

  ends_so : (tally : Tally) (e : Ending) (scene : Scene) (n : ℕ) → tally ≡ mid.tally → all limit ≡ Stops e (state_at course scene n) → EndsAs T p (all limit) o e tally port
  ends_so tally e scene n t is = record {
    input = s.input;
    history = s.history;
    stops = record { state = state_at course scene n; is = is; input_is = refl; history_is = refl };
    input_is = s.input_is;
    output_is = output_as o.output port.output _ _ (none_waits s.history s.sent mid.kept none s.bytes_are) s.output_is;
    tells = tells_as p s.history s.history mid.tally tally refl t s.tells;
    told = s.told;
  }

  -- or it is given up
  once_given_up : (tally : Tally) → k < limit → RunStops T p all o limit run.Memory tally port
  once_given_up tally room = (0 + k, (omega (arith, room), given_up_here T p (λ n. all (n + k)) o mid (enters x) port s))

  -- or it stops
  pub once_stops : (tally : Tally) (scene : Scene) (spent : ℕ) (w : Why) → tally ≡ mid.tally → k < limit → spent ≤ limit → part.StopsBy course limit w spent scene → RunStops T p all o limit (stopped_for w) tally port
  once_stops tally scene spent why.Ticks t room le h = inl (ends_so tally machine.TicksUsed scene 0 t (ap all (sym h.0) ∙ h.1))
  once_stops tally scene spent (why.Undefined act at) t room le h =
      let same : (limit - spent) + spent ≡ limit = omega (arith, le) in
      ends_so tally (machine.Undefined act at) scene (limit - spent) t (ap all (sym same) ∙ h (limit - spent))
  once_stops tally scene spent why.Memory t room le h = once_given_up tally room
  once_stops tally scene spent why.Elsewhere t room le h = once_given_up tally room

-- ---- the port was not used

pub calm_stop : (w : Why) → IsCalm (Err (stopped_for w))
calm_stop why.Ticks = tt
calm_stop (why.Undefined act at) = tt
calm_stop why.Memory = tt
calm_stop why.Elsewhere = tt

pub calm_counts : (r : Result Step Run) (old new : ℕ) → new ≡ old → IsCalm r → CountsUntil r old new
calm_counts (Ok x) old new e c = e
calm_counts (Err (run.Ended status)) old new e c = e
calm_counts (Err (run.Undefined act at)) old new e c = e
calm_counts (Err run.TicksUsed) old new e c = e
calm_counts (Err (run.Port fault)) old new e c = absurd c
calm_counts (Err run.Memory) old new e c = e

pub calm_blames : (P : PortFault → Type 0) (r : Result Step Run) → IsCalm r → BlamesUntil P r
calm_blames P (Ok x) c = tt
calm_blames P (Err (run.Ended status)) c = tt
calm_blames P (Err (run.Undefined act at)) c = tt
calm_blames P (Err run.TicksUsed) c = tt
calm_blames P (Err (run.Port fault)) c = absurd c
calm_blames P (Err run.Memory) c = tt
