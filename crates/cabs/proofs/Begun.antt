-- What was read and written before a pending byte, and that the run does it first.
use Rattle.std.proofs.Common.{◌≡◌, ℕ, List, [], ◌∷◌, ◌++◌, Option, Some, None, refl, sym, ap, ◌∙◌, subst, append_assoc}
use Rattle.std.proofs.lemmas.List.{reverse-append}
use Rattle.std.specs.Io.KnownBytes.{Keeps, Appends}
use Rattle.csem_events.specs.Events.{Event, Got, GotEnd, Put, puts, gets, written, taken}
use Rattle.typing_spec.specs.Program as typed
use Rattle.csem.specs.History.{Entry, Did, trace_of}
use Rattle.csem.specs.Machine as machine
use Rattle.csem.specs.Meaning.{last_of}
use Rattle.interp_store.specs.layer.Frames as on
use Rattle.interp_store.specs.layer.Agrees.{frames_of}
use Rattle.io_ports.specs.Port.{PortView}
use Rattle.cabs.specs.declared.state.Interpreter.{Interpreter}
use Rattle.cabs.specs.inside.Standing.{Outset, Whole, waiting, unsent, Done, Adds, Begins, GivenUp, Stands, Stopping}
use Rattle.cabs.proofs.Growing.{left_adds}
use Rattle.cabs.proofs.Telling.{append_none, input_kept, output_kept, output_as}

-- ---- what was done before the pending byte

module _ (start : List ℕ) (h : List Entry) (input sent : List ℕ) where
  pub done_kept : (kept kept2 : Option ℕ) → kept2 ≡ kept → Done start h input sent kept → Done start h input sent kept2
  done_kept kept kept2 e d = let P : Option ℕ → Type 0 = λ k. Done start h input sent k in subst P (sym e) d

  pub done_as : (h2 : List Entry) (kept : Option ℕ) → trace_of h2 ≡ trace_of h → Done start h input sent kept → Done start h2 input sent kept
  done_as h2 kept e d = record { events = d.events; events_are = e ∙ d.events_are; sent_are = d.sent_are; got_is = d.got_is }

sent_late : (kept : Option ℕ) (events : List Event) → written (unsent kept ++ events) ≡ written events ++ waiting kept
sent_late None events = append_none (written events)
sent_late (Some b) events = reverse-append (b ∷ []) (puts events)

taken_late : (kept : Option ℕ) (events : List Event) → taken (unsent kept ++ events) ≡ taken events
taken_late None events = refl
taken_late (Some b) events = refl

pub done_sent : (start : List ℕ) (h : List Entry) (input sent : List ℕ) (kept kept2 : Option ℕ) → kept2 ≡ None → Done start h input sent kept → Done start h input (sent ++ waiting kept) kept2
done_sent start h input sent kept kept2 e d = done_kept start h input (sent ++ waiting kept) None kept2 e (record {
  events = unsent kept ++ d.events;
  events_are = d.events_are;
  sent_are = sent_late kept d.events ∙ ap (λ xs. xs ++ waiting kept) d.sent_are;
  got_is = d.got_is ∙ ap (λ xs. xs ++ input) (sym (taken_late kept d.events));
})

taken_more : (events : List Event) (b : ℕ) (rest : List ℕ) → taken events ++ b ∷ rest ≡ taken (Got b ∷ events) ++ rest
taken_more events b rest = sym (append_assoc (taken events) (b ∷ []) rest) ∙ ap (λ xs. xs ++ rest) (sym (reverse-append (b ∷ []) (gets events)))

module _ (start : List ℕ) (h : List Entry) (input sent : List ℕ) (kept : Option ℕ) (none : kept ≡ None) (d : Done start h input sent kept) where
  none_late : trace_of h ≡ d.events
  none_late = d.events_are ∙ ap (λ k. unsent k ++ d.events) none

  pub done_got : (rest : List ℕ) (b : ℕ) → input ≡ b ∷ rest → Done start (Did (Got b) ∷ h) rest sent kept
  done_got rest b i = done_kept start (Did (Got b) ∷ h) rest sent None kept none (record {
    events = Got b ∷ d.events;
    events_are = ap (λ l. Got b ∷ l) none_late;
    sent_are = d.sent_are;
    got_is = d.got_is ∙ ap (λ xs. taken d.events ++ xs) i ∙ taken_more d.events b rest;
  })

  pub done_end : input ≡ [] → Done start (Did GotEnd ∷ h) [] sent kept
  done_end i = done_kept start (Did GotEnd ∷ h) [] sent None kept none (record {
    events = GotEnd ∷ d.events;
    events_are = ap (λ l. GotEnd ∷ l) none_late;
    sent_are = d.sent_are;
    got_is = d.got_is ∙ ap (λ xs. taken d.events ++ xs) i;
  })

  pub done_put : (b : ℕ) → Done start (Did (Put b) ∷ h) input sent (Some b)
  done_put b = record {
    events = d.events;
    events_are = ap (λ l. Put b ∷ l) none_late;
    sent_are = d.sent_are;
    got_is = d.got_is;
  }

-- before the run
pub nothing_done : (input : List ℕ) (h : List Entry) (kept : Option ℕ) → trace_of h ≡ [] → kept ≡ None → Done input h input [] kept
nothing_done input h kept e none = done_kept input h input [] None kept none (record { events = []; events_are = e; sent_are = refl; got_is = refl })

-- ---- the run does it first

module _ (whole : machine.Run on.Found) (o : Outset) where
  pub done_begins : (port : PortView) (h : List Entry) (input sent : List ℕ) (kept : Option ℕ) → Adds h whole → port.input ≡ Some input → Appends o.output port.output sent → Done o.input h input sent kept →
      Begins whole o port
  done_begins port h input sent kept a i out d = record {
    events = d.events;
    begins = (a.0 ++ unsent kept, a.1 ∙ ap (λ l. a.0 ++ l) d.events_are ∙ sym (append_assoc a.0 (unsent kept) d.events));
    output_is = output_as o.output port.output sent _ (sym d.sent_are) out;
    left = input;
    left_is = i;
    got_is = d.got_is;
  }

  pub begins_kept : (old new : PortView) → Keeps old.input new.input → Keeps old.output new.output → Begins whole o old → Begins whole o new
  begins_kept old new i k b = record {
    events = b.events;
    begins = b.begins;
    output_is = output_kept o.output old.output new.output _ k b.output_is;
    left = b.left;
    left_is = input_kept old.input new.input b.left i b.left_is;
    got_is = b.got_is;
  }

  pub begins_more : (longer : machine.Run on.Found) (port : PortView) → Adds (last_of whole).history longer → Begins whole o port → Begins longer o port
  begins_more longer port a b = record {
    events = b.events;
    begins = (a.0 ++ b.begins.0, a.1 ∙ ap (λ l. a.0 ++ l) b.begins.1 ∙ sym (append_assoc a.0 b.begins.0 b.events));
    output_is = b.output_is;
    left = b.left;
    left_is = b.left_is;
    got_is = b.got_is;
  }

module _ (T : List Entry → Type 0) (p : typed.Program) (whole : Whole) (o : Outset) where
  -- a run that is given up at this state
  pub given_up_here : (m : Interpreter) (x : on.Step) (port : PortView) → Stands T p whole o m x port → GivenUp whole o port
  given_up_here m x port s =
      let a = left_adds p (frames_of m.machine) m.machine.scene x s.input s.history in
      done_begins (whole 0) o port s.history s.input s.sent m.kept (a.0, ap (λ r. trace_of (last_of r).history) (sym (s.follows 0)) ∙ a.1) s.input_is s.output_is s.done

  -- where it stops
  pub given_up_stopping : (e : machine.Ending) (m : Interpreter) (port : PortView) → Stopping T p whole o e m port → GivenUp whole o port
  given_up_stopping e m port s =
      let is = (s.stops 0).is in
      done_begins (whole 0) o port s.history s.input s.sent m.kept ([], ap (λ r. trace_of (last_of r).history) is ∙ ap trace_of (s.stops 0).history_is) s.input_is s.output_is s.done
