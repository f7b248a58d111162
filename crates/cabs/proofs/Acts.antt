-- The state of a run after a step that takes no tick, and how it stops there.
use Rattle.std.proofs.Common.{◌≡◌, ℕ, ℤ, pos, negsuc, List, [], ◌∷◌, ◌++◌, Option, Some, None, refl, sym, ap, ◌∙◌, subst, Bor}
use Rattle.std.specs.Prelude.{Ok, Err, Bool, true, false, slice_get}
use Rattle.std.specs.Io.KnownBytes.{Keeps, Appends}
use Rattle.srcset.specs.declared.refusal.Pos.{Pos}
use Rattle.csem_events.specs.Events.{Got, GotEnd, Put}
use Rattle.ctypes.specs.Types.{modulo}
use Rattle.typing_spec.specs.Program as typed
use Rattle.typed_ast.specs.declared.units.Program as unit
use Rattle.typed_ast.specs.View.{program_of}
use Rattle.csem.specs.History.{Entry, Did}
use Rattle.csem.specs.Expressions.{Passed, first_number}
use Rattle.csem.specs.Machine as machine
use Rattle.interp_store.specs.declared.stop.Stop.{Stop}
use Rattle.interp_store.specs.declared.stop.Stop.TheVariants as stop
use Rattle.interp_store.specs.declared.machine.Machine.{Machine}
use Rattle.interp_store.specs.declared.scene.Scene.{Scene}
use Rattle.interp_store.specs.declared.frames.Step.{Step}
use Rattle.interp_store.specs.layer.Frames as on
use Rattle.interp_store.specs.layer.Frames.{moves, halts, leaves, calls, a_value}
use Rattle.interp_store.specs.layer.Steps.{left, called}
use Rattle.interp_store.specs.layer.Views.{step_of}
use Rattle.interp_store.specs.layer.Agrees.{Outside, state_in, onto, frames_of}
use Rattle.interp_transitions.specs.declared.tally.Tally.{Tally}
use Rattle.interp_transitions.specs.Tallied.{Tells}
use Rattle.interp_transitions.specs.Acts.{Acts, outside_behind}
use Rattle.interp_transitions.specs.Calls.{IsInside, CallActs}
use Rattle.interp_transitions.specs.declared.calling.Called.{Called}
use Rattle.io_ports.specs.Port.{PortView, Gets}
use Rattle.cabs.specs.declared.state.Interpreter.{Interpreter}
use Rattle.cabs.specs.inside.Standing.{Outset, Whole, GivenUp, left_of, history_left, history_called, waiting, Stands, Stopping, StoppingBy, Stopped, Rests, is_flow, is_return, result_left, left_where, entered_where, bytes_of}
use Rattle.cabs.proofs.Begun.{done_kept, done_as, done_sent, done_got, done_end, done_put, given_up_here, given_up_stopping, begins_kept}
use Rattle.cabs.proofs.Growing.{trace_left, trace_called}
use Rattle.cabs.proofs.Following.{left_at, called_at, frame_follows, frame_stops, call_follows, call_stops, rests}
use Rattle.cabs.proofs.Telling.{first_taken, none_left, input_kept, output_kept, output_grown, output_as, append_none, byte_put, did_tells, tells_as}

pub called_as : (old new : Machine) (at : Pos) (callee : typed.Callee) (used : Bool) (passed : List Passed) (x y : Called) → x ≡ y → CallActs old at callee used passed (Ok x) new → CallActs old at callee used passed (Ok y) new
called_as old new at callee used passed x y e h = let P : Called → Type 0 = λ x. CallActs old at callee used passed (Ok x) new in subst P e h

-- ---- calls write no byte

bytes_left : (flow ends : Bool) (result : Option ℕ) (h : List Entry) → bytes_of (left_where flow ends result h) ≡ bytes_of h
bytes_left false ends result h = refl
bytes_left true false result h = refl
bytes_left true true result h = refl

bytes_entered : (g : Option typed.Function) (f : ℕ) (passed : List Passed) (h : List Entry) → bytes_of (entered_where g f passed h) ≡ bytes_of h
bytes_entered None f passed h = refl
bytes_entered (Some g) f passed h = refl

bytes_called : (p : typed.Program) (callee : typed.Callee) (passed : List Passed) (h : List Entry) → bytes_of (history_called p callee passed h) ≡ bytes_of h
bytes_called p (typed.function f) passed h = bytes_entered (slice_get p.functions f) f passed h
bytes_called p typed.get_byte passed h = refl
bytes_called p typed.put_byte passed h = refl
bytes_called p typed.exit passed h = refl
bytes_called p (typed.missing name) passed h = refl

-- the history of a call, by the program at hand
pub told_at : (p q : typed.Program) (callee : typed.Callee) (passed : List Passed) (T U : List Entry → Type 0) → q ≡ p → ((h : List Entry) → T h → U (history_called q callee passed h)) → (h : List Entry) → T h → U (history_called p callee passed h)
told_at p q callee passed T U e t = let P : typed.Program → Type 0 = λ p. (h : List Entry) → T h → U (history_called p callee passed h) in subst P e t

-- ---- the pending byte is written

pub byte_sent : (T : List Entry → Type 0) (p : typed.Program) (whole : Whole) (o : Outset) (old new : Interpreter) (x : on.Step) (port port2 : PortView) → Stands T p whole o old x port →
    Keeps port.input port2.input → Appends port.output port2.output (waiting old.kept) → new.machine ≡ old.machine → new.tally ≡ old.tally → new.kept ≡ None →
    Stands T p whole o new x port2
byte_sent T p whole o old new x port port2 s i a m t k = record {
  sent = s.sent ++ waiting old.kept;
  input = s.input;
  history = s.history;
  program_is = ap (λ (m : Machine). program_of m.program.now) m ∙ s.program_is;
  follows = λ n. ap (λ (m : Machine). left_of p (frames_of m) m.scene x s.input s.history n) m ∙ s.follows n;
  input_is = input_kept port.input port2.input s.input i s.input_is;
  output_is = output_grown o.output port.output port2.output s.sent (waiting old.kept) a s.output_is;
  bytes_are = s.bytes_are ∙ append_none (s.sent ++ waiting old.kept) ∙ ap (λ k. (s.sent ++ waiting old.kept) ++ waiting k) (sym k);
  done = done_sent o.input s.history s.input s.sent old.kept new.kept k s.done;
  tells = tells_as p s.history s.history old.tally new.tally refl t s.tells;
  told = s.told;
}

module _ (T U : List Entry → Type 0) (p : typed.Program) (whole : Whole) (o : Outset) where
  pub stop_sent : (e : machine.Ending) (m : Interpreter) (tally : Tally) (old new : PortView) → Stopping T p whole o e m old → Keeps old.input new.input →
      Appends old.output new.output (waiting m.kept) → tally ≡ m.tally → Stopped T p whole o e tally new
  stop_sent e m tally old new s i a t = record {
    input = s.input;
    history = s.history;
    stops = s.stops;
    input_is = input_kept old.input new.input s.input i s.input_is;
    output_is = output_as o.output new.output _ _ (sym s.bytes_are) (output_grown o.output old.output new.output s.sent (waiting m.kept) a s.output_is);
    tells = tells_as p s.history s.history m.tally tally refl t s.tells;
    told = s.told;
  }

  pub stop_refused : (e : machine.Ending) (m : Interpreter) (old new : PortView) → Stopping T p whole o e m old → Keeps old.input new.input → Keeps old.output new.output → GivenUp whole o new
  stop_refused e m old new s i k = begins_kept (whole 0) o old new i k (given_up_stopping T p whole o e m old s)

  pub stopping_as : (a b : Stop) (m : Interpreter) (port : PortView) → a ≡ b → StoppingBy T p whole o a m port → StoppingBy T p whole o b m port
  stopping_as a b m port e h = let P : Stop → Type 0 = λ a. StoppingBy T p whole o a m port in subst P e h

  -- ---- a result is passed to a frame

  module _ (old new : Interpreter) (mid : Machine) (f : on.Frame) (x : on.Found) (port : PortView) (popped : frames_of old.machine ≡ frames_of mid ++ f ∷ []) (scene : mid.scene ≡ old.machine.scene)
      (program : mid.program ≡ old.machine.program) (tells : (h : List Entry) → Tells p h old.tally → Tells p (history_left f x h) new.tally) (told : (h : List Entry) → T h → U (history_left f x h)) (kept : new.kept ≡ old.kept)
      (s : Stands T p whole o old (leaves x) port) where
    program_now : program_of mid.program.now ≡ p
    program_now = ap (λ (b : Bor unit.Program). program_of b.now) program ∙ s.program_is

    follows_mid : (n : ℕ) → left_of p (frames_of mid ++ f ∷ []) mid.scene (leaves x) s.input s.history n ≡ whole n
    follows_mid n =
        ap (λ (c : Scene). left_of p (frames_of mid ++ f ∷ []) c (leaves x) s.input s.history n) scene
        ∙ ap (λ (fs : List on.Frame). left_of p fs old.machine.scene (leaves x) s.input s.history n) (sym popped) ∙ s.follows n

    pub frame_stands : (y : Step) → Acts (λ p s. left p f x s) mid (Ok y) new.machine → new.machine.program ≡ mid.program → Stands U p whole o new (step_of y) port
    frame_stands y acts same =
        let P : typed.Program → Type 0 = λ p. (o : Outside) → onto (frames_of mid) (left_at p f x mid.scene o) ≡ moves (frames_of new.machine) (step_of y) (state_in new.machine.scene (outside_behind (left_at p f x mid.scene o))) in
        record {
          sent = s.sent;
          input = s.input;
          history = history_left f x s.history;
          program_is = ap (λ (b : Bor unit.Program). program_of b.now) same ∙ program_now;
          follows = frame_follows p (frames_of mid) (frames_of new.machine) f x mid.scene new.machine.scene s.input s.history (history_left f x s.history) whole refl follows_mid (step_of y) (subst P program_now acts);
          input_is = s.input_is;
          output_is = s.output_is;
          bytes_are = bytes_left (is_flow x) (is_return f) (result_left f x) s.history ∙ s.bytes_are ∙ ap (λ k. s.sent ++ waiting k) (sym kept);
          done = done_as o.input s.history s.input s.sent _ new.kept (trace_left (is_flow x) (is_return f) (result_left f x) s.history) (done_kept o.input s.history s.input s.sent old.kept new.kept kept s.done);
          tells = tells s.history s.tells;
          told = told s.history s.told;
        }

    frame_ends : (e : machine.Ending) → ((o : Outside) → onto (frames_of mid) (left_at (program_of mid.program.now) f x mid.scene o) ≡ halts e (state_in new.machine.scene (outside_behind (left_at (program_of mid.program.now) f x mid.scene o)))) →
        Stopping U p whole o e new port
    frame_ends e acts =
        let P : typed.Program → Type 0 = λ p. (o : Outside) → onto (frames_of mid) (left_at p f x mid.scene o) ≡ halts e (state_in new.machine.scene (outside_behind (left_at p f x mid.scene o))) in
        record {
          sent = s.sent;
          input = s.input;
          history = history_left f x s.history;
          stops = frame_stops p (frames_of mid) (frames_of new.machine) f x mid.scene new.machine.scene s.input s.history (history_left f x s.history) whole refl follows_mid e (subst P program_now acts);
          input_is = s.input_is;
          output_is = s.output_is;
          bytes_are = bytes_left (is_flow x) (is_return f) (result_left f x) s.history ∙ s.bytes_are ∙ ap (λ k. s.sent ++ waiting k) (sym kept);
          done = done_as o.input s.history s.input s.sent _ new.kept (trace_left (is_flow x) (is_return f) (result_left f x) s.history) (done_kept o.input s.history s.input s.sent old.kept new.kept kept s.done);
          tells = tells s.history s.tells;
          told = told s.history s.told;
        }

    pub frame_stopping : (e : Stop) → Acts (λ p s. left p f x s) mid (Err e) new.machine → StoppingBy U p whole o e new port
    frame_stopping (stop.Ended n) acts = frame_ends (machine.Ended n) acts
    frame_stopping (stop.Undefined act at) acts = frame_ends (machine.Undefined act at) acts
    frame_stopping stop.Memory acts = given_up_here T p whole o old (leaves x) port s

  pub nothing_waits : (m : Interpreter) (x : on.Found) (port : PortView) → frames_of m.machine ≡ [] → Stands T p whole o m (leaves x) port → Rests whole
  nothing_waits m x port e s = rests p (frames_of m.machine) x m.machine.scene s.input s.history whole e s.follows

  -- ---- a call

  module _ (old new : Interpreter) (mid : Machine) (at : Pos) (callee : typed.Callee) (used : Bool) (passed : List Passed) (port : PortView) (same : mid ≡ old.machine)
      (tells : (h : List Entry) → Tells p h old.tally → Tells p (history_called p callee passed h) new.tally) (told : (h : List Entry) → T h → U (history_called p callee passed h)) (kept : new.kept ≡ old.kept)
      (s : Stands T p whole o old (calls at callee used passed) port) where
    program_called : program_of mid.program.now ≡ p
    program_called = ap (λ (m : Machine). program_of m.program.now) same ∙ s.program_is

    follows_called : (n : ℕ) → left_of p (frames_of mid) mid.scene (calls at callee used passed) s.input s.history n ≡ whole n
    follows_called n = ap (λ (m : Machine). left_of p (frames_of m) m.scene (calls at callee used passed) s.input s.history n) same ∙ s.follows n

    pub call_stands : (y : Step) → IsInside callee → Acts (λ p s. called p at callee used passed s) mid (Ok y) new.machine → new.machine.program ≡ mid.program →
        Stands U p whole o new (step_of y) port
    call_stands y inside acts program =
        let P : typed.Program → Type 0 = λ p. (o : Outside) → onto (frames_of mid) (called_at p at callee used passed mid.scene o) ≡ moves (frames_of new.machine) (step_of y) (state_in new.machine.scene (outside_behind (called_at p at callee used passed mid.scene o))) in
        record {
          sent = s.sent;
          input = s.input;
          history = history_called p callee passed s.history;
          program_is = ap (λ (b : Bor unit.Program). program_of b.now) program ∙ program_called;
          follows = call_follows p (frames_of mid) (frames_of new.machine) at callee used passed mid.scene new.machine.scene s.input s.history (history_called p callee passed s.history) whole inside refl follows_called (step_of y) (subst P program_called acts);
          input_is = s.input_is;
          output_is = s.output_is;
          bytes_are = bytes_called p callee passed s.history ∙ s.bytes_are ∙ ap (λ k. s.sent ++ waiting k) (sym kept);
          done = done_as o.input s.history s.input s.sent _ new.kept (trace_called p callee passed s.history) (done_kept o.input s.history s.input s.sent old.kept new.kept kept s.done);
          tells = tells s.history s.tells;
          told = told s.history s.told;
        }

    call_ends : (e : machine.Ending) → IsInside callee → ((o : Outside) → onto (frames_of mid) (called_at (program_of mid.program.now) at callee used passed mid.scene o) ≡ halts e (state_in new.machine.scene (outside_behind (called_at (program_of mid.program.now) at callee used passed mid.scene o)))) →
        Stopping U p whole o e new port
    call_ends e inside acts =
        let P : typed.Program → Type 0 = λ p. (o : Outside) → onto (frames_of mid) (called_at p at callee used passed mid.scene o) ≡ halts e (state_in new.machine.scene (outside_behind (called_at p at callee used passed mid.scene o))) in
        record {
          sent = s.sent;
          input = s.input;
          history = history_called p callee passed s.history;
          stops = call_stops p (frames_of mid) (frames_of new.machine) at callee used passed mid.scene new.machine.scene s.input s.history (history_called p callee passed s.history) whole inside refl follows_called e (subst P program_called acts);
          input_is = s.input_is;
          output_is = s.output_is;
          bytes_are = bytes_called p callee passed s.history ∙ s.bytes_are ∙ ap (λ k. s.sent ++ waiting k) (sym kept);
          done = done_as o.input s.history s.input s.sent _ new.kept (trace_called p callee passed s.history) (done_kept o.input s.history s.input s.sent old.kept new.kept kept s.done);
          tells = tells s.history s.tells;
          told = told s.history s.told;
        }

    pub call_stopping : (e : Stop) → IsInside callee → Acts (λ p s. called p at callee used passed s) mid (Err e) new.machine → StoppingBy U p whole o e new port
    call_stopping (stop.Ended n) inside acts = call_ends (machine.Ended n) inside acts
    call_stopping (stop.Undefined act at) inside acts = call_ends (machine.Undefined act at) inside acts
    call_stopping stop.Memory inside acts = given_up_here T p whole o old (calls at callee used passed) port s

  -- a call that does nothing yet
  pub still_stands : (old new : Interpreter) (at : Pos) (callee byte : typed.Callee) (used : Bool) (passed : List Passed) (port : PortView) → callee ≡ byte → new.machine ≡ old.machine →
      ((h : List Entry) → Tells p h old.tally → Tells p (history_called p callee passed h) new.tally) → ((h : List Entry) → T h → U (history_called p callee passed h)) → ((h : List Entry) → history_called p byte passed h ≡ h) → new.kept ≡ old.kept →
      Stands T p whole o old (calls at callee used passed) port → Stands U p whole o new (calls at byte used passed) port
  still_stands old new at callee byte used passed port e m tells told same kept s =
      let P : typed.Callee → Type 0 = λ c. Tells p (history_called p c passed s.history) new.tally in
      let Q : List Entry → Type 0 = λ h. Tells p h new.tally in
      let R : typed.Callee → Type 0 = λ c. U (history_called p c passed s.history) in
      record {
        sent = s.sent;
        input = s.input;
        history = s.history;
        program_is = ap (λ (m : Machine). program_of m.program.now) m ∙ s.program_is;
        follows = λ n. ap (λ (m : Machine). left_of p (frames_of m) m.scene (calls at byte used passed) s.input s.history n) m
            ∙ ap (λ (c : typed.Callee). left_of p (frames_of old.machine) old.machine.scene (calls at c used passed) s.input s.history n) (sym e) ∙ s.follows n;
        input_is = s.input_is;
        output_is = s.output_is;
        bytes_are = s.bytes_are ∙ ap (λ k. s.sent ++ waiting k) (sym kept);
        done = done_kept o.input s.history s.input s.sent old.kept new.kept kept s.done;
        tells = subst Q (same s.history) (subst P e (tells s.history s.tells));
        told = subst U (same s.history) (subst R e (told s.history s.told));
      }

  pub tells_at : (q : typed.Program) (callee : typed.Callee) (passed : List Passed) (a b : Tally) → q ≡ p → ((h : List Entry) → Tells q h a → Tells q (history_called q callee passed h) b) →
      (h : List Entry) → Tells p h a → Tells p (history_called p callee passed h) b
  tells_at q callee passed a b e t = let P : typed.Program → Type 0 = λ p. (h : List Entry) → Tells p h a → Tells p (history_called p callee passed h) b in subst P e t

  -- ---- a byte

  module _ (m : Interpreter) (at : Pos) (used : Bool) (passed : List Passed) where
    got_follows : (input rest : List ℕ) (b : ℕ) (h : List Entry) → input ≡ b ∷ rest → ((n : ℕ) → left_of p (frames_of m.machine) m.machine.scene (calls at typed.get_byte used passed) input h n ≡ whole n) →
        (n : ℕ) → left_of p (frames_of m.machine) m.machine.scene (leaves (a_value (pos b))) rest (Did (Got b) ∷ h) n ≡ whole n
    unfolding left_of
    got_follows input rest b h e follows n = sym (ap (λ (i : List ℕ). left_of p (frames_of m.machine) m.machine.scene (calls at typed.get_byte used passed) i h n) e) ∙ follows n

    end_follows : (input : List ℕ) (h : List Entry) → input ≡ [] → ((n : ℕ) → left_of p (frames_of m.machine) m.machine.scene (calls at typed.get_byte used passed) input h n ≡ whole n) →
        (n : ℕ) → left_of p (frames_of m.machine) m.machine.scene (leaves (a_value (negsuc 0))) [] (Did GotEnd ∷ h) n ≡ whole n
    unfolding left_of
    end_follows input h e follows n = sym (ap (λ (i : List ℕ). left_of p (frames_of m.machine) m.machine.scene (calls at typed.get_byte used passed) i h n) e) ∙ follows n

    put_follows : (input : List ℕ) (b : ℕ) (h : List Entry) → b ≡ modulo 8 (first_number passed) → ((n : ℕ) → left_of p (frames_of m.machine) m.machine.scene (calls at typed.put_byte used passed) input h n ≡ whole n) →
        (n : ℕ) → left_of p (frames_of m.machine) m.machine.scene (leaves (a_value (pos 0))) input (Did (Put b) ∷ h) n ≡ whole n
    unfolding left_of
    put_follows input b h e follows n = ap (λ (b : ℕ). left_of p (frames_of m.machine) m.machine.scene (leaves (a_value (pos 0))) input (Did (Put b) ∷ h) n) e ∙ follows n

    pub got_stands : (b : ℕ) (v : ℤ) (old new : PortView) → m.kept ≡ None → v ≡ pos b → Gets old new (Some b) → ((h : List Entry) → T h → U (Did (Got b) ∷ h)) → Stands T p whole o m (calls at typed.get_byte used passed) old →
        Stands U p whole o m (leaves (a_value v)) new
    got_stands b v old new none e got told s =
        let took = first_taken old.input new.input s.input b got.input_moves s.input_is in
        let P : ℤ → Type 0 = λ v. Stands U p whole o m (leaves (a_value v)) new in
        subst P (sym e) (record {
          sent = s.sent;
          input = took.0;
          history = Did (Got b) ∷ s.history;
          program_is = s.program_is;
          follows = got_follows s.input took.0 b s.history took.1.0 s.follows;
          input_is = took.1.1;
          output_is = output_kept o.output old.output new.output s.sent got.output_stays s.output_is;
          bytes_are = s.bytes_are;
          done = done_got o.input s.history s.input s.sent m.kept none s.done took.0 b took.1.0;
          tells = did_tells p s.history (Got b) m.tally s.tells;
          told = told s.history s.told;
        })

    pub end_stands : (old new : PortView) → m.kept ≡ None → Gets old new None → ((h : List Entry) → T h → U (Did GotEnd ∷ h)) → Stands T p whole o m (calls at typed.get_byte used passed) old → Stands U p whole o m (leaves (a_value (negsuc 0))) new
    end_stands old new free got told s =
        let none = none_left old.input new.input s.input got.input_moves s.input_is in
        record {
          sent = s.sent;
          input = [];
          history = Did GotEnd ∷ s.history;
          program_is = s.program_is;
          follows = end_follows s.input s.history none.0 s.follows;
          input_is = none.1;
          output_is = output_kept o.output old.output new.output s.sent got.output_stays s.output_is;
          bytes_are = s.bytes_are;
          done = done_end o.input s.history s.input s.sent m.kept free s.done none.0;
          tells = did_tells p s.history GotEnd m.tally s.tells;
          told = told s.history s.told;
        }

    pub put_stands : (new : Interpreter) (b : ℕ) (port : PortView) → b ≡ modulo 8 (first_number passed) → m.kept ≡ None → new ≡ record m { kept = Some b } → ((h : List Entry) → T h → U (Did (Put b) ∷ h)) →
        Stands T p whole o m (calls at typed.put_byte used passed) port → Stands U p whole o new (leaves (a_value (pos 0))) port
    put_stands new b port e none is told s =
        let P : Interpreter → Type 0 = λ m. Stands U p whole o m (leaves (a_value (pos 0))) port in
        subst P (sym is) (record {
          sent = s.sent;
          input = s.input;
          history = Did (Put b) ∷ s.history;
          program_is = s.program_is;
          follows = put_follows s.input b s.history e s.follows;
          input_is = s.input_is;
          output_is = s.output_is;
          bytes_are = byte_put b s.history s.sent m.kept (Some b) none refl s.bytes_are;
          done = done_put o.input s.history s.input s.sent m.kept none s.done b;
          tells = did_tells p s.history (Put b) m.tally s.tells;
          told = told s.history s.told;
        })
