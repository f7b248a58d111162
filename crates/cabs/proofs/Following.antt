-- After a step the rest of a run is the same, and how it stops.
use Rattle.std.proofs.Common.{◌≡◌, ◌≤◌, ◌<◌, ℕ, suc, ◌+◌, ◌*◌, List, [], ◌∷◌, ◌++◌, length, Bool, true, false, refl, sym, ap, ◌∙◌, arith, length-append}
use Rattle.srcset.specs.declared.refusal.Pos.{Pos}
use Rattle.typing_spec.specs.Program.{Callee, Program}
use Rattle.csem.specs.Machine.{State, Ending, Run, Goes, Stops, TicksUsed, then_do, tick}
use Rattle.csem.specs.Expressions.{Passed, Calling}
use Rattle.csem.specs.History.{Entry}
use Rattle.interp_store.specs.declared.scene.Scene.{Scene}
use Rattle.interp_store.specs.layer.Frames.{Found, Node, Step, enters, leaves, calls, Frame, Moved, moves, halts}
use Rattle.interp_store.specs.layer.Presents.{present, after, resume, resumed, call_in}
use Rattle.interp_store.specs.layer.Steps.{entered, left, called}
use Rattle.interp_store.specs.layer.Agrees.{Outside, state_in, onto}
use Rattle.interp_store.proofs.Resumes.{node_enters, frame_leaves, call_acts, resume_more}
use Rattle.interp_store.proofs.Adequate.{real}
use Rattle.interp_transitions.specs.Acts.{outside_behind}
use Rattle.interp_transitions.specs.Calls.{IsInside}
use Rattle.cabs.specs.inside.Standing.{Whole, left_of, history_left, history_called, StopsAs, StopsAt, distance}
use Rattle.cabs.proofs.Calm.{calm_outside, calm_near, steady_near, left_calm, called_calm}

pub resume_stops : (p : Program) (call : Calling) (fs : List Frame) (e : Ending) (s : State) → resume p call fs (Stops e s) ≡ Stops e s
resume_stops p call [] e s = refl
resume_stops p call (f ∷ fs) e s = ap (λ r. then_do r (after p call f)) (resume_stops p call fs e s)

pub onto_resumed : (p : Program) (call : Calling) (fs : List Frame) (m : Moved) → resumed p call (onto fs m) ≡ resume p call fs (resumed p call m)
onto_resumed p call fs (moves pushed step s) = resume_more p call fs pushed (present p call step s)
onto_resumed p call fs (halts e s) = sym (resume_stops p call fs e s)

-- ---- the result of a step

abbrev pub outside : ℕ → List ℕ → List Entry → Outside
outside n input h = record { clock = n; input = input; history = h }

-- it goes on, and the state outside is the same
module _ (p : Program) (fs gs : List Frame) (scene : Scene) where
  pub goes_on : (m : Moved) (y : Step) (o : Outside) → onto fs m ≡ moves gs y (state_in scene (outside_behind m)) → outside_behind m ≡ o →
      resume p (call_in p) gs (present p (call_in p) y (state_in scene o)) ≡ resume p (call_in p) fs (resumed p (call_in p) m)
  goes_on m y o e out =
      ap (λ o. resume p (call_in p) gs (present p (call_in p) y (state_in scene o))) (sym out)
      ∙ sym (ap (resumed p (call_in p)) e) ∙ onto_resumed p (call_in p) fs m

  pub halts_so : (m : Moved) (e : Ending) → onto fs m ≡ halts e (state_in scene (outside_behind m)) →
      resume p (call_in p) fs (resumed p (call_in p) m) ≡ Stops e (state_in scene (outside_behind m))
  halts_so m e eq = sym (onto_resumed p (call_in p) fs m) ∙ ap (resumed p (call_in p)) eq

  pub stops_so : (m : Moved) (e : Ending) (r : Run Found) (n : ℕ) (input : List ℕ) (h : List Entry) → onto fs m ≡ halts e (state_in scene (outside_behind m)) →
      outside_behind m ≡ outside n input h → resume p (call_in p) fs (resumed p (call_in p) m) ≡ r → StopsAs r e input h
  stops_so m e r n input h eq out follows = record {
    state = state_in scene (outside_behind m);
    is = sym follows ∙ halts_so m e eq;
    input_is = ap (λ (o : Outside). o.input) out;
    history_is = ap (λ (o : Outside). o.history) out;
  }

-- ---- a frame that gets what it waited for

abbrev pub left_at : Program → Frame → Found → Scene → Outside → Moved
left_at p f x scene o = left p f x (state_in scene o)

module _ (p : Program) (fs gs : List Frame) (f : Frame) (x : Found) (old new : Scene) (input : List ℕ) (h h2 : List Entry) (whole : Whole) (behind : h2 ≡ history_left f x h)
    (follows : (n : ℕ) → left_of p (fs ++ f ∷ []) old (leaves x) input h n ≡ whole n) where
  frame_out : (n : ℕ) → outside_behind (left_at p f x old (outside n input h)) ≡ outside n input h2
  frame_out n = calm_outside true _ _ (left_calm p f x (state_in old (outside n input h))) ∙ ap (outside n input) (sym behind)

  frame_is : (n : ℕ) → resume p (call_in p) fs (resumed p (call_in p) (left_at p f x old (outside n input h))) ≡ whole n
  unfolding left_of
  frame_is n =
      let s = state_in old (outside n input h) in
      ap (resume p (call_in p) fs) (sym (frame_leaves p (call_in p) (real p) f x s))
      ∙ sym (resume_more p (call_in p) fs (f ∷ []) (Goes x s)) ∙ follows n

  pub frame_follows : (y : Step) → ((o : Outside) → onto fs (left_at p f x old o) ≡ moves gs y (state_in new (outside_behind (left_at p f x old o)))) →
      (n : ℕ) → left_of p gs new y input h2 n ≡ whole n
  unfolding left_of
  frame_follows y step n = goes_on p fs gs new (left_at p f x old (outside n input h)) y (outside n input h2) (step (outside n input h)) (frame_out n) ∙ frame_is n

  pub frame_stops : (e : Ending) → ((o : Outside) → onto fs (left_at p f x old o) ≡ halts e (state_in new (outside_behind (left_at p f x old o)))) → StopsAt whole e input h2
  frame_stops e step n = stops_so p fs gs new (left_at p f x old (outside n input h)) e (whole n) n input h2 (step (outside n input h)) (frame_out n) (frame_is n)

pub frame_nears : (p : Program) (fs gs : List Frame) (f : Frame) (x : Found) (y : Step) (old new : Scene) (o : Outside) →
    onto fs (left_at p f x old o) ≡ moves gs y (state_in new (outside_behind (left_at p f x old o))) → distance gs y < distance (fs ++ f ∷ []) (leaves x)
frame_nears p fs gs f x y old new o e =
    let near : distance gs y ≤ 2 * length fs + 2 = calm_near _ (left_at p f x old o) fs gs y _ (left_calm p f x (state_in old o)) e in
    let more : length (fs ++ f ∷ []) ≡ length fs + 1 = length-append fs (f ∷ []) in
    omega arith

-- ---- a call

abbrev pub called_at : Program → Pos → Callee → Bool → List Passed → Scene → Outside → Moved
called_at p at callee used passed scene o = called p at callee used passed (state_in scene o)

module _ (p : Program) (fs gs : List Frame) (at : Pos) (callee : Callee) (used : Bool) (passed : List Passed) (old new : Scene) (input : List ℕ) (h h2 : List Entry) (whole : Whole)
    (inside : IsInside callee) (behind : h2 ≡ history_called p callee passed h)
    (follows : (n : ℕ) → left_of p fs old (calls at callee used passed) input h n ≡ whole n) where
  call_out : (n : ℕ) → outside_behind (called_at p at callee used passed old (outside n input h)) ≡ outside n input h2
  call_out n = calm_outside false _ _ (called_calm p at callee used passed (state_in old (outside n input h)) inside) ∙ ap (outside n input) (sym behind)

  call_is : (n : ℕ) → resume p (call_in p) fs (resumed p (call_in p) (called_at p at callee used passed old (outside n input h))) ≡ whole n
  unfolding left_of
  call_is n = ap (resume p (call_in p) fs) (sym (call_acts p (call_in p) (real p) at callee used passed (state_in old (outside n input h)))) ∙ follows n

  pub call_follows : (y : Step) → ((o : Outside) → onto fs (called_at p at callee used passed old o) ≡ moves gs y (state_in new (outside_behind (called_at p at callee used passed old o)))) →
      (n : ℕ) → left_of p gs new y input h2 n ≡ whole n
  unfolding left_of
  call_follows y step n =
      goes_on p fs gs new (called_at p at callee used passed old (outside n input h)) y (outside n input h2) (step (outside n input h)) (call_out n) ∙ call_is n

  pub call_stops : (e : Ending) → ((o : Outside) → onto fs (called_at p at callee used passed old o) ≡ halts e (state_in new (outside_behind (called_at p at callee used passed old o)))) →
      StopsAt whole e input h2
  call_stops e step n =
      stops_so p fs gs new (called_at p at callee used passed old (outside n input h)) e (whole n) n input h2 (step (outside n input h)) (call_out n) (call_is n)

pub call_nears : (p : Program) (fs gs : List Frame) (at : Pos) (callee : Callee) (used : Bool) (passed : List Passed) (y : Step) (old new : Scene) (o : Outside) → IsInside callee →
    onto fs (called_at p at callee used passed old o) ≡ moves gs y (state_in new (outside_behind (called_at p at callee used passed old o))) →
    distance gs y < distance fs (calls at callee used passed)
call_nears p fs gs at callee used passed y old new o inside e =
    let near : distance gs y ≤ 2 * length fs + 1 = steady_near _ (called_at p at callee used passed old o) fs gs y _ (called_calm p at callee used passed (state_in old o) inside) e in
    omega arith

-- ---- a node

module _ (p : Program) (fs gs : List Frame) (x : Node) (old new : Scene) (input : List ℕ) (h : List Entry) (whole : Whole)
    (follows : (n : ℕ) → left_of p fs old (enters x) input h n ≡ whole n) where
  node_is : (n : ℕ) → resume p (call_in p) fs (tick (state_in old (outside n input h)) (λ s. resumed p (call_in p) (entered p x s))) ≡ whole n
  unfolding left_of
  node_is n = ap (resume p (call_in p) fs) (sym (node_enters p (call_in p) (real p) x (state_in old (outside n input h)))) ∙ follows n

  unmoved : (m : Moved) → outside_behind (onto fs m) ≡ outside_behind m
  unmoved (moves pushed step s) = refl
  unmoved (halts e s) = refl

  pub node_follows : (y : Step) → ((o : Outside) → onto fs (entered p x (state_in old o)) ≡ moves gs y (state_in new o)) →
      (n : ℕ) → left_of p gs new y input h n ≡ whole (suc n)
  unfolding left_of
  node_follows y step n =
      let m = entered p x (state_in old (outside n input h)) in
      sym (ap (resumed p (call_in p)) (step (outside n input h))) ∙ onto_resumed p (call_in p) fs m ∙ node_is (suc n)

  pub node_stops : (e : Ending) → ((o : Outside) → onto fs (entered p x (state_in old o)) ≡ halts e (state_in new o)) → (n : ℕ) → StopsAs (whole (suc n)) e input h
  node_stops e step n =
      let m = entered p x (state_in old (outside n input h)) in
      record {
        state = state_in new (outside n input h);
        is = sym (node_is (suc n)) ∙ sym (onto_resumed p (call_in p) fs m) ∙ ap (resumed p (call_in p)) (step (outside n input h));
        input_is = refl;
        history_is = refl;
      }

  -- it has no tick left
  pub node_waits_in : whole 0 ≡ Stops TicksUsed (state_in old (outside 0 input h))
  node_waits_in = sym (node_is 0) ∙ resume_stops p (call_in p) fs TicksUsed (state_in old (outside 0 input h))

  pub node_waits : StopsAs (whole 0) TicksUsed input h
  node_waits = record {
    state = state_in old (outside 0 input h);
    is = node_waits_in;
    input_is = refl;
    history_is = refl;
  }

-- ---- no frame waits

pub rests : (p : Program) (fs : List Frame) (x : Found) (scene : Scene) (input : List ℕ) (h : List Entry) (whole : Whole) → fs ≡ [] →
    ((n : ℕ) → left_of p fs scene (leaves x) input h n ≡ whole n) → (n : ℕ) → (y : Found) × ((s : State) × (whole n ≡ Goes y s))
unfolding left_of
rests p fs x scene input h whole e follows n =
    let s = state_in scene (outside n input h) in
    (x, (s, sym (follows n) ∙ ap (λ fs. resume p (call_in p) fs (Goes x s)) e))
