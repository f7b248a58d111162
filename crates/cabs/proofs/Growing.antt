-- The rest of a run revokes nothing that was done.
use Rattle.std.proofs.Common.{◌≡◌, ◌≤◌, ◌⊎◌, inl, inr, ℕ, zero, suc, ◌+◌, ◌*◌, List, [], ◌∷◌, ◌++◌, length, Option, Some, None, Bool, true, false, pos, negsuc, refl, sym, ap, ◌∙◌, arith, append_assoc, length-append}
use Rattle.std.specs.Prelude.{slice_get}
use Rattle.srcset.specs.declared.refusal.Pos.{Pos}
use Rattle.csem_events.specs.Events.{Event, Got, GotEnd, Put}
use Rattle.ctypes.specs.Types.{modulo}
use Rattle.typing_spec.specs.Program as typed
use Rattle.typing_spec.specs.Program.{Callee, Program}
use Rattle.csem.specs.History.{Entry, Did, trace_of}
use Rattle.csem.specs.Machine.{State, Run, Goes, Stops, TicksUsed, tick_of}
use Rattle.csem.specs.Expressions.{Passed, first_number, get_byte}
use Rattle.csem.specs.Meaning.{last_of}
use Rattle.interp_store.specs.declared.scene.Scene.{Scene}
use Rattle.interp_store.specs.layer.Frames.{Found, a_value, Node, Step, enters, leaves, calls, Frame, Moved, moves, halts}
use Rattle.interp_store.specs.layer.Presents.{given, present, resume, resumed, call_in}
use Rattle.interp_store.specs.layer.Steps.{entered, left, called}
use Rattle.interp_store.specs.layer.Agrees.{Outside, state_in, onto}
use Rattle.interp_store.proofs.Resumes.{node_enters, frame_leaves, call_acts, resume_more}
use Rattle.interp_store.proofs.Adequate.{real}
use Rattle.interp_transitions.specs.Acts.{outside_behind}
use Rattle.interp_transitions.specs.Calls.{IsInside}
use Rattle.cabs.specs.inside.Standing.{left_of, left_where, entered_where, history_called, is_flow, is_return, result_left, distance, Adds}
use Rattle.cabs.proofs.Calm.{calm_outside, calm_near, steady_near, left_calm, called_calm}
use Rattle.cabs.proofs.Following.{resume_stops, outside}

-- ---- calls read and write nothing

pub trace_left : (flow ends : Bool) (result : Option ℕ) (h : List Entry) → trace_of (left_where flow ends result h) ≡ trace_of h
trace_left false ends result h = refl
trace_left true false result h = refl
trace_left true true result h = refl

trace_entered : (g : Option typed.Function) (f : ℕ) (passed : List Passed) (h : List Entry) → trace_of (entered_where g f passed h) ≡ trace_of h
trace_entered None f passed h = refl
trace_entered (Some g) f passed h = refl

pub trace_called : (p : Program) (callee : Callee) (passed : List Passed) (h : List Entry) → trace_of (history_called p callee passed h) ≡ trace_of h
trace_called p (typed.function f) passed h = trace_entered (slice_get p.functions f) f passed h
trace_called p typed.get_byte passed h = refl
trace_called p typed.put_byte passed h = refl
trace_called p typed.exit passed h = refl
trace_called p (typed.missing name) passed h = refl

-- ---- the innermost frame

abbrev HasLast : List Frame → Type 0
HasLast fs = (fs ≡ []) ⊎ ((gs : List Frame) × ((f : Frame) × (fs ≡ gs ++ f ∷ [])))

last_more : (f : Frame) (fs : List Frame) → HasLast fs → HasLast (f ∷ fs)
last_more f fs (inl e) = inr ([], (f, ap (λ l. f ∷ l) e))
last_more f fs (inr h) = inr (f ∷ h.0, (h.1.0, ap (λ l. f ∷ l) h.1.1))

has_last : (fs : List Frame) → HasLast fs
has_last [] = inl refl
has_last (f ∷ fs) = last_more f fs (has_last fs)

-- ---- a run whose clock has no tick left goes on to the next node

-- from each step that is no farther from it
abbrev Grown : Program → ℕ → Type 0
Grown p far = (fs : List Frame) (x : Step) (s : State) → s.clock ≡ 0 → distance fs x ≤ far → Adds s.history (resume p (call_in p) fs (present p (call_in p) x s))

adds_as : (h : List Entry) (r r2 : Run Found) → r ≡ r2 → Adds h r2 → Adds h r
adds_as h r r2 e a = (a.0, ap (λ r. trace_of (last_of r).history) e ∙ a.1)

-- after a step that did this
adds_behind : (h h2 : List Entry) (more : List Event) (r : Run Found) → trace_of h2 ≡ more ++ trace_of h → Adds h2 r → Adds h r
adds_behind h h2 more r e a = (a.0 ++ more, a.1 ∙ ap (λ l. a.0 ++ l) e ∙ sym (append_assoc a.0 more (trace_of h)))

module _ (p : Program) (fs : List Frame) (h : List Entry) (more : List Event) where
  -- a step after which the next node is nearer
  step_grows : (far : ℕ) → Grown p far → (m : Moved) → (outside_behind m).clock ≡ 0 → trace_of (outside_behind m).history ≡ more ++ trace_of h →
      ((gs : List Frame) (y : Step) (t : State) → onto fs m ≡ moves gs y t → distance gs y ≤ far) → Adds h (resume p (call_in p) fs (resumed p (call_in p) m))
  step_grows far rec (moves pushed y t) clock done near =
      adds_as h _ (resume p (call_in p) (fs ++ pushed) (present p (call_in p) y t)) (sym (resume_more p (call_in p) fs pushed (present p (call_in p) y t)))
      (adds_behind h t.history more (resume p (call_in p) (fs ++ pushed) (present p (call_in p) y t)) done (rec (fs ++ pushed) y t clock (near (fs ++ pushed) y t refl)))
  step_grows far rec (halts e t) clock done near = adds_as h _ (Stops e t) (resume_stops p (call_in p) fs e t) (more, done)

node_stays : (p : Program) (fs : List Frame) (n : Node) (s : State) → s.clock ≡ 0 → Adds s.history (resume p (call_in p) fs (present p (call_in p) (enters n) s))
node_stays p fs n s none =
    let go : State → Run Found = λ s. resumed p (call_in p) (entered p n s) in
    adds_as s.history _ (Stops TicksUsed s)
    (ap (resume p (call_in p) fs) (node_enters p (call_in p) (real p) n s ∙ ap (λ k. tick_of k s go) none) ∙ resume_stops p (call_in p) fs TicksUsed s) ([], refl)

le_self : (n : ℕ) → n ≤ n
le_self n = omega arith

module _ (p : Program) (far : ℕ) (rec : Grown p far) where
  found_grows : (fs : List Frame) (x : Found) (s : State) → HasLast fs → s.clock ≡ 0 → distance fs (leaves x) ≤ far + 1 → Adds s.history (resume p (call_in p) fs (Goes x s))
  found_grows fs x s (inl e) none le = adds_as s.history _ (Goes x s) (ap (λ fs. resume p (call_in p) fs (Goes x s)) e) ([], refl)
  found_grows fs x s (inr l) none le =
      let gs = l.0 in
      let f = l.1.0 in
      let m = left p f x s in
      let calm = left_calm p f x s in
      let out = calm_outside true _ m calm in
      let longer : length fs ≡ length gs + 1 = ap length l.1.1 ∙ length-append gs (f ∷ []) in
      let is : resume p (call_in p) fs (Goes x s) ≡ resume p (call_in p) gs (resumed p (call_in p) m) =
      ap (λ fs. resume p (call_in p) fs (Goes x s)) l.1.1 ∙ resume_more p (call_in p) gs (f ∷ []) (Goes x s) ∙ ap (resume p (call_in p) gs) (frame_leaves p (call_in p) (real p) f x s) in
      adds_as s.history _ _ is (step_grows p gs s.history [] far rec m (ap (λ (o : Outside). o.clock) out ∙ none) (ap (λ (o : Outside). trace_of o.history) out ∙ trace_left (is_flow x) (is_return f) (result_left f x) s.history)
      (λ hs y t eq. let near : distance hs y ≤ 2 * length gs + 2 = calm_near _ m gs hs y t calm eq in omega (arith, near, longer, le)))

  inside_grows : (fs : List Frame) (at : Pos) (callee : Callee) (used : Bool) (passed : List Passed) (s : State) → IsInside callee → s.clock ≡ 0 → 2 * length fs + 2 ≤ far + 1 →
      Adds s.history (resume p (call_in p) fs (present p (call_in p) (calls at callee used passed) s))
  inside_grows fs at callee used passed s inside none le =
      let m = called p at callee used passed s in
      let calm = called_calm p at callee used passed s inside in
      let out = calm_outside false _ m calm in
      adds_as s.history _ _ (ap (resume p (call_in p) fs) (call_acts p (call_in p) (real p) at callee used passed s))
      (step_grows p fs s.history [] far rec m (ap (λ (o : Outside). o.clock) out ∙ none) (ap (λ (o : Outside). trace_of o.history) out ∙ trace_called p callee passed s.history)
      (λ hs y t eq. let near : distance hs y ≤ 2 * length fs + 1 = steady_near _ m fs hs y t calm eq in omega (arith, near, le)))

  -- a byte is read or written
  byte_grows : (fs : List Frame) (x : Found) (e : Event) (h : List Entry) (t : State) → t.history ≡ Did e ∷ h → t.clock ≡ 0 → 2 * length fs + 2 ≤ far + 1 → Adds h (resume p (call_in p) fs (Goes x t))
  byte_grows fs x e h t did none le =
      let near : 2 * length fs + 1 ≤ far = omega (arith, le) in
      adds_behind h t.history (e ∷ []) (resume p (call_in p) fs (Goes x t)) (ap trace_of did) (rec fs (leaves x) t none near)

  got_grows : (fs : List Frame) (input : List ℕ) (s : State) → s.clock ≡ 0 → 2 * length fs + 2 ≤ far + 1 → Adds s.history (resume p (call_in p) fs (given a_value (get_byte input s)))
  got_grows fs [] s none le = byte_grows fs (a_value (negsuc 0)) GotEnd s.history (record s { history = Did GotEnd ∷ s.history }) refl none le
  got_grows fs (b ∷ more) s none le = byte_grows fs (a_value (pos b)) (Got b) s.history (record s { input = more; history = Did (Got b) ∷ s.history }) refl none le

  call_grows : (fs : List Frame) (at : Pos) (callee : Callee) (used : Bool) (passed : List Passed) (s : State) → s.clock ≡ 0 → 2 * length fs + 2 ≤ far + 1 →
      Adds s.history (resume p (call_in p) fs (present p (call_in p) (calls at callee used passed) s))
  call_grows fs at (typed.function f) used passed s none le = inside_grows fs at (typed.function f) used passed s tt none le
  call_grows fs at typed.get_byte used passed s none le = got_grows fs s.input s none le
  call_grows fs at typed.put_byte used passed s none le =
      let b = modulo 8 (first_number passed) in
      byte_grows fs (a_value (pos 0)) (Put b) s.history (record s { history = Did (Put b) ∷ s.history }) refl none le
  call_grows fs at typed.exit used passed s none le = inside_grows fs at typed.exit used passed s tt none le
  call_grows fs at (typed.missing name) used passed s none le = inside_grows fs at (typed.missing name) used passed s tt none le

grown : (p : Program) (far : ℕ) → Grown p far
grown p zero fs (enters n) s none le = node_stays p fs n s none
grown p zero fs (leaves x) s none le = absurd (omega (arith, le))
grown p zero fs (calls at callee used passed) s none le = absurd (omega (arith, le))
grown p (suc far) fs (enters n) s none le = node_stays p fs n s none
grown p (suc far) fs (leaves x) s none le = found_grows p far (grown p far) fs x s (has_last fs) none (omega (arith, le))
grown p (suc far) fs (calls at callee used passed) s none le = call_grows p far (grown p far) fs at callee used passed s none (omega (arith, le))

-- what was done stays done, whatever the rest of the run is
pub left_adds : (p : Program) (fs : List Frame) (scene : Scene) (x : Step) (input : List ℕ) (h : List Entry) → Adds h (left_of p fs scene x input h 0)
unfolding left_of
left_adds p fs scene x input h = grown p (distance fs x) fs x (state_in scene (outside 0 input h)) refl (le_self (distance fs x))
