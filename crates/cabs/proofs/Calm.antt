-- What a step that takes no tick changes besides the objects, and how it nears the next node.
use Rattle.std.proofs.Common.{◌≡◌, ◌≤◌, ℕ, zero, suc, ◌+◌, ◌*◌, ◌-◌, ℤ, pos, negsuc, List, [], ◌∷◌, ◌++◌, length, Option, Some, None, Bool, true, false, refl, sym, ap, ◌∙◌, arith, length-append}
use Rattle.std.specs.Prelude.{Result, Ok, Err, nat_lt, slice_get}
use Rattle.srcset.specs.declared.refusal.Pos.{Pos}
use Rattle.ctypes.specs.declared.types.IntType.{IntType}
use Rattle.ctypes.specs.declared.operators.Undef.{Undef}
use Rattle.ctypes.specs.Types.{truth, converted}
use Rattle.typing_spec.specs.Types.{ObjectType, elements_in}
use Rattle.typing_spec.specs.Operators.{operated, sign_of}
use Rattle.typing_spec.specs.Program as typed
use Rattle.typing_spec.specs.Program.{Callee, Value, Arguments, Initialisers, Statement, Statements, Program}
use Rattle.csem.specs.Store.{Reference, into, length_of, tree_at, value_at, set_zeros}
use Rattle.csem.specs.Machine.{State, Run, Goes, Stops, then_do, choose, computed_at, value_or_undefined, subscripted, read, write, stored}
use Rattle.csem.specs.Expressions.{Passed, Number, Referred, call_value, step_operation, step_value}
use Rattle.csem.specs.Statements.{Flow, Normal, Broken, Continued, Returned, zeros, characters, text_or_none, after_switch}
use Rattle.csem.specs.Meaning.{value_left}
use Rattle.interp_store.specs.layer.Frames as on
use Rattle.interp_store.specs.layer.Frames.{Found, a_value, a_place, a_flow, initialised, Late, puts_text, puts_zeros, enters_body, Step, enters, leaves, calls, Back, to_caller, to_end, Frame, Moved, moves, halts}
use Rattle.interp_store.specs.layer.Presents.{back_at}
use Rattle.interp_store.specs.layer.Steps.{at_once, started, asked_for, turned, looped, looped_after, turned_on, started_after, came_late, counted, listed, left_by_place, left_by_value, went_back, left_by_flow, left_initialised, left, entered_call, called}
use Rattle.interp_store.specs.layer.Agrees.{Outside, onto}
use Rattle.interp_transitions.specs.Acts.{outside_of, outside_behind}
use Rattle.interp_transitions.specs.Calls.{IsInside}
use Rattle.cabs.specs.inside.Standing.{history_left, entered_where, history_called, distance}

-- after the step this is outside; it goes on with a node, or with less than there was, and with calls only if they may come
abbrev pub Calm : Bool → Outside → Moved → Type 0
Calm may o (halts e s) = outside_of s ≡ o
Calm may o (moves pushed (enters n) s) = outside_of s ≡ o
Calm may o (moves [] (leaves x) s) = outside_of s ≡ o
Calm may o (moves [] (calls at callee used passed) s) = (outside_of s ≡ o) × (may ≡ true)
Calm may o (moves (f ∷ fs) (leaves x) s) = ⊥
Calm may o (moves (f ∷ fs) (calls at callee used passed) s) = ⊥

pub calm_outside : (may : Bool) (o : Outside) (m : Moved) → Calm may o m → outside_behind m ≡ o
calm_outside may o (halts e s) h = h
calm_outside may o (moves pushed (enters n) s) h = h
calm_outside may o (moves [] (leaves x) s) h = h
calm_outside may o (moves [] (calls at callee used passed) s) h = h.0
calm_outside may o (moves (f ∷ fs) (leaves x) s) h = absurd h
calm_outside may o (moves (f ∷ fs) (calls at callee used passed) s) h = absurd h

-- ---- the distance to the next node

one_less : (fs gs : List Frame) → gs ≡ fs ++ [] → length gs ≡ length fs
one_less fs gs e = ap length e ∙ length-append fs [] ∙ (omega arith)

far : (fs gs : List Frame) (y : Step) (x : Found) → gs ≡ fs ++ [] → y ≡ leaves x → distance gs y ≤ 2 * length fs + 1
far fs gs y x g e =
    let n : length gs ≡ length fs = one_less fs gs g in
    let d : distance gs y ≡ 2 * length gs + 1 = ap (distance gs) e in
    omega arith

far_call : (fs gs : List Frame) (y : Step) (at : Pos) (callee : Callee) (used : Bool) (passed : List Passed) → gs ≡ fs ++ [] → y ≡ calls at callee used passed →
    distance gs y ≤ 2 * length fs + 2
far_call fs gs y at callee used passed g e =
    let n : length gs ≡ length fs = one_less fs gs g in
    let d : distance gs y ≡ 2 * length gs + 2 = ap (distance gs) e in
    omega arith

at_node : (gs : List Frame) (y : Step) (n : on.Node) (k : ℕ) → y ≡ enters n → distance gs y ≤ k
at_node gs y n k e = let d : distance gs y ≡ 0 = ap (distance gs) e in omega arith

pub calm_near : (o : Outside) (m : Moved) (fs gs : List Frame) (y : Step) (t : State) → Calm true o m → onto fs m ≡ moves gs y t → distance gs y ≤ 2 * length fs + 2
calm_near o (halts e s) fs gs y t h eq = absurd (cc eq)
calm_near o (moves pushed (enters n) s) fs gs y t h eq = at_node gs y n _ (sym (cc eq))
calm_near o (moves [] (leaves x) s) fs gs y t h eq =
    let g : gs ≡ fs ++ [] = cc eq in
    let e : y ≡ leaves x = cc eq in
    let d : distance gs y ≤ 2 * length fs + 1 = far fs gs y x g e in
    omega arith
calm_near o (moves [] (calls at callee used passed) s) fs gs y t h eq = far_call fs gs y at callee used passed (cc eq) (cc eq)
calm_near o (moves (f ∷ pushed) (leaves x) s) fs gs y t h eq = absurd h
calm_near o (moves (f ∷ pushed) (calls at callee used passed) s) fs gs y t h eq = absurd h

pub steady_near : (o : Outside) (m : Moved) (fs gs : List Frame) (y : Step) (t : State) → Calm false o m → onto fs m ≡ moves gs y t → distance gs y ≤ 2 * length fs + 1
steady_near o (halts e s) fs gs y t h eq = absurd (cc eq)
steady_near o (moves pushed (enters n) s) fs gs y t h eq = at_node gs y n _ (sym (cc eq))
steady_near o (moves [] (leaves x) s) fs gs y t h eq = far fs gs y x (cc eq) (cc eq)
steady_near o (moves [] (calls at callee used passed) s) fs gs y t h eq = absurd (cc h.1)
steady_near o (moves (f ∷ pushed) (leaves x) s) fs gs y t h eq = absurd h
steady_near o (moves (f ∷ pushed) (calls at callee used passed) s) fs gs y t h eq = absurd h

-- ---- parts of a step

abbrev Same : {A : Type 0} → Outside → Run A → Type 0
Same o (Goes a s) = outside_of s ≡ o
Same o (Stops e s) = outside_of s ≡ o

same_then : {A B : Type 0} (r : Run A) (go : A → State → Run B) (o : Outside) → Same o r → ((a : A) (s : State) → outside_of s ≡ o → Same o (go a s)) → Same o (then_do r go)
same_then (Goes a s) go o h k = k a s h
same_then (Stops e s) go o h k = h

same_choose : {A : Type 0} (b : Bool) (x y : Run A) (o : Outside) → Same o x → Same o y → Same o (choose b x y)
same_choose true x y o h k = h
same_choose false x y o h k = k

same_value : (at : Pos) (v : Option ℤ) (s : State) (o : Outside) → outside_of s ≡ o → Same o (value_or_undefined at v s)
same_value at None s o h = h
same_value at (Some v) s o h = h

same_read : (at : Pos) (r : Reference) (s : State) (o : Outside) → outside_of s ≡ o → Same o (read at r s)
same_read at r s o h = same_value at (value_at s.store r) s o h

same_computed : (at : Pos) (r : Result ℤ Undef) (s : State) (o : Outside) → outside_of s ≡ o → Same o (computed_at at r s)
same_computed at (Ok v) s o h = h
same_computed at (Err act) s o h = h

same_write : (p : Program) (at : Pos) (r : Reference) (v : ℤ) (s : State) (o : Outside) → outside_of s ≡ o → Same o (write p at r v s)
same_write p at r v s o h = same_choose (nat_lt r.object (length p.literals)) _ _ o h h

same_subscripted : (at : Pos) (r : Reference) (v : ℤ) (s : State) (o : Outside) → outside_of s ≡ o → Same o (subscripted at r v s)
same_subscripted at r (pos i) s o h = same_choose (nat_lt i (length_of (tree_at s.store r))) _ _ o h h
same_subscripted at r (negsuc i) s o h = h

same_call : (used : Bool) (at : Pos) (v : Option ℤ) (s : State) → Same (outside_of s) (call_value used at v s)
same_call used at (Some v) s = refl
same_call true at None s = refl
same_call false at None s = refl

same_switch : (flow : Flow) (s : State) → Same (outside_of s) (after_switch flow s)
same_switch Normal s = refl
same_switch Broken s = refl
same_switch Continued s = refl
same_switch (Returned v) s = refl

calm_once : {A : Type 0} (may : Bool) (as_found : A → Found) (r : Run A) (o : Outside) → Same o r → Calm may o (at_once as_found r)
calm_once may as_found (Goes a s) o h = h
calm_once may as_found (Stops e s) o h = h

calm_choose : (b : Bool) (x y : Moved) (o : Outside) → Calm true o x → Calm true o y → Calm true o (choose b x y)
calm_choose true x y o h k = h
calm_choose false x y o h k = k

calm_asked : (at : Pos) (callee : Callee) (used : Bool) (more : Arguments) (before : List Passed) (s : State) → Calm true (outside_of s) (asked_for at callee used more before s)
calm_asked at callee used typed.no_arguments before s = (refl, refl)
calm_asked at callee used (typed.and_number t e more) before s = refl
calm_asked at callee used (typed.and_array a more) before s = refl

calm_started : (objects : List ObjectType) (all : Statements) (s : State) → Calm true (outside_of s) (started objects all s)
calm_started objects typed.no_statements s = refl
calm_started objects (typed.and_statement a more) s = refl

calm_after : (objects : List ObjectType) (more : Statements) (flow : Flow) (s : State) → Calm true (outside_of s) (started_after objects more flow s)
calm_after objects more Normal s = calm_started objects more s
calm_after objects more Broken s = refl
calm_after objects more Continued s = refl
calm_after objects more (Returned v) s = refl

calm_turned : (objects : List ObjectType) (test : Option Value) (a : Statement) (step : Option Value) (v : ℤ) (s : State) →
    Calm true (outside_of s) (turned objects test a step v s)
calm_turned objects test a step v s = calm_choose (truth v) _ _ (outside_of s) refl refl

calm_looped : (objects : List ObjectType) (test : Option Value) (a : Statement) (step : Option Value) (s : State) → Calm true (outside_of s) (looped objects test a step s)
calm_looped objects None a step s = calm_turned objects None a step (pos 1) s
calm_looped objects (Some e) a step s = refl

calm_looped_after : (objects : List ObjectType) (first test : Option Value) (a : Statement) (step : Option Value) (s : State) →
    Calm true (outside_of s) (looped_after objects first test a step s)
calm_looped_after objects None test a step s = calm_looped objects test a step s
calm_looped_after objects (Some e) test a step s = refl

calm_turned_on : (objects : List ObjectType) (test : Option Value) (a : Statement) (step : Option Value) (flow : Flow) (s : State) →
    Calm true (outside_of s) (turned_on objects test a step flow s)
calm_turned_on objects test a step Normal s = calm_looped_after objects step test a step s
calm_turned_on objects test a step Continued s = calm_looped_after objects step test a step s
calm_turned_on objects test a step Broken s = refl
calm_turned_on objects test a step (Returned v) s = refl

characters_outside : (t : IntType) (k i : ℕ) (text : List ℕ) (r : Reference) (s : State) → outside_of (characters t k i text r s) ≡ outside_of s
characters_outside t zero i text r s = refl
characters_outside t (suc k) i [] r s = characters_outside t k (suc i) [] r (stored (into r i) (pos 0) s)
characters_outside t (suc k) i (c ∷ text) r s = characters_outside t k (suc i) text r (stored (into r i) (converted t (pos c)) s)

zeros_outside : (k i : ℕ) (r : Reference) (s : State) → outside_of (zeros k i r s) ≡ outside_of s
zeros_outside zero i r s = refl
zeros_outside (suc k) i r s = zeros_outside k (suc i) r (record s { store = set_zeros s.store (into r i) })

calm_late : (p : Program) (what : Late) (s : State) → Calm true (outside_of s) (came_late p what s)
calm_late p (puts_text t count n r) s = characters_outside t count 0 (text_or_none (slice_get p.literals n)) r s
calm_late p (puts_zeros count i r) s = zeros_outside count i r s
calm_late p (enters_body objects body) s = refl

calm_counted : (p : Program) (n : ℕ) (what : Late) (s : State) → Calm true (outside_of s) (counted p n what s)
calm_counted p zero what s = calm_late p what s
calm_counted p (suc k) what s = refl

calm_listed : (p : Program) (all : Initialisers) (t : IntType) (k i : ℕ) (lengths : List ℕ) (r : Reference) (s : State) → Calm true (outside_of s) (listed p all t k i lengths r s)
calm_listed p typed.no_initialisers t k i lengths r s = calm_counted p (k * elements_in lengths) (puts_zeros k i r) s
calm_listed p (typed.and_initialiser x more) t k i lengths r s = refl

-- ---- frames

calm_by_place : (p : Program) (f : Frame) (r : Reference) (s : State) → Calm true (outside_of s) (left_by_place p f r s)
calm_by_place p (on.reads at) r s = calm_once true a_value (read at r s) (outside_of s) (same_read at r s (outside_of s) refl)
calm_by_place p (on.steps at moment op t of read_at) r s =
    calm_once true a_value _ (outside_of s) (same_then (read read_at r s) _ (outside_of s) (same_read read_at r s (outside_of s) refl) (λ old s2 h2.
    same_then (computed_at at (operated (step_operation op) of old (pos 1)) s2) _ (outside_of s) (same_computed at (operated (step_operation op) of old (pos 1)) s2 (outside_of s) h2) (λ w s3 h3.
    same_then (write p at r (converted t w) s3) (λ new s4. Goes (step_value moment old new) s4) (outside_of s) (same_write p at r (converted t w) s3 (outside_of s) h3) (λ new s4 h4. h4))))
calm_by_place p (on.array_passed at callee used more before) r s = calm_asked at callee used more (before ++ Referred r ∷ []) s
calm_by_place p _ r s = refl

calm_by_value : (p : Program) (f : Frame) (v : ℤ) (s : State) → Calm true (outside_of s) (left_by_value p f v s)
calm_by_value p (on.index_of at r) v s = calm_once true a_place (subscripted at r v s) (outside_of s) (same_subscripted at r v s (outside_of s) refl)
calm_by_value p (on.stores at t r) v s = calm_once true a_value (write p at r (converted t v) s) (outside_of s) (same_write p at r (converted t v) s (outside_of s) refl)
calm_by_value p (on.combines at op t of read_at r) v s =
    calm_once true a_value _ (outside_of s) (same_then (read read_at r s) _ (outside_of s) (same_read read_at r s (outside_of s) refl) (λ old s2 h2.
    same_then (computed_at at (operated op of old v) s2) (λ w s. write p at r (converted t w) s) (outside_of s) (same_computed at (operated op of old v) s2 (outside_of s) h2)
    (λ w s3 h3. same_write p at r (converted t w) s3 (outside_of s) h3)))
calm_by_value p (on.signs at op t) v s = calm_once true a_value (computed_at at (sign_of op t v) s) (outside_of s) (same_computed at (sign_of op t v) s (outside_of s) refl)
calm_by_value p (on.applies at op t a) v s = calm_once true a_value (computed_at at (operated op t a v) s) (outside_of s) (same_computed at (operated op t a v) s (outside_of s) refl)
calm_by_value p (on.and_also b) v s = calm_choose (truth v) _ _ (outside_of s) refl refl
calm_by_value p (on.or_else b) v s = calm_choose (truth v) _ _ (outside_of s) refl refl
calm_by_value p (on.chooses t a b) v s = calm_choose (truth v) _ _ (outside_of s) refl refl
calm_by_value p (on.number_passed at callee used t more before) v s = calm_asked at callee used more (before ++ Number (converted t v) ∷ []) s
calm_by_value p (on.if_true objects a) v s = calm_choose (truth v) _ _ (outside_of s) refl refl
calm_by_value p (on.if_else objects a b) v s = calm_choose (truth v) _ _ (outside_of s) refl refl
calm_by_value p (on.tests objects test a step) v s = calm_turned objects test a step v s
calm_by_value p (on.loops objects test a step) v s = calm_looped objects test a step s
calm_by_value p _ v s = refl

calm_back : (may : Bool) (p : Program) (back : Back) (v : Option ℤ) (s : State) → Calm may (outside_of s) (went_back p back v s)
calm_back may p (to_caller at used) v s = calm_once may a_value (call_value used at v s) (outside_of s) (same_call used at v s)
calm_back may p to_end v s = refl

calm_by_flow : (p : Program) (f : Frame) (flow : Flow) (s : State) → Calm true (record (outside_of s) { history = history_left f (a_flow flow) s.history }) (left_by_flow p f flow s)
calm_by_flow p (on.returns back is_main count base arrays) flow s = calm_back true p back (value_left is_main flow) (back_at count base arrays (value_left is_main flow) s)
calm_by_flow p (on.rest objects more) flow s = calm_after objects more flow s
calm_by_flow p on.in_switch flow s = calm_once true a_flow (after_switch flow s) (outside_of s) (same_switch flow s)
calm_by_flow p (on.turn objects test a step) flow s = calm_turned_on objects test a step flow s
calm_by_flow p (on.for_starts objects start test a step) flow s = calm_looped_after objects start test a step s
calm_by_flow p _ flow s = refl

calm_initialised : (p : Program) (f : Frame) (s : State) → Calm true (outside_of s) (left_initialised p f s)
calm_initialised p (on.next_part more t k i lengths r) s = calm_listed p more t (k - 1) (suc i) lengths r s
calm_initialised p _ s = refl

-- a frame, with what it waited for
pub left_calm : (p : Program) (f : Frame) (x : Found) (s : State) → Calm true (record (outside_of s) { history = history_left f x s.history }) (left p f x s)
left_calm p f (a_value v) s = calm_by_value p f v s
left_calm p f (a_place r) s = calm_by_place p f r s
left_calm p f (a_flow flow) s = calm_by_flow p f flow s
left_calm p f initialised s = calm_initialised p f s

-- ---- calls

pub entered_calm : (p : Program) (back : Back) (g : Option typed.Function) (f : ℕ) (passed : List Passed) (s : State) →
    Calm false (record (outside_of s) { history = entered_where g f passed s.history }) (entered_call p back g f passed s)
entered_calm p back None f passed s = calm_back false p back None s
entered_calm p back (Some g) f passed s = refl

pub called_calm : (p : Program) (at : Pos) (callee : Callee) (used : Bool) (passed : List Passed) (s : State) → IsInside callee →
    Calm false (record (outside_of s) { history = history_called p callee passed s.history }) (called p at callee used passed s)
called_calm p at (typed.function f) used passed s h = entered_calm p (to_caller at used) (slice_get p.functions f) f passed s
called_calm p at typed.get_byte used passed s h = absurd h
called_calm p at typed.put_byte used passed s h = absurd h
called_calm p at typed.exit used passed s h = refl
called_calm p at (typed.missing name) used passed s h = refl
