-- The steps of the machine with an explicit stack: the step of a node once its tick is spent, and the step of a frame with the result it
-- waited for. Each is a step of the code.
use Rattle.std.specs.Prelude.{ℕ, zero, suc, ◌-◌, ◌*◌, ℤ, pos, List, [], ◌∷◌, ◌++◌, length, Option, Some, None, Bool, nat_eq, nat_lt, slice_get}
use Rattle.srcset.specs.declared.refusal.Pos.{Pos}
use Rattle.ctypes.specs.declared.types.IntType.{IntType}
use Rattle.ctypes.specs.Types.{truth, of_truth, modulo, converted}
use Rattle.typing_spec.specs.Types.{ObjectType, elements_in}
use Rattle.typing_spec.specs.Operators.{operated, sign_of}
use Rattle.typing_spec.specs.Program as typed
use Rattle.typing_spec.specs.Program.{Callee, Place, Value, Arguments, Initialiser, Initialisers, Statement, Statements, Function, Program}
use Rattle.csem.specs.Store.{Reference, into}
use Rattle.csem.specs.Machine.{State, Ended, Run, Goes, Stops, then_do, choose, computed_at, designated, subscripted, read, write, stored}
use Rattle.csem.specs.Expressions.{Passed, Number, Referred, call_value, get_byte, put_byte, first_number, position_of, step_operation, step_value, converted_or_none}
use Rattle.csem.specs.Statements.{Flow, Normal, Broken, Continued, Returned, zeros, characters, first_length, inner_lengths, text_or_none, own, renewed, all_renewed, after_switch, labels_at, labels_of, same_value}
use Rattle.csem.specs.Meaning.{enter, value_left, status_of}
use Rattle.interp_store.specs.layer.Frames as on
use Rattle.interp_store.specs.layer.Frames.{Found, a_value, a_place, a_flow, initialised, Late, puts_text, puts_zeros, enters_body, Node, Step, enters, leaves, calls, Back, to_caller, to_end, Frame, Moved, moves, halts}
use Rattle.interp_store.specs.layer.Presents.{back_at}

-- a result that is given at once
abbrev pub at_once : {A : Type 0} → (A → Found) → Run A → Moved
at_once as_found (Goes a s) = moves [] (leaves (as_found a)) s
at_once as_found (Stops e s) = halts e s

abbrev pub goes : Found → State → Moved
goes x s = moves [] (leaves x) s

abbrev pub waits : Frame → Node → State → Moved
waits f n s = moves (f ∷ []) (enters n) s

-- the same, with an outer frame that waits for its result
abbrev pub behind : Frame → Moved → Moved
behind f (moves pushed step s) = moves (f ∷ pushed) step s
behind f (halts e s) = halts e s

abbrev pub started : List ObjectType → Statements → State → Moved
started objects typed.no_statements s = goes (a_flow Normal) s
started objects (typed.and_statement a more) s = waits (on.rest objects more) (on.statement objects a) s

abbrev pub asked_for : Pos → Callee → Bool → Arguments → List Passed → State → Moved
asked_for at callee used typed.no_arguments before s = moves [] (calls at callee used before) s
asked_for at callee used (typed.and_number t e more) before s = waits (on.number_passed at callee used t more before) (on.value e) s
asked_for at callee used (typed.and_array a more) before s = waits (on.array_passed at callee used more before) (on.place a) s

-- ---- loops: a test that is left out is true, a step that is left out does nothing

abbrev pub turned : List ObjectType → Option Value → Statement → Option Value → ℤ → State → Moved
turned objects test a step v s = choose (truth v) (waits (on.turn objects test a step) (on.statement objects a) s) (goes (a_flow Normal) s)

abbrev pub looped : List ObjectType → Option Value → Statement → Option Value → State → Moved
looped objects None a step s = turned objects None a step (pos 1) s
looped objects (Some e) a step s = waits (on.tests objects (Some e) a step) (on.value e) s

abbrev pub looped_after : List ObjectType → Option Value → Option Value → Statement → Option Value → State → Moved
looped_after objects None test a step s = looped objects test a step s
looped_after objects (Some e) test a step s = waits (on.loops objects test a step) (on.value e) s

abbrev pub turned_on : List ObjectType → Option Value → Statement → Option Value → Flow → State → Moved
turned_on objects test a step Normal s = looped_after objects step test a step s
turned_on objects test a step Continued s = looped_after objects step test a step s
turned_on objects test a step Broken s = goes (a_flow Normal) s
turned_on objects test a step (Returned v) s = goes (a_flow (Returned v)) s

abbrev pub started_after : List ObjectType → Statements → Flow → State → Moved
started_after objects more Normal s = started objects more s
started_after objects more Broken s = goes (a_flow Broken) s
started_after objects more Continued s = goes (a_flow Continued) s
started_after objects more (Returned v) s = goes (a_flow (Returned v)) s

-- ---- switches

abbrev pub from_label : List ObjectType → Option ℕ → Statements → State → Moved
from_label objects label typed.no_statements s = goes (a_flow Normal) s
from_label objects None (typed.and_statement a more) s = goes (a_flow Normal) s
from_label objects (Some k) (typed.and_statement a more) s =
    choose (nat_lt k (length (labels_at a))) (waits (on.rest objects more) (on.statement objects a) s) (from_label objects (Some (k - length (labels_at a))) more s)

abbrev pub jumps : List ObjectType → Option ℕ → Statements → State → Moved
jumps objects label all s = behind on.in_switch (from_label objects label all s)

abbrev pub sought : List ObjectType → ℤ → List (Option ℤ) → ℕ → Option ℕ → Statements → State → Moved
sought objects v [] n default all s = jumps objects default all s
sought objects v (None ∷ labels) n default all s = sought objects v labels (suc n) (Some n) all s
sought objects v (Some c ∷ labels) n default all s = moves [] (enters (on.case_test objects v c labels n default all)) s

module _ (p : Program) where
  -- ---- operations that wait for ticks alone

  abbrev pub came_late : Late → State → Moved
  came_late (puts_text t count n r) s = goes initialised (characters t count 0 (text_or_none (slice_get p.literals n)) r s)
  came_late (puts_zeros count i r) s = goes initialised (zeros count i r s)
  came_late (enters_body objects body) s = moves [] (enters (on.statement objects body)) s

  abbrev pub counted : ℕ → Late → State → Moved
  counted zero what s = came_late what s
  counted (suc k) what s = moves [] (enters (on.ticking k what)) s

  -- ---- nodes

  abbrev pub entered_place : Place → State → Moved
  entered_place (typed.named at what) s = goes (a_place (designated p what s)) s
  entered_place (typed.element at array index) s = waits (on.indexes at index) (on.place array) s

  abbrev pub entered_value : Value → State → Moved
  entered_value (typed.constant t v) s = goes (a_value v) s
  entered_value (typed.read t a) s = behind (on.reads (position_of a)) (entered_place a s)
  entered_value (typed.assigned at t a e) s = waits (on.assigns at t e) (on.place a) s
  entered_value (typed.compound at op t of a e) s = waits (on.compounds at op t of (position_of a) e) (on.place a) s
  entered_value (typed.stepped at moment op t of a) s = waits (on.steps at moment op t of (position_of a)) (on.place a) s
  entered_value (typed.unary at op t e) s = waits (on.signs at op t) (on.value e) s
  entered_value (typed.binary at op t a b) s = waits (on.right at op t b) (on.value a) s
  entered_value (typed.both_true a b) s = waits (on.and_also b) (on.value a) s
  entered_value (typed.one_true a b) s = waits (on.or_else b) (on.value a) s
  entered_value (typed.chosen t c a b) s = waits (on.chooses t a b) (on.value c) s
  entered_value (typed.sequence a b) s = waits (on.then_value b) (on.value a) s
  entered_value (typed.cast t e) s = waits (on.converts (Some t)) (on.value e) s
  entered_value (typed.discarded e) s = waits (on.converts None) (on.value e) s
  entered_value (typed.call at callee result used arguments) s = asked_for at callee used arguments [] s

  abbrev pub defines : Option ObjectType → ℕ → Initialiser → State → Moved
  defines None n i s = goes (a_flow Normal) s
  defines (Some t) n i s = waits on.defined (on.initialiser i t.element t.lengths (own n s)) s

  abbrev pub entered_statement : List ObjectType → Statement → State → Moved
  entered_statement objects typed.empty s = goes (a_flow Normal) s
  entered_statement objects (typed.evaluate e) s = waits on.forgets (on.value e) s
  entered_statement objects (typed.declare n) s = goes (a_flow Normal) (renewed objects n s)
  entered_statement objects (typed.define n i) s = defines (slice_get objects n) n i (renewed objects n s)
  entered_statement objects (typed.block first count all) s = started objects all (all_renewed objects first count s)
  entered_statement objects (typed.branch e a) s = waits (on.if_true objects a) (on.value e) s
  entered_statement objects (typed.branches e a b) s = waits (on.if_else objects a b) (on.value e) s
  entered_statement objects (typed.switch t e first count all) s = waits (on.switches objects t first count all) (on.value e) s
  entered_statement objects (typed.case v) s = goes (a_flow Normal) s
  entered_statement objects typed.default s = goes (a_flow Normal) s
  entered_statement objects (typed.while e a) s = looped objects (Some e) a None s
  entered_statement objects (typed.do_while a e) s = waits (on.turn objects (Some e) a None) (on.statement objects a) s
  entered_statement objects (typed.for declared start test step a) s = behind (on.for_starts objects start test a step) (started objects declared s)
  entered_statement objects typed.break s = goes (a_flow Broken) s
  entered_statement objects typed.continue s = goes (a_flow Continued) s
  entered_statement objects typed.return_nothing s = goes (a_flow (Returned None)) s
  entered_statement objects (typed.return_value t e) s = waits (on.gives_back t) (on.value e) s

  abbrev pub listed : Initialisers → IntType → (k i : ℕ) → List ℕ → Reference → State → Moved
  listed typed.no_initialisers t k i lengths r s = counted (k * elements_in lengths) (puts_zeros k i r) s
  listed (typed.and_initialiser x more) t k i lengths r s = waits (on.next_part more t k i lengths r) (on.initialiser x t lengths (into r i)) s

  abbrev pub entered_initialiser : Initialiser → IntType → List ℕ → Reference → State → Moved
  entered_initialiser (typed.one_value u e) t lengths r s = behind (on.gives u r) (entered_value e s)
  entered_initialiser (typed.text n) t lengths r s = counted (first_length lengths) (puts_text t (first_length lengths) n r) s
  entered_initialiser (typed.in_braces i) t lengths r s = moves [] (enters (on.initialiser i t lengths r)) s
  entered_initialiser (typed.list all) t lengths r s = listed all t (first_length lengths) 0 (inner_lengths lengths) r s

  -- a node, once its tick is spent
  abbrev pub entered : Node → State → Moved
  entered (on.place a) s = entered_place a s
  entered (on.value e) s = entered_value e s
  entered (on.statement objects a) s = entered_statement objects a s
  entered (on.initialiser i t lengths r) s = entered_initialiser i t lengths r s
  entered (on.element r v) s = goes initialised (stored r v s)
  entered (on.ticking more what) s = counted more what s
  entered (on.switch_block objects v first count all) s = sought objects v (labels_of all) 0 None all (all_renewed objects first count s)
  entered (on.case_test objects v c labels n default all) s =
      choose (same_value c v) (jumps objects (Some n) all s) (sought objects v labels (suc n) default all s)

  -- ---- frames

  abbrev pub left_by_place : Frame → Reference → State → Moved
  left_by_place (on.indexes at index) r s = waits (on.index_of at r) (on.value index) s
  left_by_place (on.reads at) r s = at_once a_value (read at r s)
  left_by_place (on.assigns at t e) r s = waits (on.stores at t r) (on.value e) s
  left_by_place (on.compounds at op t of read_at e) r s = waits (on.combines at op t of read_at r) (on.value e) s
  left_by_place (on.steps at moment op t of read_at) r s = at_once a_value (then_do (read read_at r s) (λ old s.
      then_do (computed_at at (operated (step_operation op) of old (pos 1)) s) (λ w s.
      then_do (write p at r (converted t w) s) (λ new s. Goes (step_value moment old new) s))))
  left_by_place (on.array_passed at callee used more before) r s = asked_for at callee used more (before ++ Referred r ∷ []) s
  left_by_place other r s = goes (a_place r) s

  abbrev pub left_by_value : Frame → ℤ → State → Moved
  left_by_value (on.index_of at r) v s = at_once a_place (subscripted at r v s)
  left_by_value (on.stores at t r) v s = at_once a_value (write p at r (converted t v) s)
  left_by_value (on.combines at op t of read_at r) v s = at_once a_value (then_do (read read_at r s) (λ old s.
      then_do (computed_at at (operated op of old v) s) (λ w s. write p at r (converted t w) s)))
  left_by_value (on.signs at op t) v s = at_once a_value (computed_at at (sign_of op t v) s)
  left_by_value (on.right at op t b) v s = waits (on.applies at op t v) (on.value b) s
  left_by_value (on.applies at op t a) v s = at_once a_value (computed_at at (operated op t a v) s)
  left_by_value (on.and_also b) v s = choose (truth v) (waits on.tells_truth (on.value b) s) (goes (a_value (pos 0)) s)
  left_by_value (on.or_else b) v s = choose (truth v) (goes (a_value (pos 1)) s) (waits on.tells_truth (on.value b) s)
  left_by_value on.tells_truth v s = goes (a_value (of_truth (truth v))) s
  left_by_value (on.chooses t a b) v s = choose (truth v) (waits (on.converts t) (on.value a) s) (waits (on.converts t) (on.value b) s)
  left_by_value (on.converts t) v s = goes (a_value (converted_or_none t v)) s
  left_by_value (on.then_value b) v s = moves [] (enters (on.value b)) s
  left_by_value (on.number_passed at callee used t more before) v s = asked_for at callee used more (before ++ Number (converted t v) ∷ []) s
  left_by_value (on.gives t r) v s = moves [] (enters (on.element r (converted t v))) s
  left_by_value on.forgets v s = goes (a_flow Normal) s
  left_by_value (on.if_true objects a) v s = choose (truth v) (moves [] (enters (on.statement objects a)) s) (goes (a_flow Normal) s)
  left_by_value (on.if_else objects a b) v s =
      choose (truth v) (moves [] (enters (on.statement objects a)) s) (moves [] (enters (on.statement objects b)) s)
  left_by_value (on.switches objects t first count all) v s = moves [] (enters (on.switch_block objects (converted t v) first count all)) s
  left_by_value (on.tests objects test a step) v s = turned objects test a step v s
  left_by_value (on.loops objects test a step) v s = looped objects test a step s
  left_by_value (on.gives_back t) v s = goes (a_flow (Returned (Some (converted t v)))) s
  left_by_value other v s = goes (a_value v) s

  abbrev pub went_back : Back → Option ℤ → State → Moved
  went_back (to_caller at used) v s = at_once a_value (call_value used at v s)
  went_back to_end v s = halts (Ended (status_of v)) s

  abbrev pub left_by_flow : Frame → Flow → State → Moved
  left_by_flow (on.returns back is_main count base arrays) flow s = went_back back (value_left is_main flow) (back_at count base arrays (value_left is_main flow) s)
  left_by_flow (on.rest objects more) flow s = started_after objects more flow s
  left_by_flow on.in_switch flow s = at_once a_flow (after_switch flow s)
  left_by_flow (on.turn objects test a step) flow s = turned_on objects test a step flow s
  left_by_flow (on.for_starts objects start test a step) flow s = looped_after objects start test a step s
  left_by_flow other flow s = goes (a_flow flow) s

  abbrev pub left_initialised : Frame → State → Moved
  left_initialised (on.next_part more t k i lengths r) s = listed more t (k - 1) (suc i) lengths r s
  left_initialised on.defined s = goes (a_flow Normal) s
  left_initialised other s = goes initialised s

  -- a frame, with the result it waited for
  abbrev pub left : Frame → Found → State → Moved
  left f (a_value v) s = left_by_value f v s
  left f (a_place r) s = left_by_place f r s
  left f (a_flow flow) s = left_by_flow f flow s
  left f initialised s = left_initialised f s

  -- ---- calls

  -- of a function; the return to the caller, or the end of the run
  abbrev pub entered_call : Back → Option Function → ℕ → List Passed → State → Moved
  entered_call back None f passed s = went_back back None s
  entered_call back (Some g) f passed s =
      behind (on.returns back (nat_eq f p.main) (length s.store) s.base s.arrays)
      (moves [] (enters (on.ticking (length g.type.parameters) (enters_body g.objects g.body))) (enter f g passed s))

  abbrev pub called : Pos → Callee → Bool → List Passed → State → Moved
  called at (typed.function f) used passed s = entered_call (to_caller at used) (slice_get p.functions f) f passed s
  called at typed.get_byte used passed s = at_once a_value (get_byte s.input s)
  called at typed.put_byte used passed s = at_once a_value (put_byte (first_number passed) s)
  called at typed.exit used passed s = at_once a_value (Stops (Ended (modulo 8 (first_number passed))) s)
  called at (typed.missing name) used passed s = goes (a_value (pos 0)) s
