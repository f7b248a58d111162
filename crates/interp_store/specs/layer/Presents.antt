-- The remainder of a run: the next step, and the frames that wait for it.
use Rattle.std.specs.Prelude.{◌≡◌, ℕ, suc, ◌-◌, ℤ, pos, List, [], ◌∷◌, ◌++◌, take, Option, Some, None, Bool, option_map, slice_get}
use Rattle.srcset.specs.declared.refusal.Pos.{Pos}
use Rattle.ctypes.specs.Types.{truth, of_truth, converted}
use Rattle.typing_spec.specs.Types.{ObjectType}
use Rattle.typing_spec.specs.Operators.{operated, sign_of}
use Rattle.typing_spec.specs.Program.{Callee, Value, Arguments, Statement, Statements, Program}
use Rattle.csem.specs.Store.{Reference}
use Rattle.csem.specs.History.{Left}
use Rattle.csem.specs.Machine.{State, Run, Goes, Stops, then_do, choose, tick, ticks, computed_at, subscripted, read, write, stored}
use Rattle.csem.specs.Expressions.{Passed, Number, Referred, Calling, call_value, call_of, step_operation, step_value, converted_or_none, find, evaluate, pass, evaluate_or}
use Rattle.csem.specs.Statements.{Flow, Normal, Returned, zeros, characters, text_or_none, initialise, initialise_all, all_renewed, next_after, after_body, after_switch, turns, label_for, labels_of, execute, execute_all, execute_from}
use Rattle.csem.specs.Meaning.{word_of, value_left, call_defined, calling, end_with}
use Rattle.interp_store.specs.layer.Frames as on
use Rattle.interp_store.specs.layer.Frames.{Found, a_value, a_place, a_flow, initialised, Late, puts_text, puts_zeros, enters_body, Node, Step, enters, leaves, calls, Back, to_caller, to_end, Frame, Moved, moves, halts}

-- the result of a run, as a `Found`
abbrev pub given : {A : Type 0} → (A → Found) → Run A → Run Found
given as_found (Goes a s) = Goes (as_found a) s
given as_found (Stops e s) = Stops e s

abbrev pub done : Unit {0} → Found
done u = initialised

-- the call has returned this result, and the caller continues with its own objects
abbrev pub back_at : ℕ → ℕ → List Reference → (result : Option ℤ) → State → State
back_at count base arrays result s = record s {
  store = take count s.store;
  base = base;
  arrays = arrays;
  history = Left (option_map word_of result) ∷ s.history;
}

module _ (p : Program) (call : Calling) where
  -- the turns of a loop; its ticks suffice for them
  abbrev pub loop : List ObjectType → Option Value → Statement → Option Value → State → Run Flow
  loop objects test a step s = turns s.clock (evaluate_or p call test) (execute p call objects a) (evaluate_or p call step) s

  -- the remainder of a turn
  abbrev pub stepped : List ObjectType → Option Value → Statement → Option Value → State → Run Flow
  stepped objects test a step s = then_do (evaluate_or p call step s) (λ w s. loop objects test a step s)

  abbrev pub tested : List ObjectType → Option Value → Statement → Option Value → ℤ → State → Run Flow
  tested objects test a step v s =
      choose (truth v) (then_do (execute p call objects a s) (λ flow s. after_body flow s (stepped objects test a step))) (Goes Normal s)

  abbrev pub late : Late → State → Run Found
  late (puts_text t count n r) s = Goes initialised (characters t count 0 (text_or_none (slice_get p.literals n)) r s)
  late (puts_zeros count i r) s = Goes initialised (zeros count i r s)
  late (enters_body objects body) s = given a_flow (execute p call objects body s)

  -- the arguments that are left, and the call
  abbrev pub asked : Pos → Callee → Bool → Arguments → List Passed → State → Run Found
  asked at callee used more before s = given a_value (then_do (pass p call more s) (λ passed s. call_of call at callee used (before ++ passed) s))

  -- from the label of a switch on
  abbrev pub jumped : List ObjectType → Option ℕ → Statements → State → Run Found
  jumped objects label all s = given a_flow (then_do (execute_from p call objects label all s) after_switch)

  abbrev pub looked_for : List ObjectType → ℤ → List (Option ℤ) → ℕ → Option ℕ → Statements → State → Run Found
  looked_for objects v labels n default all s = then_do (label_for v labels n default s) (λ label s. jumped objects label all s)

  -- from its tick on
  abbrev pub presented : Node → State → Run Found
  presented (on.place a) s = given a_place (find p call a s)
  presented (on.value e) s = given a_value (evaluate p call e s)
  presented (on.statement objects a) s = given a_flow (execute p call objects a s)
  presented (on.initialiser i t lengths r) s = given done (initialise p call i t lengths r s)
  presented (on.element r v) s = tick s (λ s. Goes initialised (stored r v s))
  presented (on.ticking more what) s = then_do (ticks (suc more) s) (λ u s. late what s)
  presented (on.switch_block objects v first count all) s =
      tick s (λ s. looked_for objects v (labels_of all) 0 None all (all_renewed objects first count s))
  presented (on.case_test objects v c labels n default all) s = looked_for objects v (Some c ∷ labels) n default all s

  abbrev pub present : Step → State → Run Found
  present (enters n) s = presented n s
  present (leaves x) s = Goes x s
  present (calls at callee used passed) s = given a_value (call_of call at callee used passed s)

  -- ---- the step of a frame with its result

  abbrev pub goes_back : Back → Option ℤ → State → Run Found
  goes_back (to_caller at used) v s = given a_value (call_value used at v s)
  goes_back to_end v s = given (λ v. a_flow (Returned v)) (end_with v s)

  abbrev pub with_place : Frame → Reference → State → Run Found
  with_place (on.indexes at index) r s = given a_place (then_do (evaluate p call index s) (λ v s. subscripted at r v s))
  with_place (on.reads at) r s = given a_value (read at r s)
  with_place (on.assigns at t e) r s = given a_value (then_do (evaluate p call e s) (λ v s. write p at r (converted t v) s))
  with_place (on.compounds at op t of read_at e) r s = given a_value (then_do (evaluate p call e s) (λ v s.
      then_do (read read_at r s) (λ old s. then_do (computed_at at (operated op of old v) s) (λ w s. write p at r (converted t w) s))))
  with_place (on.steps at moment op t of read_at) r s = given a_value (then_do (read read_at r s) (λ old s.
      then_do (computed_at at (operated (step_operation op) of old (pos 1)) s) (λ w s.
      then_do (write p at r (converted t w) s) (λ new s. Goes (step_value moment old new) s))))
  with_place (on.array_passed at callee used more before) r s = asked at callee used more (before ++ Referred r ∷ []) s
  with_place other r s = Goes (a_place r) s

  abbrev pub with_value : Frame → ℤ → State → Run Found
  with_value (on.index_of at r) v s = given a_place (subscripted at r v s)
  with_value (on.stores at t r) v s = given a_value (write p at r (converted t v) s)
  with_value (on.combines at op t of read_at r) v s = given a_value (then_do (read read_at r s) (λ old s.
      then_do (computed_at at (operated op of old v) s) (λ w s. write p at r (converted t w) s)))
  with_value (on.signs at op t) v s = given a_value (computed_at at (sign_of op t v) s)
  with_value (on.right at op t b) v s = given a_value (then_do (evaluate p call b s) (λ w s. computed_at at (operated op t v w) s))
  with_value (on.applies at op t a) v s = given a_value (computed_at at (operated op t a v) s)
  with_value (on.and_also b) v s =
      given a_value (choose (truth v) (then_do (evaluate p call b s) (λ w s. Goes (of_truth (truth w)) s)) (Goes (pos 0) s))
  with_value (on.or_else b) v s =
      given a_value (choose (truth v) (Goes (pos 1) s) (then_do (evaluate p call b s) (λ w s. Goes (of_truth (truth w)) s)))
  with_value on.tells_truth v s = Goes (a_value (of_truth (truth v))) s
  with_value (on.chooses t a b) v s =
      given a_value (then_do (choose (truth v) (evaluate p call a s) (evaluate p call b s)) (λ w s. Goes (converted_or_none t w) s))
  with_value (on.converts t) v s = Goes (a_value (converted_or_none t v)) s
  with_value (on.then_value b) v s = given a_value (evaluate p call b s)
  with_value (on.number_passed at callee used t more before) v s = asked at callee used more (before ++ Number (converted t v) ∷ []) s
  with_value (on.gives t r) v s = tick s (λ s. Goes initialised (stored r (converted t v) s))
  with_value on.forgets v s = Goes (a_flow Normal) s
  with_value (on.if_true objects a) v s = given a_flow (choose (truth v) (execute p call objects a s) (Goes Normal s))
  with_value (on.if_else objects a b) v s = given a_flow (choose (truth v) (execute p call objects a s) (execute p call objects b s))
  with_value (on.switches objects t first count all) v s =
      tick s (λ s. looked_for objects (converted t v) (labels_of all) 0 None all (all_renewed objects first count s))
  with_value (on.tests objects test a step) v s = given a_flow (tested objects test a step v s)
  with_value (on.loops objects test a step) v s = given a_flow (loop objects test a step s)
  with_value (on.gives_back t) v s = Goes (a_flow (Returned (Some (converted t v)))) s
  with_value other v s = Goes (a_value v) s

  abbrev pub with_flow : Frame → Flow → State → Run Found
  with_flow (on.returns back is_main count base arrays) flow s = goes_back back (value_left is_main flow) (back_at count base arrays (value_left is_main flow) s)
  with_flow (on.rest objects more) flow s = given a_flow (next_after flow s (execute_all p call objects more))
  with_flow on.in_switch flow s = given a_flow (after_switch flow s)
  with_flow (on.turn objects test a step) flow s = given a_flow (after_body flow s (stepped objects test a step))
  with_flow (on.for_starts objects start test a step) flow s =
      given a_flow (then_do (evaluate_or p call start s) (λ v s. loop objects test a step s))
  with_flow other flow s = Goes (a_flow flow) s

  abbrev pub when_initialised : Frame → State → Run Found
  when_initialised (on.next_part more t k i lengths r) s = given done (initialise_all p call more t (k - 1) (suc i) lengths r s)
  when_initialised on.defined s = Goes (a_flow Normal) s
  when_initialised other s = Goes initialised s

  abbrev pub after : Frame → Found → State → Run Found
  after f (a_value v) s = with_value f v s
  after f (a_place r) s = with_place f r s
  after f (a_flow flow) s = with_flow f flow s
  after f initialised s = when_initialised f s

  -- the frames one after the other, the last first
  abbrev pub resume : List Frame → Run Found → Run Found
  resume [] r = r
  resume (f ∷ fs) r = then_do (resume fs r) (after f)

  -- the remainder of the run after a step
  abbrev pub resumed : Moved → Run Found
  resumed (moves pushed step s) = resume pushed (present step s)
  resumed (halts e s) = Stops e s

  -- the assumptions on a call, so that a call is its function's body, and the turns of a loop follow one another
  pub record Real : Type 0 where
    pub begins : (f : ℕ) (passed : List Passed) (s : State) → call f passed s ≡ call_defined p call (slice_get p.functions f) f passed s
    pub again : (objects : List ObjectType) (test : Option Value) (a : Statement) (step : Option Value) (s : State) →
        loop objects test a step s ≡ then_do (evaluate_or p call test s) (λ v s. tested objects test a step v s)

-- a call with as many calls nested in it as its ticks allow
abbrev pub call_in : Program → Calling
call_in p f passed s = calling p (suc s.clock) f passed s
