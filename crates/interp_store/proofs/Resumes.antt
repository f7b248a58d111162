-- The remainder of a run is the same after each step.
use Rattle.std.proofs.Common.{◌≡◌, ℕ, zero, suc, ◌-◌, ◌*◌, ℤ, pos, List, [], ◌∷◌, ◌++◌, length, Option, Some, None, Bool, true, false, refl, sym, ap, ◌∙◌, append_assoc}
use Rattle.std.specs.Prelude.{nat_lt, nat_eq, slice_get}
use Rattle.srcset.specs.declared.refusal.Pos.{Pos}
use Rattle.ctypes.specs.declared.types.IntType.{IntType}
use Rattle.ctypes.specs.Types.{truth, of_truth, converted}
use Rattle.typing_spec.specs.Types.{ObjectType, elements_in}
use Rattle.typing_spec.specs.Program as typed
use Rattle.typing_spec.specs.Program.{Callee, Place, Value, Arguments, Initialiser, Initialisers, Statement, Statements, Function, Program}
use Rattle.csem.specs.Store.{Reference, into}
use Rattle.csem.specs.Machine.{State, Run, Goes, Stops, then_do, choose, tick_of, tick, ticks}
use Rattle.csem.specs.Expressions.{Passed, Number, Referred, Calling, call_value, call_of, converted_or_none, position_of, find, evaluate, pass, evaluate_or}
use Rattle.csem.specs.Statements.{Flow, Normal, Broken, Continued, Returned, first_length, inner_lengths, own, renewed, all_renewed, define_object, next_after, after_body, after_switch, label_for, labels_at, labels_of, same_value, initialise, initialise_all, execute, execute_all, execute_from}
use Rattle.csem.specs.Meaning.{value_left, body_of, enter, leave, call_defined, calling, start, end_with, cstep}
use Rattle.interp_store.specs.layer.Frames as on
use Rattle.interp_store.specs.layer.Frames.{Found, a_value, a_place, a_flow, initialised, Late, puts_text, puts_zeros, enters_body, Node, Step, enters, leaves, calls, Back, to_caller, to_end, Frame, Moved, moves, halts}
use Rattle.interp_store.specs.layer.Presents.{given, done, back_at, loop, stepped, tested, late, asked, jumped, looked_for, presented, present, goes_back, with_place, with_value, with_flow, when_initialised, after, resume, resumed, Real, call_in}
use Rattle.interp_store.specs.layer.Steps.{at_once, goes, waits, behind, started, asked_for, turned, looped, looped_after, turned_on, started_after, from_label, jumps, sought, came_late, counted, entered_place, entered_value, defines, entered_statement, listed, entered_initialiser, entered, left_by_place, left_by_value, went_back, left_by_flow, left_initialised, left, entered_call, called}

-- composition of `given` and `then_do`
given_then : {A B : Type 0} (f : A → Found) (h : B → Found) (x : Run A) (k : A → State → Run B) (g : Found → State → Run Found) →
    ((a : A) (s : State) → given h (k a s) ≡ g (f a) s) → given h (then_do x k) ≡ then_do (given f x) g
given_then f h (Goes a s) k g e = e a s
given_then f h (Stops end s) k g e = refl

ticked_of : {A : Type 0} (h : A → Found) (n : ℕ) (s : State) (k : State → Run A) (k2 : State → Run Found) → ((s : State) → given h (k s) ≡ k2 s) → given h (tick_of n s k) ≡ tick_of n s k2
ticked_of h zero s k k2 e = refl
ticked_of h (suc n) s k k2 e = e (record s { clock = n })

ticked : {A : Type 0} (h : A → Found) (s : State) (k : State → Run A) (k2 : State → Run Found) → ((s : State) → given h (k s) ≡ k2 s) → given h (tick s k) ≡ tick s k2
ticked h s k k2 e = ticked_of h s.clock s k k2 e

tick_same_of : {A : Type 0} (n : ℕ) (s : State) (k k2 : State → Run A) → ((s : State) → k s ≡ k2 s) → tick_of n s k ≡ tick_of n s k2
tick_same_of zero s k k2 e = refl
tick_same_of (suc n) s k k2 e = e (record s { clock = n })

pub tick_then_of : {A B : Type 0} (n : ℕ) (s : State) (k : State → Run A) (g : A → State → Run B) → then_do (tick_of n s k) g ≡ tick_of n s (λ s. then_do (k s) g)
tick_then_of zero s k g = refl
tick_then_of (suc n) s k g = refl

given_inside : {A B : Type 0} (h : B → Found) (x : Run A) (k : A → State → Run B) → given h (then_do x k) ≡ then_do x (λ a s. given h (k a s))
given_inside h (Goes a s) k = refl
given_inside h (Stops e s) k = refl

then_then : {A B C : Type 0} (x : Run A) (k : A → State → Run B) (g : B → State → Run C) → then_do (then_do x k) g ≡ then_do x (λ a s. then_do (k a s) g)
then_then (Goes a s) k g = refl
then_then (Stops e s) k g = refl

append_none : {A : Type 0} (xs : List A) → xs ++ [] ≡ xs
append_none [] = refl
append_none (x ∷ xs) = ap (λ l. x ∷ l) (append_none xs)

module _ (p : Program) (call : Calling) where
  behind_resumes : (f : Frame) (m : Moved) → then_do (resumed p call m) (after p call f) ≡ resumed p call (behind f m)
  behind_resumes f (moves pushed step s) = refl
  behind_resumes f (halts e s) = refl

  -- a node that begins as another one does, whose frame waits
  begins_as : (f : Frame) (s : State) (x : Run Found) (m : State → Moved) → x ≡ tick s (λ s. resumed p call (m s)) →
      then_do x (after p call f) ≡ tick s (λ s. resumed p call (behind f (m s)))
  begins_as f s x m e = ap (λ x. then_do x (after p call f)) e ∙ tick_then_of s.clock s (λ s. resumed p call (m s)) (after p call f)
      ∙ tick_same_of s.clock s (λ s. then_do (resumed p call (m s)) (after p call f)) (λ s. resumed p call (behind f (m s))) (λ s. behind_resumes f (m s))

  once_resumes : {A : Type 0} (f : A → Found) (x : Run A) → given f x ≡ resumed p call (at_once f x)
  once_resumes f (Goes a s) = refl
  once_resumes f (Stops e s) = refl

  place_enters : (a : Place) (s : State) → presented p call (on.place a) s ≡ tick s (λ s. resumed p call (entered_place p a s))
  place_enters (typed.named at what) s = ticked a_place s _ _ (λ s. refl)
  place_enters (typed.element at array index) s = ticked a_place s _ _ (λ s. given_then a_place a_place (find p call array s) _ (after p call (on.indexes at index)) (λ r s. refl))

  -- ---- arguments

  asked_before : (at : Pos) (callee : Callee) (used : Bool) (before : List Passed) (n : Passed) (x : Run (List Passed)) →
      given a_value (then_do (then_do x (λ passed s. Goes (n ∷ passed) s)) (λ passed s. call_of call at callee used (before ++ passed) s))
      ≡ given a_value (then_do x (λ passed s. call_of call at callee used ((before ++ n ∷ []) ++ passed) s))
  asked_before at callee used before n (Goes passed s) = ap (λ all. given a_value (call_of call at callee used all s)) (sym (append_assoc before (n ∷ []) passed))
  asked_before at callee used before n (Stops e s) = refl

  asked_resumes : (at : Pos) (callee : Callee) (used : Bool) (more : Arguments) (before : List Passed) (s : State) →
      asked p call at callee used more before s ≡ resumed p call (asked_for at callee used more before s)
  asked_resumes at callee used typed.no_arguments before s = ap (λ all. given a_value (call_of call at callee used all s)) (append_none before)
  asked_resumes at callee used (typed.and_number t e more) before s =
      ap (given a_value) (then_then (evaluate p call e s) (λ v s. then_do (pass p call more s) (λ passed s. Goes (Number (converted t v) ∷ passed) s)) (λ passed s. call_of call at callee used (before ++ passed) s))
      ∙ given_then a_value a_value (evaluate p call e s) _ (after p call (on.number_passed at callee used t more before))
      (λ v s. asked_before at callee used before (Number (converted t v)) (pass p call more s))
  asked_resumes at callee used (typed.and_array a more) before s =
      ap (given a_value) (then_then (find p call a s) (λ r s. then_do (pass p call more s) (λ passed s. Goes (Referred r ∷ passed) s)) (λ passed s. call_of call at callee used (before ++ passed) s))
      ∙ given_then a_place a_value (find p call a s) _ (after p call (on.array_passed at callee used more before))
      (λ r s. asked_before at callee used before (Referred r) (pass p call more s))

  -- ---- expressions

  value_enters : (e : Value) (s : State) → presented p call (on.value e) s ≡ tick s (λ s. resumed p call (entered_value p e s))
  value_enters (typed.constant t v) s = ticked a_value s _ _ (λ s. refl)
  value_enters (typed.read t a) s =
      given_then a_place a_value (find p call a s) _ (after p call (on.reads (position_of a))) (λ r s. refl)
      ∙ begins_as (on.reads (position_of a)) s (given a_place (find p call a s)) (λ s. entered_place p a s) (place_enters a s)
  value_enters (typed.assigned at t a e) s =
      ticked a_value s _ _ (λ s. given_then a_place a_value (find p call a s) _ (after p call (on.assigns at t e)) (λ r s. refl))
  value_enters (typed.compound at op t of a e) s =
      ticked a_value s _ _ (λ s. given_then a_place a_value (find p call a s) _ (after p call (on.compounds at op t of (position_of a) e)) (λ r s. refl))
  value_enters (typed.stepped at moment op t of a) s =
      ticked a_value s _ _ (λ s. given_then a_place a_value (find p call a s) _ (after p call (on.steps at moment op t of (position_of a))) (λ r s. refl))
  value_enters (typed.unary at op t e) s = ticked a_value s _ _ (λ s. given_then a_value a_value (evaluate p call e s) _ (after p call (on.signs at op t)) (λ v s. refl))
  value_enters (typed.binary at op t a b) s = ticked a_value s _ _ (λ s. given_then a_value a_value (evaluate p call a s) _ (after p call (on.right at op t b)) (λ v s. refl))
  value_enters (typed.both_true a b) s = ticked a_value s _ _ (λ s. given_then a_value a_value (evaluate p call a s) _ (after p call (on.and_also b)) (λ v s. refl))
  value_enters (typed.one_true a b) s = ticked a_value s _ _ (λ s. given_then a_value a_value (evaluate p call a s) _ (after p call (on.or_else b)) (λ v s. refl))
  value_enters (typed.chosen t c a b) s = ticked a_value s _ _ (λ s. given_then a_value a_value (evaluate p call c s) _ (after p call (on.chooses t a b)) (λ v s. refl))
  value_enters (typed.sequence a b) s = ticked a_value s _ _ (λ s. given_then a_value a_value (evaluate p call a s) _ (after p call (on.then_value b)) (λ v s. refl))
  value_enters (typed.cast t e) s = ticked a_value s _ _ (λ s. given_then a_value a_value (evaluate p call e s) _ (after p call (on.converts (Some t))) (λ v s. refl))
  value_enters (typed.discarded e) s = ticked a_value s _ _ (λ s. given_then a_value a_value (evaluate p call e s) _ (after p call (on.converts None)) (λ v s. refl))
  value_enters (typed.call at callee result used arguments) s = ticked a_value s _ _ (λ s. asked_resumes at callee used arguments [] s)

  -- ---- lists of statements, labels

  started_resumes : (objects : List ObjectType) (all : Statements) (s : State) → given a_flow (execute_all p call objects all s) ≡ resumed p call (started objects all s)
  started_resumes objects typed.no_statements s = refl
  started_resumes objects (typed.and_statement a more) s = given_then a_flow a_flow (execute p call objects a s) _ (after p call (on.rest objects more)) (λ flow s. refl)

  from_test : (objects : List ObjectType) (b : Bool) (a : Statement) (more : Statements) (other : Run Flow) (other_moved : Moved) (s : State) →
      given a_flow other ≡ resumed p call other_moved →
      given a_flow (choose b (then_do (execute p call objects a s) (λ flow s. next_after flow s (execute_all p call objects more))) other)
      ≡ resumed p call (choose b (waits (on.rest objects more) (on.statement objects a) s) other_moved)
  from_test objects true a more other other_moved s e = given_then a_flow a_flow (execute p call objects a s) _ (after p call (on.rest objects more)) (λ flow s. refl)
  from_test objects false a more other other_moved s e = e

  from_resumes : (objects : List ObjectType) (all : Statements) (label : Option ℕ) (s : State) →
      given a_flow (execute_from p call objects label all s) ≡ resumed p call (from_label objects label all s)
  from_resumes objects typed.no_statements None s = refl
  from_resumes objects typed.no_statements (Some k) s = refl
  from_resumes objects (typed.and_statement a more) None s = refl
  from_resumes objects (typed.and_statement a more) (Some k) s =
      from_test objects (nat_lt k (length (labels_at a))) a more _ _ s (from_resumes objects more (Some (k - length (labels_at a))) s)

  jump_resumes : (objects : List ObjectType) (label : Option ℕ) (all : Statements) (s : State) → jumped p call objects label all s ≡ resumed p call (jumps objects label all s)
  jump_resumes objects label all s =
      given_then a_flow a_flow (execute_from p call objects label all s) after_switch (after p call on.in_switch) (λ flow s. refl)
      ∙ ap (λ x. then_do x (after p call on.in_switch)) (from_resumes objects all label s) ∙ behind_resumes on.in_switch (from_label objects label all s)

  sought_resumes : (objects : List ObjectType) (v : ℤ) (labels : List (Option ℤ)) (n : ℕ) (default : Option ℕ) (all : Statements) (s : State) →
      looked_for p call objects v labels n default all s ≡ resumed p call (sought objects v labels n default all s)
  sought_resumes objects v [] n default all s = jump_resumes objects default all s
  sought_resumes objects v (None ∷ labels) n default all s = sought_resumes objects v labels (suc n) (Some n) all s
  sought_resumes objects v (Some c ∷ labels) n default all s = refl

  test_resumes : (objects : List ObjectType) (b : Bool) (v : ℤ) (labels : List (Option ℤ)) (n : ℕ) (default : Option ℕ) (all : Statements) (s : State) →
      then_do (choose b (Goes (Some n) s) (label_for v labels (suc n) default s)) (λ label s. jumped p call objects label all s)
      ≡ resumed p call (choose b (jumps objects (Some n) all s) (sought objects v labels (suc n) default all s))
  test_resumes objects true v labels n default all s = jump_resumes objects (Some n) all s
  test_resumes objects false v labels n default all s = sought_resumes objects v labels (suc n) default all s

  -- ---- operations that wait for ticks alone

  late_resumes : (what : Late) (s : State) → late p call what s ≡ resumed p call (came_late p what s)
  late_resumes (puts_text t count n r) s = refl
  late_resumes (puts_zeros count i r) s = refl
  late_resumes (enters_body objects body) s = refl

  counted_resumes : (k : ℕ) (what : Late) (s : State) → then_do (ticks k s) (λ u s. late p call what s) ≡ resumed p call (counted p k what s)
  counted_resumes zero what s = late_resumes what s
  counted_resumes (suc k) what s = refl

  listed_resumes : (all : Initialisers) (t : IntType) (k i : ℕ) (lengths : List ℕ) (r : Reference) (s : State) →
      given done (initialise_all p call all t k i lengths r s) ≡ resumed p call (listed p all t k i lengths r s)
  listed_resumes typed.no_initialisers t k i lengths r s = given_inside done (ticks (k * elements_in lengths) s) _ ∙ counted_resumes (k * elements_in lengths) (puts_zeros k i r) s
  listed_resumes (typed.and_initialiser x more) t k i lengths r s =
      given_then done done (initialise p call x t lengths (into r i) s) _ (after p call (on.next_part more t k i lengths r)) (λ u s. refl)

  initialiser_enters : (i : Initialiser) (t : IntType) (lengths : List ℕ) (r : Reference) (s : State) →
      presented p call (on.initialiser i t lengths r) s ≡ tick s (λ s. resumed p call (entered_initialiser p i t lengths r s))
  initialiser_enters (typed.one_value u e) t lengths r s =
      given_then a_value done (evaluate p call e s) _ (after p call (on.gives u r)) (λ v s. ticked done s _ _ (λ s. refl))
      ∙ begins_as (on.gives u r) s (given a_value (evaluate p call e s)) (λ s. entered_value p e s) (value_enters e s)
  initialiser_enters (typed.text n) t lengths r s =
      ticked done s _ _ (λ s. given_inside done (ticks (first_length lengths) s) _ ∙ counted_resumes (first_length lengths) (puts_text t (first_length lengths) n r) s)
  initialiser_enters (typed.in_braces i) t lengths r s = ticked done s _ _ (λ s. refl)
  initialiser_enters (typed.list all) t lengths r s = ticked done s _ _ (λ s. listed_resumes all t (first_length lengths) 0 (inner_lengths lengths) r s)

  -- ---- statements

  defined_resumes : (objects : List ObjectType) (o : Option ObjectType) (n : ℕ) (i : Initialiser) (s : State) →
      given a_flow (define_object p call objects o n i s) ≡ resumed p call (defines p o n i s)
  defined_resumes objects None n i s = refl
  defined_resumes objects (Some t) n i s = given_then done a_flow (initialise p call i t.element t.lengths (own n s) s) _ (after p call on.defined) (λ u s. refl)

  module _ (real : Real p call) where
    turned_resumes : (objects : List ObjectType) (test : Option Value) (a : Statement) (step : Option Value) (v : ℤ) (s : State) →
        given a_flow (tested p call objects test a step v s) ≡ resumed p call (turned objects test a step v s)
    turned_resumes objects test a step v s = by_truth (truth v)
      where
        by_truth : (b : Bool) →
            given a_flow (choose b (then_do (execute p call objects a s) (λ flow s. after_body flow s (stepped p call objects test a step))) (Goes Normal s))
            ≡ resumed p call (choose b (waits (on.turn objects test a step) (on.statement objects a) s) (goes (a_flow Normal) s))
        by_truth true = given_then a_flow a_flow (execute p call objects a s) _ (after p call (on.turn objects test a step)) (λ flow s. refl)
        by_truth false = refl

    looped_resumes : (objects : List ObjectType) (test : Option Value) (a : Statement) (step : Option Value) (s : State) →
        given a_flow (loop p call objects test a step s) ≡ resumed p call (looped objects test a step s)
    looped_resumes objects None a step s = ap (given a_flow) (real.again objects None a step s) ∙ turned_resumes objects None a step (pos 1) s
    looped_resumes objects (Some e) a step s =
        ap (given a_flow) (real.again objects (Some e) a step s)
        ∙ given_then a_value a_flow (evaluate p call e s) _ (after p call (on.tests objects (Some e) a step)) (λ v s. refl)

    looped_after_resumes : (objects : List ObjectType) (first test : Option Value) (a : Statement) (step : Option Value) (s : State) →
        given a_flow (then_do (evaluate_or p call first s) (λ w s. loop p call objects test a step s)) ≡ resumed p call (looped_after objects first test a step s)
    looped_after_resumes objects None test a step s = looped_resumes objects test a step s
    looped_after_resumes objects (Some e) test a step s = given_then a_value a_flow (evaluate p call e s) _ (after p call (on.loops objects test a step)) (λ v s. refl)

    statement_enters : (objects : List ObjectType) (a : Statement) (s : State) →
        presented p call (on.statement objects a) s ≡ tick s (λ s. resumed p call (entered_statement p objects a s))
    statement_enters objects typed.empty s = ticked a_flow s _ _ (λ s. refl)
    statement_enters objects (typed.evaluate e) s = ticked a_flow s _ _ (λ s. given_then a_value a_flow (evaluate p call e s) _ (after p call on.forgets) (λ v s. refl))
    statement_enters objects (typed.declare n) s = ticked a_flow s _ _ (λ s. refl)
    statement_enters objects (typed.define n i) s = ticked a_flow s _ _ (λ s. defined_resumes objects (slice_get objects n) n i (renewed objects n s))
    statement_enters objects (typed.block first count all) s = ticked a_flow s _ _ (λ s. started_resumes objects all (all_renewed objects first count s))
    statement_enters objects (typed.branch e a) s = ticked a_flow s _ _ (λ s. given_then a_value a_flow (evaluate p call e s) _ (after p call (on.if_true objects a)) (λ v s. refl))
    statement_enters objects (typed.branches e a b) s = ticked a_flow s _ _ (λ s. given_then a_value a_flow (evaluate p call e s) _ (after p call (on.if_else objects a b)) (λ v s. refl))
    statement_enters objects (typed.switch t e first count all) s =
        ticked a_flow s _ _ (λ s. given_then a_value a_flow (evaluate p call e s) _ (after p call (on.switches objects t first count all))
        (λ v s. ticked a_flow s _ _ (λ s. given_inside a_flow (label_for (converted t v) (labels_of all) 0 None (all_renewed objects first count s)) _)))
    statement_enters objects (typed.case v) s = ticked a_flow s _ _ (λ s. refl)
    statement_enters objects typed.default s = ticked a_flow s _ _ (λ s. refl)
    statement_enters objects (typed.while e a) s = ticked a_flow s _ _ (λ s. looped_resumes objects (Some e) a None s)
    statement_enters objects (typed.do_while a e) s =
        ticked a_flow s _ _ (λ s. given_then a_flow a_flow (execute p call objects a s) _ (after p call (on.turn objects (Some e) a None)) (λ flow s. refl))
    statement_enters objects (typed.for declared start test step a) s =
        ticked a_flow s _ _ (λ s. given_then a_flow a_flow (execute_all p call objects declared s) _ (after p call (on.for_starts objects start test a step)) (λ flow s. refl)
        ∙ ap (λ x. then_do x (after p call (on.for_starts objects start test a step))) (started_resumes objects declared s)
        ∙ behind_resumes (on.for_starts objects start test a step) (started objects declared s))
    statement_enters objects typed.break s = ticked a_flow s _ _ (λ s. refl)
    statement_enters objects typed.continue s = ticked a_flow s _ _ (λ s. refl)
    statement_enters objects typed.return_nothing s = ticked a_flow s _ _ (λ s. refl)
    statement_enters objects (typed.return_value t e) s = ticked a_flow s _ _ (λ s. given_then a_value a_flow (evaluate p call e s) _ (after p call (on.gives_back t)) (λ v s. refl))

    -- each node takes exactly one tick
    pub node_enters : (n : Node) (s : State) → presented p call n s ≡ tick s (λ s. resumed p call (entered p n s))
    node_enters (on.place a) s = place_enters a s
    node_enters (on.value e) s = value_enters e s
    node_enters (on.statement objects a) s = statement_enters objects a s
    node_enters (on.initialiser i t lengths r) s = initialiser_enters i t lengths r s
    node_enters (on.element r v) s = tick_same_of s.clock s _ _ (λ s. refl)
    node_enters (on.ticking more what) s = tick_then_of s.clock s (ticks more) (λ u s. late p call what s) ∙ tick_same_of s.clock s _ _ (λ s. counted_resumes more what s)
    node_enters (on.switch_block objects v first count all) s = tick_same_of s.clock s _ _ (λ s. sought_resumes objects v (labels_of all) 0 None all (all_renewed objects first count s))
    node_enters (on.case_test objects v c labels n default all) s =
        tick_then_of s.clock s (λ s. choose (same_value c v) (Goes (Some n) s) (label_for v labels (suc n) default s)) (λ label s. jumped p call objects label all s)
        ∙ tick_same_of s.clock s _ _ (λ s. test_resumes objects (same_value c v) v labels n default all s)

    -- ---- frames

    place_leaves : (f : Frame) (r : Reference) (s : State) → with_place p call f r s ≡ resumed p call (left_by_place p f r s)
    place_leaves (on.indexes at index) r s = given_then a_value a_place (evaluate p call index s) _ (after p call (on.index_of at r)) (λ v s. refl)
    place_leaves (on.reads at) r s = once_resumes a_value _
    place_leaves (on.assigns at t e) r s = given_then a_value a_value (evaluate p call e s) _ (after p call (on.stores at t r)) (λ v s. refl)
    place_leaves (on.compounds at op t of read_at e) r s = given_then a_value a_value (evaluate p call e s) _ (after p call (on.combines at op t of read_at r)) (λ v s. refl)
    place_leaves (on.steps at moment op t of read_at) r s = once_resumes a_value _
    place_leaves (on.array_passed at callee used more before) r s = asked_resumes at callee used more (before ++ Referred r ∷ []) s
    place_leaves _ r s = refl

    and_leaves : (b : Bool) (e : Value) (s : State) →
        given a_value (choose b (then_do (evaluate p call e s) (λ w s. Goes (of_truth (truth w)) s)) (Goes (pos 0) s)) ≡ resumed p call (choose b (waits on.tells_truth (on.value e) s) (goes (a_value (pos 0)) s))
    and_leaves true e s = given_then a_value a_value (evaluate p call e s) _ (after p call on.tells_truth) (λ v s. refl)
    and_leaves false e s = refl

    or_leaves : (b : Bool) (e : Value) (s : State) →
        given a_value (choose b (Goes (pos 1) s) (then_do (evaluate p call e s) (λ w s. Goes (of_truth (truth w)) s))) ≡ resumed p call (choose b (goes (a_value (pos 1)) s) (waits on.tells_truth (on.value e) s))
    or_leaves true e s = refl
    or_leaves false e s = given_then a_value a_value (evaluate p call e s) _ (after p call on.tells_truth) (λ v s. refl)

    chosen_leaves : (c : Bool) (t : Option IntType) (a b : Value) (s : State) →
        given a_value (then_do (choose c (evaluate p call a s) (evaluate p call b s)) (λ w s. Goes (converted_or_none t w) s))
        ≡ resumed p call (choose c (waits (on.converts t) (on.value a) s) (waits (on.converts t) (on.value b) s))
    chosen_leaves true t a b s = given_then a_value a_value (evaluate p call a s) _ (after p call (on.converts t)) (λ v s. refl)
    chosen_leaves false t a b s = given_then a_value a_value (evaluate p call b s) _ (after p call (on.converts t)) (λ v s. refl)

    if_leaves : (c : Bool) (objects : List ObjectType) (a : Statement) (s : State) →
        given a_flow (choose c (execute p call objects a s) (Goes Normal s)) ≡ resumed p call (choose c (moves [] (enters (on.statement objects a)) s) (goes (a_flow Normal) s))
    if_leaves true objects a s = refl
    if_leaves false objects a s = refl

    else_leaves : (c : Bool) (objects : List ObjectType) (a b : Statement) (s : State) →
        given a_flow (choose c (execute p call objects a s) (execute p call objects b s))
        ≡ resumed p call (choose c (moves [] (enters (on.statement objects a)) s) (moves [] (enters (on.statement objects b)) s))
    else_leaves true objects a b s = refl
    else_leaves false objects a b s = refl

    value_leaves : (f : Frame) (v : ℤ) (s : State) → with_value p call f v s ≡ resumed p call (left_by_value p f v s)
    value_leaves (on.index_of at r) v s = once_resumes a_place _
    value_leaves (on.stores at t r) v s = once_resumes a_value _
    value_leaves (on.combines at op t of read_at r) v s = once_resumes a_value _
    value_leaves (on.signs at op t) v s = once_resumes a_value _
    value_leaves (on.right at op t b) v s = given_then a_value a_value (evaluate p call b s) _ (after p call (on.applies at op t v)) (λ w s. refl)
    value_leaves (on.applies at op t a) v s = once_resumes a_value _
    value_leaves (on.and_also b) v s = and_leaves (truth v) b s
    value_leaves (on.or_else b) v s = or_leaves (truth v) b s
    value_leaves (on.chooses t a b) v s = chosen_leaves (truth v) t a b s
    value_leaves (on.number_passed at callee used t more before) v s = asked_resumes at callee used more (before ++ Number (converted t v) ∷ []) s
    value_leaves (on.if_true objects a) v s = if_leaves (truth v) objects a s
    value_leaves (on.if_else objects a b) v s = else_leaves (truth v) objects a b s
    value_leaves (on.tests objects test a step) v s = turned_resumes objects test a step v s
    value_leaves (on.loops objects test a step) v s = looped_resumes objects test a step s
    value_leaves _ v s = refl

    back_leaves : (back : Back) (v : Option ℤ) (s : State) → goes_back p call back v s ≡ resumed p call (went_back p back v s)
    back_leaves (to_caller at used) v s = once_resumes a_value _
    back_leaves to_end v s = refl

    rest_leaves : (objects : List ObjectType) (more : Statements) (flow : Flow) (s : State) →
        given a_flow (next_after flow s (execute_all p call objects more)) ≡ resumed p call (started_after objects more flow s)
    rest_leaves objects more Normal s = started_resumes objects more s
    rest_leaves objects more Broken s = refl
    rest_leaves objects more Continued s = refl
    rest_leaves objects more (Returned v) s = refl

    turn_leaves : (objects : List ObjectType) (test : Option Value) (a : Statement) (step : Option Value) (flow : Flow) (s : State) →
        given a_flow (after_body flow s (stepped p call objects test a step)) ≡ resumed p call (turned_on objects test a step flow s)
    turn_leaves objects test a step Normal s = looped_after_resumes objects step test a step s
    turn_leaves objects test a step Continued s = looped_after_resumes objects step test a step s
    turn_leaves objects test a step Broken s = refl
    turn_leaves objects test a step (Returned v) s = refl

    flow_leaves : (f : Frame) (flow : Flow) (s : State) → with_flow p call f flow s ≡ resumed p call (left_by_flow p f flow s)
    flow_leaves (on.returns back is_main count base arrays) flow s = back_leaves back (value_left is_main flow) (back_at count base arrays (value_left is_main flow) s)
    flow_leaves (on.rest objects more) flow s = rest_leaves objects more flow s
    flow_leaves on.in_switch flow s = once_resumes a_flow _
    flow_leaves (on.turn objects test a step) flow s = turn_leaves objects test a step flow s
    flow_leaves (on.for_starts objects start test a step) flow s = looped_after_resumes objects start test a step s
    flow_leaves _ flow s = refl

    initialised_leaves : (f : Frame) (s : State) → when_initialised p call f s ≡ resumed p call (left_initialised p f s)
    initialised_leaves (on.next_part more t k i lengths r) s = listed_resumes more t (k - 1) (suc i) lengths r s
    initialised_leaves _ s = refl

    -- a frame takes none
    pub frame_leaves : (f : Frame) (x : Found) (s : State) → after p call f x s ≡ resumed p call (left p f x s)
    frame_leaves f (a_value v) s = value_leaves f v s
    frame_leaves f (a_place r) s = place_leaves f r s
    frame_leaves f (a_flow flow) s = flow_leaves f flow s
    frame_leaves f initialised s = initialised_leaves f s

    -- ---- calls

    given_apply : {A : Type 0} (f : A → Found) (x : Run A) (g : Found → State → Run Found) → then_do (given f x) g ≡ then_do x (λ a s. g (f a) s)
    given_apply f (Goes a s) g = refl
    given_apply f (Stops e s) g = refl

    body_leaves : (x : Run (Unit {0})) (objects : List ObjectType) (body : Statement) (g : Found → State → Run Found) →
        then_do (then_do x (λ u s. execute p call objects body s)) (λ flow s. g (a_flow flow) s) ≡ then_do (then_do x (λ u s. given a_flow (execute p call objects body s))) g
    body_leaves (Goes u s) objects body g = sym (given_apply a_flow (execute p call objects body s) g)
    body_leaves (Stops e s) objects body g = refl

    call_enters : (back : Back) (o : Option Function) (f : ℕ) (passed : List Passed) (s : State) →
        then_do (call_defined p call o f passed s) (goes_back p call back) ≡ resumed p call (entered_call p back o f passed s)
    call_enters back None f passed s = back_leaves back None s
    call_enters back (Some g) f passed s =
        then_then (body_of p call g (enter f g passed s)) (λ flow s2. Goes (value_left (nat_eq f p.main) flow) (leave s (value_left (nat_eq f p.main) flow) s2)) (goes_back p call back)
        ∙ body_leaves (ticks (suc (length g.type.parameters)) (enter f g passed s)) g.objects g.body (after p call (on.returns back (nat_eq f p.main) (length s.store) s.base s.arrays))

    pub call_acts : (at : Pos) (callee : Callee) (used : Bool) (passed : List Passed) (s : State) →
        present p call (calls at callee used passed) s ≡ resumed p call (called p at callee used passed s)
    call_acts at (typed.function f) used passed s =
        given_inside a_value (call f passed s) (λ v s. call_value used at v s)
        ∙ ap (λ x. then_do x (goes_back p call (to_caller at used))) (real.begins f passed s)
        ∙ call_enters (to_caller at used) (slice_get p.functions f) f passed s
    call_acts at typed.get_byte used passed s = once_resumes a_value _
    call_acts at typed.put_byte used passed s = refl
    call_acts at typed.exit used passed s = refl
    call_acts at (typed.missing name) used passed s = refl

-- the run of a program, as the call of main whose end is the end of the run
pub run_begins : (p : Program) → Real p (call_in p) → (n : ℕ) (input : List ℕ) →
    given (λ v. a_flow (Returned v)) (cstep n p input) ≡ resumed p (call_in p) (entered_call p to_end (slice_get p.functions p.main) p.main [] (start n p input))
run_begins p real n input =
    given_inside (λ v. a_flow (Returned v)) (calling p (suc n) p.main [] (start n p input)) end_with
    ∙ ap (λ x. then_do x (goes_back p (call_in p) to_end)) (real.begins p.main [] (start n p input))
    ∙ call_enters p (call_in p) real to_end (slice_get p.functions p.main) p.main [] (start n p input)

-- the frames outside wait for those inside
pub resume_more : (p : Program) (call : Calling) (fs gs : List Frame) (r : Run Found) → resume p call (fs ++ gs) r ≡ resume p call fs (resume p call gs r)
resume_more p call [] gs r = refl
resume_more p call (f ∷ fs) gs r = ap (λ r. then_do r (after p call f)) (resume_more p call fs gs r)
