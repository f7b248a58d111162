-- The code follows each statement.
use Rattle.std.proofs.Common.{◌≡◌, ℕ, zero, suc, ◌+◌, ◌*◌, ◌≤◌, List, [], Option, Some, None, Bool, true, false, ◌&&◌, refl, sym, subst, arith}
use Rattle.std.specs.Prelude.{nat_le, nat_lt, ◌-◌, length, slice_get}
use Rattle.std.specs.List.{list_all}
use Rattle.typing_spec.specs.Types.{ObjectType, same_result}
use Rattle.typing_spec.specs.Program as typed
use Rattle.typing_spec.specs.Program.{Function, Initialiser, Statement, Statements, Value as Expression}
use Rattle.typing_spec.specs.Nodes.{type_of_value}
use Rattle.typing_spec.specs.WellTyped.{some_number, value_is_typed, number_is_typed, option_is_typed, test_is_typed, definition_is_typed, statement_is_typed, statements_are_typed}
use Rattle.csem.specs.Store.{whole}
use Rattle.csem.specs.Machine as machine
use Rattle.csem.specs.Machine.{Run, Goes, Stops, then_do, choose, tick, tick_of}
use Rattle.csem.specs.Expressions.{Calling, evaluate, evaluate_or}
use Rattle.csem.specs.Statements.{Flow, Normal, Broken, Continued, Returned, renewed, next_after, initialise, define_object, labels_at, labels_of, execute, execute_all, execute_from}
use Rattle.tac_code.specs.declared.code.Target.TheVariants as target
use Rattle.tac_code.specs.declared.code.Instruction.TheVariants as instruction
use Rattle.tac_code.specs.Code.{Program, function_at}
use Rattle.tac_code.specs.Run.{Call, State}
use Rattle.lower_wf.specs.Asked.{is_wide, value_is_asked, number_is_asked, option_is_asked, test_is_asked, all_declare, declares, label_fits, statement_is_asked, statements_are_asked}
use Rattle.lower_correct.specs.Values.{extent, rests_in, constant_of, keeps, waits_in, operand_of, Nowhere, If, mode_of}
use Rattle.lower_correct.specs.Places.{size_of_place}
use Rattle.lower_correct.specs.Code.{One, Converts, Into}
use Rattle.lower_correct.specs.Bodies.{is_within, has_objects, Initialises, Effects, Repeats, Stands, StandAll, StandAt}
use Rattle.lower_correct.proofs.Words.{left_true, right_true, differ}
use Rattle.lower_correct.proofs.Steps.{Sim}
use Rattle.lower_correct.proofs.Standing.{here, IsCode}
use Rattle.lower_correct.proofs.Goods.{mode_free, mode_suits}
use Rattle.lower_correct.proofs.Leaves.{IntoDoes, converts_does}
use Rattle.lower_correct.proofs.Passing.{CallsDo}
use Rattle.lower_correct.proofs.Typing.{same_result_is}
use Rattle.lower_correct.proofs.Expressions.{into_does}
use Rattle.lower_correct.proofs.Flows.{StandsAt, FlowGood, Runs, nothing_runs, break_runs, continue_runs, return_nothing_runs, return_value_runs, evaluate_runs, both_run, no_list, Lists}
use Rattle.lower_correct.proofs.Blocks.{block_runs, declare_runs, branch_runs, branches_runs}
use Rattle.lower_correct.proofs.Initialising.{AreSized, sized, does_at, define_at}
use Rattle.lower_correct.proofs.Loops.{TestDoes, EffectDoes, test_does, no_test, effect_does, no_effect, while_runs, do_runs, for_runs}
use Rattle.lower_correct.proofs.Switches.{IsPlace, place_first, place_later, switch_runs}

-- ---- declarations go on (6.8.5.3)

abbrev OnlyNormal : Run Flow → Type 0
OnlyNormal (Goes Normal s) = Unit {0}
OnlyNormal (Goes Broken s) = ⊥
OnlyNormal (Goes Continued s) = ⊥
OnlyNormal (Goes (Returned v) s) = ⊥
OnlyNormal (Stops e s) = Unit {0}

normal_then : {A : Type 0} (r : Run A) → OnlyNormal (then_do r (λ u s. Goes Normal s))
normal_then (Goes a s) = tt
normal_then (Stops e s) = tt

normal_tick : (n : ℕ) (s : machine.State) (go : machine.State → Run Flow) → ((s : machine.State) → OnlyNormal (go s)) → OnlyNormal (tick_of n s go)
normal_tick zero s go h = tt
normal_tick (suc n) s go h = h (record s { clock = n })

normal_next : (r : Run Flow) (go : machine.State → Run Flow) → OnlyNormal r → ((s : machine.State) → OnlyNormal (go s))
    → OnlyNormal (then_do r (λ flow s. next_after flow s go))
normal_next (Goes Normal s) go h g = g s
normal_next (Goes Broken s) go h g = absurd h
normal_next (Goes Continued s) go h g = absurd h
normal_next (Goes (Returned v) s) go h g = absurd h
normal_next (Stops e s) go h g = tt

module _ (p : typed.Program) (call : Calling) (objects : List ObjectType) where
  defined_normal : (o : Option ObjectType) (n : ℕ) (i : Initialiser) (s : machine.State) → OnlyNormal (define_object p call objects o n i s)
  defined_normal None n i s = tt
  defined_normal (Some t) n i s = normal_then (initialise p call i t.element t.lengths (whole (s.base + n)) s)

  declared_normal : (x : Statement) (s : machine.State) → declares x ≡ true → OnlyNormal (execute p call objects x s)
  declared_normal (typed.declare n) s h = normal_tick s.clock s (λ s. Goes Normal (renewed objects n s)) (λ s. tt)
  declared_normal (typed.define n i) s h =
      normal_tick s.clock s (λ s. define_object p call objects (slice_get objects n) n i (renewed objects n s))
      (λ s. defined_normal (slice_get objects n) n i (renewed objects n s))
  declared_normal typed.empty s h = absurd (differ h)
  declared_normal (typed.evaluate e) s h = absurd (differ h)
  declared_normal (typed.block a b c) s h = absurd (differ h)
  declared_normal (typed.branch e a) s h = absurd (differ h)
  declared_normal (typed.branches e a b) s h = absurd (differ h)
  declared_normal (typed.switch t e a b c) s h = absurd (differ h)
  declared_normal (typed.case v) s h = absurd (differ h)
  declared_normal typed.default s h = absurd (differ h)
  declared_normal (typed.while e a) s h = absurd (differ h)
  declared_normal (typed.do_while a e) s h = absurd (differ h)
  declared_normal (typed.for a b c d e) s h = absurd (differ h)
  declared_normal typed.break s h = absurd (differ h)
  declared_normal typed.continue s h = absurd (differ h)
  declared_normal typed.return_nothing s h = absurd (differ h)
  declared_normal (typed.return_value t e) s h = absurd (differ h)

  pub all_normal : (all : Statements) (s : machine.State) → all_declare all ≡ true → OnlyNormal (execute_all p call objects all s)
  all_normal typed.no_statements s h = tt
  all_normal (typed.and_statement x more) s h =
      normal_next (execute p call objects x s) (execute_all p call objects more) (declared_normal x s (left_true (declares x) (all_declare more) h))
      (λ s2. all_normal more s2 (right_true (declares x) (all_declare more) h))

module _ (p : typed.Program) (tf : Function) (call : Calling) (q : Program) (deep f : ℕ) (same : IsCode p tf q f)
    (ok : CallsDo p call q deep f) (room : AreSized tf) (back last : ℕ)
    (leaves : One (function_at q f).code instruction.Return back last) where
  jumps_at : (e : Expression) (sense : Bool) (to pc pc2 : ℕ) → number_is_typed p tf e ≡ true → number_is_asked e ≡ true
      → Into (function_at q f).code (size_of_place p tf) e (If sense to) 0 0 pc pc2 → IntoDoes p call q deep f e (If sense to) 0 0 pc pc2
  jumps_at e sense to pc pc2 ht ha i = does_at p tf call q deep f same ok e 0 0 (left_true (value_is_typed p tf e) (some_number (type_of_value e)) ht) ha (If sense to) pc pc2 tt tt
      (sized p tf call q deep f same ok (λ size. Into (function_at q f).code size e (If sense to) 0 0 pc pc2) i)

  nowhere_at : (e : Expression) (pc pc2 : ℕ) → value_is_typed p tf e ≡ true → value_is_asked e ≡ true → Into (function_at q f).code (size_of_place p tf) e Nowhere 0 0 pc pc2
      → IntoDoes p call q deep f e Nowhere 0 0 pc pc2
  nowhere_at e pc pc2 ht ha i =
      into_does p tf call q deep f same ok e Nowhere 0 0 pc pc2 ht ha tt tt tt
      (sized p tf call q deep f same ok (λ size. Into (function_at q f).code size e Nowhere 0 0 pc pc2) i)

  -- ---- parts of loops

  effect_at : (e : Option Expression) (pc pc2 : ℕ) → option_is_typed p tf e ≡ true → option_is_asked e ≡ true → Effects (function_at q f).code p tf e pc pc2
      → EffectDoes p call q deep f tf.type.result (evaluate_or p call e) pc pc2
  effect_at None pc pc2 ht ha i = no_effect p call q deep f tf.type.result pc pc2 i
  effect_at (Some e) pc pc2 ht ha i = effect_does p call q deep f tf.type.result e pc pc2 (nowhere_at e pc pc2 ht ha i)

  test_at : (e : Option Expression) (top pc pc2 : ℕ) → test_is_typed p tf e ≡ true → test_is_asked e ≡ true → Repeats (function_at q f).code p tf e top pc pc2
      → TestDoes p call q deep f tf.type.result (evaluate_or p call e) pc top pc2
  test_at None top pc pc2 ht ha i = no_test p call q deep f tf.type.result pc top pc2 i
  test_at (Some e) top pc pc2 ht ha i = test_does p call q deep f tf.type.result e pc top pc2 (jumps_at e true top pc pc2 ht ha i)

  sim_normal : (end out again hi lo : ℕ) (before : machine.State) (ws : List Call) (z : State) (r : Run Flow) → OnlyNormal r
      → Sim q 14 hi lo z (FlowGood p call q deep f tf.type.result end out again before ws) r
      → Sim q 14 hi lo z (λ flow. StandsAt p call q deep f tf.type.result end before ws) r
  sim_normal end out again hi lo before ws z (Goes Normal s) h l = l
  sim_normal end out again hi lo before ws z (Goes Broken s) h l = absurd h
  sim_normal end out again hi lo before ws z (Goes Continued s) h l = absurd h
  sim_normal end out again hi lo before ws z (Goes (Returned v) s) h l = absurd h
  sim_normal end out again hi lo before ws z (Stops machine.TicksUsed s) h l = l
  sim_normal end out again hi lo before ws z (Stops (machine.Ended status) s) h l = l
  sim_normal end out again hi lo before ws z (Stops (machine.Undefined act at) s) h l = l

  nothing_there : (places : List ℕ) (n to : ℕ) → places ≡ [] → slice_get places n ≡ Some to → ⊥
  nothing_there places n to e h = let g : slice_get [] n ≡ Some to = subst (λ l. slice_get l n ≡ Some to) e h in no_item n to g
    where
      no_item : (n to : ℕ) → slice_get [] n ≡ Some to → ⊥
      no_item n to g = cc

  chosen_lists : (b : Bool) (r1 r2 : machine.State → Run Flow) (to pc2 out again : ℕ) → (b ≡ true → Lists p call q deep f tf.type.result r1 to pc2 out again)
      → (b ≡ false → Lists p call q deep f tf.type.result r2 to pc2 out again)
      → Lists p call q deep f tf.type.result (λ s. choose b (r1 s) (r2 s)) to pc2 out again
  chosen_lists true r1 r2 to pc2 out again h g = h refl
  chosen_lists false r1 r2 to pc2 out again h g = g refl

  mutual
    pub statement_runs : (a : Statement) (lo hi out again pc pc2 : ℕ) → statement_is_typed p tf lo hi a ≡ true → statement_is_asked a ≡ true
        → Stands (function_at q f).code p tf a out again back pc pc2
        → Runs p call q deep f tf.type.result (execute p call (function_at q f).objects a) pc pc2 out again
    statement_runs typed.empty lo hi out again pc pc2 ht ha h = nothing_runs p call q deep f tf.type.result pc pc2 out again h
    statement_runs (typed.evaluate e) lo hi out again pc pc2 ht ha h =
        evaluate_runs p call q deep f tf.type.result e pc h.0 pc2 out again h.1 (nowhere_at e h.0 pc2 ht ha h.2)
    statement_runs (typed.declare n) lo hi out again pc pc2 ht ha h = declare_runs p call q deep f tf.type.result n pc pc2 out again h
    statement_runs (typed.define n i) lo hi out again pc pc2 ht ha h =
        define_at p tf call q deep f same ok room (slice_get (function_at q f).objects n) n i out again pc h.0 pc2 refl
        (subst (λ l. definition_is_typed p tf (slice_get l n) i ≡ true) (sym same.objects)
        (right_true (nat_lt n hi) (definition_is_typed p tf (slice_get tf.objects n) i)
        (right_true (nat_le lo n) (nat_lt n hi && definition_is_typed p tf (slice_get tf.objects n) i) ht))) ha h.1
        (subst (λ l. Initialises (function_at q f).code p tf (slice_get l n) i n h.0 pc2) (sym same.objects) h.2)
    statement_runs (typed.block first count all) lo hi out again pc pc2 ht ha h =
        block_runs p call q deep f tf.type.result (execute_all p call (function_at q f).objects all) first count pc h.0 pc2 out again h.1
        (all_run all first (first + count) out again h.0 pc2
        (right_true (nat_le (first + count) hi) (statements_are_typed p tf first (first + count) all)
        (right_true (nat_le lo first) (nat_le (first + count) hi && statements_are_typed p tf first (first + count) all) ht)) ha h.2)
    statement_runs (typed.branch e a) lo hi out again pc pc2 ht ha h =
        branch_runs p call q deep f tf.type.result e (execute p call (function_at q f).objects a) pc h.0 h.1 pc2 out again h.2
        (jumps_at e false pc2 h.0 h.1 (left_true (number_is_typed p tf e) (statement_is_typed p tf lo hi a) ht)
        (left_true (number_is_asked e) (statement_is_asked a) ha) h.3)
        (statement_runs a lo hi out again h.1 pc2 (right_true (number_is_typed p tf e) (statement_is_typed p tf lo hi a) ht)
        (right_true (number_is_asked e) (statement_is_asked a) ha) h.4)
    statement_runs (typed.branches e a b) lo hi out again pc pc2 ht ha h =
        branches_runs p call q deep f tf.type.result e (execute p call (function_at q f).objects a) (execute p call (function_at q f).objects b) pc h.0
        h.1 h.2 h.3 pc2 out again h.4 (jumps_at e false h.3 h.0 h.1
        (left_true (number_is_typed p tf e) (statement_is_typed p tf lo hi a && statement_is_typed p tf lo hi b) ht)
        (left_true (number_is_asked e) (statement_is_asked a && statement_is_asked b) ha) h.5)
        (statement_runs a lo hi out again h.1 h.2
        (left_true (statement_is_typed p tf lo hi a) (statement_is_typed p tf lo hi b)
        (right_true (number_is_typed p tf e) (statement_is_typed p tf lo hi a && statement_is_typed p tf lo hi b) ht))
        (left_true (statement_is_asked a) (statement_is_asked b) (right_true (number_is_asked e) (statement_is_asked a && statement_is_asked b) ha))
        h.6) h.7
        (statement_runs b lo hi out again h.3 pc2
        (right_true (statement_is_typed p tf lo hi a) (statement_is_typed p tf lo hi b)
        (right_true (number_is_typed p tf e) (statement_is_typed p tf lo hi a && statement_is_typed p tf lo hi b) ht))
        (right_true (statement_is_asked a) (statement_is_asked b)
        (right_true (number_is_asked e) (statement_is_asked a && statement_is_asked b) ha)) h.8)
    statement_runs (typed.switch u e first count all) lo hi out again pc pc2 ht ha h =
        switch_runs p call q deep f tf.type.result u e first count (labels_of all) h.4
        (λ label. execute_from p call (function_at q f).objects label all) pc h.0 h.1 h.2 h.3 pc2 out again
        (left_true (is_wide u) (list_all (label_fits u) (labels_of all) && (number_is_asked e && statements_are_asked all)) ha)
        (left_true (list_all (label_fits u) (labels_of all)) (number_is_asked e && statements_are_asked all)
        (right_true (is_wide u) (list_all (label_fits u) (labels_of all) && (number_is_asked e && statements_are_asked all)) ha)) h.5
        (does_at p tf call q deep f same ok e 0 0 (left_true (value_is_typed p tf e) (some_number (type_of_value e))
        (left_true (number_is_typed p tf e) (nat_le lo first && (nat_le (first + count) hi && statements_are_typed p tf first (first + count) all)) ht))
        (left_true (number_is_asked e) (statements_are_asked all)
        (right_true (list_all (label_fits u) (labels_of all)) (number_is_asked e && statements_are_asked all)
        (right_true (is_wide u) (list_all (label_fits u) (labels_of all) && (number_is_asked e && statements_are_asked all)) ha)))
        (mode_of (waits_in e (is_within first count) (has_objects count) 0 0)) h.0 h.1
        (mode_free p q f (constant_of e) (rests_in e) (is_within first count) (has_objects count) 0 0)
        (mode_suits p q f (constant_of e) (rests_in e) (is_within first count) (has_objects count) 0 0 (extent e))
        (sized p tf call q deep f same ok
        (λ size. Into (function_at q f).code size e (mode_of (waits_in e (is_within first count) (has_objects count) 0 0)) 0 0 h.0 h.1) h.6)) h.7 h.8
        (λ label to place. from_runs all first (first + count) h.4 label pc2 again h.3 to pc2
        (right_true (nat_le (first + count) hi) (statements_are_typed p tf first (first + count) all)
        (right_true (nat_le lo first) (nat_le (first + count) hi && statements_are_typed p tf first (first + count) all)
        (right_true (number_is_typed p tf e) (nat_le lo first && (nat_le (first + count) hi && statements_are_typed p tf first (first + count) all))
        ht))) (right_true (number_is_asked e) (statements_are_asked all)
        (right_true (list_all (label_fits u) (labels_of all)) (number_is_asked e && statements_are_asked all)
        (right_true (is_wide u) (list_all (label_fits u) (labels_of all) && (number_is_asked e && statements_are_asked all)) ha))) h.9
        place)
    statement_runs (typed.case v) lo hi out again pc pc2 ht ha h = nothing_runs p call q deep f tf.type.result pc pc2 out again h
    statement_runs typed.default lo hi out again pc pc2 ht ha h = nothing_runs p call q deep f tf.type.result pc pc2 out again h
    statement_runs (typed.while e a) lo hi out again pc pc2 ht ha h =
        while_runs p call q deep f tf.type.result (evaluate p call e) (evaluate_or p call None) (execute p call (function_at q f).objects a) h.0 h.1 h.1 pc2 out
        again
        (test_does p call q deep f tf.type.result e h.1 h.0 pc2
        (jumps_at e true h.0 h.1 pc2 (left_true (number_is_typed p tf e) (statement_is_typed p tf lo hi a) ht)
        (left_true (number_is_asked e) (statement_is_asked a) ha) h.4))
        (statement_runs a lo hi pc2 h.1 h.0 h.1 (right_true (number_is_typed p tf e) (statement_is_typed p tf lo hi a) ht)
        (right_true (number_is_asked e) (statement_is_asked a) ha) h.3) (no_effect p call q deep f tf.type.result h.1 h.1 refl) pc h.2
    statement_runs (typed.do_while a e) lo hi out again pc pc2 ht ha h =
        do_runs p call q deep f tf.type.result (evaluate p call e) (evaluate_or p call None) (execute p call (function_at q f).objects a) h.0 h.1 h.1 pc2 out
        again
        (test_does p call q deep f tf.type.result e h.1 h.0 pc2
        (jumps_at e true h.0 h.1 pc2 (right_true (statement_is_typed p tf lo hi a) (number_is_typed p tf e) ht)
        (right_true (statement_is_asked a) (number_is_asked e) ha) h.4))
        (statement_runs a lo hi pc2 h.1 h.0 h.1 (left_true (statement_is_typed p tf lo hi a) (number_is_typed p tf e) ht)
        (left_true (statement_is_asked a) (number_is_asked e) ha) h.3) (no_effect p call q deep f tf.type.result h.1 h.1 refl) pc h.2
    statement_runs (typed.for declared start test step a) lo hi out again pc pc2 ht ha h =
        for_runs p call q deep f tf.type.result (evaluate_or p call test) (evaluate_or p call step) (execute p call (function_at q f).objects a) h.3 h.4 h.5 pc2
        out again
        (test_at test h.3 h.5 pc2 (left_true (test_is_typed p tf test) (option_is_typed p tf step && statement_is_typed p tf lo hi a)
        (right_true (option_is_typed p tf start) (test_is_typed p tf test && (option_is_typed p tf step && statement_is_typed p tf lo hi a))
        (right_true (statements_are_typed p tf lo hi declared)
        (option_is_typed p tf start && (test_is_typed p tf test && (option_is_typed p tf step && statement_is_typed p tf lo hi a))) ht)))
        (left_true (test_is_asked test) (option_is_asked step && statement_is_asked a)
        (right_true (option_is_asked start) (test_is_asked test && (option_is_asked step && statement_is_asked a))
        (right_true (statements_are_asked declared)
        (option_is_asked start && (test_is_asked test && (option_is_asked step && statement_is_asked a)))
        (right_true (all_declare declared) (statements_are_asked declared &&
        (option_is_asked start && (test_is_asked test && (option_is_asked step && statement_is_asked a)))) ha)))) h.12)
        (statement_runs a lo hi pc2 h.4 h.3 h.4 (right_true (option_is_typed p tf step) (statement_is_typed p tf lo hi a)
        (right_true (test_is_typed p tf test) (option_is_typed p tf step && statement_is_typed p tf lo hi a)
        (right_true (option_is_typed p tf start) (test_is_typed p tf test && (option_is_typed p tf step && statement_is_typed p tf lo hi a))
        (right_true (statements_are_typed p tf lo hi declared)
        (option_is_typed p tf start && (test_is_typed p tf test && (option_is_typed p tf step && statement_is_typed p tf lo hi a))) ht))))
        (right_true (option_is_asked step) (statement_is_asked a)
        (right_true (test_is_asked test) (option_is_asked step && statement_is_asked a)
        (right_true (option_is_asked start) (test_is_asked test && (option_is_asked step && statement_is_asked a))
        (right_true (statements_are_asked declared)
        (option_is_asked start && (test_is_asked test && (option_is_asked step && statement_is_asked a)))
        (right_true (all_declare declared) (statements_are_asked declared &&
        (option_is_asked start && (test_is_asked test && (option_is_asked step && statement_is_asked a)))) ha)))))
        h.10)
        (effect_at step h.4 h.5 (left_true (option_is_typed p tf step) (statement_is_typed p tf lo hi a)
        (right_true (test_is_typed p tf test) (option_is_typed p tf step && statement_is_typed p tf lo hi a)
        (right_true (option_is_typed p tf start) (test_is_typed p tf test && (option_is_typed p tf step && statement_is_typed p tf lo hi a))
        (right_true (statements_are_typed p tf lo hi declared)
        (option_is_typed p tf start && (test_is_typed p tf test && (option_is_typed p tf step && statement_is_typed p tf lo hi a))) ht))))
        (left_true (option_is_asked step) (statement_is_asked a)
        (right_true (test_is_asked test) (option_is_asked step && statement_is_asked a)
        (right_true (option_is_asked start) (test_is_asked test && (option_is_asked step && statement_is_asked a))
        (right_true (statements_are_asked declared)
        (option_is_asked start && (test_is_asked test && (option_is_asked step && statement_is_asked a)))
        (right_true (all_declare declared) (statements_are_asked declared &&
        (option_is_asked start && (test_is_asked test && (option_is_asked step && statement_is_asked a)))) ha)))))
        h.11)
        (execute_all p call (function_at q f).objects declared) (evaluate_or p call start) pc h.0 h.1 h.2 h.6
        (λ s now ws le fine. sim_normal h.1 pc2 pc2 (60 * s.clock + 14) s.clock s ws (here f h.0 now ws s)
        (execute_all p call (function_at q f).objects declared s)
        (all_normal p call (function_at q f).objects declared s
        (left_true (all_declare declared) (statements_are_asked declared &&
        (option_is_asked start && (test_is_asked test && (option_is_asked step && statement_is_asked a)))) ha))
        (all_run declared lo hi pc2 pc2 h.0 h.1 (left_true (statements_are_typed p tf lo hi declared)
        (option_is_typed p tf start && (test_is_typed p tf test && (option_is_typed p tf step && statement_is_typed p tf lo hi a))) ht)
        (left_true (statements_are_asked declared) (option_is_asked start && (test_is_asked test && (option_is_asked step && statement_is_asked a)))
        (right_true (all_declare declared) (statements_are_asked declared &&
        (option_is_asked start && (test_is_asked test && (option_is_asked step && statement_is_asked a)))) ha)) h.7 s now ws le fine))
        (effect_at start h.1 h.2 (left_true (option_is_typed p tf start)
        (test_is_typed p tf test && (option_is_typed p tf step && statement_is_typed p tf lo hi a))
        (right_true (statements_are_typed p tf lo hi declared)
        (option_is_typed p tf start && (test_is_typed p tf test && (option_is_typed p tf step && statement_is_typed p tf lo hi a))) ht))
        (left_true (option_is_asked start) (test_is_asked test && (option_is_asked step && statement_is_asked a))
        (right_true (statements_are_asked declared)
        (option_is_asked start && (test_is_asked test && (option_is_asked step && statement_is_asked a)))
        (right_true (all_declare declared) (statements_are_asked declared &&
        (option_is_asked start && (test_is_asked test && (option_is_asked step && statement_is_asked a)))) ha))) h.8) h.9
    statement_runs typed.break lo hi out again pc pc2 ht ha h = break_runs p call q deep f tf.type.result pc pc2 out again h
    statement_runs typed.continue lo hi out again pc pc2 ht ha h = continue_runs p call q deep f tf.type.result pc pc2 out again h
    statement_runs typed.return_nothing lo hi out again pc pc2 ht ha h =
        return_nothing_runs p call q deep f tf.type.result back last pc h.0 pc2 out again (same_result_is tf.type.result None ht) leaves h.1 h.2
    statement_runs (typed.return_value u e) lo hi out again pc pc2 ht ha h =
        return_value_runs p call q deep f tf.type.result u e back last pc h.0 h.1 pc2 out again
        (same_result_is tf.type.result (Some u) (left_true (same_result tf.type.result (Some u)) (number_is_typed p tf e) ht)) leaves h.2
        (converts_does p call q deep f (keeps u e) e u (target.Temporary 0) 0 0 h.0 h.1 refl tt (let l : 0 ≤ 0 = omega arith in l)
        (does_at p tf call q deep f same ok e 0 0 (left_true (value_is_typed p tf e) (some_number (type_of_value e))
        (right_true (same_result tf.type.result (Some u)) (number_is_typed p tf e) ht)) ha)
        (sized p tf call q deep f same ok (λ size. Converts (function_at q f).code (keeps u e) (λ m a z. Into (function_at q f).code size e m 0 0 a z) u
        (operand_of e 0 0) (target.Temporary 0) h.0 h.1) h.3)) h.4

    pub all_run : (all : Statements) (lo hi out again pc pc2 : ℕ) → statements_are_typed p tf lo hi all ≡ true → statements_are_asked all ≡ true
        → StandAll (function_at q f).code p tf all out again back pc pc2
        → Lists p call q deep f tf.type.result (execute_all p call (function_at q f).objects all) pc pc2 out again
    all_run typed.no_statements lo hi out again pc pc2 ht ha h = no_list p call q deep f tf.type.result pc pc2 out again h
    all_run (typed.and_statement a more) lo hi out again pc pc2 ht ha h =
        both_run p call q deep f tf.type.result (execute p call (function_at q f).objects a) (execute_all p call (function_at q f).objects more) pc h.0 pc2 out
        again
        (statement_runs a lo hi out again pc h.0 (left_true (statement_is_typed p tf lo hi a) (statements_are_typed p tf lo hi more) ht)
        (left_true (statement_is_asked a) (statements_are_asked more) ha) h.1)
        (all_run more lo hi out again h.0 pc2 (right_true (statement_is_typed p tf lo hi a) (statements_are_typed p tf lo hi more) ht)
        (right_true (statement_is_asked a) (statements_are_asked more) ha) h.2)

    at_runs : (all : Statements) (lo hi : ℕ) (places : List ℕ) (out again pc pc2 : ℕ) → statements_are_typed p tf lo hi all ≡ true
        → statements_are_asked all ≡ true → StandAt (function_at q f).code p tf all places out again back pc pc2
        → Lists p call q deep f tf.type.result (execute_all p call (function_at q f).objects all) pc pc2 out again
    at_runs typed.no_statements lo hi places out again pc pc2 ht ha h = no_list p call q deep f tf.type.result pc pc2 out again h.1
    at_runs (typed.and_statement a more) lo hi places out again pc pc2 ht ha h =
        both_run p call q deep f tf.type.result (execute p call (function_at q f).objects a) (execute_all p call (function_at q f).objects more) pc h.0 pc2 out
        again
        (statement_runs a lo hi out again pc h.0 (left_true (statement_is_typed p tf lo hi a) (statements_are_typed p tf lo hi more) ht)
        (left_true (statement_is_asked a) (statements_are_asked more) ha) h.3)
        (at_runs more lo hi h.1 out again h.0 pc2 (right_true (statement_is_typed p tf lo hi a) (statements_are_typed p tf lo hi more) ht)
        (right_true (statement_is_asked a) (statements_are_asked more) ha) h.4)

    -- from a label on
    from_runs : (all : Statements) (lo hi : ℕ) (places : List ℕ) (label : Option ℕ) (out again pc to pc2 : ℕ) → statements_are_typed p tf lo hi all ≡ true
        → statements_are_asked all ≡ true
        → StandAt (function_at q f).code p tf all places out again back pc pc2 → IsPlace places pc2 label to
        → Lists p call q deep f tf.type.result (execute_from p call (function_at q f).objects label all) to pc2 out again
    from_runs typed.no_statements lo hi places None out again pc to pc2 ht ha h place = no_list p call q deep f tf.type.result to pc2 out again place
    from_runs typed.no_statements lo hi places (Some n) out again pc to pc2 ht ha h place = absurd (let z : ⊥ = nothing_there places n to h.0 place in z)
    from_runs (typed.and_statement a more) lo hi places None out again pc to pc2 ht ha h place = no_list p call q deep f tf.type.result to pc2 out again place
    from_runs (typed.and_statement a more) lo hi places (Some n) out again pc to pc2 ht ha h place =
        chosen_lists (nat_lt n (length (labels_at a)))
        (λ s. then_do (execute p call (function_at q f).objects a s) (λ flow s. next_after flow s (execute_all p call (function_at q f).objects more)))
        (execute_from p call (function_at q f).objects (Some (n - length (labels_at a))) more) to pc2 out again
        (λ e. subst (λ m. Lists p call q deep f tf.type.result
        (λ s. then_do (execute p call (function_at q f).objects a s) (λ flow s. next_after flow s (execute_all p call (function_at q f).objects more))) m
        pc2 out again)
        (sym (place_first (labels_at a) h.1 pc n to e (subst (λ l. slice_get l n ≡ Some to) h.2 place)))
        (both_run p call q deep f tf.type.result (execute p call (function_at q f).objects a) (execute_all p call (function_at q f).objects more) pc h.0 pc2 out
        again
        (statement_runs a lo hi out again pc h.0 (left_true (statement_is_typed p tf lo hi a) (statements_are_typed p tf lo hi more) ht)
        (left_true (statement_is_asked a) (statements_are_asked more) ha) h.3)
        (at_runs more lo hi h.1 out again h.0 pc2 (right_true (statement_is_typed p tf lo hi a) (statements_are_typed p tf lo hi more) ht)
        (right_true (statement_is_asked a) (statements_are_asked more) ha) h.4)))
        (λ e. from_runs more lo hi h.1 (Some (n - length (labels_at a))) out again h.0 to pc2
        (right_true (statement_is_typed p tf lo hi a) (statements_are_typed p tf lo hi more) ht)
        (right_true (statement_is_asked a) (statements_are_asked more) ha) h.4
        (place_later (labels_at a) h.1 pc n to e (subst (λ l. slice_get l n ≡ Some to) h.2 place)))
