-- The code of a statement keeps within its nodes' room, and is fine.
use Rattle.std.proofs.Common.{◌≡◌, ℕ, zero, suc, ◌+◌, ◌*◌, ◌≤◌, max, List, ◌++◌, length, Some, Bool, true, false, ◌&&◌, inl, inr, refl, sym, subst, arith}
use Rattle.std.specs.Prelude.{nat_le, nat_lt, slice_get}
use Rattle.typing_spec.specs.Types.{same_result}
use Rattle.typing_spec.specs.Program as typed
use Rattle.typing_spec.specs.Program.{Value, Statement, Statements}
use Rattle.typing_spec.specs.Nodes.{type_of_value, value_nodes, option_nodes, initialiser_nodes, statement_nodes, statements_nodes}
use Rattle.typing_spec.specs.WellTyped.{some_number, value_is_typed, definition_is_typed, option_is_typed, test_is_typed, statement_is_typed, statements_are_typed}
use Rattle.csem.specs.Statements.{labels_at, labels_of}
use Rattle.tac_code.specs.Designated.{in_value, in_option, in_statement, in_statements}
use Rattle.tac_code.specs.Spans.{widest, widest_of}
use Rattle.tac_code.specs.declared.code.Target.TheVariants as target
use Rattle.tac_code.specs.declared.code.Instruction.TheVariants as instruction
use Rattle.lower_correct.specs.Values.{waits_in, Nowhere, If, mode_of}
use Rattle.lower_correct.specs.Code.{One}
use Rattle.lower_correct.specs.Bodies.{is_within, has_objects, forgets, Leaves, Stands, StandAll, StandAt}
use Rattle.lower_correct.proofs.Words.{left_true, right_true}
use Rattle.lower_bounds.proofs.Grounds.{Ground}
use Rattle.lower_bounds.proofs.Stretches.{Within, one, none, join, settle, aimed}
use Rattle.lower_bounds.proofs.Operands.{operand_fine, mode_lands, mode_aims, waits, rests_fine}
use Rattle.lower_bounds.proofs.Expressions.{free}
use Rattle.lower_bounds.proofs.Parts.{on, next_le, same_le, le_holds, lt_holds, one_object, left_wide, right_wide, evaluate_room, define_room, block_room, branch_room, branches_room, switch_room, while_room, do_room, for_room, return_room, less_room, labels_room, length_both, Leads, Inside, inside_labels, whole, effect_within, gives_within, nothing, effects_within, repeats_within, tests_within}
use Rattle.lower_bounds.proofs.Initialisers.{defined_within}

module _ (z : Ground) where
  abbrev V : Value → Bool
  V e = value_is_typed z.source z.function e

  abbrev N : Value → Bool
  N e = some_number (type_of_value e)

  abbrev T : ℕ → ℕ → Statement → Bool
  T lo hi x = statement_is_typed z.source z.function lo hi x

  abbrev All : ℕ → ℕ → Statements → Bool
  All lo hi all = statements_are_typed z.source z.function lo hi all

  abbrev E : Value → Bool
  E e = in_value z.source e

  abbrev S : Statement → Bool
  S x = in_statement z.source x

  abbrev B : Statements → Bool
  B all = in_statements z.source all

  unlabelled : {A : Type 0} {u d pc pc2 : ℕ} → Within z A u d pc pc2 → Within z A u 0 pc pc2
  unlabelled {A} {u} {d} s = settle z u 0 (less_room u d) s

  -- a jump at pc whose target is not beyond the end
  jump : {A : Type 0} (to pc pc2 : ℕ) → One z.code (instruction.Jump to) pc pc2 → (A → to ≤ z.limit) → Within z A 1 124 pc pc2
  jump to pc pc2 i aims = one z _ 124 pc pc2 i (omega arith) aims

  -- a return jumps to its function's Return, or falls through to it
  leaves : (back pc pc2 : ℕ) → Leaves z.code back pc pc2 → Within z (back ≤ z.limit) 1 124 pc pc2
  leaves back pc pc2 (inl h) = settle z 1 124 (omega arith) (none z pc pc2 h.0)
  leaves back pc pc2 (inr i) = jump back pc pc2 i (λ c. c)

  forget : {A : Type 0} (n k pc pc2 : ℕ) → One z.code (instruction.Forget n k) pc pc2 → n + k ≤ length z.function.objects → Within z A 1 124 pc pc2
  forget n k pc pc2 i h = one z _ 124 pc pc2 i (omega arith) (λ a. h)

  forget_them : {A : Type 0} (n k pc pc2 : ℕ) → One z.code (forgets n k) pc pc2 → n + k ≤ length z.function.objects → Within z A 1 124 pc pc2
  forget_them n zero pc pc2 i h = nothing z pc pc2 i
  forget_them n (suc k) pc pc2 i h = forget n (suc k) pc pc2 i h

  block_inside : (lo hi a k : ℕ) (b : Bool) → (nat_le lo a && (nat_le (a + k) hi && b)) ≡ true → hi ≤ length z.function.objects → a + k ≤ length z.function.objects
  block_inside lo hi a k b h le =
      on (a + k) hi (length z.function.objects) (le_holds (a + k) hi (left_true (nat_le (a + k) hi) b (right_true (nat_le lo a) (nat_le (a + k) hi && b) h))) le

  block_typed : (lo hi a k : ℕ) (b : Bool) → (nat_le lo a && (nat_le (a + k) hi && b)) ≡ true → b ≡ true
  block_typed lo hi a k b h = right_true (nat_le (a + k) hi) b (right_true (nat_le lo a) (nat_le (a + k) hi && b) h)

  mutual
    pub stands_within : (x : Statement) (out again back lo hi pc pc2 : ℕ) → statement_is_typed z.source z.function lo hi x ≡ true
        → in_statement z.source x ≡ true → hi ≤ length z.function.objects → widest x + 1 ≤ z.slots
        → Stands z.code z.source z.function x out again back pc pc2
        → Within z (Leads z out again back pc2) (statement_nodes x) (32 * length (labels_at x)) pc pc2
    stands_within typed.empty out again back lo hi pc pc2 h d le w i = settle z 1 0 (omega arith) (nothing z pc pc2 i)
    stands_within (typed.evaluate e) out again back lo hi pc pc2 h d le w i =
        settle z (value_nodes e + 1) 0 (evaluate_room (value_nodes e))
        (join z (nothing z pc i.0 i.1) (aimed z (λ a. (a.0, tt)) (effect_within z e Nowhere i.0 pc2 h d w tt i.2)))
    stands_within (typed.declare n) out again back lo hi pc pc2 h d le w i =
        settle z 1 0 (omega arith) (forget n 1 pc pc2 i (one_object n hi (length z.function.objects) (lt_holds n hi (right_true (nat_le lo n) (nat_lt n hi) h)) le))
    stands_within (typed.define n v) out again back lo hi pc pc2 h d le w i =
        let o = slice_get z.function.objects n in
        let h2 = right_true (nat_le lo n) (nat_lt n hi && definition_is_typed z.source z.function o v) h in
        settle z (initialiser_nodes v + 1) 0 (define_room (initialiser_nodes v)) (join z
        (forget n 1 pc i.0 i.1 (one_object n hi (length z.function.objects) (lt_holds n hi (left_true (nat_lt n hi) (definition_is_typed z.source z.function o v) h2)) le))
        (aimed z (λ a. a.0) (defined_within z v n o i.0 pc2 refl (right_true (nat_lt n hi) (definition_is_typed z.source z.function o v) h2) d w i.2)))
    stands_within (typed.block a k all) out again back lo hi pc pc2 h d le w i =
        let inside = block_inside lo hi a k (All a (a + k) all) h le in
        settle z (statements_nodes all + 1) 0 (block_room (statements_nodes all)) (join z
        (forget a k pc i.0 i.1 inside) (all_within all out again back a (a + k) i.0 pc2 (block_typed lo hi a k (All a (a + k) all) h) d inside w i.2))
    stands_within (typed.branch e a) out again back lo hi pc pc2 h d le w i =
        let body = unlabelled (stands_within a out again back lo hi i.1 pc2 (right_true (V e && N e) (T lo hi a) h) (right_true (E e) (S a) d) le
        (right_wide (value_nodes e) (widest a) z.slots w) i.4) in
        settle z (value_nodes e + statement_nodes a + 1) 0 (branch_room (value_nodes e) (statement_nodes a)) (join z (nothing z pc i.0 i.2)
        (join z (aimed z (λ c. (on i.1 pc2 z.limit body.forward c.0, c.0))
        (effect_within z e (If false pc2) i.0 i.1 (left_true (V e) (N e) (left_true (V e && N e) (T lo hi a) h)) (left_true (E e) (S a) d)
        (left_wide (value_nodes e) (widest a) z.slots w) tt i.3)) body))
    stands_within (typed.branches e a b) out again back lo hi pc pc2 h d le w i =
        let h2 = right_true (V e && N e) (T lo hi a && T lo hi b) h in
        let w2 = right_wide (value_nodes e) (max (widest a) (widest b)) z.slots w in
        let d2 = right_true (E e) (S a && S b) d in
        let last = unlabelled (stands_within b out again back lo hi i.3 pc2 (right_true (T lo hi a) (T lo hi b) h2) (right_true (S a) (S b) d2) le
        (right_wide (widest a) (widest b) z.slots w2) i.8) in
        let body = unlabelled (stands_within a out again back lo hi i.1 i.2 (left_true (T lo hi a) (T lo hi b) h2) (left_true (S a) (S b) d2) le
        (left_wide (widest a) (widest b) z.slots w2) i.6) in
        let there = on i.2 i.3 pc2 (next_le i.2 i.3 i.7.next) last.forward in
        settle z (value_nodes e + statement_nodes a + statement_nodes b + 1) 0 (branches_room (value_nodes e) (statement_nodes a) (statement_nodes b)) (join z (nothing z pc i.0 i.4)
        (join z (aimed z (λ c. (on i.1 pc2 z.limit (on i.1 i.2 pc2 body.forward there) c.0, on i.3 pc2 z.limit last.forward c.0))
        (effect_within z e (If false i.3) i.0 i.1 (left_true (V e) (N e) (left_true (V e && N e) (T lo hi a && T lo hi b) h)) (left_true (E e) (S a && S b) d)
        (left_wide (value_nodes e) (max (widest a) (widest b)) z.slots w) tt i.5))
        (join z (aimed z (λ c. (on i.2 pc2 z.limit there c.0, c.1, c.2, c.3)) body) (join z (jump pc2 i.2 i.3 i.7 (λ c. c.0)) last))))
    stands_within (typed.switch u e a k all) out again back lo hi pc pc2 h d le w i =
        let o = waits_in e (is_within a k) (has_objects k) 0 0 in
        let he = left_true (V e) (N e) (left_true (V e && N e) (nat_le lo a && (nat_le (a + k) hi && All a (a + k) all)) h) in
        let h2 = right_true (V e && N e) (nat_le lo a && (nat_le (a + k) hi && All a (a + k) all)) h in
        let inside = block_inside lo hi a k (All a (a + k) all) h2 le in
        let we = left_wide (value_nodes e) (widest_of all) z.slots w in
        let s = waits z e (is_within a k) (has_objects k) 0 0 (rests_fine z e he) in
        let body = at_within all i.4 pc2 again back a (a + k) i.3 pc2 (block_typed lo hi a k (All a (a + k) all) h2) (right_true (E e) (B all) d) inside
        (right_wide (value_nodes e) (widest_of all) z.slots w) i.9 in
        let tests = tests_within z o (labels_of all) i.4 pc2 i.2 i.3 (operand_fine z o 0 0 (free z e 0 0 (whole z e we)) s) i.8 in
        let first : i.1 ≤ pc2 = on i.1 i.2 pc2 (next_le i.1 i.2 i.7.next) (on i.2 i.3 pc2 tests.forward body.0.forward) in
        settle z (value_nodes e + statements_nodes all + 2) 0 (switch_room (value_nodes e) (statements_nodes all) (length (labels_of all))) (join z (nothing z pc i.0 i.5)
        (join z (aimed z (λ c. (on i.1 pc2 z.limit first c.0, mode_aims z o))
        (effect_within z e (mode_of o) i.0 i.1 he (left_true (E e) (B all) d) we (mode_lands z o 0 0 s) i.6))
        (join z (forget_them a k i.1 i.2 i.7 inside)
        (join z (aimed z (λ c. (body.1 c.0, c.0)) tests) (aimed z (λ c. (c.0, c.0, c.2, c.3)) body.0)))))
    stands_within (typed.case v) out again back lo hi pc pc2 h d le w i = settle z 1 32 (omega arith) (nothing z pc pc2 i)
    stands_within typed.default out again back lo hi pc pc2 h d le w i = settle z 1 32 (omega arith) (nothing z pc pc2 i)
    stands_within (typed.while e a) out again back lo hi pc pc2 h d le w i =
        let he = left_true (V e) (N e) (left_true (V e && N e) (T lo hi a) h) in
        let body = unlabelled (stands_within a pc2 i.1 back lo hi i.0 i.1 (right_true (V e && N e) (T lo hi a) h) (right_true (E e) (S a) d) le
        (right_wide (value_nodes e) (widest a) z.slots w) i.3) in
        let last = effect_within z e (If true i.0) i.1 pc2 he (left_true (E e) (S a) d) (left_wide (value_nodes e) (widest a) z.slots w) tt i.4 in
        settle z (value_nodes e + statement_nodes a + 1) 0 (while_room (value_nodes e) (statement_nodes a)) (join z
        (jump i.1 pc i.0 i.2 (λ c. on i.1 pc2 z.limit last.forward c.0))
        (join z (aimed z (λ c. (on i.1 pc2 z.limit last.forward c.0, c.0, on i.1 pc2 z.limit last.forward c.0, c.3)) body)
        (aimed z (λ c. (c.0, on i.0 pc2 z.limit (on i.0 i.1 pc2 body.forward last.forward) c.0)) last)))
    stands_within (typed.do_while a e) out again back lo hi pc pc2 h d le w i =
        let he = left_true (V e) (N e) (right_true (T lo hi a) (V e && N e) h) in
        let body = unlabelled (stands_within a pc2 i.1 back lo hi i.0 i.1 (left_true (T lo hi a) (V e && N e) h) (left_true (S a) (E e) d) le
        (right_wide (value_nodes e) (widest a) z.slots w) i.3) in
        let last = effect_within z e (If true i.0) i.1 pc2 he (right_true (S a) (E e) d) (left_wide (value_nodes e) (widest a) z.slots w) tt i.4 in
        settle z (statement_nodes a + value_nodes e + 1) 0 (do_room (value_nodes e) (statement_nodes a)) (join z (nothing z pc i.0 i.2)
        (join z (aimed z (λ c. (on i.1 pc2 z.limit last.forward c.0, c.0, on i.1 pc2 z.limit last.forward c.0, c.3)) body)
        (aimed z (λ c. (c.0, on i.0 pc2 z.limit (on i.0 i.1 pc2 body.forward last.forward) c.0)) last)))
    stands_within (typed.for declared start test step a) out again back lo hi pc pc2 h d le w i =
        let p1 = i.0 in
        let p2 = i.1 in
        let p3 = i.2 in
        let top = i.3 in
        let next = i.4 in
        let at = i.5 in
        let od = option_is_typed z.source z.function start in
        let ot = test_is_typed z.source z.function test in
        let os = option_is_typed z.source z.function step in
        let h2 = right_true (All lo hi declared) (od && (ot && (os && T lo hi a))) h in
        let h3 = right_true od (ot && (os && T lo hi a)) h2 in
        let h4 = right_true ot (os && T lo hi a) h3 in
        let is = in_option z.source start in
        let it = in_option z.source test in
        let iu = in_option z.source step in
        let d2 = right_true (B declared) (is && (it && (iu && S a))) d in
        let d3 = right_true is (it && (iu && S a)) d2 in
        let d4 = right_true it (iu && S a) d3 in
        let w2 = right_wide (widest_of declared) (max (option_nodes start) (max (option_nodes test) (max (option_nodes step) (widest a)))) z.slots w in
        let w3 = right_wide (option_nodes start) (max (option_nodes test) (max (option_nodes step) (widest a))) z.slots w2 in
        let w4 = right_wide (option_nodes test) (max (option_nodes step) (widest a)) z.slots w3 in
        let last = repeats_within z test top at pc2 (left_true ot (os && T lo hi a) h3) (left_true it (iu && S a) d3)
        (left_wide (option_nodes test) (max (option_nodes step) (widest a)) z.slots w3) i.12 in
        let steps = effects_within z step next at (left_true os (T lo hi a) h4) (left_true iu (S a) d4)
        (left_wide (option_nodes step) (widest a) z.slots w4) i.11 in
        let body = unlabelled (stands_within a pc2 next back lo hi top next (right_true os (T lo hi a) h4) (right_true iu (S a) d4) le
        (right_wide (option_nodes step) (widest a) z.slots w4) i.10) in
        let starts = effects_within z start p2 p3 (left_true od (ot && (os && T lo hi a)) h2) (left_true is (it && (iu && S a)) d2)
        (left_wide (option_nodes start) (max (option_nodes test) (max (option_nodes step) (widest a))) z.slots w2) i.8 in
        let first = all_within declared pc2 pc2 back lo hi p1 p2 (left_true (All lo hi declared) (od && (ot && (os && T lo hi a))) h)
        (left_true (B declared) (is && (it && (iu && S a))) d) le
        (left_wide (widest_of declared) (max (option_nodes start) (max (option_nodes test) (max (option_nodes step) (widest a)))) z.slots w) i.7 in
        let from_next : next ≤ pc2 = on next at pc2 steps.forward last.forward in
        let from_top : top ≤ pc2 = on top next pc2 body.forward from_next in
        let from_three : p3 ≤ pc2 = on p3 top pc2 (next_le p3 top i.9.next) from_top in
        let from_two : p2 ≤ pc2 = on p2 p3 pc2 starts.forward from_three in
        settle z (statements_nodes declared + option_nodes start + option_nodes test + option_nodes step + statement_nodes a + 1) 0
        (for_room (statements_nodes declared) (option_nodes start) (option_nodes test) (option_nodes step) (statement_nodes a)) (join z (nothing z pc p1 i.6)
        (join z (aimed z (λ c. (on p2 pc2 z.limit from_two c.0, c.0, c.0, c.3)) first)
        (join z (aimed z (λ c. on p3 pc2 z.limit from_three c.0) starts)
        (join z (jump at p3 top i.9 (λ c. on at pc2 z.limit last.forward c.0))
        (join z (aimed z (λ c. (on next pc2 z.limit from_next c.0, c.0, on next pc2 z.limit from_next c.0, c.3)) body)
        (join z (aimed z (λ c. on at pc2 z.limit last.forward c.0) steps)
        (aimed z (λ c. (c.0, on top pc2 z.limit from_top c.0)) last)))))))
    stands_within typed.break out again back lo hi pc pc2 h d le w i = settle z 1 0 (omega arith) (jump out pc pc2 i (λ c. c.1))
    stands_within typed.continue out again back lo hi pc pc2 h d le w i = settle z 1 0 (omega arith) (jump again pc pc2 i (λ c. c.2))
    stands_within typed.return_nothing out again back lo hi pc pc2 h d le w i =
        settle z 1 0 (omega arith) (join z (nothing z pc i.0 i.1) (aimed z (λ c. c.3) (leaves back i.0 pc2 i.2)))
    stands_within (typed.return_value u e) out again back lo hi pc pc2 h d le w i =
        let he = left_true (V e) (N e) (right_true (same_result z.function.type.result (Some u)) (V e && N e) h) in
        let last = leaves back i.1 pc2 i.4 in
        settle z (value_nodes e + 1) 0 (return_room (value_nodes e)) (join z (nothing z pc i.0 i.2)
        (join z (aimed z (λ c. (on i.1 pc2 z.limit last.forward c.0, tt)) (gives_within z u e (target.Temporary 0) i.0 i.1 he d w (same_le 0) i.3))
        (aimed z (λ c. c.3) last)))

    pub all_within : (all : Statements) (out again back lo hi pc pc2 : ℕ) → statements_are_typed z.source z.function lo hi all ≡ true
        → in_statements z.source all ≡ true → hi ≤ length z.function.objects → widest_of all + 1 ≤ z.slots
        → StandAll z.code z.source z.function all out again back pc pc2 → Within z (Leads z out again back pc2) (statements_nodes all) 0 pc pc2
    all_within typed.no_statements out again back lo hi pc pc2 h d le w i = none z pc pc2 i
    all_within (typed.and_statement x more) out again back lo hi pc pc2 h d le w i =
        let rest = all_within more out again back lo hi i.0 pc2 (right_true (T lo hi x) (All lo hi more) h) (right_true (S x) (B more) d) le
        (right_wide (widest x) (widest_of more) z.slots w) i.2 in
        let this = unlabelled (stands_within x out again back lo hi pc i.0 (left_true (T lo hi x) (All lo hi more) h) (left_true (S x) (B more) d) le
        (left_wide (widest x) (widest_of more) z.slots w) i.1) in
        settle z (statement_nodes x + statements_nodes more) 0 (less_room (statement_nodes x + statements_nodes more) (0 + 0))
        (join z (aimed z (λ c. (on i.0 pc2 z.limit rest.forward c.0, c.1, c.2, c.3)) this) rest)

    -- and its labels are not beyond its end
    pub at_within : (all : Statements) (places : List ℕ) (out again back lo hi pc pc2 : ℕ) → statements_are_typed z.source z.function lo hi all ≡ true
        → in_statements z.source all ≡ true → hi ≤ length z.function.objects
        → widest_of all + 1 ≤ z.slots → StandAt z.code z.source z.function all places out again back pc pc2
        → Within z (Leads z out again back pc2) (statements_nodes all) (32 * length (labels_of all)) pc pc2 × (pc2 ≤ z.limit → Inside z places)
    at_within typed.no_statements places out again back lo hi pc pc2 h d le w i = (none z pc pc2 i.1, λ l. subst (Inside z) (sym i.0) tt)
    at_within (typed.and_statement x more) places out again back lo hi pc pc2 h d le w i =
        let rest = at_within more i.1 out again back lo hi i.0 pc2 (right_true (T lo hi x) (All lo hi more) h) (right_true (S x) (B more) d) le
        (right_wide (widest x) (widest_of more) z.slots w) i.4 in
        let this = stands_within x out again back lo hi pc i.0 (left_true (T lo hi x) (All lo hi more) h) (left_true (S x) (B more) d) le
        (left_wide (widest x) (widest_of more) z.slots w) i.3 in (
          settle z (statement_nodes x + statements_nodes more) (32 * length (labels_at x ++ labels_of more))
              (labels_room (statement_nodes x) (statements_nodes more) (length (labels_at x)) (length (labels_of more)) (length (labels_at x ++ labels_of more)) (length_both (labels_at x) (labels_of more)))
              (join z (aimed z (λ c. (on i.0 pc2 z.limit rest.0.forward c.0, c.1, c.2, c.3)) this) rest.0),
          λ l. subst (Inside z) (sym i.2) (inside_labels z (labels_at x) pc i.1 (on pc pc2 z.limit (on pc i.0 pc2 this.forward rest.0.forward) l) (rest.1 l)),
        )
