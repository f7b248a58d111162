use Rattle.std.proofs.Common.{rules, refl, sym, ap}
use Rattle.std.proofs.Math.Facts.{to_z-of_z}
use Rattle.interp_store.specs.View.{reference_of}
use Rattle.interp_store.specs.layer.Agrees.{number}
use Rattle.std.proofs.Common.{◌≡◌, ℤ, sym, ap, refl, ◌∙◌, pos, to_z, of_z, w64}
use Rattle.std.specs.Prelude.{true, false, ◌&&◌}
use Rattle.ctypes.specs.Types.{truth, of_truth, converted}
use Rattle.typing_spec.specs.Operators.{operated, sign_of}
use Rattle.typed_ast.specs.View.{program_of, place_of, value_of}
use Rattle.csem.specs.Store.{Reference, whole}
use Rattle.csem.specs.Machine.{State, Run, Goes, then_do, subscripted, read, write, computed_at}
use Rattle.csem.specs.Expressions.{position_of, converted_or_none}
use Rattle.interp_store.specs.layer.Agrees.{state_in, combined, stepped}
use Rattle.interp_eval.specs.layer.Comes.{found, valued}
use Rattle.interp_eval.proofs.Comings.{after_tick, no_tick, gone_on, gone_none, gave, gave_now}
use Rattle.interp_eval.proofs.Leaves.{gave_with, gave_with_both, chose, leads_chosen}
use Rattle.interp_eval.proofs.Wholes.{leads_whole, read_whole, reads_element, combines_found, steps_found}
use Rattle.std.proofs.lemmas.Bool.{and_parts}
use Rattle.interp_eval.specs.layer.Quick.{quick, quick_place}
use Rattle.interp_eval.proofs.Endings.{stays_for, stays_read, stays_subscripted, stays_element, stays_written, stays_combined, stays_stepped, stays_computed}
use Rattle.interp_eval.proofs.expressions.+evaluate.Goals as goal

pub element-returns-then-not-tick-clause-does : goal.element-returns-then-not-tick-clause-does
element-returns-then-not-tick-clause-does t c = λ run rest h.
    no_tick run c.args.scope.now.limit c.args.clock.now.spent c.tick.new.self c.args.scene.now _ rest c.tick.result c.if-not-tick.true c.tick.ensures.idle c.tick.ensures.same h

pub element-returns-then-not-tick-clause-here : goal.element-returns-then-not-tick-clause-here
element-returns-then-not-tick-clause-here t c = λ q none. c.tick.ensures.here c.if-not-tick.true

pub element-returns-in_default-clause-does : goal.element-returns-in_default-clause-does
element-returns-in_default-clause-does t c = λ run rest h.
    gone_none reference_of run c.args.scope.now.limit c.tick.new.self.spent c.args.scene.now _ _ rest c.place.result c.place.new.clock c.place.new.scene c.in_default.is (c.place.ensures.does run)
    (after_tick run c.args.clock.now.spent c.tick.new.self.spent c.args.scene.now _ _ c.tick.result c.if-not-tick.false c.tick.ensures.taken h)

pub element-returns-in_default-clause-here : goal.element-returns-in_default-clause-here
element-returns-in_default-clause-here t c = λ q none. c.place.ensures.here (and_parts (quick_place (place_of c.args.array.now)) (quick (value_of c.args.index.now)) q).0 c.in_default.is

pub element-returns-in_default-value-clause-does : goal.element-returns-in_default-value-clause-does
element-returns-in_default-value-clause-does t c = λ run rest h.
    gone_none number run c.args.scope.now.limit c.place.new.clock.spent c.place.new.scene _ _ rest c.value.result c.value.new.clock c.value.new.scene c.in_default-value.is (c.value.ensures.does run)
    (gone_on reference_of run c.args.scope.now.limit c.tick.new.self.spent c.args.scene.now _ _ rest c.place.result c.in-Some.r c.place.new.clock
    c.place.new.scene c.in-Some.is (c.place.ensures.does run)
    (after_tick run c.args.clock.now.spent c.tick.new.self.spent c.args.scene.now _ _ c.tick.result c.if-not-tick.false c.tick.ensures.taken h))

pub element-returns-in_default-value-clause-here : goal.element-returns-in_default-value-clause-here
element-returns-in_default-value-clause-here t c = λ q none. c.value.ensures.here (and_parts (quick_place (place_of c.args.array.now)) (quick (value_of c.args.index.now)) q).1 c.in_default-value.is

pub element-returns-clause-does : goal.element-returns-clause-does
element-returns-clause-does t c = λ run rest h.
    let same : to_z w64 (of_z w64 c.in-Some-value.v) ≡ c.in-Some-value.v = search (rules, to_z-of_z) in
    gave_with reference_of run c.args.scope.now.limit c.value.new.clock.spent c.value.new.scene c.value.new.scene
    (λ v s. subscripted c.args.at.now (reference_of c.in-Some.r) v s) rest c.found.new.self c.found.ensures.spent
    (to_z w64 (of_z w64 c.in-Some-value.v)) (c.in-Some-value.v) same
    (gone_on number run c.args.scope.now.limit c.place.new.clock.spent c.place.new.scene _ _ rest c.value.result c.in-Some-value.v c.value.new.clock
    c.value.new.scene c.in-Some-value.is (c.value.ensures.does run)
    (gone_on reference_of run c.args.scope.now.limit c.tick.new.self.spent c.args.scene.now _ _ rest c.place.result c.in-Some.r c.place.new.clock
    c.place.new.scene c.in-Some.is (c.place.ensures.does run)
    (after_tick run c.args.clock.now.spent c.tick.new.self.spent c.args.scene.now _ _ c.tick.result c.if-not-tick.false c.tick.ensures.taken h)))
    c.subscripted.result c.found.result (c.subscripted.ensures) c.found.ensures.gives

pub element-returns-clause-here : goal.element-returns-clause-here
element-returns-clause-here t c = λ q. c.found.ensures.here refl

pub unary-returns-then-not-tick-clause-does : goal.unary-returns-then-not-tick-clause-does
unary-returns-then-not-tick-clause-does t c = λ run rest h.
    no_tick run c.args.scope.now.limit c.args.clock.now.spent c.tick.new.self c.args.scene.now _ rest c.tick.result c.if-not-tick.true c.tick.ensures.idle c.tick.ensures.same h

pub unary-returns-then-not-tick-clause-here : goal.unary-returns-then-not-tick-clause-here
unary-returns-then-not-tick-clause-here t c = λ q none. c.tick.ensures.here c.if-not-tick.true

pub unary-returns-in_default-clause-does : goal.unary-returns-in_default-clause-does
unary-returns-in_default-clause-does t c = λ run rest h.
    gone_none number run c.args.scope.now.limit c.tick.new.self.spent c.args.scene.now _ _ rest c.value.result c.value.new.clock c.value.new.scene c.in_default.is (c.value.ensures.does run)
    (after_tick run c.args.clock.now.spent c.tick.new.self.spent c.args.scene.now _ _ c.tick.result c.if-not-tick.false c.tick.ensures.taken h)

pub unary-returns-in_default-clause-here : goal.unary-returns-in_default-clause-here
unary-returns-in_default-clause-here t c = λ q none. c.value.ensures.here q c.in_default.is

pub unary-returns-clause-does : goal.unary-returns-clause-does
unary-returns-clause-does t c = λ run rest h.
    let same : to_z w64 (of_z w64 c.in-Some.v) ≡ c.in-Some.v = search (rules, to_z-of_z) in
    gave_with number run c.args.scope.now.limit c.value.new.clock.spent c.value.new.scene c.value.new.scene
    (λ v s. computed_at c.args.at.now (sign_of c.args.op c.args.ty v) s) rest c.given.new.self c.given.ensures.spent
    (to_z w64 (of_z w64 c.in-Some.v)) (c.in-Some.v) same
    (gone_on number run c.args.scope.now.limit c.tick.new.self.spent c.args.scene.now _ _ rest c.value.result c.in-Some.v c.value.new.clock c.value.new.scene c.in-Some.is (c.value.ensures.does run)
    (after_tick run c.args.clock.now.spent c.tick.new.self.spent c.args.scene.now _ _ c.tick.result c.if-not-tick.false c.tick.ensures.taken h))
    c.sign_at.result c.given.result (λ o. c.sign_at.ensures (state_in c.value.new.scene o)) c.given.ensures.gives

pub unary-returns-clause-here : goal.unary-returns-clause-here
unary-returns-clause-here t c = λ q. c.given.ensures.here refl

pub binary-returns-then-not-tick-clause-does : goal.binary-returns-then-not-tick-clause-does
binary-returns-then-not-tick-clause-does t c = λ run rest h.
    no_tick run c.args.scope.now.limit c.args.clock.now.spent c.tick.new.self c.args.scene.now _ rest c.tick.result c.if-not-tick.true c.tick.ensures.idle c.tick.ensures.same h

pub binary-returns-then-not-tick-clause-here : goal.binary-returns-then-not-tick-clause-here
binary-returns-then-not-tick-clause-here t c = λ q none. c.tick.ensures.here c.if-not-tick.true

pub binary-returns-in_default-clause-does : goal.binary-returns-in_default-clause-does
binary-returns-in_default-clause-does t c = λ run rest h.
    gone_none number run c.args.scope.now.limit c.tick.new.self.spent c.args.scene.now _ _ rest c.operand.result c.operand.new.clock c.operand.new.scene c.in_default.is (c.operand.ensures.does run)
    (after_tick run c.args.clock.now.spent c.tick.new.self.spent c.args.scene.now _ _ c.tick.result c.if-not-tick.false c.tick.ensures.taken h)

pub binary-returns-in_default-clause-here : goal.binary-returns-in_default-clause-here
binary-returns-in_default-clause-here t c = λ q none. c.operand.ensures.here (and_parts (quick (value_of c.args.a.now)) (quick (value_of c.args.b.now)) q).0 c.in_default.is

pub binary-returns-in_default-operand-clause-does : goal.binary-returns-in_default-operand-clause-does
binary-returns-in_default-operand-clause-does t c = λ run rest h.
    gone_none number run c.args.scope.now.limit c.operand.new.clock.spent c.operand.new.scene _ _ rest c.operand-2.result c.operand-2.new.clock
    c.operand-2.new.scene c.in_default-operand.is (c.operand-2.ensures.does run)
    (gone_on number run c.args.scope.now.limit c.tick.new.self.spent c.args.scene.now _ _ rest c.operand.result c.in-Some.v c.operand.new.clock
    c.operand.new.scene c.in-Some.is (c.operand.ensures.does run)
    (after_tick run c.args.clock.now.spent c.tick.new.self.spent c.args.scene.now _ _ c.tick.result c.if-not-tick.false c.tick.ensures.taken h))

pub binary-returns-in_default-operand-clause-here : goal.binary-returns-in_default-operand-clause-here
binary-returns-in_default-operand-clause-here t c = λ q none. c.operand-2.ensures.here (and_parts (quick (value_of c.args.a.now)) (quick (value_of c.args.b.now)) q).1 c.in_default-operand.is

pub binary-returns-clause-does : goal.binary-returns-clause-does
binary-returns-clause-does t c = λ run rest h.
    let same : to_z w64 (of_z w64 c.in-Some.v) ≡ c.in-Some.v = search (rules, to_z-of_z) in
    let same2 : to_z w64 (of_z w64 c.in-Some-operand.w) ≡ c.in-Some-operand.w = search (rules, to_z-of_z) in
    gave_with_both number run c.args.scope.now.limit c.operand-2.new.clock.spent c.operand-2.new.scene c.operand-2.new.scene
    (λ v w s. computed_at c.args.at.now (operated c.args.op c.args.ty v w) s) rest c.given.new.self c.given.ensures.spent
    (to_z w64 (of_z w64 c.in-Some.v)) c.in-Some.v (to_z w64 (of_z w64 c.in-Some-operand.w)) c.in-Some-operand.w same same2
    (gone_on number run c.args.scope.now.limit c.operand.new.clock.spent c.operand.new.scene _ _ rest c.operand-2.result c.in-Some-operand.w
    c.operand-2.new.clock c.operand-2.new.scene c.in-Some-operand.is (c.operand-2.ensures.does run)
    (gone_on number run c.args.scope.now.limit c.tick.new.self.spent c.args.scene.now _ _ rest c.operand.result c.in-Some.v c.operand.new.clock
    c.operand.new.scene c.in-Some.is (c.operand.ensures.does run)
    (after_tick run c.args.clock.now.spent c.tick.new.self.spent c.args.scene.now _ _ c.tick.result c.if-not-tick.false c.tick.ensures.taken h)))
    c.operated_at.result c.given.result (λ o. c.operated_at.ensures (state_in c.operand-2.new.scene o)) c.given.ensures.gives

pub binary-returns-clause-here : goal.binary-returns-clause-here
binary-returns-clause-here t c = λ q. c.given.ensures.here refl

pub both_true-returns-then-not-tick-clause-does : goal.both_true-returns-then-not-tick-clause-does
both_true-returns-then-not-tick-clause-does t c = λ run rest h.
    no_tick run c.args.scope.now.limit c.args.clock.now.spent c.tick.new.self c.args.scene.now _ rest c.tick.result c.if-not-tick.true c.tick.ensures.idle c.tick.ensures.same h

pub both_true-returns-then-not-tick-clause-here : goal.both_true-returns-then-not-tick-clause-here
both_true-returns-then-not-tick-clause-here t c = λ q none. c.tick.ensures.here c.if-not-tick.true

pub both_true-returns-in_default-clause-does : goal.both_true-returns-in_default-clause-does
both_true-returns-in_default-clause-does t c = λ run rest h.
    gone_none number run c.args.scope.now.limit c.tick.new.self.spent c.args.scene.now _ _ rest c.value.result c.value.new.clock c.value.new.scene c.in_default.is (c.value.ensures.does run)
    (after_tick run c.args.clock.now.spent c.tick.new.self.spent c.args.scene.now _ _ c.tick.result c.if-not-tick.false c.tick.ensures.taken h)

pub both_true-returns-in_default-clause-here : goal.both_true-returns-in_default-clause-here
both_true-returns-in_default-clause-here t c = λ q none. c.value.ensures.here (and_parts (quick (value_of c.args.a.now)) (quick (value_of c.args.b.now)) q).0 c.in_default.is

pub both_true-returns-then-is_true-clause-does : goal.both_true-returns-then-is_true-clause-does
both_true-returns-then-is_true-clause-does t c = λ run rest h.
    let same : to_z w64 (of_z w64 c.in-Some.v) ≡ c.in-Some.v = search (rules, to_z-of_z) in
    let test : truth c.in-Some.v ≡ true = ap truth (sym same) ∙ sym c.is_true.ensures ∙ c.if-is_true.true in
    c.truth_of.ensures.does run rest (chose run c.value.new.clock.spent c.value.new.scene (truth c.in-Some.v) true
    (λ s. then_do (valued (value_of c.args.b.now) (program_of c.args.scope.now.program.now) s) (λ w s. Goes (of_truth (truth w)) s))
    (λ s. Goes (pos 0) s) rest test (gone_on number run c.args.scope.now.limit c.tick.new.self.spent c.args.scene.now _ _ rest c.value.result
    c.in-Some.v c.value.new.clock c.value.new.scene c.in-Some.is (c.value.ensures.does run)
    (after_tick run c.args.clock.now.spent c.tick.new.self.spent c.args.scene.now _ _ c.tick.result c.if-not-tick.false c.tick.ensures.taken h)))

pub both_true-returns-then-is_true-clause-here : goal.both_true-returns-then-is_true-clause-here
both_true-returns-then-is_true-clause-here t c = λ q. c.truth_of.ensures.here (and_parts (quick (value_of c.args.a.now)) (quick (value_of c.args.b.now)) q).1

pub both_true-returns-else-is_true-clause-does : goal.both_true-returns-else-is_true-clause-does
both_true-returns-else-is_true-clause-does t c = λ run rest h.
    let same : to_z w64 (of_z w64 c.in-Some.v) ≡ c.in-Some.v = search (rules, to_z-of_z) in
    let test : truth c.in-Some.v ≡ false = ap truth (sym same) ∙ sym c.is_true.ensures ∙ c.if-is_true.false in
    gave_now number run c.args.scope.now.limit c.value.new.scene (pos 0) rest (pos 0) c.value.new.clock refl
    (chose run c.value.new.clock.spent c.value.new.scene (truth c.in-Some.v) false
    (λ s. then_do (valued (value_of c.args.b.now) (program_of c.args.scope.now.program.now) s) (λ w s. Goes (of_truth (truth w)) s))
    (λ s. Goes (pos 0) s) rest test (gone_on number run c.args.scope.now.limit c.tick.new.self.spent c.args.scene.now _ _ rest c.value.result
    c.in-Some.v c.value.new.clock c.value.new.scene c.in-Some.is (c.value.ensures.does run)
    (after_tick run c.args.clock.now.spent c.tick.new.self.spent c.args.scene.now _ _ c.tick.result c.if-not-tick.false c.tick.ensures.taken h)))

pub one_true-returns-then-not-tick-clause-does : goal.one_true-returns-then-not-tick-clause-does
one_true-returns-then-not-tick-clause-does t c = λ run rest h.
    no_tick run c.args.scope.now.limit c.args.clock.now.spent c.tick.new.self c.args.scene.now _ rest c.tick.result c.if-not-tick.true c.tick.ensures.idle c.tick.ensures.same h

pub one_true-returns-then-not-tick-clause-here : goal.one_true-returns-then-not-tick-clause-here
one_true-returns-then-not-tick-clause-here t c = λ q none. c.tick.ensures.here c.if-not-tick.true

pub one_true-returns-in_default-clause-does : goal.one_true-returns-in_default-clause-does
one_true-returns-in_default-clause-does t c = λ run rest h.
    gone_none number run c.args.scope.now.limit c.tick.new.self.spent c.args.scene.now _ _ rest c.value.result c.value.new.clock c.value.new.scene c.in_default.is (c.value.ensures.does run)
    (after_tick run c.args.clock.now.spent c.tick.new.self.spent c.args.scene.now _ _ c.tick.result c.if-not-tick.false c.tick.ensures.taken h)

pub one_true-returns-in_default-clause-here : goal.one_true-returns-in_default-clause-here
one_true-returns-in_default-clause-here t c = λ q none. c.value.ensures.here (and_parts (quick (value_of c.args.a.now)) (quick (value_of c.args.b.now)) q).0 c.in_default.is

pub one_true-returns-then-is_true-clause-does : goal.one_true-returns-then-is_true-clause-does
one_true-returns-then-is_true-clause-does t c = λ run rest h.
    let same : to_z w64 (of_z w64 c.in-Some.v) ≡ c.in-Some.v = search (rules, to_z-of_z) in
    let test : truth c.in-Some.v ≡ true = ap truth (sym same) ∙ sym c.is_true.ensures ∙ c.if-is_true.true in
    gave_now number run c.args.scope.now.limit c.value.new.scene (pos 1) rest (pos 1) c.value.new.clock refl
    (chose run c.value.new.clock.spent c.value.new.scene (truth c.in-Some.v) true (λ s. Goes (pos 1) s)
    (λ s. then_do (valued (value_of c.args.b.now) (program_of c.args.scope.now.program.now) s) (λ w s. Goes (of_truth (truth w)) s)) rest test
    (gone_on number run c.args.scope.now.limit c.tick.new.self.spent c.args.scene.now _ _ rest c.value.result c.in-Some.v c.value.new.clock
    c.value.new.scene c.in-Some.is (c.value.ensures.does run)
    (after_tick run c.args.clock.now.spent c.tick.new.self.spent c.args.scene.now _ _ c.tick.result c.if-not-tick.false c.tick.ensures.taken h)))

pub one_true-returns-else-is_true-clause-does : goal.one_true-returns-else-is_true-clause-does
one_true-returns-else-is_true-clause-does t c = λ run rest h.
    let same : to_z w64 (of_z w64 c.in-Some.v) ≡ c.in-Some.v = search (rules, to_z-of_z) in
    let test : truth c.in-Some.v ≡ false = ap truth (sym same) ∙ sym c.is_true.ensures ∙ c.if-is_true.false in
    c.truth_of.ensures.does run rest (chose run c.value.new.clock.spent c.value.new.scene (truth c.in-Some.v) false (λ s. Goes (pos 1) s)
    (λ s. then_do (valued (value_of c.args.b.now) (program_of c.args.scope.now.program.now) s) (λ w s. Goes (of_truth (truth w)) s)) rest test
    (gone_on number run c.args.scope.now.limit c.tick.new.self.spent c.args.scene.now _ _ rest c.value.result c.in-Some.v c.value.new.clock
    c.value.new.scene c.in-Some.is (c.value.ensures.does run)
    (after_tick run c.args.clock.now.spent c.tick.new.self.spent c.args.scene.now _ _ c.tick.result c.if-not-tick.false c.tick.ensures.taken h)))

pub one_true-returns-else-is_true-clause-here : goal.one_true-returns-else-is_true-clause-here
one_true-returns-else-is_true-clause-here t c = λ q. c.truth_of.ensures.here (and_parts (quick (value_of c.args.a.now)) (quick (value_of c.args.b.now)) q).1

pub truth_of-returns-in_default-clause-does : goal.truth_of-returns-in_default-clause-does
truth_of-returns-in_default-clause-does t c = λ run rest h.
    gone_none number run c.args.scope.now.limit c.args.clock.now.spent c.args.scene.now _ _ rest c.value.result c.value.new.clock c.value.new.scene c.in_default.is (c.value.ensures.does run)
    h

pub truth_of-returns-in_default-clause-here : goal.truth_of-returns-in_default-clause-here
truth_of-returns-in_default-clause-here t c = λ q none. c.value.ensures.here q c.in_default.is

pub truth_of-returns-clause-does : goal.truth_of-returns-clause-does
truth_of-returns-clause-does t c = λ run rest h.
    let same : to_z w64 (of_z w64 c.in-Some.w) ≡ c.in-Some.w = search (rules, to_z-of_z) in
    let same2 : to_z w64 (of_z w64 c.of_truth.result) ≡ c.of_truth.result = search (rules, to_z-of_z) in
    let is : of_truth (truth c.in-Some.w) ≡ to_z w64 (of_z w64 c.of_truth.result) = ap (λ w. of_truth (truth w)) (sym same) ∙ ap of_truth
    (sym c.is_true.ensures) ∙ sym c.of_truth.ensures ∙ sym same2 in
    gave_now number run c.args.scope.now.limit c.value.new.scene (of_truth (truth c.in-Some.w)) rest (to_z w64 (of_z w64 c.of_truth.result))
    c.value.new.clock is (gone_on number run c.args.scope.now.limit c.args.clock.now.spent c.args.scene.now _ _ rest c.value.result c.in-Some.w
    c.value.new.clock c.value.new.scene c.in-Some.is (c.value.ensures.does run)
    h)

pub chosen-returns-then-not-tick-clause-does : goal.chosen-returns-then-not-tick-clause-does
chosen-returns-then-not-tick-clause-does t c = λ run rest h.
    no_tick run c.args.scope.now.limit c.args.clock.now.spent c.tick.new.self c.args.scene.now _ rest c.tick.result c.if-not-tick.true c.tick.ensures.idle c.tick.ensures.same h

pub chosen-returns-then-not-tick-clause-here : goal.chosen-returns-then-not-tick-clause-here
chosen-returns-then-not-tick-clause-here t c = λ q none. c.tick.ensures.here c.if-not-tick.true

pub chosen-returns-in_default-clause-does : goal.chosen-returns-in_default-clause-does
chosen-returns-in_default-clause-does t c = λ run rest h.
    gone_none number run c.args.scope.now.limit c.tick.new.self.spent c.args.scene.now _ _ rest c.value.result c.value.new.clock c.value.new.scene c.in_default.is (c.value.ensures.does run)
    (after_tick run c.args.clock.now.spent c.tick.new.self.spent c.args.scene.now _ _ c.tick.result c.if-not-tick.false c.tick.ensures.taken h)

pub chosen-returns-in_default-clause-here : goal.chosen-returns-in_default-clause-here
chosen-returns-in_default-clause-here t c = λ q none.
    c.value.ensures.here (and_parts (quick (value_of c.args.c.now)) (quick (value_of c.args.a.now)) (and_parts (quick (value_of c.args.c.now) && quick (value_of c.args.a.now))
    (quick (value_of c.args.b.now)) q).0).0 c.in_default.is

pub chosen-returns-then-is_true-clause-does : goal.chosen-returns-then-is_true-clause-does
chosen-returns-then-is_true-clause-does t c = λ run rest h.
    let same : to_z w64 (of_z w64 c.in-Some.v) ≡ c.in-Some.v = search (rules, to_z-of_z) in
    let test : truth c.in-Some.v ≡ true = ap truth (sym same) ∙ sym c.is_true.ensures ∙ c.if-is_true.true in
    c.conversion.ensures.does run rest (leads_chosen run c.value.new.clock.spent c.value.new.scene (truth c.in-Some.v) true
    (λ s. valued (value_of c.args.a.now) (program_of c.args.scope.now.program.now) s)
    (λ s. valued (value_of c.args.b.now) (program_of c.args.scope.now.program.now) s) (λ w s. Goes (converted_or_none c.args.ty w) s) rest test
    (gone_on number run c.args.scope.now.limit c.tick.new.self.spent c.args.scene.now _ _ rest c.value.result c.in-Some.v c.value.new.clock
    c.value.new.scene c.in-Some.is (c.value.ensures.does run)
    (after_tick run c.args.clock.now.spent c.tick.new.self.spent c.args.scene.now _ _ c.tick.result c.if-not-tick.false c.tick.ensures.taken h)))

pub chosen-returns-then-is_true-clause-here : goal.chosen-returns-then-is_true-clause-here
chosen-returns-then-is_true-clause-here t c = λ q.
    c.conversion.ensures.here (and_parts (quick (value_of c.args.c.now)) (quick (value_of c.args.a.now)) (and_parts (quick (value_of c.args.c.now) && quick (value_of c.args.a.now))
    (quick (value_of c.args.b.now)) q).0).1

pub chosen-returns-else-is_true-clause-does : goal.chosen-returns-else-is_true-clause-does
chosen-returns-else-is_true-clause-does t c = λ run rest h.
    let same : to_z w64 (of_z w64 c.in-Some.v) ≡ c.in-Some.v = search (rules, to_z-of_z) in
    let test : truth c.in-Some.v ≡ false = ap truth (sym same) ∙ sym c.is_true.ensures ∙ c.if-is_true.false in
    c.conversion-else-is_true.ensures.does run rest
    (leads_chosen run c.value.new.clock.spent c.value.new.scene (truth c.in-Some.v) false
    (λ s. valued (value_of c.args.a.now) (program_of c.args.scope.now.program.now) s)
    (λ s. valued (value_of c.args.b.now) (program_of c.args.scope.now.program.now) s) (λ w s. Goes (converted_or_none c.args.ty w) s) rest test
    (gone_on number run c.args.scope.now.limit c.tick.new.self.spent c.args.scene.now _ _ rest c.value.result c.in-Some.v c.value.new.clock
    c.value.new.scene c.in-Some.is (c.value.ensures.does run)
    (after_tick run c.args.clock.now.spent c.tick.new.self.spent c.args.scene.now _ _ c.tick.result c.if-not-tick.false c.tick.ensures.taken h)))

pub chosen-returns-else-is_true-clause-here : goal.chosen-returns-else-is_true-clause-here
chosen-returns-else-is_true-clause-here t c = λ q.
    c.conversion-else-is_true.ensures.here (and_parts (quick (value_of c.args.c.now) && quick (value_of c.args.a.now)) (quick (value_of c.args.b.now)) q).1

pub conversion-returns-in_default-clause-does : goal.conversion-returns-in_default-clause-does
conversion-returns-in_default-clause-does t c = λ run rest h.
    gone_none number run c.args.scope.now.limit c.args.clock.now.spent c.args.scene.now _ _ rest c.value.result c.value.new.clock c.value.new.scene c.in_default.is (c.value.ensures.does run)
    h

pub conversion-returns-in_default-clause-here : goal.conversion-returns-in_default-clause-here
conversion-returns-in_default-clause-here t c = λ q none. c.value.ensures.here q c.in_default.is

pub conversion-returns-clause-does : goal.conversion-returns-clause-does
conversion-returns-clause-does t c = λ run rest h.
    let same : to_z w64 (of_z w64 c.in-Some.v) ≡ c.in-Some.v = search (rules, to_z-of_z) in
    let same2 : to_z w64 (of_z w64 c.converted_or_none.result) ≡ c.converted_or_none.result = search (rules, to_z-of_z) in
    let is : converted_or_none c.args.ty c.in-Some.v ≡ to_z w64 (of_z w64 c.converted_or_none.result) = ap (converted_or_none c.args.ty) (sym same) ∙ sym c.converted_or_none.ensures ∙ sym same2 in
    gave_now number run c.args.scope.now.limit c.value.new.scene (converted_or_none c.args.ty c.in-Some.v) rest
    (to_z w64 (of_z w64 c.converted_or_none.result)) c.value.new.clock is
    (gone_on number run c.args.scope.now.limit c.args.clock.now.spent c.args.scene.now _ _ rest c.value.result c.in-Some.v c.value.new.clock
    c.value.new.scene c.in-Some.is (c.value.ensures.does run)
    h)

pub sequence-returns-then-not-tick-clause-does : goal.sequence-returns-then-not-tick-clause-does
sequence-returns-then-not-tick-clause-does t c = λ run rest h.
    no_tick run c.args.scope.now.limit c.args.clock.now.spent c.tick.new.self c.args.scene.now _ rest c.tick.result c.if-not-tick.true c.tick.ensures.idle c.tick.ensures.same h

pub sequence-returns-then-not-tick-clause-here : goal.sequence-returns-then-not-tick-clause-here
sequence-returns-then-not-tick-clause-here t c = λ q none. c.tick.ensures.here c.if-not-tick.true

pub sequence-returns-in_default-clause-does : goal.sequence-returns-in_default-clause-does
sequence-returns-in_default-clause-does t c = λ run rest h.
    gone_none number run c.args.scope.now.limit c.tick.new.self.spent c.args.scene.now _ _ rest c.value.result c.value.new.clock c.value.new.scene c.in_default.is (c.value.ensures.does run)
    (after_tick run c.args.clock.now.spent c.tick.new.self.spent c.args.scene.now _ _ c.tick.result c.if-not-tick.false c.tick.ensures.taken h)

pub sequence-returns-in_default-clause-here : goal.sequence-returns-in_default-clause-here
sequence-returns-in_default-clause-here t c = λ q none. c.value.ensures.here (and_parts (quick (value_of c.args.a.now)) (quick (value_of c.args.b.now)) q).0 c.in_default.is

pub sequence-returns-clause-does : goal.sequence-returns-clause-does
sequence-returns-clause-does t c = λ run rest h.
    c.value-2.ensures.does run rest (gone_on number run c.args.scope.now.limit c.tick.new.self.spent c.args.scene.now _ _ rest c.value.result
    c.in-Some.field-0 c.value.new.clock c.value.new.scene c.in-Some.is (c.value.ensures.does run)
    (after_tick run c.args.clock.now.spent c.tick.new.self.spent c.args.scene.now _ _ c.tick.result c.if-not-tick.false c.tick.ensures.taken h))

pub sequence-returns-clause-here : goal.sequence-returns-clause-here
sequence-returns-clause-here t c = λ q. c.value-2.ensures.here (and_parts (quick (value_of c.args.a.now)) (quick (value_of c.args.b.now)) q).1

pub cast-returns-then-not-tick-clause-does : goal.cast-returns-then-not-tick-clause-does
cast-returns-then-not-tick-clause-does t c = λ run rest h.
    no_tick run c.args.scope.now.limit c.args.clock.now.spent c.tick.new.self c.args.scene.now _ rest c.tick.result c.if-not-tick.true c.tick.ensures.idle c.tick.ensures.same h

pub cast-returns-then-not-tick-clause-here : goal.cast-returns-then-not-tick-clause-here
cast-returns-then-not-tick-clause-here t c = λ q none. c.tick.ensures.here c.if-not-tick.true

pub cast-returns-clause-does : goal.cast-returns-clause-does
cast-returns-clause-does t c = λ run rest h.
    c.conversion.ensures.does run rest (after_tick run c.args.clock.now.spent c.tick.new.self.spent c.args.scene.now _ _ c.tick.result c.if-not-tick.false c.tick.ensures.taken h)

pub cast-returns-clause-here : goal.cast-returns-clause-here
cast-returns-clause-here t c = λ q. c.conversion.ensures.here q

pub discarded-returns-then-not-tick-clause-does : goal.discarded-returns-then-not-tick-clause-does
discarded-returns-then-not-tick-clause-does t c = λ run rest h.
    no_tick run c.args.scope.now.limit c.args.clock.now.spent c.tick.new.self c.args.scene.now _ rest c.tick.result c.if-not-tick.true c.tick.ensures.idle c.tick.ensures.same h

pub discarded-returns-then-not-tick-clause-here : goal.discarded-returns-then-not-tick-clause-here
discarded-returns-then-not-tick-clause-here t c = λ q none. c.tick.ensures.here c.if-not-tick.true

pub discarded-returns-clause-does : goal.discarded-returns-clause-does
discarded-returns-clause-does t c = λ run rest h.
    c.conversion.ensures.does run rest (after_tick run c.args.clock.now.spent c.tick.new.self.spent c.args.scene.now _ _ c.tick.result c.if-not-tick.false c.tick.ensures.taken h)

pub discarded-returns-clause-here : goal.discarded-returns-clause-here
discarded-returns-clause-here t c = λ q. c.conversion.ensures.here q

pub read-returns-in-Some-clause-does : goal.read-returns-in-Some-clause-does
read-returns-in-Some-clause-does t c = λ run rest h.
    c.read_object.ensures.does run rest (read_whole run c.args.clock.now.spent c.args.scene.now rest c.in-Some.n c.position_of.result (position_of (place_of c.args.a.now)) c.position_of.ensures
    (leads_whole run c.args.clock.now.spent c.args.scene.now (λ s. found (place_of c.args.a.now) (program_of c.args.scope.now.program.now) s)
    (λ r s. read (position_of (place_of c.args.a.now)) r s) rest c.whole_object.result c.in-Some.n c.in-Some.is c.whole_object.ensures h))

pub read-returns-in-Some-clause-here : goal.read-returns-in-Some-clause-here
read-returns-in-Some-clause-here t c = λ q. c.read_object.ensures.here refl

pub read_found-returns-in_default-clause-does : goal.read_found-returns-in_default-clause-does
read_found-returns-in_default-clause-does t c = λ run rest h.
    gone_none reference_of run c.args.scope.now.limit c.args.clock.now.spent c.args.scene.now _ _ rest c.place.result c.place.new.clock c.place.new.scene c.in_default.is (c.place.ensures.does run)
    (h)

pub read_found-returns-in_default-clause-here : goal.read_found-returns-in_default-clause-here
read_found-returns-in_default-clause-here t c = λ q none. c.place.ensures.here q c.in_default.is

pub read_found-returns-clause-does : goal.read_found-returns-clause-does
read_found-returns-clause-does t c = λ run rest h.
    gave_with number run c.args.scope.now.limit c.place.new.clock.spent c.place.new.scene c.place.new.scene
    (λ at s. read at (reference_of c.in-Some.r) s) rest c.given.new.self c.given.ensures.spent c.position_of.result
    (position_of (place_of c.args.a.now)) c.position_of.ensures
    (gone_on reference_of run c.args.scope.now.limit c.args.clock.now.spent c.args.scene.now _ _ rest c.place.result c.in-Some.r c.place.new.clock
    c.place.new.scene c.in-Some.is (c.place.ensures.does run)
    (h))
    c.read.result c.given.result c.read.ensures c.given.ensures.gives

pub read_found-returns-clause-here : goal.read_found-returns-clause-here
read_found-returns-clause-here t c = λ q. c.given.ensures.here refl

pub element_read-returns-then-not-tick-clause-does : goal.element_read-returns-then-not-tick-clause-does
element_read-returns-then-not-tick-clause-does t c = λ run rest h.
    no_tick run c.args.scope.now.limit c.args.clock.now.spent c.tick.new.self c.args.scene.now _ rest c.tick.result c.if-not-tick.true
    c.tick.ensures.idle c.tick.ensures.same (reads_element c.args.at.now
    (λ s. found (place_of c.args.array.now) (program_of c.args.scope.now.program.now) s)
    (λ s. valued (value_of c.args.index.now) (program_of c.args.scope.now.program.now) s) run c.args.clock.now.spent c.args.scene.now rest h)

pub element_read-returns-then-not-tick-clause-here : goal.element_read-returns-then-not-tick-clause-here
element_read-returns-then-not-tick-clause-here t c = λ q none. c.tick.ensures.here c.if-not-tick.true

pub element_read-returns-in-Some-clause-does : goal.element_read-returns-in-Some-clause-does
element_read-returns-in-Some-clause-does t c = λ run rest h.
    c.element_of.ensures.does run rest (leads_whole run c.tick.new.self.spent c.args.scene.now (λ s. found (place_of c.args.array.now) (program_of c.args.scope.now.program.now) s)
    (λ r s. then_do (valued (value_of c.args.index.now) (program_of c.args.scope.now.program.now) s)
    (λ v s. then_do (subscripted c.args.at.now r v s) (λ r s. read c.args.at.now r s))) rest c.whole_object.result c.in-Some.n c.in-Some.is
    c.whole_object.ensures
    (after_tick run c.args.clock.now.spent c.tick.new.self.spent c.args.scene.now _ _ c.tick.result c.if-not-tick.false c.tick.ensures.taken
    (reads_element c.args.at.now (λ s. found (place_of c.args.array.now) (program_of c.args.scope.now.program.now) s)
    (λ s. valued (value_of c.args.index.now) (program_of c.args.scope.now.program.now) s) run c.args.clock.now.spent c.args.scene.now rest h)))

pub element_read-returns-in-Some-clause-here : goal.element_read-returns-in-Some-clause-here
element_read-returns-in-Some-clause-here t c = λ q. c.element_of.ensures.here (and_parts (quick_place (place_of c.args.array.now)) (quick (value_of c.args.index.now)) q).1

pub element_read-returns-in-None-clause-does : goal.element_read-returns-in-None-clause-does
element_read-returns-in-None-clause-does t c = λ run rest h.
    c.row_read.ensures.does run rest (after_tick run c.args.clock.now.spent c.tick.new.self.spent c.args.scene.now _ _ c.tick.result
    c.if-not-tick.false c.tick.ensures.taken (reads_element c.args.at.now
    (λ s. found (place_of c.args.array.now) (program_of c.args.scope.now.program.now) s)
    (λ s. valued (value_of c.args.index.now) (program_of c.args.scope.now.program.now) s) run c.args.clock.now.spent c.args.scene.now rest h))

pub element_read-returns-in-None-clause-here : goal.element_read-returns-in-None-clause-here
element_read-returns-in-None-clause-here t c = λ q. c.row_read.ensures.here q

pub element_of-returns-then-not-tick-clause-does : goal.element_of-returns-then-not-tick-clause-does
element_of-returns-then-not-tick-clause-does t c = λ run rest h.
    no_tick run c.args.scope.now.limit c.args.clock.now.spent c.tick.new.self c.args.scene.now _ rest c.tick.result c.if-not-tick.true c.tick.ensures.idle c.tick.ensures.same h

pub element_of-returns-then-not-tick-clause-here : goal.element_of-returns-then-not-tick-clause-here
element_of-returns-then-not-tick-clause-here t c = λ q none. c.tick.ensures.here c.if-not-tick.true

pub element_of-returns-in_default-clause-does : goal.element_of-returns-in_default-clause-does
element_of-returns-in_default-clause-does t c = λ run rest h.
    gone_none number run c.args.scope.now.limit c.tick.new.self.spent c.args.scene.now _ _ rest c.operand.result c.operand.new.clock c.operand.new.scene c.in_default.is (c.operand.ensures.does run)
    (after_tick run c.args.clock.now.spent c.tick.new.self.spent c.args.scene.now _ _ c.tick.result c.if-not-tick.false c.tick.ensures.taken h)

pub element_of-returns-in_default-clause-here : goal.element_of-returns-in_default-clause-here
element_of-returns-in_default-clause-here t c = λ q none. c.operand.ensures.here q c.in_default.is

pub element_of-returns-clause-does : goal.element_of-returns-clause-does
element_of-returns-clause-does t c = λ run rest h.
    let same : to_z w64 (of_z w64 c.in-Some.v) ≡ c.in-Some.v = search (rules, to_z-of_z) in
    gave_with number run c.args.scope.now.limit c.operand.new.clock.spent c.operand.new.scene c.operand.new.scene
    (λ v s. then_do (subscripted c.args.at.now (whole c.args.n) v s) (λ r s. read c.args.at.now r s)) rest c.given.new.self c.given.ensures.spent
    (to_z w64 (of_z w64 c.in-Some.v)) c.in-Some.v same
    (gone_on number run c.args.scope.now.limit c.tick.new.self.spent c.args.scene.now _ _ rest c.operand.result c.in-Some.v c.operand.new.clock
    c.operand.new.scene c.in-Some.is (c.operand.ensures.does run)
    (after_tick run c.args.clock.now.spent c.tick.new.self.spent c.args.scene.now _ _ c.tick.result c.if-not-tick.false c.tick.ensures.taken h))
    c.read_element.result c.given.result c.read_element.ensures c.given.ensures.gives

pub element_of-returns-clause-here : goal.element_of-returns-clause-here
element_of-returns-clause-here t c = λ q. c.given.ensures.here refl

pub row_read-returns-in_default-clause-does : goal.row_read-returns-in_default-clause-does
row_read-returns-in_default-clause-does t c = λ run rest h.
    gone_none reference_of run c.args.scope.now.limit c.args.clock.now.spent c.args.scene.now _ _ rest c.place.result c.place.new.clock c.place.new.scene c.in_default.is (c.place.ensures.does run)
    (h)

pub row_read-returns-in_default-clause-here : goal.row_read-returns-in_default-clause-here
row_read-returns-in_default-clause-here t c = λ q none. c.place.ensures.here (and_parts (quick_place (place_of c.args.array.now)) (quick (value_of c.args.index.now)) q).0 c.in_default.is

pub row_read-returns-in_default-value-clause-does : goal.row_read-returns-in_default-value-clause-does
row_read-returns-in_default-value-clause-does t c = λ run rest h.
    gone_none number run c.args.scope.now.limit c.place.new.clock.spent c.place.new.scene _ _ rest c.value.result c.value.new.clock c.value.new.scene c.in_default-value.is (c.value.ensures.does run)
    (gone_on reference_of run c.args.scope.now.limit c.args.clock.now.spent c.args.scene.now _ _ rest c.place.result c.in-Some.r c.place.new.clock
    c.place.new.scene c.in-Some.is (c.place.ensures.does run)
    (h))

pub row_read-returns-in_default-value-clause-here : goal.row_read-returns-in_default-value-clause-here
row_read-returns-in_default-value-clause-here t c = λ q none. c.value.ensures.here (and_parts (quick_place (place_of c.args.array.now)) (quick (value_of c.args.index.now)) q).1 c.in_default-value.is

pub row_read-returns-clause-does : goal.row_read-returns-clause-does
row_read-returns-clause-does t c = λ run rest h.
    let same : to_z w64 (of_z w64 c.in-Some-value.v) ≡ c.in-Some-value.v = search (rules, to_z-of_z) in
    gave_with number run c.args.scope.now.limit c.value.new.clock.spent c.value.new.scene c.value.new.scene
    (λ v s. then_do (subscripted c.args.at.now (reference_of c.in-Some.r) v s) (λ r s. read c.args.at.now r s)) rest c.given.new.self
    c.given.ensures.spent (to_z w64 (of_z w64 c.in-Some-value.v)) c.in-Some-value.v same
    (gone_on number run c.args.scope.now.limit c.place.new.clock.spent c.place.new.scene _ _ rest c.value.result c.in-Some-value.v c.value.new.clock
    c.value.new.scene c.in-Some-value.is (c.value.ensures.does run)
    (gone_on reference_of run c.args.scope.now.limit c.args.clock.now.spent c.args.scene.now _ _ rest c.place.result c.in-Some.r c.place.new.clock
    c.place.new.scene c.in-Some.is (c.place.ensures.does run)
    (h)))
    c.read_at.result c.given.result c.read_at.ensures c.given.ensures.gives

pub row_read-returns-clause-here : goal.row_read-returns-clause-here
row_read-returns-clause-here t c = λ q. c.given.ensures.here refl

pub assigned-returns-then-not-tick-clause-does : goal.assigned-returns-then-not-tick-clause-does
assigned-returns-then-not-tick-clause-does t c = λ run rest h.
    no_tick run c.args.scope.now.limit c.args.clock.now.spent c.tick.new.self c.args.scene.now _ rest c.tick.result c.if-not-tick.true c.tick.ensures.idle c.tick.ensures.same h

pub assigned-returns-then-not-tick-clause-here : goal.assigned-returns-then-not-tick-clause-here
assigned-returns-then-not-tick-clause-here t c = λ q none. c.tick.ensures.here c.if-not-tick.true

pub assigned-returns-in-Some-clause-does : goal.assigned-returns-in-Some-clause-does
assigned-returns-in-Some-clause-does t c = λ run rest h.
    c.object_assigned.ensures.does run rest (leads_whole run c.tick.new.self.spent c.args.scene.now
    (λ s. found (place_of c.args.a.now) (program_of c.args.scope.now.program.now) s)
    (λ r s. then_do (valued (value_of c.args.e.now) (program_of c.args.scope.now.program.now) s)
    (λ v s. write (program_of c.args.scope.now.program.now) c.args.at.now r (converted c.args.ty v) s)) rest c.whole_object.result c.in-Some.n
    c.in-Some.is c.whole_object.ensures
    (after_tick run c.args.clock.now.spent c.tick.new.self.spent c.args.scene.now _ _ c.tick.result c.if-not-tick.false c.tick.ensures.taken h))

pub assigned-returns-in-Some-clause-here : goal.assigned-returns-in-Some-clause-here
assigned-returns-in-Some-clause-here t c = λ q. c.object_assigned.ensures.here (and_parts (quick_place (place_of c.args.a.now)) (quick (value_of c.args.e.now)) q).1

pub assigned-returns-in-None-clause-does : goal.assigned-returns-in-None-clause-does
assigned-returns-in-None-clause-does t c = λ run rest h.
    c.part_assigned.ensures.does run rest (after_tick run c.args.clock.now.spent c.tick.new.self.spent c.args.scene.now _ _ c.tick.result c.if-not-tick.false c.tick.ensures.taken h)

pub assigned-returns-in-None-clause-here : goal.assigned-returns-in-None-clause-here
assigned-returns-in-None-clause-here t c = λ q. c.part_assigned.ensures.here q

pub object_assigned-returns-then-not-tick-clause-does : goal.object_assigned-returns-then-not-tick-clause-does
object_assigned-returns-then-not-tick-clause-does t c = λ run rest h.
    no_tick run c.args.scope.now.limit c.args.clock.now.spent c.tick.new.self c.args.scene.now _ rest c.tick.result c.if-not-tick.true c.tick.ensures.idle c.tick.ensures.same h

pub object_assigned-returns-then-not-tick-clause-here : goal.object_assigned-returns-then-not-tick-clause-here
object_assigned-returns-then-not-tick-clause-here t c = λ q none. c.tick.ensures.here c.if-not-tick.true

pub object_assigned-returns-in_default-clause-does : goal.object_assigned-returns-in_default-clause-does
object_assigned-returns-in_default-clause-does t c = λ run rest h.
    gone_none number run c.args.scope.now.limit c.tick.new.self.spent c.args.scene.now _ _ rest c.operand.result c.operand.new.clock c.operand.new.scene c.in_default.is (c.operand.ensures.does run)
    (after_tick run c.args.clock.now.spent c.tick.new.self.spent c.args.scene.now _ _ c.tick.result c.if-not-tick.false c.tick.ensures.taken h)

pub object_assigned-returns-in_default-clause-here : goal.object_assigned-returns-in_default-clause-here
object_assigned-returns-in_default-clause-here t c = λ q none. c.operand.ensures.here q c.in_default.is

pub object_assigned-returns-clause-does : goal.object_assigned-returns-clause-does
object_assigned-returns-clause-does t c = λ run rest h.
    let same : to_z w64 (of_z w64 c.in-Some.v) ≡ c.in-Some.v = search (rules, to_z-of_z) in
    let to : ℤ → Reference → State → Run ℤ = λ v r s. write (program_of c.args.scope.now.program.now) c.args.at.now r (converted c.args.ty v) s in
    gave_with_both number run c.args.scope.now.limit c.operand.new.clock.spent c.operand.new.scene c.write.new.self to rest c.given.new.self
    c.given.ensures.spent (to_z w64 (of_z w64 c.in-Some.v)) c.in-Some.v (reference_of c.whole.result) (whole c.args.n) same c.whole.ensures
    (gone_on number run c.args.scope.now.limit c.tick.new.self.spent c.args.scene.now _ _ rest c.operand.result c.in-Some.v c.operand.new.clock
    c.operand.new.scene c.in-Some.is (c.operand.ensures.does run)
    (after_tick run c.args.clock.now.spent c.tick.new.self.spent c.args.scene.now _ _ c.tick.result c.if-not-tick.false c.tick.ensures.taken h))
    c.write.result c.given.result c.write.ensures c.given.ensures.gives

pub object_assigned-returns-clause-here : goal.object_assigned-returns-clause-here
object_assigned-returns-clause-here t c = λ q. c.given.ensures.here refl

pub part_assigned-returns-in_default-clause-does : goal.part_assigned-returns-in_default-clause-does
part_assigned-returns-in_default-clause-does t c = λ run rest h.
    gone_none reference_of run c.args.scope.now.limit c.args.clock.now.spent c.args.scene.now _ _ rest c.place.result c.place.new.clock c.place.new.scene c.in_default.is (c.place.ensures.does run)
    (h)

pub part_assigned-returns-in_default-clause-here : goal.part_assigned-returns-in_default-clause-here
part_assigned-returns-in_default-clause-here t c = λ q none. c.place.ensures.here (and_parts (quick_place (place_of c.args.a.now)) (quick (value_of c.args.e.now)) q).0 c.in_default.is

pub part_assigned-returns-in_default-value-clause-does : goal.part_assigned-returns-in_default-value-clause-does
part_assigned-returns-in_default-value-clause-does t c = λ run rest h.
    gone_none number run c.args.scope.now.limit c.place.new.clock.spent c.place.new.scene _ _ rest c.value.result c.value.new.clock c.value.new.scene c.in_default-value.is (c.value.ensures.does run)
    (gone_on reference_of run c.args.scope.now.limit c.args.clock.now.spent c.args.scene.now _ _ rest c.place.result c.in-Some.r c.place.new.clock
    c.place.new.scene c.in-Some.is (c.place.ensures.does run)
    (h))

pub part_assigned-returns-in_default-value-clause-here : goal.part_assigned-returns-in_default-value-clause-here
part_assigned-returns-in_default-value-clause-here t c = λ q none. c.value.ensures.here (and_parts (quick_place (place_of c.args.a.now)) (quick (value_of c.args.e.now)) q).1 c.in_default-value.is

pub part_assigned-returns-clause-does : goal.part_assigned-returns-clause-does
part_assigned-returns-clause-does t c = λ run rest h.
    let same : to_z w64 (of_z w64 c.in-Some-value.v) ≡ c.in-Some-value.v = search (rules, to_z-of_z) in
    gave_with number run c.args.scope.now.limit c.value.new.clock.spent c.value.new.scene c.write.new.self
    (λ v s. write (program_of c.args.scope.now.program.now) c.args.at.now (reference_of c.in-Some.r) (converted c.args.ty v) s) rest
    c.given.new.self c.given.ensures.spent (to_z w64 (of_z w64 c.in-Some-value.v)) c.in-Some-value.v same
    (gone_on number run c.args.scope.now.limit c.place.new.clock.spent c.place.new.scene _ _ rest c.value.result c.in-Some-value.v c.value.new.clock
    c.value.new.scene c.in-Some-value.is (c.value.ensures.does run)
    (gone_on reference_of run c.args.scope.now.limit c.args.clock.now.spent c.args.scene.now _ _ rest c.place.result c.in-Some.r c.place.new.clock
    c.place.new.scene c.in-Some.is (c.place.ensures.does run)
    (h)))
    c.write.result c.given.result c.write.ensures c.given.ensures.gives

pub part_assigned-returns-clause-here : goal.part_assigned-returns-clause-here
part_assigned-returns-clause-here t c = λ q. c.given.ensures.here refl

pub compound-returns-then-not-tick-clause-does : goal.compound-returns-then-not-tick-clause-does
compound-returns-then-not-tick-clause-does t c = λ at_same run rest h.
    no_tick run c.args.scope.now.limit c.args.clock.now.spent c.tick.new.self c.args.scene.now _ rest c.tick.result c.if-not-tick.true c.tick.ensures.idle c.tick.ensures.same h

pub compound-returns-then-not-tick-clause-here : goal.compound-returns-then-not-tick-clause-here
compound-returns-then-not-tick-clause-here t c = λ q none. c.tick.ensures.here c.if-not-tick.true

pub compound-returns-in-Some-clause-does : goal.compound-returns-in-Some-clause-does
compound-returns-in-Some-clause-does t c = λ at_same run rest h.
    c.object_combined.ensures.does run rest (leads_whole run c.tick.new.self.spent c.args.scene.now
    (λ s. found (place_of c.args.a.now) (program_of c.args.scope.now.program.now) s)
    (λ r s. then_do (valued (value_of c.args.e.now) (program_of c.args.scope.now.program.now) s)
    (λ v s. combined (program_of c.args.scope.now.program.now) c.args.c.now r v s)) rest c.whole_object.result c.in-Some.n c.in-Some.is
    c.whole_object.ensures
    (combines_found run c.tick.new.self.spent c.args.scene.now rest (program_of c.args.scope.now.program.now)
    (λ s. found (place_of c.args.a.now) (program_of c.args.scope.now.program.now) s) (position_of (place_of c.args.a.now)) c.args.c.now
    (λ s. valued (value_of c.args.e.now) (program_of c.args.scope.now.program.now) s) at_same
    (after_tick run c.args.clock.now.spent c.tick.new.self.spent c.args.scene.now _ _ c.tick.result c.if-not-tick.false c.tick.ensures.taken h)))

pub compound-returns-in-Some-clause-here : goal.compound-returns-in-Some-clause-here
compound-returns-in-Some-clause-here t c = λ q. c.object_combined.ensures.here (and_parts (quick_place (place_of c.args.a.now)) (quick (value_of c.args.e.now)) q).1

pub compound-returns-in-None-clause-does : goal.compound-returns-in-None-clause-does
compound-returns-in-None-clause-does t c = λ at_same run rest h.
    c.part_combined.ensures.does run rest (combines_found run c.tick.new.self.spent c.args.scene.now rest (program_of c.args.scope.now.program.now)
    (λ s. found (place_of c.args.a.now) (program_of c.args.scope.now.program.now) s) (position_of (place_of c.args.a.now)) c.args.c.now
    (λ s. valued (value_of c.args.e.now) (program_of c.args.scope.now.program.now) s) at_same
    (after_tick run c.args.clock.now.spent c.tick.new.self.spent c.args.scene.now _ _ c.tick.result c.if-not-tick.false c.tick.ensures.taken h))

pub compound-returns-in-None-clause-here : goal.compound-returns-in-None-clause-here
compound-returns-in-None-clause-here t c = λ q. c.part_combined.ensures.here q

pub object_combined-returns-then-not-tick-clause-does : goal.object_combined-returns-then-not-tick-clause-does
object_combined-returns-then-not-tick-clause-does t c = λ run rest h.
    no_tick run c.args.scope.now.limit c.args.clock.now.spent c.tick.new.self c.args.scene.now _ rest c.tick.result c.if-not-tick.true c.tick.ensures.idle c.tick.ensures.same h

pub object_combined-returns-then-not-tick-clause-here : goal.object_combined-returns-then-not-tick-clause-here
object_combined-returns-then-not-tick-clause-here t c = λ q none. c.tick.ensures.here c.if-not-tick.true

pub object_combined-returns-in_default-clause-does : goal.object_combined-returns-in_default-clause-does
object_combined-returns-in_default-clause-does t c = λ run rest h.
    gone_none number run c.args.scope.now.limit c.tick.new.self.spent c.args.scene.now _ _ rest c.operand.result c.operand.new.clock c.operand.new.scene c.in_default.is (c.operand.ensures.does run)
    (after_tick run c.args.clock.now.spent c.tick.new.self.spent c.args.scene.now _ _ c.tick.result c.if-not-tick.false c.tick.ensures.taken h)

pub object_combined-returns-in_default-clause-here : goal.object_combined-returns-in_default-clause-here
object_combined-returns-in_default-clause-here t c = λ q none. c.operand.ensures.here q c.in_default.is

pub object_combined-returns-clause-does : goal.object_combined-returns-clause-does
object_combined-returns-clause-does t c = λ run rest h.
    let same : to_z w64 (of_z w64 c.in-Some.v) ≡ c.in-Some.v = search (rules, to_z-of_z) in
    let to : ℤ → Reference → State → Run ℤ = λ v r s. combined (program_of c.args.scope.now.program.now) c.args.c.now r v s in
    gave_with_both number run c.args.scope.now.limit c.operand.new.clock.spent c.operand.new.scene c.combine.new.self to rest c.given.new.self
    c.given.ensures.spent (to_z w64 (of_z w64 c.in-Some.v)) c.in-Some.v (reference_of c.whole.result) (whole c.args.n) same c.whole.ensures
    (gone_on number run c.args.scope.now.limit c.tick.new.self.spent c.args.scene.now _ _ rest c.operand.result c.in-Some.v c.operand.new.clock
    c.operand.new.scene c.in-Some.is (c.operand.ensures.does run)
    (after_tick run c.args.clock.now.spent c.tick.new.self.spent c.args.scene.now _ _ c.tick.result c.if-not-tick.false c.tick.ensures.taken h))
    c.combine.result c.given.result c.combine.ensures c.given.ensures.gives

pub object_combined-returns-clause-here : goal.object_combined-returns-clause-here
object_combined-returns-clause-here t c = λ q. c.given.ensures.here refl

pub part_combined-returns-in_default-clause-does : goal.part_combined-returns-in_default-clause-does
part_combined-returns-in_default-clause-does t c = λ run rest h.
    gone_none reference_of run c.args.scope.now.limit c.args.clock.now.spent c.args.scene.now _ _ rest c.place.result c.place.new.clock c.place.new.scene c.in_default.is (c.place.ensures.does run)
    (h)

pub part_combined-returns-in_default-clause-here : goal.part_combined-returns-in_default-clause-here
part_combined-returns-in_default-clause-here t c = λ q none. c.place.ensures.here (and_parts (quick_place (place_of c.args.a.now)) (quick (value_of c.args.e.now)) q).0 c.in_default.is

pub part_combined-returns-in_default-value-clause-does : goal.part_combined-returns-in_default-value-clause-does
part_combined-returns-in_default-value-clause-does t c = λ run rest h.
    gone_none number run c.args.scope.now.limit c.place.new.clock.spent c.place.new.scene _ _ rest c.value.result c.value.new.clock c.value.new.scene c.in_default-value.is (c.value.ensures.does run)
    (gone_on reference_of run c.args.scope.now.limit c.args.clock.now.spent c.args.scene.now _ _ rest c.place.result c.in-Some.r c.place.new.clock
    c.place.new.scene c.in-Some.is (c.place.ensures.does run)
    (h))

pub part_combined-returns-in_default-value-clause-here : goal.part_combined-returns-in_default-value-clause-here
part_combined-returns-in_default-value-clause-here t c = λ q none. c.value.ensures.here (and_parts (quick_place (place_of c.args.a.now)) (quick (value_of c.args.e.now)) q).1 c.in_default-value.is

pub part_combined-returns-clause-does : goal.part_combined-returns-clause-does
part_combined-returns-clause-does t c = λ run rest h.
    let same : to_z w64 (of_z w64 c.in-Some-value.v) ≡ c.in-Some-value.v = search (rules, to_z-of_z) in
    gave_with number run c.args.scope.now.limit c.value.new.clock.spent c.value.new.scene c.combine.new.self
    (λ v s. combined (program_of c.args.scope.now.program.now) c.args.c.now (reference_of c.in-Some.r) v s) rest c.given.new.self
    c.given.ensures.spent (to_z w64 (of_z w64 c.in-Some-value.v)) c.in-Some-value.v same
    (gone_on number run c.args.scope.now.limit c.place.new.clock.spent c.place.new.scene _ _ rest c.value.result c.in-Some-value.v c.value.new.clock
    c.value.new.scene c.in-Some-value.is (c.value.ensures.does run)
    (gone_on reference_of run c.args.scope.now.limit c.args.clock.now.spent c.args.scene.now _ _ rest c.place.result c.in-Some.r c.place.new.clock
    c.place.new.scene c.in-Some.is (c.place.ensures.does run)
    (h)))
    c.combine.result c.given.result c.combine.ensures c.given.ensures.gives

pub part_combined-returns-clause-here : goal.part_combined-returns-clause-here
part_combined-returns-clause-here t c = λ q. c.given.ensures.here refl

pub stepped-returns-then-not-tick-clause-does : goal.stepped-returns-then-not-tick-clause-does
stepped-returns-then-not-tick-clause-does t c = λ at_same run rest h.
    no_tick run c.args.scope.now.limit c.args.clock.now.spent c.tick.new.self c.args.scene.now _ rest c.tick.result c.if-not-tick.true c.tick.ensures.idle c.tick.ensures.same h

pub stepped-returns-then-not-tick-clause-here : goal.stepped-returns-then-not-tick-clause-here
stepped-returns-then-not-tick-clause-here t c = λ q none. c.tick.ensures.here c.if-not-tick.true

pub stepped-returns-in-Some-clause-does : goal.stepped-returns-in-Some-clause-does
stepped-returns-in-Some-clause-does t c = λ at_same run rest h.
    c.object_stepped.ensures.does run rest (leads_whole run c.tick.new.self.spent c.args.scene.now
    (λ s. found (place_of c.args.a.now) (program_of c.args.scope.now.program.now) s)
    (λ r s. stepped (program_of c.args.scope.now.program.now) c.args.c.now r s) rest c.whole_object.result c.in-Some.n c.in-Some.is
    c.whole_object.ensures
    (steps_found run c.tick.new.self.spent c.args.scene.now rest (program_of c.args.scope.now.program.now)
    (λ s. found (place_of c.args.a.now) (program_of c.args.scope.now.program.now) s) (position_of (place_of c.args.a.now)) c.args.c.now at_same
    (after_tick run c.args.clock.now.spent c.tick.new.self.spent c.args.scene.now _ _ c.tick.result c.if-not-tick.false c.tick.ensures.taken h)))

pub stepped-returns-in-Some-clause-here : goal.stepped-returns-in-Some-clause-here
stepped-returns-in-Some-clause-here t c = λ q. c.object_stepped.ensures.here refl

pub stepped-returns-in-None-clause-does : goal.stepped-returns-in-None-clause-does
stepped-returns-in-None-clause-does t c = λ at_same run rest h.
    c.part_stepped.ensures.does run rest (steps_found run c.tick.new.self.spent c.args.scene.now rest (program_of c.args.scope.now.program.now)
    (λ s. found (place_of c.args.a.now) (program_of c.args.scope.now.program.now) s) (position_of (place_of c.args.a.now)) c.args.c.now at_same
    (after_tick run c.args.clock.now.spent c.tick.new.self.spent c.args.scene.now _ _ c.tick.result c.if-not-tick.false c.tick.ensures.taken h))

pub stepped-returns-in-None-clause-here : goal.stepped-returns-in-None-clause-here
stepped-returns-in-None-clause-here t c = λ q. c.part_stepped.ensures.here q

pub part_stepped-returns-in_default-clause-does : goal.part_stepped-returns-in_default-clause-does
part_stepped-returns-in_default-clause-does t c = λ run rest h.
    gone_none reference_of run c.args.scope.now.limit c.args.clock.now.spent c.args.scene.now _ _ rest c.place.result c.place.new.clock c.place.new.scene c.in_default.is (c.place.ensures.does run)
    (h)

pub part_stepped-returns-in_default-clause-here : goal.part_stepped-returns-in_default-clause-here
part_stepped-returns-in_default-clause-here t c = λ q none. c.place.ensures.here q c.in_default.is

pub part_stepped-returns-clause-does : goal.part_stepped-returns-clause-does
part_stepped-returns-clause-does t c = λ run rest h.
    gave number run c.args.scope.now.limit c.place.new.clock.spent c.place.new.scene c.step.new.self
    (λ s. stepped (program_of c.args.scope.now.program.now) c.args.c.now (reference_of c.in-Some.r) s) rest c.given.new.self c.given.ensures.spent
    (gone_on reference_of run c.args.scope.now.limit c.args.clock.now.spent c.args.scene.now _ _ rest c.place.result c.in-Some.r c.place.new.clock
    c.place.new.scene c.in-Some.is (c.place.ensures.does run)
    (h))
    c.step.result c.given.result c.step.ensures c.given.ensures.gives

pub part_stepped-returns-clause-here : goal.part_stepped-returns-clause-here
part_stepped-returns-clause-here t c = λ q. c.given.ensures.here refl

pub element-found-requires : goal.element-found-requires
element-found-requires t c =
    let r = reference_of c.in-Some.r in
    let v = to_z w64 (of_z w64 c.in-Some-value.v) in
    record { leaf = stays_for reference_of (λ s. subscripted c.args.at.now r v s) c.subscripted.result c.value.new.scene c.value.new.scene (λ s. stays_subscripted c.args.at.now r v s) c.subscripted.ensures }

pub read_found-given-requires : goal.read_found-given-requires
read_found-given-requires t c =
    let r = reference_of c.in-Some.r in
    record { leaf = stays_for number (λ s. read c.position_of.result r s) c.read.result c.place.new.scene c.place.new.scene (λ s. stays_read c.position_of.result r s) c.read.ensures }

pub element_of-given-requires : goal.element_of-given-requires
element_of-given-requires t c =
    let r = whole c.args.n in
    let v = to_z w64 (of_z w64 c.in-Some.v) in
    record { leaf = stays_for number (λ s. then_do (subscripted c.args.at.now r v s) (λ r s. read c.args.at.now r s)) c.read_element.result c.operand.new.scene c.operand.new.scene (λ s. stays_element c.args.at.now r v s) c.read_element.ensures }

pub row_read-given-requires : goal.row_read-given-requires
row_read-given-requires t c =
    let r = reference_of c.in-Some.r in
    let v = to_z w64 (of_z w64 c.in-Some-value.v) in
    record { leaf = stays_for number (λ s. then_do (subscripted c.args.at.now r v s) (λ r s. read c.args.at.now r s)) c.read_at.result c.value.new.scene c.value.new.scene (λ s. stays_element c.args.at.now r v s) c.read_at.ensures }

pub object_assigned-given-requires : goal.object_assigned-given-requires
object_assigned-given-requires t c =
    let p = program_of c.args.scope.now.program.now in
    let r = reference_of c.whole.result in
    let v = converted c.args.ty (to_z w64 (of_z w64 c.in-Some.v)) in
    record { leaf = stays_for number (λ s. write p c.args.at.now r v s) c.write.result c.operand.new.scene c.write.new.self (λ s. stays_written p c.args.at.now r v s) c.write.ensures }

pub part_assigned-given-requires : goal.part_assigned-given-requires
part_assigned-given-requires t c =
    let p = program_of c.args.scope.now.program.now in
    let r = reference_of c.in-Some.r in
    let v = converted c.args.ty (to_z w64 (of_z w64 c.in-Some-value.v)) in
    record { leaf = stays_for number (λ s. write p c.args.at.now r v s) c.write.result c.value.new.scene c.write.new.self (λ s. stays_written p c.args.at.now r v s) c.write.ensures }

pub object_combined-given-requires : goal.object_combined-given-requires
object_combined-given-requires t c =
    let p = program_of c.args.scope.now.program.now in
    let r = reference_of c.whole.result in
    let v = to_z w64 (of_z w64 c.in-Some.v) in
    record { leaf = stays_for number (λ s. combined p c.args.c.now r v s) c.combine.result c.operand.new.scene c.combine.new.self (λ s. stays_combined p c.args.c.now r v s) c.combine.ensures }

pub part_combined-given-requires : goal.part_combined-given-requires
part_combined-given-requires t c =
    let p = program_of c.args.scope.now.program.now in
    let r = reference_of c.in-Some.r in
    let v = to_z w64 (of_z w64 c.in-Some-value.v) in
    record { leaf = stays_for number (λ s. combined p c.args.c.now r v s) c.combine.result c.value.new.scene c.combine.new.self (λ s. stays_combined p c.args.c.now r v s) c.combine.ensures }

pub part_stepped-given-requires : goal.part_stepped-given-requires
part_stepped-given-requires t c =
    let p = program_of c.args.scope.now.program.now in
    let r = reference_of c.in-Some.r in
    record { leaf = stays_for number (λ s. stepped p c.args.c.now r s) c.step.result c.place.new.scene c.step.new.self (λ s. stays_stepped p c.args.c.now r s) c.step.ensures }

pub unary-given-requires : goal.unary-given-requires
unary-given-requires t c =
    let x = sign_of c.args.op c.args.ty (to_z w64 (of_z w64 c.in-Some.v)) in
    let scene = c.value.new.scene in
    record { leaf = stays_for number (λ s. computed_at c.args.at.now x s) c.sign_at.result scene scene (λ s. stays_computed c.args.at.now x s) (λ o. c.sign_at.ensures (state_in scene o)) }

pub binary-given-requires : goal.binary-given-requires
binary-given-requires t c =
    let x = operated c.args.op c.args.ty (to_z w64 (of_z w64 c.in-Some.v)) (to_z w64 (of_z w64 c.in-Some-operand.w)) in
    let scene = c.operand-2.new.scene in
    record { leaf = stays_for number (λ s. computed_at c.args.at.now x s) c.operated_at.result scene scene (λ s. stays_computed c.args.at.now x s) (λ o. c.operated_at.ensures (state_in scene o)) }
