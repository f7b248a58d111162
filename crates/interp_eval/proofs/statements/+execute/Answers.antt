use Rattle.std.proofs.Common.{rules, arith, ◌≡◌, sym, ap, refl, ◌∙◌, to_z, of_z, w64, Some, map, option_map, subst}
use Rattle.std.proofs.Math.Facts.{to_z-of_z}
use Rattle.std.specs.Prelude.{true, false, ◌&&◌}
use Rattle.ctypes.specs.Types.{truth, converted}
use Rattle.typed_ast.specs.declared.statements.ForControl.{ForControl}
use Rattle.typed_ast.specs.declared.statements.Statement.{Statement}
use Rattle.typed_ast.specs.View.{program_of, value_of, statement_of, statements_of}
use Rattle.csem.specs.Machine.{Goes, then_do}
use Rattle.csem.specs.Statements.{Normal, Broken, Continued, Returned, all_renewed, after_body, after_switch}
use Rattle.interp_steps.proofs.Held.{lends_for}
use Rattle.interp_store.specs.layer.Agrees.{number}
use Rattle.interp_store.specs.layer.Presents.{call_in, stepped}
use Rattle.interp_store.specs.layer.Views.{flow_of}
use Rattle.interp_store.specs.declared.frames.Flow.TheVariants as flow
use Rattle.interp_eval.specs.layer.Comes.{executed, all_executed, jumped, objects_in}
use Rattle.interp_eval.proofs.Comings.{after_tick, no_tick, gone_on, gone_none, gave_now, leads_as}
use Rattle.interp_eval.proofs.Leaves.{chose}
use Rattle.interp_eval.proofs.Flows.{moved, turned, out, on, headed, fewer}
use Rattle.interp_eval.proofs.Jumps.{those, jumps_with, jumps_then, part_below, part_quick}
use Rattle.std.proofs.lemmas.Bool.{and_parts}
use Rattle.interp_eval.specs.layer.Quick.{quick, quick_control, quick_or, quick_all, quick_statement}
use Rattle.interp_eval.proofs.Here.{rest_quick, no_step, for_declared, for_start, for_turns, first_quick}
use Rattle.interp_eval.proofs.statements.+execute.Goals as goal

pub statement-returns-in-For-clause-here : goal.statement-returns-in-For-clause-here
statement-returns-in-For-clause-here t c = λ q. let i = c.in-For in
    let same = lends_for c.args.a.now i.field-0 i.declared i.control i.a c.deref-in-For-4.result.now c.as_ref-start.result c.as_ref-test.result c.as_ref-step.result
    i.is c.deref-in-For-4.ensures.value (c.as_ref-start.ensures.value ∙ ap (λ (k : ForControl). k.start) c.deref-in-For.ensures)
    (c.as_ref-test.ensures.value ∙ ap (λ (k : ForControl). k.test) c.deref-in-For-2.ensures) (c.as_ref-step.ensures.value ∙ ap (λ (k : ForControl). k.step) c.deref-in-For-3.ensures) in
    let P : Statement → Type 0 = λ a. (quick_control (option_map (λ e. value_of e.now) c.as_ref-start.result) (option_map (λ e. value_of e.now) c.as_ref-test.result)
    (option_map (λ e. value_of e.now) c.as_ref-step.result) && quick_all (statements_of (map statement_of c.deref-in-For-4.result.now)) && quick_statement (statement_of a)) ≡ true in
    c.for_loop.ensures.here (subst P (sym c.deref-in-For-5.ensures) (sym (ap quick_statement same) ∙ q))

pub block-returns-then-not-tick-clause-does : goal.block-returns-then-not-tick-clause-does
block-returns-then-not-tick-clause-does t c = λ run rest h.
    no_tick run c.args.scope.now.limit c.args.clock.now.spent c.tick.new.self c.args.scene.now _ rest c.tick.result c.if-not-tick.true c.tick.ensures.idle c.tick.ensures.same h

pub block-returns-then-not-tick-clause-here : goal.block-returns-then-not-tick-clause-here
block-returns-then-not-tick-clause-here t c = λ q none. c.tick.ensures.here c.if-not-tick.true

pub block-returns-in-Ok-clause-does : goal.block-returns-in-Ok-clause-does
block-returns-in-Ok-clause-does t c = λ run rest h.
    c.all_of.ensures.does run rest (moved run c.tick.new.self.spent c.args.scene.now c.renew_all.new.scene
    (all_renewed (objects_in c.args.scope.now) c.args.first c.args.count)
    (λ s. all_executed (objects_in c.args.scope.now) (statements_of (map statement_of c.args.all.now)) (program_of c.args.scope.now.program.now)
    s) rest c.in-Ok.ensures.ok
    (after_tick run c.args.clock.now.spent c.tick.new.self.spent c.args.scene.now _ _ c.tick.result c.if-not-tick.false c.tick.ensures.taken h))

pub block-returns-in-Ok-clause-here : goal.block-returns-in-Ok-clause-here
block-returns-in-Ok-clause-here t c = λ q. c.all_of.ensures.here q

pub branch-returns-then-not-tick-clause-does : goal.branch-returns-then-not-tick-clause-does
branch-returns-then-not-tick-clause-does t c = λ run rest h.
    no_tick run c.args.scope.now.limit c.args.clock.now.spent c.tick.new.self c.args.scene.now _ rest c.tick.result c.if-not-tick.true c.tick.ensures.idle c.tick.ensures.same h

pub branch-returns-then-not-tick-clause-here : goal.branch-returns-then-not-tick-clause-here
branch-returns-then-not-tick-clause-here t c = λ q none. c.tick.ensures.here c.if-not-tick.true

pub branch-returns-in_default-clause-does : goal.branch-returns-in_default-clause-does
branch-returns-in_default-clause-does t c = λ run rest h.
    gone_none number run c.args.scope.now.limit c.tick.new.self.spent c.args.scene.now _ _ rest c.operand.result c.operand.new.clock c.operand.new.scene c.in_default.is (c.operand.ensures.does run)
    (after_tick run c.args.clock.now.spent c.tick.new.self.spent c.args.scene.now _ _ c.tick.result c.if-not-tick.false c.tick.ensures.taken h)

pub branch-returns-in_default-clause-here : goal.branch-returns-in_default-clause-here
branch-returns-in_default-clause-here t c = λ q none. c.operand.ensures.here (and_parts (quick (value_of c.args.e.now)) (quick_statement (statement_of c.args.a.now)) q).0 c.in_default.is

pub branch-returns-then-is_true-clause-does : goal.branch-returns-then-is_true-clause-does
branch-returns-then-is_true-clause-does t c = λ run rest h.
    let same : to_z w64 (of_z w64 c.in-Some.v) ≡ c.in-Some.v = search (rules, to_z-of_z) in
    let test : truth c.in-Some.v ≡ true = ap truth (sym same) ∙ sym c.is_true.ensures ∙ c.if-is_true.true in
    c.statement.ensures.does run rest (chose run c.operand.new.clock.spent c.operand.new.scene (truth c.in-Some.v) true
    (λ s. executed (objects_in c.args.scope.now) (statement_of c.args.a.now) (program_of c.args.scope.now.program.now) s) (λ s. Goes Normal s)
    rest test
    (gone_on number run c.args.scope.now.limit c.tick.new.self.spent c.args.scene.now _ _ rest c.operand.result c.in-Some.v c.operand.new.clock
    c.operand.new.scene c.in-Some.is (c.operand.ensures.does run)
    (after_tick run c.args.clock.now.spent c.tick.new.self.spent c.args.scene.now _ _ c.tick.result c.if-not-tick.false c.tick.ensures.taken h)))

pub branch-returns-then-is_true-clause-here : goal.branch-returns-then-is_true-clause-here
branch-returns-then-is_true-clause-here t c = λ q. c.statement.ensures.here (and_parts (quick (value_of c.args.e.now)) (quick_statement (statement_of c.args.a.now)) q).1

pub branch-returns-else-is_true-clause-does : goal.branch-returns-else-is_true-clause-does
branch-returns-else-is_true-clause-does t c = λ run rest h.
    let same : to_z w64 (of_z w64 c.in-Some.v) ≡ c.in-Some.v = search (rules, to_z-of_z) in
    let test : truth c.in-Some.v ≡ false = ap truth (sym same) ∙ sym c.is_true.ensures ∙ c.if-is_true.false in
    gave_now flow_of run c.args.scope.now.limit c.operand.new.scene Normal rest flow.Normal c.operand.new.clock refl
    (chose run c.operand.new.clock.spent c.operand.new.scene (truth c.in-Some.v) false
    (λ s. executed (objects_in c.args.scope.now) (statement_of c.args.a.now) (program_of c.args.scope.now.program.now) s) (λ s. Goes Normal s)
    rest test
    (gone_on number run c.args.scope.now.limit c.tick.new.self.spent c.args.scene.now _ _ rest c.operand.result c.in-Some.v c.operand.new.clock
    c.operand.new.scene c.in-Some.is (c.operand.ensures.does run)
    (after_tick run c.args.clock.now.spent c.tick.new.self.spent c.args.scene.now _ _ c.tick.result c.if-not-tick.false c.tick.ensures.taken h)))

pub branches-returns-then-not-tick-clause-does : goal.branches-returns-then-not-tick-clause-does
branches-returns-then-not-tick-clause-does t c = λ run rest h.
    no_tick run c.args.scope.now.limit c.args.clock.now.spent c.tick.new.self c.args.scene.now _ rest c.tick.result c.if-not-tick.true c.tick.ensures.idle c.tick.ensures.same h

pub branches-returns-then-not-tick-clause-here : goal.branches-returns-then-not-tick-clause-here
branches-returns-then-not-tick-clause-here t c = λ q none. c.tick.ensures.here c.if-not-tick.true

pub branches-returns-in_default-clause-does : goal.branches-returns-in_default-clause-does
branches-returns-in_default-clause-does t c = λ run rest h.
    gone_none number run c.args.scope.now.limit c.tick.new.self.spent c.args.scene.now _ _ rest c.operand.result c.operand.new.clock c.operand.new.scene c.in_default.is (c.operand.ensures.does run)
    (after_tick run c.args.clock.now.spent c.tick.new.self.spent c.args.scene.now _ _ c.tick.result c.if-not-tick.false c.tick.ensures.taken h)

pub branches-returns-in_default-clause-here : goal.branches-returns-in_default-clause-here
branches-returns-in_default-clause-here t c = λ q none.
    c.operand.ensures.here (and_parts (quick (value_of c.args.e.now)) (quick_statement (statement_of c.args.a.now)) (and_parts
    (quick (value_of c.args.e.now) && quick_statement (statement_of c.args.a.now)) (quick_statement (statement_of c.args.b.now)) q).0).0 c.in_default.is

pub branches-returns-then-is_true-clause-does : goal.branches-returns-then-is_true-clause-does
branches-returns-then-is_true-clause-does t c = λ run rest h.
    let same : to_z w64 (of_z w64 c.in-Some.v) ≡ c.in-Some.v = search (rules, to_z-of_z) in
    let test : truth c.in-Some.v ≡ true = ap truth (sym same) ∙ sym c.is_true.ensures ∙ c.if-is_true.true in
    c.statement.ensures.does run rest (chose run c.operand.new.clock.spent c.operand.new.scene (truth c.in-Some.v) true
    (λ s. executed (objects_in c.args.scope.now) (statement_of c.args.a.now) (program_of c.args.scope.now.program.now) s)
    (λ s. executed (objects_in c.args.scope.now) (statement_of c.args.b.now) (program_of c.args.scope.now.program.now) s) rest test
    (gone_on number run c.args.scope.now.limit c.tick.new.self.spent c.args.scene.now _ _ rest c.operand.result c.in-Some.v c.operand.new.clock
    c.operand.new.scene c.in-Some.is (c.operand.ensures.does run)
    (after_tick run c.args.clock.now.spent c.tick.new.self.spent c.args.scene.now _ _ c.tick.result c.if-not-tick.false c.tick.ensures.taken h)))

pub branches-returns-then-is_true-clause-here : goal.branches-returns-then-is_true-clause-here
branches-returns-then-is_true-clause-here t c = λ q.
    c.statement.ensures.here (and_parts (quick (value_of c.args.e.now)) (quick_statement (statement_of c.args.a.now)) (and_parts
    (quick (value_of c.args.e.now) && quick_statement (statement_of c.args.a.now)) (quick_statement (statement_of c.args.b.now)) q).0).1

pub branches-returns-else-is_true-clause-does : goal.branches-returns-else-is_true-clause-does
branches-returns-else-is_true-clause-does t c = λ run rest h.
    let same : to_z w64 (of_z w64 c.in-Some.v) ≡ c.in-Some.v = search (rules, to_z-of_z) in
    let test : truth c.in-Some.v ≡ false = ap truth (sym same) ∙ sym c.is_true.ensures ∙ c.if-is_true.false in
    c.statement-else-is_true.ensures.does run rest
    (chose run c.operand.new.clock.spent c.operand.new.scene (truth c.in-Some.v) false
    (λ s. executed (objects_in c.args.scope.now) (statement_of c.args.a.now) (program_of c.args.scope.now.program.now) s)
    (λ s. executed (objects_in c.args.scope.now) (statement_of c.args.b.now) (program_of c.args.scope.now.program.now) s) rest test
    (gone_on number run c.args.scope.now.limit c.tick.new.self.spent c.args.scene.now _ _ rest c.operand.result c.in-Some.v c.operand.new.clock
    c.operand.new.scene c.in-Some.is (c.operand.ensures.does run)
    (after_tick run c.args.clock.now.spent c.tick.new.self.spent c.args.scene.now _ _ c.tick.result c.if-not-tick.false c.tick.ensures.taken h)))

pub branches-returns-else-is_true-clause-here : goal.branches-returns-else-is_true-clause-here
branches-returns-else-is_true-clause-here t c = λ q.
    c.statement-else-is_true.ensures.here (and_parts (quick (value_of c.args.e.now) && quick_statement (statement_of c.args.a.now)) (quick_statement (statement_of c.args.b.now)) q).1

pub switch-returns-then-not-tick-clause-does : goal.switch-returns-then-not-tick-clause-does
switch-returns-then-not-tick-clause-does t c = λ run rest h.
    no_tick run c.args.scope.now.limit c.args.clock.now.spent c.tick.new.self c.args.scene.now _ rest c.tick.result c.if-not-tick.true c.tick.ensures.idle c.tick.ensures.same h

pub switch-returns-then-not-tick-clause-here : goal.switch-returns-then-not-tick-clause-here
switch-returns-then-not-tick-clause-here t c = λ q none. c.tick.ensures.here c.if-not-tick.true

pub switch-returns-in_default-clause-does : goal.switch-returns-in_default-clause-does
switch-returns-in_default-clause-does t c = λ run rest h.
    gone_none number run c.args.scope.now.limit c.tick.new.self.spent c.args.scene.now _ _ rest c.operand.result c.operand.new.clock c.operand.new.scene c.in_default.is (c.operand.ensures.does run)
    (after_tick run c.args.clock.now.spent c.tick.new.self.spent c.args.scene.now _ _ c.tick.result c.if-not-tick.false c.tick.ensures.taken h)

pub switch-returns-in_default-clause-here : goal.switch-returns-in_default-clause-here
switch-returns-in_default-clause-here t c = λ q none.
    c.operand.ensures.here (and_parts (quick (value_of c.args.e.now)) (quick_all (statements_of (map statement_of c.args.all.now))) q).0 c.in_default.is

pub switch-returns-then-not-tick-2-clause-does : goal.switch-returns-then-not-tick-2-clause-does
switch-returns-then-not-tick-2-clause-does t c = λ run rest h.
    no_tick run c.args.scope.now.limit c.operand.new.clock.spent c.tick-2.new.self c.operand.new.scene _ rest c.tick-2.result c.if-not-tick-2.true c.tick-2.ensures.idle c.tick-2.ensures.same
    (gone_on number run c.args.scope.now.limit c.tick.new.self.spent c.args.scene.now _ _ rest c.operand.result c.in-Some.v c.operand.new.clock c.operand.new.scene c.in-Some.is (c.operand.ensures.does run)
    (after_tick run c.args.clock.now.spent c.tick.new.self.spent c.args.scene.now _ _ c.tick.result c.if-not-tick.false c.tick.ensures.taken h))

pub switch-returns-then-not-tick-2-clause-here : goal.switch-returns-then-not-tick-2-clause-here
switch-returns-then-not-tick-2-clause-here t c = λ q none. c.tick-2.ensures.here c.if-not-tick-2.true

pub switch-returns-in-Ok-clause-does : goal.switch-returns-in-Ok-clause-does
switch-returns-in-Ok-clause-does t c = λ run rest h.
    let same : to_z w64 (of_z w64 c.in-Some.v) ≡ c.in-Some.v = search (rules, to_z-of_z) in
    let same2 : to_z w64 (of_z w64 c.convert.result) ≡ c.convert.result = search (rules, to_z-of_z) in
    let is : converted c.args.ty c.in-Some.v ≡ to_z w64 (of_z w64 c.convert.result) = ap (converted c.args.ty) (sym same) ∙ sym c.convert.ensures.value ∙ sym same2 in
    c.jump.ensures.does run rest (jumps_with run c.tick-2.new.self.spent c.renew_all.new.scene (objects_in c.args.scope.now) (converted c.args.ty c.in-Some.v) (to_z w64 (of_z w64 c.convert.result))
    (statements_of (map statement_of c.args.all.now)) (program_of c.args.scope.now.program.now) rest is
    (moved run c.tick-2.new.self.spent c.operand.new.scene c.renew_all.new.scene (all_renewed (objects_in c.args.scope.now) c.args.first c.args.count)
    (jumped (objects_in c.args.scope.now) (converted c.args.ty c.in-Some.v) (statements_of (map statement_of c.args.all.now)) (program_of c.args.scope.now.program.now)) rest c.in-Ok.ensures.ok
    (after_tick run c.operand.new.clock.spent c.tick-2.new.self.spent c.operand.new.scene _ _ c.tick-2.result c.if-not-tick-2.false c.tick-2.ensures.taken
    (gone_on number run c.args.scope.now.limit c.tick.new.self.spent c.args.scene.now _ _ rest c.operand.result c.in-Some.v c.operand.new.clock c.operand.new.scene c.in-Some.is (c.operand.ensures.does run)
    (after_tick run c.args.clock.now.spent c.tick.new.self.spent c.args.scene.now _ _ c.tick.result c.if-not-tick.false c.tick.ensures.taken h)))))

pub switch-returns-in-Ok-clause-here : goal.switch-returns-in-Ok-clause-here
switch-returns-in-Ok-clause-here t c = λ q. c.jump.ensures.here (and_parts (quick (value_of c.args.e.now)) (quick_all (statements_of (map statement_of c.args.all.now))) q).1

pub jump-all_of-requires : goal.jump-all_of-requires
jump-all_of-requires t c =
    let h = part_below c.in-Some.ensures.part.0 c.args.all.now c.in-Some.rest.now c.in-Some.ensures.part.1 in
    (omega (arith, h, c.decreases), c.selected.ensures.spends.1)

pub jump-returns-in_default-clause-does : goal.jump-returns-in_default-clause-does
jump-returns-in_default-clause-does t c = λ run rest h.
    let v = to_z w64 (of_z w64 c.args.value) in
    let same : c.args.value ≡ v = sym (search (rules, to_z-of_z)) in
    gone_none those run c.args.scope.now.limit c.args.clock.now.spent c.args.scene.now _ _ rest c.selected.result c.selected.new.clock c.args.scene.now c.in_default.is
    (c.selected.ensures.does c.args.scene.now run)
    (jumps_then (program_of c.args.scope.now.program.now) (objects_in c.args.scope.now) run c.args.clock.now.spent c.args.scene.now v (statements_of (map statement_of c.args.all.now)) rest
    (jumps_with run c.args.clock.now.spent c.args.scene.now (objects_in c.args.scope.now) c.args.value v (statements_of (map statement_of c.args.all.now)) (program_of c.args.scope.now.program.now) rest same h))

pub jump-returns-in_default-clause-here : goal.jump-returns-in_default-clause-here
jump-returns-in_default-clause-here t c = λ q none. c.selected.ensures.here refl c.in_default.is

pub jump-returns-in-None-clause-does : goal.jump-returns-in-None-clause-does
jump-returns-in-None-clause-does t c = λ run rest h.
    let v = to_z w64 (of_z w64 c.args.value) in
    let same : c.args.value ≡ v = sym (search (rules, to_z-of_z)) in
    gone_none flow_of run c.args.scope.now.limit c.selected.new.clock.spent c.args.scene.now _ _ rest c.all_of.result c.all_of.new.clock c.all_of.new.scene c.in-None.is (c.all_of.ensures.does run)
    (gone_on those run c.args.scope.now.limit c.args.clock.now.spent c.args.scene.now _ _ rest c.selected.result c.in-Some.rest c.selected.new.clock c.args.scene.now c.in-Some.is
    (c.selected.ensures.does c.args.scene.now run)
    (jumps_then (program_of c.args.scope.now.program.now) (objects_in c.args.scope.now) run c.args.clock.now.spent c.args.scene.now v (statements_of (map statement_of c.args.all.now)) rest
    (jumps_with run c.args.clock.now.spent c.args.scene.now (objects_in c.args.scope.now) c.args.value v (statements_of (map statement_of c.args.all.now)) (program_of c.args.scope.now.program.now) rest same h)))

pub jump-returns-in-None-clause-here : goal.jump-returns-in-None-clause-here
jump-returns-in-None-clause-here t c = λ q none.
    c.all_of.ensures.here (part_quick c.in-Some.ensures.part.0 c.args.all.now c.in-Some.rest.now c.in-Some.ensures.part.1 q) c.in-None.is

pub jump-returns-in-Some-all_of-clause-does : goal.jump-returns-in-Some-all_of-clause-does
jump-returns-in-Some-all_of-clause-does t c = λ run rest h.
    let v = to_z w64 (of_z w64 c.args.value) in
    let same : c.args.value ≡ v = sym (search (rules, to_z-of_z)) in
    gave_now flow_of run c.args.scope.now.limit c.all_of.new.scene (flow_of c.left_switch.result) rest c.left_switch.result c.all_of.new.clock refl
    (leads_as run c.all_of.new.clock.spent c.all_of.new.scene (after_switch (flow_of c.in-Some-all_of.flow)) (λ s. Goes (flow_of c.left_switch.result) s) rest c.left_switch.ensures
    (gone_on flow_of run c.args.scope.now.limit c.selected.new.clock.spent c.args.scene.now _ _ rest c.all_of.result c.in-Some-all_of.flow c.all_of.new.clock c.all_of.new.scene c.in-Some-all_of.is (c.all_of.ensures.does run)
    (gone_on those run c.args.scope.now.limit c.args.clock.now.spent c.args.scene.now _ _ rest c.selected.result c.in-Some.rest c.selected.new.clock c.args.scene.now c.in-Some.is
    (c.selected.ensures.does c.args.scene.now run)
    (jumps_then (program_of c.args.scope.now.program.now) (objects_in c.args.scope.now) run c.args.clock.now.spent c.args.scene.now v (statements_of (map statement_of c.args.all.now)) rest
    (jumps_with run c.args.clock.now.spent c.args.scene.now (objects_in c.args.scope.now) c.args.value v (statements_of (map statement_of c.args.all.now)) (program_of c.args.scope.now.program.now) rest same h)))))

pub while_loop-returns-then-not-tick-clause-does : goal.while_loop-returns-then-not-tick-clause-does
while_loop-returns-then-not-tick-clause-does t c = λ run rest h.
    no_tick run c.args.scope.now.limit c.args.clock.now.spent c.tick.new.self c.args.scene.now _ rest c.tick.result c.if-not-tick.true c.tick.ensures.idle c.tick.ensures.same h

pub while_loop-returns-then-not-tick-clause-here : goal.while_loop-returns-then-not-tick-clause-here
while_loop-returns-then-not-tick-clause-here t c = λ q none. c.tick.ensures.here c.if-not-tick.true

pub while_loop-returns-clause-does : goal.while_loop-returns-clause-does
while_loop-returns-clause-does t c = λ run rest h.
    c.turns.ensures.does run rest (after_tick run c.args.clock.now.spent c.tick.new.self.spent c.args.scene.now _ _ c.tick.result c.if-not-tick.false c.tick.ensures.taken h)

pub while_loop-returns-clause-here : goal.while_loop-returns-clause-here
while_loop-returns-clause-here t c = λ q. c.turns.ensures.here (no_step (quick (value_of c.args.e.now)) (quick_statement (statement_of c.args.a.now)) q)

pub do_loop-returns-then-not-tick-clause-does : goal.do_loop-returns-then-not-tick-clause-does
do_loop-returns-then-not-tick-clause-does t c = λ run rest h.
    no_tick run c.args.scope.now.limit c.args.clock.now.spent c.tick.new.self c.args.scene.now _ rest c.tick.result c.if-not-tick.true c.tick.ensures.idle c.tick.ensures.same h

pub do_loop-returns-then-not-tick-clause-here : goal.do_loop-returns-then-not-tick-clause-here
do_loop-returns-then-not-tick-clause-here t c = λ q none. c.tick.ensures.here c.if-not-tick.true

pub do_loop-returns-in-None-clause-does : goal.do_loop-returns-in-None-clause-does
do_loop-returns-in-None-clause-does t c = λ run rest h.
    gone_none flow_of run c.args.scope.now.limit c.tick.new.self.spent c.args.scene.now _ _ rest c.statement.result c.statement.new.clock
    c.statement.new.scene c.in-None.is (c.statement.ensures.does run)
    (after_tick run c.args.clock.now.spent c.tick.new.self.spent c.args.scene.now _ _ c.tick.result c.if-not-tick.false c.tick.ensures.taken h)

pub do_loop-returns-in-None-clause-here : goal.do_loop-returns-in-None-clause-here
do_loop-returns-in-None-clause-here t c = λ q none. c.statement.ensures.here (and_parts (quick (value_of c.args.e.now)) (quick_statement (statement_of c.args.a.now)) q).1 c.in-None.is

pub do_loop-returns-in-Some-Broken-clause-does : goal.do_loop-returns-in-Some-Broken-clause-does
do_loop-returns-in-Some-Broken-clause-does t c = λ run rest h.
    gave_now flow_of run c.args.scope.now.limit c.statement.new.scene Normal rest flow.Normal c.statement.new.clock refl
    (gone_on flow_of run c.args.scope.now.limit c.tick.new.self.spent c.args.scene.now _ _ rest c.statement.result flow.Broken c.statement.new.clock
    c.statement.new.scene (c.in-Some-Broken.is ∙ ap Some c.in-Some-Broken.field-0-is) (c.statement.ensures.does run)
    (after_tick run c.args.clock.now.spent c.tick.new.self.spent c.args.scene.now _ _ c.tick.result c.if-not-tick.false c.tick.ensures.taken h))

pub do_loop-returns-in-Some-Returned-clause-does : goal.do_loop-returns-in-Some-Returned-clause-does
do_loop-returns-in-Some-Returned-clause-does t c = λ run rest h.
    gave_now flow_of run c.args.scope.now.limit c.statement.new.scene (Returned c.in-Some-Returned.v) rest (flow.Returned c.in-Some-Returned.v) c.statement.new.clock refl
    (gone_on flow_of run c.args.scope.now.limit c.tick.new.self.spent c.args.scene.now _ _ rest c.statement.result
    (flow.Returned c.in-Some-Returned.v) c.statement.new.clock c.statement.new.scene
    (c.in-Some-Returned.is ∙ ap Some c.in-Some-Returned.field-0-is) (c.statement.ensures.does run)
    (after_tick run c.args.clock.now.spent c.tick.new.self.spent c.args.scene.now _ _ c.tick.result c.if-not-tick.false c.tick.ensures.taken h))

pub do_loop-returns-in-Some-Normal-clause-does : goal.do_loop-returns-in-Some-Normal-clause-does
do_loop-returns-in-Some-Normal-clause-does t c = λ run rest h.
    c.turns.ensures.does run rest (gone_on flow_of run c.args.scope.now.limit c.tick.new.self.spent c.args.scene.now _ _ rest c.statement.result
    flow.Normal c.statement.new.clock c.statement.new.scene (c.in-Some-Normal.is ∙ ap Some c.in-Some-Normal.field-0-is)
    (c.statement.ensures.does run)
    (after_tick run c.args.clock.now.spent c.tick.new.self.spent c.args.scene.now _ _ c.tick.result c.if-not-tick.false c.tick.ensures.taken h))

pub do_loop-returns-in-Some-Normal-clause-here : goal.do_loop-returns-in-Some-Normal-clause-here
do_loop-returns-in-Some-Normal-clause-here t c = λ q. c.turns.ensures.here (no_step (quick (value_of c.args.e.now)) (quick_statement (statement_of c.args.a.now)) q)

pub do_loop-returns-in-Some-Continued-clause-does : goal.do_loop-returns-in-Some-Continued-clause-does
do_loop-returns-in-Some-Continued-clause-does t c = λ run rest h.
    c.turns-in-Some-Continued.ensures.does run rest
    (gone_on flow_of run c.args.scope.now.limit c.tick.new.self.spent c.args.scene.now _ _ rest c.statement.result flow.Continued
    c.statement.new.clock c.statement.new.scene (c.in-Some-Continued.is ∙ ap Some c.in-Some-Continued.field-0-is) (c.statement.ensures.does run)
    (after_tick run c.args.clock.now.spent c.tick.new.self.spent c.args.scene.now _ _ c.tick.result c.if-not-tick.false c.tick.ensures.taken h))

pub do_loop-returns-in-Some-Continued-clause-here : goal.do_loop-returns-in-Some-Continued-clause-here
do_loop-returns-in-Some-Continued-clause-here t c = λ q. c.turns-in-Some-Continued.ensures.here (no_step (quick (value_of c.args.e.now)) (quick_statement (statement_of c.args.a.now)) q)

pub for_loop-returns-then-not-tick-clause-does : goal.for_loop-returns-then-not-tick-clause-does
for_loop-returns-then-not-tick-clause-does t c = λ run rest h.
    no_tick run c.args.scope.now.limit c.args.clock.now.spent c.tick.new.self c.args.scene.now _ rest c.tick.result c.if-not-tick.true c.tick.ensures.idle c.tick.ensures.same h

pub for_loop-returns-then-not-tick-clause-here : goal.for_loop-returns-then-not-tick-clause-here
for_loop-returns-then-not-tick-clause-here t c = λ q none. c.tick.ensures.here c.if-not-tick.true

pub for_loop-returns-in_default-clause-does : goal.for_loop-returns-in_default-clause-does
for_loop-returns-in_default-clause-does t c = λ run rest h.
    gone_none flow_of run c.args.scope.now.limit c.tick.new.self.spent c.args.scene.now _ _ rest c.all_of.result c.all_of.new.clock c.all_of.new.scene c.in_default.is (c.all_of.ensures.does run)
    (after_tick run c.args.clock.now.spent c.tick.new.self.spent c.args.scene.now _ _ c.tick.result c.if-not-tick.false c.tick.ensures.taken h)

pub for_loop-returns-in_default-clause-here : goal.for_loop-returns-in_default-clause-here
for_loop-returns-in_default-clause-here t c = λ q none.
    c.all_of.ensures.here (for_declared (quick_or (option_map (λ e. value_of e.now) c.args.start)) (quick_or (option_map (λ e. value_of e.now) c.args.test))
    (quick_or (option_map (λ e. value_of e.now) c.args.step)) (quick_all (statements_of (map statement_of c.args.declared.now))) (quick_statement (statement_of c.args.a.now)) q) c.in_default.is

pub for_loop-returns-in_default-value_or-clause-does : goal.for_loop-returns-in_default-value_or-clause-does
for_loop-returns-in_default-value_or-clause-does t c = λ run rest h.
    gone_none number run c.args.scope.now.limit c.all_of.new.clock.spent c.all_of.new.scene _ _ rest c.value_or.result c.value_or.new.clock
    c.value_or.new.scene c.in_default-value_or.is (c.value_or.ensures.does run)
    (gone_on flow_of run c.args.scope.now.limit c.tick.new.self.spent c.args.scene.now _ _ rest c.all_of.result c.in-Some.field-0 c.all_of.new.clock
    c.all_of.new.scene c.in-Some.is (c.all_of.ensures.does run)
    (after_tick run c.args.clock.now.spent c.tick.new.self.spent c.args.scene.now _ _ c.tick.result c.if-not-tick.false c.tick.ensures.taken h))

pub for_loop-returns-in_default-value_or-clause-here : goal.for_loop-returns-in_default-value_or-clause-here
for_loop-returns-in_default-value_or-clause-here t c = λ q none.
    c.value_or.ensures.here (for_start (quick_or (option_map (λ e. value_of e.now) c.args.start)) (quick_or (option_map (λ e. value_of e.now) c.args.test))
    (quick_or (option_map (λ e. value_of e.now) c.args.step)) (quick_all (statements_of (map statement_of c.args.declared.now)))
    (quick_statement (statement_of c.args.a.now)) q) c.in_default-value_or.is

pub for_loop-returns-clause-does : goal.for_loop-returns-clause-does
for_loop-returns-clause-does t c = λ run rest h.
    c.turns.ensures.does run rest (gone_on number run c.args.scope.now.limit c.all_of.new.clock.spent c.all_of.new.scene _ _ rest c.value_or.result
    c.in-Some-value_or.field-0 c.value_or.new.clock c.value_or.new.scene c.in-Some-value_or.is (c.value_or.ensures.does run)
    (gone_on flow_of run c.args.scope.now.limit c.tick.new.self.spent c.args.scene.now _ _ rest c.all_of.result c.in-Some.field-0 c.all_of.new.clock
    c.all_of.new.scene c.in-Some.is (c.all_of.ensures.does run)
    (after_tick run c.args.clock.now.spent c.tick.new.self.spent c.args.scene.now _ _ c.tick.result c.if-not-tick.false c.tick.ensures.taken h)))

pub for_loop-returns-clause-here : goal.for_loop-returns-clause-here
for_loop-returns-clause-here t c = λ q.
    c.turns.ensures.here (for_turns (quick_or (option_map (λ e. value_of e.now) c.args.start)) (quick_or (option_map (λ e. value_of e.now) c.args.test))
    (quick_or (option_map (λ e. value_of e.now) c.args.step)) (quick_all (statements_of (map statement_of c.args.declared.now))) (quick_statement (statement_of c.args.a.now)) q)

pub all_of-returns-in-None-clause-does : goal.all_of-returns-in-None-clause-does
all_of-returns-in-None-clause-does t c = λ run rest h.
    gone_none flow_of run c.args.scope.now.limit c.loop-a.clock.spent c.loop-a.scene _ _ rest c.statement.result c.statement.new.clock c.statement.new.scene c.in-None.is (c.statement.ensures.does run)
    (headed run c.loop-a.clock.spent c.loop-a.scene (program_of c.args.scope.now.program.now) (objects_in c.args.scope.now) c.loop-a.rest.now
    c.in-Some.a.now c.in-Some.more.now rest c.in-Some.ensures.cases.0 (c.loop-a.invariant.leads run rest h))

pub all_of-returns-in-None-clause-here : goal.all_of-returns-in-None-clause-here
all_of-returns-in-None-clause-here t c = λ q none.
    c.statement.ensures.here (first_quick c.loop-a.rest.now c.in-Some.a.now c.in-Some.more.now c.in-Some.ensures.cases.0 (c.loop-a.invariant.here q)) c.in-None.is

pub all_of-returns-in-Some-Broken-clause-does : goal.all_of-returns-in-Some-Broken-clause-does
all_of-returns-in-Some-Broken-clause-does t c = λ run rest h.
    gave_now flow_of run c.args.scope.now.limit c.statement.new.scene Broken rest flow.Broken c.statement.new.clock refl
    (gone_on flow_of run c.args.scope.now.limit c.loop-a.clock.spent c.loop-a.scene _ _ rest c.statement.result flow.Broken c.statement.new.clock
    c.statement.new.scene (c.in-Some-Broken.is ∙ ap Some c.in-Some-Broken.field-0-is) (c.statement.ensures.does run)
    (headed run c.loop-a.clock.spent c.loop-a.scene (program_of c.args.scope.now.program.now) (objects_in c.args.scope.now) c.loop-a.rest.now
    c.in-Some.a.now c.in-Some.more.now rest c.in-Some.ensures.cases.0 (c.loop-a.invariant.leads run rest h)))

pub all_of-returns-in-Some-Continued-clause-does : goal.all_of-returns-in-Some-Continued-clause-does
all_of-returns-in-Some-Continued-clause-does t c = λ run rest h.
    gave_now flow_of run c.args.scope.now.limit c.statement.new.scene Continued rest flow.Continued c.statement.new.clock refl
    (gone_on flow_of run c.args.scope.now.limit c.loop-a.clock.spent c.loop-a.scene _ _ rest c.statement.result flow.Continued c.statement.new.clock
    c.statement.new.scene (c.in-Some-Continued.is ∙ ap Some c.in-Some-Continued.field-0-is) (c.statement.ensures.does run)
    (headed run c.loop-a.clock.spent c.loop-a.scene (program_of c.args.scope.now.program.now) (objects_in c.args.scope.now) c.loop-a.rest.now
    c.in-Some.a.now c.in-Some.more.now rest c.in-Some.ensures.cases.0 (c.loop-a.invariant.leads run rest h)))

pub all_of-returns-in-Some-Returned-clause-does : goal.all_of-returns-in-Some-Returned-clause-does
all_of-returns-in-Some-Returned-clause-does t c = λ run rest h.
    gave_now flow_of run c.args.scope.now.limit c.statement.new.scene (Returned c.in-Some-Returned.v) rest (flow.Returned c.in-Some-Returned.v) c.statement.new.clock refl
    (gone_on flow_of run c.args.scope.now.limit c.loop-a.clock.spent c.loop-a.scene _ _ rest c.statement.result (flow.Returned c.in-Some-Returned.v)
    c.statement.new.clock c.statement.new.scene (c.in-Some-Returned.is ∙ ap Some c.in-Some-Returned.field-0-is) (c.statement.ensures.does run)
    (headed run c.loop-a.clock.spent c.loop-a.scene (program_of c.args.scope.now.program.now) (objects_in c.args.scope.now) c.loop-a.rest.now
    c.in-Some.a.now c.in-Some.more.now rest c.in-Some.ensures.cases.0 (c.loop-a.invariant.leads run rest h)))

pub all_of-loop-a-preserved : goal.all_of-loop-a-preserved
all_of-loop-a-preserved t c = record {
  spends = (omega (arith, c.loop-a.invariant.spends.0, c.statement.ensures.spends.0), c.statement.ensures.spends.1);
  below = fewer c.loop-a.rest.now c.in-Some.a.now c.in-Some.more.now _ c.in-Some.ensures.cases.0 c.loop-a.invariant.below;
  here = λ q. rest_quick c.loop-a.rest.now c.in-Some.a.now c.in-Some.more.now c.in-Some.ensures.cases.0 (c.loop-a.invariant.here q);
  leads = λ run rest h. (gone_on flow_of run c.args.scope.now.limit c.loop-a.clock.spent c.loop-a.scene _ _ rest c.statement.result flow.Normal
      c.statement.new.clock c.statement.new.scene (c.in-Some-Normal.is ∙ ap Some c.in-Some-Normal.field-0-is) (c.statement.ensures.does run)
      (headed run c.loop-a.clock.spent c.loop-a.scene (program_of c.args.scope.now.program.now) (objects_in c.args.scope.now) c.loop-a.rest.now
      c.in-Some.a.now c.in-Some.more.now rest c.in-Some.ensures.cases.0 (c.loop-a.invariant.leads run rest h)));
}

pub turns-returns-in_default-clause-does : goal.turns-returns-in_default-clause-does
turns-returns-in_default-clause-does t c = λ run rest h.
    gone_none number run c.args.scope.now.limit c.loop-v.clock.spent c.loop-v.scene _ _ rest c.value_or.result c.value_or.new.clock c.value_or.new.scene c.in_default.is (c.value_or.ensures.does run)
    (turned run c.loop-v.clock.spent c.loop-v.scene (program_of c.args.scope.now.program.now) (objects_in c.args.scope.now)
    (option_map (λ e. value_of e.now) c.args.test) (statement_of c.args.a.now) (option_map (λ e. value_of e.now) c.args.step) rest
    (c.loop-v.invariant.leads run rest h))

pub turns-returns-in_default-clause-here : goal.turns-returns-in_default-clause-here
turns-returns-in_default-clause-here t c = λ q none.
    c.value_or.ensures.here (and_parts (quick_or (option_map (λ e. value_of e.now) c.args.test)) (quick_statement (statement_of c.args.a.now)) (and_parts
    (quick_or (option_map (λ e. value_of e.now) c.args.test) && quick_statement (statement_of c.args.a.now)) (quick_or (option_map (λ e. value_of e.now) c.args.step)) q).0).0 c.in_default.is

pub turns-returns-then-not-is_true-clause-does : goal.turns-returns-then-not-is_true-clause-does
turns-returns-then-not-is_true-clause-does t c = λ run rest h.
    let same : to_z w64 (of_z w64 c.in-Some.v) ≡ c.in-Some.v = search (rules, to_z-of_z) in
    let test : truth c.in-Some.v ≡ false = ap truth (sym same) ∙ sym c.is_true.ensures ∙ c.if-not-is_true.true in
    gave_now flow_of run c.args.scope.now.limit c.value_or.new.scene Normal rest flow.Normal c.value_or.new.clock refl
    (chose run c.value_or.new.clock.spent c.value_or.new.scene (truth c.in-Some.v) false
    (λ s. then_do (executed (objects_in c.args.scope.now) (statement_of c.args.a.now) (program_of c.args.scope.now.program.now) s)
    (λ flow s. after_body flow s (λ s. stepped (program_of c.args.scope.now.program.now) (call_in (program_of c.args.scope.now.program.now))
    (objects_in c.args.scope.now) (option_map (λ e. value_of e.now) c.args.test) (statement_of c.args.a.now)
    (option_map (λ e. value_of e.now) c.args.step) s))) (λ s. Goes Normal s) rest test
    (gone_on number run c.args.scope.now.limit c.loop-v.clock.spent c.loop-v.scene _ _ rest c.value_or.result c.in-Some.v c.value_or.new.clock
    c.value_or.new.scene c.in-Some.is (c.value_or.ensures.does run)
    (turned run c.loop-v.clock.spent c.loop-v.scene (program_of c.args.scope.now.program.now) (objects_in c.args.scope.now)
    (option_map (λ e. value_of e.now) c.args.test) (statement_of c.args.a.now) (option_map (λ e. value_of e.now) c.args.step) rest
    (c.loop-v.invariant.leads run rest h))))

pub turns-returns-in_default-statement-clause-does : goal.turns-returns-in_default-statement-clause-does
turns-returns-in_default-statement-clause-does t c = λ run rest h.
    let same : to_z w64 (of_z w64 c.in-Some.v) ≡ c.in-Some.v = search (rules, to_z-of_z) in
    let test : truth c.in-Some.v ≡ true = ap truth (sym same) ∙ sym c.is_true.ensures ∙ c.if-not-is_true.false in
    gone_none flow_of run c.args.scope.now.limit c.value_or.new.clock.spent c.value_or.new.scene _ _ rest c.statement.result c.statement.new.clock
    c.statement.new.scene c.in_default-statement.is (c.statement.ensures.does run)
    (chose run c.value_or.new.clock.spent c.value_or.new.scene (truth c.in-Some.v) true
    (λ s. then_do (executed (objects_in c.args.scope.now) (statement_of c.args.a.now) (program_of c.args.scope.now.program.now) s)
    (λ flow s. after_body flow s (λ s. stepped (program_of c.args.scope.now.program.now) (call_in (program_of c.args.scope.now.program.now))
    (objects_in c.args.scope.now) (option_map (λ e. value_of e.now) c.args.test) (statement_of c.args.a.now)
    (option_map (λ e. value_of e.now) c.args.step) s))) (λ s. Goes Normal s) rest test
    (gone_on number run c.args.scope.now.limit c.loop-v.clock.spent c.loop-v.scene _ _ rest c.value_or.result c.in-Some.v c.value_or.new.clock
    c.value_or.new.scene c.in-Some.is (c.value_or.ensures.does run)
    (turned run c.loop-v.clock.spent c.loop-v.scene (program_of c.args.scope.now.program.now) (objects_in c.args.scope.now)
    (option_map (λ e. value_of e.now) c.args.test) (statement_of c.args.a.now) (option_map (λ e. value_of e.now) c.args.step) rest
    (c.loop-v.invariant.leads run rest h))))

pub turns-returns-in_default-statement-clause-here : goal.turns-returns-in_default-statement-clause-here
turns-returns-in_default-statement-clause-here t c = λ q none.
    c.statement.ensures.here (and_parts (quick_or (option_map (λ e. value_of e.now) c.args.test)) (quick_statement (statement_of c.args.a.now)) (and_parts
    (quick_or (option_map (λ e. value_of e.now) c.args.test) && quick_statement (statement_of c.args.a.now)) (quick_or (option_map (λ e. value_of e.now) c.args.step)) q).0).1 c.in_default-statement.is

pub turns-returns-in-Some-left_by-clause-does : goal.turns-returns-in-Some-left_by-clause-does
turns-returns-in-Some-left_by-clause-does t c = λ run rest h.
    let same : to_z w64 (of_z w64 c.in-Some.v) ≡ c.in-Some.v = search (rules, to_z-of_z) in
    let test : truth c.in-Some.v ≡ true = ap truth (sym same) ∙ sym c.is_true.ensures ∙ c.if-not-is_true.false in
    let is = sym c.left_by.ensures ∙ ap (option_map flow_of) c.in-Some-left_by.is in
    gave_now flow_of run c.args.scope.now.limit c.statement.new.scene (flow_of c.in-Some-left_by.out) rest c.in-Some-left_by.out c.statement.new.clock refl
    (out run c.statement.new.clock.spent c.statement.new.scene (flow_of c.in-Some-statement.flow) (flow_of c.in-Some-left_by.out)
    (λ s. stepped (program_of c.args.scope.now.program.now) (call_in (program_of c.args.scope.now.program.now)) (objects_in c.args.scope.now)
    (option_map (λ e. value_of e.now) c.args.test) (statement_of c.args.a.now) (option_map (λ e. value_of e.now) c.args.step) s) rest is
    (gone_on flow_of run c.args.scope.now.limit c.value_or.new.clock.spent c.value_or.new.scene _ _ rest c.statement.result c.in-Some-statement.flow
    c.statement.new.clock c.statement.new.scene c.in-Some-statement.is (c.statement.ensures.does run)
    (chose run c.value_or.new.clock.spent c.value_or.new.scene (truth c.in-Some.v) true
    (λ s. then_do (executed (objects_in c.args.scope.now) (statement_of c.args.a.now) (program_of c.args.scope.now.program.now) s)
    (λ flow s. after_body flow s (λ s. stepped (program_of c.args.scope.now.program.now) (call_in (program_of c.args.scope.now.program.now))
    (objects_in c.args.scope.now) (option_map (λ e. value_of e.now) c.args.test) (statement_of c.args.a.now)
    (option_map (λ e. value_of e.now) c.args.step) s))) (λ s. Goes Normal s) rest test
    (gone_on number run c.args.scope.now.limit c.loop-v.clock.spent c.loop-v.scene _ _ rest c.value_or.result c.in-Some.v c.value_or.new.clock
    c.value_or.new.scene c.in-Some.is (c.value_or.ensures.does run)
    (turned run c.loop-v.clock.spent c.loop-v.scene (program_of c.args.scope.now.program.now) (objects_in c.args.scope.now)
    (option_map (λ e. value_of e.now) c.args.test) (statement_of c.args.a.now) (option_map (λ e. value_of e.now) c.args.step) rest
    (c.loop-v.invariant.leads run rest h))))))

pub turns-returns-in_default-value_or-clause-does : goal.turns-returns-in_default-value_or-clause-does
turns-returns-in_default-value_or-clause-does t c = λ run rest h.
    let same : to_z w64 (of_z w64 c.in-Some.v) ≡ c.in-Some.v = search (rules, to_z-of_z) in
    let test : truth c.in-Some.v ≡ true = ap truth (sym same) ∙ sym c.is_true.ensures ∙ c.if-not-is_true.false in
    let is = sym c.left_by.ensures ∙ ap (option_map flow_of) c.in_default-left_by.is in
    gone_none number run c.args.scope.now.limit c.statement.new.clock.spent c.statement.new.scene _ _ rest c.value_or-in-loop-v.result
    c.value_or-in-loop-v.new.clock c.value_or-in-loop-v.new.scene c.in_default-value_or.is (c.value_or-in-loop-v.ensures.does run)
    (on run c.statement.new.clock.spent c.statement.new.scene (flow_of c.in-Some-statement.flow)
    (λ s. stepped (program_of c.args.scope.now.program.now) (call_in (program_of c.args.scope.now.program.now)) (objects_in c.args.scope.now)
    (option_map (λ e. value_of e.now) c.args.test) (statement_of c.args.a.now) (option_map (λ e. value_of e.now) c.args.step) s) rest is
    (gone_on flow_of run c.args.scope.now.limit c.value_or.new.clock.spent c.value_or.new.scene _ _ rest c.statement.result c.in-Some-statement.flow
    c.statement.new.clock c.statement.new.scene c.in-Some-statement.is (c.statement.ensures.does run)
    (chose run c.value_or.new.clock.spent c.value_or.new.scene (truth c.in-Some.v) true
    (λ s. then_do (executed (objects_in c.args.scope.now) (statement_of c.args.a.now) (program_of c.args.scope.now.program.now) s)
    (λ flow s. after_body flow s (λ s. stepped (program_of c.args.scope.now.program.now) (call_in (program_of c.args.scope.now.program.now))
    (objects_in c.args.scope.now) (option_map (λ e. value_of e.now) c.args.test) (statement_of c.args.a.now)
    (option_map (λ e. value_of e.now) c.args.step) s))) (λ s. Goes Normal s) rest test
    (gone_on number run c.args.scope.now.limit c.loop-v.clock.spent c.loop-v.scene _ _ rest c.value_or.result c.in-Some.v c.value_or.new.clock
    c.value_or.new.scene c.in-Some.is (c.value_or.ensures.does run)
    (turned run c.loop-v.clock.spent c.loop-v.scene (program_of c.args.scope.now.program.now) (objects_in c.args.scope.now)
    (option_map (λ e. value_of e.now) c.args.test) (statement_of c.args.a.now) (option_map (λ e. value_of e.now) c.args.step) rest
    (c.loop-v.invariant.leads run rest h))))))

pub turns-returns-in_default-value_or-clause-here : goal.turns-returns-in_default-value_or-clause-here
turns-returns-in_default-value_or-clause-here t c = λ q none.
    c.value_or-in-loop-v.ensures.here (and_parts (quick_or (option_map (λ e. value_of e.now) c.args.test) && quick_statement (statement_of c.args.a.now))
    (quick_or (option_map (λ e. value_of e.now) c.args.step)) q).1 c.in_default-value_or.is

pub turns-loop-v-preserved : goal.turns-loop-v-preserved
turns-loop-v-preserved t c =
    let same : to_z w64 (of_z w64 c.in-Some.v) ≡ c.in-Some.v = search (rules, to_z-of_z) in
    let test : truth c.in-Some.v ≡ true = ap truth (sym same) ∙ sym c.is_true.ensures ∙ c.if-not-is_true.false in
    let is = sym c.left_by.ensures ∙ ap (option_map flow_of) c.in_default-left_by.is in
    record {
      spends = (omega (arith, c.loop-v.invariant.spends.0, c.value_or.ensures.spends.0, c.statement.ensures.spends.0, c.value_or-in-loop-v.ensures.spends.0), c.value_or-in-loop-v.ensures.spends.1);
      leads = λ run rest h. (gone_on number run c.args.scope.now.limit c.statement.new.clock.spent c.statement.new.scene _ _ rest
          c.value_or-in-loop-v.result c.in-Some-value_or.field-0 c.value_or-in-loop-v.new.clock c.value_or-in-loop-v.new.scene c.in-Some-value_or.is
          (c.value_or-in-loop-v.ensures.does run)
          (on run c.statement.new.clock.spent c.statement.new.scene (flow_of c.in-Some-statement.flow)
          (λ s. stepped (program_of c.args.scope.now.program.now) (call_in (program_of c.args.scope.now.program.now))
          (objects_in c.args.scope.now) (option_map (λ e. value_of e.now) c.args.test) (statement_of c.args.a.now)
          (option_map (λ e. value_of e.now) c.args.step) s) rest is
          (gone_on flow_of run c.args.scope.now.limit c.value_or.new.clock.spent c.value_or.new.scene _ _ rest c.statement.result
          c.in-Some-statement.flow c.statement.new.clock c.statement.new.scene c.in-Some-statement.is (c.statement.ensures.does run)
          (chose run c.value_or.new.clock.spent c.value_or.new.scene (truth c.in-Some.v) true
          (λ s. then_do (executed (objects_in c.args.scope.now) (statement_of c.args.a.now) (program_of c.args.scope.now.program.now) s)
          (λ flow s. after_body flow s (λ s. stepped (program_of c.args.scope.now.program.now) (call_in (program_of c.args.scope.now.program.now))
          (objects_in c.args.scope.now) (option_map (λ e. value_of e.now) c.args.test) (statement_of c.args.a.now)
          (option_map (λ e. value_of e.now) c.args.step) s))) (λ s. Goes Normal s) rest test
          (gone_on number run c.args.scope.now.limit c.loop-v.clock.spent c.loop-v.scene _ _ rest c.value_or.result c.in-Some.v c.value_or.new.clock
          c.value_or.new.scene c.in-Some.is (c.value_or.ensures.does run)
          (turned run c.loop-v.clock.spent c.loop-v.scene (program_of c.args.scope.now.program.now) (objects_in c.args.scope.now)
          (option_map (λ e. value_of e.now) c.args.test) (statement_of c.args.a.now) (option_map (λ e. value_of e.now) c.args.step) rest
          (c.loop-v.invariant.leads run rest h)))))));
    }
