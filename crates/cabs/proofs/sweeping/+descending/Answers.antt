use Rattle.std.proofs.Common.{true, false, pos, rules, ◌≡◌, ◌∙◌, [], List, Bor, ap, map, sym, to_z, of_z, w64}
use Rattle.std.proofs.Math.Facts.{to_z-of_z}
use Rattle.typing_spec.specs.Program as typed
use Rattle.typed_ast.specs.declared.units.Program as unit
use Rattle.typed_ast.specs.declared.expressions.Argument.{Argument}
use Rattle.csem.specs.Expressions as meaning
use Rattle.ctypes.specs.Types.{truth}
use Rattle.csem.specs.Machine.{State, choose}
use Rattle.srcset.specs.declared.refusal.Pos.{Pos}
use Rattle.interp_store.specs.declared.frames.Passed.{Passed}
use Rattle.interp_store.specs.layer.Frames.{Moved}
use Rattle.typed_ast.specs.View.{argument_of, arguments_of, callee_of, place_of, program_of, value_of}
use Rattle.interp_store.proofs.Held.{sees_call}
use Rattle.interp_store.specs.layer.Agrees.{frames_of}
use Rattle.interp_store.specs.layer.Frames as on
use Rattle.interp_store.specs.layer.Steps.{asked_for, goes, waits}
use Rattle.interp_store.specs.layer.Views.{frame_of, passed_of, step_of}
use Rattle.cabs.specs.inside.Sweeping.{steps_to}
use Rattle.cabs.proofs.Seen.{sees_assigned, sees_binary, sees_both, sees_cast, sees_chosen, sees_compound, sees_discarded, sees_one, sees_sequence, sees_unary}
use Rattle.interp_store.specs.View.{reference_of}
use Rattle.cabs.proofs.Sweeps.{picks_true, picks_false, after_as, found_none, no_memory, on_false, on_stack, on_true, on_with, ticked, ticked_as, unticked}
use Rattle.cabs.proofs.sweeping.+descending.Goals as goal

pub binary-returns-in_default-clause-does : goal.binary-returns-in_default-clause-does
binary-returns-in_default-clause-does t c = λ run h.
    let m = c.args.machine.now in
    let o = c.args.operation in
    let f = on.right o.at o.op o.ty (value_of c.args.b.now) in
    found_none on.a_value run (program_of m.program.now) f c.args.limit c.value_here.result c.value_here.new.clock c.value_here.new.machine c.in_default.is (c.value_here.ensures.does run f h)

pub binary-returns-clause-does : goal.binary-returns-clause-does
binary-returns-clause-does t c = λ run h.
    let m = c.args.machine.now in
    let new = c.value_here.new.machine in
    let p = program_of m.program.now in
    let o = c.args.operation in
    let b = on.value (value_of c.args.b.now) in
    let v = c.in-Some.v in
    let same : to_z w64 (of_z w64 v) ≡ v = search (rules, to_z-of_z) in
    on_with (λ x. steps_to (step_of x)) c.args.limit (λ p s. waits (on.applies o.at o.op o.ty (to_z w64 (of_z w64 v))) b s) run p new c.later-2.new.machine c.value_here.new.clock c.later-2.new.clock c.later-2.result
    (ap (λ (b : Bor unit.Program). program_of b.now) c.value_here.ensures.program) c.later-2.ensures.does
    (after_as run p c.value_here.new.clock.spent (frames_of new) new.scene (λ s. waits (on.applies o.at o.op o.ty v) b s) (λ s. waits (on.applies o.at o.op o.ty (to_z w64 (of_z w64 v))) b s)
    (λ s. ap (λ v. waits (on.applies o.at o.op o.ty v) b s) (sym same)) (c.in-Some.ensures.does run (on.right o.at o.op o.ty (value_of c.args.b.now)) h))

pub assigned-returns-then-not-wait_in-clause-does : goal.assigned-returns-then-not-wait_in-clause-does
assigned-returns-then-not-wait_in-clause-does t c = λ run h.
    no_memory run c.args.limit c.wait_in.new.clock.spent c.wait_in.new.machine.scene c.wait_in.new.clock.why (on_false _ c.wait_in.result c.if-not-wait_in.true c.wait_in.ensures.refused)

pub assigned-returns-then-not-is_quick_place-clause-does : goal.assigned-returns-then-not-is_quick_place-clause-does
assigned-returns-then-not-is_quick_place-clause-does t c = λ run h.
    let m = c.args.machine.now in
    let new = c.wait_in.new.machine in
    let a = c.args.store in
    on_stack run (program_of m.program.now) c.args.clock.now.spent c.wait_in.new.clock.spent (frames_of m) (frames_of new) m.scene new.scene (on.assigns a.at a.ty (value_of c.args.e.now)) (on.place (place_of c.args.a.now)) c.wait_in.ensures.spent
    (on_true _ c.wait_in.result c.if-not-wait_in.false c.wait_in.ensures.stacked) c.wait_in.ensures.scene h

pub assigned-returns-in_default-clause-does : goal.assigned-returns-in_default-clause-does
assigned-returns-in_default-clause-does t c = λ run h.
    let m = c.args.machine.now in
    let f = on.assigns c.args.store.at c.args.store.ty (value_of c.args.e.now) in
    found_none (λ r. on.a_place (reference_of r)) run (program_of m.program.now) f c.args.limit c.place_here.result c.place_here.new.clock c.place_here.new.machine c.in_default.is (c.place_here.ensures.does run f h)

pub assigned-returns-clause-does : goal.assigned-returns-clause-does
assigned-returns-clause-does t c = λ run h.
    let m = c.args.machine.now in
    let new = c.place_here.new.machine in
    let a = c.args.store in
    on_with (λ x. steps_to (step_of x)) c.args.limit (λ p s. waits (on.stores a.at a.ty (reference_of c.in-Some.r)) (on.value (value_of c.args.e.now)) s) run (program_of m.program.now) new c.later.new.machine
    c.place_here.new.clock c.later.new.clock c.later.result
    (ap (λ (b : Bor unit.Program). program_of b.now) c.place_here.ensures.program) c.later.ensures.does
    (c.in-Some.ensures.does run (on.assigns a.at a.ty (value_of c.args.e.now)) h)

pub combined-returns-then-not-wait_in-clause-does : goal.combined-returns-then-not-wait_in-clause-does
combined-returns-then-not-wait_in-clause-does t c = λ run h.
    no_memory run c.args.limit c.wait_in.new.clock.spent c.wait_in.new.machine.scene c.wait_in.new.clock.why (on_false _ c.wait_in.result c.if-not-wait_in.true c.wait_in.ensures.refused)

pub combined-returns-then-not-is_quick_place-clause-does : goal.combined-returns-then-not-is_quick_place-clause-does
combined-returns-then-not-is_quick_place-clause-does t c = λ run h.
    let m = c.args.machine.now in
    let new = c.wait_in.new.machine in
    let a = c.args.c in
    on_stack run (program_of m.program.now) c.args.clock.now.spent c.wait_in.new.clock.spent (frames_of m) (frames_of new) m.scene new.scene (on.compounds a.at a.op a.ty a.of a.read_at (value_of c.args.e.now)) (on.place (place_of c.args.a.now)) c.wait_in.ensures.spent
    (on_true _ c.wait_in.result c.if-not-wait_in.false c.wait_in.ensures.stacked) c.wait_in.ensures.scene h

pub combined-returns-in_default-clause-does : goal.combined-returns-in_default-clause-does
combined-returns-in_default-clause-does t c = λ run h.
    let m = c.args.machine.now in
    let a = c.args.c in
    let f = on.compounds a.at a.op a.ty a.of a.read_at (value_of c.args.e.now) in
    found_none (λ r. on.a_place (reference_of r)) run (program_of m.program.now) f c.args.limit c.place_here.result c.place_here.new.clock c.place_here.new.machine c.in_default.is (c.place_here.ensures.does run f h)

pub combined-returns-clause-does : goal.combined-returns-clause-does
combined-returns-clause-does t c = λ run h.
    let m = c.args.machine.now in
    let new = c.place_here.new.machine in
    let a = c.args.c in
    on_with (λ x. steps_to (step_of x)) c.args.limit (λ p s. waits (on.combines a.at a.op a.ty a.of a.read_at (reference_of c.in-Some.r)) (on.value (value_of c.args.e.now)) s) run (program_of m.program.now) new c.later.new.machine
    c.place_here.new.clock c.later.new.clock c.later.result
    (ap (λ (b : Bor unit.Program). program_of b.now) c.place_here.ensures.program) c.later.ensures.does
    (c.in-Some.ensures.does run (on.compounds a.at a.op a.ty a.of a.read_at (value_of c.args.e.now)) h)

pub both_true-returns-in_default-clause-does : goal.both_true-returns-in_default-clause-does
both_true-returns-in_default-clause-does t c = λ run h.
    let m = c.args.machine.now in
    let f = on.and_also (value_of c.args.b.now) in
    found_none on.a_value run (program_of m.program.now) f c.args.limit c.value_here.result c.value_here.new.clock c.value_here.new.machine c.in_default.is (c.value_here.ensures.does run f h)

pub both_true-returns-then-is_true-clause-does : goal.both_true-returns-then-is_true-clause-does
both_true-returns-then-is_true-clause-does t c = λ run h.
    let m = c.args.machine.now in
    let new = c.value_here.new.machine in
    let p = program_of m.program.now in
    let f = on.and_also (value_of c.args.b.now) in
    let v = c.in-Some.v in
    let same : to_z w64 (of_z w64 v) ≡ v = search (rules, to_z-of_z) in
    let test : truth v ≡ true = ap truth (sym same) ∙ sym c.is_true.ensures ∙ c.if-is_true.true in
    let yes : State → Moved = λ s. waits on.tells_truth (on.value (value_of c.args.b.now)) s in
    let no : State → Moved = λ s. goes (on.a_value (pos 0)) s in
    let found = after_as run p c.value_here.new.clock.spent (frames_of new) new.scene (λ s. choose (truth v) (yes s) (no s)) yes (λ s. picks_true (truth v) (yes s) (no s) test) (c.in-Some.ensures.does run f h) in
    on_with (λ x. steps_to (step_of x)) c.args.limit (λ p s. waits (on.tells_truth) (on.value (value_of c.args.b.now)) s) run p new c.later-then-is_true.new.machine c.value_here.new.clock c.later-then-is_true.new.clock c.later-then-is_true.result
    (ap (λ (b : Bor unit.Program). program_of b.now) c.value_here.ensures.program) c.later-then-is_true.ensures.does found

pub both_true-returns-else-is_true-clause-does : goal.both_true-returns-else-is_true-clause-does
both_true-returns-else-is_true-clause-does t c = λ run h.
    let m = c.args.machine.now in
    let new = c.value_here.new.machine in
    let p = program_of m.program.now in
    let f = on.and_also (value_of c.args.b.now) in
    let v = c.in-Some.v in
    let same : to_z w64 (of_z w64 v) ≡ v = search (rules, to_z-of_z) in
    let test : truth v ≡ false = ap truth (sym same) ∙ sym c.is_true.ensures ∙ c.if-is_true.false in
    let yes : State → Moved = λ s. waits on.tells_truth (on.value (value_of c.args.b.now)) s in
    let no : State → Moved = λ s. goes (on.a_value (pos 0)) s in
    let found = after_as run p c.value_here.new.clock.spent (frames_of new) new.scene (λ s. choose (truth v) (yes s) (no s)) no (λ s. picks_false (truth v) (yes s) (no s) test) (c.in-Some.ensures.does run f h) in
    found

pub one_true-returns-in_default-clause-does : goal.one_true-returns-in_default-clause-does
one_true-returns-in_default-clause-does t c = λ run h.
    let m = c.args.machine.now in
    let f = on.or_else (value_of c.args.b.now) in
    found_none on.a_value run (program_of m.program.now) f c.args.limit c.value_here.result c.value_here.new.clock c.value_here.new.machine c.in_default.is (c.value_here.ensures.does run f h)

pub one_true-returns-then-is_true-clause-does : goal.one_true-returns-then-is_true-clause-does
one_true-returns-then-is_true-clause-does t c = λ run h.
    let m = c.args.machine.now in
    let new = c.value_here.new.machine in
    let p = program_of m.program.now in
    let f = on.or_else (value_of c.args.b.now) in
    let v = c.in-Some.v in
    let same : to_z w64 (of_z w64 v) ≡ v = search (rules, to_z-of_z) in
    let test : truth v ≡ true = ap truth (sym same) ∙ sym c.is_true.ensures ∙ c.if-is_true.true in
    let yes : State → Moved = λ s. goes (on.a_value (pos 1)) s in
    let no : State → Moved = λ s. waits on.tells_truth (on.value (value_of c.args.b.now)) s in
    let found = after_as run p c.value_here.new.clock.spent (frames_of new) new.scene (λ s. choose (truth v) (yes s) (no s)) yes (λ s. picks_true (truth v) (yes s) (no s) test) (c.in-Some.ensures.does run f h) in
    found

pub one_true-returns-else-is_true-clause-does : goal.one_true-returns-else-is_true-clause-does
one_true-returns-else-is_true-clause-does t c = λ run h.
    let m = c.args.machine.now in
    let new = c.value_here.new.machine in
    let p = program_of m.program.now in
    let f = on.or_else (value_of c.args.b.now) in
    let v = c.in-Some.v in
    let same : to_z w64 (of_z w64 v) ≡ v = search (rules, to_z-of_z) in
    let test : truth v ≡ false = ap truth (sym same) ∙ sym c.is_true.ensures ∙ c.if-is_true.false in
    let yes : State → Moved = λ s. goes (on.a_value (pos 1)) s in
    let no : State → Moved = λ s. waits on.tells_truth (on.value (value_of c.args.b.now)) s in
    let found = after_as run p c.value_here.new.clock.spent (frames_of new) new.scene (λ s. choose (truth v) (yes s) (no s)) no (λ s. picks_false (truth v) (yes s) (no s) test) (c.in-Some.ensures.does run f h) in
    on_with (λ x. steps_to (step_of x)) c.args.limit (λ p s. waits (on.tells_truth) (on.value (value_of c.args.b.now)) s) run p new c.later-else-is_true.new.machine c.value_here.new.clock c.later-else-is_true.new.clock c.later-else-is_true.result
    (ap (λ (b : Bor unit.Program). program_of b.now) c.value_here.ensures.program) c.later-else-is_true.ensures.does found

pub chosen-returns-in_default-clause-does : goal.chosen-returns-in_default-clause-does
chosen-returns-in_default-clause-does t c = λ run h.
    let m = c.args.machine.now in
    let f = on.chooses c.args.choice.ty (value_of c.args.choice.a.now) (value_of c.args.choice.b.now) in
    found_none on.a_value run (program_of m.program.now) f c.args.limit c.value_here.result c.value_here.new.clock c.value_here.new.machine c.in_default.is (c.value_here.ensures.does run f h)

pub chosen-returns-then-is_true-clause-does : goal.chosen-returns-then-is_true-clause-does
chosen-returns-then-is_true-clause-does t c = λ run h.
    let m = c.args.machine.now in
    let new = c.value_here.new.machine in
    let p = program_of m.program.now in
    let f = on.chooses c.args.choice.ty (value_of c.args.choice.a.now) (value_of c.args.choice.b.now) in
    let v = c.in-Some.v in
    let same : to_z w64 (of_z w64 v) ≡ v = search (rules, to_z-of_z) in
    let test : truth v ≡ true = ap truth (sym same) ∙ sym c.is_true.ensures ∙ c.if-is_true.true in
    let yes : State → Moved = λ s. waits (on.converts c.args.choice.ty) (on.value (value_of c.args.choice.a.now)) s in
    let no : State → Moved = λ s. waits (on.converts c.args.choice.ty) (on.value (value_of c.args.choice.b.now)) s in
    let found = after_as run p c.value_here.new.clock.spent (frames_of new) new.scene (λ s. choose (truth v) (yes s) (no s)) yes (λ s. picks_true (truth v) (yes s) (no s) test) (c.in-Some.ensures.does run f h) in
    on_with (λ x. steps_to (step_of x)) c.args.limit (λ p s. waits (on.converts c.args.choice.ty) (on.value (value_of c.args.choice.a.now)) s) run p new c.picked.new.machine c.value_here.new.clock c.picked.new.clock c.picked.result
    (ap (λ (b : Bor unit.Program). program_of b.now) c.value_here.ensures.program) c.picked.ensures.does found

pub chosen-returns-else-is_true-clause-does : goal.chosen-returns-else-is_true-clause-does
chosen-returns-else-is_true-clause-does t c = λ run h.
    let m = c.args.machine.now in
    let new = c.value_here.new.machine in
    let p = program_of m.program.now in
    let f = on.chooses c.args.choice.ty (value_of c.args.choice.a.now) (value_of c.args.choice.b.now) in
    let v = c.in-Some.v in
    let same : to_z w64 (of_z w64 v) ≡ v = search (rules, to_z-of_z) in
    let test : truth v ≡ false = ap truth (sym same) ∙ sym c.is_true.ensures ∙ c.if-is_true.false in
    let yes : State → Moved = λ s. waits (on.converts c.args.choice.ty) (on.value (value_of c.args.choice.a.now)) s in
    let no : State → Moved = λ s. waits (on.converts c.args.choice.ty) (on.value (value_of c.args.choice.b.now)) s in
    let found = after_as run p c.value_here.new.clock.spent (frames_of new) new.scene (λ s. choose (truth v) (yes s) (no s)) no (λ s. picks_false (truth v) (yes s) (no s) test) (c.in-Some.ensures.does run f h) in
    on_with (λ x. steps_to (step_of x)) c.args.limit (λ p s. waits (on.converts c.args.choice.ty) (on.value (value_of c.args.choice.b.now)) s) run p new c.picked-else-is_true.new.machine c.value_here.new.clock c.picked-else-is_true.new.clock c.picked-else-is_true.result
    (ap (λ (b : Bor unit.Program). program_of b.now) c.value_here.ensures.program) c.picked-else-is_true.ensures.does found

pub picked-returns-then-not-wait_in-clause-does : goal.picked-returns-then-not-wait_in-clause-does
picked-returns-then-not-wait_in-clause-does t c = λ run h.
    no_memory run c.args.limit c.wait_in.new.clock.spent c.wait_in.new.machine.scene c.wait_in.new.clock.why (on_false _ c.wait_in.result c.if-not-wait_in.true c.wait_in.ensures.refused)

pub picked-returns-then-not-is_quick-clause-does : goal.picked-returns-then-not-is_quick-clause-does
picked-returns-then-not-is_quick-clause-does t c = λ run h.
    let m = c.args.machine.now in
    let new = c.wait_in.new.machine in
    let p = program_of m.program.now in
    let x = on.value (value_of c.args.e.now) in
    on_with (λ x. steps_to (step_of x)) c.args.limit (λ p s. steps_to (on.enters x) s) run p new c.descend.new.machine c.wait_in.new.clock c.descend.new.clock c.descend.result
    (ap (λ (b : Bor unit.Program). program_of b.now) c.wait_in.ensures.program) c.descend.ensures.does
    (on_stack run p c.args.clock.now.spent c.wait_in.new.clock.spent (frames_of m) (frames_of new) m.scene new.scene (on.converts c.args.ty) x c.wait_in.ensures.spent
    (on_true _ c.wait_in.result c.if-not-wait_in.false c.wait_in.ensures.stacked) c.wait_in.ensures.scene h)

pub picked-returns-in_default-clause-does : goal.picked-returns-in_default-clause-does
picked-returns-in_default-clause-does t c = λ run h.
    let m = c.args.machine.now in
    found_none on.a_value run (program_of m.program.now) (on.converts c.args.ty) c.args.limit c.value_here.result c.value_here.new.clock c.value_here.new.machine c.in_default.is (c.value_here.ensures.does run (on.converts c.args.ty) h)

pub picked-returns-clause-does : goal.picked-returns-clause-does
picked-returns-clause-does t c = λ run h.
    let m = c.args.machine.now in
    let new = c.value_here.new.machine in
    let p = program_of m.program.now in
    let v = c.in-Some.v in
    let same : to_z w64 (of_z w64 v) ≡ v = search (rules, to_z-of_z) in
    let whole : to_z w64 (of_z w64 c.converted_or_none.result) ≡ c.converted_or_none.result = search (rules, to_z-of_z) in
    after_as run p c.value_here.new.clock.spent (frames_of new) new.scene (λ s. goes (on.a_value (meaning.converted_or_none c.args.ty v)) s) (λ s. goes (on.a_value (to_z w64 (of_z w64 c.converted_or_none.result))) s)
    (λ s. ap (λ w. goes (on.a_value w) s) (ap (λ v. meaning.converted_or_none c.args.ty v) (sym same) ∙ sym c.converted_or_none.ensures ∙ sym whole)) (c.in-Some.ensures.does run (on.converts c.args.ty) h)

pub descend-returns-then-not-tick-clause-does : goal.descend-returns-then-not-tick-clause-does
descend-returns-then-not-tick-clause-does t c = λ run h.
    let m = c.args.machine.now in
    unticked run (program_of m.program.now) c.args.limit c.args.clock.now.spent c.tick.new.self (frames_of m) m.scene (on.value (value_of c.args.e.now)) c.tick.result c.if-not-tick.true c.tick.ensures.idle c.tick.ensures.same h

pub descend-returns-in-Constant-clause-does : goal.descend-returns-in-Constant-clause-does
descend-returns-in-Constant-clause-does t c = λ run h.
    let m = c.args.machine.now in
    c.enter_slowly.ensures.does c.args.limit run (ticked run (program_of m.program.now) c.args.clock.now.spent c.tick.new.self.spent (frames_of m) m.scene (on.value (value_of c.args.e.now)) c.tick.result c.if-not-tick.false c.tick.ensures.taken h)

pub descend-returns-in-Read-clause-does : goal.descend-returns-in-Read-clause-does
descend-returns-in-Read-clause-does t c = λ run h.
    let m = c.args.machine.now in
    c.enter_slowly-in-Read.ensures.does c.args.limit run (ticked run (program_of m.program.now) c.args.clock.now.spent c.tick.new.self.spent (frames_of m) m.scene (on.value (value_of c.args.e.now)) c.tick.result c.if-not-tick.false c.tick.ensures.taken h)

pub descend-returns-in-Assigned-clause-does : goal.descend-returns-in-Assigned-clause-does
descend-returns-in-Assigned-clause-does t c = λ run h.
    let m = c.args.machine.now in
    let i = c.in-Assigned in
    c.assigned.ensures.does run (ticked_as run (program_of m.program.now) c.args.clock.now.spent c.tick.new.self.spent (frames_of m) m.scene (on.value (value_of c.args.e.now))
    (on.value (typed.assigned i.at i.ty (place_of c.deref.result.now) (value_of c.deref-in-Assigned.result.now))) c.tick.result
    (ap on.value (sees_assigned c.args.e.now i.at i.ty i.a i.e i.is ∙ ap (λ x. typed.assigned i.at i.ty (place_of x) (value_of i.e.value)) (sym c.deref.ensures) ∙ ap (λ x. typed.assigned i.at i.ty (place_of c.deref.result.now) (value_of x)) (sym c.deref-in-Assigned.ensures)))
    c.if-not-tick.false c.tick.ensures.taken h)

pub descend-returns-in-Compound-clause-does : goal.descend-returns-in-Compound-clause-does
descend-returns-in-Compound-clause-does t c = λ run h.
    let m = c.args.machine.now in
    let i = c.in-Compound in
    let p = program_of m.program.now in
    let a = c.deref-in-Compound-2.result in
    let e = c.deref-in-Compound-3.result in
    let next : Pos → State → Moved = λ at s. waits (on.compounds i.at i.op i.ty i.of at (value_of e.now)) (on.place (place_of a.now)) s in
    c.combined.ensures.does run (after_as run p c.tick.new.self.spent (frames_of m) m.scene (next (meaning.position_of (place_of a.now))) (next c.position_of.result)
    (λ s. ap (λ at. next at s) (sym (c.position_of.ensures ∙ ap (λ x. meaning.position_of (place_of x)) (c.deref-in-Compound.ensures ∙ sym c.deref-in-Compound-2.ensures))))
    (ticked_as run p c.args.clock.now.spent c.tick.new.self.spent (frames_of m) m.scene (on.value (value_of c.args.e.now))
    (on.value (typed.compound i.at i.op i.ty i.of (place_of a.now) (value_of e.now))) c.tick.result
    (ap on.value (sees_compound c.args.e.now i.at i.op i.ty i.of i.a i.e i.is ∙ ap (λ x. typed.compound i.at i.op i.ty i.of (place_of x) (value_of i.e.value)) (sym c.deref-in-Compound-2.ensures) ∙ ap (λ x. typed.compound i.at i.op i.ty i.of (place_of a.now) (value_of x)) (sym c.deref-in-Compound-3.ensures)))
    c.if-not-tick.false c.tick.ensures.taken h))

pub descend-returns-in-Stepped-clause-does : goal.descend-returns-in-Stepped-clause-does
descend-returns-in-Stepped-clause-does t c = λ run h.
    let m = c.args.machine.now in
    c.enter_slowly-in-Stepped.ensures.does c.args.limit run (ticked run (program_of m.program.now) c.args.clock.now.spent c.tick.new.self.spent (frames_of m) m.scene (on.value (value_of c.args.e.now)) c.tick.result c.if-not-tick.false c.tick.ensures.taken h)

pub descend-returns-in-Unary-clause-does : goal.descend-returns-in-Unary-clause-does
descend-returns-in-Unary-clause-does t c = λ run h.
    let m = c.args.machine.now in
    let i = c.in-Unary in
    c.later.ensures.does run (ticked_as run (program_of m.program.now) c.args.clock.now.spent c.tick.new.self.spent (frames_of m) m.scene (on.value (value_of c.args.e.now))
    (on.value (typed.unary i.at i.op i.ty (value_of c.deref-in-Unary.result.now))) c.tick.result
    (ap on.value (sees_unary c.args.e.now i.at i.op i.ty i.e i.is ∙ ap (λ x. typed.unary i.at i.op i.ty (value_of x)) (sym c.deref-in-Unary.ensures)))
    c.if-not-tick.false c.tick.ensures.taken h)

pub descend-returns-in-Binary-clause-does : goal.descend-returns-in-Binary-clause-does
descend-returns-in-Binary-clause-does t c = λ run h.
    let m = c.args.machine.now in
    let i = c.in-Binary in
    c.binary.ensures.does run (ticked_as run (program_of m.program.now) c.args.clock.now.spent c.tick.new.self.spent (frames_of m) m.scene (on.value (value_of c.args.e.now))
    (on.value (typed.binary i.at i.op i.ty (value_of c.deref-in-Binary.result.now) (value_of c.deref-in-Binary-2.result.now))) c.tick.result
    (ap on.value (sees_binary c.args.e.now i.at i.op i.ty i.a i.b i.is ∙ ap (λ x. typed.binary i.at i.op i.ty (value_of x) (value_of i.b.value)) (sym c.deref-in-Binary.ensures) ∙ ap (λ x. typed.binary i.at i.op i.ty (value_of c.deref-in-Binary.result.now) (value_of x)) (sym c.deref-in-Binary-2.ensures)))
    c.if-not-tick.false c.tick.ensures.taken h)

pub descend-returns-in-BothTrue-clause-does : goal.descend-returns-in-BothTrue-clause-does
descend-returns-in-BothTrue-clause-does t c = λ run h.
    let m = c.args.machine.now in
    let i = c.in-BothTrue in
    c.both_true.ensures.does run (ticked_as run (program_of m.program.now) c.args.clock.now.spent c.tick.new.self.spent (frames_of m) m.scene (on.value (value_of c.args.e.now))
    (on.value (typed.both_true (value_of c.deref-in-BothTrue.result.now) (value_of c.deref-in-BothTrue-2.result.now))) c.tick.result
    (ap on.value (sees_both c.args.e.now i.a i.b i.is ∙ ap (λ x. typed.both_true (value_of i.a.value) (value_of x)) (sym c.deref-in-BothTrue-2.ensures) ∙ ap (λ x. typed.both_true (value_of x) (value_of c.deref-in-BothTrue-2.result.now)) (sym c.deref-in-BothTrue.ensures)))
    c.if-not-tick.false c.tick.ensures.taken h)

pub descend-returns-in-OneTrue-clause-does : goal.descend-returns-in-OneTrue-clause-does
descend-returns-in-OneTrue-clause-does t c = λ run h.
    let m = c.args.machine.now in
    let i = c.in-OneTrue in
    c.one_true.ensures.does run (ticked_as run (program_of m.program.now) c.args.clock.now.spent c.tick.new.self.spent (frames_of m) m.scene (on.value (value_of c.args.e.now))
    (on.value (typed.one_true (value_of c.deref-in-OneTrue.result.now) (value_of c.deref-in-OneTrue-2.result.now))) c.tick.result
    (ap on.value (sees_one c.args.e.now i.a i.b i.is ∙ ap (λ x. typed.one_true (value_of i.a.value) (value_of x)) (sym c.deref-in-OneTrue-2.ensures) ∙ ap (λ x. typed.one_true (value_of x) (value_of c.deref-in-OneTrue-2.result.now)) (sym c.deref-in-OneTrue.ensures)))
    c.if-not-tick.false c.tick.ensures.taken h)

pub descend-returns-in-Chosen-clause-does : goal.descend-returns-in-Chosen-clause-does
descend-returns-in-Chosen-clause-does t c = λ run h.
    let m = c.args.machine.now in
    let i = c.in-Chosen in
    c.chosen.ensures.does run (ticked_as run (program_of m.program.now) c.args.clock.now.spent c.tick.new.self.spent (frames_of m) m.scene (on.value (value_of c.args.e.now))
    (on.value (typed.chosen i.ty (value_of c.deref-in-Chosen-3.result.now) (value_of c.deref-in-Chosen.result.now) (value_of c.deref-in-Chosen-2.result.now))) c.tick.result
    (ap on.value (sees_chosen c.args.e.now i.ty i.c i.a i.b i.is ∙ ap (λ x. typed.chosen i.ty (value_of i.c.value) (value_of x) (value_of i.b.value)) (sym c.deref-in-Chosen.ensures) ∙ ap (λ x. typed.chosen i.ty (value_of i.c.value) (value_of c.deref-in-Chosen.result.now) (value_of x)) (sym c.deref-in-Chosen-2.ensures) ∙ ap (λ x. typed.chosen i.ty (value_of x) (value_of c.deref-in-Chosen.result.now) (value_of c.deref-in-Chosen-2.result.now)) (sym c.deref-in-Chosen-3.ensures)))
    c.if-not-tick.false c.tick.ensures.taken h)

pub descend-returns-in-Sequence-clause-does : goal.descend-returns-in-Sequence-clause-does
descend-returns-in-Sequence-clause-does t c = λ run h.
    let m = c.args.machine.now in
    let i = c.in-Sequence in
    c.later-in-Sequence.ensures.does run (ticked_as run (program_of m.program.now) c.args.clock.now.spent c.tick.new.self.spent (frames_of m) m.scene (on.value (value_of c.args.e.now))
    (on.value (typed.sequence (value_of c.deref-in-Sequence-2.result.now) (value_of c.deref-in-Sequence.result.now))) c.tick.result
    (ap on.value (sees_sequence c.args.e.now i.a i.b i.is ∙ ap (λ x. typed.sequence (value_of i.a.value) (value_of x)) (sym c.deref-in-Sequence.ensures) ∙ ap (λ x. typed.sequence (value_of x) (value_of c.deref-in-Sequence.result.now)) (sym c.deref-in-Sequence-2.ensures)))
    c.if-not-tick.false c.tick.ensures.taken h)

pub descend-returns-in-Cast-clause-does : goal.descend-returns-in-Cast-clause-does
descend-returns-in-Cast-clause-does t c = λ run h.
    let m = c.args.machine.now in
    let i = c.in-Cast in
    c.later-in-Cast.ensures.does run (ticked_as run (program_of m.program.now) c.args.clock.now.spent c.tick.new.self.spent (frames_of m) m.scene (on.value (value_of c.args.e.now))
    (on.value (typed.cast i.ty (value_of c.deref-in-Cast.result.now))) c.tick.result
    (ap on.value (sees_cast c.args.e.now i.ty i.e i.is ∙ ap (λ x. typed.cast i.ty (value_of x)) (sym c.deref-in-Cast.ensures)))
    c.if-not-tick.false c.tick.ensures.taken h)

pub descend-returns-in-Discarded-clause-does : goal.descend-returns-in-Discarded-clause-does
descend-returns-in-Discarded-clause-does t c = λ run h.
    let m = c.args.machine.now in
    let i = c.in-Discarded in
    c.later-in-Discarded.ensures.does run (ticked_as run (program_of m.program.now) c.args.clock.now.spent c.tick.new.self.spent (frames_of m) m.scene (on.value (value_of c.args.e.now))
    (on.value (typed.discarded (value_of c.deref-in-Discarded.result.now))) c.tick.result
    (ap on.value (sees_discarded c.args.e.now i.e i.is ∙ ap (λ x. typed.discarded (value_of x)) (sym c.deref-in-Discarded.ensures)))
    c.if-not-tick.false c.tick.ensures.taken h)

pub descend-returns-in-Call-clause-does : goal.descend-returns-in-Call-clause-does
descend-returns-in-Call-clause-does t c = λ run h.
    let m = c.args.machine.now in
    let i = c.in-Call in
    let p = program_of m.program.now in
    let asks : List Argument → List Passed → State → Moved = λ more before s. asked_for i.at (callee_of i.callee) i.used (arguments_of (map argument_of more)) (map passed_of before) s in
    c.call.ensures.does run (after_as run p c.tick.new.self.spent (frames_of m) m.scene (asks i.arguments.items []) (asks c.as_slice.result.now c.new-before.result.items)
    (λ s. ap (λ before. asks i.arguments.items before s) (sym c.new-before.ensures.items) ∙ ap (λ more. asks more c.new-before.result.items s) (sym c.as_slice.ensures.value))
    (ticked_as run p c.args.clock.now.spent c.tick.new.self.spent (frames_of m) m.scene (on.value (value_of c.args.e.now))
    (on.value (typed.call i.at (callee_of i.callee) i.field-2 i.used (arguments_of (map argument_of i.arguments.items)))) c.tick.result
    (ap on.value (sees_call c.args.e.now i.at i.callee i.field-2 i.used i.arguments i.is))
    c.if-not-tick.false c.tick.ensures.taken h))

pub later-returns-clause-does : goal.later-returns-clause-does
later-returns-clause-does t c = λ run h.
    let m = c.args.machine.now in
    let new = c.wait_in.new.machine in
    let p = program_of m.program.now in
    let x = on.value (value_of c.args.e.now) in
    on_with (λ x. steps_to (step_of x)) c.args.limit (λ p s. steps_to (on.enters x) s) run p new c.descend.new.machine c.wait_in.new.clock c.descend.new.clock c.descend.result
    (ap (λ (b : Bor unit.Program). program_of b.now) c.wait_in.ensures.program) c.descend.ensures.does
    (on_stack run p c.args.clock.now.spent c.wait_in.new.clock.spent (frames_of m) (frames_of new) m.scene new.scene (frame_of c.args.frame) x c.wait_in.ensures.spent
    (on_true _ c.wait_in.result c.if-not-wait_in.false c.wait_in.ensures.stacked) c.wait_in.ensures.scene h)

pub later-returns-then-is_quick-clause-does : goal.later-returns-then-is_quick-clause-does
later-returns-then-is_quick-clause-does t c = λ run h.
    let m = c.args.machine.now in
    let new = c.wait_in.new.machine in
    on_stack run (program_of m.program.now) c.args.clock.now.spent c.wait_in.new.clock.spent (frames_of m) (frames_of new) m.scene new.scene (frame_of c.args.frame) (on.value (value_of c.args.e.now)) c.wait_in.ensures.spent
    (on_true _ c.wait_in.result c.if-not-wait_in.false c.wait_in.ensures.stacked) c.wait_in.ensures.scene h
