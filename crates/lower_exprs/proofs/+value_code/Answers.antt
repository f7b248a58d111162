use Rattle.std.proofs.Common.{◌≡◌, refl, ◌||◌, ◌∷◌, drop, arith, ap, map, sym, subst, length, rules, to_z, of_z, w64, false, ◌∙◌}
use Rattle.std.proofs.Math.Facts.{to_z-of_z}
use Rattle.typing_spec.specs.Program as typed
use Rattle.typed_ast.specs.View.{value_of, place_of, arguments_of, argument_of, moment_of}
use Rattle.lower_correct.specs.Values as lowered
use Rattle.lower_correct.specs.Places.{cuts}
use Rattle.lower_correct.specs.Places as placed
use Rattle.lower_ops.specs.declared.modes.Shape.TheVariants as shape
use Rattle.lower_ops.specs.layer.Parts.{meant, shape_of, plus}
use Rattle.lower_ops.specs.layer.Emitted as emitted
use Rattle.lower_ops.specs.layer.Rows.{sizes_in}
use Rattle.lower_exprs.specs.layer.Sizes.{value_size}
use Rattle.lower_exprs.specs.inside.Ends.{AreEnds}
use Rattle.lower_exprs.specs.layer.Written.{WroteFinds, WroteValue}
use Rattle.lower_exprs.proofs.Nodes.{nodes, place_nodes, argument_nodes, given_nodes}
use Rattle.lower_exprs.proofs.Room.{temporary_within, kept_within, temporary_within_at, kept_within_at, near_mode, temporary_goes, slot_goes}
use Rattle.lower_exprs.proofs.Held.{sees_number, sees_array, sees_constant, sees_read, sees_assigned, sees_compound, sees_stepped, sees_unary, sees_binary, sees_bothtrue, sees_onetrue, sees_chosen, sees_sequence, sees_cast, sees_discarded, sees_call}
use Rattle.lower_ops.proofs.Held.{sees_named, sees_element}
use Rattle.lower_ops.proofs.Parts.{two, three, four, five}
use Rattle.lower_ops.proofs.Operated.{one_as}
use Rattle.lower_exprs.proofs.Expressions.{waiting, binary_wrote, both_jump_wrote, one_jump_wrote, both_number_wrote, one_number_wrote, chosen_wrote, not_to, both_to, one_to}
use Rattle.lower_exprs.proofs.Located.{read_object, read_memory, assigned_object, assigned_memory, compound_object, compound_memory, step_object, step_memory, element_wrote, assigned_there, compound_there, read_there, step_there}
use Rattle.lower_exprs.proofs.Passed.{passes_of, waits_behind, all_waited, nodes_left}
use Rattle.lower_exprs.proofs.+value_code.Goals as goal

pub values::put_rested-returns : goal.values::put_rested-returns
values::put_rested-returns t c = (c.operand_of-operand.ensures, waiting (sizes_in c.args.scope.now) (value_of c.args.e.now) lowered.writes_none false c.args.free.temporary c.args.free.slot (meant c.mode_of.result) (c.mode_of.ensures ∙ ap lowered.mode_of c.operand_of-operand.ensures) c.in_ok-put_value.ensures)

pub values::put_converted-returns-in_ok-put_value : goal.values::put_converted-returns-in_ok-put_value
values::put_converted-returns-in_ok-put_value t c =
    let k = sym c.keeps.ensures ∙ c.if-keeps.true in
    rw k c.in_ok-put_value.ensures

pub values::put_converted-returns-in_ok-put : goal.values::put_converted-returns-in_ok-put
values::put_converted-returns-in_ok-put t c =
    let k = sym c.keeps.ensures ∙ c.if-keeps.false in
    rw k (two c.in_ok-operand.ensures.1 (one_as (c.convert_to.ensures ∙ ap (λ o. emitted.convert_to c.args.ty c.args.target o) c.in_ok-operand.ensures.0) c.in_ok-put.ensures))

pub values::put_cast-returns-in_ok-put_value : goal.values::put_cast-returns-in_ok-put_value
values::put_cast-returns-in_ok-put_value t c =
    let k = sym c.keeps.ensures ∙ c.if-keeps.true in
    rw k c.in_ok-put_value.ensures

pub values::put_cast-returns-in_ok-put_follow : goal.values::put_cast-returns-in_ok-put_follow
values::put_cast-returns-in_ok-put_follow t c =
    let k = sym c.keeps.ensures ∙ c.if-keeps.false in
    let e = c.convert_to.ensures ∙ ap (λ g. emitted.convert_to c.args.ty g c.in_ok-operand.operand) c.target_of.ensures
    ∙ ap (λ o. emitted.convert_to c.args.ty (lowered.target_of (meant c.args.mode) c.args.free.temporary) o) c.in_ok-operand.ensures.0 in
    rw k (three c.in_ok-operand.ensures.1 (one_as e c.in_ok-put.ensures) c.in_ok-put_follow.ensures)

-- ---- places

pub places::put_element-returns : goal.places::put_element-returns
places::put_element-returns t c = λ at. element_wrote (sizes_in c.args.scope.now) (place_of c.args.array.now) (value_of c.args.index.now) c.has_calls-calls.result c.args.free.temporary c.args.free.slot
    c.beside_spot-less.result.temporary c.beside_spot-less.result.slot c.found-spot.result c.in_ok-operand.operand c.has_calls-calls.ensures c.found-spot.ensures c.beside_spot-less.ensures.temporary c.beside_spot-less.ensures.slot c.in_ok-operand.ensures.0
    at c.args.waits c.target_for-target.result c.element_size-size.result c.free_temporary-temporary.result c.free_temporary-temporary.ensures c.target_for-target.ensures c.element_size-size.ensures
    c.in_ok-put.ensures c.in_ok-put_found.ensures c.in_ok-operand.ensures.1 c.in_ok-put_part.ensures

pub places::put_found-returns-in_ok-put-in-Named : goal.places::put_found-returns-in_ok-put-in-Named
places::put_found-returns-in_ok-put-in-Named t c =
    let s = c.in-Named in
    rw (sees_named c.args.place.now s.field-0 s.field-1 s.is) c.in_ok-put-in-Named.ensures

pub places::put_found-returns-in_ok-put_element-in-Element : goal.places::put_found-returns-in_ok-put_element-in-Element
places::put_found-returns-in_ok-put_element-in-Element t c =
    let s = c.in-Element in
    rw (sees_element c.args.place.now s.field-0 s.array s.index s.is) (rw (c.deref.ensures, c.deref-in-Element.ensures) at (c.in_ok-put_element-in-Element.ensures s.field-0))

pub places::put_read_memory-returns : goal.places::put_read_memory-returns
places::put_read_memory-returns t c = read_there (sizes_in c.args.scope.now) c.args.ty (place_of c.args.place.now) (meant c.args.mode) c.args.free.temporary c.args.free.slot c.found-spot.result c.found-spot.ensures c.in_ok-put_found.ensures c.in_ok-put_get.ensures

pub places::put_assigned_object-returns : goal.places::put_assigned_object-returns
places::put_assigned_object-returns t c = four c.in_ok-put.ensures c.in_ok-put-2.ensures c.in_ok-put_converted.ensures c.in_ok-put_end.ensures

pub places::put_assigned_memory-returns : goal.places::put_assigned_memory-returns
places::put_assigned_memory-returns t c =
    let e = c.either-kept.ensures ∙ ap (λ b. b || c.keeps.result) c.cuts.ensures ∙ ap (λ b. cuts c.args.ty (meant c.args.mode) || b) c.keeps.ensures in
    assigned_there (sizes_in c.args.scope.now) (place_of c.args.place.now) (value_of c.args.e.now) c.has_calls-calls.result c.args.free.temporary c.args.free.slot
    c.beside_spot-less.result.temporary c.beside_spot-less.result.slot c.found-spot.result c.in_ok-operand.operand c.has_calls-calls.ensures c.found-spot.ensures c.beside_spot-less.ensures.temporary c.beside_spot-less.ensures.slot c.in_ok-operand.ensures.0
    c.args.ty (meant c.args.mode) c.either-kept.result e c.in_ok-put.ensures c.in_ok-put_found.ensures c.in_ok-operand.ensures.1 c.in_ok-put_stored.ensures

pub places::put_compound_object-returns : goal.places::put_compound_object-returns
places::put_compound_object-returns t c = five c.in_ok-put.ensures c.in_ok-put-2.ensures c.in_ok-operand.ensures.1 (rw c.in_ok-operand.ensures.0 at c.in_ok-put_change.ensures) c.in_ok-put_end.ensures

pub places::put_compound_memory-returns : goal.places::put_compound_memory-returns
places::put_compound_memory-returns t c =
    compound_there (sizes_in c.args.scope.now) (place_of c.args.place.now) (value_of c.args.e.now) c.has_calls-calls.result c.args.free.temporary c.args.free.slot
    c.beside_spot-less.result.temporary c.beside_spot-less.result.slot c.found-spot.result c.in_ok-operand.operand c.has_calls-calls.ensures c.found-spot.ensures c.beside_spot-less.ensures.temporary c.beside_spot-less.ensures.slot c.in_ok-operand.ensures.0
    c.args.op c.args.ty c.args.of (meant c.args.mode) c.free_temporary-temporary.result c.free_temporary-temporary.ensures
    c.in_ok-put.ensures c.in_ok-put_found.ensures c.in_ok-operand.ensures.1 c.in_ok-put_loaded.ensures c.in_ok-put_altered.ensures

pub places::put_step_memory-returns : goal.places::put_step_memory-returns
places::put_step_memory-returns t c = step_there (sizes_in c.args.scope.now) (moment_of c.args.moment) c.args.op c.args.ty c.args.of (place_of c.args.place.now) (meant c.args.mode) c.args.free.temporary c.args.free.slot c.free_temporary_at-temporary.result c.found-spot.result
    c.found-spot.ensures c.free_temporary_at-temporary.ensures c.in_ok-put.ensures c.in_ok-put_found.ensures c.in_ok-put_loaded.ensures c.in_ok-put_altered_by.ensures

pub values::put_waiting_array-returns : goal.values::put_waiting_array-returns
values::put_waiting_array-returns t c =
    let n = arguments_of (map argument_of c.args.more.now) in
    let ec : c.call-calls.result ≡ lowered.arguments_call n = c.call-calls.ensures c.args.more.now c.requires.ends in
    let ea : c.found-spot.result ≡ placed.found (place_of c.args.array.now) (lowered.arguments_call n) c.args.free.temporary c.args.free.slot
    = c.found-spot.ensures ∙ ap (λ b. placed.found (place_of c.args.array.now) b c.args.free.temporary c.args.free.slot) ec in (
      refl,
      c.free_slot_at-slot.ensures ∙ ap (λ a. placed.free_kept_at a c.args.free.slot) ea,
      subst (λ b. WroteFinds (sizes_in c.args.scope.now) (place_of c.args.array.now) b c.args.free.temporary c.args.free.slot c.args.code.now.list.items c.put_found.new.code.list.items) ec c.in_ok-put_found.ensures,
    )

pub places::put_read-returns-in_ok-put_read_object-in-Some : goal.places::put_read-returns-in_ok-put_read_object-in-Some
places::put_read-returns-in_ok-put_read_object-in-Some t c = read_object (sizes_in c.args.scope.now) (place_of c.args.place.now) (meant c.args.mode) c.args.free.temporary c.args.free.slot c.args.ty c.in-Some.object (sym c.object_of.ensures ∙ c.in-Some.is) c.in_ok-put_read_object-in-Some.ensures

pub places::put_read-returns-in_ok-put_read_memory-in-None : goal.places::put_read-returns-in_ok-put_read_memory-in-None
places::put_read-returns-in_ok-put_read_memory-in-None t c = read_memory (sizes_in c.args.scope.now) (place_of c.args.place.now) (meant c.args.mode) c.args.free.temporary c.args.free.slot c.args.ty (sym c.object_of.ensures ∙ c.in-None.is) c.in_ok-put_read_memory-in-None.ensures

pub places::put_assigned-returns-in_ok-put_assigned_object-in-Some : goal.places::put_assigned-returns-in_ok-put_assigned_object-in-Some
places::put_assigned-returns-in_ok-put_assigned_object-in-Some t c = λ at. assigned_object (sizes_in c.args.scope.now) (place_of c.args.place.now) (meant c.args.mode) c.args.free.temporary c.args.free.slot at c.args.ty (value_of c.args.e.now) c.in-Some.object (sym c.object_of.ensures ∙ c.in-Some.is) c.in_ok-put_assigned_object-in-Some.ensures

pub places::put_assigned-returns-in_ok-put_assigned_memory-in-None : goal.places::put_assigned-returns-in_ok-put_assigned_memory-in-None
places::put_assigned-returns-in_ok-put_assigned_memory-in-None t c = λ at. assigned_memory (sizes_in c.args.scope.now) (place_of c.args.place.now) (meant c.args.mode) c.args.free.temporary c.args.free.slot at c.args.ty (value_of c.args.e.now) (sym c.object_of.ensures ∙ c.in-None.is) c.in_ok-put_assigned_memory-in-None.ensures

pub places::put_compound-returns-in_ok-put_compound_object-in-Some : goal.places::put_compound-returns-in_ok-put_compound_object-in-Some
places::put_compound-returns-in_ok-put_compound_object-in-Some t c = λ at. compound_object (sizes_in c.args.scope.now) (place_of c.args.place.now) (meant c.args.mode) c.args.free.temporary c.args.free.slot at c.args.op c.args.ty c.args.of (value_of c.args.e.now) c.in-Some.object c.is_wide-wide.result (sym c.object_of.ensures ∙ c.in-Some.is) c.is_wide-wide.ensures c.in_ok-put_compound_object-in-Some.ensures

pub places::put_compound-returns-in_ok-put_compound_memory-in-None : goal.places::put_compound-returns-in_ok-put_compound_memory-in-None
places::put_compound-returns-in_ok-put_compound_memory-in-None t c = λ at. compound_memory (sizes_in c.args.scope.now) (place_of c.args.place.now) (meant c.args.mode) c.args.free.temporary c.args.free.slot at c.args.op c.args.ty c.args.of (value_of c.args.e.now) (sym c.object_of.ensures ∙ c.in-None.is) c.in_ok-put_compound_memory-in-None.ensures

pub places::put_step-returns-in_ok-put_step_object-in-Some : goal.places::put_step-returns-in_ok-put_step_object-in-Some
places::put_step-returns-in_ok-put_step_object-in-Some t c = λ at. step_object (sizes_in c.args.scope.now) (place_of c.args.place.now) (meant c.args.mode) c.args.free.temporary c.args.free.slot at (moment_of c.args.moment) c.args.op c.args.ty c.args.of c.in-Some.object c.is_wide-wide.result c.step_operation-operation.result (sym c.object_of.ensures ∙ c.in-Some.is) c.is_wide-wide.ensures c.step_operation-operation.ensures c.in_ok-put_step_object-in-Some.ensures

pub places::put_step-returns-in_ok-put_step_memory-in-None : goal.places::put_step-returns-in_ok-put_step_memory-in-None
places::put_step-returns-in_ok-put_step_memory-in-None t c = λ at. step_memory (sizes_in c.args.scope.now) (place_of c.args.place.now) (meant c.args.mode) c.args.free.temporary c.args.free.slot at (moment_of c.args.moment) c.args.op c.args.ty c.args.of c.step_operation-operation.result (sym c.object_of.ensures ∙ c.in-None.is) c.step_operation-operation.ensures c.in_ok-put_step_memory-in-None.ensures

pub operators::put_minus-returns : goal.operators::put_minus-returns
operators::put_minus-returns t c = λ at. three c.in_ok-put.ensures c.in_ok-operand.ensures.1 (rw (c.reading_of-reading.ensures, c.in_ok-operand.ensures.0) at c.in_ok-put_then.ensures)

pub operators::put_complement-returns : goal.operators::put_complement-returns
operators::put_complement-returns t c = λ at. three c.in_ok-put.ensures c.in_ok-operand.ensures.1 (rw (c.reading_of-reading.ensures, c.in_ok-operand.ensures.0) at c.in_ok-put_then.ensures)

pub operators::put_is_zero-returns : goal.operators::put_is_zero-returns
operators::put_is_zero-returns t c = three c.in_ok-put.ensures c.in_ok-operand.ensures.1 (rw c.in_ok-operand.ensures.0 at c.in_ok-put_then.ensures)

pub operators::put_not-returns-in_ok-put_is_zero-in-Nowhere : goal.operators::put_not-returns-in_ok-put_is_zero-in-Nowhere
operators::put_not-returns-in_ok-put_is_zero-in-Nowhere t c = λ at u. rw c.in-Nowhere.is (rw c.in-Nowhere.is at c.in_ok-put_is_zero-in-Nowhere.ensures)

pub operators::put_not-returns-in_ok-put_is_zero-in-To : goal.operators::put_not-returns-in_ok-put_is_zero-in-To
operators::put_not-returns-in_ok-put_is_zero-in-To t c = λ at u. rw c.in-To.is (not_to (sizes_in c.args.scope.now) at u (value_of c.args.e.now) c.in-To.field-0 c.args.free.temporary c.args.free.slot (rw c.in-To.is at c.in_ok-put_is_zero-in-To.ensures))

pub operators::put_not-returns-in_ok-put_value-in-If : goal.operators::put_not-returns-in_ok-put_value-in-If
operators::put_not-returns-in_ok-put_value-in-If t c = λ at u. rw c.in-If.is (two c.in_ok-put-in-If.ensures c.in_ok-put_value-in-If.ensures)

pub operators::put_plus-returns : goal.operators::put_plus-returns
operators::put_plus-returns t c = λ at u. two c.in_ok-put.ensures c.in_ok-put_value.ensures

pub operators::put_unary-returns-in_ok-put_plus-in-Plus : goal.operators::put_unary-returns-in_ok-put_plus-in-Plus
operators::put_unary-returns-in_ok-put_plus-in-Plus t c = λ at. rw c.in-Plus.is (c.in_ok-put_plus-in-Plus.ensures at c.args.ty)

pub operators::put_unary-returns-in_ok-put_minus-in-Minus : goal.operators::put_unary-returns-in_ok-put_minus-in-Minus
operators::put_unary-returns-in_ok-put_minus-in-Minus t c = λ at. rw c.in-Minus.is (c.in_ok-put_minus-in-Minus.ensures at)

pub operators::put_unary-returns-in_ok-put_complement-in-Complement : goal.operators::put_unary-returns-in_ok-put_complement-in-Complement
operators::put_unary-returns-in_ok-put_complement-in-Complement t c = λ at. rw c.in-Complement.is (c.in_ok-put_complement-in-Complement.ensures at)

pub operators::put_unary-returns-in_ok-put_not-in-Not : goal.operators::put_unary-returns-in_ok-put_not-in-Not
operators::put_unary-returns-in_ok-put_not-in-Not t c = λ at. rw c.in-Not.is (c.in_ok-put_not-in-Not.ensures at c.args.ty)

pub operators::put_binary-returns : goal.operators::put_binary-returns
operators::put_binary-returns t c = λ at. binary_wrote (sizes_in c.args.scope.now) at c.args.op c.args.ty (value_of c.args.a.now) (value_of c.args.b.now) (meant c.args.mode) (meant c.mode_of.result) c.args.free.temporary c.args.free.slot
    c.beside-less.result.temporary c.beside-less.result.slot c.waits_for-left.result c.in_ok-right.right c.reading_of-reading.result c.waits_for-left.ensures c.mode_of.ensures c.beside-less.ensures.temporary c.beside-less.ensures.slot
    c.in_ok-right.ensures.0 c.reading_of-reading.ensures c.in_ok-put.ensures c.in_ok-put_value.ensures c.in_ok-right.ensures.1 c.in_ok-put_operated.ensures

pub operators::put_both_jump-returns : goal.operators::put_both_jump-returns
operators::put_both_jump-returns t c =
    let l = length c.args.code.now.list.items in
    let na = value_size (value_of c.args.a.now) shape.Jump in
    let nb = value_size (value_of c.args.b.now) shape.Jump in
    let e : c.ahead-end.result ≡ plus l (plus 1 (plus na nb)) = c.ahead-end.ensures ∙ ap (λ n. plus l n) (c.plus-2.ensures ∙ ap (λ n. plus 1 n) (c.plus.ensures ∙ ap (λ n. plus n c.value_size-right.result) c.value_size-left.ensures ∙ ap (λ n. plus na n) c.value_size-right.ensures)) in
    both_jump_wrote (sizes_in c.args.scope.now) (value_of c.args.a.now) (value_of c.args.b.now) c.args.sense c.args.free.temporary c.args.free.slot c.args.to c.ahead-end.result c.pick.result e c.pick.ensures c.in_ok-put.ensures c.in_ok-put_value.ensures c.in_ok-put_value-2.ensures

pub operators::put_one_jump-returns : goal.operators::put_one_jump-returns
operators::put_one_jump-returns t c =
    let l = length c.args.code.now.list.items in
    let na = value_size (value_of c.args.a.now) shape.Jump in
    let nb = value_size (value_of c.args.b.now) shape.Jump in
    let e : c.ahead-end.result ≡ plus l (plus 1 (plus na nb)) = c.ahead-end.ensures ∙ ap (λ n. plus l n) (c.plus-2.ensures ∙ ap (λ n. plus 1 n) (c.plus.ensures ∙ ap (λ n. plus n c.value_size-right.result) c.value_size-left.ensures ∙ ap (λ n. plus na n) c.value_size-right.ensures)) in
    one_jump_wrote (sizes_in c.args.scope.now) (value_of c.args.a.now) (value_of c.args.b.now) c.args.sense c.args.free.temporary c.args.free.slot c.args.to c.ahead-end.result c.pick.result e c.pick.ensures c.in_ok-put.ensures c.in_ok-put_value.ensures c.in_ok-put_value-2.ensures

pub operators::put_both_number-returns : goal.operators::put_both_number-returns
operators::put_both_number-returns t c =
    let l = length c.args.code.now.list.items in
    let na = value_size (value_of c.args.a.now) shape.Jump in
    let nb = value_size (value_of c.args.b.now) shape.Jump in
    let z : c.ahead-other.result ≡ plus l (plus 1 (plus na (plus nb 2))) = c.ahead-other.ensures ∙ ap (λ n. plus l n) (c.plus-3.ensures ∙ ap (λ n. plus 1 n) (c.plus-2.ensures ∙ ap (λ n. plus n c.plus.result) c.value_size-left.ensures ∙ ap (λ n. plus na n) (c.plus.ensures ∙ ap (λ n. plus n 2) c.value_size-right.ensures))) in
    both_number_wrote (sizes_in c.args.scope.now) (value_of c.args.a.now) (value_of c.args.b.now) c.args.target c.args.free.temporary c.args.free.slot c.ahead-other.result z c.in_ok-put.ensures c.in_ok-put_value.ensures c.in_ok-put_value-2.ensures c.in_ok-put_truths.ensures

pub operators::put_one_number-returns : goal.operators::put_one_number-returns
operators::put_one_number-returns t c =
    let l = length c.args.code.now.list.items in
    let na = value_size (value_of c.args.a.now) shape.Jump in
    let nb = value_size (value_of c.args.b.now) shape.Jump in
    let e : c.ahead-here.result ≡ plus l (plus 1 (plus na nb)) = c.ahead-here.ensures ∙ ap (λ n. plus l n) (c.plus-2.ensures ∙ ap (λ n. plus 1 n) (c.plus.ensures ∙ ap (λ n. plus n c.value_size-right.result) c.value_size-left.ensures ∙ ap (λ n. plus na n) c.value_size-right.ensures)) in
    let z : c.ahead-other.result ≡ plus l (plus 1 (plus na (plus nb 2))) = c.ahead-other.ensures ∙ ap (λ n. plus l n) (c.plus-5.ensures ∙ ap (λ n. plus 1 n) (c.plus-4.ensures ∙ ap (λ n. plus n c.plus-3.result) c.value_size-left.ensures ∙ ap (λ n. plus na n) (c.plus-3.ensures ∙ ap (λ n. plus n 2) c.value_size-right.ensures))) in
    one_number_wrote (sizes_in c.args.scope.now) (value_of c.args.a.now) (value_of c.args.b.now) c.args.target c.args.free.temporary c.args.free.slot c.ahead-here.result c.ahead-other.result e z c.in_ok-put.ensures c.in_ok-put_value.ensures c.in_ok-put_value-2.ensures c.in_ok-put_truths.ensures

pub operators::put_both-returns-in_ok-put_both_number-in-Nowhere : goal.operators::put_both-returns-in_ok-put_both_number-in-Nowhere
operators::put_both-returns-in_ok-put_both_number-in-Nowhere t c = rw c.in-Nowhere.is c.in_ok-put_both_number-in-Nowhere.ensures

pub operators::put_both-returns-in_ok-put_both_number-in-To : goal.operators::put_both-returns-in_ok-put_both_number-in-To
operators::put_both-returns-in_ok-put_both_number-in-To t c = rw c.in-To.is (both_to (sizes_in c.args.scope.now) (value_of c.args.a.now) (value_of c.args.b.now) c.in-To.target c.args.free.temporary c.args.free.slot c.in_ok-put_both_number-in-To.ensures)

pub operators::put_both-returns-in_ok-put_both_jump-in-If : goal.operators::put_both-returns-in_ok-put_both_jump-in-If
operators::put_both-returns-in_ok-put_both_jump-in-If t c = rw c.in-If.is c.in_ok-put_both_jump-in-If.ensures

pub operators::put_one-returns-in_ok-put_one_number-in-Nowhere : goal.operators::put_one-returns-in_ok-put_one_number-in-Nowhere
operators::put_one-returns-in_ok-put_one_number-in-Nowhere t c = rw c.in-Nowhere.is c.in_ok-put_one_number-in-Nowhere.ensures

pub operators::put_one-returns-in_ok-put_one_number-in-To : goal.operators::put_one-returns-in_ok-put_one_number-in-To
operators::put_one-returns-in_ok-put_one_number-in-To t c = rw c.in-To.is (one_to (sizes_in c.args.scope.now) (value_of c.args.a.now) (value_of c.args.b.now) c.in-To.target c.args.free.temporary c.args.free.slot c.in_ok-put_one_number-in-To.ensures)

pub operators::put_one-returns-in_ok-put_one_jump-in-If : goal.operators::put_one-returns-in_ok-put_one_jump-in-If
operators::put_one-returns-in_ok-put_one_jump-in-If t c = rw c.in-If.is c.in_ok-put_one_jump-in-If.ensures

pub operators::put_chosen-returns : goal.operators::put_chosen-returns
operators::put_chosen-returns t c =
    let l = length c.args.code.now.list.items in
    let m = meant c.args.mode in
    let nc = value_size (value_of c.args.c.now) shape.Jump in
    let na = value_size (value_of c.args.a.now) (shape_of m) in
    let nb = value_size (value_of c.args.b.now) (shape_of m) in
    let ea : c.value_size-first.result ≡ na = c.value_size-first.ensures ∙ ap (λ s. value_size (value_of c.args.a.now) s) c.shape_in.ensures in
    let eb : c.value_size-second.result ≡ nb = c.value_size-second.ensures ∙ ap (λ s. value_size (value_of c.args.b.now) s) c.shape_in-2.ensures in
    let eo : c.ahead-other.result ≡ plus l (plus 1 (plus nc (plus na 1))) = c.ahead-other.ensures ∙ ap (λ n. plus l n) (c.plus-3.ensures ∙ ap (λ n. plus 1 n) (c.plus-2.ensures ∙ ap (λ n. plus n c.plus.result) c.value_size-test.ensures
    ∙ ap (λ n. plus nc n) (c.plus.ensures ∙ ap (λ n. plus n 1) ea))) in
    let ee : c.ahead-end.result ≡ plus l (plus 1 (plus nc (plus na (plus 1 nb)))) = c.ahead-end.ensures ∙ ap (λ n. plus l n) (c.plus-7.ensures ∙ ap (λ n. plus 1 n) (c.plus-6.ensures ∙ ap (λ n. plus n c.plus-5.result) c.value_size-test.ensures
    ∙ ap (λ n. plus nc n) (c.plus-5.ensures ∙ ap (λ n. plus n c.plus-4.result) ea ∙ ap (λ n. plus na n) (c.plus-4.ensures ∙ ap (λ n. plus 1 n) eb)))) in
    λ u. chosen_wrote (sizes_in c.args.scope.now) u (value_of c.args.c.now) (value_of c.args.a.now) (value_of c.args.b.now) m c.args.free.temporary c.args.free.slot c.ahead-other.result c.ahead-end.result eo ee
    c.in_ok-put.ensures c.in_ok-put_value.ensures c.in_ok-put_value-2.ensures c.in_ok-put-2.ensures c.in_ok-put_value-3.ensures

pub values::put_sequence-returns : goal.values::put_sequence-returns
values::put_sequence-returns t c = three c.in_ok-put.ensures c.in_ok-put_value.ensures c.in_ok-put_value-2.ensures

pub values::put_discarded-returns : goal.values::put_discarded-returns
values::put_discarded-returns t c = three c.in_ok-put.ensures c.in_ok-put_value.ensures c.in_ok-put_end.ensures

pub values::put_cast_node-returns : goal.values::put_cast_node-returns
values::put_cast_node-returns t c = two c.in_ok-put.ensures c.in_ok-put_cast.ensures

pub values::put_waiting_number-returns : goal.values::put_waiting_number-returns
values::put_waiting_number-returns t c =
    let eo = c.waits_for_arguments-operand.ensures in (
      refl,
      c.free_slot-slot.ensures ∙ ap (λ o. lowered.free_kept o c.args.free.slot) eo,
      subst (λ m. WroteValue (sizes_in c.args.scope.now) (value_of c.args.e.now) m c.args.free.temporary c.args.free.slot c.args.code.now.list.items c.put_value.new.code.list.items) (c.mode_of.ensures ∙ ap lowered.mode_of eo) c.in_ok-put_value.ensures,
    )

pub values::put_call_node-returns : goal.values::put_call_node-returns
values::put_call_node-returns t c = λ at u used. three c.in_ok-put.ensures c.in_ok-put_passes.ensures c.in_ok-put_call.ensures

pub values::put_value-returns-in_ok-put_constant-in-Constant : goal.values::put_value-returns-in_ok-put_constant-in-Constant
values::put_value-returns-in_ok-put_constant-in-Constant t c =
    let s = c.in-Constant in
    let same : to_z w64 (of_z w64 s.value) ≡ s.value = search (rules, to_z-of_z) in
    rw (sees_constant c.args.e.now s.field-0 s.value s.is) (subst (λ v. WroteValue (sizes_in c.args.scope.now) (typed.constant s.field-0 v) (meant c.args.mode) c.args.free.temporary c.args.free.slot c.args.code.now.list.items c.put_constant.new.code.list.items) same c.in_ok-put_constant-in-Constant.ensures)

pub values::put_value-returns-in_ok-put_read-in-Read : goal.values::put_value-returns-in_ok-put_read-in-Read
values::put_value-returns-in_ok-put_read-in-Read t c =
    let s = c.in-Read in
    rw (sees_read c.args.e.now s.ty s.place s.is) (rw c.deref.ensures at c.in_ok-put_read-in-Read.ensures)

pub values::put_value-returns-in_ok-put_assigned-in-Assigned : goal.values::put_value-returns-in_ok-put_assigned-in-Assigned
values::put_value-returns-in_ok-put_assigned-in-Assigned t c =
    let s = c.in-Assigned in
    rw (sees_assigned c.args.e.now s.field-0 s.ty s.place s.e s.is) (rw (c.deref-in-Assigned.ensures, c.deref-in-Assigned-2.ensures) at (c.in_ok-put_assigned-in-Assigned.ensures s.field-0))

pub values::put_value-returns-in_ok-put_compound-in-Compound : goal.values::put_value-returns-in_ok-put_compound-in-Compound
values::put_value-returns-in_ok-put_compound-in-Compound t c =
    let s = c.in-Compound in
    rw (sees_compound c.args.e.now s.field-0 s.op s.ty s.of s.place s.e s.is) (rw (c.deref-in-Compound.ensures, c.deref-in-Compound-2.ensures) at (c.in_ok-put_compound-in-Compound.ensures s.field-0))

pub values::put_value-returns-in_ok-put_step-in-Stepped : goal.values::put_value-returns-in_ok-put_step-in-Stepped
values::put_value-returns-in_ok-put_step-in-Stepped t c =
    let s = c.in-Stepped in
    rw (sees_stepped c.args.e.now s.field-0 s.moment s.op s.ty s.of s.place s.is) (rw c.deref-in-Stepped.ensures at (c.in_ok-put_step-in-Stepped.ensures s.field-0))

pub values::put_value-returns-in_ok-put_unary-in-Unary : goal.values::put_value-returns-in_ok-put_unary-in-Unary
values::put_value-returns-in_ok-put_unary-in-Unary t c =
    let s = c.in-Unary in
    rw (sees_unary c.args.e.now s.field-0 s.op s.ty s.e s.is) (rw c.deref-in-Unary.ensures at (c.in_ok-put_unary-in-Unary.ensures s.field-0))

pub values::put_value-returns-in_ok-put_binary-in-Binary : goal.values::put_value-returns-in_ok-put_binary-in-Binary
values::put_value-returns-in_ok-put_binary-in-Binary t c =
    let s = c.in-Binary in
    rw (sees_binary c.args.e.now s.field-0 s.op s.ty s.a s.b s.is) (rw (c.deref-in-Binary.ensures, c.deref-in-Binary-2.ensures) at (c.in_ok-put_binary-in-Binary.ensures s.field-0))

pub values::put_value-returns-in_ok-put_both-in-BothTrue : goal.values::put_value-returns-in_ok-put_both-in-BothTrue
values::put_value-returns-in_ok-put_both-in-BothTrue t c =
    let s = c.in-BothTrue in
    rw (sees_bothtrue c.args.e.now s.a s.b s.is) (rw (c.deref-in-BothTrue.ensures, c.deref-in-BothTrue-2.ensures) at (c.in_ok-put_both-in-BothTrue.ensures))

pub values::put_value-returns-in_ok-put_one-in-OneTrue : goal.values::put_value-returns-in_ok-put_one-in-OneTrue
values::put_value-returns-in_ok-put_one-in-OneTrue t c =
    let s = c.in-OneTrue in
    rw (sees_onetrue c.args.e.now s.a s.b s.is) (rw (c.deref-in-OneTrue.ensures, c.deref-in-OneTrue-2.ensures) at (c.in_ok-put_one-in-OneTrue.ensures))

pub values::put_value-returns-in_ok-put_chosen-in-Chosen : goal.values::put_value-returns-in_ok-put_chosen-in-Chosen
values::put_value-returns-in_ok-put_chosen-in-Chosen t c =
    let s = c.in-Chosen in
    rw (sees_chosen c.args.e.now s.field-0 s.c s.a s.b s.is) (rw (c.deref-in-Chosen.ensures, c.deref-in-Chosen-2.ensures, c.deref-in-Chosen-3.ensures) at (c.in_ok-put_chosen-in-Chosen.ensures s.field-0))

pub values::put_value-returns-in_ok-put_sequence-in-Sequence : goal.values::put_value-returns-in_ok-put_sequence-in-Sequence
values::put_value-returns-in_ok-put_sequence-in-Sequence t c =
    let s = c.in-Sequence in
    rw (sees_sequence c.args.e.now s.a s.b s.is) (rw (c.deref-in-Sequence.ensures, c.deref-in-Sequence-2.ensures) at (c.in_ok-put_sequence-in-Sequence.ensures))

pub values::put_value-returns-in_ok-put_cast_node-in-Cast : goal.values::put_value-returns-in_ok-put_cast_node-in-Cast
values::put_value-returns-in_ok-put_cast_node-in-Cast t c =
    let s = c.in-Cast in
    rw (sees_cast c.args.e.now s.ty s.e s.is) (rw c.deref-in-Cast.ensures at (c.in_ok-put_cast_node-in-Cast.ensures))

pub values::put_value-returns-in_ok-put_discarded-in-Discarded : goal.values::put_value-returns-in_ok-put_discarded-in-Discarded
values::put_value-returns-in_ok-put_discarded-in-Discarded t c =
    let s = c.in-Discarded in
    rw (sees_discarded c.args.e.now s.e s.is) (rw c.deref-in-Discarded.ensures at (c.in_ok-put_discarded-in-Discarded.ensures))

pub values::put_value-returns-in_ok-put_call_node-in-Call : goal.values::put_value-returns-in_ok-put_call_node-in-Call
values::put_value-returns-in_ok-put_call_node-in-Call t c =
    let s = c.in-Call in
    rw (sees_call c.args.e.now s.field-0 s.callee s.field-2 s.field-3 s.arguments s.is) (rw c.deref-in-Call.ensures.value at (c.in_ok-put_call_node-in-Call.ensures s.field-0 s.field-2 s.field-3))

pub values::put_passes-returns : goal.values::put_passes-returns
values::put_passes-returns t c = passes_of (sizes_in c.args.scope.now) (map argument_of c.args.arguments.now) c.in_ok-frees.frees.items c.args.free _ _ _ c.in_ok-frees.ensures c.in_ok-put_all_fetched.ensures

pub values::put_all_waiting-loop-argument-init : goal.values::put_all_waiting-loop-argument-init
values::put_all_waiting-loop-argument-init t c = record { so_far = λ fs end x. rw c.new-frees.ensures.items x; fewer = omega arith; ends = c.of-ends.ensures; temporary = c.requires.temporary; slot = c.requires.slot }

pub values::put_all_waiting-loop-argument-preserved : goal.values::put_all_waiting-loop-argument-preserved
values::put_all_waiting-loop-argument-preserved t c =
    let l = c.loop-argument in
    let rest : l.rest.now ≡ c.in-Some.argument.now ∷ c.in-Some.more.now = search rules in
    record {
      so_far = waits_behind (sizes_in c.args.scope.now) c.in-Some.argument.now c.in-Some.more.now l.rest.now l.free _ l.frees.items _ _ _ _ _ _ rest l.invariant.so_far c.in_ok-push.ensures.items c.in_ok-free.ensures;
      fewer = omega (arith, nodes_left c.in-Some.argument.now c.in-Some.more.now l.rest.now _ rest l.invariant.fewer);
      ends = subst (AreEnds c.behind-ends.result) (ap (drop 1) rest) (c.behind-ends.ensures l.rest.now l.invariant.ends);
      temporary = temporary_goes (sizes_in c.args.scope.now) (argument_of c.in-Some.argument.now) (arguments_of (map argument_of c.in-Some.more.now)) l.free c.in_ok-free.free l.code.list.items c.put_waiting.new.code.list.items c.in_ok-free.ensures l.invariant.temporary;
      slot = slot_goes (sizes_in c.args.scope.now) (argument_of c.in-Some.argument.now) (arguments_of (map argument_of c.in-Some.more.now)) l.free c.in_ok-free.free l.code.list.items c.put_waiting.new.code.list.items c.in_ok-free.ensures l.invariant.slot;
    }

pub values::put_all_waiting-returns : goal.values::put_all_waiting-returns
values::put_all_waiting-returns t c =
    let l = c.loop-argument in
    all_waited (sizes_in c.args.scope.now) l.rest.now l.free l.frees.items _ _ _ _ l.invariant.so_far (search rules) (search rules)

pub values::put_all_waiting-put_waiting-requires : goal.values::put_all_waiting-put_waiting-requires
values::put_all_waiting-put_waiting-requires t c =
    let l = c.loop-argument in
    let rest : l.rest.now ≡ c.in-Some.argument.now ∷ c.in-Some.more.now = search rules in
    let h = nodes_left c.in-Some.argument.now c.in-Some.more.now l.rest.now _ rest l.invariant.fewer in
    (omega (arith, h, c.decreases), (subst (AreEnds c.behind-ends.result) (ap (drop 1) rest) (c.behind-ends.ensures l.rest.now l.invariant.ends), (l.invariant.temporary, l.invariant.slot)))

-- ---- the temporaries and slots that are free have room

pub operators::put_minus-put_rested-requires : goal.operators::put_minus-put_rested-requires
operators::put_minus-put_rested-requires t c = (omega (arith, c.decreases), (omega (arith, c.requires.temporary, c.in_ok-put.ensures.grows), omega (arith, c.requires.slot, c.in_ok-put.ensures.grows)))

pub operators::put_complement-put_rested-requires : goal.operators::put_complement-put_rested-requires
operators::put_complement-put_rested-requires t c = (omega (arith, c.decreases), (omega (arith, c.requires.temporary, c.in_ok-put.ensures.grows), omega (arith, c.requires.slot, c.in_ok-put.ensures.grows)))

pub operators::put_is_zero-put_rested-requires : goal.operators::put_is_zero-put_rested-requires
operators::put_is_zero-put_rested-requires t c = (omega (arith, c.decreases), (omega (arith, c.requires.temporary, c.in_ok-put.ensures.grows), omega (arith, c.requires.slot, c.in_ok-put.ensures.grows)))

pub operators::put_not-put_is_zero-requires : goal.operators::put_not-put_is_zero-requires
operators::put_not-put_is_zero-requires t c = (omega (arith, c.decreases), (c.requires.temporary, c.requires.slot))

pub operators::put_not-put_is_zero-requires-in-To : goal.operators::put_not-put_is_zero-requires-in-To
operators::put_not-put_is_zero-requires-in-To t c = (omega (arith, c.decreases), (c.requires.temporary, c.requires.slot))

pub operators::put_not-put_value-requires : goal.operators::put_not-put_value-requires
operators::put_not-put_value-requires t c = (omega (arith, c.decreases), (omega (arith, c.requires.temporary, c.in_ok-put-in-If.ensures.grows), (omega (arith, c.requires.slot, c.in_ok-put-in-If.ensures.grows), tt)))

pub operators::put_plus-put_value-requires : goal.operators::put_plus-put_value-requires
operators::put_plus-put_value-requires t c = (omega (arith, c.decreases), (omega (arith, c.requires.temporary, c.in_ok-put.ensures.grows), (omega (arith, c.requires.slot, c.in_ok-put.ensures.grows), c.requires.aim)))

pub operators::put_unary-put_plus-requires : goal.operators::put_unary-put_plus-requires
operators::put_unary-put_plus-requires t c = (omega (arith, c.decreases), (c.requires.temporary, (c.requires.slot, c.requires.aim)))

pub operators::put_unary-put_minus-requires : goal.operators::put_unary-put_minus-requires
operators::put_unary-put_minus-requires t c = (omega (arith, c.decreases), (c.requires.temporary, c.requires.slot))

pub operators::put_unary-put_complement-requires : goal.operators::put_unary-put_complement-requires
operators::put_unary-put_complement-requires t c = (omega (arith, c.decreases), (c.requires.temporary, c.requires.slot))

pub operators::put_unary-put_not-requires : goal.operators::put_unary-put_not-requires
operators::put_unary-put_not-requires t c = (omega (arith, c.decreases), (c.requires.temporary, c.requires.slot))

pub operators::put_binary-put_value-requires : goal.operators::put_binary-put_value-requires
operators::put_binary-put_value-requires t c = (omega (arith, c.decreases), (omega (arith, c.requires.temporary, c.in_ok-put.ensures.grows), (omega (arith, c.requires.slot, c.in_ok-put.ensures.grows), near_mode (value_of c.args.a.now) (lowered.writes (value_of c.args.b.now)) (lowered.calls (value_of c.args.b.now)) c.args.free.temporary c.args.free.slot c.waits_for-left.result (meant c.mode_of.result) c.waits_for-left.ensures c.mode_of.ensures (omega (arith, c.requires.temporary, c.args.code.now.short)))))

pub operators::put_binary-beside-less-requires-clause-temporary : goal.operators::put_binary-beside-less-requires-clause-temporary
operators::put_binary-beside-less-requires-clause-temporary t c = omega (arith, c.requires.temporary, c.args.code.now.short)

pub operators::put_binary-beside-less-requires-clause-slot : goal.operators::put_binary-beside-less-requires-clause-slot
operators::put_binary-beside-less-requires-clause-slot t c = omega (arith, c.requires.slot, c.args.code.now.short)

pub operators::put_binary-put_rested-requires : goal.operators::put_binary-put_rested-requires
operators::put_binary-put_rested-requires t c = (omega (arith, c.decreases), (omega (arith, c.requires.temporary, c.beside-less.ensures.temporary, temporary_within c.waits_for-left.result c.args.free.temporary, c.in_ok-put.ensures.grows, c.in_ok-put_value.ensures.grows), omega (arith, c.requires.slot, c.beside-less.ensures.slot, kept_within c.waits_for-left.result c.args.free.slot, c.in_ok-put.ensures.grows, c.in_ok-put_value.ensures.grows)))

pub operators::put_both_jump-put_value-requires : goal.operators::put_both_jump-put_value-requires
operators::put_both_jump-put_value-requires t c = (omega (arith, c.decreases), (omega (arith, c.requires.temporary, c.in_ok-put.ensures.grows), (omega (arith, c.requires.slot, c.in_ok-put.ensures.grows), tt)))

pub operators::put_both_jump-put_value-requires-2 : goal.operators::put_both_jump-put_value-requires-2
operators::put_both_jump-put_value-requires-2 t c = (omega (arith, c.decreases), (omega (arith, c.requires.temporary, c.in_ok-put.ensures.grows, c.in_ok-put_value.ensures.grows), (omega (arith, c.requires.slot, c.in_ok-put.ensures.grows, c.in_ok-put_value.ensures.grows), tt)))

pub operators::put_one_jump-put_value-requires : goal.operators::put_one_jump-put_value-requires
operators::put_one_jump-put_value-requires t c = (omega (arith, c.decreases), (omega (arith, c.requires.temporary, c.in_ok-put.ensures.grows), (omega (arith, c.requires.slot, c.in_ok-put.ensures.grows), tt)))

pub operators::put_one_jump-put_value-requires-2 : goal.operators::put_one_jump-put_value-requires-2
operators::put_one_jump-put_value-requires-2 t c = (omega (arith, c.decreases), (omega (arith, c.requires.temporary, c.in_ok-put.ensures.grows, c.in_ok-put_value.ensures.grows), (omega (arith, c.requires.slot, c.in_ok-put.ensures.grows, c.in_ok-put_value.ensures.grows), tt)))

pub operators::put_both_number-put_value-requires : goal.operators::put_both_number-put_value-requires
operators::put_both_number-put_value-requires t c = (omega (arith, c.decreases), (omega (arith, c.requires.temporary, c.in_ok-put.ensures.grows), (omega (arith, c.requires.slot, c.in_ok-put.ensures.grows), tt)))

pub operators::put_both_number-put_value-requires-2 : goal.operators::put_both_number-put_value-requires-2
operators::put_both_number-put_value-requires-2 t c = (omega (arith, c.decreases), (omega (arith, c.requires.temporary, c.in_ok-put.ensures.grows, c.in_ok-put_value.ensures.grows), (omega (arith, c.requires.slot, c.in_ok-put.ensures.grows, c.in_ok-put_value.ensures.grows), tt)))

pub operators::put_one_number-put_value-requires : goal.operators::put_one_number-put_value-requires
operators::put_one_number-put_value-requires t c = (omega (arith, c.decreases), (omega (arith, c.requires.temporary, c.in_ok-put.ensures.grows), (omega (arith, c.requires.slot, c.in_ok-put.ensures.grows), tt)))

pub operators::put_one_number-put_value-requires-2 : goal.operators::put_one_number-put_value-requires-2
operators::put_one_number-put_value-requires-2 t c = (omega (arith, c.decreases), (omega (arith, c.requires.temporary, c.in_ok-put.ensures.grows, c.in_ok-put_value.ensures.grows), (omega (arith, c.requires.slot, c.in_ok-put.ensures.grows, c.in_ok-put_value.ensures.grows), tt)))

pub operators::put_both-put_both_number-requires : goal.operators::put_both-put_both_number-requires
operators::put_both-put_both_number-requires t c = (omega (arith, c.decreases), (c.requires.temporary, c.requires.slot))

pub operators::put_both-put_both_number-requires-in-To : goal.operators::put_both-put_both_number-requires-in-To
operators::put_both-put_both_number-requires-in-To t c = (omega (arith, c.decreases), (c.requires.temporary, c.requires.slot))

pub operators::put_both-put_both_jump-requires : goal.operators::put_both-put_both_jump-requires
operators::put_both-put_both_jump-requires t c = (omega (arith, c.decreases), (c.requires.temporary, c.requires.slot))

pub operators::put_one-put_one_number-requires : goal.operators::put_one-put_one_number-requires
operators::put_one-put_one_number-requires t c = (omega (arith, c.decreases), (c.requires.temporary, c.requires.slot))

pub operators::put_one-put_one_number-requires-in-To : goal.operators::put_one-put_one_number-requires-in-To
operators::put_one-put_one_number-requires-in-To t c = (omega (arith, c.decreases), (c.requires.temporary, c.requires.slot))

pub operators::put_one-put_one_jump-requires : goal.operators::put_one-put_one_jump-requires
operators::put_one-put_one_jump-requires t c = (omega (arith, c.decreases), (c.requires.temporary, c.requires.slot))

pub operators::put_chosen-put_value-requires : goal.operators::put_chosen-put_value-requires
operators::put_chosen-put_value-requires t c = (omega (arith, c.decreases), (omega (arith, c.requires.temporary, c.in_ok-put.ensures.grows), (omega (arith, c.requires.slot, c.in_ok-put.ensures.grows), tt)))

pub operators::put_chosen-put_value-requires-2 : goal.operators::put_chosen-put_value-requires-2
operators::put_chosen-put_value-requires-2 t c = (omega (arith, c.decreases), (omega (arith, c.requires.temporary, c.in_ok-put.ensures.grows, c.in_ok-put_value.ensures.grows), (omega (arith, c.requires.slot, c.in_ok-put.ensures.grows, c.in_ok-put_value.ensures.grows), c.requires.aim)))

pub operators::put_chosen-put_value-requires-3 : goal.operators::put_chosen-put_value-requires-3
operators::put_chosen-put_value-requires-3 t c = (omega (arith, c.decreases), (omega (arith, c.requires.temporary, c.in_ok-put.ensures.grows, c.in_ok-put_value.ensures.grows, c.in_ok-put_value-2.ensures.grows, c.in_ok-put-2.ensures.grows), (omega (arith, c.requires.slot, c.in_ok-put.ensures.grows, c.in_ok-put_value.ensures.grows, c.in_ok-put_value-2.ensures.grows, c.in_ok-put-2.ensures.grows), c.requires.aim)))

pub places::put_element-put_found-requires : goal.places::put_element-put_found-requires
places::put_element-put_found-requires t c = (omega (arith, c.decreases), (omega (arith, c.requires.temporary, c.in_ok-put.ensures.grows), omega (arith, c.requires.slot, c.in_ok-put.ensures.grows)))

pub places::put_element-beside_spot-less-requires-clause-temporary : goal.places::put_element-beside_spot-less-requires-clause-temporary
places::put_element-beside_spot-less-requires-clause-temporary t c = omega (arith, c.requires.temporary, c.args.code.now.short)

pub places::put_element-beside_spot-less-requires-clause-slot : goal.places::put_element-beside_spot-less-requires-clause-slot
places::put_element-beside_spot-less-requires-clause-slot t c = omega (arith, c.requires.slot, c.args.code.now.short)

pub places::put_element-put_rested-requires : goal.places::put_element-put_rested-requires
places::put_element-put_rested-requires t c = (omega (arith, c.decreases), (omega (arith, c.requires.temporary, c.beside_spot-less.ensures.temporary, temporary_within_at c.found-spot.result c.args.free.temporary, c.in_ok-put.ensures.grows, c.in_ok-put_found.ensures.grows), omega (arith, c.requires.slot, c.beside_spot-less.ensures.slot, kept_within_at c.found-spot.result c.args.free.slot, c.in_ok-put.ensures.grows, c.in_ok-put_found.ensures.grows)))

pub places::put_element-free_temporary-temporary-requires : goal.places::put_element-free_temporary-temporary-requires
places::put_element-free_temporary-temporary-requires t c = omega (arith, c.requires.temporary, c.beside_spot-less.ensures.temporary, temporary_within_at c.found-spot.result c.args.free.temporary, c.in_ok-put.ensures.grows, c.in_ok-put.ensures.short)

pub places::put_found-put_element-requires : goal.places::put_found-put_element-requires
places::put_found-put_element-requires t c =
    let s = c.in-Element in
    (omega (arith, c.decreases, ap place_nodes (sees_element c.args.place.now s.field-0 s.array s.index s.is), ap (λ p. place_nodes (place_of p)) c.deref.ensures, ap (λ e. nodes (value_of e)) c.deref-in-Element.ensures), (c.requires.temporary, c.requires.slot))

pub places::put_read_memory-put_found-requires : goal.places::put_read_memory-put_found-requires
places::put_read_memory-put_found-requires t c = (omega (arith, c.decreases), (c.requires.temporary, c.requires.slot))

pub places::put_read-put_read_memory-requires : goal.places::put_read-put_read_memory-requires
places::put_read-put_read_memory-requires t c = (omega (arith, c.decreases), (c.requires.temporary, c.requires.slot))

pub places::put_assigned_object-put_converted-requires : goal.places::put_assigned_object-put_converted-requires
places::put_assigned_object-put_converted-requires t c = (omega (arith, c.decreases), (omega (arith, c.requires.temporary, c.in_ok-put.ensures.grows, c.in_ok-put-2.ensures.grows), (omega (arith, c.requires.slot, c.in_ok-put.ensures.grows, c.in_ok-put-2.ensures.grows), tt)))

pub places::put_assigned_memory-put_found-requires : goal.places::put_assigned_memory-put_found-requires
places::put_assigned_memory-put_found-requires t c = (omega (arith, c.decreases), (omega (arith, c.requires.temporary, c.in_ok-put.ensures.grows), omega (arith, c.requires.slot, c.in_ok-put.ensures.grows)))

pub places::put_assigned_memory-beside_spot-less-requires-clause-temporary : goal.places::put_assigned_memory-beside_spot-less-requires-clause-temporary
places::put_assigned_memory-beside_spot-less-requires-clause-temporary t c = omega (arith, c.requires.temporary, c.args.code.now.short)

pub places::put_assigned_memory-beside_spot-less-requires-clause-slot : goal.places::put_assigned_memory-beside_spot-less-requires-clause-slot
places::put_assigned_memory-beside_spot-less-requires-clause-slot t c = omega (arith, c.requires.slot, c.args.code.now.short)

pub places::put_assigned_memory-put_rested-requires : goal.places::put_assigned_memory-put_rested-requires
places::put_assigned_memory-put_rested-requires t c = (omega (arith, c.decreases), (omega (arith, c.requires.temporary, c.beside_spot-less.ensures.temporary, temporary_within_at c.found-spot.result c.args.free.temporary, c.in_ok-put.ensures.grows, c.in_ok-put_found.ensures.grows), omega (arith, c.requires.slot, c.beside_spot-less.ensures.slot, kept_within_at c.found-spot.result c.args.free.slot, c.in_ok-put.ensures.grows, c.in_ok-put_found.ensures.grows)))

pub places::put_assigned-put_assigned_object-requires : goal.places::put_assigned-put_assigned_object-requires
places::put_assigned-put_assigned_object-requires t c = (omega (arith, c.decreases), (c.requires.temporary, c.requires.slot))

pub places::put_assigned-put_assigned_memory-requires : goal.places::put_assigned-put_assigned_memory-requires
places::put_assigned-put_assigned_memory-requires t c = (omega (arith, c.decreases), (c.requires.temporary, c.requires.slot))

pub places::put_compound_object-put_rested-requires : goal.places::put_compound_object-put_rested-requires
places::put_compound_object-put_rested-requires t c = (omega (arith, c.decreases), (omega (arith, c.requires.temporary, c.in_ok-put.ensures.grows, c.in_ok-put-2.ensures.grows), omega (arith, c.requires.slot, c.in_ok-put.ensures.grows, c.in_ok-put-2.ensures.grows)))

pub places::put_compound_memory-put_found-requires : goal.places::put_compound_memory-put_found-requires
places::put_compound_memory-put_found-requires t c = (omega (arith, c.decreases), (omega (arith, c.requires.temporary, c.in_ok-put.ensures.grows), omega (arith, c.requires.slot, c.in_ok-put.ensures.grows)))

pub places::put_compound_memory-beside_spot-less-requires-clause-temporary : goal.places::put_compound_memory-beside_spot-less-requires-clause-temporary
places::put_compound_memory-beside_spot-less-requires-clause-temporary t c = omega (arith, c.requires.temporary, c.args.code.now.short)

pub places::put_compound_memory-beside_spot-less-requires-clause-slot : goal.places::put_compound_memory-beside_spot-less-requires-clause-slot
places::put_compound_memory-beside_spot-less-requires-clause-slot t c = omega (arith, c.requires.slot, c.args.code.now.short)

pub places::put_compound_memory-put_rested-requires : goal.places::put_compound_memory-put_rested-requires
places::put_compound_memory-put_rested-requires t c = (omega (arith, c.decreases), (omega (arith, c.requires.temporary, c.beside_spot-less.ensures.temporary, temporary_within_at c.found-spot.result c.args.free.temporary, c.in_ok-put.ensures.grows, c.in_ok-put_found.ensures.grows), omega (arith, c.requires.slot, c.beside_spot-less.ensures.slot, kept_within_at c.found-spot.result c.args.free.slot, c.in_ok-put.ensures.grows, c.in_ok-put_found.ensures.grows)))

pub places::put_compound_memory-free_temporary-temporary-requires : goal.places::put_compound_memory-free_temporary-temporary-requires
places::put_compound_memory-free_temporary-temporary-requires t c = omega (arith, c.requires.temporary, c.beside_spot-less.ensures.temporary, temporary_within_at c.found-spot.result c.args.free.temporary, c.in_ok-put.ensures.grows, c.in_ok-put.ensures.short)

pub places::put_compound-put_compound_object-requires : goal.places::put_compound-put_compound_object-requires
places::put_compound-put_compound_object-requires t c = (omega (arith, c.decreases), (c.requires.temporary, c.requires.slot))

pub places::put_compound-put_compound_memory-requires : goal.places::put_compound-put_compound_memory-requires
places::put_compound-put_compound_memory-requires t c = (omega (arith, c.decreases), (c.requires.temporary, c.requires.slot))

pub places::put_step_memory-put_found-requires : goal.places::put_step_memory-put_found-requires
places::put_step_memory-put_found-requires t c = (omega (arith, c.decreases), (omega (arith, c.requires.temporary, c.in_ok-put.ensures.grows), omega (arith, c.requires.slot, c.in_ok-put.ensures.grows)))

pub places::put_step_memory-free_temporary_at-temporary-requires : goal.places::put_step_memory-free_temporary_at-temporary-requires
places::put_step_memory-free_temporary_at-temporary-requires t c = omega (arith, c.requires.temporary, c.args.code.now.short)

pub places::put_step_memory-put_altered_by-requires : goal.places::put_step_memory-put_altered_by-requires
places::put_step_memory-put_altered_by-requires t c = omega (arith, c.requires.temporary, c.free_temporary_at-temporary.ensures, temporary_within_at c.found-spot.result c.args.free.temporary, c.in_ok-put.ensures.grows, c.in_ok-put.ensures.short)

pub places::put_step-put_step_object-requires-clause-room : goal.places::put_step-put_step_object-requires-clause-room
places::put_step-put_step_object-requires-clause-room t c = omega (arith, c.requires.temporary, c.args.code.now.short)

pub places::put_step-put_step_object-requires-clause-aim : goal.places::put_step-put_step_object-requires-clause-aim
places::put_step-put_step_object-requires-clause-aim t c = c.requires.aim

pub places::put_step-put_step_memory-requires : goal.places::put_step-put_step_memory-requires
places::put_step-put_step_memory-requires t c = (omega (arith, c.decreases), (c.requires.temporary, c.requires.slot))

pub values::put_rested-put_value-requires : goal.values::put_rested-put_value-requires
values::put_rested-put_value-requires t c = (omega (arith, c.decreases), (c.requires.temporary, (c.requires.slot, near_mode (value_of c.args.e.now) lowered.writes_none false c.args.free.temporary c.args.free.slot c.operand_of-operand.result (meant c.mode_of.result) c.operand_of-operand.ensures c.mode_of.ensures (omega (arith, c.requires.temporary, c.args.code.now.short)))))

pub values::put_converted-put_value-requires : goal.values::put_converted-put_value-requires
values::put_converted-put_value-requires t c = (omega (arith, c.decreases), (c.requires.temporary, (c.requires.slot, c.requires.aim)))

pub values::put_converted-put_rested-requires : goal.values::put_converted-put_rested-requires
values::put_converted-put_rested-requires t c = (omega (arith, c.decreases), (c.requires.temporary, c.requires.slot))

pub values::put_cast-put_value-requires : goal.values::put_cast-put_value-requires
values::put_cast-put_value-requires t c = (omega (arith, c.decreases), (c.requires.temporary, (c.requires.slot, c.requires.aim)))

pub values::put_cast-put_rested-requires : goal.values::put_cast-put_rested-requires
values::put_cast-put_rested-requires t c = (omega (arith, c.decreases), (c.requires.temporary, c.requires.slot))

pub values::put_sequence-put_value-requires : goal.values::put_sequence-put_value-requires
values::put_sequence-put_value-requires t c = (omega (arith, c.decreases), (omega (arith, c.requires.temporary, c.in_ok-put.ensures.grows), (omega (arith, c.requires.slot, c.in_ok-put.ensures.grows), tt)))

pub values::put_sequence-put_value-requires-2 : goal.values::put_sequence-put_value-requires-2
values::put_sequence-put_value-requires-2 t c = (omega (arith, c.decreases), (omega (arith, c.requires.temporary, c.in_ok-put.ensures.grows, c.in_ok-put_value.ensures.grows), (omega (arith, c.requires.slot, c.in_ok-put.ensures.grows, c.in_ok-put_value.ensures.grows), c.requires.aim)))

pub values::put_discarded-put_value-requires : goal.values::put_discarded-put_value-requires
values::put_discarded-put_value-requires t c = (omega (arith, c.decreases), (omega (arith, c.requires.temporary, c.in_ok-put.ensures.grows), (omega (arith, c.requires.slot, c.in_ok-put.ensures.grows), tt)))

pub values::put_cast_node-put_cast-requires : goal.values::put_cast_node-put_cast-requires
values::put_cast_node-put_cast-requires t c = (omega (arith, c.decreases), (omega (arith, c.requires.temporary, c.in_ok-put.ensures.grows), (omega (arith, c.requires.slot, c.in_ok-put.ensures.grows), c.requires.aim)))

pub values::put_waiting_number-put_value-requires : goal.values::put_waiting_number-put_value-requires
values::put_waiting_number-put_value-requires t c =
    let n = arguments_of (map argument_of c.args.more.now) in
    (omega (arith, c.decreases), (c.requires.temporary, (c.requires.slot, near_mode (value_of c.args.e.now) (lowered.arguments_write n) (lowered.arguments_call n) c.args.free.temporary c.args.free.slot c.waits_for_arguments-operand.result (meant c.mode_of.result) c.waits_for_arguments-operand.ensures c.mode_of.ensures (omega (arith, c.requires.temporary, c.args.code.now.short)))))

pub values::put_waiting_number-overflow_add-temporary : goal.values::put_waiting_number-overflow_add-temporary
values::put_waiting_number-overflow_add-temporary t c = omega (arith, c.requires.temporary, c.args.code.now.short)

pub values::put_waiting_number-free_slot-slot-requires : goal.values::put_waiting_number-free_slot-slot-requires
values::put_waiting_number-free_slot-slot-requires t c = omega (arith, c.requires.slot, c.args.code.now.short)

pub values::put_waiting_array-put_found-requires : goal.values::put_waiting_array-put_found-requires
values::put_waiting_array-put_found-requires t c = (omega (arith, c.decreases), (c.requires.temporary, c.requires.slot))

pub values::put_waiting_array-overflow_add-temporary : goal.values::put_waiting_array-overflow_add-temporary
values::put_waiting_array-overflow_add-temporary t c = omega (arith, c.requires.temporary, c.args.code.now.short)

pub values::put_waiting_array-free_slot_at-slot-requires : goal.values::put_waiting_array-free_slot_at-slot-requires
values::put_waiting_array-free_slot_at-slot-requires t c = omega (arith, c.requires.slot, c.args.code.now.short)

pub values::put_waiting-put_waiting_number-requires : goal.values::put_waiting-put_waiting_number-requires
values::put_waiting-put_waiting_number-requires t c =
    let s = c.in-Number in
    (omega (arith, c.decreases, ap given_nodes (sees_number c.args.argument.now s.field-0 s.e s.is)), (c.requires.ends, (c.requires.temporary, c.requires.slot)))

pub values::put_waiting-put_waiting_array-requires : goal.values::put_waiting-put_waiting_array-requires
values::put_waiting-put_waiting_array-requires t c =
    let s = c.in-Array in
    (omega (arith, c.decreases, ap given_nodes (sees_array c.args.argument.now s.array s.is)), (c.requires.ends, (c.requires.temporary, c.requires.slot)))

pub values::put_passes-put_all_waiting-requires : goal.values::put_passes-put_all_waiting-requires
values::put_passes-put_all_waiting-requires t c = (omega (arith, c.decreases), (c.requires.temporary, c.requires.slot))

pub values::put_call_node-put_passes-requires : goal.values::put_call_node-put_passes-requires
values::put_call_node-put_passes-requires t c = (omega (arith, c.decreases), (omega arith, omega (arith, c.requires.slot, c.in_ok-put.ensures.grows)))

pub values::put_value-put_read-requires : goal.values::put_value-put_read-requires
values::put_value-put_read-requires t c =
    let s = c.in-Read in
    (omega (arith, c.decreases, ap nodes (sees_read c.args.e.now s.ty s.place s.is), ap (λ p. place_nodes (place_of p)) c.deref.ensures), (c.requires.temporary, c.requires.slot))

pub values::put_value-put_assigned-requires : goal.values::put_value-put_assigned-requires
values::put_value-put_assigned-requires t c =
    let s = c.in-Assigned in
    (omega (arith, c.decreases, ap nodes (sees_assigned c.args.e.now s.field-0 s.ty s.place s.e s.is), ap (λ p. place_nodes (place_of p)) c.deref-in-Assigned.ensures, ap (λ e. nodes (value_of e)) c.deref-in-Assigned-2.ensures), (c.requires.temporary, c.requires.slot))

pub values::put_value-put_compound-requires : goal.values::put_value-put_compound-requires
values::put_value-put_compound-requires t c =
    let s = c.in-Compound in
    (omega (arith, c.decreases, ap nodes (sees_compound c.args.e.now s.field-0 s.op s.ty s.of s.place s.e s.is), ap (λ p. place_nodes (place_of p)) c.deref-in-Compound.ensures, ap (λ e. nodes (value_of e)) c.deref-in-Compound-2.ensures), (c.requires.temporary, c.requires.slot))

pub values::put_value-put_step-requires : goal.values::put_value-put_step-requires
values::put_value-put_step-requires t c =
    let s = c.in-Stepped in
    (omega (arith, c.decreases, ap nodes (sees_stepped c.args.e.now s.field-0 s.moment s.op s.ty s.of s.place s.is), ap (λ p. place_nodes (place_of p)) c.deref-in-Stepped.ensures), (c.requires.temporary, (c.requires.slot, c.requires.aim)))

pub values::put_value-put_unary-requires : goal.values::put_value-put_unary-requires
values::put_value-put_unary-requires t c =
    let s = c.in-Unary in
    (omega (arith, c.decreases, ap nodes (sees_unary c.args.e.now s.field-0 s.op s.ty s.e s.is), ap (λ e. nodes (value_of e)) c.deref-in-Unary.ensures), (c.requires.temporary, (c.requires.slot, c.requires.aim)))

pub values::put_value-put_binary-requires : goal.values::put_value-put_binary-requires
values::put_value-put_binary-requires t c =
    let s = c.in-Binary in
    (omega (arith, c.decreases, ap nodes (sees_binary c.args.e.now s.field-0 s.op s.ty s.a s.b s.is), ap (λ e. nodes (value_of e)) c.deref-in-Binary.ensures, ap (λ e. nodes (value_of e)) c.deref-in-Binary-2.ensures), (c.requires.temporary, c.requires.slot))

pub values::put_value-put_both-requires : goal.values::put_value-put_both-requires
values::put_value-put_both-requires t c =
    let s = c.in-BothTrue in
    (omega (arith, c.decreases, ap nodes (sees_bothtrue c.args.e.now s.a s.b s.is), ap (λ e. nodes (value_of e)) c.deref-in-BothTrue.ensures, ap (λ e. nodes (value_of e)) c.deref-in-BothTrue-2.ensures), (c.requires.temporary, c.requires.slot))

pub values::put_value-put_one-requires : goal.values::put_value-put_one-requires
values::put_value-put_one-requires t c =
    let s = c.in-OneTrue in
    (omega (arith, c.decreases, ap nodes (sees_onetrue c.args.e.now s.a s.b s.is), ap (λ e. nodes (value_of e)) c.deref-in-OneTrue.ensures, ap (λ e. nodes (value_of e)) c.deref-in-OneTrue-2.ensures), (c.requires.temporary, c.requires.slot))

pub values::put_value-put_chosen-requires : goal.values::put_value-put_chosen-requires
values::put_value-put_chosen-requires t c =
    let s = c.in-Chosen in
    (omega (arith, c.decreases, ap nodes (sees_chosen c.args.e.now s.field-0 s.c s.a s.b s.is), ap (λ e. nodes (value_of e)) c.deref-in-Chosen.ensures, ap (λ e. nodes (value_of e)) c.deref-in-Chosen-2.ensures, ap (λ e. nodes (value_of e)) c.deref-in-Chosen-3.ensures), (c.requires.temporary, (c.requires.slot, c.requires.aim)))

pub values::put_value-put_sequence-requires : goal.values::put_value-put_sequence-requires
values::put_value-put_sequence-requires t c =
    let s = c.in-Sequence in
    (omega (arith, c.decreases, ap nodes (sees_sequence c.args.e.now s.a s.b s.is), ap (λ e. nodes (value_of e)) c.deref-in-Sequence.ensures, ap (λ e. nodes (value_of e)) c.deref-in-Sequence-2.ensures), (c.requires.temporary, (c.requires.slot, c.requires.aim)))

pub values::put_value-put_cast_node-requires : goal.values::put_value-put_cast_node-requires
values::put_value-put_cast_node-requires t c =
    let s = c.in-Cast in
    (omega (arith, c.decreases, ap nodes (sees_cast c.args.e.now s.ty s.e s.is), ap (λ e. nodes (value_of e)) c.deref-in-Cast.ensures), (c.requires.temporary, (c.requires.slot, c.requires.aim)))

pub values::put_value-put_discarded-requires : goal.values::put_value-put_discarded-requires
values::put_value-put_discarded-requires t c =
    let s = c.in-Discarded in
    (omega (arith, c.decreases, ap nodes (sees_discarded c.args.e.now s.e s.is), ap (λ e. nodes (value_of e)) c.deref-in-Discarded.ensures), (c.requires.temporary, c.requires.slot))

pub values::put_value-put_call_node-requires : goal.values::put_value-put_call_node-requires
values::put_value-put_call_node-requires t c =
    let s = c.in-Call in
    (omega (arith, c.decreases, ap nodes (sees_call c.args.e.now s.field-0 s.callee s.field-2 s.field-3 s.arguments s.is), ap (λ a. argument_nodes (arguments_of (map argument_of a))) c.deref-in-Call.ensures.value), (c.requires.temporary, c.requires.slot))
