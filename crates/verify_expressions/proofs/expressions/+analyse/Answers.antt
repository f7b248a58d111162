use Rattle.std.proofs.Common.{◌∙◌, ◌++◌, ap}
use Rattle.verify_logic.proofs.Rules.{assigned_rule, unary_rule, binary_rule, chosen_rule, sequence_rule, cast_rule, discarded_rule, both_tests, one_tests}
use Rattle.verify_expressions.proofs.Steps.{element_behind, variable_found, read_as, compound_as, stepped_as, both_value, one_value, in_just, number_passes, array_passes, pass_step, pass_end, fewer, calls_found, value_split, gets, puts, exits}
use Rattle.verify_expressions.proofs.expressions.+analyse.Goals as goal

pub element-returns : goal.element-returns
element-returns t c = element_behind _ _ _ _ _ _ _ _ _ _ _ _ _ _ _ c.in-Some-add_usize.ensures c.in-Some.ensures c.in_ok-found.ensures c.in_ok-i.ensures c.in-Some-content_at.ensures c.in_ok-subscript_at.ensures c.followed_subscript-subscript.ensures

pub variable-returns-clause-found : goal.variable-returns-clause-found
variable-returns-clause-found t c = variable_found _ _ _ _ _ _ _ (c.is_variable-variable.ensures c.if-not-variable.false) c.in_ok-found.ensures

pub variable-returns-clause-above : goal.variable-returns-clause-above
variable-returns-clause-above t c = (c.is_variable-variable.ensures c.if-not-variable.false).above

pub read-returns : goal.read-returns
read-returns t c = read_as _ _ _ _ _ _ _ _ _ _ _ c.position-at.ensures c.in_ok-found.ensures (c.is_element-within.ensures c.if-not-within.false) c.in-Some.ensures c.in_ok-interval.ensures

pub assigned-returns : goal.assigned-returns
assigned-returns t c = assigned_rule _ _ _ _ _ _ _ _ _ _ _ _ _ c.in_ok-to.ensures.found c.in_ok-to.ensures.above c.in_ok-right.ensures c.conversion-interval.ensures c.in_ok-state2.ensures

pub compound-returns : goal.compound-returns
compound-returns t c = compound_as _ _ _ _ _ _ _ _ _ _ _ _ _ _ _ _ _ _ _ c.position-place_at.ensures c.in_ok-to.ensures.found c.in_ok-to.ensures.above c.in_ok-right.ensures c.in-Some.ensures c.in_ok-old.ensures c.in_ok-new.ensures c.conversion-interval.ensures c.in_ok-state2.ensures

pub stepped-returns : goal.stepped-returns
stepped-returns t c = stepped_as _ _ _ _ _ _ _ _ _ _ _ _ _ _ _ _ _ _ c.position-place_at.ensures c.value_stepped-interval.ensures c.in_ok-to.ensures.found c.in_ok-to.ensures.above c.in-Some.ensures c.in_ok-old.ensures c.in_ok-new.ensures c.conversion-kept.ensures c.in_ok-state2.ensures

pub unary-returns : goal.unary-returns
unary-returns t c = unary_rule _ _ _ _ _ _ _ _ _ c.in_ok-a.ensures c.in_ok-interval.ensures

pub binary-returns : goal.binary-returns
binary-returns t c = binary_rule _ _ _ _ _ _ _ _ _ _ _ _ c.in_ok-left.ensures c.in_ok-right.ensures c.in_ok-interval.ensures

pub both_true-returns : goal.both_true-returns
both_true-returns t c = both_value _ _ _ _ _ _ _ _ _ _ c.truths-interval.ensures c.in_ok-left.ensures c.in_ok-right.ensures c.in_ok-state2.ensures.first c.in_ok-state2.ensures.second

pub one_true-returns : goal.one_true-returns
one_true-returns t c = one_value _ _ _ _ _ _ _ _ _ _ c.truths-interval.ensures c.in_ok-left.ensures c.in_ok-right.ensures c.in_ok-state2.ensures.first c.in_ok-state2.ensures.second

pub chosen-returns : goal.chosen-returns
chosen-returns t c = chosen_rule _ _ _ _ _ _ _ _ _ _ _ _ _ _ _ c.in_ok-tested.ensures c.in_ok-left.ensures c.in_ok-right.ensures c.in_ok-state2.ensures.first c.in_ok-state2.ensures.second c.hull-either.ensures.first c.hull-either.ensures.second c.choice_conversion-interval.ensures

pub sequence-returns : goal.sequence-returns
sequence-returns t c = sequence_rule _ _ _ _ _ _ _ _ c.in_ok-left.ensures c.in_ok-right.ensures

pub cast-returns : goal.cast-returns
cast-returns t c = cast_rule _ _ _ _ _ _ _ c.in_ok-a.ensures c.conversion-interval.ensures

pub discarded-returns : goal.discarded-returns
discarded-returns t c = discarded_rule _ _ _ _ _ _ c.in_ok-a.ensures (in_just _ _ c.single-interval.ensures)

pub number-returns : goal.number-returns
number-returns t c = number_passes _ _ _ _ _ _ _ _ _ _ c.in_ok-v.ensures c.conversion-interval.ensures c.in_ok-given.ensures.intervals c.in_ok-given.ensures.arrays c.in_ok-given.ensures.state

pub array_passed-returns : goal.array_passed-returns
array_passed-returns t c = array_passes _ _ _ (record { object = c.in_ok-found.found.object; depth = c.in_ok-found.found.depth }) _ _ _ _ _ (c.is_object-there.ensures c.if-not-there.false) c.in_ok-found.ensures c.in_ok-given.ensures.intervals c.in_ok-given.ensures.arrays c.in_ok-given.ensures.state

pub called-returns-in-Function : goal.called-returns-in-Function
called-returns-in-Function t c = calls_found _ _ _ _ _ _ _ _ _ _ _ _ _ c.function_called.result c.in-Function.is c.deref.ensures.value c.deref-in-Function.ensures.value c.in_ok-given.ensures c.function_called.ensures

pub called-returns-in-GetByte : goal.called-returns-in-GetByte
called-returns-in-GetByte t c = gets _ _ _ _ _ _ _ _ _ _ _ c.in-GetByte.is c.got_byte-byte.ensures c.in_ok-given.ensures

pub called-returns-in-PutByte : goal.called-returns-in-PutByte
called-returns-in-PutByte t c = puts _ _ _ _ _ _ _ _ _ _ _ c.in-PutByte.is c.single-zero.ensures c.in_ok-given.ensures

pub called-returns-in-Exit : goal.called-returns-in-Exit
called-returns-in-Exit t c = exits _ _ _ _ _ _ _ _ _ _ _ _ c.in-Exit.is c.in_ok-given.ensures

pub both_tested-returns : goal.both_tested-returns
both_tested-returns t c = both_tests _ _ _ _ _ _ _ _ _ c.in_ok-left.ensures c.in_ok-right.ensures c.in_ok-off.ensures.first c.in_ok-off.ensures.second

pub one_tested-returns : goal.one_tested-returns
one_tested-returns t c = one_tests _ _ _ _ _ _ _ _ _ c.in_ok-left.ensures c.in_ok-right.ensures c.in_ok-on.ensures.first c.in_ok-on.ensures.second

pub passed-loop-a-preserved : goal.passed-loop-a-preserved
passed-loop-a-preserved t c = record {
  below = fewer c.loop-a.rest.now c.in-Some.a.now c.in-Some.more.now _ c.in-Some.ensures.cases.0 c.loop-a.invariant.below;
  leads = pass_step _ c.loop-a.rest.now c.in-Some.a.now c.in-Some.more.now _ _ _ _ _ _ _ _ _ _ c.in-Some.ensures.cases.0 (c.in-Ok.ensures.items ∙ ap (λ xs. c.loop-a.intervals.items ++ xs) c.deref.ensures.value) (c.in-Ok-extend_from_slice.ensures.items ∙ ap (λ xs. c.loop-a.arrays.items ++ xs) c.deref-in-Some.ensures.value) c.in_ok-v.ensures c.loop-a.invariant.leads;
}

pub passed-returns : goal.passed-returns
passed-returns t c = pass_end _ c.loop-a.rest.now _ _ _ _ _ c.in_default.ensures.cases c.loop-a.invariant.leads

pub by_value-returns : goal.by_value-returns
by_value-returns t c = value_split _ _ _ _ _ c.split.result c.in_ok-v.ensures c.split.ensures
