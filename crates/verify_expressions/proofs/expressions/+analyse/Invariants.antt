use Rattle.std.proofs.Common.{◌+◌, ◌*◌, ◌≤◌, map, length}
use Rattle.typed_ast.specs.View.{argument_of, arguments_of, place_of, value_of}
use Rattle.verify_expressions.specs.Views.{frame_of, state_of}
use Rattle.verify_expressions.proofs.Steps.{LeadsTo}
use Rattle.verify_expressions.proofs.Work.{work, work_place, work_arguments, work_given}
use Rattle.verify_expressions.proofs.expressions.+analyse.Given as goal

abbrev pub decreases-element : goal.decreases-element
decreases-element l = 2 * (work_place (place_of l.array.now) + work (value_of l.index.now)) + 5

abbrev pub decreases-place : goal.decreases-place
decreases-place l = 2 * work_place (place_of l.a.now)

abbrev pub decreases-variable : goal.decreases-variable
decreases-variable l = 2 * work_place (place_of l.a.now) + 1

abbrev pub decreases-evaluate : goal.decreases-evaluate
decreases-evaluate l = 2 * work (value_of l.e.now) + 1

abbrev pub decreases-by_form : goal.decreases-by_form
decreases-by_form l = 2 * work (value_of l.e.now)

abbrev pub decreases-read : goal.decreases-read
decreases-read l = 2 * work_place (place_of l.a.now) + 3

abbrev pub decreases-assigned : goal.decreases-assigned
decreases-assigned l = 2 * (work_place (place_of l.a.now) + work (value_of l.e.now)) + 5

abbrev pub decreases-compound : goal.decreases-compound
decreases-compound l = 2 * (work_place (place_of l.a.now) + work (value_of l.e.now)) + 5

abbrev pub decreases-stepped : goal.decreases-stepped
decreases-stepped l = 2 * work_place (place_of l.a.now) + 5

abbrev pub decreases-unary : goal.decreases-unary
decreases-unary l = 2 * work (value_of l.e.now) + 3

abbrev pub decreases-binary : goal.decreases-binary
decreases-binary l = 2 * (work (value_of l.a.now) + work (value_of l.b.now)) + 5

abbrev pub decreases-both_true : goal.decreases-both_true
decreases-both_true l = 2 * (work (value_of l.a.now) + work (value_of l.b.now)) + 5

abbrev pub decreases-one_true : goal.decreases-one_true
decreases-one_true l = 2 * (work (value_of l.a.now) + work (value_of l.b.now)) + 5

abbrev pub decreases-chosen : goal.decreases-chosen
decreases-chosen l = 2 * (work (value_of l.c.now) + work (value_of l.a.now) + work (value_of l.b.now)) + 5

abbrev pub decreases-sequence : goal.decreases-sequence
decreases-sequence l = 2 * (work (value_of l.a.now) + work (value_of l.b.now)) + 5

abbrev pub decreases-cast : goal.decreases-cast
decreases-cast l = 2 * work (value_of l.e.now) + 3

abbrev pub decreases-discarded : goal.decreases-discarded
decreases-discarded l = 2 * work (value_of l.e.now) + 3

abbrev pub decreases-number : goal.decreases-number
decreases-number l = 2 * work (value_of l.e.now) + 3

abbrev pub decreases-array_passed : goal.decreases-array_passed
decreases-array_passed l = 2 * work_place (place_of l.a.now) + 3

abbrev pub decreases-argument : goal.decreases-argument
decreases-argument l = 2 * work_given (argument_of l.a.now) + 5

abbrev pub decreases-passed : goal.decreases-passed
decreases-passed l = 2 * work_arguments (arguments_of (map argument_of l.arguments.now)) + 4

abbrev pub decreases-called : goal.decreases-called
decreases-called l = 2 * work_arguments (arguments_of (map argument_of l.arguments.now)) + 6

abbrev pub decreases-by_value : goal.decreases-by_value
decreases-by_value l = 2 * work (value_of l.e.now) + 2

abbrev pub decreases-both_tested : goal.decreases-both_tested
decreases-both_tested l = 2 * (work (value_of l.a.now) + work (value_of l.b.now)) + 5

abbrev pub decreases-one_tested : goal.decreases-one_tested
decreases-one_tested l = 2 * (work (value_of l.a.now) + work (value_of l.b.now)) + 5

abbrev pub decreases-test : goal.decreases-test
decreases-test l = 2 * work (value_of l.e.now) + 4

abbrev pub decreases-test_by_form : goal.decreases-test_by_form
decreases-test_by_form l = 2 * work (value_of l.e.now) + 3

abbrev pub decreases-passed-loop-a : goal.decreases-passed-loop-a
decreases-passed-loop-a l = length l.rest

abbrev pub invariant-passed-loop-a : goal.invariant-passed-loop-a
invariant-passed-loop-a l = record {
  below : work_arguments (arguments_of (map argument_of l.rest)) ≤ work_arguments (arguments_of (map argument_of l.arguments));
  leads : LeadsTo (frame_of l.scope) l.rest (state_of l.current) l.arguments (state_of l.initial.current) l.intervals.items l.arrays.items;
}
