use Rattle.std.proofs.Common.{◌≡◌, ◌++◌, ◌+◌, ◌≤◌, map, length}
use Rattle.typed_ast.specs.View.{argument_of, arguments_of, place_of, value_of}
use Rattle.verify_stack.specs.Calls.{argument_calls}
use Rattle.verify_stack.proofs.Sizes.{place_size, value_size, arguments_size, given_size}
use Rattle.verify_stack.proofs.calls.+values.Given as goal

abbrev pub decreases-add_place : goal.decreases-add_place
decreases-add_place l = place_size (place_of l.place.now)

abbrev pub decreases-add_place_and_value : goal.decreases-add_place_and_value
decreases-add_place_and_value l = place_size (place_of l.place.now) + value_size (value_of l.e.now) + 1

abbrev pub decreases-add_values : goal.decreases-add_values
decreases-add_values l = value_size (value_of l.a.now) + value_size (value_of l.b.now) + 1

abbrev pub decreases-add_chosen : goal.decreases-add_chosen
decreases-add_chosen l = value_size (value_of l.c.now) + value_size (value_of l.a.now) + value_size (value_of l.b.now) + 2

abbrev pub decreases-add_value : goal.decreases-add_value
decreases-add_value l = value_size (value_of l.e.now)

abbrev pub decreases-add_called : goal.decreases-add_called
decreases-add_called l = arguments_size (arguments_of (map argument_of l.arguments.now)) + 2

abbrev pub decreases-add_argument : goal.decreases-add_argument
decreases-add_argument l = given_size (argument_of l.a.now) + 1

abbrev pub decreases-add_arguments : goal.decreases-add_arguments
decreases-add_arguments l = arguments_size (arguments_of (map argument_of l.arguments.now)) + 1

abbrev pub decreases-add_arguments-loop-a : goal.decreases-add_arguments-loop-a
decreases-add_arguments-loop-a l = length l.rest

abbrev pub invariant-add_arguments-loop-a : goal.invariant-add_arguments-loop-a
invariant-add_arguments-loop-a l = record {
  below : arguments_size (arguments_of (map argument_of l.rest)) ≤ arguments_size (arguments_of (map argument_of l.arguments));
  left : l.calls.items ++ argument_calls (arguments_of (map argument_of l.rest)) ≡ l.initial.calls.items ++ argument_calls (arguments_of (map argument_of l.initial.rest));
}
