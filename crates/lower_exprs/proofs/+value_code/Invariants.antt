use Rattle.std.proofs.Common.{◌≤◌, ◌+◌, ◌*◌, ◌++◌, List, map, length}
use Rattle.typed_ast.specs.View.{value_of, place_of, arguments_of, argument_of}
use Rattle.lower_exprs.proofs.Nodes.{nodes, place_nodes, argument_nodes, given_nodes}
use Rattle.tac_code.specs.declared.code.Instruction.{Instruction}
use Rattle.lower_ops.specs.layer.Rows.{sizes_in}
use Rattle.lower_exprs.specs.declared.places.Free.{Free}
use Rattle.lower_exprs.specs.inside.Waiting.{AllWait}
use Rattle.lower_exprs.specs.inside.Ends.{AreEnds}
use Rattle.lower_exprs.proofs.+value_code.Given as goal

abbrev pub decreases-values::put_value : goal.decreases-values::put_value
decreases-values::put_value l = 8 * nodes (value_of l.e.now)

abbrev pub decreases-values::put_waiting_number : goal.decreases-values::put_waiting_number
decreases-values::put_waiting_number l = 8 * nodes (value_of l.e.now) + 1

abbrev pub decreases-values::put_rested : goal.decreases-values::put_rested
decreases-values::put_rested l = 8 * nodes (value_of l.e.now) + 1

abbrev pub decreases-values::put_converted : goal.decreases-values::put_converted
decreases-values::put_converted l = 8 * nodes (value_of l.e.now) + 2

abbrev pub decreases-values::put_cast : goal.decreases-values::put_cast
decreases-values::put_cast l = 8 * nodes (value_of l.e.now) + 2

abbrev pub decreases-values::put_cast_node : goal.decreases-values::put_cast_node
decreases-values::put_cast_node l = 8 * nodes (value_of l.e.now) + 3

abbrev pub decreases-operators::put_minus : goal.decreases-operators::put_minus
decreases-operators::put_minus l = 8 * nodes (value_of l.e.now) + 2

abbrev pub decreases-operators::put_complement : goal.decreases-operators::put_complement
decreases-operators::put_complement l = 8 * nodes (value_of l.e.now) + 2

abbrev pub decreases-operators::put_is_zero : goal.decreases-operators::put_is_zero
decreases-operators::put_is_zero l = 8 * nodes (value_of l.e.now) + 2

abbrev pub decreases-operators::put_plus : goal.decreases-operators::put_plus
decreases-operators::put_plus l = 8 * nodes (value_of l.e.now) + 2

abbrev pub decreases-operators::put_not : goal.decreases-operators::put_not
decreases-operators::put_not l = 8 * nodes (value_of l.e.now) + 3

abbrev pub decreases-operators::put_unary : goal.decreases-operators::put_unary
decreases-operators::put_unary l = 8 * nodes (value_of l.e.now) + 4

abbrev pub decreases-values::put_discarded : goal.decreases-values::put_discarded
decreases-values::put_discarded l = 8 * nodes (value_of l.e.now) + 1

abbrev pub decreases-operators::put_binary : goal.decreases-operators::put_binary
decreases-operators::put_binary l = 8 * (nodes (value_of l.a.now) + nodes (value_of l.b.now)) + 2

abbrev pub decreases-operators::put_both_jump : goal.decreases-operators::put_both_jump
decreases-operators::put_both_jump l = 8 * (nodes (value_of l.a.now) + nodes (value_of l.b.now)) + 1

abbrev pub decreases-operators::put_one_jump : goal.decreases-operators::put_one_jump
decreases-operators::put_one_jump l = 8 * (nodes (value_of l.a.now) + nodes (value_of l.b.now)) + 1

abbrev pub decreases-operators::put_both_number : goal.decreases-operators::put_both_number
decreases-operators::put_both_number l = 8 * (nodes (value_of l.a.now) + nodes (value_of l.b.now)) + 1

abbrev pub decreases-operators::put_one_number : goal.decreases-operators::put_one_number
decreases-operators::put_one_number l = 8 * (nodes (value_of l.a.now) + nodes (value_of l.b.now)) + 1

abbrev pub decreases-operators::put_both : goal.decreases-operators::put_both
decreases-operators::put_both l = 8 * (nodes (value_of l.a.now) + nodes (value_of l.b.now)) + 2

abbrev pub decreases-operators::put_one : goal.decreases-operators::put_one
decreases-operators::put_one l = 8 * (nodes (value_of l.a.now) + nodes (value_of l.b.now)) + 2

abbrev pub decreases-values::put_sequence : goal.decreases-values::put_sequence
decreases-values::put_sequence l = 8 * (nodes (value_of l.a.now) + nodes (value_of l.b.now)) + 1

abbrev pub decreases-operators::put_chosen : goal.decreases-operators::put_chosen
decreases-operators::put_chosen l = 8 * (nodes (value_of l.c.now) + (nodes (value_of l.a.now) + nodes (value_of l.b.now))) + 1

abbrev pub decreases-values::put_waiting_array : goal.decreases-values::put_waiting_array
decreases-values::put_waiting_array l = 8 * place_nodes (place_of l.array.now) + 1

abbrev pub decreases-places::put_element : goal.decreases-places::put_element
decreases-places::put_element l = 8 * (place_nodes (place_of l.array.now) + nodes (value_of l.index.now)) + 2

abbrev pub decreases-places::put_found : goal.decreases-places::put_found
decreases-places::put_found l = 8 * place_nodes (place_of l.place.now)

abbrev pub decreases-places::put_read_memory : goal.decreases-places::put_read_memory
decreases-places::put_read_memory l = 8 * place_nodes (place_of l.place.now) + 1

abbrev pub decreases-places::put_read : goal.decreases-places::put_read
decreases-places::put_read l = 8 * place_nodes (place_of l.place.now) + 2

abbrev pub decreases-places::put_assigned_object : goal.decreases-places::put_assigned_object
decreases-places::put_assigned_object l = 8 * nodes (value_of l.e.now) + 3

abbrev pub decreases-places::put_assigned_memory : goal.decreases-places::put_assigned_memory
decreases-places::put_assigned_memory l = 8 * (place_nodes (place_of l.place.now) + nodes (value_of l.e.now)) + 3

abbrev pub decreases-places::put_assigned : goal.decreases-places::put_assigned
decreases-places::put_assigned l = 8 * (place_nodes (place_of l.place.now) + nodes (value_of l.e.now)) + 4

abbrev pub decreases-places::put_compound_object : goal.decreases-places::put_compound_object
decreases-places::put_compound_object l = 8 * nodes (value_of l.e.now) + 3

abbrev pub decreases-places::put_compound_memory : goal.decreases-places::put_compound_memory
decreases-places::put_compound_memory l = 8 * (place_nodes (place_of l.place.now) + nodes (value_of l.e.now)) + 3

abbrev pub decreases-places::put_compound : goal.decreases-places::put_compound
decreases-places::put_compound l = 8 * (place_nodes (place_of l.place.now) + nodes (value_of l.e.now)) + 4

abbrev pub decreases-places::put_step_memory : goal.decreases-places::put_step_memory
decreases-places::put_step_memory l = 8 * place_nodes (place_of l.place.now) + 1

abbrev pub decreases-places::put_step : goal.decreases-places::put_step
decreases-places::put_step l = 8 * place_nodes (place_of l.place.now) + 2

abbrev pub decreases-values::put_waiting : goal.decreases-values::put_waiting
decreases-values::put_waiting l = 8 * given_nodes (argument_of l.argument.now) + 2

abbrev pub decreases-values::put_all_waiting : goal.decreases-values::put_all_waiting
decreases-values::put_all_waiting l = 8 * argument_nodes (arguments_of (map argument_of l.arguments.now))

abbrev pub decreases-values::put_passes : goal.decreases-values::put_passes
decreases-values::put_passes l = 8 * argument_nodes (arguments_of (map argument_of l.arguments.now)) + 1

abbrev pub decreases-values::put_call_node : goal.decreases-values::put_call_node
decreases-values::put_call_node l = 8 * argument_nodes (arguments_of (map argument_of l.arguments.now)) + 2

abbrev pub decreases-values::put_all_waiting-loop-argument : goal.decreases-values::put_all_waiting-loop-argument
decreases-values::put_all_waiting-loop-argument l = length l.rest

abbrev pub invariant-values::put_all_waiting-loop-argument : goal.invariant-values::put_all_waiting-loop-argument
invariant-values::put_all_waiting-loop-argument l = record {
  so_far : (fs : List Free) (end : List Instruction) → AllWait (sizes_in l.scope) (map argument_of l.rest) fs l.free l.code.list.items end
      → AllWait (sizes_in l.scope) (map argument_of l.arguments) (l.frees.items ++ fs) l.fn.first l.initial.code.list.items end;
  fewer : argument_nodes (arguments_of (map argument_of l.rest)) ≤ argument_nodes (arguments_of (map argument_of l.arguments));
  ends : AreEnds l.ends l.rest;
  temporary : l.free.temporary ≤ length l.code.list.items;
  slot : l.free.slot ≤ length l.code.list.items;
}
