use Rattle.std.proofs.Common.{◌≡◌, ◌≤◌, ◌+◌, ◌*◌, map, length}
use Rattle.typed_ast.specs.View.{value_of, place_of, arguments_of, argument_of}
use Rattle.lower_exprs.proofs.Nodes.{nodes, place_nodes, argument_nodes, given_nodes}
use Rattle.lower_ops.specs.layer.Parts.{plus}
use Rattle.lower_exprs.specs.layer.Sizes.{passes_size}
use Rattle.lower_exprs.specs.inside.Ends.{AreEnds}
use Rattle.lower_exprs.proofs.sizes.+value_sizes.Given as goal

abbrev pub decreases-value_size : goal.decreases-value_size
decreases-value_size l = 4 * nodes (value_of l.e.now)

abbrev pub decreases-passes_size : goal.decreases-passes_size
decreases-passes_size l = 4 * argument_nodes (arguments_of (map argument_of l.arguments.now))

abbrev pub decreases-number_size : goal.decreases-number_size
decreases-number_size l = 4 * nodes (value_of l.e.now) + 1

abbrev pub decreases-argument_size : goal.decreases-argument_size
decreases-argument_size l = 4 * given_nodes (argument_of l.argument.now) + 2

abbrev pub decreases-passes_size-loop-argument : goal.decreases-passes_size-loop-argument
decreases-passes_size-loop-argument l = length l.rest

abbrev pub invariant-passes_size-loop-argument : goal.invariant-passes_size-loop-argument
invariant-passes_size-loop-argument l = record {
  so_far : plus l.size (passes_size (arguments_of (map argument_of l.rest))) ≡ passes_size (arguments_of (map argument_of l.arguments));
  within : l.size ≤ 18446744073709551615;
  fewer : argument_nodes (arguments_of (map argument_of l.rest)) ≤ argument_nodes (arguments_of (map argument_of l.arguments));
  ends : AreEnds l.ends l.rest;
}

abbrev pub decreases-converted_size : goal.decreases-converted_size
decreases-converted_size l = 4 * nodes (value_of l.e.now) + 1

abbrev pub decreases-cast_size : goal.decreases-cast_size
decreases-cast_size l = 4 * nodes (value_of l.e.now) + 1

abbrev pub decreases-computed_size : goal.decreases-computed_size
decreases-computed_size l = 4 * nodes (value_of l.e.now) + 1

abbrev pub decreases-not_size : goal.decreases-not_size
decreases-not_size l = 4 * nodes (value_of l.e.now) + 2

abbrev pub decreases-unary_size : goal.decreases-unary_size
decreases-unary_size l = 4 * nodes (value_of l.e.now) + 3

abbrev pub decreases-binary_size : goal.decreases-binary_size
decreases-binary_size l = 4 * (nodes (value_of l.a.now) + nodes (value_of l.b.now)) + 1

abbrev pub decreases-truth_size : goal.decreases-truth_size
decreases-truth_size l = 4 * (nodes (value_of l.a.now) + nodes (value_of l.b.now)) + 1

abbrev pub decreases-both_size : goal.decreases-both_size
decreases-both_size l = 4 * (nodes (value_of l.a.now) + nodes (value_of l.b.now)) + 2

abbrev pub decreases-place_size : goal.decreases-place_size
decreases-place_size l = 4 * place_nodes (place_of l.place.now)

abbrev pub decreases-element_size : goal.decreases-element_size
decreases-element_size l = 4 * (place_nodes (place_of l.array.now) + nodes (value_of l.index.now)) + 1

abbrev pub decreases-read_size : goal.decreases-read_size
decreases-read_size l = 4 * place_nodes (place_of l.place.now) + 1

abbrev pub decreases-assigned_size : goal.decreases-assigned_size
decreases-assigned_size l = 4 * (place_nodes (place_of l.place.now) + nodes (value_of l.e.now)) + 2

abbrev pub decreases-compound_size : goal.decreases-compound_size
decreases-compound_size l = 4 * (place_nodes (place_of l.place.now) + nodes (value_of l.e.now)) + 2

abbrev pub decreases-stepped_size : goal.decreases-stepped_size
decreases-stepped_size l = 4 * place_nodes (place_of l.place.now) + 1
