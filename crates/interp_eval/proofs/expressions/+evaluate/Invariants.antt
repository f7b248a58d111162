use Rattle.std.proofs.Common.{◌+◌}
use Rattle.typed_ast.specs.View.{place_of, value_of}
use Rattle.interp_eval.proofs.Work.{work, work_place}
use Rattle.interp_eval.proofs.expressions.+evaluate.Given as goal

abbrev pub decreases-place : goal.decreases-place
decreases-place l = work_place (place_of l.a.now)

abbrev pub decreases-element : goal.decreases-element
decreases-element l = work_place (place_of l.array.now) + work (value_of l.index.now) + 2

abbrev pub decreases-value : goal.decreases-value
decreases-value l = work (value_of l.e.now)

abbrev pub decreases-read : goal.decreases-read
decreases-read l = work_place (place_of l.a.now) + 4

abbrev pub decreases-assigned : goal.decreases-assigned
decreases-assigned l = work_place (place_of l.a.now) + work (value_of l.e.now) + 3

abbrev pub decreases-compound : goal.decreases-compound
decreases-compound l = work_place (place_of l.a.now) + work (value_of l.e.now) + 3

abbrev pub decreases-stepped : goal.decreases-stepped
decreases-stepped l = work_place (place_of l.a.now) + 3

abbrev pub decreases-unary : goal.decreases-unary
decreases-unary l = work (value_of l.e.now) + 2

abbrev pub decreases-binary : goal.decreases-binary
decreases-binary l = work (value_of l.a.now) + work (value_of l.b.now) + 2

abbrev pub decreases-both_true : goal.decreases-both_true
decreases-both_true l = work (value_of l.a.now) + work (value_of l.b.now) + 2

abbrev pub decreases-one_true : goal.decreases-one_true
decreases-one_true l = work (value_of l.a.now) + work (value_of l.b.now) + 2

abbrev pub decreases-truth_of : goal.decreases-truth_of
decreases-truth_of l = work (value_of l.b.now) + 1

abbrev pub decreases-chosen : goal.decreases-chosen
decreases-chosen l = work (value_of l.c.now) + work (value_of l.a.now) + work (value_of l.b.now) + 2

abbrev pub decreases-conversion : goal.decreases-conversion
decreases-conversion l = work (value_of l.e.now) + 1

abbrev pub decreases-sequence : goal.decreases-sequence
decreases-sequence l = work (value_of l.a.now) + work (value_of l.b.now) + 2

abbrev pub decreases-cast : goal.decreases-cast
decreases-cast l = work (value_of l.e.now) + 2

abbrev pub decreases-discarded : goal.decreases-discarded
decreases-discarded l = work (value_of l.e.now) + 2

abbrev pub decreases-read_part : goal.decreases-read_part
decreases-read_part l = work_place (place_of l.a.now) + 3

abbrev pub decreases-read_found : goal.decreases-read_found
decreases-read_found l = work_place (place_of l.a.now) + 2

abbrev pub decreases-element_of : goal.decreases-element_of
decreases-element_of l = work (value_of l.index.now) + 2

abbrev pub decreases-operand : goal.decreases-operand
decreases-operand l = work (value_of l.e.now) + 1

abbrev pub decreases-object_assigned : goal.decreases-object_assigned
decreases-object_assigned l = work (value_of l.e.now) + 2

abbrev pub decreases-part_assigned : goal.decreases-part_assigned
decreases-part_assigned l = work_place (place_of l.a.now) + work (value_of l.e.now) + 2

abbrev pub decreases-object_combined : goal.decreases-object_combined
decreases-object_combined l = work (value_of l.e.now) + 2

abbrev pub decreases-part_combined : goal.decreases-part_combined
decreases-part_combined l = work_place (place_of l.a.now) + work (value_of l.e.now) + 2

abbrev pub decreases-part_stepped : goal.decreases-part_stepped
decreases-part_stepped l = work_place (place_of l.a.now) + 2

abbrev pub decreases-element_read : goal.decreases-element_read
decreases-element_read l = work_place (place_of l.array.now) + work (value_of l.index.now) + 5

abbrev pub decreases-row_read : goal.decreases-row_read
decreases-row_read l = work_place (place_of l.array.now) + work (value_of l.index.now) + 2
