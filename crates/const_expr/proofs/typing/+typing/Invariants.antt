use Rattle.std.proofs.Common.{◌+◌, drop, map}
use Rattle.tree.specs.View.{tree_of, trees_of, type_of}
use Rattle.const_expr.proofs.Work.{work, works, work_type}
use Rattle.const_expr.proofs.SizesRead.{Read}
use Rattle.const_expr.proofs.Given.{ReadTo}
use Rattle.const_expr.proofs.typing.+typing.Given as goal

abbrev pub invariant-sizes-loop-e : goal.invariant-sizes-loop-e
invariant-sizes-loop-e l = Read l.names l.scope l.pos l.initial.literals l.literals l.es (drop l.e-index l.es) l.all.items

abbrev pub invariant-arguments-loop-e : goal.invariant-arguments-loop-e
invariant-arguments-loop-e l = ReadTo l.names l.scope l.pos l.initial.literals l.literals l.parameters l.es l.e-index l.all.items

abbrev pub decreases-expression : goal.decreases-expression
decreases-expression l = work (tree_of l.e.now)

abbrev pub decreases-two_operands : goal.decreases-two_operands
decreases-two_operands l = work (tree_of l.a.now) + work (tree_of l.b.now) + 1

abbrev pub decreases-subscript_typed : goal.decreases-subscript_typed
decreases-subscript_typed l = work (tree_of l.a.now) + work (tree_of l.b.now) + 2

abbrev pub decreases-binary_typed : goal.decreases-binary_typed
decreases-binary_typed l = work (tree_of l.a.now) + work (tree_of l.b.now) + 2

abbrev pub decreases-assign_typed : goal.decreases-assign_typed
decreases-assign_typed l = work (tree_of l.a.now) + work (tree_of l.b.now) + 2

abbrev pub decreases-after_typed : goal.decreases-after_typed
decreases-after_typed l = work (tree_of l.a.now) + 1

abbrev pub decreases-before_typed : goal.decreases-before_typed
decreases-before_typed l = work (tree_of l.a.now) + 1

abbrev pub decreases-prefix_typed : goal.decreases-prefix_typed
decreases-prefix_typed l = work (tree_of l.a.now) + 1

abbrev pub decreases-sizeof_typed : goal.decreases-sizeof_typed
decreases-sizeof_typed l = work (tree_of l.a.now) + 1

abbrev pub decreases-sizeof_type_typed : goal.decreases-sizeof_type_typed
decreases-sizeof_type_typed l = work_type (type_of l.name.now) + 1

abbrev pub decreases-cast_typed : goal.decreases-cast_typed
decreases-cast_typed l = work_type (type_of l.name.now) + work (tree_of l.a.now) + 1

abbrev pub decreases-conditional_typed : goal.decreases-conditional_typed
decreases-conditional_typed l = work (tree_of l.test.now) + work (tree_of l.a.now) + work (tree_of l.b.now) + 2

abbrev pub decreases-type_named : goal.decreases-type_named
decreases-type_named l = work_type (type_of l.name.now)

abbrev pub decreases-size : goal.decreases-size
decreases-size l = work (tree_of l.e.now) + 1

abbrev pub decreases-sizes : goal.decreases-sizes
decreases-sizes l = works (trees_of (map tree_of l.es.now))

abbrev pub decreases-arguments : goal.decreases-arguments
decreases-arguments l = works (trees_of (map tree_of l.es.now))

abbrev pub decreases-call_typed : goal.decreases-call_typed
decreases-call_typed l = works (trees_of (map tree_of l.es.now)) + 1
