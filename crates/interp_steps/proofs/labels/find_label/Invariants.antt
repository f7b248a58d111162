use Rattle.std.proofs.Common.{◌≡◌, List, length, map, Some}
use Rattle.typing_spec.specs.Types as type
use Rattle.typed_ast.specs.View.{statement_of, statements_of}
use Rattle.csem.specs.Machine.{State}
use Rattle.interp_store.specs.layer.Steps.{from_label}
use Rattle.interp_steps.proofs.labels.find_label.Given as goal

abbrev pub decreases-loop-a : goal.decreases-loop-a
decreases-loop-a l = length l.rest

abbrev pub invariant-loop-a : goal.invariant-loop-a
invariant-loop-a l = (objects : List type.ObjectType) (s : State) →
    from_label objects (Some l.label) (statements_of (map statement_of l.rest)) s ≡ from_label objects (Some l.fn.label) (statements_of (map statement_of l.all)) s
