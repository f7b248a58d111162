use Rattle.std.proofs.Common.{length}
use Rattle.const_expr.proofs.Given.{Assigned}
use Rattle.const_expr.proofs.calls.assigned_to.Given as goal

abbrev pub invariant-loop-x : goal.invariant-loop-x
invariant-loop-x l = Assigned l.pos l.parameters l.initial.xs.items l.xs.items l.all.items

abbrev pub decreases-loop-x : goal.decreases-loop-x
decreases-loop-x l = length l.xs.items
