use Rattle.std.proofs.Common.{◌≡◌, ◌++◌, List, length}
use Rattle.typed_ast.specs.declared.expressions.Argument.{Argument}
use Rattle.lower_exprs.specs.inside.Ends.{write_nothing}
use Rattle.lower_exprs.proofs.ends.last_writing.Given as goal

abbrev pub decreases-loop-last : goal.decreases-loop-last
decreases-loop-last l = length l.left

abbrev pub invariant-loop-last : goal.invariant-loop-last
invariant-loop-last l = (behind : List Argument) × (l.left ++ behind ≡ l.arguments) × write_nothing behind
