use Rattle.std.proofs.Common.{◌≡◌, length, map}
use Rattle.typed_ast.specs.View.{argument_of}
use Rattle.lower_exprs.specs.inside.Ends.{calling_in}
use Rattle.lower_exprs.proofs.ends.last_calling.Given as goal

abbrev pub decreases-loop-last : goal.decreases-loop-last
decreases-loop-last l = length l.left

abbrev pub invariant-loop-last : goal.invariant-loop-last
invariant-loop-last l = calling_in (map argument_of l.left) ≡ calling_in (map argument_of l.arguments)
