use Rattle.std.proofs.Common.{◌≡◌, ◌++◌, length}
use Rattle.macros_substitution.proofs.plain.put_moved.Given as goal

abbrev pub invariant-loop-token : goal.invariant-loop-token
invariant-loop-token l = l.done.items ++ l.rest.items ≡ l.initial.done.items ++ l.initial.rest.items

abbrev pub decreases-loop-token : goal.decreases-loop-token
decreases-loop-token l = length l.rest.items
