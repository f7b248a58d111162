use Rattle.std.proofs.Common.{◌≡◌, ◌*◌, length}
use Rattle.typing_spec.specs.Types.{elements_in}
use Rattle.verify.proofs.first_objects.are_enough.Given as goal

abbrev pub invariant-loop-n : goal.invariant-loop-n
invariant-loop-n l = l.rows * elements_in l.rest ≡ elements_in l.lengths

abbrev pub decreases-loop-n : goal.decreases-loop-n
decreases-loop-n l = length l.rest
