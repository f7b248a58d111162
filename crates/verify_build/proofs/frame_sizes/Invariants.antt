use Rattle.std.proofs.Common.{◌≡◌, ◌++◌, length}
use Rattle.verify_build.specs.Sizes.{frames_listed}
use Rattle.verify_build.proofs.frame_sizes.Given as goal

abbrev pub invariant-loop-entry : goal.invariant-loop-entry
invariant-loop-entry l = l.sizes.items ++ frames_listed l.rest ≡ frames_listed l.entries

abbrev pub decreases-loop-entry : goal.decreases-loop-entry
decreases-loop-entry l = length l.rest
