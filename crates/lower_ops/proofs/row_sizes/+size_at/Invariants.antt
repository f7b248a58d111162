use Rattle.std.proofs.Common.{length}
use Rattle.lower_ops.proofs.row_sizes.+size_at.Given as goal

abbrev pub decreases-size_at : goal.decreases-size_at
decreases-size_at l = length l.lengths.now
