use Rattle.std.proofs.Common.{length}
use Rattle.lower_ops.proofs.row_sizes.+elements_counted.Given as goal

abbrev pub decreases-elements_counted : goal.decreases-elements_counted
decreases-elements_counted l = length l.lengths.now
