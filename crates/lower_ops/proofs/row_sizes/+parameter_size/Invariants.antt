use Rattle.std.proofs.Common.{length}
use Rattle.lower_ops.proofs.row_sizes.+parameter_size.Given as goal

abbrev pub decreases-parameter_size : goal.decreases-parameter_size
decreases-parameter_size l = length l.parameters.now
