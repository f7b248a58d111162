use Rattle.std.proofs.Common.{length}
use Rattle.tac.proofs.block_sizes.+tests_size.Given as goal

abbrev pub decreases-tests_size : goal.decreases-tests_size
decreases-tests_size l = length l.all.now
