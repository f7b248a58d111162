use Rattle.std.proofs.Common.{length}
use Rattle.decls_linkage.proofs.comparisons.+same_lengths.Given as goal

abbrev pub decreases-same_lengths : goal.decreases-same_lengths
decreases-same_lengths l = length l.a.now
