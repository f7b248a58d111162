use Rattle.std.proofs.Common.{length}
use Rattle.typing_expressions.proofs.arguments.+same_lengths.Given as goal

abbrev pub decreases-same_lengths : goal.decreases-same_lengths
decreases-same_lengths l = length l.a.now
