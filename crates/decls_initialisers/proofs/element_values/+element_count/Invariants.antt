use Rattle.std.proofs.Common.{length}
use Rattle.decls_initialisers.proofs.element_values.+element_count.Given as goal

abbrev pub decreases-element_count : goal.decreases-element_count
decreases-element_count l = length l.lengths.now
