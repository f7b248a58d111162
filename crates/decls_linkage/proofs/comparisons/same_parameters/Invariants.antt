use Rattle.std.proofs.Common.{◌≡◌, ◌≤◌, drop, length}
use Rattle.decls_linkage.proofs.Lists.{compared}
use Rattle.decls_linkage.proofs.comparisons.same_parameters.Given as goal

abbrev pub invariant-loop-index : goal.invariant-loop-index
invariant-loop-index l = (compared l.a l.b ≡ compared (drop l.index l.a) (drop l.index l.b)) × (l.index ≤ length l.b)
