use Rattle.std.proofs.Common.{◌≡◌, ◌++◌, drop}
use Rattle.interp_store.proofs.element_tree.widened.Given as goal

abbrev pub invariant-loop-n : goal.invariant-loop-n
invariant-loop-n l = l.all.items ++ drop l.n-index l.lengths ≡ l.lengths
