use Rattle.std.proofs.Common.{drop, map}
use Rattle.tree.specs.View.{option_tree}
use Rattle.decls_declarators.proofs.Lengths.{Reading}
use Rattle.decls_declarators.proofs.sizes.inner_sizes.Given as goal

abbrev pub invariant-loop-size : goal.invariant-loop-size
invariant-loop-size l = Reading l.names l.pos l.initial.scope l.scope (map option_tree l.sizes) (map option_tree (drop l.size-index l.sizes)) l.initial.lengths.items l.lengths.items
