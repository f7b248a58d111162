use Rattle.std.proofs.Common.{◌≡◌, map, take}
use Rattle.tree.specs.Capped.{capped}
use Rattle.tree.specs.Counts.{sizes_nodes}
use Rattle.tree.specs.View.{option_tree}
use Rattle.tree.proofs.node_counts.sizes_nodes.Given as goal

abbrev pub invariant-loop-size : goal.invariant-loop-size
invariant-loop-size l = l.total ≡ capped (sizes_nodes (map option_tree (take l.size-index l.sizes)))
