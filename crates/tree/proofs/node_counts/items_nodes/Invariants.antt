use Rattle.std.proofs.Common.{◌≡◌, map, take}
use Rattle.tree.specs.Capped.{capped}
use Rattle.tree.specs.Counts.{items_nodes}
use Rattle.tree.specs.View.{item_of}
use Rattle.tree.proofs.node_counts.items_nodes.Given as goal

abbrev pub invariant-loop-item : goal.invariant-loop-item
invariant-loop-item l = l.total ≡ capped (items_nodes (map item_of (take l.item-index l.items)))
