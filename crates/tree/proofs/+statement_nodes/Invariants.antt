use Rattle.std.proofs.Common.{◌≡◌, map, take}
use Rattle.tree.specs.Capped.{capped}
use Rattle.tree.specs.Counts.{pieces_nodes}
use Rattle.tree.specs.View.{pieces_of, piece_of}
use Rattle.tree.proofs.+statement_nodes.Given as goal

abbrev pub invariant-node_counts::block_items_nodes-loop-item : goal.invariant-node_counts::block_items_nodes-loop-item
invariant-node_counts::block_items_nodes-loop-item l = l.total ≡ capped (pieces_nodes (pieces_of (map piece_of (take l.item-index l.items))))
