use Rattle.std.proofs.Common.{◌≡◌, map, take}
use Rattle.tree.specs.Capped.{capped32}
use Rattle.tree.specs.Counts.{pieces_depth}
use Rattle.tree.specs.View.{pieces_of, piece_of}
use Rattle.tree.proofs.+statement_depth.Given as goal

abbrev pub invariant-depths::block_items_depth-loop-item : goal.invariant-depths::block_items_depth-loop-item
invariant-depths::block_items_depth-loop-item l = l.deepest ≡ capped32 (pieces_depth (pieces_of (map piece_of (take l.item-index l.items))))
