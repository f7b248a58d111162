use Rattle.std.proofs.Common.{◌≡◌, map, take}
use Rattle.tree.specs.Capped.{capped32}
use Rattle.tree.specs.Counts.{items_depth}
use Rattle.tree.specs.View.{item_of}
use Rattle.tree.proofs.depths.items_depth.Given as goal

abbrev pub invariant-loop-item : goal.invariant-loop-item
invariant-loop-item l = l.deepest ≡ capped32 (items_depth (map item_of (take l.item-index l.items)))
