use Rattle.std.proofs.Common.{◌≡◌, map, take}
use Rattle.tree.specs.Capped.{capped32}
use Rattle.tree.specs.Counts.{sizes_depth}
use Rattle.tree.specs.View.{option_tree}
use Rattle.tree.proofs.depths.sizes_depth.Given as goal

abbrev pub invariant-loop-size : goal.invariant-loop-size
invariant-loop-size l = l.deepest ≡ capped32 (sizes_depth (map option_tree (take l.size-index l.sizes)))
