use Rattle.std.proofs.Common.{◌≡◌, map, take}
use Rattle.tree.specs.Capped.{capped}
use Rattle.tree.specs.Counts.{all_nodes}
use Rattle.tree.specs.View.{trees_of, tree_of}
use Rattle.tree.proofs.+expression_nodes.Given as goal

abbrev pub invariant-node_counts::expressions_nodes-loop-expression : goal.invariant-node_counts::expressions_nodes-loop-expression
invariant-node_counts::expressions_nodes-loop-expression l = l.total ≡ capped (all_nodes (trees_of (map tree_of (take l.expression-index l.expressions))))
