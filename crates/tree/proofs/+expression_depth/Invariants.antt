use Rattle.std.proofs.Common.{◌≡◌, map, take}
use Rattle.tree.specs.Capped.{capped32}
use Rattle.tree.specs.Counts.{depths}
use Rattle.tree.specs.View.{trees_of, tree_of}
use Rattle.tree.proofs.+expression_depth.Given as goal

abbrev pub invariant-depths::expressions_depth-loop-expression : goal.invariant-depths::expressions_depth-loop-expression
invariant-depths::expressions_depth-loop-expression l = l.deepest ≡ capped32 (depths (trees_of (map tree_of (take l.expression-index l.expressions))))
