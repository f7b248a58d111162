use Rattle.std.proofs.Common.{List, Option, map, refl}
use Rattle.tree.specs.Counts.{option_nodes, sizes_nodes}
use Rattle.tree.specs.View.{option_tree}
use Rattle.tree.specs.declared.expression.Expr.{Expr}
use Rattle.tree.proofs.Sums.{next_sum}
use Rattle.tree.proofs.node_counts.sizes_nodes.Goals as goal

pub loop-size-preserved : goal.loop-size-preserved
loop-size-preserved c = next_sum (λ (xs : List (Option Expr)). sizes_nodes (map option_tree xs)) (λ (x : Option Expr). option_nodes (option_tree x)) refl
    (λ _ _. refl) c.args.sizes.now c.loop-size.size-index c.size-item.result c.loop-size-test.true _ _ _ c.loop-size.invariant c.size-item.is
    c.option_expression_nodes.ensures c.sum-total.ensures
