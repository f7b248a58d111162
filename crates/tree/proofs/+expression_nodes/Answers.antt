use Rattle.std.proofs.Common.{List, map, refl, rules}
use Rattle.tree.specs.Counts.{nodes, all_nodes}
use Rattle.tree.specs.View.{trees_of, tree_of}
use Rattle.tree.specs.declared.expression.Expr.{Expr, the_lemmas}
use Rattle.tree.proofs.Sums.{capped_one, next_sum}
use Rattle.tree.proofs.+expression_nodes.Goals as goal

pub expression::Expr::nodes-returns-in-Name : goal.expression::Expr::nodes-returns-in-Name
expression::Expr::nodes-returns-in-Name t c = rw c.in-Name.is (search (rules, the_lemmas, capped_one))

pub expression::Expr::nodes-returns-in-Constant : goal.expression::Expr::nodes-returns-in-Constant
expression::Expr::nodes-returns-in-Constant t c = rw c.in-Constant.is (search (rules, the_lemmas, capped_one))

pub expression::Expr::nodes-returns-in-StringLiteral : goal.expression::Expr::nodes-returns-in-StringLiteral
expression::Expr::nodes-returns-in-StringLiteral t c = rw c.in-StringLiteral.is (search (rules, the_lemmas, capped_one))

pub node_counts::expressions_nodes-loop-expression-preserved : goal.node_counts::expressions_nodes-loop-expression-preserved
node_counts::expressions_nodes-loop-expression-preserved t c = next_sum (λ (xs : List Expr). all_nodes (trees_of (map tree_of xs)))
    (λ (x : Expr). nodes (tree_of x)) refl (λ _ _. refl) c.args.expressions.now c.loop-expression.expression-index c.expression-item.result
    c.loop-expression-test.true _ _ _ c.loop-expression.invariant c.expression-item.is c.nodes.ensures c.sum-total.ensures
