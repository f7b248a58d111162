use Rattle.std.proofs.Common.{List, map, refl, rules}
use Rattle.tree.specs.Counts.{depth, depths}
use Rattle.tree.specs.View.{trees_of, tree_of}
use Rattle.tree.specs.declared.expression.Expr.{Expr, the_lemmas}
use Rattle.tree.proofs.Sums.{capped32_one, next_max}
use Rattle.tree.proofs.+expression_depth.Goals as goal

pub expression::Expr::depth-returns-in-Name : goal.expression::Expr::depth-returns-in-Name
expression::Expr::depth-returns-in-Name t c = rw c.in-Name.is (search (rules, the_lemmas, capped32_one))

pub expression::Expr::depth-returns-in-Constant : goal.expression::Expr::depth-returns-in-Constant
expression::Expr::depth-returns-in-Constant t c = rw c.in-Constant.is (search (rules, the_lemmas, capped32_one))

pub expression::Expr::depth-returns-in-StringLiteral : goal.expression::Expr::depth-returns-in-StringLiteral
expression::Expr::depth-returns-in-StringLiteral t c = rw c.in-StringLiteral.is (search (rules, the_lemmas, capped32_one))

pub depths::expressions_depth-loop-expression-preserved : goal.depths::expressions_depth-loop-expression-preserved
depths::expressions_depth-loop-expression-preserved t c = next_max (λ (xs : List Expr). depths (trees_of (map tree_of xs))) (λ (x : Expr). depth (tree_of x))
    refl (λ _ _. refl) c.args.expressions.now c.loop-expression.expression-index c.expression-item.result c.loop-expression-test.true _ _ _
    c.loop-expression.invariant c.expression-item.is c.depth.ensures c.greater-deepest.ensures
