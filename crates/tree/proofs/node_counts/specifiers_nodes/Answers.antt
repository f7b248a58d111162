use Rattle.std.proofs.Common.{List, map, refl}
use Rattle.tree.specs.Counts.{specifier_nodes, specifiers_nodes}
use Rattle.tree.specs.View.{specifier_of}
use Rattle.tree.specs.declared.declaration.Specifier.{Specifier}
use Rattle.tree.proofs.Sums.{next_sum}
use Rattle.tree.proofs.node_counts.specifiers_nodes.Goals as goal

pub loop-specifier-preserved : goal.loop-specifier-preserved
loop-specifier-preserved c = next_sum (λ (xs : List Specifier). specifiers_nodes (map specifier_of xs)) (λ (x : Specifier). specifier_nodes (specifier_of x))
    refl (λ _ _. refl) c.args.specifiers.now c.loop-specifier.specifier-index c.specifier-item.result c.loop-specifier-test.true _ _ _
    c.loop-specifier.invariant c.specifier-item.is c.specifier_nodes.ensures c.sum-total.ensures
