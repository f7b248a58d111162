use Rattle.std.proofs.Common.{◌+◌, List, map, refl}
use Rattle.tree.specs.Counts.{option_nodes, enumerators_nodes}
use Rattle.tree.specs.View.{option_tree, enumerator_of}
use Rattle.tree.specs.declared.declaration.Enumerator.{Enumerator}
use Rattle.tree.proofs.Sums.{next_sum}
use Rattle.tree.proofs.node_counts.enumerators_nodes.Goals as goal

pub loop-enumerator-preserved : goal.loop-enumerator-preserved
loop-enumerator-preserved c = next_sum (λ (xs : List Enumerator). enumerators_nodes (map enumerator_of xs))
    (λ (x : Enumerator). option_nodes (option_tree x.value) + 1) refl (λ _ _. refl) c.args.enumerators.now c.loop-enumerator.enumerator-index
    c.enumerator-item.result c.loop-enumerator-test.true _ _ _ c.loop-enumerator.invariant c.enumerator-item.is c.enumerator_nodes.ensures c.sum-total.ensures
