use Rattle.std.proofs.Common.{List, map, refl}
use Rattle.tree.specs.Counts.{external_nodes, unit_nodes}
use Rattle.tree.specs.View.{external_of}
use Rattle.tree.specs.declared.unit.External.{External}
use Rattle.tree.proofs.Sums.{next_sum}
use Rattle.tree.proofs.node_counts.externals_nodes.Goals as goal

pub loop-external-preserved : goal.loop-external-preserved
loop-external-preserved c = next_sum (λ (xs : List External). unit_nodes (map external_of xs)) (λ (x : External). external_nodes (external_of x)) refl
    (λ _ _. refl) c.args.externals.now c.loop-external.external-index c.external-item.result c.loop-external-test.true _ _ _ c.loop-external.invariant
    c.external-item.is c.nodes.ensures c.sum-total.ensures
