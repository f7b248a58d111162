use Rattle.std.proofs.Common.{◌+◌, List, map, refl}
use Rattle.tree.specs.Counts.{sizes_nodes, parameters_nodes}
use Rattle.tree.specs.View.{option_tree, parameter_of}
use Rattle.tree.specs.declared.declaration.Parameter.{Parameter}
use Rattle.tree.proofs.Sums.{next_sum}
use Rattle.tree.proofs.node_counts.parameters_nodes.Goals as goal

pub loop-parameter-preserved : goal.loop-parameter-preserved
loop-parameter-preserved c = next_sum (λ (xs : List Parameter). parameters_nodes (map parameter_of xs))
    (λ (x : Parameter). sizes_nodes (map option_tree x.sizes.items) + 1) refl (λ _ _. refl) c.args.parameters.now c.loop-parameter.parameter-index
    c.parameter-item.result c.loop-parameter-test.true _ _ _ c.loop-parameter.invariant c.parameter-item.is c.parameter_nodes.ensures c.sum-total.ensures
