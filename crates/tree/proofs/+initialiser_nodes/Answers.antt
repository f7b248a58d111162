use Rattle.std.proofs.Common.{List, map, refl}
use Rattle.tree.specs.Counts.{init_nodes, inits_nodes}
use Rattle.tree.specs.View.{inits_of, init_of}
use Rattle.tree.specs.declared.declaration.Initialiser.{Initialiser}
use Rattle.tree.proofs.Sums.{next_sum}
use Rattle.tree.proofs.+initialiser_nodes.Goals as goal

pub node_counts::initialisers_nodes-loop-initialiser-preserved : goal.node_counts::initialisers_nodes-loop-initialiser-preserved
node_counts::initialisers_nodes-loop-initialiser-preserved t c = next_sum (λ (xs : List Initialiser). inits_nodes (inits_of (map init_of xs)))
    (λ (x : Initialiser). init_nodes (init_of x)) refl (λ _ _. refl) c.args.initialisers.now c.loop-initialiser.initialiser-index c.initialiser-item.result
    c.loop-initialiser-test.true _ _ _ c.loop-initialiser.invariant c.initialiser-item.is c.nodes.ensures c.sum-total.ensures
