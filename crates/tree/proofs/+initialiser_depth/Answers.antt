use Rattle.std.proofs.Common.{List, map, refl}
use Rattle.tree.specs.Counts.{init_depth, inits_depth}
use Rattle.tree.specs.View.{inits_of, init_of}
use Rattle.tree.specs.declared.declaration.Initialiser.{Initialiser}
use Rattle.tree.proofs.Sums.{next_max}
use Rattle.tree.proofs.+initialiser_depth.Goals as goal

pub depths::initialisers_depth-loop-initialiser-preserved : goal.depths::initialisers_depth-loop-initialiser-preserved
depths::initialisers_depth-loop-initialiser-preserved t c = next_max (λ (xs : List Initialiser). inits_depth (inits_of (map init_of xs)))
    (λ (x : Initialiser). init_depth (init_of x)) refl (λ _ _. refl) c.args.initialisers.now c.loop-initialiser.initialiser-index c.initialiser-item.result
    c.loop-initialiser-test.true _ _ _ c.loop-initialiser.invariant c.initialiser-item.is c.depth.ensures c.greater-deepest.ensures
