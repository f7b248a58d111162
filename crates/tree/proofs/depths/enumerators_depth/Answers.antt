use Rattle.std.proofs.Common.{List, map, refl}
use Rattle.tree.specs.Counts.{enumerator_depth, enumerators_depth}
use Rattle.tree.specs.View.{enumerator_of}
use Rattle.tree.specs.declared.declaration.Enumerator.{Enumerator}
use Rattle.tree.proofs.Sums.{next_max}
use Rattle.tree.proofs.depths.enumerators_depth.Goals as goal

pub loop-enumerator-preserved : goal.loop-enumerator-preserved
loop-enumerator-preserved c = next_max (λ (xs : List Enumerator). enumerators_depth (map enumerator_of xs))
    (λ (x : Enumerator). enumerator_depth (enumerator_of x)) refl (λ _ _. refl) c.args.enumerators.now c.loop-enumerator.enumerator-index
    c.enumerator-item.result c.loop-enumerator-test.true _ _ _ c.loop-enumerator.invariant c.enumerator-item.is c.enumerator_depth.ensures
    c.greater-deepest.ensures
