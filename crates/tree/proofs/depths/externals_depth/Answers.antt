use Rattle.std.proofs.Common.{List, map, refl}
use Rattle.tree.specs.Counts.{external_depth, unit_depth}
use Rattle.tree.specs.View.{external_of}
use Rattle.tree.specs.declared.unit.External.{External}
use Rattle.tree.proofs.Sums.{next_max}
use Rattle.tree.proofs.depths.externals_depth.Goals as goal

pub loop-external-preserved : goal.loop-external-preserved
loop-external-preserved c = next_max (λ (xs : List External). unit_depth (map external_of xs)) (λ (x : External). external_depth (external_of x)) refl
    (λ _ _. refl) c.args.externals.now c.loop-external.external-index c.external-item.result c.loop-external-test.true _ _ _ c.loop-external.invariant
    c.external-item.is c.depth.ensures c.greater-deepest.ensures
