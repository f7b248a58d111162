use Rattle.std.proofs.Common.{List, map, refl}
use Rattle.tree.specs.Counts.{specifier_depth, specifiers_depth}
use Rattle.tree.specs.View.{specifier_of}
use Rattle.tree.specs.declared.declaration.Specifier.{Specifier}
use Rattle.tree.proofs.Sums.{next_max}
use Rattle.tree.proofs.depths.specifiers_depth.Goals as goal

pub loop-specifier-preserved : goal.loop-specifier-preserved
loop-specifier-preserved c = next_max (λ (xs : List Specifier). specifiers_depth (map specifier_of xs)) (λ (x : Specifier). specifier_depth (specifier_of x))
    refl (λ _ _. refl) c.args.specifiers.now c.loop-specifier.specifier-index c.specifier-item.result c.loop-specifier-test.true _ _ _
    c.loop-specifier.invariant c.specifier-item.is c.specifier_depth.ensures c.greater-deepest.ensures
