use Rattle.std.proofs.Common.{List, map, refl}
use Rattle.tree.specs.Counts.{item_depth, items_depth}
use Rattle.tree.specs.View.{item_of}
use Rattle.tree.specs.declared.declaration.Item.{Item}
use Rattle.tree.proofs.Sums.{next_max}
use Rattle.tree.proofs.depths.items_depth.Goals as goal

pub loop-item-preserved : goal.loop-item-preserved
loop-item-preserved c = next_max (λ (xs : List Item). items_depth (map item_of xs)) (λ (x : Item). item_depth (item_of x)) refl (λ _ _. refl) c.args.items.now
    c.loop-item.item-index c.item-item.result c.loop-item-test.true _ _ _ c.loop-item.invariant c.item-item.is c.item_depth.ensures c.greater-deepest.ensures
