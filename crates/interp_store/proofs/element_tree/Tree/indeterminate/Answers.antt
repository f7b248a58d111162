use Rattle.interp_store.proofs.Shapes.{none_yet}
use Rattle.interp_store.proofs.Trees.{made_as}
use Rattle.interp_store.proofs.element_tree.Tree.indeterminate.Goals as goal

pub returns : goal.returns
returns c = made_as c.array.result _ _ (none_yet c.args.lengths.now _ c.new.ensures.items) c.array.ensures
