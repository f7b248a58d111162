use Rattle.std.proofs.Common.{◌∙◌, ap, map, List}
use Rattle.interp_store.specs.declared.element_tree.Tree.{Tree}
use Rattle.interp_store.specs.View.{tree_of}
use Rattle.interp_store.proofs.Trees.{map_take}
use Rattle.interp_store.proofs.store.Store.truncate.Goals as goal

pub returns : goal.returns
returns c = ap (λ (ts : List Tree). map tree_of ts) c.truncate.ensures.items ∙ map_take c.args.count _
