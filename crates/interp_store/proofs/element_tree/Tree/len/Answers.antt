use Rattle.interp_store.proofs.Trees.{element_has_none}
use Rattle.interp_store.proofs.element_tree.Tree.len.Goals as goal

pub returns-in-Element : goal.returns-in-Element
returns-in-Element c = element_has_none c.args.self.now c.in-Element.field-0 c.args.path.now c.in-Element.is
