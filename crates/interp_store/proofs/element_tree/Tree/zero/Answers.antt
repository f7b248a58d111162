use Rattle.std.proofs.Common.{arith}
use Rattle.interp_store.proofs.Trees.{element_kept}
use Rattle.interp_store.proofs.element_tree.Tree.zero.Goals as goal

pub returns-else-is_empty : goal.returns-else-is_empty
returns-else-is_empty c = element_kept c.args.self.now c.in-Element.field-0 c.args.path.now _ c.in-Element.is (grind arith)
