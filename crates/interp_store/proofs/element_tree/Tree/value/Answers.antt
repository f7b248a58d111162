use Rattle.std.proofs.Common.{arith}
use Rattle.interp_store.proofs.Trees.{no_part_of_element}
use Rattle.interp_store.proofs.element_tree.Tree.value.Goals as goal

pub returns-else-is_empty : goal.returns-else-is_empty
returns-else-is_empty c = no_part_of_element c.args.self.now c.in-Element.value c.args.path.now c.in-Element.is (grind arith)
