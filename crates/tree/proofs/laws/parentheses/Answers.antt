use Rattle.tree.proofs.Rows.{parens_nodes, parens_depth}
use Rattle.tree.proofs.laws.parentheses.Goals as goal

pub returns : goal.returns
returns c = record { nodes = parens_nodes; depth = parens_depth }
