use Rattle.std.proofs.Common.{◌+◌, ◌*◌, map}
use Rattle.typed_ast.specs.View.{statement_of, statements_of}
use Rattle.tac.proofs.Nodes.{statement_nodes, statements_nodes}
use Rattle.tac.proofs.block_sizes.+statement_sizes.Given as goal

abbrev pub decreases-statement_size : goal.decreases-statement_size
decreases-statement_size l = 2 * statement_nodes (statement_of l.statement.now)

abbrev pub decreases-statements_size : goal.decreases-statements_size
decreases-statements_size l = 2 * statements_nodes (statements_of (map statement_of l.all.now))

abbrev pub decreases-switch_size : goal.decreases-switch_size
decreases-switch_size l = 2 * statements_nodes (statements_of (map statement_of l.all.now)) + 1

abbrev pub decreases-for_size : goal.decreases-for_size
decreases-for_size l = 2 * (statements_nodes (statements_of (map statement_of l.declared.now)) + statement_nodes (statement_of l.a.now)) + 1
