use Rattle.std.proofs.Common.{◌+◌, ◌*◌, map}
use Rattle.typed_ast.specs.View.{statement_of, statements_of}
use Rattle.tac.proofs.Nodes.{statement_nodes, statements_nodes}
use Rattle.tac.proofs.statement_starts.+code_starts.Given as goal

abbrev pub decreases-put_statement : goal.decreases-put_statement
decreases-put_statement l = 2 * statement_nodes (statement_of l.statement.now)

abbrev pub decreases-put_statements : goal.decreases-put_statements
decreases-put_statements l = 2 * statements_nodes (statements_of (map statement_of l.all.now))

abbrev pub decreases-put_loop : goal.decreases-put_loop
decreases-put_loop l = 2 * statement_nodes (statement_of l.body.now) + 1

abbrev pub decreases-put_for : goal.decreases-put_for
decreases-put_for l = 2 * (statements_nodes (statements_of (map statement_of l.declared.now)) + statement_nodes (statement_of l.body.now)) + 1

abbrev pub decreases-put_block : goal.decreases-put_block
decreases-put_block l = 2 * statements_nodes (statements_of (map statement_of l.all.now)) + 1
