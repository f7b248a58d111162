use Rattle.std.proofs.Common.{◌+◌, ◌*◌, map}
use Rattle.typed_ast.specs.View.{statement_of, statements_of}
use Rattle.tac.proofs.Nodes.{statement_nodes, statements_nodes}
use Rattle.tac.proofs.statements.+statement_code.Given as goal

abbrev pub decreases-put_statement : goal.decreases-put_statement
decreases-put_statement l = 2 * statement_nodes (statement_of l.statement.now)

abbrev pub decreases-put_statements : goal.decreases-put_statements
decreases-put_statements l = 2 * statements_nodes (statements_of (map statement_of l.all.now))

abbrev pub decreases-put_block : goal.decreases-put_block
decreases-put_block l = 2 * statements_nodes (statements_of (map statement_of l.all.now)) + 1

abbrev pub decreases-put_if : goal.decreases-put_if
decreases-put_if l = 2 * statement_nodes (statement_of l.a.now) + 1

abbrev pub decreases-put_while : goal.decreases-put_while
decreases-put_while l = 2 * statement_nodes (statement_of l.a.now) + 1

abbrev pub decreases-put_do_while : goal.decreases-put_do_while
decreases-put_do_while l = 2 * statement_nodes (statement_of l.a.now) + 1

abbrev pub decreases-put_if_else : goal.decreases-put_if_else
decreases-put_if_else l = 2 * (statement_nodes (statement_of l.a.now) + statement_nodes (statement_of l.b.now)) + 1

abbrev pub decreases-put_for : goal.decreases-put_for
decreases-put_for l = 2 * (statements_nodes (statements_of (map statement_of l.declared.now)) + statement_nodes (statement_of l.a.now)) + 1

abbrev pub decreases-put_switch : goal.decreases-put_switch
decreases-put_switch l = 2 * statements_nodes (statements_of (map statement_of l.all.now)) + 1
