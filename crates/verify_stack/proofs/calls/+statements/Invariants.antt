use Rattle.std.proofs.Common.{◌≡◌, ◌++◌, ◌+◌, ◌≤◌, map, length}
use Rattle.typed_ast.specs.View.{statement_of, statements_of}
use Rattle.verify_stack.specs.Calls.{statements_calls}
use Rattle.verify_stack.proofs.Sizes.{statement_size, statements_size}
use Rattle.verify_stack.proofs.calls.+statements.Given as goal

abbrev pub decreases-add_statement : goal.decreases-add_statement
decreases-add_statement l = statement_size (statement_of l.a.now)

abbrev pub decreases-add_guarded : goal.decreases-add_guarded
decreases-add_guarded l = statement_size (statement_of l.a.now) + 1

abbrev pub decreases-add_branches : goal.decreases-add_branches
decreases-add_branches l = statement_size (statement_of l.a.now) + statement_size (statement_of l.b.now) + 1

abbrev pub decreases-add_switch : goal.decreases-add_switch
decreases-add_switch l = statements_size (statements_of (map statement_of l.all.now)) + 2

abbrev pub decreases-add_do_while : goal.decreases-add_do_while
decreases-add_do_while l = statement_size (statement_of l.a.now) + 1

abbrev pub decreases-add_for : goal.decreases-add_for
decreases-add_for l = statements_size (statements_of (map statement_of l.declared.now)) + statement_size (statement_of l.a.now) + 2

abbrev pub decreases-add_statements : goal.decreases-add_statements
decreases-add_statements l = statements_size (statements_of (map statement_of l.all.now)) + 1

abbrev pub decreases-add_statements-loop-a : goal.decreases-add_statements-loop-a
decreases-add_statements-loop-a l = length l.rest

abbrev pub invariant-add_statements-loop-a : goal.invariant-add_statements-loop-a
invariant-add_statements-loop-a l = record {
  below : statements_size (statements_of (map statement_of l.rest)) ≤ statements_size (statements_of (map statement_of l.all));
  left : l.calls.items ++ statements_calls (statements_of (map statement_of l.rest)) ≡ l.initial.calls.items ++ statements_calls (statements_of (map statement_of l.initial.rest));
}
