-- Measures of statements.
use Rattle.std.proofs.Common.{ℕ, ◌+◌}
use Rattle.typing_spec.specs.Program as typed
use Rattle.typing_spec.specs.Program.{Statement, Statements}

abbrev mutual
  pub statement_nodes : Statement → ℕ
  statement_nodes typed.empty = 1
  statement_nodes (typed.evaluate e) = 1
  statement_nodes (typed.declare n) = 1
  statement_nodes (typed.define n i) = 1
  statement_nodes (typed.block first count all) = 1 + statements_nodes all
  statement_nodes (typed.branch e a) = 1 + statement_nodes a
  statement_nodes (typed.branches e a b) = 1 + (statement_nodes a + statement_nodes b)
  statement_nodes (typed.switch t e first count all) = 1 + statements_nodes all
  statement_nodes (typed.case v) = 1
  statement_nodes typed.default = 1
  statement_nodes (typed.while e a) = 1 + statement_nodes a
  statement_nodes (typed.do_while a e) = 1 + statement_nodes a
  statement_nodes (typed.for declared start test step a) = 1 + (statements_nodes declared + statement_nodes a)
  statement_nodes typed.break = 1
  statement_nodes typed.continue = 1
  statement_nodes typed.return_nothing = 1
  statement_nodes (typed.return_value t e) = 1

  pub statements_nodes : Statements → ℕ
  statements_nodes typed.no_statements = 0
  statements_nodes (typed.and_statement x more) = 1 + (statement_nodes x + statements_nodes more)
