use Rattle.parser.specs.inside.StatementAnswers.{AnswersStmt, StandsStmt}
use Rattle.parser_grammar.proofs.Exits.{passed_on, err_passed_on}
use Rattle.parser.proofs.StmtSequence.{full_stmt}
use Rattle.parser.proofs.StmtExits.{empty_full, empty_reads}
use Rattle.parser.proofs.statements.empty_statement.Goals as goal

pub returns-in_err-down-clause-answer : goal.returns-in_err-down-clause-answer
returns-in_err-down-clause-answer c = passed_on (AnswersStmt c.args.depth _) _ c.in_err-down.field-0.0 c.from_residual.ensures.1
    (full_stmt _ _ _ _ c.in_err-down.ensures.err.0 c.in_err-down.ensures.err.1)

pub returns-in_err-down-clause-stands : goal.returns-in_err-down-clause-stands
returns-in_err-down-clause-stands c = err_passed_on (StandsStmt c.args.depth _) _ c.in_err-down.field-0.0 c.from_residual.ensures.1
    (empty_full _ _ _ _ c.in_err-down.ensures.err.0 c.in_err-down.ensures.err.1)

pub returns-clause-answer : goal.returns-clause-answer
returns-clause-answer c = rw c.in_ok-empty_node.ensures.ok (empty_reads _ _ _ c.in_ok-down.ensures.ok.0)
