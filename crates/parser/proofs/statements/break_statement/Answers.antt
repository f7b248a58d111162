use Rattle.parser.specs.inside.StatementAnswers.{AnswersStmt, StandsStmt}
use Rattle.parser_grammar.proofs.Exits.{passed_on, err_passed_on}
use Rattle.parser.proofs.StmtSequence.{full_stmt}
use Rattle.parser.proofs.StmtExits.{break_full, break_fails, break_reads}
use Rattle.parser.proofs.statements.break_statement.Goals as goal

pub returns-in_err-down-clause-answer : goal.returns-in_err-down-clause-answer
returns-in_err-down-clause-answer c = passed_on (AnswersStmt c.args.depth _) _ c.in_err-down.field-0.0 c.from_residual.ensures.1
    (full_stmt _ _ _ _ c.in_err-down.ensures.err.0 c.in_err-down.ensures.err.1)

pub returns-in_err-down-clause-stands : goal.returns-in_err-down-clause-stands
returns-in_err-down-clause-stands c = err_passed_on (StandsStmt c.args.depth _) _ c.in_err-down.field-0.0 c.from_residual.ensures.1
    (break_full _ _ _ _ c.in_err-down.ensures.err.0 c.in_err-down.ensures.err.1)

pub returns-in_err-rest-clause-answer : goal.returns-in_err-rest-clause-answer
returns-in_err-rest-clause-answer c = passed_on (AnswersStmt c.args.depth _) _ c.in_err-rest.field-0.0 c.from_residual-in_err-rest.ensures.1
    (break_fails _ _ _ _ c.in_err-rest.ensures.err.0)

pub returns-clause-answer : goal.returns-clause-answer
returns-clause-answer c = rw c.in_ok-break_node.ensures.ok (break_reads _ _ _ _ _ c.in_ok-down.ensures.ok.0 c.in_ok-rest.ensures.ok.1)
