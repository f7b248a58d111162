use Rattle.parser.specs.inside.StatementAnswers.{AnswersStmt, StandsStmt}
use Rattle.parser_grammar.proofs.Exits.{passed_on, err_passed_on}
use Rattle.parser.proofs.StmtSequence.{full_stmt}
use Rattle.parser.proofs.StmtExits.{return_full, return_fails, return_stands, return_reads}
use Rattle.parser.proofs.statements.return_statement.Goals as goal

pub returns-in_err-below-clause-answer : goal.returns-in_err-below-clause-answer
returns-in_err-below-clause-answer c = passed_on (AnswersStmt c.args.depth _) _ c.in_err-below.field-0.0 c.from_residual.ensures.1
    (full_stmt _ _ _ _ c.in_err-below.ensures.err.0 c.in_err-below.ensures.err.1)

pub returns-in_err-below-clause-stands : goal.returns-in_err-below-clause-stands
returns-in_err-below-clause-stands c = err_passed_on (StandsStmt c.args.depth _) _ c.in_err-below.field-0.0 c.from_residual.ensures.1
    (return_full _ _ _ _ c.in_err-below.ensures.err.0 c.in_err-below.ensures.err.1)

pub returns-in_err-value-clause-answer : goal.returns-in_err-value-clause-answer
returns-in_err-value-clause-answer c = passed_on (AnswersStmt c.args.depth _) _ c.in_err-value.field-0.0 c.from_residual-in_err-value.ensures.1
    (return_fails _ _ _ _ _ c.in_ok-below.ensures.ok.1 c.in_err-value.ensures.answer)

pub returns-in_err-value-clause-stands : goal.returns-in_err-value-clause-stands
returns-in_err-value-clause-stands c = err_passed_on (StandsStmt c.args.depth _) _ c.in_err-value.field-0.0 c.from_residual-in_err-value.ensures.1
    (return_stands _ _ _ _ _ c.in_ok-below.ensures.ok.1 c.in_err-value.ensures.stands)

pub returns-clause-answer : goal.returns-clause-answer
returns-clause-answer c = rw c.in_ok-return_node.ensures.ok (return_reads _ _ _ _ c.in_ok-value.value.expr _ _ c.in_ok-below.ensures.ok.1 c.in_ok-value.ensures.answer)
