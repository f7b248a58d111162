use Rattle.parser.specs.inside.StatementAnswers.{AnswersStmt, StandsStmt}
use Rattle.parser_grammar.proofs.Exits.{passed_on, err_passed_on}
use Rattle.parser.proofs.StmtSequence.{full_stmt}
use Rattle.parser.proofs.StmtAct.{act_full, act_never, act_fails, act_stands}
use Rattle.parser.proofs.StmtExits.{expression_reads}
use Rattle.parser.proofs.statements.expression_statement.Goals as goal

pub returns-in_default-clause-answer : goal.returns-in_default-clause-answer
returns-in_default-clause-answer c = act_never _ _ _ c.requires.other c.in_default.ensures

pub returns-in_err-below-clause-answer : goal.returns-in_err-below-clause-answer
returns-in_err-below-clause-answer c = passed_on (AnswersStmt c.args.depth _) _ c.in_err-below.field-0.0 c.from_residual.ensures.1
    (full_stmt _ _ _ _ c.in_err-below.ensures.err.0 c.in_err-below.ensures.err.1)

pub returns-in_err-below-clause-stands : goal.returns-in_err-below-clause-stands
returns-in_err-below-clause-stands c = err_passed_on (StandsStmt c.args.depth _) _ c.in_err-below.field-0.0 c.from_residual.ensures.1
    (act_full _ _ _ _ c.in-Some.ensures.0 c.in-Some.ensures.1 c.in_err-below.ensures.err.0 c.in_err-below.ensures.err.1)

pub returns-in_err-part-clause-answer : goal.returns-in_err-part-clause-answer
returns-in_err-part-clause-answer c = passed_on (AnswersStmt c.args.depth _) _ c.in_err-part.field-0.0 c.from_residual-in_err-part.ensures.1
    (act_fails _ _ _ _ c.requires.other c.in_ok-below.ensures.ok.1 c.in_err-part.ensures.answer)

pub returns-in_err-part-clause-stands : goal.returns-in_err-part-clause-stands
returns-in_err-part-clause-stands c = err_passed_on (StandsStmt c.args.depth _) _ c.in_err-part.field-0.0 c.from_residual-in_err-part.ensures.1
    (act_stands _ _ _ _ _ c.in-Some.ensures.1 c.in_ok-below.ensures.ok.0 c.in_ok-below.ensures.ok.1 c.in_err-part.ensures.stands)

pub returns-clause-answer : goal.returns-clause-answer
returns-clause-answer c = rw c.in_ok-expression_node.ensures.ok (expression_reads _ _ _ _ c.in_ok-part.part.expr _ _ c.requires.other c.in-Some.ensures.1 c.in_ok-below.ensures.ok.1
    c.in_ok-part.ensures.answer)
