use Rattle.parser.specs.inside.StmtParts.{AnswersEnded, StandsEnded}
use Rattle.parser_grammar.proofs.Exits.{passed_on, err_passed_on}
use Rattle.parser.proofs.StmtSorts.{ended_none, ended_some, ended_fails, ended_stands}
use Rattle.parser.proofs.statement_parts.optional_expression.Goals as goal

pub returns-in-Some-clause-answer : goal.returns-in-Some-clause-answer
returns-in-Some-clause-answer c = ended_none _ _ _ _ _ c.requires.closes c.in-Some.ensures c.requires.room

pub returns-in_err-part-clause-answer : goal.returns-in_err-part-clause-answer
returns-in_err-part-clause-answer c = passed_on (AnswersEnded c.args.sign c.args.depth c.args.tokens.now) _ c.in_err-part.field-0.0 c.from_residual.ensures.1
    (ended_fails _ _ _ _ c.in_default.ensures c.in_err-part.ensures.answer)

pub returns-in_err-part-clause-stands : goal.returns-in_err-part-clause-stands
returns-in_err-part-clause-stands c = err_passed_on (StandsEnded c.args.sign c.args.depth c.args.tokens.now) _ c.in_err-part.field-0.0 c.from_residual.ensures.1
    (ended_stands _ _ _ _ c.in_err-part.ensures.stands)

pub returns-clause-answer : goal.returns-clause-answer
returns-clause-answer c = ended_some _ _ _ _ _ _ c.in_default.ensures c.in_ok-part.ensures.answer
