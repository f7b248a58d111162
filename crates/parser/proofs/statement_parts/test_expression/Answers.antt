use Rattle.parser.specs.inside.StmtParts.{AnswersTest, StandsTest}
use Rattle.parser_grammar.proofs.Exits.{passed_on, err_passed_on}
use Rattle.parser.proofs.StmtSorts.{test_fails, test_stands, test_reads}
use Rattle.parser.proofs.statement_parts.test_expression.Goals as goal

pub returns-in_err-part-clause-answer : goal.returns-in_err-part-clause-answer
returns-in_err-part-clause-answer c = passed_on (AnswersTest c.args.depth c.args.tokens.now) _ c.in_err-part.field-0.0 c.from_residual-in_err-part.ensures.1
    (test_fails _ _ _ _ _ c.requires c.in_ok-rest.ensures.ok.1 c.in_err-part.ensures.answer)

pub returns-in_err-part-clause-stands : goal.returns-in_err-part-clause-stands
returns-in_err-part-clause-stands c = err_passed_on (StandsTest c.args.depth c.args.tokens.now) _ c.in_err-part.field-0.0 c.from_residual-in_err-part.ensures.1
    (test_stands _ _ _ _ _ c.requires c.in_ok-rest.ensures.ok.1 c.in_err-part.ensures.stands)

pub returns-clause-answer : goal.returns-clause-answer
returns-clause-answer c = test_reads _ _ _ _ _ _ _ c.requires c.in_ok-rest.ensures.ok.1 c.in_ok-part.ensures.answer
