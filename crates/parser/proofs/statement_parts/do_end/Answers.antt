use Rattle.parser.specs.inside.StmtParts.{AnswersDoEnd, StandsDoEnd}
use Rattle.parser_grammar.proofs.Exits.{passed_on, err_passed_on}
use Rattle.parser.proofs.StmtSorts.{do_end_test_fails, do_end_test_stands, do_end_no_sign, do_end_reads}
use Rattle.parser.proofs.statement_parts.do_end.Goals as goal

pub returns-in_err-test-clause-answer : goal.returns-in_err-test-clause-answer
returns-in_err-test-clause-answer c = passed_on (AnswersDoEnd c.args.depth c.args.tokens.now) _ c.in_err-test.field-0.0 c.from_residual-in_err-test.ensures.1
    (do_end_test_fails _ _ _ _ _ c.requires c.in_ok-rest.ensures.ok.1 c.in_err-test.ensures.answer)

pub returns-in_err-test-clause-stands : goal.returns-in_err-test-clause-stands
returns-in_err-test-clause-stands c = err_passed_on (StandsDoEnd c.args.depth c.args.tokens.now) _ c.in_err-test.field-0.0 c.from_residual-in_err-test.ensures.1
    (do_end_test_stands _ _ _ _ _ c.requires c.in_ok-rest.ensures.ok.1 c.in_err-test.ensures.stands)

pub returns-in_err-rest-2-clause-answer : goal.returns-in_err-rest-2-clause-answer
returns-in_err-rest-2-clause-answer c = passed_on (AnswersDoEnd c.args.depth c.args.tokens.now) _ c.in_err-rest-2.field-0.0
    c.from_residual-in_err-rest-2.ensures.1 (do_end_no_sign _ _ _ _ _ _ _ _ c.requires c.in_ok-rest.ensures.ok.1 c.in_ok-test.ensures.answer
    c.in_err-rest-2.ensures.err.0)

pub returns-clause-answer : goal.returns-clause-answer
returns-clause-answer c = do_end_reads _ _ _ _ _ _ _ _ _ c.requires c.in_ok-rest.ensures.ok.1 c.in_ok-test.ensures.answer c.in_ok-rest-2.ensures.ok.1
