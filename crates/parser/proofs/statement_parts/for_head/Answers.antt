use Rattle.std.proofs.Common.{arith}
use Rattle.parser.specs.inside.StmtParts.{AnswersForHead, StandsForHead}
use Rattle.parser_grammar.proofs.Exits.{passed_on, err_passed_on}
use Rattle.parser.proofs.StmtSorts.{head_start_stands, head_test_fails, head_test_stands, head_step_fails, head_step_stands, head_reads_all}
use Rattle.parser.proofs.statement_parts.for_head.Goals as goal

pub returns-in_err-start-clause-stands : goal.returns-in_err-start-clause-stands
returns-in_err-start-clause-stands c = err_passed_on (StandsForHead c.args.depth c.args.tokens.now) _ c.in_err-start.field-0.0
    c.from_residual-in_err-start.ensures.1 (head_start_stands _ _ _ _ _ c.requires c.in_ok-rest.ensures.ok.1 c.in_err-start.ensures.stands)

pub returns-in_err-test-clause-answer : goal.returns-in_err-test-clause-answer
returns-in_err-test-clause-answer c = passed_on (AnswersForHead c.args.depth c.args.tokens.now) _ c.in_err-test.field-0.0 c.from_residual-in_err-test.ensures.1
    (head_test_fails _ _ _ _ _ _ _ _ c.requires c.in_ok-rest.ensures.ok.1 c.in_ok-start.ensures.answer c.in_err-test.ensures.answer)

pub returns-in_err-test-clause-stands : goal.returns-in_err-test-clause-stands
returns-in_err-test-clause-stands c = err_passed_on (StandsForHead c.args.depth c.args.tokens.now) _ c.in_err-test.field-0.0
    c.from_residual-in_err-test.ensures.1 (head_test_stands _ _ _ _ _ _ _ _ c.requires c.in_ok-rest.ensures.ok.1 c.in_ok-start.ensures.answer
    c.in_err-test.ensures.stands)

pub returns-in_err-step-clause-answer : goal.returns-in_err-step-clause-answer
returns-in_err-step-clause-answer c = passed_on (AnswersForHead c.args.depth c.args.tokens.now) _ c.in_err-step.field-0.0 c.from_residual-in_err-step.ensures.1
    (head_step_fails _ _ _ _ _ _ _ _ _ _ _ c.requires c.in_ok-rest.ensures.ok.1 c.in_ok-start.ensures.answer c.in_ok-test.ensures.answer
    c.in_err-step.ensures.answer)

pub returns-in_err-step-clause-stands : goal.returns-in_err-step-clause-stands
returns-in_err-step-clause-stands c = err_passed_on (StandsForHead c.args.depth c.args.tokens.now) _ c.in_err-step.field-0.0
    c.from_residual-in_err-step.ensures.1 (head_step_stands _ _ _ _ _ _ _ _ _ _ _ c.requires c.in_ok-rest.ensures.ok.1 c.in_ok-start.ensures.answer
    c.in_ok-test.ensures.answer c.in_err-step.ensures.stands)

pub returns-clause-answer : goal.returns-clause-answer
returns-clause-answer c = head_reads_all _ _ _ _ _ _ _ _ _ _ _ _ _ _ c.requires c.in_ok-rest.ensures.ok.1 c.in_ok-start.ensures.answer
    c.in_ok-test.ensures.answer c.in_ok-step.ensures.answer (omega (arith, c.max-depth.ensures, c.max.ensures))
