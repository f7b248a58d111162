use Rattle.std.proofs.Common.{IfErr}
use Rattle.parser_declarations.specs.DeclarationAnswers.{AnswersHead, StandsHead}
use Rattle.parser_grammar.proofs.Exits.{passed_on}
use Rattle.parser_declarations.proofs.HeadFacts.{assertion_head_fails, assertion_head_stands, assertion_head_reads, head_specifiers_stand, head_tail_fails, head_tail_stands, head_answers, head_stands, brace_ends}
use Rattle.parser_declarations.proofs.declarations.external_head.Goals as goal

pub returns-in_err-part-clause-answer : goal.returns-in_err-part-clause-answer
returns-in_err-part-clause-answer c = passed_on (AnswersHead c.args.depth c.args.tokens.now) _ c.in_err-part.field-0.0 c.from_residual.ensures.1
    (assertion_head_fails _ _ _ _ _ c.in-Some.ensures c.in_err-part.ensures.answer)

pub returns-in_err-part-clause-stands : goal.returns-in_err-part-clause-stands
returns-in_err-part-clause-stands c = passed_on (λ r. IfErr r (λ f. StandsHead c.args.depth c.args.tokens.now f)) _ c.in_err-part.field-0.0
    c.from_residual.ensures.1 (assertion_head_stands _ _ _ _ _ c.in-Some.ensures c.in_err-part.ensures.stands)

pub returns-in-Some-clause-answer : goal.returns-in-Some-clause-answer
returns-in-Some-clause-answer c = assertion_head_reads _ _ _ _ _ _ _ c.in-Some.ensures c.in_ok-part.ensures.answer

pub returns-in_err-specifiers-clause-stands : goal.returns-in_err-specifiers-clause-stands
returns-in_err-specifiers-clause-stands c = passed_on (λ r. IfErr r (λ f. StandsHead c.args.depth c.args.tokens.now f)) _ c.in_err-specifiers.field-0.0
    c.from_residual-in_err-specifiers.ensures.1 (head_specifiers_stand _ _ _ c.requires c.in_err-specifiers.ensures.stands)

pub returns-in_err-part-2-clause-answer : goal.returns-in_err-part-2-clause-answer
returns-in_err-part-2-clause-answer c = passed_on (AnswersHead c.args.depth c.args.tokens.now) _ c.in_err-part-2.field-0.0
    c.from_residual-in_err-part-2.ensures.1 (head_tail_fails _ _ _ _ _ _ _ c.in_default.ensures c.in_ok-specifiers.ensures.answer.0
    c.in_ok-specifiers.ensures.answer.1 c.in_err-part-2.ensures.answer)

pub returns-in_err-part-2-clause-stands : goal.returns-in_err-part-2-clause-stands
returns-in_err-part-2-clause-stands c = passed_on (λ r. IfErr r (λ f. StandsHead c.args.depth c.args.tokens.now f)) _ c.in_err-part-2.field-0.0
    c.from_residual-in_err-part-2.ensures.1 (head_tail_stands _ _ _ _ _ _ _ c.in_ok-specifiers.ensures.answer.0 c.in_ok-specifiers.ensures.answer.1
    c.in_err-part-2.ensures.stands)

pub returns-clause-answer : goal.returns-clause-answer
returns-clause-answer c = head_answers _ _ _ _ _ _ _ _ _ c.external.result c.in_default.ensures c.in_ok-specifiers.ensures.answer.0
    c.in_ok-specifiers.ensures.answer.1 c.in_ok-part-2.ensures.answer.0 (brace_ends _ _ c.in_ok-part-2.ensures.answer.1) c.external.ensures.head
    c.external.ensures.fits c.external.ensures.depth c.external.ensures.rest c.external.ensures.err

pub returns-clause-stands : goal.returns-clause-stands
returns-clause-stands c = head_stands _ _ _ _ _ _ _ _ _ c.external.result c.in_ok-specifiers.ensures.answer.0 c.in_ok-specifiers.ensures.answer.1
    c.in_ok-part-2.ensures.answer.0 c.external.ensures.err
