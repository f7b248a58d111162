use Rattle.std.proofs.Common.{sym}
use Rattle.parser_declarations.specs.inside.DeclarationParts.{AnswersEnumerator, StandsEnumerator}
use Rattle.parser_grammar.proofs.Exits.{passed_on, err_passed_on}
use Rattle.parser_declarations.proofs.EnumeratorParts.{enumerator_full, enumerator_full_stands, enumerator_value, enumerator_value_fails, enumerator_value_stands}
use Rattle.parser_declarations.proofs.enumerators.enumerator.Goals as goal

pub returns-in_err-below-clause-answer : goal.returns-in_err-below-clause-answer
returns-in_err-below-clause-answer c = passed_on (AnswersEnumerator c.args.depth c.args.tokens.now) _ c.in_err-below.field-0.0 c.from_residual.ensures.1
    (enumerator_full _ _ _ _ c.in_err-below.ensures.err.0 c.in_err-below.ensures.err.1)

pub returns-in_err-below-clause-stands : goal.returns-in_err-below-clause-stands
returns-in_err-below-clause-stands c = err_passed_on (StandsEnumerator c.args.depth c.args.tokens.now) _ c.in_err-below.field-0.0 c.from_residual.ensures.1
    (enumerator_full_stands _ _ _ _ _ _ c.in-Some.ensures c.in_err-below.ensures.err.0 c.in_err-below.ensures.err.1)

pub returns-in_err-value-clause-answer : goal.returns-in_err-value-clause-answer
returns-in_err-value-clause-answer c = passed_on (AnswersEnumerator c.args.depth c.args.tokens.now) _ c.in_err-value.field-0.0
    c.from_residual-in_err-value.ensures.1 (enumerator_value_fails _ _ _ _ _ _ _ _ c.in-Some.ensures c.in-Some-sign_front.ensures
    (rw (sym c.in_ok-below.ensures.ok.1) c.in_err-value.ensures.answer))

pub returns-in_err-value-clause-stands : goal.returns-in_err-value-clause-stands
returns-in_err-value-clause-stands c = err_passed_on (StandsEnumerator c.args.depth c.args.tokens.now) _ c.in_err-value.field-0.0
    c.from_residual-in_err-value.ensures.1 (enumerator_value_stands _ _ _ _ _ _ _ _ c.in-Some.ensures c.in-Some-sign_front.ensures
    (rw (sym c.in_ok-below.ensures.ok.1) c.in_err-value.ensures.stands))

pub returns-clause-answer : goal.returns-clause-answer
returns-clause-answer c = enumerator_value _ _ _ _ _ _ _ _ _ _ c.in-Some.ensures c.in-Some-sign_front.ensures
    (rw (sym c.in_ok-below.ensures.ok.1) c.in_ok-value.ensures.answer)
