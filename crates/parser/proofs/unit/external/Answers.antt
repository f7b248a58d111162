use Rattle.std.proofs.Common.{ap}
use Rattle.parser_declarations.specs.DeclarationAnswers.{head_of}
use Rattle.parser.specs.inside.UnitAnswers.{AnswersExternal, StandsExternal}
use Rattle.parser_grammar.proofs.Exits.{passed_on, err_passed_on}
use Rattle.parser.proofs.UnitParts.{head_fails, declaration_part, function_part, body_fails_part, body_stands_part}
use Rattle.parser.proofs.unit.external.Goals as goal

pub returns-in_err-head-clause-answer : goal.returns-in_err-head-clause-answer
returns-in_err-head-clause-answer c = passed_on (AnswersExternal c.args.tokens.now) _ _ c.from_residual.ensures.1 (head_fails _ _ c.in_err-head.ensures.answer)

pub returns-in_err-body-in-Function-clause-answer : goal.returns-in_err-body-in-Function-clause-answer
returns-in_err-body-in-Function-clause-answer c = passed_on (AnswersExternal c.args.tokens.now) _ _ c.from_residual-in_err-body-in-Function.ensures.1
    (body_fails_part _ _ _ _ _ _ (ap head_of c.in-Function.is) c.in_ok-head.ensures.answer c.in_err-body-in-Function.ensures.answer)

pub returns-in_err-body-in-Function-clause-stands : goal.returns-in_err-body-in-Function-clause-stands
returns-in_err-body-in-Function-clause-stands c = err_passed_on (StandsExternal c.args.tokens.now) _ _ c.from_residual-in_err-body-in-Function.ensures.1
    (body_stands_part _ _ _ _ _ _ (ap head_of c.in-Function.is) c.in_ok-head.ensures.answer c.in_err-body-in-Function.ensures.answer)

pub returns-in-Declaration-clause-answer : goal.returns-in-Declaration-clause-answer
returns-in-Declaration-clause-answer c = declaration_part _ _ _ _ _ (ap head_of c.in-Declaration.is) c.in_ok-head.ensures.answer

pub returns-in_ok-body-in-Function-clause-answer : goal.returns-in_ok-body-in-Function-clause-answer
returns-in_ok-body-in-Function-clause-answer c = function_part _ _ _ _ _ _ _ _ (ap head_of c.in-Function.is) c.in_ok-head.ensures.answer
    c.in_ok-body-in-Function.ensures.answer
