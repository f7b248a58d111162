use Rattle.parser_declarations.specs.inside.DeclarationParts.{AnswersBound, StandsBound}
use Rattle.parser_grammar.proofs.Exits.{passed_on, err_passed_on}
use Rattle.parser_declarations.proofs.BoundsParts.{bound_none, bound_fails, bound_stands, bound_open, bound_reads}
use Rattle.parser_declarations.proofs.parameters.bound.Goals as goal

pub returns-in-Some-clause-answer : goal.returns-in-Some-clause-answer
returns-in-Some-clause-answer c = bound_none _ _ _ _ c.in-Some.ensures c.requires

pub returns-in_err-size-clause-answer : goal.returns-in_err-size-clause-answer
returns-in_err-size-clause-answer c = passed_on (AnswersBound c.args.depth c.args.tokens.now) _ c.in_err-size.field-0.0 c.from_residual.ensures.1
    (bound_fails _ _ _ c.in_default.ensures c.in_err-size.ensures.answer)

pub returns-in_err-size-clause-stands : goal.returns-in_err-size-clause-stands
returns-in_err-size-clause-stands c = err_passed_on (StandsBound c.args.depth c.args.tokens.now) _ c.in_err-size.field-0.0 c.from_residual.ensures.1
    (bound_stands _ _ _ c.in_err-size.ensures.stands)

pub returns-in_err-rest-clause-answer : goal.returns-in_err-rest-clause-answer
returns-in_err-rest-clause-answer c = passed_on (AnswersBound c.args.depth c.args.tokens.now) _ c.in_err-rest.field-0.0 c.from_residual-in_err-rest.ensures.1
    (bound_open _ _ _ _ _ _ c.in_default.ensures c.in_ok-size.ensures.answer c.in_err-rest.ensures.err.0)

pub returns-clause-answer : goal.returns-clause-answer
returns-clause-answer c = bound_reads _ _ _ _ _ _ _ c.in_default.ensures c.in_ok-size.ensures.answer c.in_ok-rest.ensures.ok.1
