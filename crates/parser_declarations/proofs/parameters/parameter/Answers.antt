use Rattle.std.proofs.Common.{sym}
use Rattle.parser_declarations.specs.inside.DeclarationParts.{AnswersParameter, StandsParameter}
use Rattle.parser_grammar.proofs.Exits.{passed_on, err_passed_on}
use Rattle.tree.specs.Counts.{parameter_depth}
use Rattle.parser_grammar.specs.Declarations.{SpellsParameter}
use Rattle.parser_declarations.proofs.ParameterParts.{plain_stands, parameter_type_fails, parameter_full, parameter_full_stands, parameter_bounds_fail, parameter_bounds_stand, parameter_reads}
use Rattle.parser_declarations.proofs.parameters.parameter.Goals as goal

pub returns-in_err-read-clause-answer : goal.returns-in_err-read-clause-answer
returns-in_err-read-clause-answer c = passed_on (AnswersParameter c.args.depth c.args.tokens.now) _ c.in_err-read.field-0.0 c.from_residual.ensures.1
    (parameter_type_fails _ _ _ c.in_err-read.ensures.plain c.in_err-read.ensures.answer)

pub returns-in_err-read-clause-stands : goal.returns-in_err-read-clause-stands
returns-in_err-read-clause-stands c = err_passed_on (StandsParameter c.args.depth c.args.tokens.now) _ c.in_err-read.field-0.0 c.from_residual.ensures.1
    (plain_stands SpellsParameter parameter_depth _ _ _ c.in_err-read.ensures.plain)

pub returns-in_err-below-clause-answer : goal.returns-in_err-below-clause-answer
returns-in_err-below-clause-answer c = passed_on (AnswersParameter c.args.depth c.args.tokens.now) _ c.in_err-below.field-0.0
    c.from_residual-in_err-below.ensures.1 (parameter_full _ _ _ _ c.in_err-below.ensures.err.0 c.in_err-below.ensures.err.1)

pub returns-in_err-below-clause-stands : goal.returns-in_err-below-clause-stands
returns-in_err-below-clause-stands c = err_passed_on (StandsParameter c.args.depth c.args.tokens.now) _ c.in_err-below.field-0.0
    c.from_residual-in_err-below.ensures.1 (parameter_full_stands _ _ _ _ _ _ _ c.in_ok-read.ensures.answer c.first_end.ensures c.in_err-below.ensures.err.0
    c.in_err-below.ensures.err.1)

pub returns-in_err-part-clause-answer : goal.returns-in_err-part-clause-answer
returns-in_err-part-clause-answer c = passed_on (AnswersParameter c.args.depth c.args.tokens.now) _ c.in_err-part.field-0.0
    c.from_residual-in_err-part.ensures.1 (parameter_bounds_fail _ _ _ _ _ _ _ _ c.in_ok-read.ensures.answer c.name_front-name.ensures _
    (rw (sym c.in_ok-below.ensures.ok.1) c.in_err-part.ensures.answer))

pub returns-in_err-part-clause-stands : goal.returns-in_err-part-clause-stands
returns-in_err-part-clause-stands c = err_passed_on (StandsParameter c.args.depth c.args.tokens.now) _ c.in_err-part.field-0.0
    c.from_residual-in_err-part.ensures.1 (parameter_bounds_stand _ _ _ _ _ _ _ _ c.in_ok-read.ensures.answer c.name_front-name.ensures _
    (rw (sym c.in_ok-below.ensures.ok.1) c.in_err-part.ensures.stands))

pub returns-clause-answer : goal.returns-clause-answer
returns-clause-answer c = parameter_reads _ _ _ _ _ _ _ _ c.in_ok-read.ensures.answer c.name_front-name.ensures _ _ _
    (rw (sym c.in_ok-below.ensures.ok.1) c.in_ok-part.ensures.answer)
