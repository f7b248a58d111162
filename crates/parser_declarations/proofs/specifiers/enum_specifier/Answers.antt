use Rattle.std.proofs.Common.{◌∷◌}
use Rattle.lexer.specs.declared.token.Kind.TheVariants as kind
use Rattle.lexer.specs.declared.token.Keyword.TheVariants as keyword
use Rattle.parser_declarations.specs.inside.DeclarationParts.{AnswersSpecifier, StandsSpecifier}
use Rattle.parser_grammar.proofs.Exits.{passed_on, err_passed_on}
use Rattle.parser_declarations.proofs.SpecifierParts.{enum_list_fails, enum_list_stands, enum_list_reads}
use Rattle.parser_declarations.proofs.specifiers.enum_specifier.Goals as goal

pub returns-in_err-part-clause-answer : goal.returns-in_err-part-clause-answer
returns-in_err-part-clause-answer c = passed_on (AnswersSpecifier c.args.scope c.args.depth (record { kind = kind.Keyword keyword.Enum; pos = c.args.pos } ∷
    c.args.tokens.now)) _ c.in_err-part.field-0.0 c.from_residual.ensures.1
    (enum_list_fails _ _ _ _ _ _ (record { spelled = c.tag_front-tag.ensures.spelled; none = c.tag_front-tag.ensures.none }) _ _ _ c.in-Some.ensures
    c.in_err-part.ensures.answer)

pub returns-in_err-part-clause-stands : goal.returns-in_err-part-clause-stands
returns-in_err-part-clause-stands c = err_passed_on (StandsSpecifier c.args.scope c.args.depth (record { kind = kind.Keyword keyword.Enum; pos = c.args.pos } ∷
    c.args.tokens.now)) _ c.in_err-part.field-0.0 c.from_residual.ensures.1
    (enum_list_stands _ _ _ _ _ _ (record { spelled = c.tag_front-tag.ensures.spelled; none = c.tag_front-tag.ensures.none }) _ _ _ c.in-Some.ensures
    c.in_err-part.ensures.stands)

pub returns-in-Some-clause-answer : goal.returns-in-Some-clause-answer
returns-in-Some-clause-answer c = enum_list_reads _ _ _ _ _ _ (record { spelled = c.tag_front-tag.ensures.spelled; none = c.tag_front-tag.ensures.none }) _ _ _
    _ _ c.in-Some.ensures c.in_ok-part.ensures.answer
