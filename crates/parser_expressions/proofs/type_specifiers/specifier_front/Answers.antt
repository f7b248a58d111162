use Rattle.parser_expressions.proofs.TypeSpecifierFacts.{no_specifier}
use Rattle.parser_expressions.proofs.type_specifiers.specifier_front.Goals as goal

pub returns-in_default-plain_specifier-clause-err : goal.returns-in_default-plain_specifier-clause-err
returns-in_default-plain_specifier-clause-err c = no_specifier _ _ _ _ c.in-Some-any_keyword_front.ensures c.in_default.ensures
    c.in_default-plain_specifier.ensures
