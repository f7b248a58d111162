use Rattle.parser_declarations.proofs.ParameterParts.{first_ends_enum, first_ends_nothing, first_ends_word}
use Rattle.parser_declarations.proofs.parameters.first_end.Goals as goal

pub returns-in_default : goal.returns-in_default
returns-in_default c = first_ends_word _ _ c.in_default.ensures c.requires

pub returns-in-Some-identifier_front : goal.returns-in-Some-identifier_front
returns-in-Some-identifier_front c = first_ends_enum _ _ _ _ _ _ c.in-Some.ensures c.in-Some-identifier_front.ensures

pub returns-in-None : goal.returns-in-None
returns-in-None c = first_ends_nothing _ _ _ _ c.in-Some.ensures c.in-None.ensures
