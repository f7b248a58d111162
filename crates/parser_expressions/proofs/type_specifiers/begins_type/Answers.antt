use Rattle.parser_expressions.proofs.TypeSpecifierFacts.{no_type_front}
use Rattle.parser_expressions.proofs.type_specifiers.begins_type.Goals as goal

pub returns-in-None : goal.returns-in-None
returns-in-None c = (λ h. cc, λ b. absurd (no_type_front _ c.in-None.ensures b))
