use Rattle.parser_declarations.proofs.DeclarationFacts.{no_keyword}
use Rattle.parser_declarations.proofs.declarations.begins_declaration.Goals as goal

pub returns-in-None : goal.returns-in-None
returns-in-None c = (λ h. cc, λ h. absurd (no_keyword c.args.tokens.now c.in-None.ensures h))
