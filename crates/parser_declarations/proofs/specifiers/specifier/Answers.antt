use Rattle.parser_declarations.proofs.SpecifierParts.{alone_reads}
use Rattle.parser_declarations.proofs.specifiers.specifier.Goals as goal

pub returns-clause-answer : goal.returns-clause-answer
returns-clause-answer c = alone_reads _ _ _ _ _ _ _ c.in-Some-specifier_alone.ensures c.in-Some.ensures c.requires
