use Rattle.std.proofs.Common.{IfErr}
use Rattle.parser_declarations.specs.inside.InitAnswers.{StandsInitialiser}
use Rattle.parser_grammar.proofs.Exits.{passed_on}
use Rattle.parser_declarations.proofs.InitFacts.{initialiser_stands}
use Rattle.parser_declarations.proofs.initialisers.optional_initialiser.Goals as goal

pub returns-in_err-part-clause-stands : goal.returns-in_err-part-clause-stands
returns-in_err-part-clause-stands c = passed_on (λ r. IfErr r (λ f. StandsInitialiser c.args.depth c.args.tokens.now f)) _ c.in_err-part.field-0.0
    c.from_residual.ensures.1 (initialiser_stands _ _ _ _ _ c.in-Some.ensures c.in_err-part.ensures.stands)
