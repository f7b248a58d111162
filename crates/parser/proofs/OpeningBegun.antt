-- The front of a function definition, up to the brace of its body: a whole one is begun, and is a front.
use Rattle.std.specs.Prelude.{None, Some}
use Rattle.std.proofs.Common.{List}
use Rattle.lexer.specs.declared.token.Token.{Token}
use Rattle.parser_grammar.specs.declared.scope.Scope.TheVariants.{File}
use Rattle.parser_declarations.specs.DeclarationAnswers.{OpeningTree, SpellsOpening}
use Rattle.parser_grammar.specs.Tokens.{Reaches}
use Rattle.parser_grammar.proofs.Tokens.{mark_begun, reaches_on, own_reaches, mark_reaches}
use Rattle.parser_grammar.proofs.DeclarationBegun.{declaration_specifiers_reach, parameters_are_begun, parameters_reach, specifiers_are_begun}

-- ---- units

pub opening_is_begun : (c : List Token) (f : OpeningTree) (ts r : List Token) → SpellsOpening None f ts r → SpellsOpening (Some c) f ts r
opening_is_begun c f ts r h = (
  h.0,
  h.1,
  h.2,
  h.3,
  h.4,
  h.5,
  specifiers_are_begun c File f.specifiers ts h.0 h.6,
  h.7,
  mark_begun c _ _ _ h.8,
  parameters_are_begun c f.parameters h.2 h.3 h.9,
  mark_begun c _ _ _ h.10,
)

pub opening_reaches : (f : OpeningTree) (ts r : List Token) → SpellsOpening None f ts r → Reaches ts r
opening_reaches f ts r h = reaches_on ts h.0 r (declaration_specifiers_reach File f.specifiers ts h.0 h.6)
    (reaches_on h.0 h.1 r (own_reaches _ _ _ _ h.7) (reaches_on h.1 h.2 r (mark_reaches _ _ _ h.8)
    (reaches_on h.2 h.3 r (parameters_reach f.parameters h.2 h.3 h.9) (mark_reaches _ _ _ h.10))))
