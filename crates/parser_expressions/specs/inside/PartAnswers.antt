-- The postconditions of the functions that parse the arguments of a call (ISO/IEC 9899:2011 6.5.2.2) and the name of a type in
-- parentheses (6.5.3.4, 6.5.4), each up to the closing parenthesis.
use Rattle.std.specs.Prelude.{ℕ, Option, None, List, map, Result, Ok, Err}
use Rattle.lexer.specs.declared.token.Token.{Token}
use Rattle.lexer.specs.declared.token.Punctuator.TheVariants as sign
use Rattle.tree.specs.Tree.{Trees, TypeTree}
use Rattle.tree.specs.Counts.{depths, type_depth}
use Rattle.tree.specs.View.{tree_of, trees_of, type_of}
use Rattle.parser_grammar.specs.declared.refusal.Refusal.{Refusal}
use Rattle.parser_expressions.specs.declared.expressions.ArgumentsPart.{ArgumentsPart}
use Rattle.parser_expressions.specs.declared.expressions.BoxedPart.{BoxedPart}
use Rattle.parser_expressions.specs.declared.expressions.TypePart.{TypePart}
use Rattle.parser_expressions.specs.ExpressionAnswers.{Reads, Fails}
use Rattle.parser_grammar.specs.Tokens.{Sign}
use Rattle.parser_grammar.specs.Expressions.{SpellsArguments, SpellsType}
use Rattle.parser_grammar.specs.layer.Answer.{ReadsOf, FailsOf, StandsOf, Anywhere}

-- an expression, boxed
abbrev pub AnswersBoxed : ℕ → ℕ → List Token → Result BoxedPart Refusal → Type 0
AnswersBoxed n d ts (Ok p) = Reads n d ts (tree_of p.expr.value) p.depth p.rest.now
AnswersBoxed n d ts (Err f) = Fails n d ts f

-- arguments, and the parenthesis that closes them
abbrev pub SpellsClosed : Option (List Token) → Trees → List Token → List Token → Type 0
SpellsClosed b es ts rest = (t1 : List Token) × SpellsArguments b es ts t1 × Sign b sign.ParenClose t1 rest

abbrev pub AnswersArguments : ℕ → List Token → Result ArgumentsPart Refusal → Type 0
AnswersArguments d ts (Ok p) = ReadsOf (SpellsClosed None) Anywhere depths d ts (trees_of (map tree_of p.list.items)) p.depth p.rest.now
AnswersArguments d ts (Err f) = FailsOf (SpellsClosed None) Anywhere depths d ts f

abbrev pub StandsArguments : ℕ → List Token → Refusal → Type 0
StandsArguments d ts f = StandsOf SpellsClosed depths d ts f

-- a type name, and the parenthesis that closes it
abbrev pub SpellsNamed : Option (List Token) → TypeTree → List Token → List Token → Type 0
SpellsNamed b ty ts rest = (t1 : List Token) × SpellsType b ty ts t1 × Sign b sign.ParenClose t1 rest

abbrev pub AnswersType : ℕ → List Token → Result TypePart Refusal → Type 0
AnswersType d ts (Ok p) = ReadsOf (SpellsNamed None) Anywhere type_depth d ts (type_of p.name) p.depth p.rest.now
AnswersType d ts (Err f) = FailsOf (SpellsNamed None) Anywhere type_depth d ts f

abbrev pub StandsType : ℕ → List Token → Refusal → Type 0
StandsType d ts f = StandsOf SpellsNamed type_depth d ts f
