-- The postconditions of the functions that parse specifiers, sizes and parameters.
use Rattle.std.specs.Prelude.{ℕ, ◌<◌, Option, None, List, [], ◌∷◌, map, length, Result, Ok, Err}
use Rattle.lexer.specs.declared.token.Token.{Token}
use Rattle.lexer.specs.declared.token.Kind.{Kind}
use Rattle.lexer.specs.declared.token.Kind.TheVariants as kind
use Rattle.lexer.specs.declared.token.Punctuator.TheVariants as sign
use Rattle.tree.specs.Tree.{Tree, SpecifierTree, ParameterTree}
use Rattle.tree.specs.Counts.{specifiers_depth, sizes_depth, parameters_depth}
use Rattle.tree.specs.View.{option_tree, specifier_of, parameter_of}
use Rattle.parser_grammar.specs.declared.refusal.Refusal.{Refusal}
use Rattle.parser_grammar.specs.declared.scope.Scope.{Scope}
use Rattle.parser_declarations.specs.declared.specifiers.DeclarationSpecifiersPart.{DeclarationSpecifiersPart}
use Rattle.parser_declarations.specs.declared.parameters.BoundsPart.{BoundsPart}
use Rattle.parser_declarations.specs.declared.parameters.ParametersPart.{ParametersPart}
use Rattle.parser_grammar.specs.Tokens.{Sign, StartsAt, NotFront}
use Rattle.parser_grammar.specs.Declarations.{SpellsDeclarationSpecifiers, SpellsBounds, SpellsParameters}
use Rattle.parser_grammar.specs.layer.Answer.{ReadsOf, FailsOf, StandsOf, Anywhere}
use Rattle.parser_declarations.specs.DeclarationAnswers.{KeywordBeginsSpecifier}

abbrev pub KindBeginsSpecifier : Kind → Type 0
KindBeginsSpecifier (kind.Keyword k) = KeywordBeginsSpecifier k
KindBeginsSpecifier _ = ⊥

abbrev pub BeginsSpecifier : List Token → Type 0
BeginsSpecifier [] = ⊥
BeginsSpecifier (t ∷ ts) = KindBeginsSpecifier t.kind

-- at least one
pub record SpellsSomeSpecifiers (scope : Scope) (ss : List SpecifierTree) (ts rest : List Token) : Type 0 where
  pub some : 0 < length ss
  pub spells : SpellsDeclarationSpecifiers None scope ss ts rest

-- the front is no further specifier, and no list of enumerators, which would belong to the last one
abbrev pub EndsSpecifiers : List SpecifierTree → List Token → Type 0
EndsSpecifiers ss rest = (BeginsSpecifier rest → ⊥) × NotFront (kind.Punctuator sign.BraceOpen) rest

abbrev pub AnswersDeclarationSpecifiers : Scope → ℕ → List Token → Result DeclarationSpecifiersPart Refusal → Type 0
AnswersDeclarationSpecifiers scope d ts (Ok p) =
    StartsAt p.specifiers.pos ts × ReadsOf (SpellsSomeSpecifiers scope) EndsSpecifiers specifiers_depth d ts (map specifier_of p.specifiers.list.items) p.depth
    p.rest.now
AnswersDeclarationSpecifiers scope d ts (Err f) = FailsOf (SpellsSomeSpecifiers scope) EndsSpecifiers specifiers_depth d ts f

abbrev pub StandsDeclarationSpecifiers : Scope → ℕ → List Token → Refusal → Type 0
StandsDeclarationSpecifiers scope d ts f = StandsOf (λ b. SpellsDeclarationSpecifiers b scope) specifiers_depth d ts f

-- ---- sizes and parameters

-- each bracket continues the sizes
abbrev pub EndsBounds : List (Option Tree) → List Token → Type 0
EndsBounds es rest = NotFront (kind.Punctuator sign.BracketOpen) rest

abbrev pub AnswersBounds : ℕ → List Token → Result BoundsPart Refusal → Type 0
AnswersBounds d ts (Ok p) = ReadsOf (SpellsBounds None) EndsBounds sizes_depth d ts (map option_tree p.sizes.items) p.depth p.rest.now
AnswersBounds d ts (Err f) = FailsOf (SpellsBounds None) EndsBounds sizes_depth d ts f

abbrev pub StandsBounds : ℕ → List Token → Refusal → Type 0
StandsBounds d ts f = StandsOf SpellsBounds sizes_depth d ts f

-- parameters, and the parenthesis that closes their list
abbrev pub SpellsParameterList : Option (List Token) → List ParameterTree → List Token → List Token → Type 0
SpellsParameterList b ps ts rest = (t1 : List Token) × SpellsParameters b ps ts t1 × Sign b sign.ParenClose t1 rest

abbrev pub AnswersParameters : ℕ → List Token → Result ParametersPart Refusal → Type 0
AnswersParameters d ts (Ok p) = ReadsOf (SpellsParameterList None) Anywhere parameters_depth d ts (map parameter_of p.parameters.items) p.depth p.rest.now
AnswersParameters d ts (Err f) = FailsOf (SpellsParameterList None) Anywhere parameters_depth d ts f

abbrev pub StandsParameters : ℕ → List Token → Refusal → Type 0
StandsParameters d ts f = StandsOf SpellsParameterList parameters_depth d ts f
