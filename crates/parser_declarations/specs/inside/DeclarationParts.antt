-- The postconditions of the functions that parse the parts of declarations: enumerators, specifiers, sizes, parameters.
use Rattle.std.specs.Prelude.{◌≡◌, ℕ, Option, None, Some, List, ◌∷◌, map, Result, Ok, Err}
use Rattle.srcset.specs.declared.refusal.Pos.{Pos}
use Rattle.lexer.specs.declared.token.Token.{Token}
use Rattle.lexer.specs.declared.token.Kind.{Kind}
use Rattle.lexer.specs.declared.token.Kind.TheVariants as kind
use Rattle.lexer.specs.declared.token.Keyword.{Keyword}
use Rattle.lexer.specs.declared.token.Keyword.TheVariants as keyword
use Rattle.lexer.specs.declared.token.Punctuator.TheVariants as sign
use Rattle.tree.specs.declared.expression.TypeSpecifier.{TypeSpecifier}
use Rattle.tree.specs.Tree.{Tree, EnumeratorTree, SpecifierTree, ParameterTree}
use Rattle.tree.specs.Counts.{option_depth, enumerator_depth, enumerators_depth, specifier_depth, parameter_depth}
use Rattle.tree.specs.View.{option_tree, enumerator_of, specifier_of, parameter_of}
use Rattle.parser_grammar.specs.declared.refusal.Refusal.{Refusal}
use Rattle.parser_grammar.specs.declared.scope.Scope.{Scope}
use Rattle.parser_declarations.specs.declared.enumerators.EnumeratorPart.{EnumeratorPart}
use Rattle.parser_declarations.specs.declared.enumerators.EnumeratorsPart.{EnumeratorsPart}
use Rattle.parser_declarations.specs.declared.specifiers.SpecifierPart.{SpecifierPart}
use Rattle.parser_declarations.specs.declared.parameters.BoundPart.{BoundPart}
use Rattle.parser_declarations.specs.declared.parameters.ParameterPart.{ParameterPart}
use Rattle.parser_grammar.specs.Tokens.{Own, Sign, NotFront, Reaches}
use Rattle.parser_grammar.specs.Expressions.{SpellsSpecifier}
use Rattle.parser_grammar.specs.Declarations.{SpellsSeries, Trailing, SpellsEnumerator, SpellsDeclarationSpecifier, SpellsBound, SpellsParameter}
use Rattle.parser_expressions.specs.ExpressionAnswers.{Stops, BeginsType}
use Rattle.parser_grammar.specs.layer.Answer.{ReadsOf, FailsOf, StandsOf, Anywhere}

-- ---- enumerators

-- neither a value nor an operator within one continues here
abbrev pub EndsEnumerator : EnumeratorTree → List Token → Type 0
EndsEnumerator e rest = Stops 1 rest

abbrev pub AnswersEnumerator : ℕ → List Token → Result EnumeratorPart Refusal → Type 0
AnswersEnumerator d ts (Ok p) = ReadsOf (SpellsEnumerator None) EndsEnumerator enumerator_depth d ts (enumerator_of p.enumerator) p.depth p.rest.now
AnswersEnumerator d ts (Err f) = FailsOf (SpellsEnumerator None) EndsEnumerator enumerator_depth d ts f

abbrev pub StandsEnumerator : ℕ → List Token → Refusal → Type 0
StandsEnumerator d ts f = StandsOf SpellsEnumerator enumerator_depth d ts f

-- enumerators, a comma or none, and the brace that closes their list
abbrev pub SpellsEnumeratorList : Option (List Token) → List EnumeratorTree → List Token → List Token → Type 0
SpellsEnumeratorList b list ts rest = (t1 : List Token) × (t2 : List Token) × SpellsSeries (SpellsEnumerator b) b list ts t1 × Trailing t1 t2
    × Sign b sign.BraceClose t2 rest

abbrev pub AnswersEnumerators : ℕ → List Token → Result EnumeratorsPart Refusal → Type 0
AnswersEnumerators d ts (Ok p) = ReadsOf (SpellsEnumeratorList None) Anywhere enumerators_depth d ts (map enumerator_of p.list.items) p.depth p.rest.now
AnswersEnumerators d ts (Err f) = FailsOf (SpellsEnumeratorList None) Anywhere enumerators_depth d ts f

abbrev pub StandsEnumerators : ℕ → List Token → Refusal → Type 0
StandsEnumerators d ts f = StandsOf SpellsEnumeratorList enumerators_depth d ts f

-- ---- one specifier of a declaration

-- a list of enumerators does not continue here
abbrev pub EndsSpecifier : SpecifierTree → List Token → Type 0
EndsSpecifier s rest = NotFront (kind.Punctuator sign.BraceOpen) rest

abbrev pub AnswersSpecifier : Scope → ℕ → List Token → Result SpecifierPart Refusal → Type 0
AnswersSpecifier scope d ts (Ok p) = ReadsOf (SpellsDeclarationSpecifier None scope) EndsSpecifier specifier_depth d ts (specifier_of p.specifier) p.depth
    p.rest.now
AnswersSpecifier scope d ts (Err f) = FailsOf (SpellsDeclarationSpecifier None scope) EndsSpecifier specifier_depth d ts f

abbrev pub StandsSpecifier : Scope → ℕ → List Token → Refusal → Type 0
StandsSpecifier scope d ts f = StandsOf (λ b. SpellsDeclarationSpecifier b scope) specifier_depth d ts f

-- this keyword alone is the specifier
pub record IsAlone (scope : Scope) (k : Keyword) (s : SpecifierTree) : Type 0 where
  pub spelled : (at : Pos) (rest : List Token) → SpellsDeclarationSpecifier None scope s (record { kind = kind.Keyword k; pos = at } ∷ rest) rest
  pub flat : specifier_depth s ≡ 0
  pub no_enum : k ≡ keyword.Enum → ⊥

-- no specifier consists of this keyword alone
abbrev pub IsNoneAlone : Scope → Keyword → Type 0
IsNoneAlone scope k = (s : SpecifierTree) (at : Pos) (ts rest : List Token) → SpellsDeclarationSpecifier None scope s
    (record { kind = kind.Keyword k; pos = at } ∷ ts) rest → k ≡ keyword.Enum

-- ---- one size

-- a size or none, and the bracket after it
abbrev pub SpellsClosedBound : Option (List Token) → Option Tree → List Token → List Token → Type 0
SpellsClosedBound b e ts rest = (t1 : List Token) × SpellsBound b e ts t1 × Sign b sign.BracketClose t1 rest

abbrev pub AnswersBound : ℕ → List Token → Result BoundPart Refusal → Type 0
AnswersBound d ts (Ok p) = ReadsOf (SpellsClosedBound None) Anywhere option_depth d ts (option_tree p.size) p.depth p.rest.now
AnswersBound d ts (Err f) = FailsOf (SpellsClosedBound None) Anywhere option_depth d ts f

abbrev pub StandsBound : ℕ → List Token → Refusal → Type 0
StandsBound d ts f = StandsOf SpellsClosedBound option_depth d ts f

-- ---- one parameter

-- neither a specifier nor a name nor a size continues here
pub record EndsParameter (p : ParameterTree) (rest : List Token) : Type 0 where
  pub no_type : BeginsType rest → ⊥
  pub no_name : (n : ℕ) → NotFront (kind.Identifier n) rest
  pub no_size : NotFront (kind.Punctuator sign.BracketOpen) rest

abbrev pub AnswersParameter : ℕ → List Token → Result ParameterPart Refusal → Type 0
AnswersParameter d ts (Ok p) = ReadsOf (SpellsParameter None) EndsParameter parameter_depth d ts (parameter_of p.parameter) p.depth p.rest.now
AnswersParameter d ts (Err f) = FailsOf (SpellsParameter None) EndsParameter parameter_depth d ts f

abbrev pub StandsParameter : ℕ → List Token → Refusal → Type 0
StandsParameter d ts f = StandsOf SpellsParameter parameter_depth d ts f

-- the last token of the first specifier is at this place
abbrev pub EndsFirstAt : Pos → List Token → Type 0
EndsFirstAt at ts = (s : TypeSpecifier) (rest : List Token) → SpellsSpecifier s ts rest → (last : Kind) × Reaches ts (record { kind = last; pos = at } ∷ rest)

-- the name at the front, and its place; or none, and the place where the specifiers start
abbrev pub NameThere : Pos → Pos → Option ℕ → List Token → List Token → Type 0
NameThere start at None ts rest = (at ≡ start) × (ts ≡ rest) × ((n : ℕ) → NotFront (kind.Identifier n) ts)
NameThere start at (Some n) ts rest = Own (kind.Identifier n) at ts rest
