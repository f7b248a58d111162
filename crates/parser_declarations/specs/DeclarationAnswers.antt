-- Where declarations begin, and the postconditions of the functions that parse them.
use Rattle.std.specs.Prelude.{ℕ, ◌+◌, ◌<◌, Option, None, max, List, [], ◌∷◌, map, length, Result, Ok, Err}
use Rattle.srcset.specs.declared.refusal.Pos.{Pos}
use Rattle.lexer.specs.declared.token.Token.{Token}
use Rattle.lexer.specs.declared.token.Kind.{Kind}
use Rattle.lexer.specs.declared.token.Kind.TheVariants as kind
use Rattle.lexer.specs.declared.token.Keyword.{Keyword}
use Rattle.lexer.specs.declared.token.Keyword.TheVariants as keyword
use Rattle.lexer.specs.declared.token.Punctuator.TheVariants as sign
use Rattle.tree.specs.Tree.{SpecifierTree, ParameterTree, DeclarationTree}
use Rattle.tree.specs.Counts.{specifiers_depth, parameters_depth, declaration_depth, external_depth}
use Rattle.tree.specs.View.{specifier_of, parameter_of, declaration_of}
use Rattle.parser_grammar.specs.declared.refusal.Refusal.{Refusal}
use Rattle.parser_grammar.specs.declared.scope.Scope.TheVariants.{File, Block}
use Rattle.parser_declarations.specs.declared.declarations.DeclarationPart.{DeclarationPart}
use Rattle.parser_declarations.specs.declared.declarations.Head.{Head}
use Rattle.parser_declarations.specs.declared.declarations.Head.TheVariants as head
use Rattle.parser_declarations.specs.declared.declarations.HeadPart.{HeadPart}
use Rattle.parser_grammar.specs.Tokens.{Own, Sign, StartsAt}
use Rattle.parser_grammar.specs.Declarations.{SpellsDeclarationSpecifiers, SpellsParameters, SpellsDeclaration}
use Rattle.parser_grammar.specs.Statements.{SpellsExternal}
use Rattle.parser_expressions.specs.ExpressionAnswers.{KeywordBeginsType}
use Rattle.parser_grammar.specs.layer.Answer.{ReadsOf, FailsOf, StandsOf, Anywhere}

-- ---- specifiers of a declaration

-- a specifier of a declaration may begin with this keyword
abbrev pub KeywordBeginsSpecifier : Keyword → Type 0
KeywordBeginsSpecifier keyword.Extern = Unit {0}
KeywordBeginsSpecifier keyword.Static = Unit {0}
KeywordBeginsSpecifier k = KeywordBeginsType k

-- ---- a declaration in a block

abbrev pub AnswersDeclaration : ℕ → List Token → Result DeclarationPart Refusal → Type 0
AnswersDeclaration d ts (Ok p) = ReadsOf (SpellsDeclaration None Block) Anywhere declaration_depth d ts (declaration_of p.declaration) p.depth p.rest.now
AnswersDeclaration d ts (Err f) = FailsOf (SpellsDeclaration None Block) Anywhere declaration_depth d ts f

abbrev pub StandsDeclaration : ℕ → List Token → Refusal → Type 0
StandsDeclaration d ts f = StandsOf (λ b. SpellsDeclaration b Block) declaration_depth d ts f

-- ---- the front of a unit: a whole declaration, or a function definition up to the brace of its body

pub record OpeningTree : Type 0 where
  pub start : Pos
  pub specifiers : List SpecifierTree
  pub at : Pos
  pub name : ℕ
  pub parameters : List ParameterTree

pub data HeadTree : Type 0 where
  whole : (d : DeclarationTree) → HeadTree
  opening : (f : OpeningTree) → HeadTree

-- 6.9.1
abbrev pub SpellsOpening : Option (List Token) → OpeningTree → List Token → List Token → Type 0
SpellsOpening b f ts rest = (t1 : List Token) × (t2 : List Token) × (t3 : List Token) × (t4 : List Token)
    × StartsAt f.start ts × (0 < length f.specifiers) × SpellsDeclarationSpecifiers b File f.specifiers ts t1 × Own (kind.Identifier f.name) f.at t1 t2
    × Sign b sign.ParenOpen t2 t3 × SpellsParameters b f.parameters t3 t4 × Sign b sign.ParenClose t4 rest

abbrev pub SpellsHead : Option (List Token) → HeadTree → List Token → List Token → Type 0
SpellsHead b (whole d) ts rest = SpellsDeclaration b File d ts rest
SpellsHead b (opening f) ts rest = SpellsOpening b f ts rest

-- a function definition continues with the brace of its body
abbrev pub EndsHead : HeadTree → List Token → Type 0
EndsHead (whole d) rest = Unit {0}
EndsHead (opening f) rest = (at : Pos) × (after : List Token) × Own (kind.Punctuator sign.BraceOpen) at rest after

-- a function definition is a node, which a declaration is not
abbrev pub head_depth : HeadTree → ℕ
head_depth (whole d) = declaration_depth d
head_depth (opening f) = max (specifiers_depth f.specifiers) (parameters_depth f.parameters) + 1

abbrev pub head_of : Head → HeadTree
head_of (head.Declaration d) = whole (declaration_of d)
head_of (head.Function specifiers declarator) = opening (record {
  start = specifiers.pos;
  specifiers = map specifier_of specifiers.list.items;
  at = declarator.pos;
  name = declarator.name;
  parameters = map parameter_of declarator.parameters.items;
})

abbrev pub AnswersHead : ℕ → List Token → Result HeadPart Refusal → Type 0
AnswersHead d ts (Ok p) = ReadsOf (SpellsHead None) EndsHead head_depth d ts (head_of p.head) p.depth p.rest.now × EndsHead (head_of p.head) p.rest.now
AnswersHead d ts (Err f) = FailsOf (SpellsHead None) EndsHead head_depth d ts f

-- for a depth, some begun external declaration exceeds it
abbrev pub StandsHead : ℕ → List Token → Refusal → Type 0
StandsHead d ts f = StandsOf SpellsExternal external_depth d ts f

-- a declaration may begin with this keyword
abbrev pub KeywordBeginsDeclaration : Keyword → Type 0
KeywordBeginsDeclaration keyword.StaticAssert = Unit {0}
KeywordBeginsDeclaration k = KeywordBeginsSpecifier k

abbrev pub KindBeginsDeclaration : Kind → Type 0
KindBeginsDeclaration (kind.Keyword k) = KeywordBeginsDeclaration k
KindBeginsDeclaration _ = ⊥

abbrev pub BeginsDeclaration : List Token → Type 0
BeginsDeclaration [] = ⊥
BeginsDeclaration (t ∷ ts) = KindBeginsDeclaration t.kind
