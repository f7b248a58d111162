-- The postconditions of the functions that parse the parts of a declaration.
use Rattle.std.specs.Prelude.{◌≡◌, ℕ, ◌+◌, Option, None, List, ◌∷◌, map, Result, Ok, Err}
use Rattle.srcset.specs.declared.refusal.Pos.{Pos}
use Rattle.lexer.specs.declared.token.Token.{Token}
use Rattle.lexer.specs.declared.token.Kind.TheVariants as kind
use Rattle.lexer.specs.declared.token.Keyword.{Keyword}
use Rattle.lexer.specs.declared.token.Keyword.TheVariants as keyword
use Rattle.lexer.specs.declared.token.Punctuator.TheVariants as sign
use Rattle.tree.specs.Tree.{ParameterTree, SpecifierTree, ItemTree, object, function, declared}
use Rattle.tree.specs.Counts.{items_depth, parameters_depth, declaration_depth}
use Rattle.tree.specs.View.{item_of, parameter_of, declaration_of}
use Rattle.parser_grammar.specs.declared.refusal.Refusal.{Refusal}
use Rattle.parser_grammar.specs.declared.scope.Scope.{Scope}
use Rattle.parser_grammar.specs.declared.scope.Scope.TheVariants.{File}
use Rattle.parser_declarations.specs.declared.declarations.DeclarationPart.{DeclarationPart}
use Rattle.parser_declarations.specs.declared.declarations.Tail.{Tail}
use Rattle.parser_declarations.specs.declared.declarations.Tail.TheVariants as tails
use Rattle.parser_declarations.specs.declared.declarations.TailPart.{TailPart}
use Rattle.parser_grammar.specs.Tokens.{Own, Mark, Sign}
use Rattle.parser_grammar.specs.Declarations.{SpellsItem, SpellsDeclaration}
use Rattle.parser_grammar.specs.layer.Answer.{ReadsOf, FailsOf, StandsOf, Anywhere}
use Rattle.parser_declarations.specs.DeclarationAnswers.{HeadTree, whole, opening}
use Rattle.parser_declarations.specs.inside.ItemAnswers.{SpellsItemList}

-- ---- static assertions

-- the text of an assertion, after the comma and up to the semicolon
abbrev pub SpellsText : Option (List Token) → ℕ → List Token → List Token → Type 0
SpellsText b n ts rest = (t1 : List Token) × (t2 : List Token) × (t3 : List Token) × Sign b sign.Comma ts t1 × Mark b (kind.StringLiteral n) t1 t2
    × Sign b sign.ParenClose t2 t3 × Sign b sign.Semicolon t3 rest

-- the list that begins with the keyword at this place
abbrev pub Behind : Keyword → Pos → List Token → List Token
Behind k at ts = record { kind = kind.Keyword k; pos = at } ∷ ts

-- a static assertion is the same at each scope
abbrev pub AnswersAsserted : ℕ → Pos → List Token → Result DeclarationPart Refusal → Type 0
AnswersAsserted d at ts (Ok p) = (scope : Scope) → ReadsOf (SpellsDeclaration None scope) Anywhere declaration_depth d (Behind keyword.StaticAssert at ts)
    (declaration_of p.declaration) p.depth p.rest.now
AnswersAsserted d at ts (Err f) = (scope : Scope) → FailsOf (SpellsDeclaration None scope) Anywhere declaration_depth d (Behind keyword.StaticAssert at ts) f

abbrev pub StandsAsserted : ℕ → Pos → List Token → Refusal → Type 0
StandsAsserted d at ts f = (scope : Scope) → StandsOf (λ b. SpellsDeclaration b scope) declaration_depth d (Behind keyword.StaticAssert at ts) f

-- ---- the tokens after the specifiers at file scope

pub data TailTree : Type 0 where
  listing : (is : List ItemTree) → TailTree
  defining : (at : Pos) (name : ℕ) (parameters : List ParameterTree) → TailTree

abbrev pub SpellsTail : TailTree → List Token → List Token → Type 0
SpellsTail (listing is) ts rest = SpellsItemList None File is ts rest
SpellsTail (defining at n ps) ts rest = SpellsItem None File (function at n ps) ts rest

-- the front is this brace
abbrev pub BraceAt : Pos → List Token → Type 0
BraceAt at rest = (after : List Token) × Own (kind.Punctuator sign.BraceOpen) at rest after

abbrev pub EndsTail : TailTree → List Token → Type 0
EndsTail (listing is) rest = Unit {0}
EndsTail (defining at n ps) rest = (o : Pos) × BraceAt o rest

abbrev pub tail_depth : TailTree → ℕ
tail_depth (listing is) = items_depth is
tail_depth (defining at n ps) = parameters_depth ps + 1

abbrev pub tail_of : Tail → TailTree
tail_of (tails.Items is) = listing (map item_of is.items)
tail_of (tails.Function f brace) = defining f.pos f.name (map parameter_of f.parameters.items)

abbrev pub HasBrace : Tail → List Token → Type 0
HasBrace (tails.Items is) rest = Unit {0}
HasBrace (tails.Function f brace) rest = BraceAt brace rest

-- the item is a function's declarator, which the definition takes
abbrev pub Defines : ItemTree → TailTree → Type 0
Defines (object at n sizes init) t = ⊥
Defines (function at n ps) t = t ≡ defining at n ps

abbrev pub IsObject : ItemTree → Type 0
IsObject (object at n sizes init) = Unit {0}
IsObject (function at n ps) = ⊥

-- the whole front, from its specifiers and the tail after them
abbrev pub head_tree : Pos → List SpecifierTree → TailTree → HeadTree
head_tree start ss (listing is) = whole (declared start ss is)
head_tree start ss (defining at n ps) = opening (record { start = start; specifiers = ss; at = at; name = n; parameters = ps })

-- how deep specifiers of this depth are in it: those of a function definition are under its node
abbrev pub specifiers_height : ℕ → TailTree → ℕ
specifiers_height k (listing is) = k
specifiers_height k (defining at n ps) = k + 1

abbrev pub AnswersTail : ℕ → List Token → Result TailPart Refusal → Type 0
AnswersTail d ts (Ok p) = ReadsOf SpellsTail EndsTail tail_depth d ts (tail_of p.tail) p.depth p.rest.now × HasBrace p.tail p.rest.now
AnswersTail d ts (Err f) = FailsOf SpellsTail EndsTail tail_depth d ts f
