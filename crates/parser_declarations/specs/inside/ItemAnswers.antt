-- The postconditions of the functions that parse declarators.
use Rattle.std.specs.Prelude.{◌≡◌, ℕ, Option, None, List, ◌∷◌, map, Result, Ok, Err}
use Rattle.lexer.specs.declared.token.Token.{Token}
use Rattle.lexer.specs.declared.token.Punctuator.TheVariants as sign
use Rattle.tree.specs.Tree.{ItemTree}
use Rattle.tree.specs.Counts.{item_depth, items_depth}
use Rattle.tree.specs.View.{item_of}
use Rattle.parser_grammar.specs.declared.refusal.Refusal.{Refusal}
use Rattle.parser_grammar.specs.declared.scope.Scope.{Scope}
use Rattle.parser_declarations.specs.declared.items.ItemPart.{ItemPart}
use Rattle.parser_declarations.specs.declared.items.ItemsPart.{ItemsPart}
use Rattle.parser_grammar.specs.Tokens.{Sign}
use Rattle.parser_grammar.specs.Declarations.{SpellsMoreOf, SpellsItem, SpellsItems}
use Rattle.parser_expressions.specs.ExpressionAnswers.{Stops}
use Rattle.parser_grammar.specs.layer.Answer.{ReadsOf, FailsOf, StandsOf, Anywhere}

-- neither an assignment expression nor a declarator continues here
abbrev pub EndsItem : ItemTree → List Token → Type 0
EndsItem i rest = Stops 1 rest

abbrev pub AnswersItem : Scope → ℕ → List Token → Result ItemPart Refusal → Type 0
AnswersItem scope d ts (Ok p) = ReadsOf (SpellsItem None scope) EndsItem item_depth d ts (item_of p.item) p.depth p.rest.now
AnswersItem scope d ts (Err f) = FailsOf (SpellsItem None scope) EndsItem item_depth d ts f

abbrev pub StandsItem : Scope → ℕ → List Token → Refusal → Type 0
StandsItem scope d ts f = StandsOf (λ b. SpellsItem b scope) item_depth d ts f

-- the items after the first, and the semicolon
abbrev pub SpellsFurther : Option (List Token) → Scope → List ItemTree → List Token → List Token → Type 0
SpellsFurther b scope is ts rest = (t1 : List Token) × SpellsMoreOf (SpellsItem b scope) b is ts t1 × Sign b sign.Semicolon t1 rest

abbrev pub AnswersFurther : Scope → ℕ → ItemTree → List Token → Result ItemsPart Refusal → Type 0
AnswersFurther scope d i ts (Ok p) = (is : List ItemTree) × (map item_of p.items.items ≡ i ∷ is) × ReadsOf (SpellsFurther None scope) Anywhere items_depth d ts
    is p.depth p.rest.now
AnswersFurther scope d i ts (Err f) = FailsOf (SpellsFurther None scope) Anywhere items_depth d ts f

abbrev pub StandsFurther : Scope → ℕ → List Token → Refusal → Type 0
StandsFurther scope d ts f = StandsOf (λ b. SpellsFurther b scope) items_depth d ts f

-- items, and the semicolon
abbrev pub SpellsItemList : Option (List Token) → Scope → List ItemTree → List Token → List Token → Type 0
SpellsItemList b scope is ts rest = (t1 : List Token) × SpellsItems b scope is ts t1 × Sign b sign.Semicolon t1 rest

abbrev pub AnswersItems : Scope → ℕ → List Token → Result ItemsPart Refusal → Type 0
AnswersItems scope d ts (Ok p) = ReadsOf (SpellsItemList None scope) Anywhere items_depth d ts (map item_of p.items.items) p.depth p.rest.now
AnswersItems scope d ts (Err f) = FailsOf (SpellsItemList None scope) Anywhere items_depth d ts f

abbrev pub StandsItems : Scope → ℕ → List Token → Refusal → Type 0
StandsItems scope d ts f = StandsOf (λ b. SpellsItemList b scope) items_depth d ts f
