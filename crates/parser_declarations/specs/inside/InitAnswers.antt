-- The postconditions of the functions that parse initialisers.
use Rattle.std.specs.Prelude.{ℕ, Option, None, List, map, Result, Ok, Err}
use Rattle.srcset.specs.declared.refusal.Pos.{Pos}
use Rattle.lexer.specs.declared.token.Token.{Token}
use Rattle.lexer.specs.declared.token.Kind.TheVariants as kind
use Rattle.lexer.specs.declared.token.Punctuator.TheVariants as sign
use Rattle.tree.specs.Tree.{Init, Inits}
use Rattle.tree.specs.Counts.{init_depth, inits_depth, option_init_depth}
use Rattle.tree.specs.View.{init_of, inits_of, option_init}
use Rattle.parser_grammar.specs.declared.refusal.Refusal.{Refusal}
use Rattle.parser_declarations.specs.declared.initialisers.InitialiserPart.{InitialiserPart}
use Rattle.parser_declarations.specs.declared.initialisers.InitialisersPart.{InitialisersPart}
use Rattle.parser_declarations.specs.declared.initialisers.OptionalPart.{OptionalPart}
use Rattle.parser_grammar.specs.Tokens.{Own, Sign, NotFront}
use Rattle.parser_grammar.specs.Declarations.{Trailing, SpellsInit, SpellsInits, SpellsInitialiser}
use Rattle.parser_expressions.specs.ExpressionAnswers.{Stops}
use Rattle.parser_grammar.specs.layer.Answer.{ReadsOf, FailsOf, StandsOf, Anywhere}

-- no assignment expression continues here
abbrev pub EndsInit : Init → List Token → Type 0
EndsInit i rest = Stops 1 rest

abbrev pub EndsInitialiser : Option Init → List Token → Type 0
EndsInitialiser i rest = Stops 1 rest

-- a comma that is not the last of a braced list
abbrev pub Goes : List Token → List Token → Type 0
Goes ts rest = (at : Pos) × Own (kind.Punctuator sign.Comma) at ts rest × NotFront (kind.Punctuator sign.BraceClose) rest

-- the end of a braced list
abbrev pub Closes : List Token → List Token → Type 0
Closes ts rest = (t1 : List Token) × (at : Pos) × Trailing ts t1 × Own (kind.Punctuator sign.BraceClose) at t1 rest

-- the parts of a braced list, and the brace that closes it
abbrev pub SpellsInitList : Option (List Token) → Inits → List Token → List Token → Type 0
SpellsInitList b is ts rest = (t1 : List Token) × (t2 : List Token) × SpellsInits b is ts t1 × Trailing t1 t2 × Sign b sign.BraceClose t2 rest

abbrev pub AnswersInit : ℕ → List Token → Result InitialiserPart Refusal → Type 0
AnswersInit d ts (Ok p) = ReadsOf (SpellsInit None) EndsInit init_depth d ts (init_of p.initialiser) p.depth p.rest.now
AnswersInit d ts (Err f) = FailsOf (SpellsInit None) EndsInit init_depth d ts f

abbrev pub StandsInit : ℕ → List Token → Refusal → Type 0
StandsInit d ts f = StandsOf SpellsInit init_depth d ts f

abbrev pub AnswersInitList : ℕ → List Token → Result InitialisersPart Refusal → Type 0
AnswersInitList d ts (Ok p) = ReadsOf (SpellsInitList None) Anywhere inits_depth d ts (inits_of (map init_of p.list.items)) p.depth p.rest.now
AnswersInitList d ts (Err f) = FailsOf (SpellsInitList None) Anywhere inits_depth d ts f

abbrev pub StandsInitList : ℕ → List Token → Refusal → Type 0
StandsInitList d ts f = StandsOf SpellsInitList inits_depth d ts f

abbrev pub AnswersInitialiser : ℕ → List Token → Result OptionalPart Refusal → Type 0
AnswersInitialiser d ts (Ok p) = ReadsOf (SpellsInitialiser None) EndsInitialiser option_init_depth d ts (option_init p.initialiser) p.depth p.rest.now
AnswersInitialiser d ts (Err f) = FailsOf (SpellsInitialiser None) EndsInitialiser option_init_depth d ts f

abbrev pub StandsInitialiser : ℕ → List Token → Refusal → Type 0
StandsInitialiser d ts f = StandsOf SpellsInitialiser option_init_depth d ts f
