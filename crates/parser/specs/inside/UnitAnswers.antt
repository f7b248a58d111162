-- The results of the functions that read external declarations.
use Rattle.std.specs.Prelude.{◌≡◌, ℕ, ◌+◌, ◌<◌, ◌≤◌, None, ◌⊎◌, List, map, Result, Ok, Err}
use Rattle.srcset.specs.declared.refusal.Pos.{Pos}
use Rattle.srcset.specs.declared.refusal.Refusal.{Refusal as Fault}
use Rattle.srcset.specs.declared.refusal.Refusal.TheVariants as fault
use Rattle.srcset.specs.declared.code.Code.TheVariants.{SyntaxError, DepthLimit, FunctionNodeLimit, ProgramNodeLimit}
use Rattle.lexer.specs.declared.token.Token.{Token}
use Rattle.lexer.specs.declared.token.Kind.TheVariants as kind
use Rattle.lexer.specs.declared.token.Punctuator.TheVariants as sign
use Rattle.tree.specs.Tree.{Pieces, ExternalTree}
use Rattle.tree.specs.Counts.{pieces_depth, external_depth, external_nodes}
use Rattle.tree.specs.View.{piece_of, pieces_of, external_of}
use Rattle.parser_grammar.specs.declared.refusal.Refusal.{Refusal}
use Rattle.parser_grammar.specs.declared.refusal.Refusal.TheVariants.{Syntax, Depth, Memory}
use Rattle.parser.specs.declared.unit.BodyPart.{BodyPart}
use Rattle.parser.specs.declared.unit.ExternalPart.{ExternalPart}
use Rattle.parser_grammar.specs.Tokens.{Own}
use Rattle.parser_grammar.specs.Statements.{SpellsExternal}
use Rattle.parser.specs.inside.StatementAnswers.{SpellsBody}
use Rattle.parser_grammar.specs.layer.Answer.{Anywhere, ReadsOf, FailsOf, StandsOf}
use Rattle.parser.specs.Units.{IsSmall, HasTokenAt}
use Rattle.tree.specs.Limits.{program_node_limit}

-- ---- the body of a function definition, two nodes down

pub record ReadsBody (ts : List Token) (at : Pos) (ps : Pieces) (rest : List Token) : Type 0 where
  pub inside : List Token
  pub brace : Own (kind.Punctuator sign.BraceOpen) at ts inside
  pub height : ℕ
  pub reads : ReadsOf (SpellsBody None) Anywhere pieces_depth 2 inside ps height rest

-- after a brace, there is no body
pub record FailsBody (ts : List Token) (f : Refusal) : Type 0 where
  pub fails : (at : Pos) (inside : List Token) → Own (kind.Punctuator sign.BraceOpen) at ts inside → FailsOf (SpellsBody None) Anywhere pieces_depth 2 inside f
  pub stands : (at : Pos) (inside : List Token) → Own (kind.Punctuator sign.BraceOpen) at ts inside → StandsOf SpellsBody pieces_depth 2 inside f

abbrev pub AnswersFunctionBody : List Token → Result BodyPart Refusal → Type 0
AnswersFunctionBody ts (Ok p) = ReadsBody ts p.pos (pieces_of (map piece_of p.items.items)) p.rest.now
AnswersFunctionBody ts (Err f) = FailsBody ts f

-- ---- an external declaration

abbrev pub ReadsExternal : List Token → ExternalTree → List Token → Type 0
ReadsExternal ts e rest = ReadsOf (SpellsExternal None) Anywhere external_depth 0 ts e (external_depth e) rest

abbrev pub FailsExternal : List Token → Refusal → Type 0
FailsExternal ts f = FailsOf (SpellsExternal None) Anywhere external_depth 0 ts f

abbrev pub AnswersExternal : List Token → Result ExternalPart Refusal → Type 0
AnswersExternal ts (Ok p) = ReadsExternal ts (external_of p.external) p.rest.now
AnswersExternal ts (Err f) = FailsExternal ts f

abbrev pub StandsExternal : List Token → Refusal → Type 0
StandsExternal ts f = StandsOf SpellsExternal external_depth 0 ts f

-- ---- places and counts

-- the refusal under its code: a depth at its place, a syntax error at that of some token
abbrev pub IsLocated : List Token → Refusal → Fault → Type 0
IsLocated ts (Syntax left) f = (at : Pos) × HasTokenAt ts at × (f ≡ fault.At SyntaxError at)
IsLocated ts (Depth at) f = f ≡ fault.At DepthLimit at
IsLocated ts Memory f = f ≡ fault.Memory

-- one external declaration more is within the limits of nodes, and `after` nodes are read
pub record Counts (before : ℕ) (e : ExternalTree) (after : ℕ) : Type 0 where
  pub small : IsSmall e
  pub total : after ≡ before + external_nodes e
  pub few : after ≤ program_node_limit

-- it is not, and that is reported at this place
abbrev pub CountsTooMany : ℕ → ExternalTree → Pos → Fault → Type 0
CountsTooMany before e at f = ((f ≡ fault.At FunctionNodeLimit at) × (IsSmall e → ⊥)) ⊎ ((f ≡ fault.At ProgramNodeLimit at)
    × (program_node_limit < before + external_nodes e))
