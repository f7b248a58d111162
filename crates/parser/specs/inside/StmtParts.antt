-- The parts that make up statements (ISO/IEC 9899:2011 6.8), and the results of the functions that read them.
use Rattle.std.specs.Prelude.{ℕ, max, Option, None, List, Result, Ok, Err}
use Rattle.lexer.specs.declared.token.Token.{Token}
use Rattle.lexer.specs.declared.token.Kind.{Kind}
use Rattle.lexer.specs.declared.token.Kind.TheVariants as kind
use Rattle.lexer.specs.declared.token.Keyword.TheVariants as keyword
use Rattle.lexer.specs.declared.token.Punctuator.{Punctuator}
use Rattle.lexer.specs.declared.token.Punctuator.TheVariants as sign
use Rattle.tree.specs.Tree.{Tree, StartTree, StmtTree, PieceTree, declaration_item, statement_item}
use Rattle.tree.specs.Counts.{depth, option_depth, start_depth, stmt_depth, piece_depth}
use Rattle.tree.specs.View.{tree_of, option_tree, start_of, stmt_of, piece_of}
use Rattle.parser_grammar.specs.declared.refusal.Refusal.{Refusal}
use Rattle.parser_expressions.specs.declared.expressions.Part.{Part}
use Rattle.parser.specs.declared.statement_parts.OptionPart.{OptionPart}
use Rattle.parser.specs.declared.statement_parts.StartPart.{StartPart}
use Rattle.parser.specs.declared.statement_parts.ForHeadPart.{ForHeadPart}
use Rattle.parser.specs.declared.statement_parts.Form.{Form}
use Rattle.parser.specs.declared.statement_parts.Form.TheVariants as form
use Rattle.parser.specs.declared.statements.StmtPart.{StmtPart}
use Rattle.parser.specs.declared.statements.TestedPart.{TestedPart}
use Rattle.parser.specs.declared.statements.BlockItemPart.{BlockItemPart}
use Rattle.parser_grammar.specs.Tokens.{Mark, Sign}
use Rattle.parser_grammar.specs.Expressions.{Spells}
use Rattle.parser_grammar.specs.Statements.{SpellsTest, SpellsOption, SpellsStart, SpellsStmt, SpellsPiece}
use Rattle.parser_grammar.specs.layer.Answer.{ReadsOf, FailsOf, StandsOf, Anywhere}
use Rattle.parser.specs.inside.StatementAnswers.{EndsStmt}

-- the token with which a statement of this form begins
abbrev pub form_kind : Form → Kind
form_kind form.Block = kind.Punctuator sign.BraceOpen
form_kind form.Empty = kind.Punctuator sign.Semicolon
form_kind form.If = kind.Keyword keyword.If
form_kind form.Switch = kind.Keyword keyword.Switch
form_kind form.Case = kind.Keyword keyword.Case
form_kind form.Default = kind.Keyword keyword.Default
form_kind form.While = kind.Keyword keyword.While
form_kind form.Do = kind.Keyword keyword.Do
form_kind form.For = kind.Keyword keyword.For
form_kind form.Break = kind.Keyword keyword.Break
form_kind form.Continue = kind.Keyword keyword.Continue
form_kind form.Return = kind.Keyword keyword.Return

-- a sign that ends an expression of a statement
abbrev pub EndsExpression : Punctuator → Type 0
EndsExpression sign.Semicolon = Unit {0}
EndsExpression sign.ParenClose = Unit {0}
EndsExpression _ = ⊥

-- ---- parts without a statement in them

-- an expression, and this sign after it
abbrev pub SpellsClosed : Punctuator → Option (List Token) → Tree → List Token → List Token → Type 0
SpellsClosed s b e ts rest = (t1 : List Token) × Spells b e ts t1 × Sign b s t1 rest

-- an expression or nothing, and this sign after it
abbrev pub SpellsEnded : Punctuator → Option (List Token) → Option Tree → List Token → List Token → Type 0
SpellsEnded s b e ts rest = (t1 : List Token) × SpellsOption b e ts t1 × Sign b s t1 rest

-- the end of a do statement (6.8.5.2)
abbrev pub SpellsDoEnd : Option (List Token) → Tree → List Token → List Token → Type 0
SpellsDoEnd b e ts rest = (t1 : List Token) × (t2 : List Token) × Mark b (kind.Keyword keyword.While) ts t1 × SpellsTest b e t1 t2
    × Sign b sign.Semicolon t2 rest

-- the parts in the parentheses of a for statement (6.8.5.3)
pub record ForHeadTree : Type 0 where
  pub start : StartTree
  pub test : Option Tree
  pub step : Option Tree

abbrev pub SpellsForHeadParts : Option (List Token) → ForHeadTree → List Token → List Token → Type 0
SpellsForHeadParts b h ts rest = (t1 : List Token) × (t2 : List Token) × SpellsStart b h.start ts t1
    × SpellsEnded sign.Semicolon b h.test t1 t2 × SpellsEnded sign.ParenClose b h.step t2 rest

abbrev pub SpellsForHead : Option (List Token) → ForHeadTree → List Token → List Token → Type 0
SpellsForHead b h ts rest = (t1 : List Token) × Sign b sign.ParenOpen ts t1 × SpellsForHeadParts b h t1 rest

abbrev pub for_head_depth : ForHeadTree → ℕ
for_head_depth h = max (start_depth h.start) (max (option_depth h.test) (option_depth h.step))

-- ---- parts with a statement in them

-- a colon and a statement (6.8.1)
abbrev pub SpellsLabelled : Option (List Token) → StmtTree → List Token → List Token → Type 0
SpellsLabelled b a ts rest = (t1 : List Token) × Sign b sign.Colon ts t1 × SpellsStmt b a t1 rest

-- an expression in parentheses, and a statement (6.8.4, 6.8.5.1)
pub record TestedTree : Type 0 where
  pub test : Tree
  pub body : StmtTree

abbrev pub SpellsTested : Option (List Token) → TestedTree → List Token → List Token → Type 0
SpellsTested b x ts rest = (t1 : List Token) × SpellsTest b x.test ts t1 × SpellsStmt b x.body t1 rest

abbrev pub EndsTested : TestedTree → List Token → Type 0
EndsTested x rest = EndsStmt x.body rest

abbrev pub tested_depth : TestedTree → ℕ
tested_depth x = max (depth x.test) (stmt_depth x.body)

abbrev pub tested_of : TestedPart → TestedTree
tested_of p = record { test = tree_of p.test; body = stmt_of p.body.value }

abbrev pub EndsPiece : PieceTree → List Token → Type 0
EndsPiece (declaration_item d) rest = Unit {0}
EndsPiece (statement_item s) rest = EndsStmt s rest

-- ---- results

abbrev pub AnswersClosed : Punctuator → ℕ → List Token → Result Part Refusal → Type 0
AnswersClosed s d ts (Ok p) = ReadsOf (SpellsClosed s None) Anywhere depth d ts (tree_of p.expr) p.depth p.rest.now
AnswersClosed s d ts (Err f) = FailsOf (SpellsClosed s None) Anywhere depth d ts f

abbrev pub StandsClosed : Punctuator → ℕ → List Token → Refusal → Type 0
StandsClosed s d ts f = StandsOf (SpellsClosed s) depth d ts f

abbrev pub AnswersTest : ℕ → List Token → Result Part Refusal → Type 0
AnswersTest d ts (Ok p) = ReadsOf (SpellsTest None) Anywhere depth d ts (tree_of p.expr) p.depth p.rest.now
AnswersTest d ts (Err f) = FailsOf (SpellsTest None) Anywhere depth d ts f

abbrev pub StandsTest : ℕ → List Token → Refusal → Type 0
StandsTest d ts f = StandsOf SpellsTest depth d ts f

abbrev pub AnswersDoEnd : ℕ → List Token → Result Part Refusal → Type 0
AnswersDoEnd d ts (Ok p) = ReadsOf (SpellsDoEnd None) Anywhere depth d ts (tree_of p.expr) p.depth p.rest.now
AnswersDoEnd d ts (Err f) = FailsOf (SpellsDoEnd None) Anywhere depth d ts f

abbrev pub StandsDoEnd : ℕ → List Token → Refusal → Type 0
StandsDoEnd d ts f = StandsOf SpellsDoEnd depth d ts f

abbrev pub AnswersEnded : Punctuator → ℕ → List Token → Result OptionPart Refusal → Type 0
AnswersEnded s d ts (Ok p) = ReadsOf (SpellsEnded s None) Anywhere option_depth d ts (option_tree p.expr) p.depth p.rest.now
AnswersEnded s d ts (Err f) = FailsOf (SpellsEnded s None) Anywhere option_depth d ts f

abbrev pub StandsEnded : Punctuator → ℕ → List Token → Refusal → Type 0
StandsEnded s d ts f = StandsOf (SpellsEnded s) option_depth d ts f

abbrev pub AnswersStart : ℕ → List Token → Result StartPart Refusal → Type 0
AnswersStart d ts (Ok p) = ReadsOf (SpellsStart None) Anywhere start_depth d ts (start_of p.start) p.depth p.rest.now
AnswersStart d ts (Err f) = FailsOf (SpellsStart None) Anywhere start_depth d ts f

abbrev pub StandsStart : ℕ → List Token → Refusal → Type 0
StandsStart d ts f = StandsOf SpellsStart start_depth d ts f

abbrev pub for_head_of : ForHeadPart → ForHeadTree
for_head_of p = record { start = start_of p.start; test = option_tree p.test; step = option_tree p.step }

abbrev pub AnswersForHead : ℕ → List Token → Result ForHeadPart Refusal → Type 0
AnswersForHead d ts (Ok p) = ReadsOf (SpellsForHead None) Anywhere for_head_depth d ts (for_head_of p) p.depth p.rest.now
AnswersForHead d ts (Err f) = FailsOf (SpellsForHead None) Anywhere for_head_depth d ts f

abbrev pub StandsForHead : ℕ → List Token → Refusal → Type 0
StandsForHead d ts f = StandsOf SpellsForHead for_head_depth d ts f

abbrev pub AnswersLabelled : ℕ → List Token → Result StmtPart Refusal → Type 0
AnswersLabelled d ts (Ok p) = ReadsOf (SpellsLabelled None) EndsStmt stmt_depth d ts (stmt_of p.stmt.value) p.depth p.rest.now × EndsStmt (stmt_of p.stmt.value) p.rest.now
AnswersLabelled d ts (Err f) = FailsOf (SpellsLabelled None) EndsStmt stmt_depth d ts f

abbrev pub StandsLabelled : ℕ → List Token → Refusal → Type 0
StandsLabelled d ts f = StandsOf SpellsLabelled stmt_depth d ts f

abbrev pub AnswersTested : ℕ → List Token → Result TestedPart Refusal → Type 0
AnswersTested d ts (Ok p) = ReadsOf (SpellsTested None) EndsTested tested_depth d ts (tested_of p) p.depth p.rest.now × EndsStmt (stmt_of p.body.value) p.rest.now
AnswersTested d ts (Err f) = FailsOf (SpellsTested None) EndsTested tested_depth d ts f

abbrev pub StandsTested : ℕ → List Token → Refusal → Type 0
StandsTested d ts f = StandsOf SpellsTested tested_depth d ts f

abbrev pub AnswersPiece : ℕ → List Token → Result BlockItemPart Refusal → Type 0
AnswersPiece d ts (Ok p) = ReadsOf (SpellsPiece None) EndsPiece piece_depth d ts (piece_of p.item.value) p.depth p.rest.now × EndsPiece (piece_of p.item.value) p.rest.now
AnswersPiece d ts (Err f) = FailsOf (SpellsPiece None) EndsPiece piece_depth d ts f

abbrev pub StandsPiece : ℕ → List Token → Refusal → Type 0
StandsPiece d ts f = StandsOf SpellsPiece piece_depth d ts f
