-- The results of the functions that read statements.
use Rattle.std.specs.Prelude.{◌≡◌, ℕ, true, Option, None, List, map, Result, Ok, Err}
use Rattle.lexer.specs.declared.token.Token.{Token}
use Rattle.lexer.specs.declared.token.Kind.TheVariants as kind
use Rattle.lexer.specs.declared.token.Keyword.TheVariants as keyword
use Rattle.lexer.specs.declared.token.Punctuator.TheVariants as sign
use Rattle.tree.specs.Tree.{StmtTree, Pieces}
use Rattle.tree.specs.Counts.{stmt_depth, pieces_depth}
use Rattle.tree.specs.View.{stmt_of, piece_of, pieces_of}
use Rattle.parser_grammar.specs.declared.refusal.Refusal.{Refusal}
use Rattle.parser.specs.declared.statements.StmtPart.{StmtPart}
use Rattle.parser.specs.declared.statements.BlockPart.{BlockPart}
use Rattle.parser_grammar.specs.Tokens.{Sign, NotFront}
use Rattle.parser_grammar.specs.Statements.{is_open, SpellsStmt, SpellsPieces}
use Rattle.parser_grammar.specs.layer.Answer.{ReadsOf, FailsOf, StandsOf, Anywhere}

-- a statement that an else could go on with does not end before one
abbrev pub EndsStmt : StmtTree → List Token → Type 0
EndsStmt s rest = is_open s ≡ true → NotFront (kind.Keyword keyword.Else) rest

abbrev pub AnswersStmt : ℕ → List Token → Result StmtPart Refusal → Type 0
AnswersStmt d ts (Ok p) = ReadsOf (SpellsStmt None) EndsStmt stmt_depth d ts (stmt_of p.stmt.value) p.depth p.rest.now × EndsStmt (stmt_of p.stmt.value) p.rest.now
AnswersStmt d ts (Err f) = FailsOf (SpellsStmt None) EndsStmt stmt_depth d ts f

abbrev pub StandsStmt : ℕ → List Token → Refusal → Type 0
StandsStmt d ts f = StandsOf SpellsStmt stmt_depth d ts f

-- the items of a block, after its brace, and the brace that closes it
abbrev pub SpellsBody : Option (List Token) → Pieces → List Token → List Token → Type 0
SpellsBody b ps ts rest = (t1 : List Token) × SpellsPieces b ps ts t1 × Sign b sign.BraceClose t1 rest

abbrev pub AnswersBody : ℕ → List Token → Result BlockPart Refusal → Type 0
AnswersBody d ts (Ok p) = ReadsOf (SpellsBody None) Anywhere pieces_depth d ts (pieces_of (map piece_of p.items.items)) p.depth p.rest.now
AnswersBody d ts (Err f) = FailsOf (SpellsBody None) Anywhere pieces_depth d ts f

abbrev pub StandsBody : ℕ → List Token → Refusal → Type 0
StandsBody d ts f = StandsOf SpellsBody pieces_depth d ts f
