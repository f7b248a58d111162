-- The grammar of statements and translation units (ISO/IEC 9899:2011 6.8, 6.9), by cases on the tree.
use Rattle.std.specs.Prelude.{◌≡◌, ◌<◌, ◌≤◌, Bool, true, false, Option, None, Some, List, [], ◌∷◌, length}
use Rattle.srcset.specs.declared.refusal.Pos.{Pos}
use Rattle.lexer.specs.declared.token.Token.{Token}
use Rattle.lexer.specs.declared.token.Kind.TheVariants as kind
use Rattle.lexer.specs.declared.token.Keyword.{Keyword}
use Rattle.lexer.specs.declared.token.Keyword.TheVariants as keyword
use Rattle.lexer.specs.declared.token.Punctuator.TheVariants as sign
use Rattle.tree.specs.Tree.{Tree, hole, StartTree, expression_start, declaration_start, StmtTree, stmt_hole, block_stmt, empty_stmt, expression_stmt, if_stmt, if_else_stmt, switch_stmt, case_stmt, default_stmt, while_stmt, do_while_stmt, for_stmt, break_stmt, continue_stmt, return_stmt, PieceTree, declaration_item, statement_item, Pieces, no_pieces, and_piece, FunctionTree, ExternalTree, definition, declaration}
use Rattle.parser_grammar.specs.declared.scope.Scope.TheVariants.{File, Block}
use Rattle.parser_grammar.specs.Expressions.{layer, Spells}
use Rattle.parser_grammar.specs.Tokens.{Own, Missing, Mark, Sign, StartsAt}
use Rattle.parser_grammar.specs.Declarations.{SpellsDeclarationSpecifiers, SpellsParameters, SpellsDeclaration}

-- the statement ends in an if that has no else
abbrev pub is_open : StmtTree → Bool
is_open stmt_hole = false
is_open (block_stmt at ps) = false
is_open (empty_stmt at) = false
is_open (expression_stmt at e) = false
is_open (if_stmt at e a) = true
is_open (if_else_stmt at e a b) = is_open b
is_open (switch_stmt at e a) = is_open a
is_open (case_stmt at e a) = is_open a
is_open (default_stmt at a) = is_open a
is_open (while_stmt at e a) = is_open a
is_open (do_while_stmt at a e) = false
is_open (for_stmt at start test step a) = is_open a
is_open (break_stmt at) = false
is_open (continue_stmt at) = false
is_open (return_stmt at e) = false

abbrev pub Word : Keyword → Pos → List Token → List Token → Type 0
Word k at ts rest = Own (kind.Keyword k) at ts rest

-- an expression in parentheses that a statement keeps
abbrev pub SpellsTest : Option (List Token) → Tree → List Token → List Token → Type 0
SpellsTest b e ts rest = (t1 : List Token) × (t2 : List Token) × Sign b sign.ParenOpen ts t1 × Spells b e t1 t2 × Sign b sign.ParenClose t2 rest

abbrev pub SpellsOption : Option (List Token) → Option Tree → List Token → List Token → Type 0
SpellsOption b None ts rest = ts ≡ rest
SpellsOption b (Some e) ts rest = Spells b e ts rest

-- 6.8.5.3
abbrev pub SpellsStart : Option (List Token) → StartTree → List Token → List Token → Type 0
SpellsStart b (expression_start e) ts rest = (t1 : List Token) × SpellsOption b e ts t1 × Sign b sign.Semicolon t1 rest
SpellsStart b (declaration_start d) ts rest = SpellsDeclaration b Block d ts rest

-- an else belongs to the nearest if: the first branch of one with an else is not open
abbrev mutual
  pub SpellsStmt : Option (List Token) → StmtTree → List Token → List Token → Type 0
  SpellsStmt b stmt_hole ts rest = Missing b ts rest
  -- 6.8.2
  SpellsStmt b (block_stmt at ps) ts rest = (t1 : List Token) × (t2 : List Token) × Own (kind.Punctuator sign.BraceOpen) at ts t1
      × SpellsPieces b ps t1 t2 × Sign b sign.BraceClose t2 rest
  -- 6.8.3
  SpellsStmt b (empty_stmt at) ts rest = Own (kind.Punctuator sign.Semicolon) at ts rest
  SpellsStmt b (expression_stmt at e) ts rest = (t1 : List Token) × StartsAt at ts × (e ≡ hole → ⊥) × Spells b e ts t1 × Sign b sign.Semicolon t1 rest
  -- 6.8.4
  SpellsStmt b (if_stmt at e a) ts rest = (t1 : List Token) × (t2 : List Token) × Word keyword.If at ts t1 × SpellsTest b e t1 t2 × SpellsStmt b a t2 rest
  SpellsStmt b (if_else_stmt at e a c) ts rest = (t1 : List Token) × (t2 : List Token) × (t3 : List Token) × (t4 : List Token) × (o : Pos)
      × Word keyword.If at ts t1 × SpellsTest b e t1 t2 × SpellsStmt b a t2 t3 × (is_open a ≡ false) × Word keyword.Else o t3 t4 × SpellsStmt b c t4 rest
  SpellsStmt b (switch_stmt at e a) ts rest = (t1 : List Token) × (t2 : List Token) × Word keyword.Switch at ts t1 × SpellsTest b e t1 t2
      × SpellsStmt b a t2 rest
  -- 6.8.1
  SpellsStmt b (case_stmt at e a) ts rest = (t1 : List Token) × (t2 : List Token) × (t3 : List Token) × Word keyword.Case at ts t1
      × (2 ≤ layer e) × Spells b e t1 t2 × Sign b sign.Colon t2 t3 × SpellsStmt b a t3 rest
  SpellsStmt b (default_stmt at a) ts rest = (t1 : List Token) × (t2 : List Token) × Word keyword.Default at ts t1 × Sign b sign.Colon t1 t2
      × SpellsStmt b a t2 rest
  -- 6.8.5
  SpellsStmt b (while_stmt at e a) ts rest = (t1 : List Token) × (t2 : List Token) × Word keyword.While at ts t1 × SpellsTest b e t1 t2 × SpellsStmt b a t2 rest
  SpellsStmt b (do_while_stmt at a e) ts rest = (t1 : List Token) × (t2 : List Token) × (t3 : List Token) × (t4 : List Token) × Word keyword.Do at ts t1
      × SpellsStmt b a t1 t2 × Mark b (kind.Keyword keyword.While) t2 t3 × SpellsTest b e t3 t4 × Sign b sign.Semicolon t4 rest
  SpellsStmt b (for_stmt at start test step a) ts rest = (t1 : List Token) × (t2 : List Token) × (t3 : List Token) × (t4 : List Token) × (t5 : List Token)
      × (t6 : List Token) × (t7 : List Token)
      × Word keyword.For at ts t1 × Sign b sign.ParenOpen t1 t2 × SpellsStart b start t2 t3 × SpellsOption b test t3 t4 × Sign b sign.Semicolon t4 t5
      × SpellsOption b step t5 t6 × Sign b sign.ParenClose t6 t7 × SpellsStmt b a t7 rest
  -- 6.8.6
  SpellsStmt b (break_stmt at) ts rest = (t1 : List Token) × Word keyword.Break at ts t1 × Sign b sign.Semicolon t1 rest
  SpellsStmt b (continue_stmt at) ts rest = (t1 : List Token) × Word keyword.Continue at ts t1 × Sign b sign.Semicolon t1 rest
  SpellsStmt b (return_stmt at e) ts rest = (t1 : List Token) × (t2 : List Token) × Word keyword.Return at ts t1 × SpellsOption b e t1 t2
      × Sign b sign.Semicolon t2 rest

  pub SpellsPiece : Option (List Token) → PieceTree → List Token → List Token → Type 0
  SpellsPiece b (declaration_item d) ts rest = SpellsDeclaration b Block d ts rest
  SpellsPiece b (statement_item s) ts rest = SpellsStmt b s ts rest

  pub SpellsPieces : Option (List Token) → Pieces → List Token → List Token → Type 0
  SpellsPieces b no_pieces ts rest = ts ≡ rest
  SpellsPieces b (and_piece p ps) ts rest = (t1 : List Token) × SpellsPiece b p ts t1 × SpellsPieces b ps t1 rest

-- 6.9.1
abbrev pub SpellsFunction : Option (List Token) → FunctionTree → List Token → List Token → Type 0
SpellsFunction b f ts rest = (t1 : List Token) × (t2 : List Token) × (t3 : List Token) × (t4 : List Token) × (t5 : List Token) × (t6 : List Token)
    × (t7 : List Token)
    × StartsAt f.start ts × (0 < length f.specifiers) × SpellsDeclarationSpecifiers b File f.specifiers ts t1 × Own (kind.Identifier f.name) f.at t1 t2
    × Sign b sign.ParenOpen t2 t3 × SpellsParameters b f.parameters t3 t4 × Sign b sign.ParenClose t4 t5
    × Own (kind.Punctuator sign.BraceOpen) f.brace t5 t6 × SpellsPieces b f.body t6 t7 × Sign b sign.BraceClose t7 rest

-- 6.9
abbrev pub SpellsExternal : Option (List Token) → ExternalTree → List Token → List Token → Type 0
SpellsExternal b (definition f) ts rest = SpellsFunction b f ts rest
SpellsExternal b (declaration d) ts rest = SpellsDeclaration b File d ts rest

abbrev pub SpellsUnit : Option (List Token) → List ExternalTree → List Token → List Token → Type 0
SpellsUnit b [] ts rest = ts ≡ rest
SpellsUnit b (e ∷ es) ts rest = (t1 : List Token) × SpellsExternal b e ts t1 × SpellsUnit b es t1 rest
