-- Whole statements and units are begun ones, and the tokens that they spell are a front.
use Rattle.std.specs.Prelude.{Option, None, Some}
use Rattle.std.proofs.Common.{List, [], ◌∷◌}
use Rattle.lexer.specs.declared.token.Token.{Token}
use Rattle.tree.specs.Tree.{Tree, StartTree, expression_start, declaration_start, StmtTree, stmt_hole, block_stmt, empty_stmt, expression_stmt, if_stmt, if_else_stmt, switch_stmt, case_stmt, default_stmt, while_stmt, do_while_stmt, for_stmt, break_stmt, continue_stmt, return_stmt, PieceTree, declaration_item, statement_item, Pieces, no_pieces, and_piece, FunctionTree, ExternalTree, definition, declaration}
use Rattle.parser_grammar.specs.declared.scope.Scope.TheVariants.{File, Block}
use Rattle.parser_grammar.specs.Statements.{SpellsTest, SpellsOption, SpellsStart, SpellsStmt, SpellsPiece, SpellsPieces, SpellsFunction, SpellsExternal, SpellsUnit}
use Rattle.parser_grammar.specs.Tokens.{Reaches}
use Rattle.parser_grammar.proofs.Tokens.{mark_begun, reaches_on, own_reaches, mark_reaches}
use Rattle.parser_grammar.proofs.ExpressionBegun.{whole_is_begun, whole_reaches}
use Rattle.parser_grammar.proofs.DeclarationBegun.{declaration_is_begun, declaration_reaches, declaration_specifiers_reach, parameters_are_begun, parameters_reach, specifiers_are_begun}

-- ---- statements

pub test_is_begun : (c : List Token) (e : Tree) (ts r : List Token) → SpellsTest None e ts r → SpellsTest (Some c) e ts r
test_is_begun c e ts r h = (h.0, h.1, mark_begun c _ _ _ h.2, whole_is_begun c e h.0 h.1 h.3, mark_begun c _ _ _ h.4)

pub test_reaches : (e : Tree) (ts r : List Token) → SpellsTest None e ts r → Reaches ts r
test_reaches e ts r h = reaches_on ts h.0 r (mark_reaches _ _ _ h.2) (reaches_on h.0 h.1 r (whole_reaches e h.0 h.1 h.3) (mark_reaches _ _ _ h.4))

pub option_is_begun : (c : List Token) (e : Option Tree) (ts r : List Token) → SpellsOption None e ts r → SpellsOption (Some c) e ts r
option_is_begun c None ts r h = h
option_is_begun c (Some e) ts r h = whole_is_begun c e ts r h

pub option_reaches : (e : Option Tree) (ts r : List Token) → SpellsOption None e ts r → Reaches ts r
option_reaches None ts r h = ([], h)
option_reaches (Some e) ts r h = whole_reaches e ts r h

pub start_is_begun : (c : List Token) (s : StartTree) (ts r : List Token) → SpellsStart None s ts r → SpellsStart (Some c) s ts r
start_is_begun c (expression_start e) ts r h = (h.0, option_is_begun c e ts h.0 h.1, mark_begun c _ _ _ h.2)
start_is_begun c (declaration_start d) ts r h = declaration_is_begun c Block d ts r h

pub start_reaches : (s : StartTree) (ts r : List Token) → SpellsStart None s ts r → Reaches ts r
start_reaches (expression_start e) ts r h = reaches_on ts h.0 r (option_reaches e ts h.0 h.1) (mark_reaches _ _ _ h.2)
start_reaches (declaration_start d) ts r h = declaration_reaches Block d ts r h

mutual
  pub stmt_is_begun : (c : List Token) (s : StmtTree) (ts r : List Token) → SpellsStmt None s ts r → SpellsStmt (Some c) s ts r
  stmt_is_begun c stmt_hole ts r h = absurd h
  stmt_is_begun c (block_stmt at ps) ts r h = (h.0, h.1, h.2, pieces_are_begun c ps h.0 h.1 h.3, mark_begun c _ _ _ h.4)
  stmt_is_begun c (empty_stmt at) ts r h = h
  stmt_is_begun c (expression_stmt at e) ts r h = (h.0, h.1, h.2, whole_is_begun c e ts h.0 h.3, mark_begun c _ _ _ h.4)
  stmt_is_begun c (if_stmt at e a) ts r h = (h.0, h.1, h.2, test_is_begun c e h.0 h.1 h.3, stmt_is_begun c a h.1 r h.4)
  stmt_is_begun c (if_else_stmt at e a b) ts r h = (
    h.0,
    h.1,
    h.2,
    h.3,
    h.4,
    h.5,
    test_is_begun c e h.0 h.1 h.6,
    stmt_is_begun c a h.1 h.2 h.7,
    h.8,
    h.9,
    stmt_is_begun c b h.3 r h.10,
  )
  stmt_is_begun c (switch_stmt at e a) ts r h = (h.0, h.1, h.2, test_is_begun c e h.0 h.1 h.3, stmt_is_begun c a h.1 r h.4)
  stmt_is_begun c (case_stmt at e a) ts r h = (h.0, h.1, h.2, h.3, h.4, whole_is_begun c e h.0 h.1 h.5, mark_begun c _ _ _ h.6, stmt_is_begun c a h.2 r h.7)
  stmt_is_begun c (default_stmt at a) ts r h = (h.0, h.1, h.2, mark_begun c _ _ _ h.3, stmt_is_begun c a h.1 r h.4)
  stmt_is_begun c (while_stmt at e a) ts r h = (h.0, h.1, h.2, test_is_begun c e h.0 h.1 h.3, stmt_is_begun c a h.1 r h.4)
  stmt_is_begun c (do_while_stmt at a e) ts r h = (
    h.0,
    h.1,
    h.2,
    h.3,
    h.4,
    stmt_is_begun c a h.0 h.1 h.5,
    mark_begun c _ _ _ h.6,
    test_is_begun c e h.2 h.3
        h.7,
    mark_begun c _ _ _ h.8,
  )
  stmt_is_begun c (for_stmt at start test step a) ts r h = (
    h.0,
    h.1,
    h.2,
    h.3,
    h.4,
    h.5,
    h.6,
    h.7,
    mark_begun c _ _ _ h.8,
    start_is_begun c start h.1 h.2 h.9,
    option_is_begun c test h.2 h.3 h.10,
    mark_begun c _ _ _ h.11,
    option_is_begun c step h.4 h.5 h.12,
    mark_begun c _ _ _ h.13,
    stmt_is_begun c a h.6 r h.14,
  )
  stmt_is_begun c (break_stmt at) ts r h = (h.0, h.1, mark_begun c _ _ _ h.2)
  stmt_is_begun c (continue_stmt at) ts r h = (h.0, h.1, mark_begun c _ _ _ h.2)
  stmt_is_begun c (return_stmt at e) ts r h = (h.0, h.1, h.2, option_is_begun c e h.0 h.1 h.3, mark_begun c _ _ _ h.4)

  pub piece_is_begun : (c : List Token) (p : PieceTree) (ts r : List Token) → SpellsPiece None p ts r → SpellsPiece (Some c) p ts r
  piece_is_begun c (declaration_item d) ts r h = declaration_is_begun c Block d ts r h
  piece_is_begun c (statement_item s) ts r h = stmt_is_begun c s ts r h

  pub pieces_are_begun : (c : List Token) (ps : Pieces) (ts r : List Token) → SpellsPieces None ps ts r → SpellsPieces (Some c) ps ts r
  pieces_are_begun c no_pieces ts r h = h
  pieces_are_begun c (and_piece p ps) ts r h = (h.0, piece_is_begun c p ts h.0 h.1, pieces_are_begun c ps h.0 r h.2)

mutual
  pub stmt_reaches : (s : StmtTree) (ts r : List Token) → SpellsStmt None s ts r → Reaches ts r
  stmt_reaches stmt_hole ts r h = absurd h
  stmt_reaches (block_stmt at ps) ts r h = reaches_on ts h.0 r (own_reaches _ _ _ _ h.2)
      (reaches_on h.0 h.1 r (pieces_reach ps h.0 h.1 h.3) (mark_reaches _ _ _ h.4))
  stmt_reaches (empty_stmt at) ts r h = own_reaches _ _ ts r h
  stmt_reaches (expression_stmt at e) ts r h = reaches_on ts h.0 r (whole_reaches e ts h.0 h.3) (mark_reaches _ _ _ h.4)
  stmt_reaches (if_stmt at e a) ts r h = reaches_on ts h.0 r (own_reaches _ _ _ _ h.2)
      (reaches_on h.0 h.1 r (test_reaches e h.0 h.1 h.3) (stmt_reaches a h.1 r h.4))
  stmt_reaches (if_else_stmt at e a b) ts r h = reaches_on ts h.0 r (own_reaches _ _ _ _ h.5)
      (reaches_on h.0 h.1 r (test_reaches e h.0 h.1 h.6) (reaches_on h.1 h.2 r (stmt_reaches a h.1 h.2 h.7)
      (reaches_on h.2 h.3 r (own_reaches _ _ _ _ h.9) (stmt_reaches b h.3 r h.10))))
  stmt_reaches (switch_stmt at e a) ts r h = reaches_on ts h.0 r (own_reaches _ _ _ _ h.2)
      (reaches_on h.0 h.1 r (test_reaches e h.0 h.1 h.3) (stmt_reaches a h.1 r h.4))
  stmt_reaches (case_stmt at e a) ts r h = reaches_on ts h.0 r (own_reaches _ _ _ _ h.3)
      (reaches_on h.0 h.1 r (whole_reaches e h.0 h.1 h.5) (reaches_on h.1 h.2 r (mark_reaches _ _ _ h.6) (stmt_reaches a h.2 r h.7)))
  stmt_reaches (default_stmt at a) ts r h = reaches_on ts h.0 r (own_reaches _ _ _ _ h.2)
      (reaches_on h.0 h.1 r (mark_reaches _ _ _ h.3) (stmt_reaches a h.1 r h.4))
  stmt_reaches (while_stmt at e a) ts r h = reaches_on ts h.0 r (own_reaches _ _ _ _ h.2)
      (reaches_on h.0 h.1 r (test_reaches e h.0 h.1 h.3) (stmt_reaches a h.1 r h.4))
  stmt_reaches (do_while_stmt at a e) ts r h = reaches_on ts h.0 r (own_reaches _ _ _ _ h.4)
      (reaches_on h.0 h.1 r (stmt_reaches a h.0 h.1 h.5) (reaches_on h.1 h.2 r (mark_reaches _ _ _ h.6)
      (reaches_on h.2 h.3 r (test_reaches e h.2 h.3 h.7) (mark_reaches _ _ _ h.8))))
  stmt_reaches (for_stmt at start test step a) ts r h = reaches_on ts h.0 r (own_reaches _ _ _ _ h.7)
      (reaches_on h.0 h.1 r (mark_reaches _ _ _ h.8) (reaches_on h.1 h.2 r (start_reaches start h.1 h.2 h.9)
      (reaches_on h.2 h.3 r (option_reaches test h.2 h.3 h.10) (reaches_on h.3 h.4 r (mark_reaches _ _ _ h.11)
      (reaches_on h.4 h.5 r (option_reaches step h.4 h.5 h.12) (reaches_on h.5 h.6 r (mark_reaches _ _ _ h.13) (stmt_reaches a h.6 r h.14)))))))
  stmt_reaches (break_stmt at) ts r h = reaches_on ts h.0 r (own_reaches _ _ _ _ h.1) (mark_reaches _ _ _ h.2)
  stmt_reaches (continue_stmt at) ts r h = reaches_on ts h.0 r (own_reaches _ _ _ _ h.1) (mark_reaches _ _ _ h.2)
  stmt_reaches (return_stmt at e) ts r h = reaches_on ts h.0 r (own_reaches _ _ _ _ h.2)
      (reaches_on h.0 h.1 r (option_reaches e h.0 h.1 h.3) (mark_reaches _ _ _ h.4))

  pub piece_reaches : (p : PieceTree) (ts r : List Token) → SpellsPiece None p ts r → Reaches ts r
  piece_reaches (declaration_item d) ts r h = declaration_reaches Block d ts r h
  piece_reaches (statement_item s) ts r h = stmt_reaches s ts r h

  pub pieces_reach : (ps : Pieces) (ts r : List Token) → SpellsPieces None ps ts r → Reaches ts r
  pieces_reach no_pieces ts r h = ([], h)
  pieces_reach (and_piece p ps) ts r h = reaches_on ts h.0 r (piece_reaches p ts h.0 h.1) (pieces_reach ps h.0 r h.2)

pub function_is_begun : (c : List Token) (f : FunctionTree) (ts r : List Token) → SpellsFunction None f ts r → SpellsFunction (Some c) f ts r
function_is_begun c f ts r h = (
  h.0,
  h.1,
  h.2,
  h.3,
  h.4,
  h.5,
  h.6,
  h.7,
  h.8,
  specifiers_are_begun c File f.specifiers ts h.0 h.9,
  h.10,
  mark_begun c _ _ _ h.11,
  parameters_are_begun c f.parameters h.2 h.3 h.12,
  mark_begun c _ _ _ h.13,
  h.14,
  pieces_are_begun c f.body h.5 h.6 h.15,
  mark_begun c _ _ _ h.16,
)

pub function_reaches : (f : FunctionTree) (ts r : List Token) → SpellsFunction None f ts r → Reaches ts r
function_reaches f ts r h = reaches_on ts h.0 r (declaration_specifiers_reach File f.specifiers ts h.0 h.9)
    (reaches_on h.0 h.1 r (own_reaches _ _ _ _ h.10) (reaches_on h.1 h.2 r (mark_reaches _ _ _ h.11)
    (reaches_on h.2 h.3 r (parameters_reach f.parameters h.2 h.3 h.12)
    (reaches_on h.3 h.4 r (mark_reaches _ _ _ h.13) (reaches_on h.4 h.5 r (own_reaches _ _ _ _ h.14) (reaches_on h.5 h.6 r (pieces_reach f.body h.5 h.6 h.15)
    (mark_reaches _ _ _ h.16)))))))

pub external_is_begun : (c : List Token) (e : ExternalTree) (ts r : List Token) → SpellsExternal None e ts r → SpellsExternal (Some c) e ts r
external_is_begun c (definition f) ts r h = function_is_begun c f ts r h
external_is_begun c (declaration d) ts r h = declaration_is_begun c File d ts r h

pub external_reaches : (e : ExternalTree) (ts r : List Token) → SpellsExternal None e ts r → Reaches ts r
external_reaches (definition f) ts r h = function_reaches f ts r h
external_reaches (declaration d) ts r h = declaration_reaches File d ts r h

pub unit_is_begun : (c : List Token) (es : List ExternalTree) (ts r : List Token) → SpellsUnit None es ts r → SpellsUnit (Some c) es ts r
unit_is_begun c [] ts r h = h
unit_is_begun c (e ∷ es) ts r h = (h.0, external_is_begun c e ts h.0 h.1, unit_is_begun c es h.0 r h.2)

pub unit_reaches : (es : List ExternalTree) (ts r : List Token) → SpellsUnit None es ts r → Reaches ts r
unit_reaches [] ts r h = ([], h)
unit_reaches (e ∷ es) ts r h = reaches_on ts h.0 r (external_reaches e ts h.0 h.1) (unit_reaches es h.0 r h.2)
