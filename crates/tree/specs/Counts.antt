-- How many nodes a tree has, and how deep it is.
--
-- One node each: a function definition, parameter, declarator (not a function definition's own), enumerator,
-- assertion, braced list of initialisers, statement and expression. A pair of parentheses around an expression
-- is no node, but counts for the depth; so is nothing else.
use Rattle.std.specs.Prelude.{ℕ, ◌+◌, ◌*◌, ◌/◌, max, List, [], ◌∷◌, Option, Some, None}
use Rattle.tree.specs.Tree.{Tree, hole, identifier, constant, string, paren, call, subscript, after, before, prefix, size_of, size_of_type, cast, binary, conditional, assign, Trees, no_trees, one_more, TypeTree, type_name, Init, init_hole, one_init, braced_init, Inits, no_inits, and_init, EnumeratorTree, SpecifierTree, extern_specifier, static_specifier, plain_specifier, enumerators_specifier, ParameterTree, ItemTree, object, function, DeclarationTree, declared, assertion, StartTree, expression_start, declaration_start, StmtTree, stmt_hole, block_stmt, empty_stmt, expression_stmt, if_stmt, if_else_stmt, switch_stmt, case_stmt, default_stmt, while_stmt, do_while_stmt, for_stmt, break_stmt, continue_stmt, return_stmt, PieceTree, declaration_item, statement_item, Pieces, no_pieces, and_piece, FunctionTree, ExternalTree, definition, declaration}

-- ---- depth: the greatest number of nodes and of parenthesis pairs on a path downwards

abbrev mutual
  pub depth : Tree → ℕ
  depth hole = 0
  depth (identifier at n) = 1
  depth (constant at ty value) = 1
  depth (string at n) = 1
  depth (paren e) = depth e + 1
  depth (call at f args) = depths args + 1
  depth (subscript at a i) = max (depth a) (depth i) + 1
  depth (after at op a) = depth a + 1
  depth (before at op a) = depth a + 1
  depth (prefix at op a) = depth a + 1
  depth (size_of at a) = depth a + 1
  depth (size_of_type at ty) = type_depth ty + 1
  depth (cast at ty a) = max (type_depth ty) (depth a) + 1
  depth (binary at op a b) = max (depth a) (depth b) + 1
  depth (conditional at c a b) = max (depth c) (max (depth a) (depth b)) + 1
  depth (assign at op a b) = max (depth a) (depth b) + 1

  pub depths : Trees → ℕ
  depths no_trees = 0
  depths (one_more e es) = max (depth e) (depths es)

  pub type_depth : TypeTree → ℕ
  type_depth (type_name at specifiers sizes) = depths sizes

abbrev pub option_depth : Option Tree → ℕ
option_depth None = 0
option_depth (Some e) = depth e

abbrev pub sizes_depth : List (Option Tree) → ℕ
sizes_depth [] = 0
sizes_depth (e ∷ es) = max (option_depth e) (sizes_depth es)

abbrev mutual
  pub init_depth : Init → ℕ
  init_depth init_hole = 0
  init_depth (one_init e) = depth e
  init_depth (braced_init at parts) = inits_depth parts + 1

  pub inits_depth : Inits → ℕ
  inits_depth no_inits = 0
  inits_depth (and_init i is) = max (init_depth i) (inits_depth is)

abbrev pub option_init_depth : Option Init → ℕ
option_init_depth None = 0
option_init_depth (Some i) = init_depth i

abbrev pub enumerator_depth : EnumeratorTree → ℕ
enumerator_depth e = option_depth e.value + 1

abbrev pub enumerators_depth : List EnumeratorTree → ℕ
enumerators_depth [] = 0
enumerators_depth (e ∷ es) = max (enumerator_depth e) (enumerators_depth es)

abbrev pub specifier_depth : SpecifierTree → ℕ
specifier_depth extern_specifier = 0
specifier_depth static_specifier = 0
specifier_depth (plain_specifier s) = 0
specifier_depth (enumerators_specifier tag list) = enumerators_depth list

abbrev pub specifiers_depth : List SpecifierTree → ℕ
specifiers_depth [] = 0
specifiers_depth (s ∷ ss) = max (specifier_depth s) (specifiers_depth ss)

abbrev pub parameter_depth : ParameterTree → ℕ
parameter_depth p = sizes_depth p.sizes + 1

abbrev pub parameters_depth : List ParameterTree → ℕ
parameters_depth [] = 0
parameters_depth (p ∷ ps) = max (parameter_depth p) (parameters_depth ps)

abbrev pub item_depth : ItemTree → ℕ
item_depth (object at name sizes init) = max (sizes_depth sizes) (option_init_depth init) + 1
item_depth (function at name parameters) = parameters_depth parameters + 1

abbrev pub items_depth : List ItemTree → ℕ
items_depth [] = 0
items_depth (i ∷ is) = max (item_depth i) (items_depth is)

abbrev pub declaration_depth : DeclarationTree → ℕ
declaration_depth (declared at specifiers items) = max (specifiers_depth specifiers) (items_depth items)
declaration_depth (assertion at condition text) = depth condition + 1

abbrev pub start_depth : StartTree → ℕ
start_depth (expression_start e) = option_depth e
start_depth (declaration_start d) = declaration_depth d

abbrev mutual
  pub stmt_depth : StmtTree → ℕ
  stmt_depth stmt_hole = 0
  stmt_depth (block_stmt at pieces) = pieces_depth pieces + 1
  stmt_depth (empty_stmt at) = 1
  stmt_depth (expression_stmt at e) = depth e + 1
  stmt_depth (if_stmt at e a) = max (depth e) (stmt_depth a) + 1
  stmt_depth (if_else_stmt at e a b) = max (depth e) (max (stmt_depth a) (stmt_depth b)) + 1
  stmt_depth (switch_stmt at e a) = max (depth e) (stmt_depth a) + 1
  stmt_depth (case_stmt at e a) = max (depth e) (stmt_depth a) + 1
  stmt_depth (default_stmt at a) = stmt_depth a + 1
  stmt_depth (while_stmt at e a) = max (depth e) (stmt_depth a) + 1
  stmt_depth (do_while_stmt at a e) = max (stmt_depth a) (depth e) + 1
  stmt_depth (for_stmt at start test step a) = max (start_depth start) (max (option_depth test) (max (option_depth step) (stmt_depth a))) + 1
  stmt_depth (break_stmt at) = 1
  stmt_depth (continue_stmt at) = 1
  stmt_depth (return_stmt at e) = option_depth e + 1

  pub piece_depth : PieceTree → ℕ
  piece_depth (declaration_item d) = declaration_depth d
  piece_depth (statement_item s) = stmt_depth s

  pub pieces_depth : Pieces → ℕ
  pieces_depth no_pieces = 0
  pieces_depth (and_piece p ps) = max (piece_depth p) (pieces_depth ps)

-- its body is a block, which is a statement
abbrev pub function_depth : FunctionTree → ℕ
function_depth f = max (specifiers_depth f.specifiers) (max (parameters_depth f.parameters) (pieces_depth f.body + 1)) + 1

abbrev pub external_depth : ExternalTree → ℕ
external_depth (definition f) = function_depth f
external_depth (declaration d) = declaration_depth d

abbrev pub unit_depth : List ExternalTree → ℕ
unit_depth [] = 0
unit_depth (e ∷ es) = max (external_depth e) (unit_depth es)

-- ---- nodes

abbrev mutual
  pub nodes : Tree → ℕ
  nodes hole = 0
  nodes (identifier at n) = 1
  nodes (constant at ty value) = 1
  nodes (string at n) = 1
  nodes (paren e) = nodes e
  nodes (call at f args) = all_nodes args + 1
  nodes (subscript at a i) = nodes a + nodes i + 1
  nodes (after at op a) = nodes a + 1
  nodes (before at op a) = nodes a + 1
  nodes (prefix at op a) = nodes a + 1
  nodes (size_of at a) = nodes a + 1
  nodes (size_of_type at ty) = type_nodes ty + 1
  nodes (cast at ty a) = type_nodes ty + nodes a + 1
  nodes (binary at op a b) = nodes a + nodes b + 1
  nodes (conditional at c a b) = nodes c + nodes a + nodes b + 1
  nodes (assign at op a b) = nodes a + nodes b + 1

  pub all_nodes : Trees → ℕ
  all_nodes no_trees = 0
  all_nodes (one_more e es) = nodes e + all_nodes es

  pub type_nodes : TypeTree → ℕ
  type_nodes (type_name at specifiers sizes) = all_nodes sizes

abbrev pub option_nodes : Option Tree → ℕ
option_nodes None = 0
option_nodes (Some e) = nodes e

abbrev pub sizes_nodes : List (Option Tree) → ℕ
sizes_nodes [] = 0
sizes_nodes (e ∷ es) = option_nodes e + sizes_nodes es

abbrev mutual
  pub init_nodes : Init → ℕ
  init_nodes init_hole = 0
  init_nodes (one_init e) = nodes e
  init_nodes (braced_init at parts) = inits_nodes parts + 1

  pub inits_nodes : Inits → ℕ
  inits_nodes no_inits = 0
  inits_nodes (and_init i is) = init_nodes i + inits_nodes is

abbrev pub option_init_nodes : Option Init → ℕ
option_init_nodes None = 0
option_init_nodes (Some i) = init_nodes i

abbrev pub enumerators_nodes : List EnumeratorTree → ℕ
enumerators_nodes [] = 0
enumerators_nodes (e ∷ es) = option_nodes e.value + 1 + enumerators_nodes es

abbrev pub specifier_nodes : SpecifierTree → ℕ
specifier_nodes extern_specifier = 0
specifier_nodes static_specifier = 0
specifier_nodes (plain_specifier s) = 0
specifier_nodes (enumerators_specifier tag list) = enumerators_nodes list

abbrev pub specifiers_nodes : List SpecifierTree → ℕ
specifiers_nodes [] = 0
specifiers_nodes (s ∷ ss) = specifier_nodes s + specifiers_nodes ss

abbrev pub parameters_nodes : List ParameterTree → ℕ
parameters_nodes [] = 0
parameters_nodes (p ∷ ps) = sizes_nodes p.sizes + 1 + parameters_nodes ps

abbrev pub item_nodes : ItemTree → ℕ
item_nodes (object at name sizes init) = sizes_nodes sizes + option_init_nodes init + 1
item_nodes (function at name parameters) = parameters_nodes parameters + 1

abbrev pub items_nodes : List ItemTree → ℕ
items_nodes [] = 0
items_nodes (i ∷ is) = item_nodes i + items_nodes is

abbrev pub declaration_nodes : DeclarationTree → ℕ
declaration_nodes (declared at specifiers items) = specifiers_nodes specifiers + items_nodes items
declaration_nodes (assertion at condition text) = nodes condition + 1

abbrev pub start_nodes : StartTree → ℕ
start_nodes (expression_start e) = option_nodes e
start_nodes (declaration_start d) = declaration_nodes d

abbrev mutual
  pub stmt_nodes : StmtTree → ℕ
  stmt_nodes stmt_hole = 0
  stmt_nodes (block_stmt at pieces) = pieces_nodes pieces + 1
  stmt_nodes (empty_stmt at) = 1
  stmt_nodes (expression_stmt at e) = nodes e + 1
  stmt_nodes (if_stmt at e a) = nodes e + stmt_nodes a + 1
  stmt_nodes (if_else_stmt at e a b) = nodes e + stmt_nodes a + stmt_nodes b + 1
  stmt_nodes (switch_stmt at e a) = nodes e + stmt_nodes a + 1
  stmt_nodes (case_stmt at e a) = nodes e + stmt_nodes a + 1
  stmt_nodes (default_stmt at a) = stmt_nodes a + 1
  stmt_nodes (while_stmt at e a) = nodes e + stmt_nodes a + 1
  stmt_nodes (do_while_stmt at a e) = stmt_nodes a + nodes e + 1
  stmt_nodes (for_stmt at start test step a) = start_nodes start + option_nodes test + option_nodes step + stmt_nodes a + 1
  stmt_nodes (break_stmt at) = 1
  stmt_nodes (continue_stmt at) = 1
  stmt_nodes (return_stmt at e) = option_nodes e + 1

  pub piece_nodes : PieceTree → ℕ
  piece_nodes (declaration_item d) = declaration_nodes d
  piece_nodes (statement_item s) = stmt_nodes s

  pub pieces_nodes : Pieces → ℕ
  pieces_nodes no_pieces = 0
  pieces_nodes (and_piece p ps) = piece_nodes p + pieces_nodes ps

abbrev pub function_nodes : FunctionTree → ℕ
function_nodes f = specifiers_nodes f.specifiers + parameters_nodes f.parameters + pieces_nodes f.body + 2

abbrev pub external_nodes : ExternalTree → ℕ
external_nodes (definition f) = function_nodes f
external_nodes (declaration d) = declaration_nodes d

abbrev pub unit_nodes : List ExternalTree → ℕ
unit_nodes [] = 0
unit_nodes (e ∷ es) = external_nodes e + unit_nodes es

-- ---- weight: the stack that a call of a function may take, by its source alone

-- 64 bytes, those of its parameters and automatic objects, each rounded up to 4, and 16 for each node, rounded up to 16
abbrev pub weight_of : ℕ → ℕ → ℕ
weight_of nodes bytes = (64 + bytes + 16 * nodes + 15) / 16 * 16
