-- The syntax trees that the code's values hold.
use Rattle.std.specs.Prelude.{List, [], ◌∷◌, map, Option, Some, None}
use Rattle.tree.specs.declared.expression.Expr.{Expr, fold-Expr}
use Rattle.tree.specs.declared.expression.Expr.TheOpen.{Expr-F, TypeName-F}
use Rattle.tree.specs.declared.expression.TypeName.{TypeName, fold-TypeName}
use Rattle.tree.specs.declared.declaration.Enumerator.{Enumerator}
use Rattle.tree.specs.declared.declaration.Specifier.{Specifier}
use Rattle.tree.specs.declared.declaration.Specifier.TheVariants.{Extern, Static, Plain, Enumerators}
use Rattle.tree.specs.declared.declaration.Initialiser.{Initialiser, fold-Initialiser}
use Rattle.tree.specs.declared.declaration.Initialiser.TheOpen.{Initialiser-F}
use Rattle.tree.specs.declared.declaration.Parameter.{Parameter}
use Rattle.tree.specs.declared.declaration.Item.{Item}
use Rattle.tree.specs.declared.declaration.Item.TheVariants as item
use Rattle.tree.specs.declared.declaration.Declaration.{Declaration}
use Rattle.tree.specs.declared.declaration.Declaration.TheVariants.{Declared, Assertion}
use Rattle.tree.specs.declared.statement.ForStart.{ForStart}
use Rattle.tree.specs.declared.statement.ForStart.TheVariants as for_start
use Rattle.tree.specs.declared.statement.Stmt.{Stmt, fold-Stmt}
use Rattle.tree.specs.declared.statement.BlockItem.{BlockItem, fold-BlockItem}
use Rattle.tree.specs.declared.statement.BlockItem.TheOpen.{Stmt-F, BlockItem-F}
use Rattle.tree.specs.declared.unit.Function.{Function}
use Rattle.tree.specs.declared.unit.External.{External}
use Rattle.tree.specs.declared.unit.External.TheVariants as external
use Rattle.tree.specs.declared.unit.Unit.{Unit}
use Rattle.tree.specs.Tree.{Tree, identifier, constant, string, paren, call, subscript, after, before, prefix, size_of, size_of_type, cast, binary, conditional, assign, Trees, no_trees, one_more, TypeTree, type_name, Init, one_init, braced_init, Inits, no_inits, and_init, EnumeratorTree, SpecifierTree, extern_specifier, static_specifier, plain_specifier, enumerators_specifier, ParameterTree, ItemTree, object, function, DeclarationTree, declared, assertion, StartTree, expression_start, declaration_start, StmtTree, block_stmt, empty_stmt, expression_stmt, if_stmt, if_else_stmt, switch_stmt, case_stmt, default_stmt, while_stmt, do_while_stmt, for_stmt, break_stmt, continue_stmt, return_stmt, PieceTree, declaration_item, statement_item, Pieces, no_pieces, and_piece, FunctionTree, ExternalTree, definition, declaration}

-- ---- expressions

abbrev pub trees_of : List Tree → Trees
trees_of [] = no_trees
trees_of (t ∷ ts) = one_more t (trees_of ts)

-- one level, with each part already seen as its tree
abbrev pub tree_step : Expr-F Tree TypeTree → Tree
tree_step (Expr-F.Name at n) = identifier at n
tree_step (Expr-F.Constant at ty value) = constant at ty value
tree_step (Expr-F.StringLiteral at n) = string at n
tree_step (Expr-F.Paren e) = paren e.value
tree_step (Expr-F.Call at f args) = call at f (trees_of args.items)
tree_step (Expr-F.Subscript at a i) = subscript at a.value i.value
tree_step (Expr-F.After at op a) = after at op a.value
tree_step (Expr-F.Before at op a) = before at op a.value
tree_step (Expr-F.Prefix at op a) = prefix at op a.value
tree_step (Expr-F.SizeofExpr at a) = size_of at a.value
tree_step (Expr-F.SizeofType at ty) = size_of_type at ty
tree_step (Expr-F.Cast at ty a) = cast at ty a.value
tree_step (Expr-F.Binary at op a b) = binary at op a.value b.value
tree_step (Expr-F.Conditional at c a b) = conditional at c.value a.value b.value
tree_step (Expr-F.Assign at op a b) = assign at op a.value b.value

abbrev pub type_step : TypeName-F Tree TypeTree → TypeTree
type_step t = type_name t.specifiers.pos t.specifiers.list.items (trees_of t.sizes.items)

abbrev pub tree_of : Expr → Tree
tree_of = fold-Expr Tree TypeTree tree_step type_step

abbrev pub type_of : TypeName → TypeTree
type_of = fold-TypeName Tree TypeTree tree_step type_step

abbrev pub option_tree : Option Expr → Option Tree
option_tree None = None
option_tree (Some e) = Some (tree_of e)

-- ---- declarations

abbrev pub inits_of : List Init → Inits
inits_of [] = no_inits
inits_of (i ∷ is) = and_init i (inits_of is)

abbrev pub init_step : Initialiser-F Init → Init
init_step (Initialiser-F.One e) = one_init (tree_of e)
init_step (Initialiser-F.List at parts) = braced_init at (inits_of parts.items)

abbrev pub init_of : Initialiser → Init
init_of = fold-Initialiser Init init_step

abbrev pub option_init : Option Initialiser → Option Init
option_init None = None
option_init (Some i) = Some (init_of i)

abbrev pub enumerator_of : Enumerator → EnumeratorTree
enumerator_of e = record { at = e.pos; name = e.name; value = option_tree e.value }

abbrev pub specifier_of : Specifier → SpecifierTree
specifier_of Extern = extern_specifier
specifier_of Static = static_specifier
specifier_of (Plain s) = plain_specifier s
specifier_of (Enumerators tag list) = enumerators_specifier tag (map enumerator_of list.items)

abbrev pub parameter_of : Parameter → ParameterTree
parameter_of p = record { at = p.pos; start = p.specifiers.pos; specifiers = p.specifiers.list.items; name = p.name; sizes = map option_tree p.sizes.items }

abbrev pub item_of : Item → ItemTree
item_of (item.Object o) = object o.pos o.name (map option_tree o.sizes.items) (option_init o.initialiser)
item_of (item.Function f) = function f.pos f.name (map parameter_of f.parameters.items)

abbrev pub declaration_of : Declaration → DeclarationTree
declaration_of (Declared specifiers items) = declared specifiers.pos (map specifier_of specifiers.list.items) (map item_of items.items)
declaration_of (Assertion at condition text) = assertion at (tree_of condition) text

-- ---- statements

abbrev pub start_of : ForStart → StartTree
start_of (for_start.Expression e) = expression_start (option_tree e)
start_of (for_start.Declaration d) = declaration_start (declaration_of d)

abbrev pub pieces_of : List PieceTree → Pieces
pieces_of [] = no_pieces
pieces_of (p ∷ ps) = and_piece p (pieces_of ps)

abbrev pub stmt_step : Stmt-F PieceTree StmtTree → StmtTree
stmt_step (Stmt-F.Block at items) = block_stmt at (pieces_of items.items)
stmt_step (Stmt-F.Empty at) = empty_stmt at
stmt_step (Stmt-F.Expression at e) = expression_stmt at (tree_of e)
stmt_step (Stmt-F.If at e a) = if_stmt at (tree_of e) a.value
stmt_step (Stmt-F.IfElse at e a b) = if_else_stmt at (tree_of e) a.value b.value
stmt_step (Stmt-F.Switch at e a) = switch_stmt at (tree_of e) a.value
stmt_step (Stmt-F.Case at e a) = case_stmt at (tree_of e) a.value
stmt_step (Stmt-F.Default at a) = default_stmt at a.value
stmt_step (Stmt-F.While at e a) = while_stmt at (tree_of e) a.value
stmt_step (Stmt-F.DoWhile at a e) = do_while_stmt at a.value (tree_of e)
stmt_step (Stmt-F.For at head a) = for_stmt at (start_of head.value.start) (option_tree head.value.test) (option_tree head.value.step) a.value
stmt_step (Stmt-F.Break at) = break_stmt at
stmt_step (Stmt-F.Continue at) = continue_stmt at
stmt_step (Stmt-F.Return at e) = return_stmt at (option_tree e)

abbrev pub piece_step : BlockItem-F PieceTree StmtTree → PieceTree
piece_step (BlockItem-F.Declaration d) = declaration_item (declaration_of d)
piece_step (BlockItem-F.Statement s) = statement_item s

abbrev pub stmt_of : Stmt → StmtTree
stmt_of = fold-Stmt PieceTree StmtTree piece_step stmt_step

abbrev pub piece_of : BlockItem → PieceTree
piece_of = fold-BlockItem PieceTree StmtTree piece_step stmt_step

-- ---- units

abbrev pub function_of : Function → FunctionTree
function_of f = record {
  start = f.specifiers.pos;
  specifiers = map specifier_of f.specifiers.list.items;
  at = f.declarator.pos;
  name = f.declarator.name;
  parameters = map parameter_of f.declarator.parameters.items;
  brace = f.body_pos;
  body = pieces_of (map piece_of f.body.items);
}

abbrev pub external_of : External → ExternalTree
external_of (external.Function f) = definition (function_of f)
external_of (external.Declaration d) = declaration (declaration_of d)

abbrev pub unit_of : Unit → List ExternalTree
unit_of u = map external_of u.externals.items
