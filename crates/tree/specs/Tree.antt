-- Syntax trees, apart from how a program holds them.
use Rattle.std.specs.Prelude.{ℕ, List, Option}
use Rattle.srcset.specs.declared.refusal.Pos.{Pos}
use Rattle.ctypes.specs.declared.types.IntType.{IntType}
use Rattle.tree.specs.declared.expression.TypeSpecifier.{TypeSpecifier}
use Rattle.tree.specs.declared.expression.PrefixOp.{PrefixOp}
use Rattle.tree.specs.declared.expression.StepOp.{StepOp}
use Rattle.tree.specs.declared.expression.BinaryOp.{BinaryOp}
use Rattle.tree.specs.declared.expression.AssignOp.{AssignOp}

-- an expression (6.5). A hole is a part that is not yet filled: only a begun tree has one.
mutual
  pub data Tree : Type 0 where
    hole : Tree
    identifier : (at : Pos) (n : ℕ) → Tree
    constant : (at : Pos) (ty : IntType) (value : ℕ) → Tree
    string : (at : Pos) (n : ℕ) → Tree
    paren : (e : Tree) → Tree
    call : (at : Pos) (f : ℕ) (args : Trees) → Tree
    subscript : (at : Pos) (a i : Tree) → Tree
    after : (at : Pos) (op : StepOp) (a : Tree) → Tree
    before : (at : Pos) (op : StepOp) (a : Tree) → Tree
    prefix : (at : Pos) (op : PrefixOp) (a : Tree) → Tree
    size_of : (at : Pos) (a : Tree) → Tree
    size_of_type : (at : Pos) (ty : TypeTree) → Tree
    cast : (at : Pos) (ty : TypeTree) (a : Tree) → Tree
    binary : (at : Pos) (op : BinaryOp) (a b : Tree) → Tree
    conditional : (at : Pos) (c a b : Tree) → Tree
    assign : (at : Pos) (op : AssignOp) (a b : Tree) → Tree

  -- arguments; sizes
  pub data Trees : Type 0 where
    no_trees : Trees
    one_more : (e : Tree) (es : Trees) → Trees

  -- the name of a type (6.7.7): its specifiers, the first at this place, and its sizes
  pub data TypeTree : Type 0 where
    type_name : (at : Pos) (specifiers : List TypeSpecifier) (sizes : Trees) → TypeTree

-- an initialiser (6.7.9)
mutual
  pub data Init : Type 0 where
    init_hole : Init
    one_init : (e : Tree) → Init
    braced_init : (at : Pos) (parts : Inits) → Init

  pub data Inits : Type 0 where
    no_inits : Inits
    and_init : (i : Init) (is : Inits) → Inits

-- an enumerator (6.7.2.2)
pub record EnumeratorTree : Type 0 where
  pub at : Pos
  pub name : ℕ
  pub value : Option Tree

-- a specifier of a declaration (6.7.1 to 6.7.3)
pub data SpecifierTree : Type 0 where
  extern_specifier : SpecifierTree
  static_specifier : SpecifierTree
  plain_specifier : (s : TypeSpecifier) → SpecifierTree
  enumerators_specifier : (tag : Option ℕ) (list : List EnumeratorTree) → SpecifierTree

-- a parameter (6.7.6.3); the first of its specifiers is at `start`
pub record ParameterTree : Type 0 where
  pub at : Pos
  pub start : Pos
  pub specifiers : List TypeSpecifier
  pub name : Option ℕ
  pub sizes : List (Option Tree)

-- the declarator of a declaration (6.7.6); no parameters denote (void)
pub data ItemTree : Type 0 where
  object : (at : Pos) (name : ℕ) (sizes : List (Option Tree)) (init : Option Init) → ItemTree
  function : (at : Pos) (name : ℕ) (parameters : List ParameterTree) → ItemTree

-- a declaration (6.7), the first of its specifiers at this place, or a static assertion (6.7.10)
pub data DeclarationTree : Type 0 where
  declared : (at : Pos) (specifiers : List SpecifierTree) (items : List ItemTree) → DeclarationTree
  assertion : (at : Pos) (condition : Tree) (text : ℕ) → DeclarationTree

-- the first part of a `for` (6.8.5.3)
pub data StartTree : Type 0 where
  expression_start : (e : Option Tree) → StartTree
  declaration_start : (d : DeclarationTree) → StartTree

-- a statement (6.8)
mutual
  pub data StmtTree : Type 0 where
    stmt_hole : StmtTree
    block_stmt : (at : Pos) (pieces : Pieces) → StmtTree
    empty_stmt : (at : Pos) → StmtTree
    expression_stmt : (at : Pos) (e : Tree) → StmtTree
    if_stmt : (at : Pos) (e : Tree) (a : StmtTree) → StmtTree
    if_else_stmt : (at : Pos) (e : Tree) (a b : StmtTree) → StmtTree
    switch_stmt : (at : Pos) (e : Tree) (a : StmtTree) → StmtTree
    case_stmt : (at : Pos) (e : Tree) (a : StmtTree) → StmtTree
    default_stmt : (at : Pos) (a : StmtTree) → StmtTree
    while_stmt : (at : Pos) (e : Tree) (a : StmtTree) → StmtTree
    do_while_stmt : (at : Pos) (a : StmtTree) (e : Tree) → StmtTree
    for_stmt : (at : Pos) (start : StartTree) (test step : Option Tree) (a : StmtTree) → StmtTree
    break_stmt : (at : Pos) → StmtTree
    continue_stmt : (at : Pos) → StmtTree
    return_stmt : (at : Pos) (e : Option Tree) → StmtTree

  -- an item of a block (6.8.2)
  pub data PieceTree : Type 0 where
    declaration_item : (d : DeclarationTree) → PieceTree
    statement_item : (s : StmtTree) → PieceTree

  pub data Pieces : Type 0 where
    no_pieces : Pieces
    and_piece : (p : PieceTree) (ps : Pieces) → Pieces

-- a function definition (6.9.1); the first of its specifiers is at `start`, the brace of its body at `brace`
pub record FunctionTree : Type 0 where
  pub start : Pos
  pub specifiers : List SpecifierTree
  pub at : Pos
  pub name : ℕ
  pub parameters : List ParameterTree
  pub brace : Pos
  pub body : Pieces

-- an external declaration (6.9)
pub data ExternalTree : Type 0 where
  definition : (f : FunctionTree) → ExternalTree
  declaration : (d : DeclarationTree) → ExternalTree
