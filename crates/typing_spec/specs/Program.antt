-- The typed program: the input of the abstract machine after the phases of translation (ISO/IEC 9899:2011 5.1.2.3, 6.5 to 6.9).
--
-- Every conversion is written, as the type in the node to which the operands are converted; an explicit cast is a node of its
-- own. Parentheses are removed, and sizeof, enumerators and character constants are constants.
use Rattle.std.specs.Prelude.{ℕ, ℤ, Bool, List, Option}
use Rattle.srcset.specs.declared.refusal.Pos.{Pos}
use Rattle.ctypes.specs.declared.types.IntType.{IntType}
use Rattle.ctypes.specs.declared.operators.BinOp.{BinOp}
use Rattle.tree.specs.declared.expression.PrefixOp.{PrefixOp}
use Rattle.tree.specs.declared.expression.StepOp.{StepOp}
use Rattle.typing_spec.specs.Types.{ObjectType, FunctionType}

-- the designation of a name or a string literal (6.2.4): a string literal, an object with static storage, an object of the present
-- call (its parameters that are numbers first), or the array that an array parameter refers to, each numbered apart
pub data Storage : Type 0 where
  literal : (n : ℕ) → Storage
  static : (n : ℕ) → Storage
  automatic : (n : ℕ) → Storage
  parameter : (n : ℕ) → Storage

-- the target of a call: a function by the number of its definition, or a built-in; nothing evaluated calls a function that has no
-- definition
pub data Callee : Type 0 where
  function : (f : ℕ) → Callee
  get_byte : Callee
  put_byte : Callee
  exit : Callee
  missing : (name : ℕ) → Callee

-- whether a step gives the old value (6.5.2.4) or the new one (6.5.3.1)
pub data Moment : Type 0 where
  after : Moment
  before : Moment

mutual
  -- an element, a row or an array (6.3.2.1p1)
  pub data Place : Type 0 where
    named : (at : Pos) (what : Storage) → Place
    element : (at : Pos) (array : Place) (index : Value) → Place

  -- an expression; one of type void has no value
  pub data Value : Type 0 where
    -- a value of ty (6.4.4, 6.5.3.4)
    constant : (ty : IntType) (v : ℤ) → Value
    -- the value of an element of type ty (6.3.2.1p2)
    read : (ty : IntType) (place : Place) → Value
    -- e converted to ty, the element's type, is stored (6.5.16.1)
    assigned : (at : Pos) (ty : IntType) (place : Place) (e : Value) → Value
    -- the old value converted to of, op, e (converted to of, but a shift's right operand not), all converted to ty (6.5.16.2)
    compound : (at : Pos) (op : BinOp) (ty of : IntType) (place : Place) (e : Value) → Value
    -- the old value converted to of, one more or less, all converted to ty (6.5.2.4, 6.5.3.1)
    stepped : (at : Pos) (moment : Moment) (op : StepOp) (ty of : IntType) (place : Place) → Value
    -- of e converted to ty (6.5.3.3)
    unary : (at : Pos) (op : PrefixOp) (ty : IntType) (e : Value) → Value
    -- of a and b converted to ty, a shift's right operand not (6.5.5 to 6.5.12)
    binary : (at : Pos) (op : BinOp) (ty : IntType) (a b : Value) → Value
    -- && and || (6.5.13, 6.5.14)
    both_true : (a b : Value) → Value
    one_true : (a b : Value) → Value
    -- a or b, converted to ty, or both of type void (6.5.15)
    chosen : (ty : Option IntType) (c a b : Value) → Value
    -- the comma operator (6.5.17)
    sequence : (a b : Value) → Value
    -- a cast (6.5.4), and one to void (6.3.2.2)
    cast : (ty : IntType) (e : Value) → Value
    discarded : (e : Value) → Value
    -- a call (6.5.2.2) with its result's type, none for void, and whether its value is used
    call : (at : Pos) (callee : Callee) (result : Option IntType) (used : Bool) (arguments : Arguments) → Value

  -- each argument converted to its parameter's type, or a reference to an array
  pub data Arguments : Type 0 where
    no_arguments : Arguments
    and_number : (ty : IntType) (e : Value) (more : Arguments) → Arguments
    and_array : (array : Place) (more : Arguments) → Arguments

-- an initialiser (6.7.9): of one element, converted to its type; the characters of a string literal; one of these in braces; a
-- braced list for an array
mutual
  pub data Initialiser : Type 0 where
    one_value : (ty : IntType) (e : Value) → Initialiser
    text : (literal : ℕ) → Initialiser
    in_braces : (i : Initialiser) → Initialiser
    list : (all : Initialisers) → Initialiser

  pub data Initialisers : Type 0 where
    no_initialisers : Initialisers
    and_initialiser : (i : Initialiser) (more : Initialisers) → Initialisers

-- a statement (6.8) or the declarator of an automatic object (6.7), n of them in the order of their declarators; a block and a
-- switch have the number of their first object, and how many they and their inner blocks declare
mutual
  pub data Statement : Type 0 where
    empty : Statement
    evaluate : (e : Value) → Statement
    declare : (n : ℕ) → Statement
    define : (n : ℕ) (i : Initialiser) → Statement
    block : (first count : ℕ) (all : Statements) → Statement
    branch : (e : Value) (a : Statement) → Statement
    branches : (e : Value) (a b : Statement) → Statement
    -- the controlling expression and each case converted to ty (6.8.4.2p5); labels precede their statements
    switch : (ty : IntType) (e : Value) (first count : ℕ) (all : Statements) → Statement
    case : (v : ℤ) → Statement
    default : Statement
    while : (e : Value) (a : Statement) → Statement
    do_while : (a : Statement) (e : Value) → Statement
    for : (declared : Statements) (start test step : Option Value) (a : Statement) → Statement
    break : Statement
    continue : Statement
    return_nothing : Statement
    -- e converted to ty, the result's type (6.8.6.4p3)
    return_value : (ty : IntType) (e : Value) → Statement

  pub data Statements : Type 0 where
    no_statements : Statements
    and_statement : (s : Statement) (more : Statements) → Statements

-- a function definition (6.9.1): its name's number, its type, its objects (the parameters that are numbers first), its body's
-- statements, how many nodes its tree has, and its weight
pub record Function : Type 0 where
  pub name : ℕ
  pub type : FunctionType
  pub objects : List ObjectType
  pub body : Statement
  pub nodes : ℕ
  pub weight : ℕ

-- an object with static storage (6.2.4p3): the values of its elements in order, those after them being zero; one that is only
-- declared takes no bytes, and nothing evaluated designates it
pub record Static : Type 0 where
  pub type : ObjectType
  pub defined : Bool
  pub values : List ℤ

-- a program: the characters of each string literal with the zero after them (6.4.5p6), the objects with static storage, the
-- functions in the order of their definitions, and the number of main
pub record Program : Type 0 where
  pub literals : List (List ℕ)
  pub statics : List Static
  pub functions : List Function
  pub main : ℕ
