-- The typing rules of expressions (ISO/IEC 9899:2011 6.3, 6.5), one a form; of the names of types (6.7.7) and of sizes (6.7.6.2).
use Rattle.std.specs.Prelude.{ℕ, zero, suc, ◌+◌, Bool, true, false, ◌&&◌, ◌||◌, ℤ, pos, negsuc, nat_lt, List, [], ◌∷◌, length, Option, Some, None, if◌then◌else◌}
use Rattle.srcset.specs.declared.refusal.Pos.{Pos}
use Rattle.srcset.specs.declared.code.Code.{Code}
use Rattle.srcset.specs.declared.code.Code.TheVariants as code
use Rattle.ctypes.specs.declared.types.IntType.{IntType}
use Rattle.ctypes.specs.declared.types.IntType.TheVariants as ty
use Rattle.ctypes.specs.declared.operators.BinOp.{BinOp}
use Rattle.ctypes.specs.declared.operators.BinOp.TheVariants as op
use Rattle.ctypes.specs.Types.{promoted, usual_of, converted, bytes_of}
use Rattle.ctypes.specs.Arithmetic.{result_type}
use Rattle.tree.specs.declared.expression.BinaryOp.{BinaryOp}
use Rattle.tree.specs.declared.expression.BinaryOp.TheVariants as operator
use Rattle.tree.specs.declared.expression.PrefixOp.{PrefixOp}
use Rattle.tree.specs.declared.expression.StepOp.{StepOp}
use Rattle.tree.specs.Tree.{Tree, Trees, TypeTree, hole, identifier, constant, string, paren, call, subscript, after, before, prefix, size_of, size_of_type, cast, binary, conditional, assign, no_trees, one_more, type_name}
use Rattle.typing_spec.specs.Types.{ObjectType, DeclaredType, complete, unknown_size, ParameterType, number, elements, FunctionType, size_of_object, size_of_parameter, alike, same_object, element_type}
use Rattle.typing_spec.specs.Verdict.{Verdict, fine, breaks, then_check, both, refuse_if, provided}
use Rattle.typing_spec.specs.Operators.{assigning, operands_type, signed_type}
use Rattle.typing_spec.specs.Program as typed
use Rattle.typing_spec.specs.Program.{Value, Place, Arguments, Moment, Callee}
use Rattle.typing_spec.specs.Scope.{Scope, Binding, Meaning, an_object, an_array_parameter, a_function, an_enumerator, lookup, callee_of, literal_of, past, past_type}
use Rattle.typing_spec.specs.Specifiers.{BaseType, base_type}
use Rattle.typing_spec.specs.Constants.{constant_form, folded}

-- the bytes that an object may have, also an element of an array parameter and an array in the name of a type
abbrev pub object_limit : ℕ
object_limit = 1048576

-- the kind of an expression, and its place: a value; an element, which may be const; an array; an array parameter with the type of its
-- elements; nothing, as a void expression (6.3.2.2); a function designator (6.3.2.1p4)
pub data Checked : Type 0 where
  value : (at : Pos) (t : IntType) (e : Value) → Checked
  object : (at : Pos) (t : IntType) (constant : Bool) (p : Place) → Checked
  array : (at : Pos) (t : DeclaredType) (p : Place) → Checked
  reference : (at : Pos) (element : ObjectType) (p : Place) → Checked
  nothing : (at : Pos) (e : Value) → Checked
  designator : (at : Pos) → Checked

-- a value with its type
pub record Worth : Type 0 where
  pub type : IntType
  pub e : Value

abbrev pub worth_of : IntType → Value → Verdict Worth
worth_of t e = fine (record { type = t; e = e })

-- the value of an expression (6.3.2.1p2): a void expression has this code as its fault; an array or a function has none in this profile
abbrev pub worth : Code → Pos → Checked → Verdict Worth
worth c at (value p t e) = worth_of t e
worth c at (object p t k place) = worth_of t (typed.read t place)
worth c at (array p t place) = breaks code.LeftOutArrayValue p
worth c at (reference p t place) = breaks code.LeftOutArrayValue p
worth c at (nothing p e) = breaks c at
worth c at (designator p) = breaks code.LeftOutArrayValue p

abbrev pub valued : Code → Pos → Verdict Checked → Verdict Worth
valued c at v = then_check v (worth c at)

-- a call whose value goes unused: that of a whole expression, of a comma's right operand, of an arm
abbrev pub unused : Value → Value
unused (typed.call at f t used args) = typed.call at f t false args
unused (typed.sequence a b) = typed.sequence a (unused b)
unused (typed.chosen t c a b) = typed.chosen t c (unused a) (unused b)
unused e = e

-- an expression for its side effects (6.8.3p2)
abbrev pub effect : Checked → Verdict Value
effect (value at t e) = fine (unused e)
effect (object at t k p) = fine (typed.read t p)
effect (array at t p) = breaks code.LeftOutArrayValue at
effect (reference at t p) = breaks code.LeftOutArrayValue at
effect (nothing at e) = fine (unused e)
effect (designator at) = breaks code.LeftOutArrayValue at

-- ---- 6.5.1: names and string literals

abbrev pub whole_object : Pos → ObjectType → List ℕ → Place → Checked
whole_object at t [] p = object at t.element t.constant p
whole_object at t (n ∷ lengths) p = array at (complete t) p

-- an element, or an array
abbrev pub designated : Pos → ObjectType → Place → Checked
designated at t p = whole_object at t t.lengths p

abbrev pub meant : Pos → Meaning → Verdict Checked
meant at (an_object what (complete t)) = fine (designated at t (typed.named at what))
meant at (an_object what (unknown_size t)) = fine (array at (unknown_size t) (typed.named at what))
meant at (an_array_parameter n t) = fine (reference at t (typed.named at (typed.parameter n)))
meant at (a_function t) = fine (designator at)
meant at (an_enumerator v) = fine (value at ty.Int (typed.constant ty.Int v))

abbrev pub named : Pos → Option Binding → Verdict Checked
named at None = breaks code.UndeclaredName at
named at (Some b) = meant at b.meaning

-- 6.4.5p6: an array of char, of its characters and a zero
abbrev pub string_type : List ℕ → ObjectType
string_type text = record { element = ty.Char; constant = false; lengths = (length text + 1) ∷ [] }

abbrev pub too_large : Pos → ObjectType → Verdict (Unit {0})
too_large at t = refuse_if (nat_lt object_limit (size_of_object t)) code.ObjectSizeLimit at

abbrev pub literal_at : Scope → Pos → ObjectType → Verdict Checked
literal_at s at t = provided (too_large at t) (fine (array at (complete t) (typed.named at (typed.literal (length s.literals)))))

-- ---- 6.5.2.1: an array and an index of integer type

abbrev pub index : Pos → Checked → Verdict Worth
index at (value p t e) = worth_of t e
index at (object p t k place) = worth_of t (typed.read t place)
index at (array p t place) = breaks code.BadSubscript at
index at (reference p t place) = breaks code.BadSubscript at
index at (nothing p e) = breaks code.BadSubscript at
index at (designator p) = breaks code.BadSubscript at

abbrev pub element_at : Pos → Option ObjectType → Place → Worth → Verdict Checked
element_at at None p i = breaks code.BadSubscript at
element_at at (Some t) p i = fine (designated at t (typed.element at p i.e))

-- a number has no elements; with an array as its index it is a subscript the other way round, which the profile leaves out
abbrev pub no_array : Pos → Checked → Verdict Checked
no_array at (value p t e) = breaks code.BadSubscript at
no_array at (object p t k place) = breaks code.BadSubscript at
no_array at (array p t place) = breaks code.LeftOutReversedSubscript at
no_array at (reference p t place) = breaks code.LeftOutReversedSubscript at
no_array at (nothing p e) = breaks code.BadSubscript at
no_array at (designator p) = breaks code.BadSubscript at

abbrev pub subscripted : Pos → Checked → Checked → Verdict Checked
subscripted at (array q (complete t) p) i = then_check (index at i) (element_at at (element_type t) p)
subscripted at (array q (unknown_size t) p) i = then_check (index at i) (element_at at (Some t) p)
subscripted at (reference q t p) i = then_check (index at i) (element_at at (Some t) p)
subscripted at (value q t e) i = no_array at i
subscripted at (object q t k p) i = no_array at i
subscripted at (nothing q e) i = breaks code.BadSubscript at
subscripted at (designator q) i = breaks code.BadSubscript at

-- ---- 6.5.2.2: calls

pub record Called : Type 0 where
  pub callee : Callee
  pub type : FunctionType

abbrev pub function_meant : Scope → Pos → ℕ → Meaning → Verdict Called
function_meant s at n (an_object what t) = breaks code.CalledNoFunction at
function_meant s at n (an_array_parameter k t) = breaks code.CalledNoFunction at
function_meant s at n (a_function t) = fine (record { callee = callee_of s n; type = t })
function_meant s at n (an_enumerator v) = breaks code.CalledNoFunction at

abbrev pub function_named : Scope → Pos → ℕ → Option Binding → Verdict Called
function_named s at n None = breaks code.UndeclaredName at
function_named s at n (Some b) = function_meant s at n b.meaning

-- 6.5.2.2p2, 6.5.16.1p1: the elements are of compatible types; elements that are no arrays may become const
abbrev pub has_no_lengths : List ℕ → Bool
has_no_lengths [] = true
has_no_lengths (n ∷ ns) = false

abbrev pub may_refer : ObjectType → ObjectType → Bool
may_refer wanted given = same_object wanted given || (alike wanted given && (wanted.constant && has_no_lengths wanted.lengths))

abbrev pub referring : Pos → ObjectType → Option ObjectType → Place → Arguments → Verdict Arguments
referring at wanted None p more = breaks code.ArgumentType at
referring at wanted (Some given) p more = if may_refer wanted given then fine (typed.and_array p more) else breaks code.ArgumentType at

abbrev pub array_argument : Pos → ObjectType → Checked → Arguments → Verdict Arguments
array_argument at t (value q u e) more = breaks code.ArgumentType at
array_argument at t (object q u k p) more = breaks code.ArgumentType at
array_argument at t (array q (complete u) p) more = referring at t (element_type u) p more
array_argument at t (array q (unknown_size u) p) more = referring at t (Some u) p more
array_argument at t (reference q u p) more = referring at t (Some u) p more
array_argument at t (nothing q e) more = breaks code.ArgumentType at
array_argument at t (designator q) more = breaks code.LeftOutArrayValue q

-- each argument is assigned to its parameter (6.5.2.2p4, p7)
abbrev pub argument : Pos → ParameterType → Checked → Arguments → Verdict Arguments
argument at (number t) x more = then_check (worth code.ArgumentType at x) (λ w. fine (typed.and_number t w.e more))
argument at (elements t) x more = array_argument at t x more

abbrev pub result_at : Pos → Option IntType → Value → Checked
result_at at None e = nothing at e
result_at at (Some t) e = value at t e

abbrev pub call_of : Pos → Called → Arguments → Verdict Checked
call_of at f args = fine (result_at at f.type.result (typed.call at f.callee f.type.result true args))

-- ---- 6.5.3, 6.5.16: modifiable lvalues

pub record Target : Type 0 where
  pub type : IntType
  pub place : Place

-- 6.3.2.1p1: a modifiable lvalue is an element that is not const
abbrev pub target : Pos → Checked → Verdict Target
target at (value p t e) = breaks code.NotModifiable at
target at (object p t true place) = breaks code.NotModifiable at
target at (object p t false place) = fine (record { type = t; place = place })
target at (array p t place) = breaks code.LeftOutArrayValue p
target at (reference p t place) = breaks code.LeftOutArrayValue p
target at (nothing p e) = breaks code.NotModifiable at
target at (designator p) = breaks code.LeftOutArrayValue p

-- 6.5.2.4p2, 6.5.3.1p2: as with 1, which is an int
abbrev pub step : Pos → Moment → StepOp → Target → Verdict Checked
step at m o to = fine (value at to.type (typed.stepped at m o to.type (usual_of to.type ty.Int) to.place))

abbrev pub simple : Pos → Target → Worth → Verdict Checked
simple at to x = fine (value at to.type (typed.assigned at to.type to.place x.e))

abbrev pub compound : Pos → BinOp → Target → Worth → Verdict Checked
compound at o to x = fine (value at to.type (typed.compound at o to.type (operands_type o to.type x.type) to.place x.e))

-- 6.5.16.1, 6.5.16.2
abbrev pub assignment : Pos → Option BinOp → Checked → Checked → Verdict Checked
assignment at None a b = both (target at a) (worth code.VoidAssigned at b) (simple at)
assignment at (Some o) a b = both (target at a) (worth code.VoidOperand at b) (compound at o)

-- 6.5.3.3
abbrev pub signed_value : Pos → PrefixOp → Worth → Verdict Checked
signed_value at o x = fine (value at (signed_type o (promoted x.type)) (typed.unary at o (promoted x.type) x.e))

-- 6.5.3.4: no function, nothing incomplete; size_t is unsigned int, and no object is too large for it
abbrev pub size_is : Pos → ℕ → Verdict Checked
size_is at n = fine (value at ty.UInt (typed.constant ty.UInt (converted ty.UInt (pos n))))

abbrev pub measured : Pos → Checked → Verdict Checked
measured at (value p t e) = size_is at (bytes_of t)
measured at (object p t k place) = size_is at (bytes_of t)
measured at (array p (complete t) place) = size_is at (size_of_object t)
measured at (array p (unknown_size t) place) = breaks code.BadSizeofOperand at
measured at (reference p t place) = size_is at (size_of_parameter (elements t))
measured at (nothing p e) = breaks code.BadSizeofOperand at
measured at (designator p) = breaks code.BadSizeofOperand at

-- none for void
abbrev pub type_measured : Pos → Option ObjectType → Verdict Checked
type_measured at None = breaks code.BadSizeofOperand at
type_measured at (Some t) = size_is at (size_of_object t)

-- ---- 6.5.4: casts, to void or to a type of numbers

abbrev pub cast_to_object : Pos → ObjectType → List ℕ → Checked → Verdict Checked
cast_to_object at t [] x = then_check (worth code.VoidOperand at x) (λ w. fine (value at t.element (typed.cast t.element w.e)))
cast_to_object at t (n ∷ lengths) x = breaks code.BadCast at

abbrev pub cast_to : Pos → Option ObjectType → Checked → Verdict Checked
cast_to at None x = then_check (effect x) (λ e. fine (nothing at (typed.discarded e)))
cast_to at (Some t) x = cast_to_object at t t.lengths x

-- ---- 6.5.5 to 6.5.14, 6.5.17

abbrev pub computed_by : Pos → BinOp → Worth → Worth → Verdict Checked
computed_by at o a b = let t = operands_type o a.type b.type in fine (value at (result_type o t) (typed.binary at o t a.e b.e))

abbrev pub arithmetic : Pos → BinOp → Checked → Checked → Verdict Checked
arithmetic at o a b = both (worth code.VoidOperand at a) (worth code.VoidOperand at b) (computed_by at o)

abbrev pub conjunction : Pos → Worth → Worth → Verdict Checked
conjunction at a b = fine (value at ty.Int (typed.both_true a.e b.e))

abbrev pub disjunction : Pos → Worth → Worth → Verdict Checked
disjunction at a b = fine (value at ty.Int (typed.one_true a.e b.e))

-- the right operand of a comma, which is its value (6.5.17p2)
abbrev pub last : Pos → Value → Checked → Verdict Checked
last at a (value p t e) = fine (value at t (typed.sequence a e))
last at a (object p t k place) = fine (value at t (typed.sequence a (typed.read t place)))
last at a (array p t place) = breaks code.LeftOutArrayValue p
last at a (reference p t place) = breaks code.LeftOutArrayValue p
last at a (nothing p e) = fine (nothing at (typed.sequence a e))
last at a (designator p) = breaks code.LeftOutArrayValue p

abbrev pub sequence : Pos → Checked → Checked → Verdict Checked
sequence at a b = both (effect a) (fine b) (last at)

abbrev pub operated : Pos → BinaryOp → Checked → Checked → Verdict Checked
operated at operator.Mul a b = arithmetic at op.Mul a b
operated at operator.Div a b = arithmetic at op.Div a b
operated at operator.Rem a b = arithmetic at op.Rem a b
operated at operator.Add a b = arithmetic at op.Add a b
operated at operator.Sub a b = arithmetic at op.Sub a b
operated at operator.ShiftLeft a b = arithmetic at op.Shl a b
operated at operator.ShiftRight a b = arithmetic at op.Shr a b
operated at operator.Less a b = arithmetic at op.Less a b
operated at operator.Greater a b = arithmetic at op.Greater a b
operated at operator.LessEqual a b = arithmetic at op.LessEqual a b
operated at operator.GreaterEqual a b = arithmetic at op.GreaterEqual a b
operated at operator.Equal a b = arithmetic at op.Equal a b
operated at operator.NotEqual a b = arithmetic at op.NotEqual a b
operated at operator.BitAnd a b = arithmetic at op.BitAnd a b
operated at operator.BitXor a b = arithmetic at op.BitXor a b
operated at operator.BitOr a b = arithmetic at op.BitOr a b
operated at operator.And a b = both (worth code.VoidOperand at a) (worth code.VoidOperand at b) (conjunction at)
operated at operator.Or a b = both (worth code.VoidOperand at a) (worth code.VoidOperand at b) (disjunction at)
operated at operator.Comma a b = sequence at a b

-- ---- 6.5.15: both arms are numbers, or both are void

pub record Arms : Type 0 where
  pub first : Checked
  pub second : Checked

abbrev pub arms : Checked → Checked → Verdict Arms
arms a b = fine (record { first = a; second = b })

abbrev pub common_type : Pos → Value → Worth → Worth → Verdict Checked
common_type at c a b = let t = usual_of a.type b.type in fine (value at t (typed.chosen (Some t) c a.e b.e))

abbrev pub choice : Pos → Value → Checked → Checked → Verdict Checked
choice at c (nothing p a) (nothing q b) = fine (nothing at (typed.chosen None c a b))
choice at c a b = both (worth code.UnmatchedArms at a) (worth code.UnmatchedArms at b) (common_type at c)

abbrev pub chosen_by : Pos → Worth → Arms → Verdict Checked
chosen_by at c ab = choice at c.e ab.first ab.second

-- ---- constants, sizes and names of types

pub record Constant : Type 0 where
  pub type : IntType
  pub v : ℤ

-- the place of an expression
abbrev pub position : Checked → Pos
position (value at t e) = at
position (object at t k p) = at
position (array at t p) = at
position (reference at t p) = at
position (nothing at e) = at
position (designator at) = at

-- 6.6p6: an integer constant expression has integer type
abbrev pub integer : Checked → Verdict Worth
integer x = worth code.NotConstantExpression (position x) x

abbrev pub constant_in : Worth → Verdict Constant
constant_in x = then_check (folded x.e) (λ v. fine (record { type = x.type; v = v }))

-- 6.7.6.2p1: a size is greater than zero
abbrev pub positive : Pos → ℤ → Verdict ℕ
positive at (pos zero) = breaks code.BadArrayType at
positive at (pos (suc n)) = fine (suc n)
positive at (negsuc n) = breaks code.BadArrayType at

abbrev pub size_in : Pos → Checked → Verdict ℕ
size_in at x = then_check (integer x) (λ w. then_check (constant_in w) (λ c. positive at c.v))

abbrev pub and_size : ℕ → List ℕ → Verdict (List ℕ)
and_size n ns = fine (n ∷ ns)

-- an array of void has elements of incomplete type (6.7.6.2p1)
abbrev pub void_type : Pos → List ℕ → Verdict (Option ObjectType)
void_type at [] = fine None
void_type at (n ∷ ns) = breaks code.BadArrayType at

abbrev pub with_lengths : Pos → IntType → Bool → List ℕ → Verdict (Option ObjectType)
with_lengths at t k ns = let type : ObjectType = record { element = t; constant = k; lengths = ns } in provided (too_large at type) (fine (Some type))

abbrev pub array_type : Pos → Option IntType → Bool → List ℕ → Verdict (Option ObjectType)
array_type at None k ns = void_type at ns
array_type at (Some t) k ns = with_lengths at t k ns

-- the type that is named, none for void (6.7.7)
abbrev pub type_of : Pos → BaseType → List ℕ → Verdict (Option ObjectType)
type_of at b ns = array_type at b.type b.constant ns

-- the place of a hole, which no list of tokens leaves
abbrev pub nowhere : Pos
nowhere = record { file = 0; line = 0 }

abbrev mutual
  pub typing : Scope → Tree → Verdict Checked
  typing s hole = breaks code.SyntaxError nowhere
  typing s (identifier at n) = named at (lookup s n)
  typing s (constant at t v) = fine (value at t (typed.constant t (converted t (pos v))))
  typing s (string at n) = literal_at s at (string_type (literal_of s n))
  typing s (paren e) = typing s e
  typing s (call at f args) = then_check (function_named s at f (lookup s f)) (λ g. then_check (arguments s at g.type.parameters args) (call_of at g))
  typing s (subscript at a i) = both (typing s a) (typing (past s a) i) (subscripted at)
  typing s (after at o a) = then_check (typing s a) (λ x. then_check (target at x) (step at typed.after o))
  typing s (before at o a) = then_check (typing s a) (λ x. then_check (target at x) (step at typed.before o))
  typing s (prefix at o a) = then_check (valued code.VoidOperand at (typing s a)) (signed_value at o)
  typing s (size_of at a) = then_check (typing s a) (measured at)
  typing s (size_of_type at t) = then_check (named_in s t) (type_measured at)
  typing s (cast at t a) = both (named_in s t) (typing (past_type s t) a) (cast_to at)
  typing s (binary at o a b) = both (typing s a) (typing (past s a) b) (operated at o)
  typing s (conditional at c a b) =
      both (valued code.VoidOperand at (typing s c)) (both (typing (past s c) a) (typing (past (past s c) a) b) arms) (chosen_by at)
  typing s (assign at o a b) = both (typing s a) (typing (past s a) b) (assignment at (assigning o))

  -- 6.5.2.2p2: as many arguments as parameters
  pub arguments : Scope → Pos → List ParameterType → Trees → Verdict Arguments
  arguments s at [] no_trees = fine typed.no_arguments
  arguments s at [] (one_more e es) = breaks code.ArgumentCount at
  arguments s at (p ∷ ps) no_trees = breaks code.ArgumentCount at
  arguments s at (p ∷ ps) (one_more e es) = both (typing s e) (arguments (past s e) at ps es) (argument at p)

  -- 6.7.7: none for void
  pub named_in : Scope → TypeTree → Verdict (Option ObjectType)
  named_in s (type_name at specifiers sizes) = both (base_type s at specifiers) (lengths_in s at sizes) (type_of at)

  -- 6.7.6.2p1: sizes are constant expressions
  pub lengths_in : Scope → Pos → Trees → Verdict (List ℕ)
  lengths_in s at no_trees = fine []
  lengths_in s at (one_more e es) =
      both (then_check (constant_form s e) (λ u. then_check (typing s e) (size_in at))) (lengths_in (past s e) at es) and_size

-- the type and value of a constant expression (6.6): forms that may not appear in one come first, then its other violations, then
-- the first operation evaluated that has no value
abbrev pub constant_value : Scope → Tree → Verdict Constant
constant_value s e = then_check (constant_form s e) (λ u. then_check (typing s e) (λ x. then_check (integer x) constant_in))
