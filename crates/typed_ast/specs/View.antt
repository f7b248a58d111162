-- The typed program that the code's values hold, apart from boxes and vectors.
use Rattle.std.specs.Prelude.{List, [], ◌∷◌, map, Option, Some, None}
use Rattle.ctypes.specs.declared.types.IntType.{IntType}
use Rattle.typed_ast.specs.declared.types.ObjectType.{ObjectType}
use Rattle.typed_ast.specs.declared.types.DeclaredType.{DeclaredType}
use Rattle.typed_ast.specs.declared.types.DeclaredType.TheVariants.{Complete, UnknownSize}
use Rattle.typed_ast.specs.declared.types.ParameterType.{ParameterType}
use Rattle.typed_ast.specs.declared.types.ParameterType.TheVariants.{Number, Elements}
use Rattle.typed_ast.specs.declared.types.FunctionType.{FunctionType}
use Rattle.typed_ast.specs.declared.storage_places.Storage.{Storage}
use Rattle.typed_ast.specs.declared.storage_places.Storage.TheVariants.{Literal, Static, Automatic, Parameter}
use Rattle.typed_ast.specs.declared.storage_places.Callee.{Callee}
use Rattle.typed_ast.specs.declared.storage_places.Callee.TheVariants as callee
use Rattle.typed_ast.specs.declared.storage_places.Moment.{Moment}
use Rattle.typed_ast.specs.declared.storage_places.Moment.TheVariants.{After, Before}
use Rattle.typed_ast.specs.declared.expressions.Value.{Value, fold-Value}
use Rattle.typed_ast.specs.declared.expressions.Place.{Place, fold-Place}
use Rattle.typed_ast.specs.declared.expressions.Argument.{Argument, fold-Argument}
use Rattle.typed_ast.specs.declared.expressions.Argument.TheOpen.{Value-F, Place-F, Argument-F}
use Rattle.typed_ast.specs.declared.initialisers.Initialiser.{Initialiser, fold-Initialiser}
use Rattle.typed_ast.specs.declared.initialisers.Initialiser.TheOpen.{Initialiser-F}
use Rattle.typed_ast.specs.declared.statements.Statement.{Statement, fold-Statement}
use Rattle.typed_ast.specs.declared.statements.Statement.TheOpen.{Statement-F}
use Rattle.typed_ast.specs.declared.units.Function.{Function}
use Rattle.typed_ast.specs.declared.units.Static as held
use Rattle.typed_ast.specs.declared.units.Program.{Program}
use Rattle.typing_spec.specs.Types as type
use Rattle.typing_spec.specs.Program as typed

-- ---- types (6.2.5)

abbrev pub object_type_of : ObjectType → type.ObjectType
object_type_of t = record { element = t.element; constant = t.constant; lengths = t.lengths.items }

abbrev pub declared_type_of : DeclaredType → type.DeclaredType
declared_type_of (Complete t) = type.complete (object_type_of t)
declared_type_of (UnknownSize t) = type.unknown_size (object_type_of t)

abbrev pub parameter_type_of : ParameterType → type.ParameterType
parameter_type_of (Number t) = type.number t
parameter_type_of (Elements t) = type.elements (object_type_of t)

abbrev pub function_type_of : FunctionType → type.FunctionType
function_type_of f = record { result = f.result; constant = f.constant; parameters = map parameter_type_of f.parameters.items }

-- ---- expressions (6.5)

abbrev pub storage_of : Storage → typed.Storage
storage_of (Literal n) = typed.literal n
storage_of (Static n) = typed.static n
storage_of (Automatic n) = typed.automatic n
storage_of (Parameter n) = typed.parameter n

abbrev pub callee_of : Callee → typed.Callee
callee_of (callee.Function f) = typed.function f
callee_of callee.GetByte = typed.get_byte
callee_of callee.PutByte = typed.put_byte
callee_of callee.Exit = typed.exit
callee_of (callee.Missing name) = typed.missing name

abbrev pub moment_of : Moment → typed.Moment
moment_of After = typed.after
moment_of Before = typed.before

-- one argument of a call
pub data Given : Type 0 where
  number_given : (ty : IntType) (e : typed.Value) → Given
  array_given : (p : typed.Place) → Given

abbrev pub and_given : Given → typed.Arguments → typed.Arguments
and_given (number_given ty e) more = typed.and_number ty e more
and_given (array_given p) more = typed.and_array p more

abbrev pub arguments_of : List Given → typed.Arguments
arguments_of [] = typed.no_arguments
arguments_of (a ∷ rest) = and_given a (arguments_of rest)

-- one level, with each part already converted
abbrev pub argument_step : Argument-F Given typed.Place typed.Value → Given
argument_step (Argument-F.Number ty e) = number_given ty e
argument_step (Argument-F.Array p) = array_given p

abbrev pub place_step : Place-F Given typed.Place typed.Value → typed.Place
place_step (Place-F.Named at what) = typed.named at (storage_of what)
place_step (Place-F.Element at array index) = typed.element at array.value index.value

abbrev pub value_step : Value-F Given typed.Place typed.Value → typed.Value
value_step (Value-F.Constant ty v) = typed.constant ty v
value_step (Value-F.Read ty p) = typed.read ty p.value
value_step (Value-F.Assigned at ty p e) = typed.assigned at ty p.value e.value
value_step (Value-F.Compound at op ty of p e) = typed.compound at op ty of p.value e.value
value_step (Value-F.Stepped at m op ty of p) = typed.stepped at (moment_of m) op ty of p.value
value_step (Value-F.Unary at op ty e) = typed.unary at op ty e.value
value_step (Value-F.Binary at op ty a b) = typed.binary at op ty a.value b.value
value_step (Value-F.BothTrue a b) = typed.both_true a.value b.value
value_step (Value-F.OneTrue a b) = typed.one_true a.value b.value
value_step (Value-F.Chosen ty c a b) = typed.chosen ty c.value a.value b.value
value_step (Value-F.Sequence a b) = typed.sequence a.value b.value
value_step (Value-F.Cast ty e) = typed.cast ty e.value
value_step (Value-F.Discarded e) = typed.discarded e.value
value_step (Value-F.Call at f result used arguments) = typed.call at (callee_of f) result used (arguments_of arguments.items)

abbrev pub value_of : Value → typed.Value
value_of = fold-Value Given typed.Place typed.Value argument_step place_step value_step

abbrev pub place_of : Place → typed.Place
place_of = fold-Place Given typed.Place typed.Value argument_step place_step value_step

abbrev pub argument_of : Argument → Given
argument_of = fold-Argument Given typed.Place typed.Value argument_step place_step value_step

abbrev pub option_value : Option Value → Option typed.Value
option_value None = None
option_value (Some e) = Some (value_of e)

-- ---- initialisers (6.7.9)

abbrev pub initialisers_of : List typed.Initialiser → typed.Initialisers
initialisers_of [] = typed.no_initialisers
initialisers_of (i ∷ is) = typed.and_initialiser i (initialisers_of is)

abbrev pub initialiser_step : Initialiser-F typed.Initialiser → typed.Initialiser
initialiser_step (Initialiser-F.One ty e) = typed.one_value ty (value_of e)
initialiser_step (Initialiser-F.Text n) = typed.text n
initialiser_step (Initialiser-F.InBraces i) = typed.in_braces i.value
initialiser_step (Initialiser-F.List all) = typed.list (initialisers_of all.items)

abbrev pub initialiser_of : Initialiser → typed.Initialiser
initialiser_of = fold-Initialiser typed.Initialiser initialiser_step

-- ---- statements (6.8)

abbrev pub statements_of : List typed.Statement → typed.Statements
statements_of [] = typed.no_statements
statements_of (s ∷ ss) = typed.and_statement s (statements_of ss)

abbrev pub statement_step : Statement-F typed.Statement → typed.Statement
statement_step (Statement-F.Empty at) = typed.empty
statement_step (Statement-F.Evaluate at e) = typed.evaluate (value_of e)
statement_step (Statement-F.Declare at n) = typed.declare n
statement_step (Statement-F.Define at n i) = typed.define n (initialiser_of i)
statement_step (Statement-F.Block at first count all) = typed.block first count (statements_of all.items)
statement_step (Statement-F.If at e a) = typed.branch (value_of e) a.value
statement_step (Statement-F.IfElse at e a b) = typed.branches (value_of e) a.value b.value
statement_step (Statement-F.Switch at ty e first count all) = typed.switch ty (value_of e) first count (statements_of all.items)
statement_step (Statement-F.Case at v) = typed.case v
statement_step (Statement-F.Default at) = typed.default
statement_step (Statement-F.While at e a) = typed.while (value_of e) a.value
statement_step (Statement-F.DoWhile at a e) = typed.do_while a.value (value_of e)
statement_step (Statement-F.For at declared control a) =
    typed.for (statements_of declared.items) (option_value control.value.start) (option_value control.value.test) (option_value control.value.step) a.value
statement_step (Statement-F.Break at) = typed.break
statement_step (Statement-F.Continue at) = typed.continue
statement_step (Statement-F.ReturnNothing at) = typed.return_nothing
statement_step (Statement-F.ReturnValue at ty e) = typed.return_value ty (value_of e)

abbrev pub statement_of : Statement → typed.Statement
statement_of = fold-Statement typed.Statement statement_step

-- ---- units (6.9)

abbrev pub function_of : Function → typed.Function
function_of f = record {
  name = f.name;
  type = function_type_of f.function_type;
  objects = map object_type_of f.objects.items;
  body = statement_of f.body;
  nodes = f.nodes;
  weight = f.weight;
}

abbrev pub static_of : held.Static → typed.Static
static_of s = record { type = object_type_of s.object_type; defined = s.defined; values = s.values.items }

abbrev pub program_of : Program → typed.Program
program_of p = record {
  literals = map (λ text. text.items) p.literals.items;
  statics = map static_of p.statics.items;
  functions = map function_of p.functions.items;
  main = p.main;
}
