-- What is shown of parts of calls and of assignments.
use Rattle.std.specs.Prelude.{◌≡◌, ◌≤◌, false, slice_get, ℕ, List, [], ◌∷◌, ◌++◌, map, drop, length, Option, None, Some, Bool, true}
use Rattle.srcset.specs.declared.refusal.Pos.{Pos}
use Rattle.ctypes.specs.declared.types.IntType.{IntType}
use Rattle.typing_spec.specs.Types.{ObjectType}
use Rattle.typing_spec.specs.Program as typed
use Rattle.typed_ast.specs.declared.expressions.Argument.{Argument}
use Rattle.typed_ast.specs.View.{Given, argument_of, arguments_of, and_given}
use Rattle.verify_logic.specs.declared.abstract_values.Interval.{Interval}
use Rattle.verify_logic.specs.declared.abstract_values.AbsValue.{AbsValue}
use Rattle.verify_logic.specs.declared.abstract_values.ArrayArgument.{ArrayArgument}
use Rattle.verify_logic.specs.declared.abstract_values.Fact.{Fact}
use Rattle.verify_logic.specs.States.{Known, Summary, Frame, Entails, KnownEntails, shape_of, shapes_of}
use Rattle.verify_logic.specs.Calls.{CallValue, Cuts}
use Rattle.verify_logic.specs.Judgements.{Evaluates}
use Rattle.verify_logic.specs.Places.{Passes}
use Rattle.ctypes.specs.declared.operators.BinOp.{BinOp}
use Rattle.verify_logic.specs.declared.operands.Operand.{Operand}
use Rattle.verify_logic.specs.Relations.{Learns}

-- these arguments are numbers in the intervals and these arrays
abbrev pub PassesAll : Frame → List Argument → Option Known → List Interval → List ArrayArgument → Option Known → Type 0
PassesAll fr arguments before is ps after = Passes fr (arguments_of (map argument_of arguments)) before is ps after

-- this argument, before others, is such numbers and arrays
pub record PassesOne (fr : Frame) (given : Given) (before : Option Known) (is : List Interval) (ps : List ArrayArgument) (after : Option Known) : Type 0 where
  pub passes : (more : typed.Arguments) (js : List Interval) (qs : List ArrayArgument) (o : Option Known) → Passes fr more after js qs o → Passes fr (and_given given more) before (is ++ js) (ps ++ qs) o

-- the fact about an element of another object
abbrev pub Apart : Fact → ℕ → Type 0
Apart f x = f.object ≡ x → ⊥

-- the lengths of an object of one element
abbrev pub OneElement : List ℕ → Type 0
OneElement [] = Unit {0}
OneElement (n ∷ lengths) = (n ≡ 1) × OneElement lengths

-- this number of subscripts leads to an element, and not of a string literal
pub record VariableAt (fr : Frame) (x depth : ℕ) : Type 0 where
  pub element : drop depth (shape_of fr x) ≡ []
  pub above : length fr.program.literals ≤ x

-- a call of function f with numbers in these intervals and these arrays has a value in the interval
pub record CallsAt (fr : Frame) (at : Pos) (f : ℕ) (used : Bool) (is : List Interval) (ps : List ArrayArgument) (before : Option Known) (i : Interval) (after : Option Known) : Type 0 where
  pub gives : (t : Option IntType) (arguments : typed.Arguments) (o : Option Known) → Passes fr arguments o is ps before → Evaluates fr (typed.call at (typed.function f) t used arguments) o i after

-- ---- calls by summaries

-- a scalar parameter with such a numeric argument
abbrev pub Gets : Interval → ObjectType → AbsValue → Type 0
Gets i t k = (t.lengths ≡ []) × Entails (record { initialised = true; interval = i }) k

abbrev pub Enters : Option Interval → ObjectType → AbsValue → Type 0
Enters None t k = k.initialised ≡ false
Enters (Some i) t k = Gets i t k

-- object n of a call with these numeric arguments
abbrev pub EntersAt : List Interval → ℕ → ObjectType → AbsValue → Type 0
EntersAt is n t k = Enters (slice_get is n) t k

-- the summary is of function f, called from this frame with these arrays and objects
pub record Fits (fr : Frame) (f : ℕ) (ps : List ArrayArgument) (entry : Known) (a : Summary) : Type 0 where
  pub function : a.function ≡ f
  pub outer : a.outer ≡ shapes_of fr
  pub arrays : a.arrays ≡ ps
  pub entry_is : KnownEntails entry a.entry

-- the results of such a call by a summary
pub record Summarised (fr : Frame) (at : Pos) (f : ℕ) (used : Bool) (ps : List ArrayArgument) (entry : Known) (i : Interval) (after : Option Known) : Type 0 where
  pub number : ℕ
  pub summary : Summary
  pub there : slice_get fr.summaries number ≡ Some summary
  pub fits : Fits fr f ps entry summary
  pub value : CallValue fr at used summary.value i
  pub left : Cuts (length (shapes_of fr)) summary.left after

-- ---- comparisons

-- the states if a comparison is true, and if it is false
abbrev pub LearnsBoth : BinOp → Operand → Interval → Operand → Interval → (o on off : Option Known) → Type 0
LearnsBoth op x i y j o on off = Learns op true x i y j o on × Learns op false x i y j o off
