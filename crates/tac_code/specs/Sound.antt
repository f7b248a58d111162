-- Which three-address programs are sound: each instruction names only existing things, and each of them has its place. The needs of the next step.
use Rattle.std.specs.Prelude.{◌≡◌, ◌≤◌, ◌<◌, ℕ, ◌+◌, ◌^◌, Bool, true, false, List, [], ◌∷◌, length, slice_get, sum_by, Some, None}
use Rattle.ctypes.specs.declared.types.IntType.{IntType}
use Rattle.typing_spec.specs.Types.{ObjectType, elements_in, size_of_object}
use Rattle.typing_spec.specs.Program.{Static}
use Rattle.typing_spec.specs.WellTyped.{values_fit}
use Rattle.tac_code.specs.declared.code.Operand.{Operand}
use Rattle.tac_code.specs.declared.code.Operand.TheVariants as operand
use Rattle.tac_code.specs.declared.code.Target.{Target}
use Rattle.tac_code.specs.declared.code.Target.TheVariants as target
use Rattle.tac_code.specs.declared.code.Place.{Place}
use Rattle.tac_code.specs.declared.code.Place.TheVariants as place
use Rattle.tac_code.specs.declared.code.Parameter.{Parameter}
use Rattle.tac_code.specs.declared.code.Parameter.TheVariants as parameter
use Rattle.tac_code.specs.declared.code.Instruction.{Instruction}
use Rattle.tac_code.specs.declared.code.Instruction.TheVariants as instruction
use Rattle.tac_code.specs.Code.{Function, Program, function_at, scalar_type}
use Rattle.typing_spec.specs.Units.{in_words}
use Rattle.tac_code.specs.Costs.{array_parameters, call_bytes}

-- object n is no array; it is one
abbrev pub IsScalar : Function → ℕ → Type 0
IsScalar f n = (t : IntType) × (scalar_type (slice_get f.objects n) ≡ Some t)

abbrev pub IsArray : Function → ℕ → Type 0
IsArray f n = (n < length f.objects) × (scalar_type (slice_get f.objects n) ≡ None)

-- it is an array of this type that has element i
abbrev pub HasElement : Function → ℕ → ℕ → IntType → Type 0
HasElement f n i t =
    (o : ObjectType) × (slice_get f.objects n ≡ Some o) × (scalar_type (Some o) ≡ None) × (i < elements_in o.lengths) × (t ≡ o.element)

-- it has bytes
abbrev pub IsDefined : Program → ℕ → Type 0
IsDefined p n = (o : Static) × (slice_get p.statics n ≡ Some o) × (o.defined ≡ true)

abbrev pub OperandFits : Function → Operand → Type 0
OperandFits f (operand.Temporary k) = k < f.temporaries
OperandFits f (operand.Kept k) = k < f.kept
OperandFits f (operand.Object n) = IsScalar f n
OperandFits f (operand.Parameter n) = n < array_parameters f.parameters
OperandFits f (operand.Constant v) = v < 2 ^ 32

abbrev pub TargetFits : Function → Target → Type 0
TargetFits f (target.Temporary k) = k < f.temporaries
TargetFits f (target.Kept k) = k < f.kept
TargetFits f (target.Object n) = IsScalar f n

abbrev pub PlaceFits : Program → Function → Place → Type 0
PlaceFits p f (place.Literal n) = n < length p.literals
PlaceFits p f (place.Static n) = IsDefined p n
PlaceFits p f (place.Array n) = IsArray f n
PlaceFits p f (place.Element n i t) = HasElement f n i t
PlaceFits p f (place.At x) = OperandFits f x

abbrev pub CallFits : Program → Function → ℕ → Type 0
CallFits p f g = (g < length p.functions) × (length (function_at p g).parameters ≤ f.temporaries) × (0 < f.temporaries)

abbrev pub InstructionFits : Program → Function → Instruction → Type 0
InstructionFits p f instruction.Nothing = Unit {0}
InstructionFits p f (instruction.Move d x) = TargetFits f d × OperandFits f x
InstructionFits p f (instruction.Compute o r d x y) = TargetFits f d × OperandFits f x × OperandFits f y
InstructionFits p f (instruction.Convert t d x) = TargetFits f d × OperandFits f x
InstructionFits p f (instruction.Load t d l) = TargetFits f d × PlaceFits p f l
InstructionFits p f (instruction.Store t x l) = OperandFits f x × PlaceFits p f l
InstructionFits p f (instruction.Address d l) = TargetFits f d × PlaceFits p f l
InstructionFits p f (instruction.Part d x y size) = TargetFits f d × OperandFits f x × OperandFits f y × (size < 2 ^ 32)
InstructionFits p f (instruction.Element t d x y) = TargetFits f d × OperandFits f x × OperandFits f y
InstructionFits p f (instruction.Forget n k) = n + k ≤ length f.objects
InstructionFits p f (instruction.Jump to) = to < length f.code
InstructionFits p f (instruction.Branch c r x y to) = OperandFits f x × OperandFits f y × (to < length f.code)
InstructionFits p f (instruction.Call g) = CallFits p f g
InstructionFits p f instruction.PutByte = 0 < f.temporaries
InstructionFits p f instruction.GetByte = 0 < f.temporaries
InstructionFits p f instruction.Exit = 0 < f.temporaries
InstructionFits p f instruction.Return = 0 < f.temporaries

-- the first objects are the parameters that are numbers
abbrev pub number_parameters : List Parameter → ℕ
number_parameters [] = 0
number_parameters (parameter.Number ∷ more) = number_parameters more + 1
number_parameters (parameter.Array ∷ more) = number_parameters more

-- a call fits the greatest stack, and no object is without bytes
pub record FunctionFits (p : Program) (f : Function) : Type 0 where
  pub small : call_bytes f ≤ 2 ^ 24
  pub parameters : (n : ℕ) → n < number_parameters f.parameters → IsScalar f n
  pub sized : (n : ℕ) (o : ObjectType) → slice_get f.objects n ≡ Some o → 0 < size_of_object o
  pub each : (k : ℕ) (x : Instruction) → slice_get f.code k ≡ Some x → InstructionFits p f x

-- the bytes of the string literals and of the objects with static storage, each rounded up to a multiple of 4
abbrev pub static_bytes : Bool → ℕ → ℕ
static_bytes true n = in_words n
static_bytes false n = 0

abbrev pub data_bytes : List (List ℕ) → List Static → ℕ
data_bytes literals statics =
    sum_by (λ text. in_words (length text)) literals + sum_by (λ o. static_bytes o.defined (size_of_object o.type)) statics

abbrev pub AreBytes : List ℕ → Type 0
AreBytes text = (k c : ℕ) → slice_get text k ≡ Some c → c < 2 ^ 8

-- main takes nothing; literals are bytes, and statics begin with values of their types
pub record IsSoundProgram (p : Program) : Type 0 where
  pub has_main : p.main < length p.functions
  pub main_takes_nothing : (function_at p p.main).parameters ≡ []
  pub each : (k : ℕ) (f : Function) → slice_get p.functions k ≡ Some f → FunctionFits p f
  pub literals : (n : ℕ) (text : List ℕ) → slice_get p.literals n ≡ Some text → AreBytes text
  pub statics : (n : ℕ) (o : Static) → slice_get p.statics n ≡ Some o → values_fit o.type.element o.values ≡ true
  pub small : data_bytes p.literals p.statics ≤ 2 ^ 24
  pub countable : length p.functions + sum_by (λ f. length f.code + (length f.parameters + 1)) p.functions < 2 ^ 32
