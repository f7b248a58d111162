-- The first objects, instructions and functions, and the other results of each test.
use Rattle.std.specs.Prelude.{◌≡◌, ◌<◌, ℕ, ◌+◌, ◌^◌, Bool, true, false, List, length, slice_get, sum_by, Option, None, Some}
use Rattle.ctypes.specs.declared.types.IntType.{IntType}
use Rattle.ctypes.specs.declared.types.IntType.TheVariants as ty
use Rattle.typing_spec.specs.Types.{ObjectType, elements_in, size_of_object}
use Rattle.typing_spec.specs.Program.{Static}
use Rattle.typing_spec.specs.WellTyped.{values_fit}
use Rattle.tac_code.specs.declared.code.Instruction.{Instruction}
use Rattle.tac_code.specs.Code.{Function, Program, function_at, scalar_type}
use Rattle.tac_code.specs.Sound.{IsScalar, AreBytes, InstructionFits, FunctionFits}

pub record AreSized (os : List ObjectType) (count : ℕ) : Type 0 where
  pub each : (k : ℕ) (o : ObjectType) → k < count → slice_get os k ≡ Some o → 0 < size_of_object o

pub record BytesFit (text : List ℕ) (count : ℕ) : Type 0 where
  pub each : (k c : ℕ) → k < count → slice_get text k ≡ Some c → c < 2 ^ 8

pub record LiteralsFit (texts : List (List ℕ)) (count : ℕ) : Type 0 where
  pub each : (k : ℕ) (text : List ℕ) → k < count → slice_get texts k ≡ Some text → AreBytes text

pub record ValuesFit (os : List Static) (count : ℕ) : Type 0 where
  pub each : (k : ℕ) (o : Static) → k < count → slice_get os k ≡ Some o → values_fit o.type.element o.values ≡ true

pub record AreScalars (f : Function) (count : ℕ) : Type 0 where
  pub each : (k : ℕ) → k < count → IsScalar f k

pub record CodeFits (p : Program) (f : Function) (count : ℕ) : Type 0 where
  pub each : (k : ℕ) (x : Instruction) → k < count → slice_get f.code k ≡ Some x → InstructionFits p f x

pub record FunctionsFit (p : Program) (fs : List Function) (count : ℕ) : Type 0 where
  pub each : (k : ℕ) (f : Function) → k < count → slice_get fs k ≡ Some f → FunctionFits p f

abbrev pub element_in : Option ObjectType → IntType
element_in None = ty.Int
element_in (Some o) = o.element

abbrev pub IsOneElement : Option ObjectType → Type 0
IsOneElement o = scalar_type o ≡ Some (element_in o)

abbrev pub IsElement : Option ObjectType → ℕ → IntType → Type 0
IsElement None i t = ⊥
IsElement (Some o) i t = (scalar_type (Some o) ≡ None) × (i < elements_in o.lengths) × (t ≡ o.element)

abbrev pub defined_in : Option Static → Bool
defined_in None = false
defined_in (Some o) = o.defined

abbrev pub MainFits : Program → Type 0
MainFits p = (p.main < length p.functions) × (length (function_at p p.main).parameters ≡ 0)

abbrev pub places_of : List Function → ℕ
places_of fs = sum_by (λ f. length f.code + (length f.parameters + 1)) fs
