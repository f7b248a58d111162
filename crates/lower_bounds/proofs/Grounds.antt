-- The things that the instructions of a program's code may name.
use Rattle.std.proofs.Common.{◌≡◌, ℕ, ◌+◌, ◌<◌, ◌≤◌, ◌^◌, List, length, map, true, Some, None}
use Rattle.std.specs.Prelude.{slice_get}
use Rattle.srcset.specs.declared.refusal.Pos.{Pos}
use Rattle.ctypes.specs.declared.types.IntType.{IntType}
use Rattle.typing_spec.specs.Types.{ObjectType, elements_in}
use Rattle.typing_spec.specs.Program as typed
use Rattle.tac_code.specs.declared.code.Operand.{Operand}
use Rattle.tac_code.specs.declared.code.Operand.TheVariants as operand
use Rattle.tac_code.specs.declared.code.Target.{Target}
use Rattle.tac_code.specs.declared.code.Target.TheVariants as target
use Rattle.tac_code.specs.declared.code.Place.{Place as Spot}
use Rattle.tac_code.specs.declared.code.Place.TheVariants as place
use Rattle.tac_code.specs.declared.code.Instruction.{Instruction}
use Rattle.tac_code.specs.declared.code.Instruction.TheVariants as instruction
use Rattle.tac_code.specs.Code.{Program, function_at, scalar_type}
use Rattle.tac_code.specs.Costs.{array_parameters}
use Rattle.tac_code.specs.Lowered.{kind_of}
use Rattle.lower_wf.specs.Asked.{types_are_sized}
use Rattle.lower_correct.specs.Values.{Mode, Nowhere, To, If}
use Rattle.lower_correct.specs.Places.{size_of_place}

-- a function of a typed program, its code, the limit of its jumps, and the bounds of temporaries and slots: there are at least as many temporaries as registers
-- for them, which take no stack. The parameters of the other functions; that elements and rows have sizes that are words, where types are sized; that each
-- object has elements, and their number is a word
pub record Ground : Type 0 where
  pub source : typed.Program
  pub function : typed.Function
  pub made : Program
  pub code : List Instruction
  pub limit : ℕ
  pub bound : ℕ
  pub slots : ℕ
  pub fewer : slots ≤ bound
  pub registers : 8 ≤ bound
  pub callees : (n : ℕ) (g : typed.Function) → slice_get source.functions n ≡ Some g
      → (n < length made.functions) × (length (function_at made n).parameters ≡ length g.type.parameters)
  pub sized : (at : Pos) (array : typed.Place) (index : typed.Value) → types_are_sized source ≡ true
      → size_of_place source function (typed.element at array index) < 2 ^ 32
  pub filled : (n : ℕ) (o : ObjectType) → slice_get function.objects n ≡ Some o → (0 < elements_in o.lengths) × (elements_in o.lengths < 2 ^ 32)

module _ (z : Ground) where
  abbrev pub sizes : typed.Place → ℕ
  sizes = size_of_place z.source z.function

  -- object n is no array
  abbrev pub IsNumber : ℕ → Type 0
  IsNumber n = (t : IntType) × (scalar_type (slice_get z.function.objects n) ≡ Some t)

  -- it is an array of this type that has element i
  abbrev pub HasNumber : ℕ → ℕ → IntType → Type 0
  HasNumber n i t =
      (o : ObjectType) × (slice_get z.function.objects n ≡ Some o) × (scalar_type (Some o) ≡ None) × (i < elements_in o.lengths) × (t ≡ o.element)

  abbrev pub OperandFine : Operand → Type 0
  OperandFine (operand.Temporary j) = j < z.bound
  OperandFine (operand.Kept j) = j < z.slots
  OperandFine (operand.Object n) = IsNumber n
  OperandFine (operand.Parameter n) = n < array_parameters (map kind_of z.function.type.parameters)
  OperandFine (operand.Constant v) = v < 2 ^ 32

  abbrev pub TargetFine : Target → Type 0
  TargetFine (target.Temporary j) = j < z.bound
  TargetFine (target.Kept j) = j < z.slots
  TargetFine (target.Object n) = IsNumber n

  -- the condition on a place, given that on its operand
  abbrev pub SpotIs : (Operand → Type 0) → Spot → Type 0
  SpotIs P (place.Literal n) = n < length z.source.literals
  SpotIs P (place.Static n) = (o : typed.Static) × (slice_get z.source.statics n ≡ Some o) × (o.defined ≡ true)
  SpotIs P (place.Array n) = (n < length z.function.objects) × (scalar_type (slice_get z.function.objects n) ≡ None)
  SpotIs P (place.Element n i t) = HasNumber n i t
  SpotIs P (place.At o) = P o

  abbrev pub SpotFine : Spot → Type 0
  SpotFine a = SpotIs OperandFine a

  abbrev pub SizeFine : ℕ → Type 0
  SizeFine size = types_are_sized z.source ≡ true → size < 2 ^ 32

  abbrev pub Fine : Instruction → Type 0
  Fine instruction.Nothing = Unit {0}
  Fine (instruction.Move d x) = TargetFine d × OperandFine x
  Fine (instruction.Compute o r d x y) = TargetFine d × OperandFine x × OperandFine y
  Fine (instruction.Convert t d x) = TargetFine d × OperandFine x
  Fine (instruction.Load t d l) = TargetFine d × SpotFine l
  Fine (instruction.Store t x l) = OperandFine x × SpotFine l
  Fine (instruction.Address d l) = TargetFine d × SpotFine l
  Fine (instruction.Part d x y size) = TargetFine d × OperandFine x × OperandFine y × SizeFine size
  Fine (instruction.Element t d x y) = TargetFine d × OperandFine x × OperandFine y
  Fine (instruction.Forget n k) = n + k ≤ length z.function.objects
  Fine (instruction.Jump to) = to ≤ z.limit
  Fine (instruction.Branch c r x y to) = OperandFine x × OperandFine y × (to ≤ z.limit)
  Fine (instruction.Call g) = (g < length z.made.functions) × (length (function_at z.made g).parameters ≤ z.bound)
  Fine instruction.PutByte = Unit {0}
  Fine instruction.GetByte = Unit {0}
  Fine instruction.Exit = Unit {0}
  Fine instruction.Return = Unit {0}

  -- ---- operands and targets where t and k are the first temporary and slot that are free

  abbrev pub Stays : Operand → ℕ → ℕ → Type 0
  Stays (operand.Temporary j) t k = j ≤ t
  Stays (operand.Kept j) t k = j ≤ k
  Stays (operand.Object n) t k = IsNumber n
  Stays (operand.Parameter n) t k = n < array_parameters (map kind_of z.function.type.parameters)
  Stays (operand.Constant v) t k = v < 2 ^ 32

  abbrev pub StaysAt : Spot → ℕ → ℕ → Type 0
  StaysAt a t k = SpotIs (λ o. Stays o t k) a

  abbrev pub Lands : Target → ℕ → ℕ → Type 0
  Lands (target.Temporary j) t k = j ≤ t
  Lands (target.Kept j) t k = j ≤ k
  Lands (target.Object n) t k = IsNumber n

  abbrev pub ModeLands : Mode → ℕ → ℕ → Type 0
  ModeLands Nowhere t k = Unit {0}
  ModeLands (To g) t k = Lands g t k
  ModeLands (If sense to) t k = Unit {0}

  -- where it jumps
  abbrev pub ModeAims : Mode → Type 0
  ModeAims Nowhere = Unit {0}
  ModeAims (To g) = Unit {0}
  ModeAims (If sense to) = to ≤ z.limit

  -- and that it ends before the limit
  abbrev pub Aims : Mode → ℕ → Type 0
  Aims m pc2 = (pc2 ≤ z.limit) × ModeAims m
