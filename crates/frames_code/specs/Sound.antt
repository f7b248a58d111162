-- Which flat programs are sound: each instruction names only parts that its function has. The precondition of `select`.
use Rattle.std.specs.Prelude.{◌≡◌, ◌≤◌, ◌<◌, ◌&&◌, ◌==◌, nat_lt, Bool, true, ℕ, ◌+◌, ◌*◌, ◌-◌, ◌^◌, List, length, slice_get, sum_by, Some}
use Rattle.std.specs.Int.{w32, trailing_zeros}
use Rattle.frames_code.specs.declared.code.Operand.{Operand}
use Rattle.frames_code.specs.declared.code.Operand.TheVariants as operand
use Rattle.frames_code.specs.declared.code.Target.{Target}
use Rattle.frames_code.specs.declared.code.Target.TheVariants as target
use Rattle.frames_code.specs.declared.code.Base.{Base}
use Rattle.frames_code.specs.declared.code.Base.TheVariants as base
use Rattle.frames_code.specs.declared.code.Location.{Location}
use Rattle.frames_code.specs.declared.code.Location.TheVariants as location
use Rattle.frames_code.specs.declared.code.Instruction.{Instruction}
use Rattle.frames_code.specs.declared.code.Instruction.TheVariants as instruction
use Rattle.frames_code.specs.Code.{Function, Program, area_home, frame_bytes}

-- the most bytes of a frame, and of arguments from the ninth on: the size of the greatest stack
abbrev pub most_bytes : ℕ
most_bytes = 2 ^ 24

abbrev pub OperandFits : Function → Operand → Type 0
OperandFits f (operand.Temporary k) = k < 8 + f.outgoing
OperandFits f (operand.Cell c) = c < f.cells
OperandFits f (operand.Constant v) = v < 2 ^ 32
OperandFits f (operand.Argument k) = (8 ≤ k) × (4 * (k - 8) < most_bytes)

abbrev pub TargetFits : Function → Target → Type 0
TargetFits f (target.Temporary k) = k < 8 + f.outgoing
TargetFits f (target.Cell c) = c < f.cells

-- a power of two is that of the number of zeros that its digits end with
abbrev pub is_power_of_two : ℕ → Bool
is_power_of_two size = nat_lt (trailing_zeros w32 size) 32 && (2 ^ trailing_zeros w32 size == size)

-- within the reach of 12 bits, from gp and from sp
abbrev pub BaseFits : Function → Base → Type 0
BaseFits f (base.Statics o) = o < 0x1000
BaseFits f (base.Frame o) = (o < f.area) × (area_home f + o < 0x800)

abbrev pub IndexFits : Function → Operand → Type 0
IndexFits f (operand.Temporary k) = k < 8 + f.outgoing
IndexFits f (operand.Cell c) = c < f.cells
IndexFits f (operand.Constant v) = ⊥
IndexFits f (operand.Argument k) = ⊥

-- An offset in the statics is one that an item may name. For an access to be as cheap as one by a reference, an index is multiplied by a shift, and all words of the
-- frame are within the reach of 12 bits.
abbrev pub LocationFits : Function → Location → Type 0
LocationFits f (location.Statics o) = o < 0x10000000
LocationFits f (location.Frame o) = o < f.area
LocationFits f (location.At x) = OperandFits f x
LocationFits f (location.Indexed b y size) = BaseFits f b × IndexFits f y × (is_power_of_two size ≡ true) × (area_home f ≤ 0x800)

-- in function f of a program of n functions
abbrev pub InstructionFits : ℕ → Function → Instruction → Type 0
InstructionFits n f instruction.Nothing = Unit {0}
InstructionFits n f (instruction.Move d x) = TargetFits f d × OperandFits f x
InstructionFits n f (instruction.Compute o d x y) = TargetFits f d × OperandFits f x × OperandFits f y
InstructionFits n f (instruction.Convert c d x) = TargetFits f d × OperandFits f x
InstructionFits n f (instruction.Load w d l) = TargetFits f d × LocationFits f l
InstructionFits n f (instruction.Store w x l) = OperandFits f x × LocationFits f l
InstructionFits n f (instruction.Address d l) = TargetFits f d × LocationFits f l
InstructionFits n f (instruction.Element d x y size) = TargetFits f d × OperandFits f x × OperandFits f y × (size < 2 ^ 32)
InstructionFits n f (instruction.Jump to) = to < length f.code
InstructionFits n f (instruction.Branch t x y to) = OperandFits f x × OperandFits f y × (to < length f.code)
InstructionFits n f (instruction.Call g) = g < n
InstructionFits n f instruction.PutByte = Unit {0}
InstructionFits n f instruction.GetByte = Unit {0}
InstructionFits n f instruction.Exit = Unit {0}
InstructionFits n f instruction.Return = Unit {0}

-- in a program of n functions
pub record FunctionFits (n : ℕ) (f : Function) : Type 0 where
  pub small : frame_bytes f ≤ most_bytes
  pub few : f.resident ≤ 12
  pub all : f.resident ≤ f.cells
  pub each : (k : ℕ) (x : Instruction) → slice_get f.code k ≡ Some x → InstructionFits n f x

-- one for each instruction and one for each function's end
abbrev pub places_of : List Function → ℕ
places_of fs = sum_by (λ f. length f.code + 1) fs

-- main is one of its functions, each of them is sound, and there are fewer than 2^32 functions and instructions
pub record IsSoundProgram (p : Program) : Type 0 where
  pub has_main : p.main < length p.functions
  pub each : (k : ℕ) (f : Function) → slice_get p.functions k ≡ Some f → FunctionFits (length p.functions) f
  pub statics : length p.statics ≤ 0x10000000
  pub countable : length p.functions + places_of p.functions < 2 ^ 32
