-- The replacement of an instruction, by the facts known before it.
use Rattle.std.specs.Prelude.{ℕ, ◌+◌, ◌-◌, ◌*◌, ◌^◌, ◌==◌, ◌&&◌, nat_lt, not, Bool, true, false, if◌then◌else◌, List, Option, Some, None}
use Rattle.std.specs.Int.{w32, trailing_zeros}
use Rattle.rv32.specs.declared.instr.RegisterOp.{RegisterOp}
use Rattle.rv32.specs.declared.instr.RegisterOp.TheVariants as register_op
use Rattle.frames_code.specs.declared.code.Operand.{Operand}
use Rattle.frames_code.specs.declared.code.Operand.TheVariants as operand
use Rattle.frames_code.specs.declared.code.Target.{Target}
use Rattle.frames_code.specs.declared.code.Location.{Location}
use Rattle.frames_code.specs.declared.code.Location.TheVariants as location
use Rattle.frames_code.specs.declared.code.Operation.{Operation}
use Rattle.frames_code.specs.declared.code.Operation.TheVariants as operation
use Rattle.frames_code.specs.declared.code.Instruction.{Instruction}
use Rattle.frames_code.specs.declared.code.Instruction.TheVariants as instruction
use Rattle.frames_opt.specs.declared.facts.Known.{Known}
use Rattle.frames_opt.specs.declared.facts.Known.TheVariants as known
use Rattle.frames_opt.specs.inside.Facts.{known_of, is_target}

-- ---- operands, locations

abbrev pub constant_or : Operand → Known → Operand
constant_or x known.Unknown = x
constant_or x (known.Word w) = operand.Constant w
constant_or x (known.Statics o) = x
constant_or x (known.Frame o) = x
constant_or x (known.Indexed b y size) = x

abbrev pub simpler_operand : List Known → Operand → Operand
simpler_operand facts x = constant_or x (known_of facts x)

abbrev pub location_or : Operand → Known → Location
location_or x known.Unknown = location.At x
location_or x (known.Word w) = location.At x
location_or x (known.Statics o) = location.Statics o
location_or x (known.Frame o) = location.Frame o
location_or x (known.Indexed b y size) = location.Indexed b y size

abbrev pub simpler_location : List Known → Location → Location
simpler_location facts (location.Statics o) = location.Statics o
simpler_location facts (location.Frame o) = location.Frame o
simpler_location facts (location.At x) = location_or x (known_of facts x)
simpler_location facts (location.Indexed b y size) = location.Indexed b y size

-- a word that is moved onto itself stays there
abbrev pub carried : Target → Operand → Instruction
carried d x = if is_target d x then instruction.Nothing else instruction.Move d x

-- ---- operations

abbrev pub is_constant : Operand → Bool
is_constant (operand.Temporary k) = false
is_constant (operand.Cell c) = false
is_constant (operand.Constant v) = true
is_constant (operand.Argument k) = false

abbrev pub commutes_on_machine : RegisterOp → Bool
commutes_on_machine register_op.Add = true
commutes_on_machine register_op.Sub = false
commutes_on_machine register_op.ShiftLeft = false
commutes_on_machine register_op.Less = false
commutes_on_machine register_op.LessUnsigned = false
commutes_on_machine register_op.Xor = true
commutes_on_machine register_op.ShiftRight = false
commutes_on_machine register_op.ShiftRightArithmetic = false
commutes_on_machine register_op.Or = true
commutes_on_machine register_op.And = true
commutes_on_machine register_op.Mul = true
commutes_on_machine register_op.MulHigh = false
commutes_on_machine register_op.MulHighSignedUnsigned = false
commutes_on_machine register_op.MulHighUnsigned = false
commutes_on_machine register_op.Div = false
commutes_on_machine register_op.DivUnsigned = false
commutes_on_machine register_op.Rem = false
commutes_on_machine register_op.RemUnsigned = false

abbrev pub commutes : Operation → Bool
commutes (operation.Machine o) = commutes_on_machine o
commutes operation.Equal = false
commutes operation.NotEqual = false

abbrev pub with_constant : RegisterOp → Target → Operand → ℕ → Instruction
with_constant o d x v = instruction.Compute (operation.Machine o) d x (operand.Constant v)

-- the remainder by v, which is 2^k: an instruction has the mask in itself where it has at most 11 bits
abbrev pub low_bits : Target → Operand → (k v : ℕ) → Instruction
low_bits d x k v = if nat_lt k 12 then with_constant register_op.And d x (v - 1) else with_constant register_op.RemUnsigned d x v

-- an operation with v, which is 2^k: by a shift or a mask where there is one
abbrev pub with_power : RegisterOp → Target → Operand → (k v : ℕ) → Instruction
with_power register_op.Add d x k v = with_constant register_op.Add d x v
with_power register_op.Sub d x k v = with_constant register_op.Sub d x v
with_power register_op.ShiftLeft d x k v = with_constant register_op.ShiftLeft d x v
with_power register_op.Less d x k v = with_constant register_op.Less d x v
with_power register_op.LessUnsigned d x k v = with_constant register_op.LessUnsigned d x v
with_power register_op.Xor d x k v = with_constant register_op.Xor d x v
with_power register_op.ShiftRight d x k v = with_constant register_op.ShiftRight d x v
with_power register_op.ShiftRightArithmetic d x k v = with_constant register_op.ShiftRightArithmetic d x v
with_power register_op.Or d x k v = with_constant register_op.Or d x v
with_power register_op.And d x k v = with_constant register_op.And d x v
with_power register_op.Mul d x k v = with_constant register_op.ShiftLeft d x k
with_power register_op.MulHigh d x k v = with_constant register_op.MulHigh d x v
with_power register_op.MulHighSignedUnsigned d x k v = with_constant register_op.MulHighSignedUnsigned d x v
with_power register_op.MulHighUnsigned d x k v = with_constant register_op.MulHighUnsigned d x v
with_power register_op.Div d x k v = with_constant register_op.Div d x v
with_power register_op.DivUnsigned d x k v = with_constant register_op.ShiftRight d x k
with_power register_op.Rem d x k v = with_constant register_op.Rem d x v
with_power register_op.RemUnsigned d x k v = low_bits d x k v

-- a power of two is its number of zeros' power
abbrev pub is_power : ℕ → ℕ → Bool
is_power k v = nat_lt k 32 && (2 ^ k == v)

abbrev pub with_word : RegisterOp → Target → Operand → ℕ → Instruction
with_word o d x v = if is_power (trailing_zeros w32 v) v then with_power o d x (trailing_zeros w32 v) v else with_constant o d x v

abbrev pub on_machine : RegisterOp → Target → Operand → Operand → Instruction
on_machine o d x (operand.Temporary k) = instruction.Compute (operation.Machine o) d x (operand.Temporary k)
on_machine o d x (operand.Cell c) = instruction.Compute (operation.Machine o) d x (operand.Cell c)
on_machine o d x (operand.Constant v) = with_word o d x v
on_machine o d x (operand.Argument k) = instruction.Compute (operation.Machine o) d x (operand.Argument k)

abbrev pub arranged : Operation → Target → Operand → Operand → Instruction
arranged (operation.Machine o) d x y = on_machine o d x y
arranged operation.Equal d x y = instruction.Compute operation.Equal d x y
arranged operation.NotEqual d x y = instruction.Compute operation.NotEqual d x y

abbrev pub compute : Operation → Target → Operand → Operand → Instruction
compute o d x y = if is_constant x && (not (is_constant y) && commutes o) then arranged o d y x else arranged o d x y

-- ---- elements

abbrev pub within : (offset index size most : ℕ) → Option ℕ
within o n size most = if nat_lt (o + n * size) most then Some (o + n * size) else None

abbrev pub element : Target → Operand → Operand → ℕ → Instruction
element d x y size = instruction.Element d x y size

-- no number of elements further on is where the reference is
abbrev pub stepped : Target → Operand → ℕ → ℕ → Instruction
stepped d x n size = if n == 0 then carried d x else instruction.Element d x (operand.Constant n) size

abbrev pub statics_or : Option ℕ → Target → Operand → ℕ → ℕ → Instruction
statics_or (Some o) d x n size = instruction.Address d (location.Statics o)
statics_or None d x n size = stepped d x n size

abbrev pub frame_or : Option ℕ → Target → Operand → ℕ → ℕ → Instruction
frame_or (Some o) d x n size = instruction.Address d (location.Frame o)
frame_or None d x n size = stepped d x n size

abbrev pub numbered : ℕ → Known → Target → Operand → ℕ → ℕ → Instruction
numbered area known.Unknown d x n size = frame_or None d x n size
numbered area (known.Word w) d x n size = frame_or None d x n size
numbered area (known.Statics o) d x n size = statics_or (within o n size 0x10000000) d x n size
numbered area (known.Frame o) d x n size = frame_or (within o n size area) d x n size
numbered area (known.Indexed b y width) d x n size = frame_or None d x n size

abbrev pub simpler_element : ℕ → Known → Target → Operand → Operand → ℕ → Instruction
simpler_element area k d x (operand.Temporary j) size = element d x (operand.Temporary j) size
simpler_element area k d x (operand.Cell c) size = element d x (operand.Cell c) size
simpler_element area k d x (operand.Constant n) size = numbered area k d x n size
simpler_element area k d x (operand.Argument j) size = element d x (operand.Argument j) size

-- ---- instructions, in a function whose arrays have `area` bytes

abbrev pub simpler : ℕ → List Known → Instruction → Instruction
simpler area facts instruction.Nothing = instruction.Nothing
simpler area facts (instruction.Move d x) = carried d (simpler_operand facts x)
simpler area facts (instruction.Compute o d x y) = compute o d (simpler_operand facts x) (simpler_operand facts y)
simpler area facts (instruction.Convert c d x) = instruction.Convert c d x
simpler area facts (instruction.Load w d l) = instruction.Load w d (simpler_location facts l)
simpler area facts (instruction.Store w x l) = instruction.Store w (simpler_operand facts x) (simpler_location facts l)
simpler area facts (instruction.Address d l) = instruction.Address d (simpler_location facts l)
simpler area facts (instruction.Element d x y size) = simpler_element area (known_of facts x) d x (simpler_operand facts y) size
simpler area facts (instruction.Jump to) = instruction.Jump to
simpler area facts (instruction.Branch t x y to) = instruction.Branch t (simpler_operand facts x) (simpler_operand facts y) to
simpler area facts (instruction.Call f) = instruction.Call f
simpler area facts instruction.PutByte = instruction.PutByte
simpler area facts instruction.GetByte = instruction.GetByte
simpler area facts instruction.Exit = instruction.Exit
simpler area facts instruction.Return = instruction.Return
