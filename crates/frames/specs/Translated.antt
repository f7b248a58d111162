-- The flat code of three-address code: one instruction for each, after a move of each parameter into its place.
use Rattle.std.specs.Prelude.{ℕ, ◌+◌, ◌-◌, ◌*◌, nat_lt, min, if◌then◌else◌, List, [], ◌∷◌, ◌++◌, map, is_some, slice_get}
use Rattle.ctypes.specs.declared.types.IntType.{IntType}
use Rattle.ctypes.specs.declared.types.IntType.TheVariants as ty
use Rattle.ctypes.specs.Types.{bytes_of}
use Rattle.rv32.specs.declared.instr.RegisterOp.{RegisterOp}
use Rattle.rv32.specs.declared.instr.RegisterOp.TheVariants as register_op
use Rattle.rv32.specs.declared.instr.Test.{Test}
use Rattle.rv32.specs.declared.instr.Test.TheVariants as test
use Rattle.tac_code.specs.declared.code.Operand.{Operand}
use Rattle.tac_code.specs.declared.code.Operand.TheVariants as operand
use Rattle.tac_code.specs.declared.code.Target.{Target}
use Rattle.tac_code.specs.declared.code.Target.TheVariants as target
use Rattle.tac_code.specs.declared.code.Place.{Place}
use Rattle.tac_code.specs.declared.code.Place.TheVariants as place
use Rattle.tac_code.specs.declared.code.Reading.{Reading}
use Rattle.tac_code.specs.declared.code.Reading.TheVariants as reading
use Rattle.tac_code.specs.declared.code.Operation.{Operation}
use Rattle.tac_code.specs.declared.code.Operation.TheVariants as operation
use Rattle.tac_code.specs.declared.code.Comparison.{Comparison}
use Rattle.tac_code.specs.declared.code.Comparison.TheVariants as comparison
use Rattle.tac_code.specs.declared.code.Parameter.{Parameter}
use Rattle.tac_code.specs.declared.code.Parameter.TheVariants as parameter
use Rattle.tac_code.specs.declared.code.Instruction.{Instruction}
use Rattle.tac_code.specs.declared.code.Instruction.TheVariants as instruction
use Rattle.tac_code.specs.Code as tac
use Rattle.frames_code.specs.declared.code.Operand as flat_operand
use Rattle.frames_code.specs.declared.code.Operand.TheVariants as source
use Rattle.frames_code.specs.declared.code.Target as flat_target
use Rattle.frames_code.specs.declared.code.Target.TheVariants as into
use Rattle.frames_code.specs.declared.code.Width.{Width}
use Rattle.frames_code.specs.declared.code.Width.TheVariants as width
use Rattle.frames_code.specs.declared.code.Location.{Location}
use Rattle.frames_code.specs.declared.code.Location.TheVariants as location
use Rattle.frames_code.specs.declared.code.Operation as flat_operation
use Rattle.frames_code.specs.declared.code.Operation.TheVariants as machine
use Rattle.frames_code.specs.declared.code.Conversion.{Conversion}
use Rattle.frames_code.specs.declared.code.Conversion.TheVariants as conversion
use Rattle.frames_code.specs.declared.code.Instruction as flat_instruction
use Rattle.frames_code.specs.declared.code.Instruction.TheVariants as flat
use Rattle.frames_code.specs.Code as frames
use Rattle.frames.specs.Data.{data_of}
use Rattle.frames.specs.Layout.{Layout, layout_of, cells_of, bytes_in, cell_in, offset_in, Starts, starts_of, start_in}

-- ---- operands, targets, places

abbrev pub operand_of : Layout → Operand → flat_operand.Operand
operand_of l (operand.Temporary k) = source.Temporary k
operand_of l (operand.Kept k) = source.Cell (l.slots + k)
operand_of l (operand.Object n) = source.Cell (cell_in (slice_get l.homes n))
operand_of l (operand.Parameter n) = source.Cell (l.references + n)
operand_of l (operand.Constant v) = source.Constant v

abbrev pub target_of : Layout → Target → flat_target.Target
target_of l (target.Temporary k) = into.Temporary k
target_of l (target.Kept k) = into.Cell (l.slots + k)
target_of l (target.Object n) = into.Cell (cell_in (slice_get l.homes n))

abbrev pub location_of : Starts → Layout → Place → Location
location_of s l (place.Literal n) = location.Statics (start_in (slice_get s.literals n))
location_of s l (place.Static n) = location.Statics (start_in (slice_get s.statics n))
location_of s l (place.Array n) = location.Frame (offset_in (slice_get l.homes n))
location_of s l (place.Element n i t) = location.Frame (offset_in (slice_get l.homes n) + i * bytes_of t)
location_of s l (place.At x) = location.At (operand_of l x)

-- ---- operations (ISO/IEC 9899:2011 6.5.5 to 6.5.12)

-- the operation of the machine for words with a sign, and for words without
abbrev pub by_sign : Reading → (signed unsigned : RegisterOp) → RegisterOp
by_sign reading.Signed a b = a
by_sign reading.Unsigned a b = b

abbrev pub on_machine : RegisterOp → flat_operation.Operation
on_machine o = machine.Machine o

abbrev pub operation_of : Operation → Reading → flat_operation.Operation
operation_of operation.Multiply r = on_machine register_op.Mul
operation_of operation.Divide r = on_machine (by_sign r register_op.Div register_op.DivUnsigned)
operation_of operation.Remainder r = on_machine (by_sign r register_op.Rem register_op.RemUnsigned)
operation_of operation.Add r = on_machine register_op.Add
operation_of operation.Subtract r = on_machine register_op.Sub
operation_of operation.ShiftLeft r = on_machine register_op.ShiftLeft
operation_of operation.ShiftRight r = on_machine (by_sign r register_op.ShiftRightArithmetic register_op.ShiftRight)
operation_of operation.And r = on_machine register_op.And
operation_of operation.ExclusiveOr r = on_machine register_op.Xor
operation_of operation.Or r = on_machine register_op.Or
operation_of operation.Less r = on_machine (by_sign r register_op.Less register_op.LessUnsigned)
operation_of operation.Equal r = machine.Equal
operation_of operation.NotEqual r = machine.NotEqual

abbrev pub test_by_sign : Reading → (signed unsigned : Test) → Test
test_by_sign reading.Signed a b = a
test_by_sign reading.Unsigned a b = b

abbrev pub test_of : Comparison → Reading → Test
test_of comparison.Equal r = test.Equal
test_of comparison.NotEqual r = test.NotEqual
test_of comparison.Less r = test_by_sign r test.Less test.LessUnsigned
test_of comparison.GreaterEqual r = test_by_sign r test.GreaterEqual test.GreaterEqualUnsigned

abbrev pub convert : Conversion → flat_target.Target → flat_operand.Operand → flat_instruction.Instruction
convert c d x = flat.Convert c d x

-- a conversion (6.3.1.2, 6.3.1.3): a word represents every number of 32 bits, with and without sign
abbrev pub conversion_of : IntType → flat_target.Target → flat_operand.Operand → flat_instruction.Instruction
conversion_of ty.Bool d x = convert conversion.ToTruth d x
conversion_of ty.Char d x = convert conversion.ToByte d x
conversion_of ty.SChar d x = convert conversion.ToSignedByte d x
conversion_of ty.UChar d x = convert conversion.ToByte d x
conversion_of ty.Short d x = convert conversion.ToSignedHalf d x
conversion_of ty.UShort d x = convert conversion.ToHalf d x
conversion_of ty.Int d x = flat.Move d x
conversion_of ty.UInt d x = flat.Move d x
conversion_of ty.Long d x = flat.Move d x
conversion_of ty.ULong d x = flat.Move d x

-- how an element of a type lies in memory (6.2.6.1)
abbrev pub width_of : IntType → Width
width_of ty.Bool = width.Byte
width_of ty.Char = width.Byte
width_of ty.SChar = width.SignedByte
width_of ty.UChar = width.Byte
width_of ty.Short = width.SignedHalf
width_of ty.UShort = width.Half
width_of ty.Int = width.Word
width_of ty.UInt = width.Word
width_of ty.Long = width.Word
width_of ty.ULong = width.Word

-- ---- instructions

abbrev pub translated : Starts → Layout → Instruction → flat_instruction.Instruction
translated s l instruction.Nothing = flat.Nothing
translated s l (instruction.Move d x) = flat.Move (target_of l d) (operand_of l x)
translated s l (instruction.Compute o r d x y) = flat.Compute (operation_of o r) (target_of l d) (operand_of l x) (operand_of l y)
translated s l (instruction.Convert t d x) = conversion_of t (target_of l d) (operand_of l x)
translated s l (instruction.Load t d from) = flat.Load (width_of t) (target_of l d) (location_of s l from)
translated s l (instruction.Store t x to) = flat.Store (width_of t) (operand_of l x) (location_of s l to)
translated s l (instruction.Address d of) = flat.Address (target_of l d) (location_of s l of)
translated s l (instruction.Part d x y size) = flat.Element (target_of l d) (operand_of l x) (operand_of l y) size
translated s l (instruction.Element t d x y) = flat.Element (target_of l d) (operand_of l x) (operand_of l y) (bytes_of t)
translated s l (instruction.Forget n k) = flat.Nothing
translated s l (instruction.Jump to) = flat.Jump (l.first + to)
translated s l (instruction.Branch c r x y to) = flat.Branch (test_of c r) (operand_of l x) (operand_of l y) (l.first + to)
translated s l (instruction.Call f) = flat.Call f
translated s l instruction.PutByte = flat.PutByte
translated s l instruction.GetByte = flat.GetByte
translated s l instruction.Exit = flat.Exit
translated s l instruction.Return = flat.Return

-- argument k, which the caller leaves in temporary k; from the ninth on it lies in the caller's frame
abbrev pub argument : ℕ → flat_operand.Operand
argument k = if nat_lt k 8 then source.Temporary k else source.Argument k

-- the parameters, the first of which are argument k, object n and reference m
abbrev pub moves_from : Layout → (k n m : ℕ) → List Parameter → List flat_instruction.Instruction
moves_from l k n m [] = []
moves_from l k n m (parameter.Number ∷ more) =
    flat.Move (into.Cell (cell_in (slice_get l.homes n))) (argument k) ∷ moves_from l (k + 1) (n + 1) m more
moves_from l k n m (parameter.Array ∷ more) =
    flat.Move (into.Cell (l.references + m)) (argument k) ∷ moves_from l (k + 1) n (m + 1) more

abbrev pub code_of : Starts → tac.Function → List flat_instruction.Instruction
code_of s f = moves_from (layout_of f) 0 0 0 f.parameters ++ map (translated s (layout_of f)) f.code

-- ---- functions and programs

-- the objects come first among the words, so the first twelve live in registers
abbrev pub flat_function : Starts → tac.Function → frames.Function
flat_function s f = record {
  code = code_of s f;
  cells = cells_of f;
  resident = min (cells_of f) 12;
  area = bytes_in f.objects;
  outgoing = f.temporaries - 8;
  gives = is_some f.result;
}

abbrev pub flat_program : tac.Program → frames.Program
flat_program p = record { functions = map (flat_function (starts_of p)) p.functions; statics = data_of p; main = p.main }
