-- The texts of instructions, as assemblers for RISC-V read them (RISC-V Assembly Programmer's Manual): the name of the row
-- in the unprivileged ISA manual, then a space and the operands. The number of a branch or JAL is its offset, as LLVM's
-- assembler reads it; GNU as reads it as an address. Neither reads the text of FENCE, whose fields are printed as numbers.
use Rattle.std.specs.Prelude.{ℕ, ◌/◌, ◌^◌, List, ◌++◌, codes, decimal, true, ℤ}
use Rattle.std.specs.Fmt.{digits, signed_decimal}
use Rattle.std.specs.Int.{cast_signed, w32}
use Rattle.rv32.specs.declared.instr.Instr.{Instr}
use Rattle.rv32.specs.declared.instr.Instr.TheVariants.{Lui, Auipc, Jal, Jalr, Branch, Load, Store, Immediate, Shift, Op, Fence, Ecall, Ebreak}
use Rattle.rv32.specs.declared.instr.Test.{Test}
use Rattle.rv32.specs.declared.instr.Test.TheVariants.{Equal, NotEqual, Less, GreaterEqual, LessUnsigned, GreaterEqualUnsigned}
use Rattle.rv32.specs.declared.instr.LoadKind.{LoadKind}
use Rattle.rv32.specs.declared.instr.LoadKind.TheVariants as load_kind
use Rattle.rv32.specs.declared.instr.StoreKind.{StoreKind}
use Rattle.rv32.specs.declared.instr.StoreKind.TheVariants as store_kind
use Rattle.rv32.specs.declared.instr.ImmediateOp.{ImmediateOp}
use Rattle.rv32.specs.declared.instr.ImmediateOp.TheVariants as immediate_op
use Rattle.rv32.specs.declared.instr.ShiftOp.{ShiftOp}
use Rattle.rv32.specs.declared.instr.ShiftOp.TheVariants as shift_op
use Rattle.rv32.specs.declared.instr.RegisterOp.{RegisterOp}
use Rattle.rv32.specs.declared.instr.RegisterOp.TheVariants as register_op

-- ---- names

abbrev pub test_name : Test → List ℕ
test_name Equal = codes "beq"
test_name NotEqual = codes "bne"
test_name Less = codes "blt"
test_name GreaterEqual = codes "bge"
test_name LessUnsigned = codes "bltu"
test_name GreaterEqualUnsigned = codes "bgeu"

abbrev pub load_name : LoadKind → List ℕ
load_name load_kind.Byte = codes "lb"
load_name load_kind.Half = codes "lh"
load_name load_kind.Word = codes "lw"
load_name load_kind.ByteUnsigned = codes "lbu"
load_name load_kind.HalfUnsigned = codes "lhu"

abbrev pub store_name : StoreKind → List ℕ
store_name store_kind.Byte = codes "sb"
store_name store_kind.Half = codes "sh"
store_name store_kind.Word = codes "sw"

abbrev pub immediate_name : ImmediateOp → List ℕ
immediate_name immediate_op.Add = codes "addi"
immediate_name immediate_op.Less = codes "slti"
immediate_name immediate_op.LessUnsigned = codes "sltiu"
immediate_name immediate_op.Xor = codes "xori"
immediate_name immediate_op.Or = codes "ori"
immediate_name immediate_op.And = codes "andi"

abbrev pub shift_name : ShiftOp → List ℕ
shift_name shift_op.Left = codes "slli"
shift_name shift_op.Right = codes "srli"
shift_name shift_op.RightArithmetic = codes "srai"

abbrev pub op_name : RegisterOp → List ℕ
op_name register_op.Add = codes "add"
op_name register_op.Sub = codes "sub"
op_name register_op.ShiftLeft = codes "sll"
op_name register_op.Less = codes "slt"
op_name register_op.LessUnsigned = codes "sltu"
op_name register_op.Xor = codes "xor"
op_name register_op.ShiftRight = codes "srl"
op_name register_op.ShiftRightArithmetic = codes "sra"
op_name register_op.Or = codes "or"
op_name register_op.And = codes "and"
op_name register_op.Mul = codes "mul"
op_name register_op.MulHigh = codes "mulh"
op_name register_op.MulHighSignedUnsigned = codes "mulhsu"
op_name register_op.MulHighUnsigned = codes "mulhu"
op_name register_op.Div = codes "div"
op_name register_op.DivUnsigned = codes "divu"
op_name register_op.Rem = codes "rem"
op_name register_op.RemUnsigned = codes "remu"

-- ---- operands

abbrev pub register : ℕ → List ℕ
register r = codes "x" ++ decimal r

-- an immediate of 32 bits, read as a signed number
abbrev pub signed : ℕ → ℤ
signed v = cast_signed w32 v

-- the upper 20 bits of an immediate, to the base 16, A to F capital
abbrev pub upper_bits : ℕ → List ℕ
upper_bits v = codes "0x" ++ digits 16 true (v / 2 ^ 12)

-- a place in memory: an offset and a base register
abbrev pub memory : ℕ → ℤ → List ℕ
memory base offset = signed_decimal offset ++ codes "(" ++ register base ++ codes ")"

-- ---- instructions

abbrev pub text_of : Instr → List ℕ
text_of (Lui rd upper) = codes "lui" ++ codes " " ++ register rd ++ codes "," ++ upper_bits upper
text_of (Auipc rd upper) = codes "auipc" ++ codes " " ++ register rd ++ codes "," ++ upper_bits upper
text_of (Jal rd offset) = codes "jal" ++ codes " " ++ register rd ++ codes "," ++ signed_decimal (signed offset)
text_of (Jalr rd base offset) = codes "jalr" ++ codes " " ++ register rd ++ codes "," ++ memory base (signed offset)
text_of (Branch test left right offset) = test_name test ++ codes " " ++ register left ++ codes "," ++ register right ++ codes "," ++ signed_decimal (signed offset)
text_of (Load kind rd base offset) = load_name kind ++ codes " " ++ register rd ++ codes "," ++ memory base (signed offset)
text_of (Store kind source base offset) = store_name kind ++ codes " " ++ register source ++ codes "," ++ memory base (signed offset)
text_of (Immediate op rd left right) = immediate_name op ++ codes " " ++ register rd ++ codes "," ++ register left ++ codes "," ++ signed_decimal (signed right)
text_of (Shift op rd left amount) = shift_name op ++ codes " " ++ register rd ++ codes "," ++ register left ++ codes "," ++ decimal amount
text_of (Op op rd left right) = op_name op ++ codes " " ++ register rd ++ codes "," ++ register left ++ codes "," ++ register right
text_of (Fence rd source bits) = codes "fence" ++ codes " " ++ register rd ++ codes "," ++ register source ++ codes "," ++ signed_decimal (signed bits)
text_of Ecall = codes "ecall"
text_of Ebreak = codes "ebreak"
