-- Instructions that are emitted for operations.
use Rattle.std.specs.Prelude.{ℕ, Bool, true, false, not}
use Rattle.ctypes.specs.declared.types.IntType.{IntType}
use Rattle.ctypes.specs.declared.operators.BinOp.{BinOp}
use Rattle.ctypes.specs.declared.operators.BinOp.TheVariants as op
use Rattle.csem.specs.Machine.{choose}
use Rattle.tac_code.specs.declared.code.Operand.{Operand}
use Rattle.tac_code.specs.declared.code.Target.{Target}
use Rattle.tac_code.specs.declared.code.Target.TheVariants as target
use Rattle.tac_code.specs.declared.code.Place.{Place as Spot}
use Rattle.tac_code.specs.declared.code.Place.TheVariants as place
use Rattle.tac_code.specs.declared.code.Reading.{Reading}
use Rattle.tac_code.specs.declared.code.Operation.{Operation}
use Rattle.tac_code.specs.declared.code.Operation.TheVariants as operation
use Rattle.tac_code.specs.declared.code.Comparison.{Comparison}
use Rattle.tac_code.specs.declared.code.Comparison.TheVariants as comparison
use Rattle.tac_code.specs.declared.code.Instruction.{Instruction}
use Rattle.tac_code.specs.declared.code.Instruction.TheVariants as instruction

abbrev pub move_to : Target → Operand → Instruction
move_to g o = instruction.Move g o

abbrev pub convert_to : IntType → Target → Operand → Instruction
convert_to u g o = instruction.Convert u g o

abbrev pub compute : Operation → Reading → Target → Operand → Operand → Instruction
compute o r g a b = instruction.Compute o r g a b

abbrev pub branch : Comparison → Reading → Operand → Operand → ℕ → Instruction
branch c r a b to = instruction.Branch c r a b to

abbrev pub load_from : IntType → Target → Spot → Instruction
load_from u g a = instruction.Load u g a

abbrev pub store_to : IntType → Operand → Spot → Instruction
store_to u o a = instruction.Store u o a

abbrev pub address_of : Target → Spot → Instruction
address_of g a = instruction.Address g a

abbrev pub part_of : Target → Operand → Operand → ℕ → Instruction
part_of g o i size = instruction.Part g o i size

abbrev pub temporary : ℕ → Target
temporary t = target.Temporary t

abbrev pub at : Operand → Spot
at o = place.At o

-- whether an operation is two instructions; and the first of them
abbrev pub is_twofold : BinOp → Bool
is_twofold op.LessEqual = true
is_twofold op.GreaterEqual = true
is_twofold o = false

abbrev pub first_of : BinOp → Reading → Target → Operand → Operand → Instruction
first_of op.Mul r g a b = compute operation.Multiply r g a b
first_of op.Div r g a b = compute operation.Divide r g a b
first_of op.Rem r g a b = compute operation.Remainder r g a b
first_of op.Add r g a b = compute operation.Add r g a b
first_of op.Sub r g a b = compute operation.Subtract r g a b
first_of op.Shl r g a b = compute operation.ShiftLeft r g a b
first_of op.Shr r g a b = compute operation.ShiftRight r g a b
first_of op.Less r g a b = compute operation.Less r g a b
first_of op.Greater r g a b = compute operation.Less r g b a
first_of op.LessEqual r g a b = compute operation.Less r g b a
first_of op.GreaterEqual r g a b = compute operation.Less r g a b
first_of op.Equal r g a b = compute operation.Equal r g a b
first_of op.NotEqual r g a b = compute operation.NotEqual r g a b
first_of op.BitAnd r g a b = compute operation.And r g a b
first_of op.BitXor r g a b = compute operation.ExclusiveOr r g a b
first_of op.BitOr r g a b = compute operation.Or r g a b

abbrev pub is_comparison : BinOp → Bool
is_comparison op.Less = true
is_comparison op.Greater = true
is_comparison op.LessEqual = true
is_comparison op.GreaterEqual = true
is_comparison op.Equal = true
is_comparison op.NotEqual = true
is_comparison o = false

abbrev pub jump_of : BinOp → Reading → Bool → ℕ → Operand → Operand → Instruction
jump_of op.Less r sense to a b = branch (choose sense comparison.Less comparison.GreaterEqual) r a b to
jump_of op.Greater r sense to a b = branch (choose sense comparison.Less comparison.GreaterEqual) r b a to
jump_of op.LessEqual r sense to a b = branch (choose sense comparison.GreaterEqual comparison.Less) r b a to
jump_of op.GreaterEqual r sense to a b = branch (choose sense comparison.GreaterEqual comparison.Less) r a b to
jump_of op.Equal r sense to a b = branch (choose sense comparison.Equal comparison.NotEqual) r a b to
jump_of op.NotEqual r sense to a b = branch (choose (not sense) comparison.Equal comparison.NotEqual) r a b to
jump_of o r sense to a b = instruction.Nothing
