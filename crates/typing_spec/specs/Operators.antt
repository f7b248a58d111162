-- The operators of the tree as operations of the integer types (ISO/IEC 9899:2011 6.5.3.3, 6.5.5 to 6.5.12, 6.5.16.2).
use Rattle.std.specs.Prelude.{not, Option, Some, None, ℤ, pos, negsuc, Result, Ok}
use Rattle.ctypes.specs.declared.types.IntType.{IntType}
use Rattle.ctypes.specs.declared.types.IntType.TheVariants as ty
use Rattle.ctypes.specs.declared.operators.BinOp.{BinOp}
use Rattle.ctypes.specs.declared.operators.BinOp.TheVariants as op
use Rattle.ctypes.specs.declared.operators.Undef.{Undef}
use Rattle.ctypes.specs.Types.{promoted, usual_of, truth, of_truth, converted}
use Rattle.ctypes.specs.Arithmetic.{computed}
use Rattle.tree.specs.declared.expression.PrefixOp.{PrefixOp}
use Rattle.tree.specs.declared.expression.PrefixOp.TheVariants as prefix
use Rattle.tree.specs.declared.expression.AssignOp.{AssignOp}
use Rattle.tree.specs.declared.expression.AssignOp.TheVariants as assign

-- the operation of a compound assignment (6.5.16.2p3), which a simple one has not
abbrev pub assigning : AssignOp → Option BinOp
assigning assign.Plain = None
assigning assign.Mul = Some op.Mul
assigning assign.Div = Some op.Div
assigning assign.Rem = Some op.Rem
assigning assign.Add = Some op.Add
assigning assign.Sub = Some op.Sub
assigning assign.ShiftLeft = Some op.Shl
assigning assign.ShiftRight = Some op.Shr
assigning assign.BitAnd = Some op.BitAnd
assigning assign.BitXor = Some op.BitXor
assigning assign.BitOr = Some op.BitOr

-- the type to which the operands are converted: the usual arithmetic conversions; of a shift the promoted left operand (6.5.7p3)
abbrev pub operands_type : BinOp → IntType → IntType → IntType
operands_type op.Shl a b = promoted a
operands_type op.Shr a b = promoted a
operands_type o a b = usual_of a b

-- the right operand as it is computed with: converted, but a shift's is only promoted, which keeps its value
abbrev pub right_operand : BinOp → IntType → ℤ → ℤ
right_operand op.Shl t v = v
right_operand op.Shr t v = v
right_operand o t v = converted t v

-- an operation on the values of its operands, each of its own type
abbrev pub operated : BinOp → IntType → ℤ → ℤ → Result ℤ Undef
operated o t a b = computed o t (converted t a) (right_operand o t b)

-- the type of a sign's result: the promoted type, of `!` int (6.5.3.3p2 to p5)
abbrev pub signed_type : PrefixOp → IntType → IntType
signed_type prefix.Plus t = t
signed_type prefix.Minus t = t
signed_type prefix.Complement t = t
signed_type prefix.Not t = ty.Int

-- the same by binary operations: 0 - a; all bits of a changed; whether a equals 0
abbrev pub sign_of : PrefixOp → IntType → ℤ → Result ℤ Undef
sign_of prefix.Plus t a = Ok (converted t a)
sign_of prefix.Minus t a = computed op.Sub t (pos 0) (converted t a)
sign_of prefix.Complement t a = computed op.BitXor t (converted t a) (converted t (negsuc 0))
sign_of prefix.Not t a = Ok (of_truth (not (truth (converted t a))))
