-- Binary operations on whole numbers within their types' ranges (ISO/IEC 9899:2011 6.5.5 to 6.5.12).
use Rattle.std.specs.Prelude.{ℕ, ◌^◌, ◌/◌, Bool, not, ◌&&◌, ◌||◌, ℤ, pos, negsuc, ◌+ℤ◌, ◌-ℤ◌, ◌*ℤ◌, if◌then◌else◌, int_lt, int_le, int_div, int_rem, bit_and, bit_or, bit_xor, Result, Ok, Err}
use Rattle.ctypes.specs.declared.types.IntType.{IntType}
use Rattle.ctypes.specs.declared.types.IntType.TheVariants as ty
use Rattle.ctypes.specs.declared.operators.BinOp.{BinOp}
use Rattle.ctypes.specs.declared.operators.BinOp.TheVariants.{Mul, Div, Rem, Add, Sub, Shl, Shr, Less, Greater, LessEqual, GreaterEqual, Equal, NotEqual, BitAnd, BitXor, BitOr}
use Rattle.ctypes.specs.declared.operators.Undef.{Undef}
use Rattle.ctypes.specs.declared.operators.Undef.TheVariants.{U1, U2, U3, U4, U5, U6, U7, U8}
use Rattle.ctypes.specs.Types.{signed, bits_of, is_value_of, IsValueOf, truth, of_truth, modulo, converted}

abbrev pub number_of : Undef → ℕ
number_of U1 = 1
number_of U2 = 2
number_of U3 = 3
number_of U4 = 4
number_of U5 = 5
number_of U6 = 6
number_of U7 = 7
number_of U8 = 8

-- the type of the result: of a comparison int (6.5.8p6, 6.5.9p3), else that of the operands, of a shift that of the left one
abbrev pub result_type : BinOp → IntType → IntType
result_type Less t = ty.Int
result_type Greater t = ty.Int
result_type LessEqual t = ty.Int
result_type GreaterEqual t = ty.Int
result_type Equal t = ty.Int
result_type NotEqual t = ty.Int
result_type op t = t

-- the right operand is a value of t; of a shift it may be any number, since its type is its own (6.5.7p3)
abbrev pub RightIsValueOf : BinOp → IntType → ℤ → Type 0
RightIsValueOf Shl t b = Unit {0}
RightIsValueOf Shr t b = Unit {0}
RightIsValueOf op t b = IsValueOf t b

-- 6.5p5 and 6.2.5p9: undefined where `exact` is out of range of a signed type; an unsigned type goes modulo
abbrev pub in_range : Undef → IntType → ℤ → ℤ → Result ℤ Undef
in_range act t exact v = if signed t && not (is_value_of t exact) then Err act else Ok (converted t v)

-- 6.5.5p5, p6: the quotient is cut towards zero, and where it can't be had there is no remainder either
abbrev pub divided : IntType → ℤ → ℤ → ℤ → Result ℤ Undef
divided t b quotient v = if truth b then in_range U1 t quotient v else Err U2

-- 6.5.7p3: a count is neither negative nor as great as the width
abbrev pub is_count : IntType → ℤ → Bool
is_count t b = int_le (pos 0) b && int_lt b (pos (bits_of t))

abbrev pub magnitude : ℤ → ℕ
magnitude (pos n) = n
magnitude (negsuc n) = 0

-- 6.5.7p4: a left shift multiplies; no negative number is shifted
abbrev pub shifted_left : IntType → ℤ → ℤ → Result ℤ Undef
shifted_left t a v = if int_lt a (pos 0) then Err U4 else in_range U4 t v v

-- 6.5.7p5: a right shift divides; of a negative number it rounds down (an arithmetic shift), this profile's choice
abbrev pub quotient_down : ℤ → ℕ → ℤ
quotient_down (pos a) m = pos (a / m)
quotient_down (negsuc a) m = negsuc (a / m)

-- 6.5.10 to 6.5.12: on the bits in two's complement, of which 32 are enough for every type
abbrev pub bitwise : (ℕ → ℕ → ℕ) → IntType → ℤ → ℤ → Result ℤ Undef
bitwise f t a b = Ok (converted t (pos (f (modulo 32 a) (modulo 32 b))))

-- a op b, where a and b are values of t (of a shift: a alone)
abbrev pub computed : BinOp → IntType → ℤ → ℤ → Result ℤ Undef
computed Mul t a b = in_range U1 t (a *ℤ b) (a *ℤ b)
computed Div t a b = divided t b (int_div a b) (int_div a b)
computed Rem t a b = divided t b (int_div a b) (int_rem a b)
computed Add t a b = in_range U1 t (a +ℤ b) (a +ℤ b)
computed Sub t a b = in_range U1 t (a -ℤ b) (a -ℤ b)
computed Shl t a b = if is_count t b then shifted_left t a (a *ℤ pos (2 ^ magnitude b)) else Err U3
computed Shr t a b = if is_count t b then Ok (quotient_down a (2 ^ magnitude b)) else Err U3
computed Less t a b = Ok (of_truth (int_lt a b))
computed Greater t a b = Ok (of_truth (int_lt b a))
computed LessEqual t a b = Ok (of_truth (int_le a b))
computed GreaterEqual t a b = Ok (of_truth (int_le b a))
computed Equal t a b = Ok (of_truth (int_le a b && int_le b a))
computed NotEqual t a b = Ok (of_truth (int_lt a b || int_lt b a))
computed BitAnd t a b = bitwise bit_and t a b
computed BitXor t a b = bitwise bit_xor t a b
computed BitOr t a b = bitwise bit_or t a b
