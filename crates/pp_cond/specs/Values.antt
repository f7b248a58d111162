-- The arithmetic of conditions: as that of expressions, in the types intmax_t and uintmax_t of 64 bits (ISO/IEC 9899:2011
-- 6.10.1p4, 6.5). An operation is absent where it overflows, divides by zero or shifts by no count of a bit.
use Rattle.std.specs.Prelude.{ℕ, ◌^◌, Bool, true, false, not, ◌&&◌, ◌||◌, ℤ, pos, negsuc, ◌+ℤ◌, ◌-ℤ◌, ◌*ℤ◌, if◌then◌else◌, int_lt, int_le, int_div, int_rem, bit_and, bit_or, bit_xor, Option, Some, None}
use Rattle.ctypes.specs.declared.operators.BinOp.{BinOp}
use Rattle.ctypes.specs.declared.operators.BinOp.TheVariants.{Mul, Div, Rem, Add, Sub, Shl, Shr, Less, Greater, LessEqual, GreaterEqual, Equal, NotEqual, BitAnd, BitXor, BitOr}
use Rattle.pp_cond.specs.declared.operators.PrefixOperator.{PrefixOperator}
use Rattle.pp_cond.specs.declared.operators.PrefixOperator.TheVariants.{Plus, Minus, Complement, Negation}
use Rattle.ctypes.specs.Types.{modulo, wrap, truth, of_truth}
use Rattle.ctypes.specs.Arithmetic.{quotient_down, magnitude}

-- a whole number of intmax_t, or of uintmax_t
pub record Value : Type 0 where
  pub unsigned : Bool
  pub number : ℤ

-- a condition, its macros replaced: && and || and ?: evaluate their later operands where they have to (6.5.13 to 6.5.15)
pub data Condition : Type 0 where
  constant : (v : Value) → Condition
  prefix : (op : PrefixOperator) (a : Condition) → Condition
  binary : (op : BinOp) (a b : Condition) → Condition
  both : (a b : Condition) → Condition
  either : (a b : Condition) → Condition
  choice : (c a b : Condition) → Condition

-- ---- types (6.3.1.8): unsigned where one operand is; a comparison's is int, a shift's that of its left operand

abbrev pub is_comparison : BinOp → Bool
is_comparison Less = true
is_comparison Greater = true
is_comparison LessEqual = true
is_comparison GreaterEqual = true
is_comparison Equal = true
is_comparison NotEqual = true
is_comparison op = false

abbrev pub is_shift : BinOp → Bool
is_shift Shl = true
is_shift Shr = true
is_shift op = false

abbrev pub is_unsigned : Condition → Bool
is_unsigned (constant v) = v.unsigned
is_unsigned (prefix Negation a) = false
is_unsigned (prefix op a) = is_unsigned a
is_unsigned (binary op a b) =
    if is_comparison op then false else if is_shift op then is_unsigned a else is_unsigned a || is_unsigned b
is_unsigned (both a b) = false
is_unsigned (either a b) = false
is_unsigned (choice c a b) = is_unsigned a || is_unsigned b

-- the type in which an operation is done, and the conversion of an operand to it
abbrev pub works_unsigned : BinOp → Condition → Condition → Bool
works_unsigned op a b = if is_shift op then is_unsigned a else is_unsigned a || is_unsigned b

abbrev pub converted : Bool → ℤ → ℤ
converted true v = pos (modulo 64 v)
converted false v = v

-- ---- operations

-- an unsigned result goes modulo 2 ^ 64 (6.2.5p9); a signed one has to be there (6.5p5)
abbrev pub in_range : Bool → ℤ → Option ℤ
in_range true v = Some (pos (modulo 64 v))
in_range false v = if int_le (pos 0 -ℤ pos (2 ^ 63)) v && int_lt v (pos (2 ^ 63)) then Some v else None

-- 6.5.5p5, p6: there is a remainder where there is a quotient
abbrev pub divided : Bool → ℤ → ℤ → ℤ → Option ℤ
divided u b quotient v = if truth b then only_if (in_range u quotient) v else None
  where
    only_if : Option ℤ → ℤ → Option ℤ
    only_if None v = None
    only_if (Some q) v = Some v

-- 6.5.7p3
abbrev pub is_count : ℤ → Bool
is_count b = int_le (pos 0) b && int_lt b (pos 64)

-- 6.5.7p4: no negative number is shifted to the left
abbrev pub shifted_left : Bool → ℤ → ℤ → Option ℤ
shifted_left u a v = if int_lt a (pos 0) then None else in_range u v

-- on the bits in two's complement
abbrev pub of_bits : Bool → ℕ → ℤ
of_bits true n = pos n
of_bits false n = wrap 64 (pos n)

abbrev pub bitwise : (ℕ → ℕ → ℕ) → Bool → ℤ → ℤ → Option ℤ
bitwise f u a b = Some (of_bits u (f (modulo 64 a) (modulo 64 b)))

-- a op b in the type of both (of a shift: of a)
abbrev pub computed : BinOp → Bool → ℤ → ℤ → Option ℤ
computed Mul u a b = in_range u (a *ℤ b)
computed Div u a b = divided u b (int_div a b) (int_div a b)
computed Rem u a b = divided u b (int_div a b) (int_rem a b)
computed Add u a b = in_range u (a +ℤ b)
computed Sub u a b = in_range u (a -ℤ b)
computed Shl u a b = if is_count b then shifted_left u a (a *ℤ pos (2 ^ magnitude b)) else None
computed Shr u a b = if is_count b then Some (quotient_down a (2 ^ magnitude b)) else None
computed Less u a b = Some (of_truth (int_lt a b))
computed Greater u a b = Some (of_truth (int_lt b a))
computed LessEqual u a b = Some (of_truth (int_le a b))
computed GreaterEqual u a b = Some (of_truth (int_le b a))
computed Equal u a b = Some (of_truth (int_le a b && int_le b a))
computed NotEqual u a b = Some (of_truth (int_lt a b || int_lt b a))
computed BitAnd u a b = bitwise bit_and u a b
computed BitXor u a b = bitwise bit_xor u a b
computed BitOr u a b = bitwise bit_or u a b

-- the right operand of a shift keeps its own type
abbrev pub right_converted : BinOp → Bool → ℤ → ℤ
right_converted op u b = if is_shift op then b else converted u b

abbrev pub prefixed : PrefixOperator → Bool → ℤ → Option ℤ
prefixed Plus u a = Some a
prefixed Minus u a = in_range u (pos 0 -ℤ a)
prefixed Complement u a = Some (of_bits u (modulo 64 (negsuc 0 -ℤ a)))
prefixed Negation u a = Some (of_truth (not (truth a)))

-- ---- the value of a condition where it is evaluated

abbrev pub then_value : Option ℤ → (ℤ → Option ℤ) → Option ℤ
then_value None f = None
then_value (Some v) f = f v

abbrev pub if_value : Bool → (Unit {0} → Option ℤ) → (Unit {0} → Option ℤ) → Option ℤ
if_value true f g = f tt
if_value false f g = g tt

unfoldable pub value_of : Condition → Option ℤ
value_of (constant v) = Some v.number
value_of (prefix op a) = then_value (value_of a) (λ v. prefixed op (is_unsigned a) v)
value_of (binary op a b) =
    then_value (value_of a) (λ v. then_value (value_of b) (λ w.
    let u = works_unsigned op a b in computed op u (converted u v) (right_converted op u w)))
value_of (both a b) =
    then_value (value_of a) (λ v. if_value (truth v) (λ _. then_value (value_of b) (λ w. Some (of_truth (truth w)))) (λ _. Some (pos 0)))
value_of (either a b) =
    then_value (value_of a) (λ v. if_value (truth v) (λ _. Some (pos 1)) (λ _. then_value (value_of b) (λ w. Some (of_truth (truth w)))))
value_of (choice c a b) =
    then_value (value_of c) (λ v. then_value (if_value (truth v) (λ _. value_of a) (λ _. value_of b)) (λ w.
    Some (converted (is_unsigned a || is_unsigned b) w)))
