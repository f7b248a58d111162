-- Integer constants (ISO/IEC 9899:2011 6.4.4.1).
use Rattle.std.specs.Prelude.{ℕ, ◌==◌, nat_lt, ◌&&◌, ◌||◌, Bool, true, false, pos, List, [], ◌∷◌, take, drop, slice_index, codes, Option, Some, None, Result, Ok, Err, if◌then◌else◌}
use Rattle.srcset.specs.declared.code.Code.{Code}
use Rattle.srcset.specs.declared.code.Code.TheVariants.{NotAToken, ConstantOutOfRange, LeftOutFloatingConstant, LeftOutLongLong}
use Rattle.std.specs.List.{list_any}
use Rattle.std.specs.Str.{byte, bytes_eq}
use Rattle.ctypes.specs.declared.types.IntType.{IntType}
use Rattle.ctypes.specs.declared.types.IntType.TheVariants.{Int, UInt, Long as SignedLong, ULong}
use Rattle.ctypes.specs.Types.{is_value_of}
use Rattle.lexer.specs.declared.numbers.Constant.{Constant}
use Rattle.lexer.specs.declared.numbers.Suffix.{Suffix}
use Rattle.lexer.specs.declared.numbers.Suffix.TheVariants.{Plain, Unsigned, Long, UnsignedLong, LongLong}
use Rattle.lexer.specs.Digits.{digit_count, value_of}

-- `0x` or `0X` comes first
abbrev pub is_hexadecimal : List ℕ → Bool
is_hexadecimal s = (slice_index s 0 == byte "0") && ((slice_index s 1 == byte "x") || (slice_index s 1 == byte "X"))

abbrev pub base_of : List ℕ → ℕ
base_of s = if is_hexadecimal s then 16 else if slice_index s 0 == byte "0" then 8 else 10

-- the text after the prefix
abbrev pub unprefixed : List ℕ → List ℕ
unprefixed s = if is_hexadecimal s then drop 2 s else s

-- the suffix after the digits: nothing, or u, l, ll, or u with one of the others, in either order and case,
-- where the letters of ll are of one case
unfoldable pub suffix_of : List ℕ → Option Suffix
suffix_of s =
    if bytes_eq s (codes "") then Some Plain else
    if bytes_eq s (codes "u") then Some Unsigned else
    if bytes_eq s (codes "U") then Some Unsigned else
    if bytes_eq s (codes "l") then Some Long else
    if bytes_eq s (codes "L") then Some Long else
    if bytes_eq s (codes "ul") then Some UnsignedLong else
    if bytes_eq s (codes "uL") then Some UnsignedLong else
    if bytes_eq s (codes "Ul") then Some UnsignedLong else
    if bytes_eq s (codes "UL") then Some UnsignedLong else
    if bytes_eq s (codes "lu") then Some UnsignedLong else
    if bytes_eq s (codes "Lu") then Some UnsignedLong else
    if bytes_eq s (codes "lU") then Some UnsignedLong else
    if bytes_eq s (codes "LU") then Some UnsignedLong else
    if bytes_eq s (codes "ll") then Some LongLong else
    if bytes_eq s (codes "LL") then Some LongLong else
    if bytes_eq s (codes "ull") then Some LongLong else
    if bytes_eq s (codes "uLL") then Some LongLong else
    if bytes_eq s (codes "Ull") then Some LongLong else
    if bytes_eq s (codes "ULL") then Some LongLong else
    if bytes_eq s (codes "llu") then Some LongLong else
    if bytes_eq s (codes "LLu") then Some LongLong else
    if bytes_eq s (codes "llU") then Some LongLong else
    if bytes_eq s (codes "LLU") then Some LongLong else
    None

-- the types that a constant may have, in their order (p5), of a decimal one or not; ll has none, this profile's choice
abbrev pub types_of : Bool → Suffix → List IntType
types_of true Plain = Int ∷ SignedLong ∷ []
types_of false Plain = Int ∷ UInt ∷ SignedLong ∷ ULong ∷ []
types_of decimal Unsigned = UInt ∷ ULong ∷ []
types_of true Long = SignedLong ∷ []
types_of false Long = SignedLong ∷ ULong ∷ []
types_of decimal UnsignedLong = ULong ∷ []
types_of decimal LongLong = []

-- the first type that has the value
abbrev pub typed : ℕ → List IntType → Result Constant Code
typed v [] = Err LeftOutLongLong
typed v (t ∷ ts) = if is_value_of t (pos v) then Ok (record { of = t; value = v }) else typed v ts

-- no type of the standard has a value over 18446744073709551615 here
abbrev pub in_range : ℕ → List IntType → Result Constant Code
in_range v types = if nat_lt 18446744073709551615 v then Err ConstantOutOfRange else typed v types

-- a number that is no integer constant is one with a point or an exponent (6.4.4.2), or no token at all
abbrev pub is_exponent : Bool → ℕ → Bool
is_exponent true b = (b == byte "p") || (b == byte "P")
is_exponent false b = (b == byte "e") || (b == byte "E")

abbrev pub is_floating : List ℕ → Bool
is_floating s = list_any (λ b. (b == byte ".") || is_exponent (is_hexadecimal s) b) s

abbrev pub no_integer : List ℕ → Code
no_integer s = if is_floating s then LeftOutFloatingConstant else NotAToken

-- a suffix that follows no digit is none
abbrev pub suffix_behind : ℕ → List ℕ → Option Suffix
suffix_behind count s = if count == 0 then None else suffix_of (drop count s)

abbrev pub number_as : ℕ → List ℕ → Option Suffix → List ℕ → Result Constant Code
number_as base digits (Some x) s = in_range (value_of base digits) (types_of (base == 10) x)
number_as base digits None s = Err (no_integer s)

-- a preprocessing number
abbrev pub number : List ℕ → Result Constant Code
number s =
    let rest = unprefixed s in
    let count = digit_count (base_of s) rest in
    number_as (base_of s) (take count rest) (suffix_behind count rest) s
