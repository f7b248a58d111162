-- Integer types (ISO/IEC 9899:2011 6.2.5, 6.2.7, 6.3.1), as tables.
use Rattle.std.specs.Prelude.{ℕ, zero, suc, ◌-◌, ◌^◌, ◌%◌, Bool, true, false, ◌&&◌, ℤ, pos, negsuc, ◌-ℤ◌, ◌≤ℤ◌, int_le, nat_lt, if◌then◌else◌}
use Rattle.ctypes.specs.declared.types.IntType.{IntType}
use Rattle.ctypes.specs.declared.types.IntType.TheVariants as ty
use Rattle.ctypes.specs.declared.types.IntType.TheVariants.{Char, SChar, UChar, Short, UShort, Int, UInt, Long, ULong}

-- the bytes of an object (6.5.3.4); this profile's, as ILP32 of RISC-V has them
abbrev pub bytes_of : IntType → ℕ
bytes_of ty.Bool = 1
bytes_of Char = 1
bytes_of SChar = 1
bytes_of UChar = 1
bytes_of Short = 2
bytes_of UShort = 2
bytes_of Int = 4
bytes_of UInt = 4
bytes_of Long = 4
bytes_of ULong = 4

-- the bits of a value, the sign's included (6.2.6.2p6): all bits of the object, but for _Bool the one that 0 and 1 need
abbrev pub bits_of : IntType → ℕ
bits_of ty.Bool = 1
bits_of Char = 8
bits_of SChar = 8
bits_of UChar = 8
bits_of Short = 16
bits_of UShort = 16
bits_of Int = 32
bits_of UInt = 32
bits_of Long = 32
bits_of ULong = 32

-- 6.2.5p4, p6; plain char is unsigned (p15), this profile's choice
abbrev pub signed : IntType → Bool
signed ty.Bool = false
signed Char = false
signed SChar = true
signed UChar = false
signed Short = true
signed UShort = false
signed Int = true
signed UInt = false
signed Long = true
signed ULong = false

-- the least and the greatest value (6.2.6.2, two's complement, as this profile and the target have it)
abbrev pub least : IntType → ℤ
least ty.Bool = pos 0
least Char = pos 0
least SChar = pos 0 -ℤ pos 128
least UChar = pos 0
least Short = pos 0 -ℤ pos 32768
least UShort = pos 0
least Int = pos 0 -ℤ pos 2147483648
least UInt = pos 0
least Long = pos 0 -ℤ pos 2147483648
least ULong = pos 0

abbrev pub greatest : IntType → ℤ
greatest ty.Bool = pos 1
greatest Char = pos 255
greatest SChar = pos 127
greatest UChar = pos 255
greatest Short = pos 32767
greatest UShort = pos 65535
greatest Int = pos 2147483647
greatest UInt = pos 4294967295
greatest Long = pos 2147483647
greatest ULong = pos 4294967295

-- v is a value of t; the test of it
abbrev pub IsValueOf : IntType → ℤ → Type 0
IsValueOf t v = (least t ≤ℤ v) × (v ≤ℤ greatest t)

abbrev pub is_value_of : IntType → ℤ → Bool
is_value_of t v = int_le (least t) v && int_le v (greatest t)

-- the rank (6.3.1.1p1), in its order
abbrev pub rank_of : IntType → ℕ
rank_of ty.Bool = 0
rank_of Char = 1
rank_of SChar = 1
rank_of UChar = 1
rank_of Short = 2
rank_of UShort = 2
rank_of Int = 3
rank_of UInt = 3
rank_of Long = 4
rank_of ULong = 4

-- the integer promotions (6.3.1.1p2): int holds every value of each type below it
abbrev pub promoted : IntType → IntType
promoted ty.Bool = Int
promoted Char = Int
promoted SChar = Int
promoted UChar = Int
promoted Short = Int
promoted UShort = Int
promoted Int = Int
promoted UInt = UInt
promoted Long = Long
promoted ULong = ULong

-- the usual arithmetic conversions of promoted types (6.3.1.8p1); long holds not every unsigned int, so these give unsigned long
abbrev pub common : IntType → IntType → IntType
common Int b = b
common UInt Long = ULong
common UInt ULong = ULong
common UInt b = UInt
common Long UInt = ULong
common Long ULong = ULong
common Long b = Long
common ULong b = ULong
common a b = a

-- of any types, which are promoted first
abbrev pub usual_of : IntType → IntType → IntType
usual_of a b = common (promoted a) (promoted b)

-- whether a number is not zero (6.8.4.1p2), and the number of a truth (6.5.8p6)
abbrev pub truth : ℤ → Bool
truth (pos zero) = false
truth (pos (suc n)) = true
truth (negsuc n) = true

abbrev pub of_truth : Bool → ℤ
of_truth true = pos 1
of_truth false = pos 0

-- a number modulo 2 ^ k, and the number of -2 ^ (k - 1) to 2 ^ (k - 1) - 1 that is equal to it modulo 2 ^ k
abbrev pub modulo : ℕ → ℤ → ℕ
modulo k (pos n) = n % 2 ^ k
modulo k (negsuc n) = 2 ^ k - 1 - n % 2 ^ k

abbrev pub wrap : ℕ → ℤ → ℤ
wrap k v = let w = modulo k v in if nat_lt w (2 ^ (k - 1)) then pos w else negsuc (2 ^ k - 1 - w)

-- conversion: to _Bool (6.3.1.2); to an unsigned type, modulo (6.3.1.3p2); to a signed type, p1 and p3: it wraps, this profile's choice
abbrev pub converted : IntType → ℤ → ℤ
converted ty.Bool v = of_truth (truth v)
converted Char v = pos (modulo 8 v)
converted SChar v = wrap 8 v
converted UChar v = pos (modulo 8 v)
converted Short v = wrap 16 v
converted UShort v = pos (modulo 16 v)
converted Int v = wrap 32 v
converted UInt v = pos (modulo 32 v)
converted Long v = wrap 32 v
converted ULong v = pos (modulo 32 v)
