-- The laws of the definitions that the layers above use.
use Rattle.std.specs.Prelude.{◌≡◌, ◌≤◌, Bool, true, false, ℤ, int_le, nat_lt, nat_le, if◌then◌else◌, Ok, IfOk, IfErr, ◌+ℤ◌, ◌*ℤ◌, int_div, int_rem}
use Rattle.ctypes.specs.declared.types.IntType.{IntType}
use Rattle.ctypes.specs.declared.types.IntType.TheVariants as ty
use Rattle.ctypes.specs.declared.operators.BinOp.{BinOp}
use Rattle.ctypes.specs.declared.operators.BinOp.TheVariants.{Div, Rem}
use Rattle.ctypes.specs.declared.operators.Undef.{Undef}
use Rattle.ctypes.specs.Types.{bits_of, signed, greatest, IsValueOf, rank_of, promoted, usual_of, modulo, converted}
use Rattle.ctypes.specs.Arithmetic.{number_of, result_type, RightIsValueOf, in_range, computed}

-- ---- promotion and the usual arithmetic conversions

abbrev pub PromotedStays : Type 0
PromotedStays = (t : IntType) → promoted (promoted t) ≡ promoted t

-- the promotion of a type has its values (6.3.1.1p3)
abbrev pub PromotedHasValues : Type 0
PromotedHasValues = (t : IntType) (v : ℤ) → IsValueOf t v → IsValueOf (promoted t) v

abbrev pub UsualCommutes : Type 0
UsualCommutes = (a b : IntType) → usual_of a b ≡ usual_of b a

abbrev pub UsualOfSame : Type 0
UsualOfSame = (t : IntType) → usual_of t t ≡ promoted t

abbrev pub UsualIsPromoted : Type 0
UsualIsPromoted = (a b : IntType) → promoted (usual_of a b) ≡ usual_of a b

-- the unsigned type that corresponds to a promoted type (6.2.5p6)
abbrev pub unsigned_of : IntType → IntType
unsigned_of ty.Int = ty.UInt
unsigned_of ty.Long = ty.ULong
unsigned_of t = t

-- 6.3.1.8p1, of a signed type s and an unsigned type u: the unsigned one, where its rank is not the smaller; else the
-- signed one, where it has every value of the unsigned one; else the unsigned type that corresponds to the signed one
abbrev pub of_signed_and_unsigned : IntType → IntType → IntType
of_signed_and_unsigned s u = if nat_le (rank_of s) (rank_of u) then u else if int_le (greatest u) (greatest s) then s else unsigned_of s

-- the same of any promoted types: of one signedness the type of greater rank
abbrev pub by_signedness : Bool → Bool → IntType → IntType → IntType
by_signedness true false a b = of_signed_and_unsigned a b
by_signedness false true a b = of_signed_and_unsigned b a
by_signedness sa sb a b = if nat_lt (rank_of a) (rank_of b) then b else a

abbrev pub UsualIsByRank : Type 0
UsualIsByRank = (a b : IntType) → usual_of a b ≡ by_signedness (signed (promoted a)) (signed (promoted b)) (promoted a) (promoted b)

-- ---- conversion

abbrev pub ConvertedFits : Type 0
ConvertedFits = (t : IntType) (v : ℤ) → IsValueOf t (converted t v)

-- a value of the type stays (6.3.1.3p1)
abbrev pub ConvertedKeeps : Type 0
ConvertedKeeps = (t : IntType) (v : ℤ) → IsValueOf t v → converted t v ≡ v

-- of each type but _Bool, it is equal to the number modulo 2 to the type's width (6.3.1.3p2)
abbrev pub ConvertedIsCongruent : Type 0
ConvertedIsCongruent = (t : IntType) (v : ℤ) → 2 ≤ bits_of t → modulo (bits_of t) (converted t v) ≡ modulo (bits_of t) v

-- ---- operations

-- the requirement on the right operand holds for each value of the type
abbrev pub RightFits : Type 0
RightFits = (op : BinOp) (t : IntType) (b : ℤ) → IsValueOf t b → RightIsValueOf op t b

-- a result is a value of its type
abbrev pub ComputedFits : Type 0
ComputedFits = (op : BinOp) (t : IntType) (a b : ℤ) → IsValueOf t a → IfOk (computed op t a b) (λ v. IsValueOf (result_type op t) v)

-- an operation has only the first four kinds of undefined behaviour
abbrev pub ComputedRefuses : Type 0
ComputedRefuses = (op : BinOp) (t : IntType) (a b : ℤ) → IfErr (computed op t a b) (λ act. number_of act ≤ 4)

-- a sum, difference or product of a signed type is exact where it is defined at all
abbrev pub SignedIsExact : Type 0
SignedIsExact = (act : Undef) (t : IntType) (exact v : ℤ) → signed t ≡ true → in_range act t exact exact ≡ Ok v → v ≡ exact

-- and it is equal, modulo 2 to the width, to the exact one in each type but _Bool
abbrev pub ResultIsCongruent : Type 0
ResultIsCongruent = (act : Undef) (t : IntType) (exact v : ℤ) → 2 ≤ bits_of t → in_range act t exact exact ≡ Ok v → modulo (bits_of t) v ≡ modulo (bits_of t) exact

-- a quotient and a remainder are exact in every type
abbrev pub QuotientIsExact : Type 0
QuotientIsExact = (t : IntType) (a b v : ℤ) → IsValueOf t a → IsValueOf t b → computed Div t a b ≡ Ok v → v ≡ int_div a b

abbrev pub RemainderIsExact : Type 0
RemainderIsExact = (t : IntType) (a b v : ℤ) → IsValueOf t a → computed Rem t a b ≡ Ok v → v ≡ int_rem a b

-- (a / b) * b + a % b is a (6.5.5p6)
abbrev pub DivisionAddsUp : Type 0
DivisionAddsUp = (t : IntType) (a b q r : ℤ) → IsValueOf t a → IsValueOf t b → computed Div t a b ≡ Ok q → computed Rem t a b ≡ Ok r → q *ℤ b +ℤ r ≡ a
