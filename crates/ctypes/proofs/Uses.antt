-- The laws of `specs/Laws.antt`, for proofs to cite.
use Rattle.std.proofs.Common.{◌≡◌, ℕ, zero, suc, ◌^◌, ◌≤◌, Bool, true, false, not, ◌&&◌, ℤ, pos, negsuc, ◌≤ℤ◌, refl, sym, subst, ◌∙◌, arith}
use Rattle.std.specs.Prelude.{int_le, int_lt, if◌then◌else◌, Result, Ok, Err, IfOk, IfErr}
use Rattle.std.proofs.lemmas.Int.{ints}
use Rattle.std.proofs.Math.Nat.{div-le_self, mod-le}
use Rattle.std.proofs.lemmas.Int.{quot-rem}
use Rattle.std.specs.Prelude.{int_div, int_rem, neg_ℤ, ◌*ℤ◌, ◌+ℤ◌, ◌%◌}
use Rattle.std.proofs.Common.{ap}
use Rattle.std.specs.Int.RustNames.{unsigned_abs}
use Rattle.std.proofs.lemmas.Bool.Decides.{nat_tests}
use Rattle.ctypes.specs.declared.types.IntType.{IntType}
use Rattle.ctypes.specs.declared.types.IntType.TheVariants as ty
use Rattle.ctypes.specs.declared.types.IntType.TheVariants.{Char, SChar, UChar, Short, UShort, Int, UInt, Long, ULong}
use Rattle.ctypes.specs.declared.operators.BinOp.TheVariants.{Mul, Div, Rem, Add, Sub, Shl, Shr, Less, Greater, LessEqual, GreaterEqual, Equal, NotEqual, BitAnd, BitXor, BitOr}
use Rattle.ctypes.specs.declared.operators.Undef.{Undef}
use Rattle.ctypes.specs.declared.operators.Undef.TheVariants.{U1, U2, U3, U4}
use Rattle.ctypes.specs.Types.{signed, IsValueOf, is_value_of, promoted, common, truth, of_truth, converted, least, greatest, modulo, bits_of}
use Rattle.ctypes.specs.Arithmetic.{computed, number_of, in_range, divided, is_count, magnitude, quotient_down}
use Rattle.ctypes.specs.Laws.{PromotedStays, PromotedHasValues, UsualCommutes, UsualOfSame, UsualIsPromoted, UsualIsByRank, ConvertedFits, ConvertedKeeps, ConvertedIsCongruent, ResultIsCongruent, QuotientIsExact, RemainderIsExact, DivisionAddsUp, RightFits, ComputedFits, ComputedRefuses, SignedIsExact, by_signedness}

-- ---- promotion and the usual arithmetic conversions

pub promoted_stays : PromotedStays
promoted_stays ty.Bool = refl
promoted_stays Char = refl
promoted_stays SChar = refl
promoted_stays UChar = refl
promoted_stays Short = refl
promoted_stays UShort = refl
promoted_stays Int = refl
promoted_stays UInt = refl
promoted_stays Long = refl
promoted_stays ULong = refl

pub promoted_has_values : PromotedHasValues
promoted_has_values ty.Bool v h = (omega (arith, ints, h.0, h.1), omega (arith, ints, h.0, h.1))
promoted_has_values Char v h = (omega (arith, ints, h.0, h.1), omega (arith, ints, h.0, h.1))
promoted_has_values SChar v h = (omega (arith, ints, h.0, h.1), omega (arith, ints, h.0, h.1))
promoted_has_values UChar v h = (omega (arith, ints, h.0, h.1), omega (arith, ints, h.0, h.1))
promoted_has_values Short v h = (omega (arith, ints, h.0, h.1), omega (arith, ints, h.0, h.1))
promoted_has_values UShort v h = (omega (arith, ints, h.0, h.1), omega (arith, ints, h.0, h.1))
promoted_has_values Int v h = h
promoted_has_values UInt v h = h
promoted_has_values Long v h = h
promoted_has_values ULong v h = h

-- a property of each promoted type holds of each promotion
of_promotion : (P : IntType → Type 0) → P Int → P UInt → P Long → P ULong → (t : IntType) → P (promoted t)
of_promotion P i u l ul ty.Bool = i
of_promotion P i u l ul Char = i
of_promotion P i u l ul SChar = i
of_promotion P i u l ul UChar = i
of_promotion P i u l ul Short = i
of_promotion P i u l ul UShort = i
of_promotion P i u l ul Int = i
of_promotion P i u l ul UInt = u
of_promotion P i u l ul Long = l
of_promotion P i u l ul ULong = ul

pub usual_commutes : UsualCommutes
usual_commutes a b = of_promotion (λ x. common x (promoted b) ≡ common (promoted b) x)
    (of_promotion (λ y. common Int y ≡ common y Int) refl refl refl refl b)
    (of_promotion (λ y. common UInt y ≡ common y UInt) refl refl refl refl b)
    (of_promotion (λ y. common Long y ≡ common y Long) refl refl refl refl b)
    (of_promotion (λ y. common ULong y ≡ common y ULong) refl refl refl refl b) a

pub usual_of_same : UsualOfSame
usual_of_same t = of_promotion (λ x. common x x ≡ x) refl refl refl refl t

pub usual_is_promoted : UsualIsPromoted
usual_is_promoted a b = of_promotion (λ x. promoted (common x (promoted b)) ≡ common x (promoted b))
    (of_promotion (λ y. promoted (common Int y) ≡ common Int y) refl refl refl refl b)
    (of_promotion (λ y. promoted (common UInt y) ≡ common UInt y) refl refl refl refl b)
    (of_promotion (λ y. promoted (common Long y) ≡ common Long y) refl refl refl refl b)
    (of_promotion (λ y. promoted (common ULong y) ≡ common ULong y) refl refl refl refl b) a

pub usual_is_by_rank : UsualIsByRank
usual_is_by_rank a b = of_promotion (λ x. common x (promoted b) ≡ by_signedness (signed x) (signed (promoted b)) x (promoted b))
    (of_promotion (λ y. common Int y ≡ by_signedness (signed Int) (signed y) Int y) refl refl refl refl b)
    (of_promotion (λ y. common UInt y ≡ by_signedness (signed UInt) (signed y) UInt y) refl refl refl refl b)
    (of_promotion (λ y. common Long y ≡ by_signedness (signed Long) (signed y) Long y) refl refl refl refl b)
    (of_promotion (λ y. common ULong y ≡ by_signedness (signed ULong) (signed y) ULong y) refl refl refl refl b) a

-- ---- conversion

truth_fits : (t : IntType) (b : Bool) → IsValueOf t (of_truth b)
truth_fits ty.Bool true = (omega (arith, ints), omega (arith, ints))
truth_fits ty.Bool false = (omega (arith, ints), omega (arith, ints))
truth_fits Char true = (omega (arith, ints), omega (arith, ints))
truth_fits Char false = (omega (arith, ints), omega (arith, ints))
truth_fits SChar true = (omega (arith, ints), omega (arith, ints))
truth_fits SChar false = (omega (arith, ints), omega (arith, ints))
truth_fits UChar true = (omega (arith, ints), omega (arith, ints))
truth_fits UChar false = (omega (arith, ints), omega (arith, ints))
truth_fits Short true = (omega (arith, ints), omega (arith, ints))
truth_fits Short false = (omega (arith, ints), omega (arith, ints))
truth_fits UShort true = (omega (arith, ints), omega (arith, ints))
truth_fits UShort false = (omega (arith, ints), omega (arith, ints))
truth_fits Int true = (omega (arith, ints), omega (arith, ints))
truth_fits Int false = (omega (arith, ints), omega (arith, ints))
truth_fits UInt true = (omega (arith, ints), omega (arith, ints))
truth_fits UInt false = (omega (arith, ints), omega (arith, ints))
truth_fits Long true = (omega (arith, ints), omega (arith, ints))
truth_fits Long false = (omega (arith, ints), omega (arith, ints))
truth_fits ULong true = (omega (arith, ints), omega (arith, ints))
truth_fits ULong false = (omega (arith, ints), omega (arith, ints))

pub converted_fits : ConvertedFits
converted_fits ty.Bool v = truth_fits ty.Bool (truth v)
converted_fits Char (pos n) = (grind (arith, nat_tests, ints), grind (arith, nat_tests, ints))
converted_fits Char (negsuc n) = (grind (arith, nat_tests, ints), grind (arith, nat_tests, ints))
converted_fits SChar (pos n) = (grind (arith, nat_tests, ints), grind (arith, nat_tests, ints))
converted_fits SChar (negsuc n) = (grind (arith, nat_tests, ints), grind (arith, nat_tests, ints))
converted_fits UChar (pos n) = (grind (arith, nat_tests, ints), grind (arith, nat_tests, ints))
converted_fits UChar (negsuc n) = (grind (arith, nat_tests, ints), grind (arith, nat_tests, ints))
converted_fits Short (pos n) = (grind (arith, nat_tests, ints), grind (arith, nat_tests, ints))
converted_fits Short (negsuc n) = (grind (arith, nat_tests, ints), grind (arith, nat_tests, ints))
converted_fits UShort (pos n) = (grind (arith, nat_tests, ints), grind (arith, nat_tests, ints))
converted_fits UShort (negsuc n) = (grind (arith, nat_tests, ints), grind (arith, nat_tests, ints))
converted_fits Int (pos n) = (grind (arith, nat_tests, ints), grind (arith, nat_tests, ints))
converted_fits Int (negsuc n) = (grind (arith, nat_tests, ints), grind (arith, nat_tests, ints))
converted_fits UInt (pos n) = (grind (arith, nat_tests, ints), grind (arith, nat_tests, ints))
converted_fits UInt (negsuc n) = (grind (arith, nat_tests, ints), grind (arith, nat_tests, ints))
converted_fits Long (pos n) = (grind (arith, nat_tests, ints), grind (arith, nat_tests, ints))
converted_fits Long (negsuc n) = (grind (arith, nat_tests, ints), grind (arith, nat_tests, ints))
converted_fits ULong (pos n) = (grind (arith, nat_tests, ints), grind (arith, nat_tests, ints))
converted_fits ULong (negsuc n) = (grind (arith, nat_tests, ints), grind (arith, nat_tests, ints))

pub converted_keeps : ConvertedKeeps
converted_keeps ty.Bool (pos zero) h = refl
converted_keeps ty.Bool (pos (suc n)) h = grind (arith, nat_tests, ints, h.0, h.1)
converted_keeps ty.Bool (negsuc n) h = grind (arith, nat_tests, ints, h.0, h.1)
converted_keeps Char (pos n) h = grind (arith, nat_tests, ints, h.0, h.1)
converted_keeps Char (negsuc n) h = grind (arith, nat_tests, ints, h.0, h.1)
converted_keeps SChar (pos n) h = grind (arith, nat_tests, ints, h.0, h.1)
converted_keeps SChar (negsuc n) h = grind (arith, nat_tests, ints, h.0, h.1)
converted_keeps UChar (pos n) h = grind (arith, nat_tests, ints, h.0, h.1)
converted_keeps UChar (negsuc n) h = grind (arith, nat_tests, ints, h.0, h.1)
converted_keeps Short (pos n) h = grind (arith, nat_tests, ints, h.0, h.1)
converted_keeps Short (negsuc n) h = grind (arith, nat_tests, ints, h.0, h.1)
converted_keeps UShort (pos n) h = grind (arith, nat_tests, ints, h.0, h.1)
converted_keeps UShort (negsuc n) h = grind (arith, nat_tests, ints, h.0, h.1)
converted_keeps Int (pos n) h = grind (arith, nat_tests, ints, h.0, h.1)
converted_keeps Int (negsuc n) h = grind (arith, nat_tests, ints, h.0, h.1)
converted_keeps UInt (pos n) h = grind (arith, nat_tests, ints, h.0, h.1)
converted_keeps UInt (negsuc n) h = grind (arith, nat_tests, ints, h.0, h.1)
converted_keeps Long (pos n) h = grind (arith, nat_tests, ints, h.0, h.1)
converted_keeps Long (negsuc n) h = grind (arith, nat_tests, ints, h.0, h.1)
converted_keeps ULong (pos n) h = grind (arith, nat_tests, ints, h.0, h.1)
converted_keeps ULong (negsuc n) h = grind (arith, nat_tests, ints, h.0, h.1)

pub converted_is_congruent : ConvertedIsCongruent
converted_is_congruent ty.Bool v h = absurd (omega (arith, h))
converted_is_congruent Char (pos n) h = grind (arith, nat_tests)
converted_is_congruent Char (negsuc n) h = grind (arith, nat_tests)
converted_is_congruent SChar (pos n) h = grind (arith, nat_tests)
converted_is_congruent SChar (negsuc n) h = grind (arith, nat_tests)
converted_is_congruent UChar (pos n) h = grind (arith, nat_tests)
converted_is_congruent UChar (negsuc n) h = grind (arith, nat_tests)
converted_is_congruent Short (pos n) h = grind (arith, nat_tests)
converted_is_congruent Short (negsuc n) h = grind (arith, nat_tests)
converted_is_congruent UShort (pos n) h = grind (arith, nat_tests)
converted_is_congruent UShort (negsuc n) h = grind (arith, nat_tests)
converted_is_congruent Int (pos n) h = grind (arith, nat_tests)
converted_is_congruent Int (negsuc n) h = grind (arith, nat_tests)
converted_is_congruent UInt (pos n) h = grind (arith, nat_tests)
converted_is_congruent UInt (negsuc n) h = grind (arith, nat_tests)
converted_is_congruent Long (pos n) h = grind (arith, nat_tests)
converted_is_congruent Long (negsuc n) h = grind (arith, nat_tests)
converted_is_congruent ULong (pos n) h = grind (arith, nat_tests)
converted_is_congruent ULong (negsuc n) h = grind (arith, nat_tests)

-- ---- operations

pub right_fits : RightFits
right_fits Mul t b h = h
right_fits Div t b h = h
right_fits Rem t b h = h
right_fits Add t b h = h
right_fits Sub t b h = h
right_fits Shl t b h = tt
right_fits Shr t b h = tt
right_fits Less t b h = h
right_fits Greater t b h = h
right_fits LessEqual t b h = h
right_fits GreaterEqual t b h = h
right_fits Equal t b h = h
right_fits NotEqual t b h = h
right_fits BitAnd t b h = h
right_fits BitXor t b h = h
right_fits BitOr t b h = h

-- a property of the value of a result
abbrev pub Gives : (ℤ → Type 0) → Result ℤ Undef → Type 0
Gives P r = IfOk r P

if_fits : (P : ℤ → Type 0) (b : Bool) (r : Result ℤ Undef) (act : Undef) → Gives P r → Gives P (if b then r else Err act)
if_fits P true r act h = h
if_fits P false r act h = tt

unless_fits : (P : ℤ → Type 0) (b : Bool) (r : Result ℤ Undef) (act : Undef) → Gives P r → Gives P (if b then Err act else r)
unless_fits P true r act h = tt
unless_fits P false r act h = h

pub range_fits : (act : Undef) (t : IntType) (w v : ℤ) → Gives (IsValueOf t) (in_range act t w v)
range_fits act t w v = unless_fits (IsValueOf t) (signed t && not (is_value_of t w)) (Ok (converted t v)) act (converted_fits t v)

pub divided_fits : (t : IntType) (b w v : ℤ) → Gives (IsValueOf t) (divided t b w v)
divided_fits t b w v = if_fits (IsValueOf t) (truth b) (in_range U1 t w v) U2 (range_fits U1 t w v)

-- rounding down goes towards 0 or -1
quotient_between : (a : ℤ) (m : ℕ) (low high : ℤ) → low ≤ℤ a → a ≤ℤ high → low ≤ℤ pos 0 → pos 0 ≤ℤ high → (low ≤ℤ quotient_down a m) × (quotient_down a m ≤ℤ high)
quotient_between (pos n) m low high h k l g = (omega (arith, ints, h, k, l, g, div-le_self n m), omega (arith, ints, h, k, l, g, div-le_self n m))
quotient_between (negsuc n) m low high h k l g = (omega (arith, ints, h, k, l, g, div-le_self n m), omega (arith, ints, h, k, l, g, div-le_self n m))

low : (t : IntType) → least t ≤ℤ pos 0
low ty.Bool = omega (arith, ints)
low Char = omega (arith, ints)
low SChar = omega (arith, ints)
low UChar = omega (arith, ints)
low Short = omega (arith, ints)
low UShort = omega (arith, ints)
low Int = omega (arith, ints)
low UInt = omega (arith, ints)
low Long = omega (arith, ints)
low ULong = omega (arith, ints)

high : (t : IntType) → pos 0 ≤ℤ greatest t
high ty.Bool = omega (arith, ints)
high Char = omega (arith, ints)
high SChar = omega (arith, ints)
high UChar = omega (arith, ints)
high Short = omega (arith, ints)
high UShort = omega (arith, ints)
high Int = omega (arith, ints)
high UInt = omega (arith, ints)
high Long = omega (arith, ints)
high ULong = omega (arith, ints)

half_fits : (t : IntType) (a : ℤ) (m : ℕ) → IsValueOf t a → IsValueOf t (quotient_down a m)
half_fits t a m h = quotient_between a m (least t) (greatest t) h.0 h.1 (low t) (high t)

pub shifted_fits : (t : IntType) (a b : ℤ) → Gives (IsValueOf t) (computed Shl t a b)
shifted_fits t a b = if_fits (IsValueOf t) (is_count t b) _ _ (unless_fits (IsValueOf t) (int_lt a (pos 0)) _ _ (range_fits U4 t _ _))

pub computed_fits : ComputedFits
computed_fits Mul t a b h = range_fits U1 t _ _
computed_fits Div t a b h = divided_fits t b _ _
computed_fits Rem t a b h = divided_fits t b _ _
computed_fits Add t a b h = range_fits U1 t _ _
computed_fits Sub t a b h = range_fits U1 t _ _
computed_fits Shl t a b h = shifted_fits t a b
computed_fits Shr t a b h = if_fits (IsValueOf t) (is_count t b) (Ok (quotient_down a (2 ^ magnitude b))) U3 (half_fits t a (2 ^ magnitude b) h)
computed_fits Less t a b h = truth_fits Int _
computed_fits Greater t a b h = truth_fits Int _
computed_fits LessEqual t a b h = truth_fits Int _
computed_fits GreaterEqual t a b h = truth_fits Int _
computed_fits Equal t a b h = truth_fits Int _
computed_fits NotEqual t a b h = truth_fits Int _
computed_fits BitAnd t a b h = converted_fits t _
computed_fits BitXor t a b h = converted_fits t _
computed_fits BitOr t a b h = converted_fits t _

abbrev Refuses : Result ℤ Undef → Type 0
Refuses r = IfErr r (λ act. number_of act ≤ 4)

refuses_if : (b : Bool) (r s : Result ℤ Undef) → Refuses r → Refuses s → Refuses (if b then r else s)
refuses_if true r s h k = h
refuses_if false r s h k = k

range_refuses : (act : Undef) (t : IntType) (w v : ℤ) → number_of act ≤ 4 → Refuses (in_range act t w v)
range_refuses act t w v h = refuses_if (signed t && not (is_value_of t w)) (Err act) (Ok (converted t v)) h tt

pub computed_refuses : ComputedRefuses
computed_refuses Mul t a b = range_refuses U1 t _ _ (omega arith)
computed_refuses Div t a b = refuses_if (truth b) _ _ (range_refuses U1 t _ _ (omega arith)) (omega arith)
computed_refuses Rem t a b = refuses_if (truth b) _ _ (range_refuses U1 t _ _ (omega arith)) (omega arith)
computed_refuses Add t a b = range_refuses U1 t _ _ (omega arith)
computed_refuses Sub t a b = range_refuses U1 t _ _ (omega arith)
computed_refuses Shl t a b = refuses_if (is_count t b) _ _ (refuses_if (int_lt a (pos 0)) _ _ (omega arith) (range_refuses U4 t _ _ (omega arith))) (omega arith)
computed_refuses Shr t a b = refuses_if (is_count t b) _ _ tt (omega arith)
computed_refuses Less t a b = tt
computed_refuses Greater t a b = tt
computed_refuses LessEqual t a b = tt
computed_refuses GreaterEqual t a b = tt
computed_refuses Equal t a b = tt
computed_refuses NotEqual t a b = tt
computed_refuses BitAnd t a b = tt
computed_refuses BitXor t a b = tt
computed_refuses BitOr t a b = tt

-- the test of a range, as the fact
between : (low high v : ℤ) → (int_le low v && int_le v high) ≡ true → (low ≤ℤ v) × (v ≤ℤ high)
between low high v h = (grind (arith, ints), grind (arith, ints))

-- the conversion of a number in range leaves it unchanged
kept : (act : Undef) (t : IntType) (exact v : ℤ) (b : Bool) → is_value_of t exact ≡ b → (if true && not b then Err act else Ok (converted t exact)) ≡ Ok v → v ≡ exact
kept act t exact v true e h = let same : converted t exact ≡ v = cc in sym same ∙ converted_keeps t exact (between (least t) (greatest t) exact e)
kept act t exact v false e h = cc

pub signed_is_exact : SignedIsExact
signed_is_exact act t exact v s h = kept act t exact v (is_value_of t exact) refl (subst (λ b. (if b && not (is_value_of t exact) then Err act else Ok (converted t exact)) ≡ Ok v) s h)

-- a value comes from the conversion
given : (b : Bool) (act : Undef) (x v : ℤ) → (if b then Err act else Ok x) ≡ Ok v → x ≡ v
given true act x v h = cc
given false act x v h = cc

pub result_is_congruent : ResultIsCongruent
result_is_congruent act t exact v h e = ap (modulo (bits_of t)) (sym (given (signed t && not (is_value_of t exact)) act (converted t exact) v e)) ∙ converted_is_congruent t exact h

-- ---- division

passed : (b : Bool) (r : Result ℤ Undef) (act : Undef) (v : ℤ) → (if b then r else Err act) ≡ Ok v → r ≡ Ok v
passed true r act v h = h
passed false r act v h = cc

-- a quotient of numbers that are not negative lies from 0 to the dividend
natural_quotient : (a b high : ℤ) → pos 0 ≤ℤ a → pos 0 ≤ℤ b → a ≤ℤ high → (pos 0 ≤ℤ int_div a b) × (int_div a b ≤ℤ high)
natural_quotient (pos n) (pos m) high ha hb h = (omega (arith, ints), omega (arith, ints, h, div-le_self n m))
natural_quotient (pos n) (negsuc m) high ha hb h = absurd (omega (arith, ints, hb))
natural_quotient (negsuc n) b high ha hb h = absurd (omega (arith, ints, ha))

unsigned_least : (t : IntType) → signed t ≡ false → least t ≡ pos 0
unsigned_least ty.Bool s = refl
unsigned_least Char s = refl
unsigned_least SChar s = grind arith
unsigned_least UChar s = refl
unsigned_least Short s = grind arith
unsigned_least UShort s = refl
unsigned_least Int s = grind arith
unsigned_least UInt s = refl
unsigned_least Long s = grind arith
unsigned_least ULong s = refl

exact_quotient : (s : Bool) (t : IntType) (a b v : ℤ) → signed t ≡ s → IsValueOf t a → IsValueOf t b → in_range U1 t (int_div a b) (int_div a b) ≡ Ok v → v ≡ int_div a b
exact_quotient true t a b v s ha hb e = signed_is_exact U1 t (int_div a b) v s e
exact_quotient false t a b v s ha hb e =
    let zero_least = unsigned_least t s in
    let between = natural_quotient a b (greatest t) (subst (λ l. l ≤ℤ a) zero_least ha.0) (subst (λ l. l ≤ℤ b) zero_least hb.0) ha.1 in
    let fits : IsValueOf t (int_div a b) = (subst (λ l. l ≤ℤ int_div a b) (sym zero_least) between.0, between.1) in
    sym (given (signed t && not (is_value_of t (int_div a b))) U1 (converted t (int_div a b)) v e) ∙ converted_keeps t (int_div a b) fits

pub quotient_is_exact : QuotientIsExact
quotient_is_exact t a b v ha hb e = exact_quotient (signed t) t a b v refl ha hb (passed (truth b) (in_range U1 t (int_div a b) (int_div a b)) U2 v e)

-- a remainder lies between 0 and the dividend
negative_remainder : (x n : ℕ) (low high : ℤ) → x ≤ suc n → low ≤ℤ negsuc n → low ≤ℤ pos 0 → pos 0 ≤ℤ high → (low ≤ℤ neg_ℤ (pos x)) × (neg_ℤ (pos x) ≤ℤ high)
negative_remainder zero n low high h k l g = (l, g)
negative_remainder (suc x) n low high h k l g = (omega (arith, ints, h, k, l, g), omega (arith, ints, h, k, l, g))

remainder_between : (a b low high : ℤ) → low ≤ℤ a → a ≤ℤ high → low ≤ℤ pos 0 → pos 0 ≤ℤ high → (low ≤ℤ int_rem a b) × (int_rem a b ≤ℤ high)
remainder_between (pos n) b low high h k l g = (omega (arith, ints, h, k, l, g), omega (arith, ints, h, k, l, g, mod-le n (unsigned_abs b)))
remainder_between (negsuc n) b low high h k l g = negative_remainder (suc n % unsigned_abs b) n low high (mod-le (suc n) (unsigned_abs b)) h l g

pub remainder_is_exact : RemainderIsExact
remainder_is_exact t a b v ha e =
    let fits = remainder_between a b (least t) (greatest t) ha.0 ha.1 (low t) (high t) in
    sym (given (signed t && not (is_value_of t (int_div a b))) U1 (converted t (int_rem a b)) v (passed (truth b) (in_range U1 t (int_div a b) (int_rem a b)) U2 v e)) ∙ converted_keeps t (int_rem a b) fits

pub division_adds_up : DivisionAddsUp
division_adds_up t a b q r ha hb d m = ap (λ x. x *ℤ b +ℤ r) (quotient_is_exact t a b q ha hb d) ∙ ap (λ y. int_div a b *ℤ b +ℤ y) (remainder_is_exact t a b r ha m) ∙ quot-rem a b
