-- Words of numbers: the effect of conversions and operations on them.
use Rattle.std.proofs.Common.{◌≡◌, ℕ, zero, suc, ◌-◌, ◌%◌, ◌^◌, ◌<◌, ◌≤◌, Bool, true, false, not, ◌&&◌, ◌||◌, ℤ, pos, negsuc, ◌≤ℤ◌, ◌*ℤ◌, Ok, Err, refl, ap, ◌∙◌, arith}
use Rattle.std.specs.Prelude.{◌==◌, nat_lt, int_le, int_lt, if◌then◌else◌}
use Rattle.std.proofs.lemmas.Int.{ints}
use Rattle.std.proofs.lemmas.Bool.Decides.{nat_tests}
use Rattle.ctypes.specs.declared.types.IntType.{IntType}
use Rattle.ctypes.specs.declared.types.IntType.TheVariants as ty
use Rattle.ctypes.specs.declared.operators.BinOp.{BinOp}
use Rattle.ctypes.specs.declared.operators.BinOp.TheVariants as op
use Rattle.ctypes.specs.declared.operators.Undef.TheVariants.{U3}
use Rattle.ctypes.specs.Types.{least, greatest, IsValueOf, is_value_of, truth, of_truth, modulo, converted}
use Rattle.ctypes.specs.Arithmetic.{computed, is_count, shifted_left, quotient_down, magnitude}
use Rattle.ctypes.proofs.Uses.{converted_fits, converted_keeps, converted_is_congruent}
use Rattle.typing_spec.specs.Operators.{operated, right_operand}
use Rattle.tac_code.specs.Run.{word_for, number_of, is_word_of, type_of}
use Rattle.lower_wf.specs.Asked.{is_wide}
use Rattle.lower_correct.specs.Values.{smallest, holds_all, stays_word, reading_of}

pub differ : false ≡ true → ⊥
differ e = let x : ⊥ = cc in x

pub bool_cases : {P : Type 0} → (b : Bool) → (b ≡ true → P) → (b ≡ false → P) → P
bool_cases true yes_case no_case = yes_case refl
bool_cases false yes_case no_case = no_case refl

-- ---- numbers that are values of some type

abbrev pub Ranged : ℤ → Type 0
Ranged v = (negsuc 2147483647 ≤ℤ v) × (v ≤ℤ pos 4294967295)

pub ranged : (t : IntType) (v : ℤ) → IsValueOf t v → Ranged v
ranged ty.Bool v h = (omega (arith, ints, h.0, h.1), omega (arith, ints, h.0, h.1))
ranged ty.Char v h = (omega (arith, ints, h.0, h.1), omega (arith, ints, h.0, h.1))
ranged ty.SChar v h = (omega (arith, ints, h.0, h.1), omega (arith, ints, h.0, h.1))
ranged ty.UChar v h = (omega (arith, ints, h.0, h.1), omega (arith, ints, h.0, h.1))
ranged ty.Short v h = (omega (arith, ints, h.0, h.1), omega (arith, ints, h.0, h.1))
ranged ty.UShort v h = (omega (arith, ints, h.0, h.1), omega (arith, ints, h.0, h.1))
ranged ty.Int v h = (omega (arith, ints, h.0, h.1), omega (arith, ints, h.0, h.1))
ranged ty.UInt v h = (omega (arith, ints, h.0, h.1), omega (arith, ints, h.0, h.1))
ranged ty.Long v h = (omega (arith, ints, h.0, h.1), omega (arith, ints, h.0, h.1))
ranged ty.ULong v h = (omega (arith, ints, h.0, h.1), omega (arith, ints, h.0, h.1))

pub word_small : (v : ℤ) → word_for v < 2 ^ 32
word_small (pos n) = omega arith
word_small (negsuc n) = omega arith

-- ---- conversions see the low bits alone

pub low8 : (v : ℤ) → modulo 8 (pos (word_for v)) ≡ modulo 8 v
low8 (pos n) = omega arith
low8 (negsuc n) = omega arith

low16 : (v : ℤ) → modulo 16 (pos (word_for v)) ≡ modulo 16 v
low16 (pos n) = omega arith
low16 (negsuc n) = omega arith

low32 : (v : ℤ) → modulo 32 (pos (word_for v)) ≡ modulo 32 v
low32 (pos n) = omega arith
low32 (negsuc n) = omega arith

truth_of_positive : (m : ℕ) → 0 < m → truth (pos m) ≡ true
truth_of_positive zero h = absurd (omega (arith, h))
truth_of_positive (suc m) h = refl

truth_again : (v : ℤ) → Ranged v → truth (pos (word_for v)) ≡ truth v
truth_again (pos n) h = let e : n % 2 ^ 32 ≡ n = omega (arith, ints, h.1) in ap (λ m. truth (pos m)) e
truth_again (negsuc n) h = truth_of_positive (2 ^ 32 - 1 - n % 2 ^ 32) (omega (arith, ints, h.0))

-- converting a number's word is converting the number
pub converts_again : (t : IntType) (v : ℤ) → Ranged v → number_of t (word_for v) ≡ converted t v
converts_again ty.Bool v h = ap of_truth (truth_again v h)
converts_again ty.Char v h = ap pos (low8 v)
converts_again ty.SChar v h = ap (λ w. if nat_lt w (2 ^ 7) then pos w else negsuc (2 ^ 8 - 1 - w)) (low8 v)
converts_again ty.UChar v h = ap pos (low8 v)
converts_again ty.Short v h = ap (λ w. if nat_lt w (2 ^ 15) then pos w else negsuc (2 ^ 16 - 1 - w)) (low16 v)
converts_again ty.UShort v h = ap pos (low16 v)
converts_again ty.Int v h = ap (λ w. if nat_lt w (2 ^ 31) then pos w else negsuc (2 ^ 32 - 1 - w)) (low32 v)
converts_again ty.UInt v h = ap pos (low32 v)
converts_again ty.Long v h = ap (λ w. if nat_lt w (2 ^ 31) then pos w else negsuc (2 ^ 32 - 1 - w)) (low32 v)
converts_again ty.ULong v h = ap pos (low32 v)

-- a type of 32 bits keeps each word
pub wide_word : (t : IntType) (v : ℤ) → is_wide t ≡ true → word_for (converted t v) ≡ word_for v
wide_word ty.Bool v h = absurd (differ h)
wide_word ty.Char v h = absurd (differ h)
wide_word ty.SChar v h = absurd (differ h)
wide_word ty.UChar v h = absurd (differ h)
wide_word ty.Short v h = absurd (differ h)
wide_word ty.UShort v h = absurd (differ h)
wide_word ty.Int v h = converted_is_congruent ty.Int v (omega arith)
wide_word ty.UInt v h = converted_is_congruent ty.UInt v (omega arith)
wide_word ty.Long v h = converted_is_congruent ty.Long v (omega arith)
wide_word ty.ULong v h = converted_is_congruent ty.ULong v (omega arith)

-- ---- tests of truths

pub zero_test : (v : ℤ) → Ranged v → (word_for v == 0) ≡ not (truth v)
zero_test (pos zero) h = refl
zero_test (pos (suc n)) h = let e : suc n % 2 ^ 32 ≡ suc n = omega (arith, ints, h.1) in ap (λ m. m == 0) e ∙ grind (arith, nat_tests)
zero_test (negsuc n) h = let e : 0 < 2 ^ 32 - 1 - n % 2 ^ 32 = omega (arith, ints, h.0) in grind (arith, nat_tests)

pub truth_of : (b : Bool) → truth (of_truth b) ≡ b
truth_of true = refl
truth_of false = refl

-- ---- types that have each other's values

pub le_holds : (a b : ℤ) → int_le a b ≡ true → a ≤ℤ b
le_holds a b h = grind (arith, nat_tests, ints, h)

pub left_true : (a b : Bool) → (a && b) ≡ true → a ≡ true
left_true true b h = refl
left_true false b h = absurd (differ h)

pub right_true : (a b : Bool) → (a && b) ≡ true → b ≡ true
right_true true b h = h
right_true false b h = absurd (differ h)

pub is_value : (t : IntType) (v : ℤ) → is_value_of t v ≡ true → IsValueOf t v
is_value t v h = (
  le_holds (least t) v (left_true (int_le (least t) v) (int_le v (greatest t)) h),
  le_holds v (greatest t) (right_true (int_le (least t) v) (int_le v (greatest t)) h),
)

le_on : (a b c : ℤ) → a ≤ℤ b → b ≤ℤ c → a ≤ℤ c
le_on a b c h g = omega (arith, ints, h, g)

pub has_all : (t u : IntType) (v : ℤ) → holds_all t u ≡ true → IsValueOf u v → IsValueOf t v
has_all t u v h g = (
  le_on (least t) (least u) v (le_holds (least t) (least u) (left_true (int_le (least t) (least u)) (int_le (greatest u) (greatest t)) h)) g.0,
  le_on v (greatest u) (greatest t) g.1 (le_holds (greatest u) (greatest t) (right_true (int_le (least t) (least u)) (int_le (greatest u) (greatest t)) h)),
)

if_has : (b : Bool) (t u : IntType) (v : ℤ) → (b ≡ true → IsValueOf t v) → IsValueOf u v → IsValueOf (if b then t else u) v
if_has true t u v h g = h refl
if_has false t u v h g = g

pub smallest_has : (t : IntType) (v : ℤ) → IsValueOf t v → IsValueOf (smallest t v) v
smallest_has t v h =
    if_has (is_value_of ty.Bool v) ty.Bool _ v (is_value ty.Bool v) (if_has (is_value_of ty.UChar v) ty.UChar _ v (is_value ty.UChar v)
    (if_has (is_value_of ty.SChar v) ty.SChar _ v (is_value ty.SChar v) (if_has (is_value_of ty.UShort v) ty.UShort _ v (is_value ty.UShort v)
    (if_has (is_value_of ty.Short v) ty.Short t v (is_value ty.Short v) h))))

pub truth_fits : (b : Bool) → IsValueOf ty.Bool (of_truth b)
truth_fits true = (omega (arith, ints), omega (arith, ints))
truth_fits false = (omega (arith, ints), omega (arith, ints))

-- ---- words that stay

stays_if : (b : Bool) (t u : IntType) (v : ℤ) → is_wide t ≡ b → (b || holds_all t u) ≡ true → IsValueOf u v → word_for (converted t v) ≡ word_for v
stays_if true t u v e h g = wide_word t v e
stays_if false t u v e h g = ap word_for (converted_keeps t v (has_all t u v h g))

pub word_stays : (t u : IntType) (v : ℤ) → stays_word t u ≡ true → IsValueOf u v → word_for (converted t v) ≡ word_for v
word_stays t u v h g = stays_if (is_wide t) t u v refl h g

same_test : (n : ℕ) → (n == n) ≡ true
same_test n = grind (arith, nat_tests)

-- a word that conversion to t leaves is that of a value of t
pub is_word : (t : IntType) (v : ℤ) → Ranged v → word_for (converted t v) ≡ word_for v → is_word_of t (word_for v) ≡ true
is_word t v r h = ap (λ z. word_for z == word_for v) (converts_again t v r) ∙ (ap (λ w. w == word_for v) h ∙ same_test (word_for v))

pub converted_is_word : (t : IntType) (v : ℤ) → is_word_of t (word_for (converted t v)) ≡ true
converted_is_word t v =
    is_word t (converted t v) (ranged t (converted t v) (converted_fits t v)) (ap word_for (converted_keeps t (converted t v) (converted_fits t v)))

-- ---- operations

abbrev pub IsOperated : BinOp → IntType → IntType → ℤ → ℤ → Type 0
IsOperated o u t a b = operated o u (pos (word_for a)) (pos (word_for b)) ≡ operated o t a b

count_above : (n : ℕ) → 32 ≤ n → (int_le (pos 0) (pos n) && int_lt (pos n) (pos 32)) ≡ false
count_above n h = let low : int_lt (pos n) (pos 32) ≡ false = grind (arith, nat_tests) in ap (λ b. int_le (pos 0) (pos n) && b) low ∙ grind (arith, nat_tests)

abbrev pub NoCounts : IntType → Type 0
NoCounts t = (n : ℕ) → 32 ≤ n → is_count t (pos n) ≡ false

shift_left : (t : IntType) (x b : ℤ) → Ranged b → NoCounts t → computed op.Shl t x (pos (word_for b)) ≡ computed op.Shl t x b
shift_left t x (pos n) h high = let same : n % 2 ^ 32 ≡ n = omega (arith, ints, h.1) in ap (λ m. computed op.Shl t x (pos m)) same
shift_left t x (negsuc n) h high =
    let w = 2 ^ 32 - 1 - n % 2 ^ 32 in
    ap (λ c. if c then shifted_left t x (x *ℤ pos (2 ^ magnitude (pos w))) else Err U3) (high w (omega (arith, ints, h.0)))

shift_right : (t : IntType) (x b : ℤ) → Ranged b → NoCounts t → computed op.Shr t x (pos (word_for b)) ≡ computed op.Shr t x b
shift_right t x (pos n) h high = let same : n % 2 ^ 32 ≡ n = omega (arith, ints, h.1) in ap (λ m. computed op.Shr t x (pos m)) same
shift_right t x (negsuc n) h high =
    let w = 2 ^ 32 - 1 - n % 2 ^ 32 in
    ap (λ c. if c then Ok (quotient_down x (2 ^ magnitude (pos w))) else Err U3) (high w (omega (arith, ints, h.0)))

-- the right operand of a word
right_word : (o : BinOp) (t : IntType) (x b : ℤ) → Ranged b → converted t (pos (word_for b)) ≡ converted t b → NoCounts t
    → computed o t x (right_operand o t (pos (word_for b))) ≡ computed o t x (right_operand o t b)
right_word op.Mul t x b h e high = ap (computed op.Mul t x) e
right_word op.Div t x b h e high = ap (computed op.Div t x) e
right_word op.Rem t x b h e high = ap (computed op.Rem t x) e
right_word op.Add t x b h e high = ap (computed op.Add t x) e
right_word op.Sub t x b h e high = ap (computed op.Sub t x) e
right_word op.Shl t x b h e high = shift_left t x b h high
right_word op.Shr t x b h e high = shift_right t x b h high
right_word op.Less t x b h e high = ap (computed op.Less t x) e
right_word op.Greater t x b h e high = ap (computed op.Greater t x) e
right_word op.LessEqual t x b h e high = ap (computed op.LessEqual t x) e
right_word op.GreaterEqual t x b h e high = ap (computed op.GreaterEqual t x) e
right_word op.Equal t x b h e high = ap (computed op.Equal t x) e
right_word op.NotEqual t x b h e high = ap (computed op.NotEqual t x) e
right_word op.BitAnd t x b h e high = ap (computed op.BitAnd t x) e
right_word op.BitXor t x b h e high = ap (computed op.BitXor t x) e
right_word op.BitOr t x b h e high = ap (computed op.BitOr t x) e

words_of_int : (o : BinOp) (a b : ℤ) → Ranged a → Ranged b → IsOperated o ty.Int ty.Int a b
words_of_int o a b ha hb =
    ap (λ x. computed o ty.Int x (right_operand o ty.Int (pos (word_for b)))) (converts_again ty.Int a ha)
    ∙ right_word o ty.Int (converted ty.Int a) b hb (converts_again ty.Int b hb) count_above

words_of_unsigned : (o : BinOp) (a b : ℤ) → Ranged a → Ranged b → IsOperated o ty.UInt ty.UInt a b
words_of_unsigned o a b ha hb =
    ap (λ x. computed o ty.UInt x (right_operand o ty.UInt (pos (word_for b)))) (converts_again ty.UInt a ha)
    ∙ right_word o ty.UInt (converted ty.UInt a) b hb (converts_again ty.UInt b hb) count_above

-- the types of 32 bits compute in two ways
as_long : (o : BinOp) (a b : ℤ) → operated o ty.Int a b ≡ operated o ty.Long a b
as_long op.Mul a b = refl
as_long op.Div a b = refl
as_long op.Rem a b = refl
as_long op.Add a b = refl
as_long op.Sub a b = refl
as_long op.Shl a b = refl
as_long op.Shr a b = refl
as_long op.Less a b = refl
as_long op.Greater a b = refl
as_long op.LessEqual a b = refl
as_long op.GreaterEqual a b = refl
as_long op.Equal a b = refl
as_long op.NotEqual a b = refl
as_long op.BitAnd a b = refl
as_long op.BitXor a b = refl
as_long op.BitOr a b = refl

as_unsigned_long : (o : BinOp) (a b : ℤ) → operated o ty.UInt a b ≡ operated o ty.ULong a b
as_unsigned_long op.Mul a b = refl
as_unsigned_long op.Div a b = refl
as_unsigned_long op.Rem a b = refl
as_unsigned_long op.Add a b = refl
as_unsigned_long op.Sub a b = refl
as_unsigned_long op.Shl a b = refl
as_unsigned_long op.Shr a b = refl
as_unsigned_long op.Less a b = refl
as_unsigned_long op.Greater a b = refl
as_unsigned_long op.LessEqual a b = refl
as_unsigned_long op.GreaterEqual a b = refl
as_unsigned_long op.Equal a b = refl
as_unsigned_long op.NotEqual a b = refl
as_unsigned_long op.BitAnd a b = refl
as_unsigned_long op.BitXor a b = refl
as_unsigned_long op.BitOr a b = refl

-- an operation on words is the operation on the numbers
pub operated_words : (o : BinOp) (t : IntType) (a b : ℤ) → is_wide t ≡ true → Ranged a → Ranged b → IsOperated o (type_of (reading_of t)) t a b
operated_words o ty.Bool a b h ha hb = absurd (differ h)
operated_words o ty.Char a b h ha hb = absurd (differ h)
operated_words o ty.SChar a b h ha hb = absurd (differ h)
operated_words o ty.UChar a b h ha hb = absurd (differ h)
operated_words o ty.Short a b h ha hb = absurd (differ h)
operated_words o ty.UShort a b h ha hb = absurd (differ h)
operated_words o ty.Int a b h ha hb = words_of_int o a b ha hb
operated_words o ty.UInt a b h ha hb = words_of_unsigned o a b ha hb
operated_words o ty.Long a b h ha hb = words_of_int o a b ha hb ∙ as_long o a b
operated_words o ty.ULong a b h ha hb = words_of_unsigned o a b ha hb ∙ as_unsigned_long o a b

-- the number of a word, as a comparison takes it
pub number_again : (t : IntType) (a : ℤ) → is_wide t ≡ true → Ranged a → number_of (type_of (reading_of t)) (word_for a) ≡ converted t a
number_again ty.Bool a h r = absurd (differ h)
number_again ty.Char a h r = absurd (differ h)
number_again ty.SChar a h r = absurd (differ h)
number_again ty.UChar a h r = absurd (differ h)
number_again ty.Short a h r = absurd (differ h)
number_again ty.UShort a h r = absurd (differ h)
number_again ty.Int a h r = converts_again ty.Int a r
number_again ty.UInt a h r = converts_again ty.UInt a r
number_again ty.Long a h r = converts_again ty.Int a r
number_again ty.ULong a h r = converts_again ty.UInt a r
