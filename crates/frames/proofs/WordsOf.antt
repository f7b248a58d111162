-- Three-address code computes on words the results of the machine's operations.
use Rattle.std.proofs.Common.{◌≡◌, ◌⊎◌, inl, inr, ℕ, zero, suc, ◌+◌, ◌-◌, ◌*◌, ◌/◌, ◌%◌, ◌^◌, ◌<◌, ◌≤◌, Bool, true, false, ◌&&◌, ℤ, pos, negsuc, ◌+ℤ◌, ◌-ℤ◌, ◌*ℤ◌, Some, Result, Ok, Err, refl, sym, ap, ◌∙◌, subst, arith}
use Rattle.std.specs.Prelude.{not, ◌||◌, ◌==◌, nat_lt, nat_le, int_lt, int_le, int_div, int_rem, neg_ℤ, nat_abs, bit_and, bit_or, bit_xor, if◌then◌else◌}
use Rattle.std.specs.Int.{w32, int_shr}
use Rattle.std.proofs.lemmas.Bool.{cases_lt}
use Rattle.std.proofs.lemmas.Bool.Decides.{nat_tests}
use Rattle.std.proofs.lemmas.Int.{ints, to_z_pos}
use Rattle.std.proofs.lemmas.Nat.{and_le_l, or_of_32, xor_of_32}
use Rattle.std.proofs.Math.Nat.{div-le_self, mod-le}
use Rattle.ctypes.specs.declared.types.IntType.TheVariants as ty
use Rattle.ctypes.specs.declared.operators.Undef.{Undef}
use Rattle.ctypes.specs.declared.operators.Undef.TheVariants.{U1, U2, U3, U4}
use Rattle.ctypes.specs.Types.{modulo, converted, truth, of_truth, is_value_of}
use Rattle.ctypes.specs.Types as types
use Rattle.ctypes.specs.Arithmetic.{in_range, bitwise, is_count, shifted_left, quotient_down}
use Rattle.ctypes.proofs.Uses.{converted_is_congruent}
use Rattle.rv32.specs.declared.instr.RegisterOp.TheVariants as register_op
use Rattle.rv32.specs.declared.instr.Test.TheVariants as test
use Rattle.rv32.specs.Arithmetic as machine
use Rattle.tac_code.specs.declared.code.Reading.{Reading}
use Rattle.tac_code.specs.declared.code.Reading.TheVariants as reading
use Rattle.tac_code.specs.declared.code.Operation.TheVariants as operation
use Rattle.tac_code.specs.declared.code.Comparison.{Comparison}
use Rattle.tac_code.specs.declared.code.Comparison.TheVariants as comparison
use Rattle.tac_code.specs.Run as tac
use Rattle.tac_code.specs.Run.{type_of, word_for, word_if_defined, holds, less}
use Rattle.frames.specs.Translated.{by_sign, test_by_sign, test_of}
use Rattle.frames.specs.Laws.{OperationsAgree}

-- ---- a word as a number with sign

-- a word is that of a number below 2^31, or of a negative one
pub record IsNegative (a : ℕ) (z : ℤ) : Type 0 where
  pub below : ℕ
  pub small : below < 2 ^ 31
  pub sum : suc below + a ≡ 2 ^ 32
  pub is : z ≡ negsuc below

pub record IsPositive (a : ℕ) (z : ℤ) : Type 0 where
  pub small : a < 2 ^ 31
  pub is : z ≡ pos a

signed_high : (a : ℕ) → 2 ^ 31 ≤ a → machine.signed a ≡ negsuc (2 ^ 32 - suc a)
signed_high a h = grind (arith, nat_tests)

sign_cases : (a : ℕ) → a < 2 ^ 32 → IsPositive a (machine.signed a) ⊎ IsNegative a (machine.signed a)
sign_cases a h = elim (cases_lt a (2 ^ 31)) [
  | inl low ↦ inl (record { small = low; is = to_z_pos w32 a low })
  | inr high ↦ inr (record { below = 2 ^ 32 - suc a; small = omega (arith, high); sum = omega (arith, h); is = signed_high a high })
]

-- the number that a conversion to int gives
int_high : (a : ℕ) → a < 2 ^ 32 → 2 ^ 31 ≤ a → converted ty.Int (pos a) ≡ negsuc (2 ^ 32 - suc a)
int_high a h high =
    let same : a % 2 ^ 32 ≡ a = omega (arith, h) in
    let last : 2 ^ 32 - 1 - a ≡ 2 ^ 32 - suc a = omega arith in
    let test : nat_lt a (2 ^ 31) ≡ false = grind (arith, nat_tests) in
    ap (λ w. if nat_lt w (2 ^ 31) then pos w else negsuc (2 ^ 32 - 1 - w)) same
    ∙ ap (λ b. if b then pos a else negsuc (2 ^ 32 - 1 - a)) test ∙ ap negsuc last

int_low : (a : ℕ) → a < 2 ^ 31 → converted ty.Int (pos a) ≡ pos a
int_low a low =
    let same : a % 2 ^ 32 ≡ a = omega (arith, low) in
    let test : nat_lt a (2 ^ 31) ≡ true = grind (arith, nat_tests) in
    ap (λ w. if nat_lt w (2 ^ 31) then pos w else negsuc (2 ^ 32 - 1 - w)) same
    ∙ ap (λ b. if b then pos a else negsuc (2 ^ 32 - 1 - a)) test

pub int_is_signed : (a : ℕ) → a < 2 ^ 32 → converted ty.Int (pos a) ≡ machine.signed a
int_is_signed a h = elim (cases_lt a (2 ^ 31)) [
  | inl low ↦ int_low a low ∙ sym (to_z_pos w32 a low)
  | inr high ↦ int_high a h high ∙ sym (signed_high a high)
]

pub uint_is : (a : ℕ) → a < 2 ^ 32 → converted ty.UInt (pos a) ≡ pos a
uint_is a h = let same : a % 2 ^ 32 ≡ a = omega (arith, h) in ap pos same

-- the number of a word
abbrev pub number : Reading → ℕ → ℤ
number reading.Signed a = machine.signed a
number reading.Unsigned a = pos a

pub number_is : (r : Reading) (a : ℕ) → a < 2 ^ 32 → converted (type_of r) (pos a) ≡ number r a
number_is reading.Signed a h = int_is_signed a h
number_is reading.Unsigned a h = uint_is a h

-- ---- words of results

congruent : (r : Reading) (v : ℤ) → word_for (converted (type_of r) v) ≡ word_for v
congruent reading.Signed v = converted_is_congruent ty.Int v (omega arith)
congruent reading.Unsigned v = converted_is_congruent ty.UInt v (omega arith)

from_if : (b : Bool) (act : Undef) (z : ℤ) (w : ℕ) → word_if_defined (if b then Err act else Ok z) ≡ Some w → w ≡ word_for z
from_if true act z w h = absurd (let x : ⊥ = cc in x)
from_if false act z w h = cc

pub word_in_range : (r : Reading) (act : Undef) (exact v : ℤ) (w : ℕ) → word_if_defined (in_range act (type_of r) exact v) ≡ Some w → w ≡ word_for v
word_in_range r act exact v w h =
    from_if (types.signed (type_of r) && not (is_value_of (type_of r) exact)) act (converted (type_of r) v) w h ∙ congruent r v

-- ---- sums, differences, products

-- a number is that of a word: itself, or 2^32 less
abbrev pub IsNumberOf : ℕ → ℤ → Type 0
IsNumberOf a z = (z ≡ pos a) ⊎ IsNegative a z

number_of_word : (r : Reading) (a : ℕ) → a < 2 ^ 32 → IsNumberOf a (number r a)
number_of_word reading.Signed a h = elim (sign_cases a h) [ inl p ↦ inl p.is | inr n ↦ inr n ]
number_of_word reading.Unsigned a h = inl refl

-- words of sums
word_near : (z : ℤ) (n : ℕ) → z ≡ pos n → word_for z ≡ n % 2 ^ 32
word_near z n e = ap word_for e

word_below : (z : ℤ) (n : ℕ) → z ≡ negsuc n → word_for z ≡ 2 ^ 32 - 1 - n % 2 ^ 32
word_below z n e = ap word_for e

-- the word of a number is found from any number that it is equal to modulo 2^32
shown : (z : ℤ) (n k : ℕ) → z +ℤ pos (k * 2 ^ 32) ≡ pos n → word_for z ≡ n % 2 ^ 32
shown (pos m) n k e = let s : m + k * 2 ^ 32 ≡ n = omega (arith, ints, e) in omega (arith, s)
shown (negsuc m) n k e = let s : n + suc m ≡ k * 2 ^ 32 = omega (arith, ints, e) in omega (arith, s)

sum_of : (a b : ℕ) (x y : ℤ) → IsNumberOf a x → IsNumberOf b y → word_for (x +ℤ y) ≡ (a + b) % 2 ^ 32
sum_of a b x y (inl e) (inl f) = shown (x +ℤ y) (a + b) 0 (omega (arith, ints, e, f))
sum_of a b x y (inl e) (inr n) = shown (x +ℤ y) (a + b) 1 (omega (arith, ints, e, n.is, n.sum))
sum_of a b x y (inr m) (inl f) = shown (x +ℤ y) (a + b) 1 (omega (arith, ints, m.is, m.sum, f))
sum_of a b x y (inr m) (inr n) = shown (x +ℤ y) (a + b) 2 (omega (arith, ints, m.is, m.sum, n.is, n.sum))

difference_of : (a b : ℕ) (x y : ℤ) → b < 2 ^ 32 → IsNumberOf a x → IsNumberOf b y → word_for (x -ℤ y) ≡ (a + (2 ^ 32 - b)) % 2 ^ 32
difference_of a b x y h (inl e) (inl f) = shown (x -ℤ y) (a + (2 ^ 32 - b)) 1 (omega (arith, ints, e, f, h))
difference_of a b x y h (inl e) (inr n) = shown (x -ℤ y) (a + (2 ^ 32 - b)) 0 (omega (arith, ints, e, n.is, n.sum, h))
difference_of a b x y h (inr m) (inl f) = shown (x -ℤ y) (a + (2 ^ 32 - b)) 2 (omega (arith, ints, m.is, m.sum, f, h))
difference_of a b x y h (inr m) (inr n) = shown (x -ℤ y) (a + (2 ^ 32 - b)) 1 (omega (arith, ints, m.is, m.sum, n.is, n.sum, h))

-- the word of a negative number
shown_below : (q n k : ℕ) → n + q ≡ k * 2 ^ 32 → word_for (neg_ℤ (pos q)) ≡ n % 2 ^ 32
shown_below zero n k e = omega (arith, e)
shown_below (suc q) n k e = omega (arith, e)

-- 2^32 is the sum of a word and the magnitude of its negative number
part_of_product : (a b c : ℕ) → suc c + b ≡ 2 ^ 32 → a * b + a * suc c ≡ a * 2 ^ 32
part_of_product a b c e = let s : b + suc c ≡ 2 ^ 32 = omega (arith, e) in let t : a * (b + suc c) ≡ a * 2 ^ 32 = ap (λ n. a * n) s in omega (arith, t)

both_below : (a b m n : ℕ) → suc m + a ≡ 2 ^ 32 → suc n + b ≡ 2 ^ 32 → suc m * suc n % 2 ^ 32 ≡ a * b % 2 ^ 32
both_below a b m n e f =
    let one : suc m * b + suc m * suc n ≡ suc m * 2 ^ 32 = part_of_product (suc m) b n f in
    let two : b * a + b * suc m ≡ b * 2 ^ 32 = part_of_product b a m e in
    omega (arith, one, two)

product_of : (a b : ℕ) (x y : ℤ) → IsNumberOf a x → IsNumberOf b y → word_for (x *ℤ y) ≡ a * b % 2 ^ 32
product_of a b x y (inl e) (inl f) = ap word_for (ap (λ z. z *ℤ y) e ∙ ap (λ z. pos a *ℤ z) f)
product_of a b x y (inl e) (inr n) =
    ap word_for (ap (λ z. z *ℤ y) e ∙ ap (λ z. pos a *ℤ z) n.is) ∙ shown_below (a * suc n.below) (a * b) a (part_of_product a b n.below n.sum)
product_of a b x y (inr m) (inl f) =
    let same : suc m.below * b ≡ b * suc m.below = omega arith in
    ap word_for (ap (λ z. z *ℤ y) m.is ∙ ap (λ z. negsuc m.below *ℤ z) f)
    ∙ shown_below (suc m.below * b) (a * b) b (omega (arith, part_of_product b a m.below m.sum))
product_of a b x y (inr m) (inr n) =
    ap word_for (ap (λ z. z *ℤ y) m.is ∙ ap (λ z. negsuc m.below *ℤ z) n.is) ∙ both_below a b m.below n.below m.sum n.sum

-- ---- quotients and remainders

-- a number whose magnitude is below 2^32
abbrev pub IsSmall : ℤ → Type 0
IsSmall (pos n) = n < 2 ^ 32
IsSmall (negsuc n) = suc n < 2 ^ 32

word_is_unsigned : (z : ℤ) → IsSmall z → word_for z ≡ machine.unsigned z
word_is_unsigned (pos n) h = omega (arith, h)
word_is_unsigned (negsuc n) h = omega (arith, h)

small_negative : (n : ℕ) → n < 2 ^ 32 → IsSmall (neg_ℤ (pos n))
small_negative zero h = h
small_negative (suc n) h = h

small_quotient : (x y : ℤ) → IsSmall x → IsSmall (int_div x y)
small_quotient (pos a) (pos b) h = omega (arith, div-le_self a b, h)
small_quotient (pos a) (negsuc b) h = small_negative (a / suc b) (omega (arith, div-le_self a (suc b), h))
small_quotient (negsuc a) (pos b) h = small_negative (suc a / b) (omega (arith, div-le_self (suc a) b, h))
small_quotient (negsuc a) (negsuc b) h = omega (arith, div-le_self (suc a) (suc b), h)

small_remainder : (x y : ℤ) → IsSmall x → IsSmall (int_rem x y)
small_remainder (pos a) y h = omega (arith, mod-le a (nat_abs y), h)
small_remainder (negsuc a) y h = small_negative (suc a % nat_abs y) (omega (arith, mod-le (suc a) (nat_abs y), h))

signed_small : (a : ℕ) → a < 2 ^ 32 → IsSmall (machine.signed a)
signed_small a h = elim (sign_cases a h) [
  | inl p ↦ subst IsSmall (sym p.is) (let s : a < 2 ^ 32 = h in s)
  | inr n ↦ subst IsSmall (sym n.is) (let s : suc n.below < 2 ^ 32 = omega (arith, n.small) in s)
]

with_divisor : (r : Reading) (b : Bool) (act : Undef) (exact v : ℤ) (w : ℕ) → word_if_defined (if b then in_range act (type_of r) exact v else Err U2) ≡ Some w → (b ≡ true) × (w ≡ word_for v)
with_divisor r true act exact v w h = (refl, word_in_range r act exact v w h)
with_divisor r false act exact v w h = absurd (let x : ⊥ = cc in x)

nonzero : (b x y : ℕ) → y ≡ (if suc b == 0 then x else y)
nonzero b x y = let e : (suc b == 0) ≡ false = grind (arith, nat_tests) in sym (ap (λ t. if t then x else y) e)

divide_signed : (a b w : ℕ) → a < 2 ^ 32 → truth (machine.signed b) ≡ true → w ≡ word_for (int_div (machine.signed a) (machine.signed b)) → w ≡ machine.operate_of register_op.Div a b
divide_signed a zero w h t e = absurd (let x : ⊥ = cc in x)
divide_signed a (suc b) w h t e = e ∙ word_is_unsigned _ (small_quotient (machine.signed a) (machine.signed (suc b)) (signed_small a h)) ∙ nonzero b (2 ^ 32 - 1) (machine.unsigned (int_div (machine.signed a) (machine.signed (suc b))))

divide_unsigned : (a b w : ℕ) → a < 2 ^ 32 → truth (pos b) ≡ true → w ≡ word_for (int_div (pos a) (pos b)) → w ≡ machine.operate_of register_op.DivUnsigned a b
divide_unsigned a zero w h t e = absurd (let x : ⊥ = cc in x)
divide_unsigned a (suc b) w h t e = e ∙ word_is_unsigned (pos (a / suc b)) (small_quotient (pos a) (pos (suc b)) h) ∙ nonzero b (2 ^ 32 - 1) (a / suc b)

remainder_signed : (a b w : ℕ) → a < 2 ^ 32 → truth (machine.signed b) ≡ true → w ≡ word_for (int_rem (machine.signed a) (machine.signed b)) → w ≡ machine.operate_of register_op.Rem a b
remainder_signed a zero w h t e = absurd (let x : ⊥ = cc in x)
remainder_signed a (suc b) w h t e = e ∙ word_is_unsigned _ (small_remainder (machine.signed a) (machine.signed (suc b)) (signed_small a h)) ∙ nonzero b a (machine.unsigned (int_rem (machine.signed a) (machine.signed (suc b))))

remainder_unsigned : (a b w : ℕ) → a < 2 ^ 32 → truth (pos b) ≡ true → w ≡ word_for (int_rem (pos a) (pos b)) → w ≡ machine.operate_of register_op.RemUnsigned a b
remainder_unsigned a zero w h t e = absurd (let x : ⊥ = cc in x)
remainder_unsigned a (suc b) w h t e = e ∙ word_is_unsigned (pos (a % suc b)) (small_remainder (pos a) (pos (suc b)) h) ∙ nonzero b a (a % suc b)

-- ---- each operation

number_of_converted : (r : Reading) (a : ℕ) → a < 2 ^ 32 → IsNumberOf a (converted (type_of r) (pos a))
number_of_converted r a h = subst (IsNumberOf a) (sym (number_is r a h)) (number_of_word r a h)

-- the word of a number of a word is that word
pub word_again : (r : Reading) (a : ℕ) → a < 2 ^ 32 → word_for (converted (type_of r) (pos a)) ≡ a
word_again r a h = congruent r (pos a) ∙ (let same : a % 2 ^ 32 ≡ a = omega (arith, h) in same)

pub sum_is : (r : Reading) (a b w : ℕ) → a < 2 ^ 32 → b < 2 ^ 32 → tac.operate operation.Add r a b ≡ Some w → w ≡ machine.operate_of register_op.Add a b
sum_is r a b w ha hb e =
    let x = converted (type_of r) (pos a) in
    let y = converted (type_of r) (pos b) in
    word_in_range r U1 (x +ℤ y) (x +ℤ y) w e ∙ sum_of a b x y (number_of_converted r a ha) (number_of_converted r b hb)

pub difference_is : (r : Reading) (a b w : ℕ) → a < 2 ^ 32 → b < 2 ^ 32 → tac.operate operation.Subtract r a b ≡ Some w → w ≡ machine.operate_of register_op.Sub a b
difference_is r a b w ha hb e =
    let x = converted (type_of r) (pos a) in
    let y = converted (type_of r) (pos b) in
    word_in_range r U1 (x -ℤ y) (x -ℤ y) w e ∙ difference_of a b x y hb (number_of_converted r a ha) (number_of_converted r b hb)

pub product_is : (r : Reading) (a b w : ℕ) → a < 2 ^ 32 → b < 2 ^ 32 → tac.operate operation.Multiply r a b ≡ Some w → w ≡ machine.operate_of register_op.Mul a b
product_is r a b w ha hb e =
    let x = converted (type_of r) (pos a) in
    let y = converted (type_of r) (pos b) in
    word_in_range r U1 (x *ℤ y) (x *ℤ y) w e ∙ product_of a b x y (number_of_converted r a ha) (number_of_converted r b hb)

pub quotient_is : (r : Reading) (a b w : ℕ) → a < 2 ^ 32 → b < 2 ^ 32 → tac.operate operation.Divide r a b ≡ Some w → w ≡ machine.operate_of (by_sign r register_op.Div register_op.DivUnsigned) a b
quotient_is reading.Signed a b w ha hb e =
    let x = converted ty.Int (pos a) in
    let y = converted ty.Int (pos b) in
    let d = with_divisor reading.Signed (truth y) U1 (int_div x y) (int_div x y) w e in
    divide_signed a b w ha (ap truth (sym (int_is_signed b hb)) ∙ d.0)
    (d.1 ∙ ap word_for (ap (λ z. int_div z y) (int_is_signed a ha) ∙ ap (λ z. int_div (machine.signed a) z) (int_is_signed b hb)))
quotient_is reading.Unsigned a b w ha hb e =
    let x = converted ty.UInt (pos a) in
    let y = converted ty.UInt (pos b) in
    let d = with_divisor reading.Unsigned (truth y) U1 (int_div x y) (int_div x y) w e in
    divide_unsigned a b w ha (ap truth (sym (uint_is b hb)) ∙ d.0)
    (d.1 ∙ ap word_for (ap (λ z. int_div z y) (uint_is a ha) ∙ ap (λ z. int_div (pos a) z) (uint_is b hb)))

pub remainder_is : (r : Reading) (a b w : ℕ) → a < 2 ^ 32 → b < 2 ^ 32 → tac.operate operation.Remainder r a b ≡ Some w → w ≡ machine.operate_of (by_sign r register_op.Rem register_op.RemUnsigned) a b
remainder_is reading.Signed a b w ha hb e =
    let x = converted ty.Int (pos a) in
    let y = converted ty.Int (pos b) in
    let d = with_divisor reading.Signed (truth y) U1 (int_div x y) (int_rem x y) w e in
    remainder_signed a b w ha (ap truth (sym (int_is_signed b hb)) ∙ d.0)
    (d.1 ∙ ap word_for (ap (λ z. int_rem z y) (int_is_signed a ha) ∙ ap (λ z. int_rem (machine.signed a) z) (int_is_signed b hb)))
remainder_is reading.Unsigned a b w ha hb e =
    let x = converted ty.UInt (pos a) in
    let y = converted ty.UInt (pos b) in
    let d = with_divisor reading.Unsigned (truth y) U1 (int_div x y) (int_rem x y) w e in
    remainder_unsigned a b w ha (ap truth (sym (uint_is b hb)) ∙ d.0)
    (d.1 ∙ ap word_for (ap (λ z. int_rem z y) (uint_is a ha) ∙ ap (λ z. int_rem (pos a) z) (uint_is b hb)))

-- ---- bits

bits_are : (r : Reading) (f : ℕ → ℕ → ℕ) (a b w : ℕ) → a < 2 ^ 32 → b < 2 ^ 32 → f a b < 2 ^ 32 → word_if_defined (bitwise f (type_of r) (converted (type_of r) (pos a)) (converted (type_of r) (pos b))) ≡ Some w → w ≡ f a b
bits_are r f a b w ha hb small e =
    let x = converted (type_of r) (pos a) in
    let y = converted (type_of r) (pos b) in
    let is : w ≡ word_for (converted (type_of r) (pos (f (modulo 32 x) (modulo 32 y)))) = cc in
    is ∙ congruent r (pos (f (modulo 32 x) (modulo 32 y)))
    ∙ ap (λ n. n % 2 ^ 32) (ap (λ n. f n (modulo 32 y)) (word_again r a ha) ∙ ap (λ n. f a n) (word_again r b hb))
    ∙ (let same : f a b % 2 ^ 32 ≡ f a b = omega (arith, small) in same)

pub and_is : (r : Reading) (a b w : ℕ) → a < 2 ^ 32 → b < 2 ^ 32 → tac.operate operation.And r a b ≡ Some w → w ≡ machine.operate_of register_op.And a b
and_is r a b w ha hb e = bits_are r bit_and a b w ha hb (let small : bit_and a b < 2 ^ 32 = omega (arith, and_le_l a b, ha) in small) e

pub or_is : (r : Reading) (a b w : ℕ) → a < 2 ^ 32 → b < 2 ^ 32 → tac.operate operation.Or r a b ≡ Some w → w ≡ machine.operate_of register_op.Or a b
or_is r a b w ha hb e = bits_are r bit_or a b w ha hb (or_of_32 a b ha hb) e

pub exclusive_or_is : (r : Reading) (a b w : ℕ) → a < 2 ^ 32 → b < 2 ^ 32 → tac.operate operation.ExclusiveOr r a b ≡ Some w → w ≡ machine.operate_of register_op.Xor a b
exclusive_or_is r a b w ha hb e = bits_are r bit_xor a b w ha hb (xor_of_32 a b ha hb) e

-- ---- comparisons

word_of_truth : (c : Bool) → word_for (of_truth c) ≡ machine.one_if c
word_of_truth true = refl
word_of_truth false = refl

pub less_is : (r : Reading) (a b : ℕ) → a < 2 ^ 32 → b < 2 ^ 32 → less r a b ≡ machine.compare_of (test_by_sign r test.Less test.LessUnsigned) a b
less_is reading.Signed a b ha hb =
    ap (λ z. int_lt z (converted ty.Int (pos b))) (int_is_signed a ha) ∙ ap (λ z. int_lt (machine.signed a) z) (int_is_signed b hb)
less_is reading.Unsigned a b ha hb =
    ap (λ z. int_lt z (converted ty.UInt (pos b))) (uint_is a ha) ∙ ap (λ z. int_lt (pos a) z) (uint_is b hb)

pub truth_of_less : (r : Reading) (a b w : ℕ) → a < 2 ^ 32 → b < 2 ^ 32 → tac.operate operation.Less r a b ≡ Some w → w ≡ machine.operate_of (by_sign r register_op.Less register_op.LessUnsigned) a b
truth_of_less reading.Signed a b w ha hb e =
    let is : w ≡ word_for (of_truth (less reading.Signed a b)) = cc in
    is ∙ word_of_truth (less reading.Signed a b) ∙ ap machine.one_if (less_is reading.Signed a b ha hb)
truth_of_less reading.Unsigned a b w ha hb e =
    let is : w ≡ word_for (of_truth (less reading.Unsigned a b)) = cc in
    is ∙ word_of_truth (less reading.Unsigned a b) ∙ ap machine.one_if (less_is reading.Unsigned a b ha hb)

not_below : (a b : ℕ) → not (nat_lt a b) ≡ nat_le b a
not_below a b = grind (arith, nat_tests)

pub comparison_is : (c : Comparison) (r : Reading) (a b : ℕ) → a < 2 ^ 32 → b < 2 ^ 32 → holds c r a b ≡ machine.compare_of (test_of c r) a b
comparison_is comparison.Equal r a b ha hb = refl
comparison_is comparison.NotEqual r a b ha hb = refl
comparison_is comparison.Less r a b ha hb = less_is r a b ha hb
comparison_is comparison.GreaterEqual reading.Signed a b ha hb = ap not (less_is reading.Signed a b ha hb)
comparison_is comparison.GreaterEqual reading.Unsigned a b ha hb = ap not (less_is reading.Unsigned a b ha hb) ∙ not_below a b

-- ---- equality

same_tests : (s t : Bool) → (s ≡ true → t ≡ true) → (t ≡ true → s ≡ true) → s ≡ t
same_tests true t p q = sym (p refl)
same_tests false true p q = q refl
same_tests false false p q = refl

both_at_most : (x y : ℤ) → (int_le x y && int_le y x) ≡ true → x ≡ y
both_at_most (pos a) (pos b) h = let same : a ≡ b = grind (arith, nat_tests) in ap pos same
both_at_most (pos a) (negsuc b) h = cc
both_at_most (negsuc a) (pos b) h = cc
both_at_most (negsuc a) (negsuc b) h = let same : a ≡ b = grind (arith, nat_tests) in ap negsuc same

at_most_itself : (x : ℤ) → (int_le x x && int_le x x) ≡ true
at_most_itself (pos a) = grind (arith, nat_tests)
at_most_itself (negsuc a) = grind (arith, nat_tests)

less_or_greater : (x y : ℤ) → (int_lt x y || int_lt y x) ≡ not (int_le x y && int_le y x)
less_or_greater (pos a) (pos b) = grind (arith, nat_tests)
less_or_greater (pos a) (negsuc b) = refl
less_or_greater (negsuc a) (pos b) = refl
less_or_greater (negsuc a) (negsuc b) = grind (arith, nat_tests)

equal_words : (r : Reading) (a b : ℕ) → a < 2 ^ 32 → b < 2 ^ 32 → converted (type_of r) (pos a) ≡ converted (type_of r) (pos b) → a ≡ b
equal_words r a b ha hb e = sym (word_again r a ha) ∙ ap word_for e ∙ word_again r b hb

same_number : (r : Reading) (a b : ℕ) → a < 2 ^ 32 → b < 2 ^ 32 → (int_le (converted (type_of r) (pos a)) (converted (type_of r) (pos b)) && int_le (converted (type_of r) (pos b)) (converted (type_of r) (pos a))) ≡ (a == b)
same_number r a b ha hb =
    same_tests _ (a == b)
    (λ h. let same : a ≡ b = equal_words r a b ha hb (both_at_most (converted (type_of r) (pos a)) (converted (type_of r) (pos b)) h) in grind (arith, nat_tests))
    (λ h. let same : a ≡ b = grind (arith, nat_tests) in
    subst (λ n. (int_le (converted (type_of r) (pos a)) (converted (type_of r) (pos n)) && int_le (converted (type_of r) (pos n)) (converted (type_of r) (pos a))) ≡ true) same (at_most_itself (converted (type_of r) (pos a))))

pub equal_is : (r : Reading) (a b w : ℕ) → a < 2 ^ 32 → b < 2 ^ 32 → tac.operate operation.Equal r a b ≡ Some w → w ≡ machine.one_if (a == b)
equal_is r a b w ha hb e =
    let x = converted (type_of r) (pos a) in
    let y = converted (type_of r) (pos b) in
    let is : w ≡ word_for (of_truth (int_le x y && int_le y x)) = cc in
    is ∙ word_of_truth (int_le x y && int_le y x) ∙ ap machine.one_if (same_number r a b ha hb)

pub not_equal_is : (r : Reading) (a b w : ℕ) → a < 2 ^ 32 → b < 2 ^ 32 → tac.operate operation.NotEqual r a b ≡ Some w → w ≡ machine.one_if (not (a == b))
not_equal_is r a b w ha hb e =
    let x = converted (type_of r) (pos a) in
    let y = converted (type_of r) (pos b) in
    let is : w ≡ word_for (of_truth (int_lt x y || int_lt y x)) = cc in
    is ∙ word_of_truth (int_lt x y || int_lt y x) ∙ ap machine.one_if (less_or_greater x y ∙ ap not (same_number r a b ha hb))

-- ---- shifts

with_test : (c : Bool) (act : Undef) (s : Result ℤ Undef) (w : ℕ) → word_if_defined (if c then s else Err act) ≡ Some w → (c ≡ true) × (word_if_defined s ≡ Some w)
with_test true act s w e = (refl, e)
with_test false act s w e = absurd (let x : ⊥ = cc in x)

without_test : (c : Bool) (act : Undef) (s : Result ℤ Undef) (w : ℕ) → word_if_defined (if c then Err act else s) ≡ Some w → (c ≡ false) × (word_if_defined s ≡ Some w)
without_test true act s w e = absurd (let x : ⊥ = cc in x)
without_test false act s w e = (refl, e)

count_below : (r : Reading) (b : ℕ) → is_count (type_of r) (pos b) ≡ true → b % 2 ^ 5 ≡ b
count_below reading.Signed b h = let lt : b < 32 = grind (arith, nat_tests, ints) in omega (arith, lt)
count_below reading.Unsigned b h = let lt : b < 32 = grind (arith, nat_tests, ints) in omega (arith, lt)

not_negative : (a : ℕ) (x : ℤ) → IsNumberOf a x → int_lt x (pos 0) ≡ false → x ≡ pos a
not_negative a x (inl e) h = e
not_negative a x (inr n) h = absurd (let t : int_lt (negsuc n.below) (pos 0) ≡ false = ap (λ z. int_lt z (pos 0)) (sym n.is) ∙ h in let z : ⊥ = cc in z)

pub shift_left_is : (r : Reading) (a b w : ℕ) → a < 2 ^ 32 → b < 2 ^ 32 → tac.operate operation.ShiftLeft r a b ≡ Some w → w ≡ machine.operate_of register_op.ShiftLeft a b
shift_left_is r a b w ha hb e =
    let x = converted (type_of r) (pos a) in
    let v = x *ℤ pos (2 ^ b) in
    let p = with_test (is_count (type_of r) (pos b)) U3 (shifted_left (type_of r) x v) w e in
    let q = without_test (int_lt x (pos 0)) U4 (in_range U4 (type_of r) v v) w p.1 in
    let same : x ≡ pos a = not_negative a x (number_of_converted r a ha) q.0 in
    word_in_range r U4 v v w q.1 ∙ ap (λ z. word_for (z *ℤ pos (2 ^ b))) same ∙ ap (λ k. a * 2 ^ k % 2 ^ 32) (sym (count_below r b p.0))

down_is_shift : (z : ℤ) (k : ℕ) → quotient_down z (2 ^ k) ≡ int_shr z k
down_is_shift (pos a) k = refl
down_is_shift (negsuc a) k = refl

small_shift : (z : ℤ) (k : ℕ) → IsSmall z → IsSmall (int_shr z k)
small_shift (pos a) k h = omega (arith, div-le_self a (2 ^ k), h)
small_shift (negsuc a) k h = omega (arith, div-le_self a (2 ^ k), h)

pub shift_right_is : (r : Reading) (a b w : ℕ) → a < 2 ^ 32 → b < 2 ^ 32 → tac.operate operation.ShiftRight r a b ≡ Some w → w ≡ machine.operate_of (by_sign r register_op.ShiftRightArithmetic register_op.ShiftRight) a b
shift_right_is reading.Signed a b w ha hb e =
    let x = converted ty.Int (pos a) in
    let p = with_test (is_count ty.Int (pos b)) U3 (Ok (quotient_down x (2 ^ b))) w e in
    let is : w ≡ word_for (quotient_down x (2 ^ b)) = let d = p.1 in cc in
    is ∙ ap word_for (ap (λ z. quotient_down z (2 ^ b)) (int_is_signed a ha) ∙ down_is_shift (machine.signed a) b)
    ∙ word_is_unsigned (int_shr (machine.signed a) b) (small_shift (machine.signed a) b (signed_small a ha))
    ∙ ap (λ k. machine.unsigned (int_shr (machine.signed a) k)) (sym (count_below reading.Signed b p.0))
shift_right_is reading.Unsigned a b w ha hb e =
    let x = converted ty.UInt (pos a) in
    let p = with_test (is_count ty.UInt (pos b)) U3 (Ok (quotient_down x (2 ^ b))) w e in
    let is : w ≡ word_for (quotient_down x (2 ^ b)) = let d = p.1 in cc in
    is ∙ ap word_for (ap (λ z. quotient_down z (2 ^ b)) (uint_is a ha))
    ∙ word_is_unsigned (pos (a / 2 ^ b)) (small_shift (pos a) b ha)
    ∙ ap (λ k. a / 2 ^ k) (sym (count_below reading.Unsigned b p.0))

-- ---- all

pub operations_agree : OperationsAgree
operations_agree operation.Multiply r a b w ha hb e = product_is r a b w ha hb e
operations_agree operation.Divide r a b w ha hb e = quotient_is r a b w ha hb e
operations_agree operation.Remainder r a b w ha hb e = remainder_is r a b w ha hb e
operations_agree operation.Add r a b w ha hb e = sum_is r a b w ha hb e
operations_agree operation.Subtract r a b w ha hb e = difference_is r a b w ha hb e
operations_agree operation.ShiftLeft r a b w ha hb e = shift_left_is r a b w ha hb e
operations_agree operation.ShiftRight r a b w ha hb e = shift_right_is r a b w ha hb e
operations_agree operation.And r a b w ha hb e = and_is r a b w ha hb e
operations_agree operation.ExclusiveOr r a b w ha hb e = exclusive_or_is r a b w ha hb e
operations_agree operation.Or r a b w ha hb e = or_is r a b w ha hb e
operations_agree operation.Less r a b w ha hb e = truth_of_less r a b w ha hb e
operations_agree operation.Equal r a b w ha hb e = equal_is r a b w ha hb e
operations_agree operation.NotEqual r a b w ha hb e = not_equal_is r a b w ha hb e
