-- Computing with 64 bits on values of the types is exact.
use Rattle.std.proofs.Common.{sym, Bool, false, ◌≡◌, ℕ, zero, suc, ◌*◌, ◌/◌, ◌%◌, ◌^◌, ◌<◌, ◌≤◌, true, ℤ, pos, negsuc, ◌+ℤ◌, ◌-ℤ◌, ◌*ℤ◌, ◌≤ℤ◌, int_div, FitsSigned, to_z, of_z, w64, refl, ap, ◌∙◌, arith}
use Rattle.std.proofs.lemmas.Int.{ints, quot_is, to_z-of_z, to_z_pos, fits_signed_mul, fits_signed_from_abs}
use Rattle.std.proofs.lemmas.Nat.{mul-le}
use Rattle.std.proofs.Math.Nat.{div-le_self, pow-le-pow_right}
use Rattle.std.proofs.lemmas.Bool.Decides.{nat_tests}
use Rattle.std.specs.Prelude.{int_le, int_lt, ◌&&◌, neg_ℤ}
use Rattle.std.specs.Int.RustNames.{unsigned_abs}
use Rattle.ctypes.specs.declared.types.IntType.{IntType}
use Rattle.ctypes.specs.declared.types.IntType.TheVariants as ty
use Rattle.ctypes.specs.declared.types.IntType.TheVariants.{Char, SChar, UChar, Short, UShort, Int, UInt, Long, ULong}
use Rattle.ctypes.specs.Types.{signed, IsValueOf, truth, bits_of}
use Rattle.std.proofs.Common.{subst}
use Rattle.std.specs.Prelude.{Result, Err, if◌then◌else◌}
use Rattle.ctypes.specs.declared.operators.Undef.{Undef}
use Rattle.ctypes.specs.declared.operators.Undef.TheVariants.{U3, U4}
use Rattle.ctypes.specs.declared.operators.BinOp.TheVariants.{Shl}
use Rattle.ctypes.specs.Arithmetic.{in_range, computed, is_count, magnitude}

-- a number that lies between the least int and the greatest unsigned int
abbrev pub IsNear : ℤ → Type 0
IsNear v = ((pos 0 -ℤ pos 2147483648) ≤ℤ v) × (v ≤ℤ pos 4294967295)

pub near : (t : IntType) (v : ℤ) → IsValueOf t v → IsNear v
near ty.Bool v h = (omega (arith, ints, h.0, h.1), omega (arith, ints, h.0, h.1))
near Char v h = (omega (arith, ints, h.0, h.1), omega (arith, ints, h.0, h.1))
near SChar v h = (omega (arith, ints, h.0, h.1), omega (arith, ints, h.0, h.1))
near UChar v h = (omega (arith, ints, h.0, h.1), omega (arith, ints, h.0, h.1))
near Short v h = (omega (arith, ints, h.0, h.1), omega (arith, ints, h.0, h.1))
near UShort v h = (omega (arith, ints, h.0, h.1), omega (arith, ints, h.0, h.1))
near Int v h = (omega (arith, ints, h.0, h.1), omega (arith, ints, h.0, h.1))
near UInt v h = (omega (arith, ints, h.0, h.1), omega (arith, ints, h.0, h.1))
near Long v h = (omega (arith, ints, h.0, h.1), omega (arith, ints, h.0, h.1))
near ULong v h = (omega (arith, ints, h.0, h.1), omega (arith, ints, h.0, h.1))

pub sum_is : (a b : ℤ) → IsNear a → IsNear b → to_z w64 (of_z w64 (to_z w64 (of_z w64 a) +ℤ to_z w64 (of_z w64 b))) ≡ a +ℤ b
sum_is a b ha hb = omega (arith, ints, ha.0, ha.1, hb.0, hb.1)

pub difference_is : (a b : ℤ) → IsNear a → IsNear b → to_z w64 (of_z w64 (to_z w64 (of_z w64 a) -ℤ to_z w64 (of_z w64 b))) ≡ a -ℤ b
difference_is a b ha hb = omega (arith, ints, ha.0, ha.1, hb.0, hb.1)

-- ---- products

signed_size : (t : IntType) (v : ℤ) → signed t ≡ true → IsValueOf t v → ((pos 0 -ℤ pos 2147483648) ≤ℤ v) × (v ≤ℤ pos 2147483648)
signed_size SChar v s h = (omega (arith, ints, h.0, h.1), omega (arith, ints, h.0, h.1))
signed_size Short v s h = (omega (arith, ints, h.0, h.1), omega (arith, ints, h.0, h.1))
signed_size Int v s h = (omega (arith, ints, h.0, h.1), omega (arith, ints, h.0, h.1))
signed_size Long v s h = (omega (arith, ints, h.0, h.1), omega (arith, ints, h.0, h.1))
signed_size t v s h = grind arith

abs_at_most : (v : ℤ) (m : ℕ) → (pos 0 -ℤ pos m) ≤ℤ v → v ≤ℤ pos m → unsigned_abs v ≤ m
abs_at_most (pos n) m h k = omega (arith, ints, h, k)
abs_at_most (negsuc n) m h k = omega (arith, ints, h, k)

-- the operands as the code has them are the operands
operands : (a b : ℤ) → FitsSigned w64 a → FitsSigned w64 b → to_z w64 (of_z w64 a) *ℤ to_z w64 (of_z w64 b) ≡ a *ℤ b
operands a b fa fb = ap (λ x. x *ℤ to_z w64 (of_z w64 b)) (to_z-of_z w64 a fa) ∙ ap (λ y. a *ℤ y) (to_z-of_z w64 b fb)

product_in_range : (t : IntType) (a b : ℤ) → signed t ≡ true → IsValueOf t a → IsValueOf t b → FitsSigned w64 (a *ℤ b)
product_in_range t a b s ha hb =
    let sa = signed_size t a s ha in
    let sb = signed_size t b s hb in
    fits_signed_mul w64 a b 2147483648 2147483648 (abs_at_most a 2147483648 sa.0 sa.1) (abs_at_most b 2147483648 sb.0 sb.1) (omega arith)

pub product_fits : (t : IntType) (a b : ℤ) → signed t ≡ true → IsValueOf t a → IsValueOf t b → FitsSigned w64 a → FitsSigned w64 b → FitsSigned w64 (to_z w64 (of_z w64 a) *ℤ to_z w64 (of_z w64 b))
product_fits t a b s ha hb fa fb = subst (FitsSigned w64) (sym (operands a b fa fb)) (product_in_range t a b s ha hb)

pub product_is : (t : IntType) (a b : ℤ) → signed t ≡ true → IsValueOf t a → IsValueOf t b → FitsSigned w64 a → FitsSigned w64 b → to_z w64 (of_z w64 (to_z w64 (of_z w64 a) *ℤ to_z w64 (of_z w64 b))) ≡ a *ℤ b
product_is t a b s ha hb fa fb = ap (λ x. to_z w64 (of_z w64 x)) (operands a b fa fb) ∙ to_z-of_z w64 (a *ℤ b) (product_in_range t a b s ha hb)

-- ---- quotients

-- a number whose bits are not 0 is not 0
pub is_truth : (b : ℤ) → (of_z w64 b ≡ 0 → ⊥) → truth b ≡ true
is_truth (pos zero) h = absurd (h refl)
is_truth (pos (suc n)) h = refl
is_truth (negsuc n) h = refl

abs_neg : (n : ℕ) → unsigned_abs (neg_ℤ (pos n)) ≡ n
abs_neg zero = refl
abs_neg (suc n) = refl

quotient_size : (a b : ℤ) → unsigned_abs (int_div a b) ≤ unsigned_abs a
quotient_size (pos a) (pos b) = div-le_self a b
quotient_size (pos a) (negsuc b) = omega (arith, abs_neg (a / suc b), div-le_self a (suc b))
quotient_size (negsuc a) (pos b) = omega (arith, abs_neg (suc a / b), div-le_self (suc a) b)
quotient_size (negsuc a) (negsuc b) = div-le_self (suc a) (suc b)

quotient_fits : (a b : ℤ) → IsNear a → FitsSigned w64 (int_div a b)
quotient_fits a b h = fits_signed_from_abs w64 (int_div a b) (omega (arith, quotient_size a b, abs_at_most a 4294967296 (omega (arith, ints, h.0)) (omega (arith, ints, h.1))))

pub quotient_is : (a b : ℤ) → IsNear a → FitsSigned w64 a → FitsSigned w64 b → to_z w64 (of_z w64 (int_div (to_z w64 (of_z w64 a)) (to_z w64 (of_z w64 b)))) ≡ int_div a b
quotient_is a b h fa fb = quot_is w64 a b fa fb (quotient_fits a b h)

-- ---- powers

power_size : (k : ℕ) → k < 32 → 2 ^ k ≤ 2147483648
power_size k h = pow-le-pow_right {n = 2} (omega arith) {i = k} {j = 31} (omega arith)

shifted : (n k : ℕ) → n ≤ 4294967295 → k < 32 → to_z w64 (n * 2 ^ k % 18446744073709551616) ≡ pos (n * 2 ^ k)
shifted n k h l =
    let m : n * 2 ^ k ≤ 4294967295 * 2147483648 = mul-le n (2 ^ k) 4294967295 2147483648 h (power_size k l) in
    let e : n * 2 ^ k % 18446744073709551616 ≡ n * 2 ^ k = omega (arith, m) in
    ap (to_z w64) e ∙ to_z_pos w64 (n * 2 ^ k) (omega (arith, m))

width_size : (t : IntType) → bits_of t ≤ 32
width_size ty.Bool = omega arith
width_size Char = omega arith
width_size SChar = omega arith
width_size UChar = omega arith
width_size Short = omega arith
width_size UShort = omega arith
width_size Int = omega arith
width_size UInt = omega arith
width_size Long = omega arith
width_size ULong = omega arith

below : (k m : ℕ) → (int_le (pos 0) (pos k) && int_lt (pos k) (pos m)) ≡ true → k < m
below k m h = grind (arith, nat_tests, ints)

count_size : (t : IntType) (k : ℕ) → is_count t (pos k) ≡ true → k < 32
count_size t k h = omega (arith, width_size t, below k (bits_of t) h)

pub times_power_is : (t : IntType) (a b : ℤ) → IsNear a → pos 0 ≤ℤ a → is_count t b ≡ true → to_z w64 (of_z w64 a * 2 ^ of_z w64 b % 18446744073709551616) ≡ a *ℤ pos (2 ^ magnitude b)
times_power_is t (pos n) (pos k) h p c = shifted n k (omega (arith, ints, h.1)) (count_size t k c)
times_power_is t (pos n) (negsuc k) h p c = grind arith
times_power_is t (negsuc n) b h p c = absurd (omega (arith, ints, p))

-- where the count is one and the number is not negative, a left shift is the test of its range
opened : (count negative : Bool) (r : Result ℤ Undef) → count ≡ true → negative ≡ false → (if count then (if negative then Err U4 else r) else Err U3) ≡ r
opened count negative r p q = ap (λ k. if k then (if negative then Err U4 else r) else Err U3) p ∙ ap (λ k. if k then Err U4 else r) q

-- a' and b' are the operands and s' the product as the code has them
pub shifted_left_is : (t : IntType) (a b a' b' s s' : ℤ) (r : Result ℤ Undef) → a' ≡ a → b' ≡ b → s' ≡ s → s ≡ a' *ℤ pos (2 ^ magnitude b') → is_count t b' ≡ true → int_lt a' (pos 0) ≡ false → r ≡ in_range U4 t s' s' → r ≡ computed Shl t a b
shifted_left_is t a b a' b' s s' r ea eb es e count sign h =
    let v = a *ℤ pos (2 ^ magnitude b) in
    let same : s' ≡ v = es ∙ e ∙ ap (λ x. x *ℤ pos (2 ^ magnitude b')) ea ∙ ap (λ y. a *ℤ pos (2 ^ magnitude y)) eb in
    h ∙ ap (λ x. in_range U4 t x x) same ∙ sym (opened (is_count t b) (int_lt a (pos 0)) (in_range U4 t v v) (ap (is_count t) (sym eb) ∙ count) (ap (λ x. int_lt x (pos 0)) (sym ea) ∙ sign))
