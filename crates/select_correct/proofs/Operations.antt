-- Operations on words give words; words are equal exactly where no bit differs.
use Rattle.std.proofs.Common.{◌≡◌, ◌≢◌, ℕ, zero, suc, ◌-◌, ◌*◌, ◌/◌, ◌%◌, ◌^◌, ◌<◌, ◌≤◌, Bool, true, false, refl, sym, ap, ◌∙◌, subst, arith, eqb}
use Rattle.std.specs.Prelude.{nat_lt, not, bit_xor, bit_and, ℤ, pos, ◌*ℤ◌, if◌then◌else◌}
use lib.IntN.{negsuc, neg_ℤ, negsuc-*ℤ-pos, pos-*ℤ-negsuc, negsuc-*ℤ-negsuc}
use Rattle.std.specs.Int.{int_shr}
use Rattle.std.specs.Int.RustNames.{int_div, int_rem}
use Rattle.std.proofs.lemmas.Bool.{ltb-true, ltb-false}
use Rattle.std.proofs.lemmas.Bool.Decides.{nat_tests}
use Rattle.std.proofs.lemmas.Nat.{xor_shr, xor_mod, xor_lt, or_lt, and_le_l, mul-lt}
use Rattle.std.proofs.Math.Nat.{div-le_self, mod-le, mul-le-mul, pow-suc}
use Rattle.rv32.specs.declared.instr.RegisterOp.{RegisterOp}
use Rattle.rv32.specs.declared.instr.RegisterOp.TheVariants as register_op
use Rattle.rv32.specs.Arithmetic.{operate_of, signed, unsigned, upper_half, one_if}
use Rattle.frames_code.specs.declared.code.Operation.{Operation}
use Rattle.frames_code.specs.declared.code.Operation.TheVariants as operation
use Rattle.frames_code.specs.Run as flat
use Rattle.select_exec.proofs.Bridge.{bool_cases}
use Rattle.select_correct.proofs.Results.{one_small}

-- ---- signed numbers that are small

abbrev Under : ℕ → ℤ → Type 0
Under n (pos a) = a < n
Under n (negsuc a) = a < n

under_more : (n m : ℕ) (z : ℤ) → n ≤ m → Under n z → Under m z
under_more n m (pos a) le h = omega (arith, le, h)
under_more n m (negsuc a) le h = omega (arith, le, h)

signed_under : (a : ℕ) → a < 2 ^ 32 → Under (2 ^ 31) (signed a)
signed_under a small =
    bool_cases (nat_lt a (2 ^ 31))
    (λ t. let lt : a < 2 ^ 31 = ltb-true a (2 ^ 31) t in rw t lt)
    (λ t. let ge : 2 ^ 31 ≤ a = ltb-false a (2 ^ 31) t in let lt : 2 ^ 32 - suc a < 2 ^ 31 = omega (arith, ge, small) in rw t lt)

unsigned_small : (z : ℤ) → Under (2 ^ 32) z → unsigned z < 2 ^ 32
unsigned_small (pos a) h = h
unsigned_small (negsuc a) h = omega arith

upper_small : (z : ℤ) → Under (2 ^ 64) z → upper_half z < 2 ^ 32
upper_small (pos a) h = omega (arith, h)
upper_small (negsuc a) h = omega arith

neg_under : (n r : ℕ) → 0 < n → r ≤ n → Under n (neg_ℤ (pos r))
neg_under n zero some le = some
neg_under n (suc r) some le = omega (arith, le)

div_under : (z d : ℤ) → Under (2 ^ 31) z → Under (2 ^ 32) (int_div z d)
div_under (pos a) (pos b) h = let le : a / b ≤ a = div-le_self a b in omega (arith, h, le)
div_under (pos a) (negsuc b) h = let le : a / suc b ≤ a = div-le_self a (suc b) in neg_under (2 ^ 32) (a / suc b) (omega arith) (omega (arith, h, le))
div_under (negsuc a) (pos b) h = let le : suc a / b ≤ suc a = div-le_self (suc a) b in neg_under (2 ^ 32) (suc a / b) (omega arith) (omega (arith, h, le))
div_under (negsuc a) (negsuc b) h = let le : suc a / suc b ≤ suc a = div-le_self (suc a) (suc b) in omega (arith, h, le)

rem_under : (z d : ℤ) → Under (2 ^ 31) z → Under (2 ^ 32) (int_rem z d)
rem_under (pos a) (pos b) h = let le : a % b ≤ a = mod-le a b in omega (arith, h, le)
rem_under (pos a) (negsuc b) h = let le : a % suc b ≤ a = mod-le a (suc b) in omega (arith, h, le)
rem_under (negsuc a) (pos b) h = let le : suc a % b ≤ suc a = mod-le (suc a) b in neg_under (2 ^ 32) (suc a % b) (omega arith) (omega (arith, h, le))
rem_under (negsuc a) (negsuc b) h = let le : suc a % suc b ≤ suc a = mod-le (suc a) (suc b) in neg_under (2 ^ 32) (suc a % suc b) (omega arith) (omega (arith, h, le))

shr_under : (z : ℤ) (k : ℕ) → Under (2 ^ 31) z → Under (2 ^ 32) (int_shr z k)
shr_under (pos a) k h = let le : a / 2 ^ k ≤ a = div-le_self a (2 ^ k) in omega (arith, h, le)
shr_under (negsuc a) k h = let le : a / 2 ^ k ≤ a = div-le_self a (2 ^ k) in omega (arith, h, le)

product_small : (a b : ℕ) → a ≤ 2 ^ 31 → b ≤ 2 ^ 32 → a * b < 2 ^ 64
product_small a b ha hb = let le : a * b ≤ 2 ^ 31 * 2 ^ 32 = mul-le-mul ha hb in omega (arith, le)

mul_under : (y z : ℤ) → Under (2 ^ 31) y → Under (2 ^ 32) z → Under (2 ^ 64) (y *ℤ z)
mul_under (pos a) (pos b) h k = product_small a b (omega (arith, h)) (omega (arith, k))
mul_under (pos a) (negsuc b) h k =
    let lt : a * suc b < 2 ^ 64 = product_small a (suc b) (omega (arith, h)) (omega (arith, k)) in
    subst (Under (2 ^ 64)) (sym (pos-*ℤ-negsuc a b)) (neg_under (2 ^ 64) (a * suc b) (omega arith) (omega (arith, lt)))
mul_under (negsuc a) (pos b) h k =
    let lt : suc a * b < 2 ^ 64 = product_small (suc a) b (omega (arith, h)) (omega (arith, k)) in
    subst (Under (2 ^ 64)) (sym (negsuc-*ℤ-pos a b)) (neg_under (2 ^ 64) (suc a * b) (omega arith) (omega (arith, lt)))
mul_under (negsuc a) (negsuc b) h k =
    let lt : suc a * suc b < 2 ^ 64 = product_small (suc a) (suc b) (omega (arith, h)) (omega (arith, k)) in
    subst (Under (2 ^ 64)) (sym (negsuc-*ℤ-negsuc a b)) lt

if_small : (t : Bool) (x y : ℕ) → x < 2 ^ 32 → y < 2 ^ 32 → (if t then x else y) < 2 ^ 32
if_small true x y p q = p
if_small false x y p q = q

high_small : (a b : ℕ) → a < 2 ^ 32 → b < 2 ^ 32 → a * b / 2 ^ 32 < 2 ^ 32
high_small a b ha hb = let lt : a * b < 2 ^ 32 * 2 ^ 32 = mul-lt a b (2 ^ 32) (2 ^ 32) ha hb in omega (arith, lt)

-- words give words
pub operate_small : (o : RegisterOp) (a b : ℕ) → a < 2 ^ 32 → b < 2 ^ 32 → operate_of o a b < 2 ^ 32
operate_small register_op.Add a b ha hb = omega arith
operate_small register_op.Sub a b ha hb = omega arith
operate_small register_op.ShiftLeft a b ha hb = let lt : a * 2 ^ (b % 2 ^ 5) % 2 ^ 32 < 2 ^ 32 = omega arith in lt
operate_small register_op.Less a b ha hb = one_small _
operate_small register_op.LessUnsigned a b ha hb = one_small (nat_lt a b)
operate_small register_op.Xor a b ha hb = xor_lt 32 a b ha hb
operate_small register_op.ShiftRight a b ha hb = let le : a / 2 ^ (b % 2 ^ 5) ≤ a = div-le_self a (2 ^ (b % 2 ^ 5)) in omega (arith, le, ha)
operate_small register_op.ShiftRightArithmetic a b ha hb = unsigned_small _ (shr_under (signed a) (b % 2 ^ 5) (signed_under a ha))
operate_small register_op.Or a b ha hb = or_lt 32 a b ha hb
operate_small register_op.And a b ha hb = let le : bit_and a b ≤ a = and_le_l a b in omega (arith, le, ha)
operate_small register_op.Mul a b ha hb = let lt : a * b % 2 ^ 32 < 2 ^ 32 = omega arith in lt
operate_small register_op.MulHigh a b ha hb = upper_small _ (mul_under (signed a) (signed b) (signed_under a ha) (under_more (2 ^ 31) (2 ^ 32) (signed b) (omega arith) (signed_under b hb)))
operate_small register_op.MulHighSignedUnsigned a b ha hb = upper_small _ (mul_under (signed a) (pos b) (signed_under a ha) hb)
operate_small register_op.MulHighUnsigned a b ha hb = high_small a b ha hb
operate_small register_op.Div a b ha hb = if_small (eqb b 0) (2 ^ 32 - 1) _ (omega arith) (unsigned_small _ (div_under (signed a) (signed b) (signed_under a ha)))
operate_small register_op.DivUnsigned a b ha hb = let le : a / b ≤ a = div-le_self a b in if_small (eqb b 0) (2 ^ 32 - 1) (a / b) (omega arith) (omega (arith, le, ha))
operate_small register_op.Rem a b ha hb = if_small (eqb b 0) a _ ha (unsigned_small _ (rem_under (signed a) (signed b) (signed_under a ha)))
operate_small register_op.RemUnsigned a b ha hb = let le : a % b ≤ a = mod-le a b in if_small (eqb b 0) a (a % b) ha (omega (arith, le, ha))

pub result_small : (o : Operation) (a b : ℕ) → a < 2 ^ 32 → b < 2 ^ 32 → flat.operate o a b < 2 ^ 32
result_small (operation.Machine o) a b ha hb = operate_small o a b ha hb
result_small operation.Equal a b ha hb = one_small (eqb a b)
result_small operation.NotEqual a b ha hb = one_small (not (eqb a b))

-- ---- words are equal exactly where no bit differs

bit_same : (a b : ℕ) → a < 2 → b < 2 → bit_xor a b ≡ 0 → a ≡ b
bit_same zero b ha hb e = sym e
bit_same (suc zero) zero ha hb e = cc
bit_same (suc zero) (suc zero) ha hb e = refl
bit_same (suc zero) (suc (suc b)) ha hb e = absurd (omega (arith, hb))
bit_same (suc (suc a)) b ha hb e = absurd (omega (arith, ha))

xor_same : (k a b : ℕ) → a < 2 ^ k → b < 2 ^ k → bit_xor a b ≡ 0 → a ≡ b
xor_same zero a b ha hb e = omega (arith, ha, hb)
xor_same (suc k) a b ha hb e =
    let double : 2 ^ suc k ≡ 2 ^ k * 2 = pow-suc 2 k in
    let high : bit_xor (a / 2) (b / 2) ≡ 0 = sym (xor_shr a b 1) ∙ ap (λ x. x / 2) e in
    let low : bit_xor (a % 2) (b % 2) ≡ 0 = sym (xor_mod a b 1) ∙ ap (λ x. x % 2) e in
    let h : a / 2 ≡ b / 2 = xor_same k (a / 2) (b / 2) (omega (arith, ha, double)) (omega (arith, hb, double)) high in
    let l : a % 2 ≡ b % 2 = bit_same (a % 2) (b % 2) (omega arith) (omega arith) low in
    omega (arith, h, l)

bit_self : (a : ℕ) → a < 2 → bit_xor a a ≡ 0
bit_self zero ha = refl
bit_self (suc zero) ha = refl
bit_self (suc (suc a)) ha = absurd (omega (arith, ha))

xor_self : (k a : ℕ) → a < 2 ^ k → bit_xor a a ≡ 0
xor_self zero a ha = let z : a ≡ 0 = omega (arith, ha) in subst (λ x. bit_xor x x ≡ 0) (sym z) refl
xor_self (suc k) a ha =
    let double : 2 ^ suc k ≡ 2 ^ k * 2 = pow-suc 2 k in
    let high : bit_xor a a / 2 ≡ 0 = xor_shr a a 1 ∙ xor_self k (a / 2) (omega (arith, ha, double)) in
    let low : bit_xor a a % 2 ≡ 0 = xor_mod a a 1 ∙ bit_self (a % 2) (omega arith) in
    omega (arith, high, low)

pub equal_is : (a b : ℕ) → a < 2 ^ 32 → b < 2 ^ 32 → one_if (nat_lt (bit_xor a b) 1) ≡ one_if (eqb a b)
equal_is a b ha hb =
    bool_cases (eqb a b)
    (λ t.
    let same : a ≡ b = grind (arith, nat_tests) in
    let z : bit_xor a b ≡ 0 = subst (λ x. bit_xor a x ≡ 0) same (xor_self 32 a ha) in
    rw (t, z) refl)
    (λ t.
    let ne : a ≢ b = grind (arith, nat_tests) in
    let some : bit_xor a b ≢ 0 = λ z. ne (xor_same 32 a b ha hb z) in
    let no : nat_lt (bit_xor a b) 1 ≡ false = grind (arith, nat_tests) in
    rw (t, no) refl)

pub differ_is : (a b : ℕ) → a < 2 ^ 32 → b < 2 ^ 32 → one_if (nat_lt 0 (bit_xor a b)) ≡ one_if (not (eqb a b))
differ_is a b ha hb =
    bool_cases (eqb a b)
    (λ t.
    let same : a ≡ b = grind (arith, nat_tests) in
    let z : bit_xor a b ≡ 0 = subst (λ x. bit_xor a x ≡ 0) same (xor_self 32 a ha) in
    rw (t, z) refl)
    (λ t.
    let ne : a ≢ b = grind (arith, nat_tests) in
    let some : bit_xor a b ≢ 0 = λ z. ne (xor_same 32 a b ha hb z) in
    let yes_ : nat_lt 0 (bit_xor a b) ≡ true = grind (arith, nat_tests) in
    rw (t, yes_) refl)
