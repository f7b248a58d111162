-- Bounds of products, quotients, remainders and shifts.
use Rattle.std.proofs.Common.{◌≡◌, ◌*◌, ◌/◌, ◌%◌, ◌^◌, ◌<◌, ◌≤◌, ℕ, zero, suc, ℤ, pos, negsuc, neg_ℤ, ◌-ℤ◌, ◌*ℤ◌, ◌≤ℤ◌, ◌<ℤ◌, refl, subst, sym, arith, int_div, int_rem}
use Rattle.std.proofs.lemmas.Int.{ints}
use Rattle.std.proofs.lemmas.Nat.{mul-le, le-div, pow_pos}
use Rattle.std.proofs.Math.Nat.{div-le_self, div-mul-le_self, mod-lt, pow-le-pow_right, zero-div}

-- ---- products

negative : (n m : ℕ) → n ≤ m → ((pos 0 -ℤ pos m) ≤ℤ neg_ℤ (pos n)) × (neg_ℤ (pos n) ≤ℤ pos 0)
negative zero m h = (omega (arith, ints), omega (arith, ints))
negative (suc n) m h = (omega (arith, ints, h), omega (arith, ints))

pub magnitude_in : (a b c d : ℤ) → (pos 0 -ℤ c) ≤ℤ a → a ≤ℤ c → (pos 0 -ℤ d) ≤ℤ b → b ≤ℤ d → ((pos 0 -ℤ (c *ℤ d)) ≤ℤ (a *ℤ b)) × ((a *ℤ b) ≤ℤ (c *ℤ d))
magnitude_in a b (negsuc c) d l h m g = absurd (omega (arith, ints, l, h))
magnitude_in a b c (negsuc d) l h m g = absurd (omega (arith, ints, m, g))
magnitude_in (pos a) (pos b) (pos c) (pos d) l h m g =
    let e : a * b ≤ c * d = mul-le a b c d (omega (arith, ints, h)) (omega (arith, ints, g)) in (omega (arith, ints), omega (arith, ints, e))
magnitude_in (negsuc a) (negsuc b) (pos c) (pos d) l h m g =
    let e : suc a * suc b ≤ c * d = mul-le (suc a) (suc b) c d (omega (arith, ints, l)) (omega (arith, ints, m)) in (omega (arith, ints), omega (arith, ints, e))
magnitude_in (pos a) (negsuc b) (pos c) (pos d) l h m g =
    let e : a * suc b ≤ c * d = mul-le a (suc b) c d (omega (arith, ints, h)) (omega (arith, ints, m)) in
    let n = negative (a * suc b) (c * d) e in (n.0, omega (arith, ints, n.1))
magnitude_in (negsuc a) (pos b) (pos c) (pos d) l h m g =
    let e : suc a * b ≤ c * d = mul-le (suc a) b c d (omega (arith, ints, l)) (omega (arith, ints, g)) in
    let n = negative (suc a * b) (c * d) e in (n.0, omega (arith, ints, n.1))

-- ---- quotients and remainders by numbers above zero

div_smaller : (a b m n : ℕ) → a ≤ b → 0 < m → m ≤ n → a / n ≤ b / m
div_smaller a b m n h z g = le-div (a / n) b m z (let p : a / n * m ≤ a / n * n = mul-le (a / n) m (a / n) n (omega arith) g in let q : a / n * n ≤ a = div-mul-le_self a n in omega (arith, p, q, h))

pub quotient_in : (a b l h m : ℤ) → pos 0 <ℤ m → m ≤ℤ b → l ≤ℤ a → a ≤ℤ h → l ≤ℤ pos 0 → pos 0 ≤ℤ h → (int_div l m ≤ℤ int_div a b) × (int_div a b ≤ℤ int_div h m)
quotient_in a (negsuc b) l h m p e la ah lz hz = absurd (omega (arith, ints, p, e))
quotient_in a b l h (negsuc m) p e la ah lz hz = absurd (omega (arith, ints, p))
quotient_in a b l (negsuc h) m p e la ah lz hz = absurd (omega (arith, ints, hz))
quotient_in a b (pos (suc l)) h m p e la ah lz hz = absurd (omega (arith, ints, lz))
quotient_in (pos a) (pos b) (pos zero) (pos h) (pos m) p e la ah lz hz =
    let q : a / b ≤ h / m = div_smaller a h m b (omega (arith, ints, ah)) (omega (arith, ints, p)) (omega (arith, ints, e)) in
    let z : 0 / m ≡ 0 = zero-div m in (omega (arith, ints, z), omega (arith, ints, q))
quotient_in (pos a) (pos b) (negsuc l) (pos h) (pos m) p e la ah lz hz =
    let q : a / b ≤ h / m = div_smaller a h m b (omega (arith, ints, ah)) (omega (arith, ints, p)) (omega (arith, ints, e)) in
    let n = negative (suc l / m) (suc l / m) (omega arith) in (omega (arith, ints, n.1), omega (arith, ints, q))
quotient_in (negsuc a) (pos b) (pos zero) (pos h) (pos m) p e la ah lz hz = absurd (omega (arith, ints, la))
quotient_in (negsuc a) (pos b) (negsuc l) (pos h) (pos m) p e la ah lz hz =
    let q : suc a / b ≤ suc l / m = div_smaller (suc a) (suc l) m b (omega (arith, ints, la)) (omega (arith, ints, p)) (omega (arith, ints, e)) in
    let n = negative (suc a / b) (suc a / b) (omega arith) in (opposite (suc a / b) (suc l / m) q, omega (arith, ints, n.1))
  where
    opposite : (x y : ℕ) → x ≤ y → neg_ℤ (pos y) ≤ℤ neg_ℤ (pos x)
    opposite zero zero h = omega (arith, ints)
    opposite zero (suc y) h = omega (arith, ints)
    opposite (suc x) zero h = absurd (omega (arith, h))
    opposite (suc x) (suc y) h = omega (arith, ints, h)

-- of one that is no greater than the dividend
pub one_quotient : (l h a b : ℤ) → pos 0 <ℤ b → l ≤ℤ a → a ≤ℤ h → l ≤ℤ pos 0 → pos 0 ≤ℤ h → (l ≤ℤ int_div a b) × (int_div a b ≤ℤ h)
one_quotient l h a (negsuc b) p la ah lz hz = absurd (omega (arith, ints, p))
one_quotient l h (pos a) (pos b) p la ah lz hz = let e : a / b ≤ a = div-le_self a b in (omega (arith, ints, lz), omega (arith, ints, e, ah))
one_quotient l h (negsuc a) (pos b) p la ah lz hz = let n = negative (suc a / b) (suc a) (div-le_self (suc a) b) in (omega (arith, ints, n.0, la), omega (arith, ints, n.1, hz))

pub remainder_in : (a b d : ℤ) → pos 0 <ℤ b → b ≤ℤ d → ((pos 0 -ℤ d) <ℤ int_rem a b) × (int_rem a b <ℤ d)
remainder_in a (negsuc b) d p e = absurd (omega (arith, ints, p))
remainder_in (pos a) (pos b) d p e = let m : a % b < b = mod-lt a (omega (arith, ints, p)) in (omega (arith, ints, e, p), omega (arith, ints, e, m))
remainder_in (negsuc a) (pos b) d p e =
    let m : suc a % b < b = mod-lt (suc a) (omega (arith, ints, p)) in
    let n = negative (suc a % b) (suc a % b) (omega arith) in (omega (arith, ints, n.0, e, m), omega (arith, ints, n.1, e, p))

mod_le_self : (a b : ℕ) → 0 < b → a % b ≤ a
mod_le_self a b h = omega (arith)

-- a remainder has the sign of the dividend, and is no greater
pub remainder_of : (a b l h : ℤ) → pos 0 <ℤ b → l ≤ℤ a → a ≤ℤ h → l ≤ℤ pos 0 → pos 0 ≤ℤ h → (l ≤ℤ int_rem a b) × (int_rem a b ≤ℤ h)
remainder_of a (negsuc b) l h p la ah lz hz = absurd (omega (arith, ints, p))
remainder_of (pos a) (pos b) l h p la ah lz hz = let e : a % b ≤ a = mod_le_self a b (omega (arith, ints, p)) in (omega (arith, ints, lz), omega (arith, ints, e, ah))
remainder_of (negsuc a) (pos b) l h p la ah lz hz =
    let n = negative (suc a % b) (suc a) (mod_le_self (suc a) b (omega (arith, ints, p))) in (omega (arith, ints, n.0, la), omega (arith, ints, n.1, hz))

-- ---- by numbers below zero

opposite_of : (n : ℕ) → neg_ℤ (pos n) ≡ pos 0 -ℤ pos n
opposite_of zero = omega (arith, ints)
opposite_of (suc n) = omega (arith, ints)

opposite_twice : (n : ℕ) → pos n ≡ pos 0 -ℤ neg_ℤ (pos n)
opposite_twice zero = omega (arith, ints)
opposite_twice (suc n) = omega (arith, ints)

pub quotient_turned : (a : ℤ) (b : ℕ) → int_div a (negsuc b) ≡ pos 0 -ℤ int_div a (pos (suc b))
quotient_turned (pos a) b = opposite_of (a / suc b)
quotient_turned (negsuc a) b = opposite_twice (suc a / suc b)

pub remainder_turned : (a : ℤ) (b : ℕ) → int_rem a (negsuc b) ≡ int_rem a (pos (suc b))
remainder_turned (pos a) b = refl
remainder_turned (negsuc a) b = refl

-- ---- shifts

pub pow_mono : (i j : ℕ) → i ≤ j → 2 ^ i ≤ 2 ^ j
pow_mono i j h = pow-le-pow_right {n = 2} (omega arith) h

-- of a number that is not negative
pub shifted_in : (a b h j k : ℕ) → a ≤ h → j ≤ b → k ≡ 2 ^ j → a / 2 ^ b ≤ h / k
shifted_in a b h j k ah jb e = let P : ℕ → Type 0 = λ k. a / 2 ^ b ≤ h / k in subst P (sym e) (div_smaller a h (2 ^ j) (2 ^ b) ah (pow_pos j) (pow_mono j b jb))
