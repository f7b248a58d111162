-- The resources that the code of expressions takes: nodes, temporaries and room.
use Rattle.std.proofs.Common.{◌≡◌, ℕ, zero, suc, ◌+◌, ◌*◌, ◌-◌, ◌<◌, ◌≤◌, ◌^◌, arith}

pub inner : (p e : ℕ) → e ≤ p + e + 1
inner p e = omega arith

pub only : (e : ℕ) → e ≤ e + 1
only e = omega arith

pub first : (a b : ℕ) → a ≤ a + b + 1
first a b = omega arith

pub first3 : (a b c : ℕ) → a ≤ a + b + c + 1
first3 a b c = omega arith

pub second3 : (a b c : ℕ) → b ≤ a + b + c + 1
second3 a b c = omega arith

pub third3 : (a b c : ℕ) → c ≤ a + b + c + 1
third3 a b c = omega arith

pub of_both : (a b : ℕ) → a ≤ a + b
of_both a b = omega arith

pub less : (t n m b : ℕ) → m ≤ n → t + n ≤ b → t + m ≤ b
less t n m b h x = omega (arith, h, x)

pub beside : (t t2 a c b : ℕ) → t2 ≤ t + 1 → t + (a + c + 1) ≤ b → t2 + c ≤ b
beside t t2 a c b h x = omega (arith, h, x)

pub beside_argument : (t t2 a c b : ℕ) → 1 ≤ a → t2 ≤ t + 1 → t + (a + c) ≤ b → t2 + c ≤ b
beside_argument t t2 a c b s h x = omega (arith, s, h, x)

pub two : (t p b : ℕ) → 1 ≤ p → t + (p + 1) ≤ b → t + 2 ≤ b
two t p b h x = omega (arith, h, x)

pub two_beside : (t2 t p b : ℕ) → t2 + 1 ≤ t + p → t + (p + 1) ≤ b → t2 + 1 < b
two_beside t2 t p b h x = omega (arith, h, x)

pub third : (j t2 t p e b : ℕ) → j ≤ t2 + 1 → t2 ≤ t + 1 → 1 ≤ p → 1 ≤ e → t + (p + e + 1) ≤ b → j < b
third j t2 t p e b x y h g f = omega (arith, x, y, h, g, f)

pub some_node : (n : ℕ) → 1 ≤ n + 1
some_node n = omega arith

pub from_zero : (t n b : ℕ) → t + (n + 1) ≤ b → 0 + n ≤ b
from_zero t n b x = omega (arith, x)

pub few : (n a t b : ℕ) → n ≤ a → t + (a + 1) ≤ b → n ≤ b
few n a t b h x = omega (arith, h, x)

pub same_le : (n : ℕ) → n ≤ n
same_le n = omega arith

pub past_two : (p q r : ℕ) → p + 1 ≡ q → q + 1 ≡ r → p ≤ r
past_two p q r x y = omega (arith, x, y)

pub on : (p q l : ℕ) → p ≤ q → q ≤ l → p ≤ l
on p q l x y = omega (arith, x, y)

pub row_room : (e m : ℕ) → 128 * (e + (m + 1)) + 0 ≤ 128 * (e + m) + (32 + (0 + 96))
row_room e m = omega arith

pub array_room : (e m : ℕ) → 128 * (e + (m + 1)) + 0 ≤ 128 * (e + m) + (124 + (0 + 104))
array_room e m = omega arith

pub counted_first : (a m : ℕ) → 1 ≤ a → 1 ≤ a + m
counted_first a m h = omega (arith, h)

pub counted : (n a m : ℕ) → 1 ≤ a → n ≤ m → suc n ≤ a + m
counted n a m h x = omega (arith, h, x)

pub zero_small : 0 < 2 ^ 32
zero_small = omega arith

pub ones_small : 2 ^ 32 - 1 < 2 ^ 32
ones_small = omega arith

pub some_inside : (n e : ℕ) → 0 < n * e → 0 < e
some_inside n zero h = absurd (let z : n * 0 ≡ 0 = grind arith in omega (arith, h, z))
some_inside n (suc e) h = omega arith
