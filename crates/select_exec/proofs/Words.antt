-- Registers, bytes and words of the memory after a write.
use Rattle.std.proofs.Common.{◌≡◌, ◌≢◌, ◌⊎◌, inl, inr, ℕ, ◌+◌, ◌/◌, ◌%◌, ◌^◌, ◌<◌, ◌≤◌, Bool, true, false, refl, ◌∙◌, arith, eqb}
use Rattle.std.proofs.lemmas.Bool.Decides.{nat_tests}
use Rattle.rv32.specs.Space.{half_at, word_at, byte_put}
use Rattle.select_exec.specs.Light.{reg, with_reg, with_byte, with_half, with_word}
use Rattle.select_exec.proofs.Bridge.{bool_cases}

-- ---- registers

pub reg_is : (r : ℕ → ℕ) (k : ℕ) → 0 < k → reg r k ≡ r k
reg_is r k h = let z : eqb k 0 ≡ false = grind (arith, nat_tests) in rw z refl

pub with_same : (r : ℕ → ℕ) (k w : ℕ) → 0 < k → with_reg r k w k ≡ w
with_same r k w h =
    let z : eqb k 0 ≡ false = grind (arith, nat_tests) in
    let s : eqb k k ≡ true = grind (arith, nat_tests) in
    rw (z, s) refl

pub with_other : (r : ℕ → ℕ) (k w j : ℕ) → j ≢ k → with_reg r k w j ≡ r j
with_other r k w j h =
    let t : eqb j k ≡ false = grind (arith, nat_tests) in
    bool_cases (eqb k 0) (λ z. rw z refl) (λ z. rw (z, t) refl)

-- ---- bytes: nothing outside the addresses of a store changes

pub byte_off : (b : ℕ → ℕ) (a v k : ℕ) → k ≢ a → with_byte b a v k ≡ b k
byte_off b a v k ne = let t : eqb k a ≡ false = grind (arith, nat_tests) in rw t refl

pub byte_back : (b : ℕ → ℕ) (a v : ℕ) → with_byte b a v a ≡ v
byte_back b a v = let t : eqb a a ≡ true = grind (arith, nat_tests) in rw t refl

pub half_off : (b : ℕ → ℕ) (a v k : ℕ) → (a + 2 ≤ k) ⊎ (k < a) → with_half b a v k ≡ b k
half_off b a v k h =
    let t0 : eqb k a ≡ false = grind (arith, nat_tests) in
    let t1 : eqb k (a + 1) ≡ false = grind (arith, nat_tests) in
    rw (t0, t1) refl

pub word_off : (b : ℕ → ℕ) (a v k : ℕ) → (a + 4 ≤ k) ⊎ (k < a) → with_word b a v k ≡ b k
word_off b a v k h =
    let t0 : eqb k a ≡ false = grind (arith, nat_tests) in
    let t1 : eqb k (a + 1) ≡ false = grind (arith, nat_tests) in
    let t2 : eqb k (a + 2) ≡ false = grind (arith, nat_tests) in
    let t3 : eqb k (a + 3) ≡ false = grind (arith, nat_tests) in
    rw (t0, t1, t2, t3) refl

-- ---- words

-- of bytes that are the same
pub word_same : (b b2 : ℕ → ℕ) (a : ℕ) → ((k : ℕ) → a ≤ k → k < a + 4 → b2 k ≡ b k) → word_at b2 a ≡ word_at b a
word_same b b2 a same = rw (same a (omega arith) (omega arith), same (a + 1) (omega arith) (omega arith), same (a + 2) (omega arith) (omega arith), same (a + 3) (omega arith) (omega arith)) refl

pub half_same : (b b2 : ℕ → ℕ) (a : ℕ) → ((k : ℕ) → a ≤ k → k < a + 2 → b2 k ≡ b k) → half_at b2 a ≡ half_at b a
half_same b b2 a same = rw (same a (omega arith) (omega arith), same (a + 1) (omega arith) (omega arith)) refl

-- a word apart from the stored one
pub word_apart : (b : ℕ → ℕ) (a v c : ℕ) → (a + 4 ≤ c) ⊎ (c + 4 ≤ a) → word_at (with_word b a v) c ≡ word_at b c
word_apart b a v c (inl h) = word_same b (with_word b a v) c (λ k lo hi. word_off b a v k (inl (omega (arith, h, lo))))
word_apart b a v c (inr h) = word_same b (with_word b a v) c (λ k lo hi. word_off b a v k (inr (omega (arith, h, hi))))

pub word_apart_half : (b : ℕ → ℕ) (a v c : ℕ) → (a + 2 ≤ c) ⊎ (c + 4 ≤ a) → word_at (with_half b a v) c ≡ word_at b c
word_apart_half b a v c (inl h) = word_same b (with_half b a v) c (λ k lo hi. half_off b a v k (inl (omega (arith, h, lo))))
word_apart_half b a v c (inr h) = word_same b (with_half b a v) c (λ k lo hi. half_off b a v k (inr (omega (arith, h, hi))))

pub word_apart_byte : (b : ℕ → ℕ) (a v c : ℕ) → (a < c) ⊎ (c + 4 ≤ a) → word_at (with_byte b a v) c ≡ word_at b c
word_apart_byte b a v c (inl h) = word_same b (with_byte b a v) c (λ k lo hi. byte_off b a v k (λ e. omega (arith, h, lo, e)))
word_apart_byte b a v c (inr h) = word_same b (with_byte b a v) c (λ k lo hi. byte_off b a v k (λ e. omega (arith, h, hi, e)))

-- the stored word is read back
pub word_back : (b : ℕ → ℕ) (a w : ℕ) → w < 2 ^ 32 → word_at (with_word b a w) a ≡ w
word_back b a w h =
    let s0 : eqb a a ≡ true = grind (arith, nat_tests) in
    let t1 : eqb (a + 1) a ≡ false = grind (arith, nat_tests) in
    let t2 : eqb (a + 2) a ≡ false = grind (arith, nat_tests) in
    let t3 : eqb (a + 3) a ≡ false = grind (arith, nat_tests) in
    let s1 : eqb (a + 1) (a + 1) ≡ true = grind (arith, nat_tests) in
    let t4 : eqb (a + 2) (a + 1) ≡ false = grind (arith, nat_tests) in
    let t5 : eqb (a + 3) (a + 1) ≡ false = grind (arith, nat_tests) in
    let s2 : eqb (a + 2) (a + 2) ≡ true = grind (arith, nat_tests) in
    let t6 : eqb (a + 3) (a + 2) ≡ false = grind (arith, nat_tests) in
    let s3 : eqb (a + 3) (a + 3) ≡ true = grind (arith, nat_tests) in
    rw (s0, t1, t2, t3, s1, t4, t5, s2, t6, s3) (omega arith)

pub half_back : (b : ℕ → ℕ) (a w : ℕ) → half_at (with_half b a w) a ≡ w % 2 ^ 16
half_back b a w =
    let s0 : eqb a a ≡ true = grind (arith, nat_tests) in
    let t1 : eqb (a + 1) a ≡ false = grind (arith, nat_tests) in
    let s1 : eqb (a + 1) (a + 1) ≡ true = grind (arith, nat_tests) in
    rw (s0, t1, s1) (omega arith)

-- words of bytes are words
pub word_small : (b : ℕ → ℕ) (a : ℕ) → ((k : ℕ) → b k < 2 ^ 8) → word_at b a < 2 ^ 32
word_small b a s = omega (arith, s a, s (a + 1), s (a + 2), s (a + 3))

pub half_small : (b : ℕ → ℕ) (a : ℕ) → ((k : ℕ) → b k < 2 ^ 8) → half_at b a < 2 ^ 16
half_small b a s = omega (arith, s a, s (a + 1))

-- ---- bytes stay bytes

byte_put_small : (a v k x : ℕ) → v < 2 ^ 8 → x < 2 ^ 8 → byte_put a v k x < 2 ^ 8
byte_put_small a v k x sv sx = bool_cases (eqb k a) (λ e. rw e sv) (λ e. rw e sx)

pub byte_bytes : (b : ℕ → ℕ) (a v : ℕ) → v < 2 ^ 8 → ((k : ℕ) → b k < 2 ^ 8) → (k : ℕ) → with_byte b a v k < 2 ^ 8
byte_bytes b a v small s k = byte_put_small a v k (b k) small (s k)

pub half_bytes : (b : ℕ → ℕ) (a v : ℕ) → ((k : ℕ) → b k < 2 ^ 8) → (k : ℕ) → with_half b a v k < 2 ^ 8
half_bytes b a v s k = byte_put_small a _ k _ (omega arith) (byte_put_small (a + 1) _ k (b k) (omega arith) (s k))

pub word_bytes : (b : ℕ → ℕ) (a v : ℕ) → v < 2 ^ 32 → ((k : ℕ) → b k < 2 ^ 8) → (k : ℕ) → with_word b a v k < 2 ^ 8
word_bytes b a v small s k =
    byte_put_small a _ k _ (omega arith) (byte_put_small (a + 1) _ k _ (omega arith) (byte_put_small (a + 2) _ k _ (omega arith) (byte_put_small (a + 3) _ k (b k) (omega (arith, small)) (s k))))
