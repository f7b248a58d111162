-- Sizes up to the greatest number of 64 bits.
use Rattle.std.proofs.Common.{◌≡◌, ℕ, zero, suc, ◌*◌, ◌%◌, ◌-◌, ◌^◌, ◌<◌, ◌≤◌, true, false, min, nat_lt, refl, ap, ◌∙◌, arith}
use Rattle.std.proofs.lemmas.Nat.{mul-le, mul-mod_second}
use Rattle.std.proofs.lemmas.List.{drop_more, drop_all}
use Rattle.std.proofs.Common.{List, [], ◌∷◌, length, drop, get_or, ◌+◌, sym, mul_comm, mul_assoc, ℤ, pos, FitsSigned, to_z, of_z, w64}
use Rattle.std.proofs.lemmas.Int.{ints, to_z-of_z}
use Rattle.tree.specs.Capped.{capped}
use Rattle.ctypes.specs.declared.types.IntType.{IntType}
use Rattle.ctypes.specs.declared.types.IntType.TheVariants as ty
use Rattle.ctypes.specs.Types.{bytes_of}
use Rattle.typing_spec.specs.Types.{elements_in}
use Rattle.typing_spec.specs.Verdict.{fine}
use Rattle.typing_spec.specs.Expressions.{positive}
use Rattle.srcset.specs.declared.refusal.Pos.{Pos}

-- of a limit M below which a number is itself
small : (M a b r x : ℕ) → r ≡ min (a * b) M → b ≡ min x M → x ≤ M → r ≡ min (a * x) M
small M a b r x e f h = let g : b ≡ x = omega (arith, f, h) in e ∙ ap (λ k. min (a * k) M) g

large : (M a b r x : ℕ) → r ≡ min (a * b) M → b ≡ min x M → M ≤ x → r ≡ min (a * x) M
large M zero b r x e f h = omega (arith, e)
large M (suc a) b r x e f h =
    let g : b ≡ M = omega (arith, f, h) in
    let p = mul-le 1 M (suc a) M (omega arith) (omega arith) in
    let q = mul-le (suc a) M (suc a) x (omega arith) h in
    let w : r ≡ min (suc a * M) M = e ∙ ap (λ k. min (suc a * k) M) g in omega (arith, w, p, q)

product : (M a b r x : ℕ) → r ≡ min (a * b) M → b ≡ min x M → r ≡ min (a * x) M
product M a b r x e f =
    elim (nat_lt x M) as (λ v. nat_lt x M ≡ v → r ≡ min (a * x) M)
    [ true ↦ λ v. small M a b r x e f (grind arith) | false ↦ λ v. large M a b r x e f (grind arith) ] refl

pub capped_product : (a b r x : ℕ) → r ≡ min (a * b) (2 ^ 64 - 1) → b ≡ capped x → r ≡ capped (a * x)
unfolding capped
capped_product a b r x e f = product (2 ^ 64 - 1) a b r x e f

pub capped_one : 1 ≡ capped 1
unfolding capped
capped_one = refl

pub limit_of_capped : (c x : ℕ) → c ≡ capped x → nat_lt 1048576 c ≡ nat_lt 1048576 x
unfolding capped
limit_of_capped c x e = grind (arith, e)

pub capped_of_none : (xs : List ℕ) → length xs ≡ 0 → 1 ≡ capped (elements_in xs)
unfolding capped
capped_of_none [] h = refl
capped_of_none (n ∷ ns) h = absurd (omega (arith, h))

-- sizes of arrays
pub positive_is : (p : Pos) (v : ℤ) (n : ℕ) → v ≡ pos n → 0 < n → positive p v ≡ fine n
positive_is p v zero e h = absurd (omega (arith, h))
positive_is p v (suc n) e h = ap (positive p) e

-- ---- elements of arrays, counted from the outermost

turned : (p n e a : ℕ) → p * (n * e) ≡ a → n * p * e ≡ a
turned p n e a h = ap (λ k. k * e) (mul_comm n p) ∙ mul_assoc p n e ∙ h

-- the number of elements by the lengths before those that are left
pub record Counted (count : ℕ) (left all : List ℕ) : Type 0 where
  pub so_far : ℕ
  pub within : count ≡ capped so_far
  pub whole : so_far * elements_in left ≡ elements_in all

pub counted_none : (all : List ℕ) → Counted 1 all all
counted_none all = record { so_far = 1; within = capped_one; whole = omega arith }

next_counted : (count n more : ℕ) (left rest all : List ℕ) → left ≡ n ∷ rest → more ≡ min (n * count) (2 ^ 64 - 1) → Counted count left all → Counted more rest all
next_counted count n more left rest all e f h = record {
  so_far = n * h.so_far;
  within = capped_product n count more h.so_far f h.within;
  whole = turned h.so_far n (elements_in rest) (elements_in all) (ap (λ k. h.so_far * elements_in k) (sym e) ∙ h.whole);
}

pub counted_next : (count i more : ℕ) (all : List ℕ) → i < length all → more ≡ min (get_or all i 0 * count) (2 ^ 64 - 1) → Counted count (drop i all) all → Counted more (drop (i + 1) all) all
counted_next count i more all h f k = next_counted count (get_or all i 0) more (drop i all) (drop (i + 1) all) all (drop_more all i 0 h) f k

none_left : (count : ℕ) (left all : List ℕ) → left ≡ [] → Counted count left all → count ≡ capped (elements_in all)
none_left count left all e h =
    let w : h.so_far * 1 ≡ elements_in all = ap (λ k. h.so_far * elements_in k) (sym e) ∙ h.whole in let g : h.so_far ≡ elements_in all = omega (arith, w) in h.within ∙ ap capped g

pub counted_all : (count i : ℕ) (all : List ℕ) → length all ≤ i → Counted count (drop i all) all → count ≡ capped (elements_in all)
counted_all count i all h k = none_left count (drop i all) all (drop_all i all h) k

-- ---- sizes modulo 2 ^ 64, from the outermost length on

few_bytes : (t : IntType) → bytes_of t ≡ bytes_of t % 2 ^ 64
few_bytes ty.Bool = refl
few_bytes ty.Char = refl
few_bytes ty.SChar = refl
few_bytes ty.UChar = refl
few_bytes ty.Short = refl
few_bytes ty.UShort = refl
few_bytes ty.Int = refl
few_bytes ty.UInt = refl
few_bytes ty.Long = refl
few_bytes ty.ULong = refl

-- the bytes by the lengths before those that are left
pub record Measured (bytes size : ℕ) (left all : List ℕ) : Type 0 where
  pub so_far : ℕ
  pub bytes_are : bytes ≡ so_far % 2 ^ 64
  pub whole : so_far * elements_in left ≡ size * elements_in all

pub number_bytes : (t : IntType) (bytes : ℕ) → bytes ≡ bytes_of t → bytes ≡ bytes_of t % 2 ^ 64
number_bytes t bytes e = e ∙ few_bytes t

pub measured_none : (t : IntType) (bytes : ℕ) (all : List ℕ) → bytes ≡ bytes_of t → Measured bytes (bytes_of t) all all
measured_none t bytes all e = record { so_far = bytes_of t; bytes_are = number_bytes t bytes e; whole = refl }

next_measured : (bytes size n more : ℕ) (left rest all : List ℕ) → left ≡ n ∷ rest → more ≡ (n * bytes) % 2 ^ 64 → Measured bytes size left all → Measured more size rest all
next_measured bytes size n more left rest all e f h = record {
  so_far = n * h.so_far;
  bytes_are = f ∙ ap (λ k. (n * k) % 2 ^ 64) h.bytes_are ∙ mul-mod_second n h.so_far (2 ^ 64);
  whole = turned h.so_far n (elements_in rest) (size * elements_in all) (ap (λ k. h.so_far * elements_in k) (sym e) ∙ h.whole);
}

pub measured_next : (bytes size i more : ℕ) (all : List ℕ) → i < length all → more ≡ (get_or all i 0 * bytes) % 2 ^ 64 → Measured bytes size (drop i all) all → Measured more size (drop (i + 1) all) all
measured_next bytes size i more all h f k = next_measured bytes size (get_or all i 0) more (drop i all) (drop (i + 1) all) all (drop_more all i 0 h) f k

nothing_left : (bytes size : ℕ) (left all : List ℕ) → left ≡ [] → Measured bytes size left all → bytes ≡ (size * elements_in all) % 2 ^ 64
nothing_left bytes size left all e h =
    let w : h.so_far * 1 ≡ size * elements_in all = ap (λ k. h.so_far * elements_in k) (sym e) ∙ h.whole in
    let g : h.so_far ≡ size * elements_in all = omega (arith, w) in
    h.bytes_are ∙ ap (λ k. k % 2 ^ 64) g

pub measured_all : (bytes size i : ℕ) (all : List ℕ) → length all ≤ i → Measured bytes size (drop i all) all → bytes ≡ (size * elements_in all) % 2 ^ 64
measured_all bytes size i all h k = nothing_left bytes size (drop i all) all (drop_all i all h) k

-- an array of n arrays
pub array_bytes : (n b e within bytes : ℕ) → within ≡ (b * e) % 2 ^ 64 → bytes ≡ (n * within) % 2 ^ 64 → bytes ≡ (b * (n * e)) % 2 ^ 64
array_bytes n b e within bytes w f =
    f ∙ ap (λ k. (n * k) % 2 ^ 64) w ∙ mul-mod_second n (b * e) (2 ^ 64) ∙ ap (λ k. k % 2 ^ 64) (sym (mul_assoc n b e) ∙ ap (λ k. k * e) (mul_comm n b) ∙ mul_assoc b n e)

-- 32 bits of 64
word_of : (bytes size word : ℕ) → bytes ≡ size % 2 ^ 64 → word ≡ bytes % 2 ^ 32 → word ≡ size % 2 ^ 32
word_of bytes size word e f = omega (arith, e, f)

word_fits : (word : ℕ) (v : ℤ) → v ≡ pos word → word < 2 ^ 32 → FitsSigned w64 v
word_fits word v e h = first_of (omega (arith, ints, e, h), grind (arith, ints, e, h))

pub word_told : (bytes size word : ℕ) (v : ℤ) → bytes ≡ size % 2 ^ 64 → word ≡ bytes % 2 ^ 32 → v ≡ pos word → to_z w64 (of_z w64 v) ≡ pos (size % 2 ^ 32)
word_told bytes size word v e f g = to_z-of_z w64 v (word_fits word v g (omega (arith, f))) ∙ g ∙ ap pos (word_of bytes size word e f)
