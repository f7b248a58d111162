-- The bytes of objects as a program begins, and the values of their elements.
use Rattle.std.proofs.Common.{◌≡◌, ℕ, zero, suc, ◌+◌, ◌-◌, ◌*◌, ◌/◌, ◌%◌, ◌^◌, ◌<◌, ◌≤◌, List, [], ◌∷◌, ◌++◌, length, drop, Option, Some, None, refl, sym, ap, ◌∙◌, arith}
use Rattle.std.specs.Prelude.{slice_get, ℤ, pos, negsuc, nat_lt, if◌then◌else◌}
use Rattle.std.proofs.lemmas.Int.{ints}
use Rattle.ctypes.specs.declared.types.IntType.{IntType}
use Rattle.ctypes.specs.declared.types.IntType.TheVariants as ty
use Rattle.ctypes.specs.Types.{IsValueOf, bytes_of, modulo, wrap}
use Rattle.ctypes.proofs.Uses.{converted_keeps}
use Rattle.typing_spec.specs.Types.{elements_in}
use Rattle.csem.specs.Store.{Tree, Element, parts, part_of, at_path, first_or_zero, row_of, laid_out}
use Rattle.tac_code.specs.Run.{word_for, number_of}
use Rattle.frames_code.specs.Run.{Bytes, joined, half_in, extended, element_in}
use Rattle.frames.specs.Data.{low_bytes, zeros, filled_up, bytes_of_values}
use Rattle.frames.specs.Translated.{width_of}
use Rattle.frames.proofs.Narrow.{conversions_agree}
use Rattle.frames_correct.specs.Matched.{elements_before, EachPart, Shaped}
use Rattle.frames_correct.proofs.Lists.{same_some, some_below, get_left, get_right, get_take, length_both}
use Rattle.frames_correct.proofs.Trees.{at_none}
use Rattle.frames_correct.proofs.Calling.{as_sum}

-- ---- trees of values

pub drop_none : {A : Type 0} (n : ℕ) → drop {A = A} n [] ≡ []
drop_none zero = refl
drop_none (suc n) = refl

pub drop_drop : {A : Type 0} (a b : ℕ) (xs : List A) → drop a (drop b xs) ≡ drop (b + a) xs
drop_drop a zero xs = ap (λ k. drop k xs) (let e : a ≡ 0 + a = omega arith in e)
drop_drop a (suc b) [] = drop_none a ∙ sym (drop_none (suc b + a))
drop_drop a (suc b) (x ∷ xs) = drop_drop a b xs ∙ ap (λ k. drop k (x ∷ xs)) (let e : suc (b + a) ≡ suc b + a = omega arith in e)

parts_rows : (n k : ℕ) (part : List ℤ → Tree) (vs : List ℤ) → parts (row_of n k part vs) ≡ n
parts_rows zero k part vs = refl
parts_rows (suc n) k part vs = ap suc (parts_rows n k part (drop k vs))

each_row : (P : Tree → Type 0) (n k : ℕ) (part : List ℤ → Tree) (vs : List ℤ) → ((ws : List ℤ) → P (part ws)) → EachPart P (row_of n k part vs)
each_row P zero k part vs each = tt
each_row P (suc n) k part vs each = (each vs, each_row P n k part (drop k vs) each)

pub laid_shaped : (ls : List ℕ) (vs : List ℤ) → Shaped ls (laid_out ls vs)
laid_shaped [] vs = tt
laid_shaped (n ∷ ls) vs = (parts_rows n (elements_in ls) (laid_out ls) vs, each_row (Shaped ls) n (elements_in ls) (laid_out ls) vs (laid_shaped ls))

part_laid : (n k : ℕ) (part : List ℤ → Tree) (vs : List ℤ) (i : ℕ) (t : Tree) → part_of (row_of n k part vs) i ≡ Some t → part (drop (i * k) vs) ≡ t
part_laid zero k part vs i t e = absurd (let z : ⊥ = cc in z)
part_laid (suc n) k part vs zero t e = ap (λ j. part (drop j vs)) (let z : 0 * k ≡ 0 = omega arith in z) ∙ same_some (part vs) t e
part_laid (suc n) k part vs (suc i) t e =
    let more = part_laid n k part (drop k vs) i t e in
    let sum : k + i * k ≡ suc i * k = grind arith in
    ap part (ap (λ j. drop j vs) (sym sum) ∙ sym (drop_drop (i * k) k vs)) ∙ more

pub value_laid : (ls : List ℕ) (vs : List ℤ) (path : List ℕ) (v : ℤ) → at_path (Some (laid_out ls vs)) path ≡ Some (Element (Some v)) → first_or_zero (drop (elements_before ls path) vs) ≡ v
value_laid [] vs [] v e = cc
value_laid [] vs (i ∷ path) v e = absurd (let x : None ≡ Some (Element (Some v)) = sym (at_none path) ∙ e in let z : ⊥ = cc in z)
value_laid (n ∷ ls) vs [] v e = absurd (let z : ⊥ = cc in z)
value_laid (n ∷ ls) vs (i ∷ path) v e = by_part (value_laid ls (drop (i * elements_in ls) vs) path v) (part_of (row_of n (elements_in ls) (laid_out ls) vs) i) refl
  where
    by_part : (at_path (Some (laid_out ls (drop (i * elements_in ls) vs))) path ≡ Some (Element (Some v)) → first_or_zero (drop (elements_before ls path) (drop (i * elements_in ls) vs)) ≡ v)
        → (o : Option Tree) → part_of (row_of n (elements_in ls) (laid_out ls) vs) i ≡ o → first_or_zero (drop (i * elements_in ls + elements_before ls path) vs) ≡ v
    by_part more None g = absurd (let x : None ≡ Some (Element (Some v)) = sym (at_none path) ∙ (ap (λ o. at_path o path) (sym g) ∙ e) in let z : ⊥ = cc in z)
    by_part more (Some t) g =
        let is = part_laid n (elements_in ls) (laid_out ls) vs i t g in
        ap first_or_zero (sym (drop_drop (elements_before ls path) (i * elements_in ls) vs)) ∙ more (ap (λ u. at_path (Some u) path) is ∙ (ap (λ o. at_path o path) (sym g) ∙ e))

-- ---- numbers of words

modulo_byte : (v : ℤ) → modulo 8 (pos (modulo 32 v)) ≡ modulo 8 v
modulo_byte (pos n) = omega arith
modulo_byte (negsuc n) = omega arith

modulo_half : (v : ℤ) → modulo 16 (pos (modulo 32 v)) ≡ modulo 16 v
modulo_half (pos n) = omega arith
modulo_half (negsuc n) = omega arith

wrap_byte : (v : ℤ) → wrap 8 (pos (modulo 32 v)) ≡ wrap 8 v
wrap_byte v = ap (λ w. if nat_lt w (2 ^ 7) then pos w else negsuc (2 ^ 8 - 1 - w)) (modulo_byte v)

wrap_half : (v : ℤ) → wrap 16 (pos (modulo 32 v)) ≡ wrap 16 v
wrap_half v = ap (λ w. if nat_lt w (2 ^ 15) then pos w else negsuc (2 ^ 16 - 1 - w)) (modulo_half v)

-- ---- elements of their low bytes

abbrev LowBytes : IntType → Bytes → ℕ → ℕ → Type 0
LowBytes t m o w = (j x : ℕ) → slice_get (low_bytes (bytes_of t) w) j ≡ Some x → m (o + j) ≡ Some x

module _ (m : Bytes) (o w : ℕ) where
  first_byte : m (o + 0) ≡ Some (w % 2 ^ 8) → m o ≡ Some (w % 2 ^ 8)
  first_byte h = ap m (let e : o ≡ o + 0 = omega arith in e) ∙ h

  half_of : m (o + 0) ≡ Some (w % 2 ^ 8) → m (o + 1) ≡ Some (w / 2 ^ 8 % 2 ^ 8) → half_in m o ≡ Some (w % 2 ^ 16)
  half_of h k =
      let sum : w % 2 ^ 8 + w / 2 ^ 8 % 2 ^ 8 * 2 ^ 8 ≡ w % 2 ^ 16 = omega arith in
      ap (λ x. joined x (m (o + 1)) 8) (first_byte h) ∙ (ap (λ x. joined (Some (w % 2 ^ 8)) x 8) k ∙ ap Some sum)

word_of : (t : IntType) → bytes_of t ≡ 4 → (m : Bytes) (o w : ℕ) → w < 2 ^ 32 → LowBytes t m o w → joined (half_in m o) (half_in m (o + 2)) 16 ≡ Some w
word_of t size m o w small low =
    let all : (j x : ℕ) → slice_get (low_bytes 4 w) j ≡ Some x → m (o + j) ≡ Some x = λ j x e. low j x (ap (λ k. slice_get (low_bytes k w) j) size ∙ e) in
    let u = w / 2 ^ 8 / 2 ^ 8 in
    let one : half_in m o ≡ Some (w % 2 ^ 16) = half_of m o w (all 0 (w % 2 ^ 8) refl) (all 1 (w / 2 ^ 8 % 2 ^ 8) refl) in
    let two : half_in m (o + 2) ≡ Some (u % 2 ^ 16) =
    half_of m (o + 2) u (ap m (let e : o + 2 + 0 ≡ o + 2 = omega arith in e) ∙ all 2 (u % 2 ^ 8) refl) (ap m (let e : o + 2 + 1 ≡ o + 3 = omega arith in e) ∙ all 3 (u / 2 ^ 8 % 2 ^ 8) refl) in
    let sum : w % 2 ^ 16 + u % 2 ^ 16 * 2 ^ 16 ≡ w = omega (arith, small) in
    ap (λ x. joined x (half_in m (o + 2)) 16) one ∙ (ap (λ x. joined (Some (w % 2 ^ 16)) x 16) two ∙ ap Some sum)

modulo_small : (v : ℤ) → modulo 32 v < 2 ^ 32
modulo_small (pos n) = omega arith
modulo_small (negsuc n) = omega arith

truth_word : (v : ℤ) → IsValueOf ty.Bool v → word_for v % 2 ^ 8 ≡ word_for v
truth_word (pos n) h = omega (arith, ints, h.0, h.1)
truth_word (negsuc n) h = omega (arith, ints, h.0, h.1)

pub element_of_low : (t : IntType) (m : Bytes) (o : ℕ) (v : ℤ) → IsValueOf t v → LowBytes t m o (word_for v) → element_in (width_of t) m o ≡ Some (word_for v)
element_of_low ty.Bool m o v h low = first_byte m o (word_for v) (low 0 (word_for v % 2 ^ 8) refl) ∙ ap Some (truth_word v h)
element_of_low ty.Char m o v h low =
    let number : number_of ty.Char (word_for v) ≡ v = ap pos (modulo_byte v) ∙ converted_keeps ty.Char v h in
    first_byte m o (word_for v) (low 0 (word_for v % 2 ^ 8) refl) ∙ ap Some (sym (conversions_agree.to_char (word_for v)) ∙ ap word_for number)
element_of_low ty.SChar m o v h low =
    let number : number_of ty.SChar (word_for v) ≡ v = wrap_byte v ∙ converted_keeps ty.SChar v h in
    ap (extended 7) (first_byte m o (word_for v) (low 0 (word_for v % 2 ^ 8) refl)) ∙ ap Some (sym (conversions_agree.to_signed_char (word_for v)) ∙ ap word_for number)
element_of_low ty.UChar m o v h low =
    let number : number_of ty.UChar (word_for v) ≡ v = ap pos (modulo_byte v) ∙ converted_keeps ty.UChar v h in
    first_byte m o (word_for v) (low 0 (word_for v % 2 ^ 8) refl) ∙ ap Some (sym (conversions_agree.to_unsigned_char (word_for v)) ∙ ap word_for number)
element_of_low ty.Short m o v h low =
    let number : number_of ty.Short (word_for v) ≡ v = wrap_half v ∙ converted_keeps ty.Short v h in
    ap (extended 15) (half_of m o (word_for v) (low 0 (word_for v % 2 ^ 8) refl) (low 1 (word_for v / 2 ^ 8 % 2 ^ 8) refl)) ∙ ap Some (sym (conversions_agree.to_short (word_for v)) ∙ ap word_for number)
element_of_low ty.UShort m o v h low =
    let number : number_of ty.UShort (word_for v) ≡ v = ap pos (modulo_half v) ∙ converted_keeps ty.UShort v h in
    half_of m o (word_for v) (low 0 (word_for v % 2 ^ 8) refl) (low 1 (word_for v / 2 ^ 8 % 2 ^ 8) refl) ∙ ap Some (sym (conversions_agree.to_unsigned_short (word_for v)) ∙ ap word_for number)
element_of_low ty.Int m o v h low = word_of ty.Int refl m o (word_for v) (modulo_small v) low
element_of_low ty.UInt m o v h low = word_of ty.UInt refl m o (word_for v) (modulo_small v) low
element_of_low ty.Long m o v h low = word_of ty.Long refl m o (word_for v) (modulo_small v) low
element_of_low ty.ULong m o v h low = word_of ty.ULong refl m o (word_for v) (modulo_small v) low

-- ---- the bytes of values

length_low : (n w : ℕ) → length (low_bytes n w) ≡ n
length_low zero w = refl
length_low (suc n) w = ap suc (length_low n (w / 2 ^ 8))

length_values : (t : IntType) (vs : List ℤ) → length (bytes_of_values t vs) ≡ bytes_of t * length vs
length_values t [] = let e : 0 ≡ bytes_of t * 0 = omega arith in e
length_values t (v ∷ vs) =
    let more = length_values t vs in
    let sum : bytes_of t * suc (length vs) ≡ bytes_of t + bytes_of t * length vs = grind arith in
    length_both (low_bytes (bytes_of t) (modulo 32 v)) (bytes_of_values t vs) ∙ (let e : length (low_bytes (bytes_of t) (modulo 32 v)) + length (bytes_of_values t vs) ≡ bytes_of t * suc (length vs) = omega (arith, length_low (bytes_of t) (modulo 32 v), more, sum) in e)

values_bytes : (t : IntType) (vs : List ℤ) (e : ℕ) (v : ℤ) → slice_get vs e ≡ Some v → (j x : ℕ) → slice_get (low_bytes (bytes_of t) (modulo 32 v)) j ≡ Some x → slice_get (bytes_of_values t vs) (bytes_of t * e + j) ≡ Some x
values_bytes t [] e v h j x ej = absurd (let z : ⊥ = cc in z)
values_bytes t (u ∷ vs) zero v h j x ej =
    let same : u ≡ v = same_some u v h in
    ap (slice_get (bytes_of_values t (u ∷ vs))) (let z : bytes_of t * 0 + j ≡ j = omega arith in z)
    ∙ get_left (low_bytes (bytes_of t) (modulo 32 u)) (bytes_of_values t vs) j x (ap (λ z. slice_get (low_bytes (bytes_of t) (modulo 32 z)) j) same ∙ ej)
values_bytes t (u ∷ vs) (suc e) v h j x ej =
    let first = low_bytes (bytes_of t) (modulo 32 u) in
    let product : bytes_of t * suc e ≡ bytes_of t + bytes_of t * e = grind arith in
    let at : bytes_of t * suc e + j ≡ length first + (bytes_of t * e + j) = omega (arith, product, length_low (bytes_of t) (modulo 32 u)) in
    ap (slice_get (first ++ bytes_of_values t vs)) at ∙ (get_right first (bytes_of_values t vs) (bytes_of t * e + j) ∙ values_bytes t vs e v h j x ej)

zero_at : (n j : ℕ) → j < n → slice_get (zeros n) j ≡ Some 0
zero_at zero j lt = absurd (omega (arith, lt))
zero_at (suc n) zero lt = refl
zero_at (suc n) (suc j) lt = zero_at n j (omega (arith, lt))

pub filled_inside : (n : ℕ) (bytes : List ℕ) (k x : ℕ) → k < n → slice_get bytes k ≡ Some x → slice_get (filled_up n bytes) k ≡ Some x
filled_inside n bytes k x lt e = get_take n (bytes ++ zeros n) k lt ∙ get_left bytes (zeros n) k x e

filled_behind : (n : ℕ) (bytes : List ℕ) (k : ℕ) → k < n → length bytes ≤ k → slice_get (filled_up n bytes) k ≡ Some 0
filled_behind n bytes k lt le =
    let s = as_sum (length bytes) k le in
    get_take n (bytes ++ zeros n) k lt ∙ (ap (slice_get (bytes ++ zeros n)) (sym s.sum) ∙ (get_right bytes (zeros n) s.rest ∙ zero_at n s.rest (omega (arith, s.sum, lt))))

low_of_zero : (n j x : ℕ) → slice_get (low_bytes n 0) j ≡ Some x → 0 ≡ x
low_of_zero zero j x e = absurd (let z : ⊥ = cc in z)
low_of_zero (suc n) zero x e = same_some 0 x e
low_of_zero (suc n) (suc j) x e = low_of_zero n j x e

first_is : (vs : List ℤ) (e : ℕ) (v : ℤ) → slice_get vs e ≡ Some v → first_or_zero (drop e vs) ≡ v
first_is [] e v h = absurd (let z : ⊥ = cc in z)
first_is (u ∷ vs) zero v h = same_some u v h
first_is (u ∷ vs) (suc e) v h = first_is vs e v h

pub record IsPast (vs : List ℤ) (e : ℕ) : Type 0 where
  pub past : length vs ≤ e
  pub first : first_or_zero (drop e vs) ≡ pos 0

is_past : (vs : List ℤ) (e : ℕ) → slice_get vs e ≡ None → IsPast vs e
is_past [] e h = record { past = omega arith; first = ap first_or_zero (drop_none e) }
is_past (u ∷ vs) zero h = absurd (let z : ⊥ = cc in z)
is_past (u ∷ vs) (suc e) h = let more = is_past vs e h in record { past = omega (arith, more.past); first = more.first }

-- the bytes of element e, whether it has a first value or is zero
pub element_bytes : (t : IntType) (vs : List ℤ) (n e : ℕ) → bytes_of t * e + bytes_of t ≤ n → (j x : ℕ) → slice_get (low_bytes (bytes_of t) (word_for (first_or_zero (drop e vs)))) j ≡ Some x → slice_get (filled_up n (bytes_of_values t vs)) (bytes_of t * e + j) ≡ Some x
element_bytes t vs n e room j x ej = by_value (slice_get vs e) refl
  where
    below : bytes_of t * e + j < n
    below = omega (arith, room, length_low (bytes_of t) (word_for (first_or_zero (drop e vs))), some_below (low_bytes (bytes_of t) (word_for (first_or_zero (drop e vs)))) j x ej)

    times : (b m k : ℕ) → m ≤ k → b * m ≤ b * k
    times b m k le = grind arith

    by_value : (o : Option ℤ) → slice_get vs e ≡ o → slice_get (filled_up n (bytes_of_values t vs)) (bytes_of t * e + j) ≡ Some x
    by_value (Some v) h =
        filled_inside n (bytes_of_values t vs) (bytes_of t * e + j) x below (values_bytes t vs e v h j x (ap (λ z. slice_get (low_bytes (bytes_of t) (modulo 32 z)) j) (sym (first_is vs e v h)) ∙ ej))
    by_value None h =
        let past = is_past vs e h in
        let nothing : 0 ≡ x = low_of_zero (bytes_of t) j x (ap (λ z. slice_get (low_bytes (bytes_of t) (word_for z)) j) (sym past.first) ∙ ej) in
        filled_behind n (bytes_of_values t vs) (bytes_of t * e + j) below (let le : length (bytes_of_values t vs) ≤ bytes_of t * e + j = omega (arith, length_values t vs, times (bytes_of t) (length vs) e past.past) in le)
        ∙ ap Some nothing
