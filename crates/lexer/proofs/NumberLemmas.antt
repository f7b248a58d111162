-- Lemmas on digits and the values of constants.
use Rattle.std.proofs.Common.{◌≡◌, ℕ, suc, ◌+◌, ◌*◌, ◌<◌, ◌≤◌, nat_lt, Bool, true, false, pos, Err, List, [], ◌∷◌, length, get_or, drop, refl, sym, ap, ◌∙◌, arith}
use Rattle.srcset.specs.declared.code.Code.TheVariants.{LeftOutLongLong}
use Rattle.std.specs.List.{prefix_len}
use Rattle.std.proofs.Math.Seq.{drop-cons}
use Rattle.std.proofs.Math.Nat.{le-mul_of_pos_right}
use Rattle.std.proofs.lemmas.Bool.Decides.{nat_tests}
use Rattle.std.proofs.lemmas.List.Sums.{prefix_len_is}
use Rattle.ctypes.specs.declared.types.IntType.{IntType}
use Rattle.ctypes.specs.declared.types.IntType.TheVariants as ty
use Rattle.ctypes.specs.Types.{is_value_of}
use Rattle.lexer.specs.Digits.{digit_value, value_behind}
use Rattle.lexer.specs.Numbers.{typed, in_range}

-- a loop that stops at the first byte that fails the test
pub stops_at : (test : ℕ → Bool) (xs : List ℕ) (n : ℕ) → n < length xs → ((k : ℕ) → k < n → test (get_or xs k 0) ≡ true) → test (get_or xs n 0) ≡ false → n ≡ prefix_len test xs
stops_at test xs n lt before stop = sym (prefix_len_is test xs n 0 (omega arith) before (λ _. stop))

-- a loop that passes them all
pub passes_all : (test : ℕ → Bool) (xs : List ℕ) (n : ℕ) → n ≤ length xs → length xs ≤ n → ((k : ℕ) → k < n → test (get_or xs k 0) ≡ true) → length xs ≡ prefix_len test xs
passes_all test xs n le ge before = sym (prefix_len_is test xs (length xs) 0 (omega arith) (λ k h. before k (omega arith)) (λ h. absurd (omega arith)))

-- more digits make no number smaller
grows : (base high : ℕ) (bs : List ℕ) → 1 ≤ base → high ≤ value_behind base high bs
grows base high [] h = omega arith
grows base high (b ∷ bs) h =
    let p : high ≤ high * base = le-mul_of_pos_right high (omega arith) in
    let q = grows base (high * base + digit_value b) bs h in
    omega arith

-- a number that is too large with one more digit is too large
pub too_large : (base high i limit total : ℕ) (digits : List ℕ) → 1 ≤ base → i < length digits → value_behind base high (drop i digits) ≡ total → limit < high * base + digit_value (get_or digits i 0) → limit < total
too_large base high i limit total digits some below e over =
    let f : value_behind base (high * base + digit_value (get_or digits i 0)) (drop (suc i) digits) ≡ total = sym (ap (value_behind base high) (drop-cons digits i 0 below)) ∙ e in
    let g = grows base (high * base + digit_value (get_or digits i 0)) (drop (suc i) digits) some in
    omega arith

-- no type has a value over 4294967295
not_fits : (t : IntType) (v : ℕ) → 4294967296 ≤ v → is_value_of t (pos v) ≡ false
not_fits ty.Bool v h = grind (arith, nat_tests)
not_fits ty.Char v h = grind (arith, nat_tests)
not_fits ty.SChar v h = grind (arith, nat_tests)
not_fits ty.UChar v h = grind (arith, nat_tests)
not_fits ty.Short v h = grind (arith, nat_tests)
not_fits ty.UShort v h = grind (arith, nat_tests)
not_fits ty.Int v h = grind (arith, nat_tests)
not_fits ty.UInt v h = grind (arith, nat_tests)
not_fits ty.Long v h = grind (arith, nat_tests)
not_fits ty.ULong v h = grind (arith, nat_tests)

none_fits : (v : ℕ) (types : List IntType) → 4294967296 ≤ v → typed v types ≡ Err LeftOutLongLong
none_fits v [] h = refl
none_fits v (t ∷ ts) h = rw (not_fits t v h) (none_fits v ts h)

-- nor has one of the standard's
pub too_long : (v : ℕ) (types : List IntType) → 4294967296 ≤ v → v ≤ 18446744073709551615 → Err LeftOutLongLong ≡ in_range v types
too_long v types low high =
    let e : nat_lt 18446744073709551615 v ≡ false = grind (arith, nat_tests) in
    rw e (sym (none_fits v types low))
