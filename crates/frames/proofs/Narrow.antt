-- The results of conversions to narrow types.
use Rattle.std.proofs.Common.{◌≡◌, inl, inr, ℕ, zero, suc, ◌-◌, ◌%◌, ◌^◌, ◌<◌, true, false, pos, negsuc, refl, sym, ap, ◌∙◌, arith}
use Rattle.std.specs.Prelude.{not, ◌==◌, nat_lt, if◌then◌else◌}
use Rattle.std.proofs.lemmas.Bool.{cases_lt}
use Rattle.std.proofs.lemmas.Bool.Decides.{nat_tests}
use Rattle.ctypes.specs.declared.types.IntType.TheVariants as ty
use Rattle.rv32.specs.Words.{sign_extended}
use Rattle.rv32.specs.Arithmetic.{one_if}
use Rattle.frames_code.specs.Run as flat
use Rattle.frames_code.specs.declared.code.Conversion.TheVariants as conversion
use Rattle.tac_code.specs.declared.code.Reading.TheVariants as reading
use Rattle.tac_code.specs.Run.{word_for, number_of}
use Rattle.frames.specs.Laws.{ConversionsAgree}
use Rattle.frames.proofs.WordsOf.{word_again}

truth : (a : ℕ) → word_for (number_of ty.Bool a) ≡ flat.converted conversion.ToTruth a
truth zero = refl
truth (suc n) = let e : (suc n == 0) ≡ false = grind (arith, nat_tests) in sym (ap (λ t. one_if (not t)) e)

signed_byte : (w : ℕ) → w < 2 ^ 8 → word_for (if nat_lt w (2 ^ 7) then pos w else negsuc (2 ^ 8 - 1 - w)) ≡ sign_extended 7 w
signed_byte w h = elim (cases_lt w (2 ^ 7)) [
  | inl low ↦ (let t : nat_lt w (2 ^ 7) ≡ true = grind (arith, nat_tests) in
      ap (λ b. word_for (if b then pos w else negsuc (2 ^ 8 - 1 - w))) t ∙ omega (arith, low))
  | inr high ↦ (let t : nat_lt w (2 ^ 7) ≡ false = grind (arith, nat_tests) in
      ap (λ b. word_for (if b then pos w else negsuc (2 ^ 8 - 1 - w))) t ∙ omega (arith, high, h))
]

signed_half : (w : ℕ) → w < 2 ^ 16 → word_for (if nat_lt w (2 ^ 15) then pos w else negsuc (2 ^ 16 - 1 - w)) ≡ sign_extended 15 w
signed_half w h = elim (cases_lt w (2 ^ 15)) [
  | inl low ↦ (let t : nat_lt w (2 ^ 15) ≡ true = grind (arith, nat_tests) in
      ap (λ b. word_for (if b then pos w else negsuc (2 ^ 16 - 1 - w))) t ∙ omega (arith, low))
  | inr high ↦ (let t : nat_lt w (2 ^ 15) ≡ false = grind (arith, nat_tests) in
      ap (λ b. word_for (if b then pos w else negsuc (2 ^ 16 - 1 - w))) t ∙ omega (arith, high, h))
]

byte : (a : ℕ) → a % 2 ^ 8 % 2 ^ 32 ≡ a % 2 ^ 8
byte a = omega arith

half : (a : ℕ) → a % 2 ^ 16 % 2 ^ 32 ≡ a % 2 ^ 16
half a = omega arith

pub conversions_agree : ConversionsAgree
conversions_agree = record {
  to_truth = truth;
  to_char = byte;
  to_signed_char = λ a. signed_byte (a % 2 ^ 8) (omega arith);
  to_unsigned_char = byte;
  to_short = λ a. signed_half (a % 2 ^ 16) (omega arith);
  to_unsigned_short = half;
  to_int = λ a h. word_again reading.Signed a h;
  to_unsigned_int = λ a h. word_again reading.Unsigned a h;
  to_long = λ a h. word_again reading.Signed a h;
  to_unsigned_long = λ a h. word_again reading.Unsigned a h;
}
