-- The text of an #error.
use Rattle.std.proofs.Common.{◌≡◌, ◌<◌, ◌≤◌, ℕ, zero, suc, List, [], ◌∷◌, take, Bool, true, false, refl, arith}
use Rattle.std.specs.Prelude.{map, nat_le, ◌&&◌, if◌then◌else◌, slice_get, Some}
use Rattle.std.specs.List.{flat_map}
use Rattle.std.specs.Str.{byte, is_utf8, IsAscii}
use Rattle.std.proofs.lemmas.Bool.{leb-true}
use Rattle.std.proofs.lemmas.Str.{IsUtf8-from_ascii, is_utf8-from_IsUtf8}
use Rattle.srcset.specs.declared.refusal.Pos.{Pos}
use Rattle.srcset.specs.declared.code.Code.TheVariants as code
use Rattle.srcset.specs.NameTable.{Texts}
use Rattle.phases.specs.Token.{Token}
use Rattle.pp.specs.Phase4.{State, printable, error_text}
use Rattle.pp.specs.inside.Stepping.{spaced_out, error_done, StopsTold}
use Rattle.pp.proofs.GroupLemmas.{and_right}

low_if : (c : Bool) (b : ℕ) → (c ≡ true → b ≤ 126) → (if c then b else byte "?") < 128
low_if true b h = let n = h refl in omega (arith, n)
low_if false b h = omega arith

printable_low : (b : ℕ) → printable b < 128
printable_low b = low_if (nat_le 32 b && nat_le b 126) b (λ e. leb-true b 126 (and_right (nat_le 32 b) (nat_le b 126) e))

taken_ascii : (n : ℕ) (bs : List ℕ) → IsAscii (take n (map printable bs))
taken_ascii zero bs i = omega arith
taken_ascii (suc n) [] i = omega arith
taken_ascii (suc n) (b ∷ bs) zero = printable_low b
taken_ascii (suc n) (b ∷ bs) (suc i) = taken_ascii n bs i

pub error_utf8 : (xs : List Token) → is_utf8 (error_text xs) ≡ true
error_utf8 xs =
    let bs = flat_map spaced_out xs in
    is_utf8-from_IsUtf8 (error_text xs) (IsUtf8-from_ascii (error_text xs) (taken_ascii 200 bs))

pub error_told : (names : Texts) (at : Pos) (xs : List Token) (n : ℕ) (s : State) → slice_get names n ≡ Some (error_text xs)
    → StopsTold s.given names code.ErrorDirective at n (error_done at xs s)
error_told names at xs n s e = record {
  text = error_text xs;
  number_is = e;
  utf8 = error_utf8 xs;
  fault_is = record { stops_is = refl };
}
