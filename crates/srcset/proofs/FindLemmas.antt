-- A name that is not UTF-8 names neither a file nor a header.
use Rattle.std.proofs.Common.{◌≡◌, ℕ, ◌<◌, zero, suc, List, [], ◌∷◌, Option, Some, None, Bool, true, false, if◌then◌else◌, ◌&&◌, is_some, nat_le, length, codes, refl, sym, ap, ◌∙◌, subst, arith}
use Rattle.std.specs.Prelude.{slice_index}
use Rattle.std.proofs.lemmas.Bool.Decides.{nat_tests}
use Rattle.std.proofs.lemmas.Str.{IsUtf8-from_ascii}
use Rattle.std.specs.List.{list_all}
use Rattle.std.specs.Str.{IsAscii, IsUtf8, bytes_eq}
use Rattle.srcset.specs.Files.{Files, file_of, is_file_name, is_name_byte}
use Rattle.srcset.specs.Headers.{header_of, rvio_h, limits_h, stdbool_h, iso646_h}
use Rattle.srcset.proofs.FileLemmas.{both, found_name, none_found}
use Rattle.srcset.proofs.NameLemmas.{same_text}

name_byte_ascii : (b : ℕ) → is_name_byte b ≡ true → b < 128
name_byte_ascii b h = grind (arith, nat_tests, (both (nat_le 32 b) (nat_le b 126) (both (nat_le 32 b && nat_le b 126) _ h).0).1)

name_ascii : (name : List ℕ) → list_all is_name_byte name ≡ true → IsAscii name
name_ascii [] h i = omega arith
name_ascii (b ∷ bs) h zero = name_byte_ascii b (both (is_name_byte b) _ h).0
name_ascii (b ∷ bs) h (suc i) = name_ascii bs (both (is_name_byte b) _ h).1 i

file_name_utf8 : (name : List ℕ) → is_file_name name ≡ true → IsUtf8 name
file_name_utf8 name h = IsUtf8-from_ascii name (name_ascii name (both (nat_le 1 (length name) && nat_le (length name) 255) (list_all is_name_byte name) h).1)

not_true : (b : Bool) → (b ≡ true → ⊥) → b ≡ false
not_true true h = absurd (h refl)
not_true false h = refl

pub no_file : (files : Files) (name : List ℕ) → list_all (λ f. is_file_name f.0) files ≡ true → (IsUtf8 name → ⊥) → file_of files name ≡ None
no_file files name all h = none_found (file_of files name) (not_true (is_some (file_of files name)) (λ e. h (file_name_utf8 name (found_name files name all e))))

other_text : (name text : List ℕ) → list_all is_name_byte text ≡ true → (IsUtf8 name → ⊥) → bytes_eq name text ≡ false
other_text name text u h = not_true (bytes_eq name text) (λ e. h (subst IsUtf8 (sym (same_text name text e)) (IsUtf8-from_ascii text (name_ascii text u))))

pub no_header : (name : List ℕ) → (IsUtf8 name → ⊥) → header_of name ≡ None
no_header name h =
    rw (other_text name (codes "rvio.h") refl h, other_text name (codes "limits.h") refl h, other_text name (codes "stdbool.h") refl h, other_text name (codes "iso646.h") refl h) refl
