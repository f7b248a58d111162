-- Files given one after another.
use Rattle.std.proofs.Common.{ℕ, ◌≡◌, ◌+◌, ◌<◌, suc, List, Bool, true, false, [], ◌∷◌, ◌++◌, map, length, drop, get_or, refl, sym, ap, ◌∙◌, append_assoc, append-nil, arith, true≢false}
use Rattle.std.proofs.lemmas.List.{map-append}
use Rattle.std.proofs.Math.Seq.{drop-cons}
use Rattle.std.proofs.lemmas.Str.{is_utf8-from_IsUtf8, IsUtf8-from_is_utf8}
use Rattle.std.specs.Str.{is_utf8, IsUtf8}
use Rattle.std.specs.Prelude.{if◌then◌else◌}
use Rattle.srcset.specs.Files.{Files}
use Rattle.zikorape.specs.declared.files.FileLengths.{FileLengths}
use Rattle.zikorape.specs.Given.{text_or_empty, texts_of, lengths_of, total}

-- ---- texts

if_true : (b : Bool) (xs : List ℕ) → b ≡ true → xs ≡ (if b then xs else [])
if_true true xs h = refl
if_true false xs h = absurd (true≢false (sym h))

if_false : (b : Bool) (xs : List ℕ) → ¬ (b ≡ true) → [] ≡ (if b then xs else [])
if_false true xs h = absurd (h refl)
if_false false xs h = refl

pub text_kept : (bytes : List ℕ) → IsUtf8 bytes → bytes ≡ text_or_empty bytes
text_kept bytes h = if_true (is_utf8 bytes) bytes (is_utf8-from_IsUtf8 bytes h)

pub text_emptied : (bytes : List ℕ) → ¬ IsUtf8 bytes → [] ≡ text_or_empty bytes
text_emptied bytes h = if_false (is_utf8 bytes) bytes (λ e. h (IsUtf8-from_is_utf8 bytes e))

-- ---- one file more

texts_of-append : (xs ys : Files) → texts_of (xs ++ ys) ≡ texts_of xs ++ texts_of ys
texts_of-append [] ys = refl
texts_of-append (x ∷ xs) ys =
    ap (λ t. x.0 ++ x.1 ++ t) (texts_of-append xs ys) ∙ sym (append_assoc (x.0 ++ x.1) (texts_of xs) (texts_of ys))

pub texts_before : (before : Files) (name bytes rest front after texts : List ℕ) → front ≡ name ++ after → after ≡ bytes ++ rest → texts_of before ++ front ≡ texts → texts_of before ++ name ++ bytes ++ rest ≡ texts
texts_before before name bytes rest front after texts e f h =
    append_assoc (texts_of before ++ name) bytes rest
    ∙ ap (λ t. (texts_of before ++ name) ++ t) (sym f)
    ∙ append_assoc (texts_of before) name after
    ∙ ap (λ t. texts_of before ++ t) (sym e)
    ∙ h

pub texts_more : (before : Files) (name bytes rest texts : List ℕ) → texts_of before ++ name ++ bytes ++ rest ≡ texts → texts_of (before ++ (name, bytes) ∷ []) ++ rest ≡ texts
texts_more before name bytes rest texts h =
    ap (λ t. t ++ rest) (texts_of-append before ((name, bytes) ∷ []) ∙ ap (λ t. texts_of before ++ t) (append-nil (name ++ bytes)) ∙ sym (append_assoc (texts_of before) name bytes))
    ∙ h

same_lengths : (f : FileLengths) (name bytes : List ℕ) → length name ≡ f.name → length bytes ≡ f.bytes → f ≡ lengths_of (name, bytes)
same_lengths f name bytes e g = rw (e, g) refl

pub lengths_before : (before : Files) (name bytes : List ℕ) (files : List FileLengths) (i : ℕ) (d : FileLengths) → i < length files → length name ≡ (get_or files i d).name → length bytes ≡ (get_or files i d).bytes
    → map lengths_of before ++ drop i files ≡ files → map lengths_of before ++ lengths_of (name, bytes) ∷ drop (i + 1) files ≡ files
lengths_before before name bytes files i d lt e g h =
    let next : suc i ≡ i + 1 = omega arith in
    ap (λ t. map lengths_of before ++ t) (ap (λ f. f ∷ drop (i + 1) files) (sym (same_lengths (get_or files i d) name bytes e g)) ∙ ap (λ n. get_or files i d ∷ drop n files) (sym next) ∙ sym (drop-cons files i d lt))
    ∙ h

pub lengths_more : (before : Files) (name bytes : List ℕ) (more files : List FileLengths) → map lengths_of before ++ lengths_of (name, bytes) ∷ more ≡ files → map lengths_of (before ++ (name, bytes) ∷ []) ++ more ≡ files
lengths_more before name bytes more files h =
    ap (λ t. t ++ more) (map-append lengths_of before ((name, bytes) ∷ [])) ∙ append_assoc (map lengths_of before) (lengths_of (name, bytes) ∷ []) more ∙ h

pub fits_more : (files : List FileLengths) (i front after rest : ℕ) (d : FileLengths) → i < length files → total (drop i files) ≡ front → after + (get_or files i d).name ≡ front → rest + (get_or files i d).bytes ≡ after → total (drop (i + 1) files) ≡ rest
fits_more files i front after rest d lt h e g =
    let next : suc i ≡ i + 1 = omega arith in
    let sum : (get_or files i d).name + (get_or files i d).bytes + total (drop (i + 1) files) ≡ front = ap (λ n. (get_or files i d).name + (get_or files i d).bytes + total (drop n files)) (sym next) ∙ ap total (sym (drop-cons files i d lt)) ∙ h in
    omega arith
