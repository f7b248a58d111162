-- The invariant of a table of texts.
use Rattle.std.proofs.Common.{◌≡◌, ◌↔◌, ℕ, List, [], ◌∷◌, ◌++◌, suc, map, length, slice_get, get_or, Option, Some, None, is_some, Bool, true, false, cond, position, refl, sym, ap, ◌∙◌, ◌⊎◌, inl, inr, true≢false, zero}
use Rattle.std.proofs.lemmas.List.{map-append}
use Rattle.std.proofs.lemmas.List.Quantifiers.{position-Some}
use Rattle.std.proofs.lemmas.List.Folds.{list_any_at}
use Rattle.std.proofs.lemmas.Option.{slice_get-map, slice_get-get_or, slice_get_within, get_or_from_slice_get}
use Rattle.std.proofs.lemmas.Slice.Eq.{bytes_eq-Decides}
use Rattle.std.specs.List.{list_any}
use Rattle.std.specs.Option.{option_map}
use Rattle.srcset.proofs.ViewLemmas.{position-map, list_any-map}
use Rattle.std.specs.Str.{IsUtf8, bytes_eq, is_utf8}
use Rattle.std.proofs.lemmas.Str.{IsUtf8-from_is_utf8, is_utf8-from_IsUtf8}
use Rattle.srcset.specs.NameTable.{Texts, with_text, file_name_of, KeepsNumbers, NumbersOnce}

pub same_text : (s t : List ℕ) → bytes_eq s t ≡ true → s ≡ t
same_text s t e = (bytes_eq-Decides s t).0 e

pub equals_itself : (s : List ℕ) → bytes_eq s s ≡ true
equals_itself s = (bytes_eq-Decides s s).1 refl

-- where the search stops is the text
pub found_text : (texts : Texts) (t : List ℕ) (n : ℕ) → position (bytes_eq t) texts ≡ Some n → slice_get texts n ≡ Some t
found_text texts t n e =
    let at = position-Some (bytes_eq t) texts n [] e in
    let same : t ≡ get_or texts n [] = same_text _ _ at.1 in
    slice_get-get_or texts n [] at.0 ∙ ap Some (sym same)

-- a text in the table is found
pub has_text : (texts : Texts) (t : List ℕ) (n : ℕ) → slice_get texts n ≡ Some t → list_any (bytes_eq t) texts ≡ true
has_text texts t n e =
    let at : get_or texts n [] ≡ t = get_or_from_slice_get texts n t [] e in
    list_any_at (bytes_eq t) texts n [] (slice_get_within texts n t e) (rw at (equals_itself t))

-- a text stays where it is
pub slice_get_kept : {X : Type 0} (xs ys : List X) (n : ℕ) (x : X) → slice_get xs n ≡ Some x → slice_get (xs ++ ys) n ≡ Some x
slice_get_kept [] ys n x e = absurd (cc)
slice_get_kept (y ∷ xs) ys zero x e = e
slice_get_kept (y ∷ xs) ys (suc n) x e = slice_get_kept xs ys n x e

-- the elements of a list with one more at its end
pub slice_get_push : {X : Type 0} (xs : List X) (y : X) (n : ℕ) (x : X) → slice_get (xs ++ y ∷ []) n ≡ Some x → (slice_get xs n ≡ Some x) ⊎ ((n ≡ length xs) × (y ≡ x))
slice_get_push [] y zero x e = inr (refl, cc)
slice_get_push [] y (suc n) x e = absurd (cc)
slice_get_push (z ∷ xs) y zero x e = inl e
slice_get_push (z ∷ xs) y (suc n) x e = elim (slice_get_push xs y n x e) [ inl h ↦ inl h | inr h ↦ inr (ap suc h.0, h.1) ]

pub keeps_numbers : (texts : Texts) (t : List ℕ) → KeepsNumbers texts (with_text texts t)
keeps_numbers texts t n s e =
    elim (list_any (bytes_eq t) texts) as (λ b. slice_get (cond b texts (texts ++ t ∷ [])) n ≡ Some s) [
      | true ↦ e
      | false ↦ slice_get_kept texts (t ∷ []) n s e
    ]

new_text : (texts : Texts) (t : List ℕ) (n : ℕ) → list_any (bytes_eq t) texts ≡ false → slice_get texts n ≡ Some t → ⊥
new_text texts t n absent e = true≢false (sym (has_text texts t n e) ∙ absent)

pub numbers_once_push : (texts : Texts) (t : List ℕ) → list_any (bytes_eq t) texts ≡ false → NumbersOnce texts → NumbersOnce (texts ++ t ∷ [])
numbers_once_push texts t absent once m n s at_m at_n =
    elim (slice_get_push texts t m s at_m) [
      | inl h ↦ elim (slice_get_push texts t n s at_n) [
        | inl k ↦ once m n s h k
        | inr k ↦ absurd (new_text texts t m absent (h ∙ ap Some (sym k.1)))
      ]
      | inr h ↦ elim (slice_get_push texts t n s at_n) [
        | inl k ↦ absurd (new_text texts t n absent (k ∙ ap Some (sym h.1)))
        | inr k ↦ h.0 ∙ sym k.0
      ]
    ]

pub numbers_once_with : (texts : Texts) (t : List ℕ) → NumbersOnce texts → NumbersOnce (with_text texts t)
numbers_once_with texts t once = by (list_any (bytes_eq t) texts) refl
  where
    by : (b : Bool) → list_any (bytes_eq t) texts ≡ b → NumbersOnce (cond b texts (texts ++ t ∷ []))
    by true e = once
    by false e = numbers_once_push texts t e once

-- a text that has a number leaves the table as it is
pub with_found : (texts : Texts) (t : List ℕ) (n : ℕ) → slice_get texts n ≡ Some t → texts ≡ with_text texts t
with_found texts t n e = ap (λ b. cond b texts (texts ++ t ∷ [])) (sym (has_text texts t n e))

-- the table that a set of keys shows
module _ {A : Type 0} (f : A → List ℕ) where
  pub found_key : (keys : List A) (t : List ℕ) (n : ℕ) → position (λ k. bytes_eq t (f k)) keys ≡ Some n → slice_get (map f keys) n ≡ Some t
  found_key keys t n e = found_text (map f keys) t n (position-map f (bytes_eq t) keys ∙ e)

  pub with_key : (keys : List A) (k : A) → map f (cond (list_any (λ x. bytes_eq (f k) (f x)) keys) keys (keys ++ k ∷ [])) ≡ with_text (map f keys) (f k)
  with_key keys k =
      let same = list_any-map f (bytes_eq (f k)) keys in
      rw same (by (list_any (λ x. bytes_eq (f k) (f x)) keys))
    where
      by : (b : Bool) → map f (cond b keys (keys ++ k ∷ [])) ≡ cond b (map f keys) (map f keys ++ f k ∷ [])
      by true = refl
      by false = map-append f keys (k ∷ [])

  pub stored_key : (keys : List A) (t : List ℕ) (n : ℕ) (k : A) → slice_get keys n ≡ Some k → bytes_eq t (f k) ≡ true → slice_get (map f keys) n ≡ Some t
  stored_key keys t n k e same = slice_get-map f keys n ∙ ap (option_map f) e ∙ ap Some (sym (same_text t (f k) same))

  -- the search finds the number of a text, and nothing where it has none
  pub finds_number : (keys : List A) (t : List ℕ) (found : Option ℕ) → found ≡ position (λ k. bytes_eq t (f k)) keys → is_some found ≡ list_any (λ k. bytes_eq t (f k)) keys
      → NumbersOnce (map f keys) → (n : ℕ) → (found ≡ Some n) ↔ (slice_get (map f keys) n ≡ Some t)
  finds_number keys t None at some once n =
      ((λ e. absurd (cc)), (λ h. absurd (true≢false (sym (has_text (map f keys) t n h) ∙ list_any-map f (bytes_eq t) keys ∙ sym some))))
  finds_number keys t (Some m) at some once n =
      ((λ e. found_key keys t n (sym at ∙ e)), (λ h. ap Some (once m n t (found_key keys t m (sym at)) h)))

-- a text that is UTF-8 names its file
pub named_by_text : (texts : Texts) (n : ℕ) (text : List ℕ) → slice_get texts n ≡ Some text → IsUtf8 text → text ≡ file_name_of texts n
named_by_text texts n text at valid = rw (at, is_utf8-from_IsUtf8 text valid) refl

-- one that is not UTF-8 leaves it without a name
pub not_named : (texts : Texts) (n : ℕ) (text : List ℕ) → slice_get texts n ≡ Some text → ¬ (IsUtf8 text) → [] ≡ file_name_of texts n
not_named texts n text at broken = rw at (by (is_utf8 text) refl)
  where
    by : (b : Bool) → is_utf8 text ≡ b → [] ≡ cond b text []
    by true e = absurd (broken (IsUtf8-from_is_utf8 text e))
    by false e = refl
