-- The newest binding and the newest tag with a name.
use Rattle.std.proofs.Common.{◌≡◌, ℕ, zero, suc, ◌+◌, ◌-◌, ◌<◌, ◌≤◌, List, [], ◌∷◌, ◌++◌, length, map, Option, Some, None, refl, sym, ap, ◌∙◌, arith, rules, get_or, nat_eq, true, false, cond, length-append, ltb, drop}
use Rattle.std.specs.Prelude.{reverse, slice_get}
use Rattle.std.specs.Borrow.{Bor}
use Rattle.std.specs.Option.{option_copied, is_some, IfSome}
use Rattle.std.proofs.lemmas.Grind.{reverse_onto}
use Rattle.std.proofs.lemmas.List.{length-reverse, reverse-reverse, get_or_append_left, length-map, drop-drop}
use Rattle.std.proofs.lemmas.Option.{slice_get-get_or, slice_get_read, slice_get_past}
use Rattle.std.proofs.Math.Seq.{get_or-append_seam}
use Rattle.typing_scopes.specs.declared.bindings.Binding.{Binding}
use Rattle.typing_scopes.specs.declared.bindings.Tag.{Tag}
use Rattle.typing_scopes.specs.NewestNames.{place_of, before, newest_of}
use Rattle.typing_scopes.specs.Scopes.{binding_of, tag_of, newest_first, newest_tags, bindings_names, tags_names, seen_binding, seen_tag, option_binding, one_name_less, one_tag_less, names_left, tags_left}
use Rattle.typing_spec.specs.Scope as typed

last_of : {A : Type 0} (xs : List A) (b : A) (k : ℕ) → k ≡ length xs → slice_get (xs ++ b ∷ []) k ≡ Some b
last_of xs b k e = let l = length-append xs (b ∷ []) in slice_get-get_or (xs ++ b ∷ []) k b (omega (arith, e, l)) ∙ ap Some (ap (λ i. get_or (xs ++ b ∷ []) i b) e ∙ get_or-append_seam xs b [] b)

before_last : {A : Type 0} (xs : List A) (b : A) (k : ℕ) → k < length xs → slice_get (xs ++ b ∷ []) k ≡ slice_get xs k
before_last xs b k h = let l = length-append xs (b ∷ []) in slice_get-get_or (xs ++ b ∷ []) k b (omega (arith, h, l)) ∙ ap Some (get_or_append_left xs (b ∷ []) b k h) ∙ sym (slice_get-get_or xs k b h)

pub place_within : (ns : List ℕ) (n : ℕ) → place_of ns n ≤ length ns
place_within [] n = omega arith
place_within (m ∷ ms) n = elim (nat_eq m n) as (λ v. cond v (length ms + 1) (place_of ms n) ≤ length (m ∷ ms)) [ true ↦ omega arith | false ↦ omega (arith, place_within ms n) ]

pub one_more : (p k : ℕ) → before p ≡ Some k → p ≡ k + 1
one_more zero k h = search rules
one_more (suc p) k h = search rules

none_before : (p : ℕ) → before p ≡ None → p ≡ 0
none_before zero h = refl
none_before (suc p) h = search rules

-- ---- bindings

names_length : (bs : List Binding) → length (bindings_names (map binding_of bs)) ≡ length bs
names_length [] = refl
names_length (b ∷ bs) = ap suc (names_length bs)

missing : (bs : List typed.Binding) (n : ℕ) → place_of (bindings_names bs) n ≡ 0 → typed.binding_in bs n ≡ None
missing [] n h = refl
missing (b ∷ bs) n h =
    elim (nat_eq b.name n) as (λ v. cond v (length (bindings_names bs) + 1) (place_of (bindings_names bs) n) ≡ 0 → cond v (Some b) (typed.binding_in bs n) ≡ None)
    [ true ↦ λ h. absurd (omega (arith, h)) | false ↦ λ h. missing bs n h ] h

found : (bs : List Binding) (n k : ℕ) → place_of (bindings_names (map binding_of bs)) n ≡ k + 1 → seen_binding (slice_get (reverse bs) k) ≡ typed.binding_in (map binding_of bs) n
found [] n k h = absurd (omega (arith, h))
found (b ∷ bs) n k h =
    let ns = bindings_names (map binding_of bs) in
    elim (nat_eq b.name n) as (λ v. cond v (length ns + 1) (place_of ns n) ≡ k + 1 → seen_binding (slice_get (reverse (b ∷ bs)) k) ≡ cond v (Some (binding_of b)) (typed.binding_in (map binding_of bs) n)) [
      | true ↦ λ h. ap (λ l. seen_binding (slice_get l k)) (reverse_onto bs b []) ∙ ap seen_binding (last_of (reverse bs) b k (let e = length-reverse bs in let l = names_length bs in omega (arith, h, e, l)))
      | false ↦ λ h. ap (λ l. seen_binding (slice_get l k)) (reverse_onto bs b []) ∙ ap seen_binding (before_last (reverse bs) b k (let e = length-reverse bs in let w = place_within ns n in let l = names_length bs in omega (arith, h, e, w, l))) ∙ found bs n k h
    ] h

pub found_in : (xs : List Binding) (ns : List ℕ) (n k : ℕ) → ns ≡ bindings_names (newest_first xs) → newest_of ns n ≡ Some k → seen_binding (slice_get xs k) ≡ typed.binding_in (newest_first xs) n
found_in xs ns n k e h =
    ap (λ l. seen_binding (slice_get l k)) (sym (reverse-reverse xs)) ∙ found (reverse xs) n k (one_more _ k (ap (λ l. newest_of l n) (sym e) ∙ h))

pub not_found : (xs : List Binding) (ns : List ℕ) (n : ℕ) → ns ≡ bindings_names (newest_first xs) → newest_of ns n ≡ None → typed.binding_in (newest_first xs) n ≡ None
not_found xs ns n e h = missing (newest_first xs) n (none_before _ (ap (λ l. newest_of l n) (sym e) ∙ h))

-- ---- tags

tags_length : (ts : List Tag) → length (tags_names (map tag_of ts)) ≡ length ts
tags_length [] = refl
tags_length (t ∷ ts) = ap suc (tags_length ts)

missing_tag : (ts : List typed.Tag) (n : ℕ) → place_of (tags_names ts) n ≡ 0 → typed.tag_in ts n ≡ None
missing_tag [] n h = refl
missing_tag (t ∷ ts) n h =
    elim (nat_eq t.name n) as (λ v. cond v (length (tags_names ts) + 1) (place_of (tags_names ts) n) ≡ 0 → cond v (Some t) (typed.tag_in ts n) ≡ None)
    [ true ↦ λ h. absurd (omega (arith, h)) | false ↦ λ h. missing_tag ts n h ] h

found_tag : (ts : List Tag) (n k : ℕ) → place_of (tags_names (map tag_of ts)) n ≡ k + 1 → seen_tag (slice_get (reverse ts) k) ≡ typed.tag_in (map tag_of ts) n
found_tag [] n k h = absurd (omega (arith, h))
found_tag (t ∷ ts) n k h =
    let ns = tags_names (map tag_of ts) in
    elim (nat_eq t.name n) as (λ v. cond v (length ns + 1) (place_of ns n) ≡ k + 1 → seen_tag (slice_get (reverse (t ∷ ts)) k) ≡ cond v (Some (tag_of t)) (typed.tag_in (map tag_of ts) n)) [
      | true ↦ λ h. ap (λ l. seen_tag (slice_get l k)) (reverse_onto ts t []) ∙ ap seen_tag (last_of (reverse ts) t k (let e = length-reverse ts in let l = tags_length ts in omega (arith, h, e, l)))
      | false ↦ λ h. ap (λ l. seen_tag (slice_get l k)) (reverse_onto ts t []) ∙ ap seen_tag (before_last (reverse ts) t k (let e = length-reverse ts in let w = place_within ns n in let l = tags_length ts in omega (arith, h, e, w, l))) ∙ found_tag ts n k h
    ] h

pub tag_found_in : (xs : List Tag) (ns : List ℕ) (n k : ℕ) → ns ≡ tags_names (newest_tags xs) → newest_of ns n ≡ Some k → seen_tag (slice_get xs k) ≡ typed.tag_in (newest_tags xs) n
tag_found_in xs ns n k e h =
    ap (λ l. seen_tag (slice_get l k)) (sym (reverse-reverse xs)) ∙ found_tag (reverse xs) n k (one_more _ k (ap (λ l. newest_of l n) (sym e) ∙ h))

pub tag_not_found : (xs : List Tag) (ns : List ℕ) (n : ℕ) → ns ≡ tags_names (newest_tags xs) → newest_of ns n ≡ None → typed.tag_in (newest_tags xs) n ≡ None
tag_not_found xs ns n e h = missing_tag (newest_tags xs) n (none_before _ (ap (λ l. newest_of l n) (sym e) ∙ h))

pub option_seen : (r : Option (Bor Binding)) → option_binding r ≡ seen_binding (option_copied r)
option_seen None = refl
option_seen (Some b) = refl

-- the element read at a place
below : (k n : ℕ) → true ≡ ltb k n → k < n
below k n h = grind arith

not_below : (k n : ℕ) → false ≡ ltb k n → n ≤ k
not_below k n h = grind arith

pub option_read : {A : Type 0} (r : Option (Bor A)) (xs : List A) (k : ℕ) → is_some r ≡ ltb k (length xs) → IfSome r (λ x. x.now ≡ get_or xs k x.now) → option_copied r ≡ slice_get xs k
option_read None xs k e h = sym (slice_get_past xs k (not_below k (length xs) e))
option_read (Some x) xs k e h = sym (slice_get_read xs (length xs) k x.now refl (below k (length xs) e) h)

-- how many there are
pub newest_length : (xs : List Binding) → length (newest_first xs) ≡ length xs
newest_length xs = length-map (reverse xs) binding_of ∙ length-reverse xs

pub newest_tags_length : (xs : List Tag) → length (newest_tags xs) ≡ length xs
newest_tags_length xs = length-map (reverse xs) tag_of ∙ length-reverse xs

-- one name less
pub one_less : (s now : typed.Scope) (k : ℕ) → now ≡ record s { bindings = drop k s.bindings } → one_name_less now ≡ record s { bindings = drop (k + 1) s.bindings }
one_less s now k e = ap one_name_less e ∙ ap (λ l. record s { bindings = l }) (drop-drop 1 k s.bindings)

pub one_tag_off : (s now : typed.Scope) (k : ℕ) → now ≡ record s { tags = drop k s.tags } → one_tag_less now ≡ record s { tags = drop (k + 1) s.tags }
one_tag_off s now k e = ap one_tag_less e ∙ ap (λ l. record s { tags = l }) (drop-drop 1 k s.tags)

pub step_names : (s now new : typed.Scope) (i : ℕ) → new ≡ one_name_less now → now ≡ record s { bindings = drop i s.bindings } → new ≡ record s { bindings = drop (i + 1) s.bindings }
step_names s now new i e h = e ∙ one_less s now i h

pub step_tags : (s now new : typed.Scope) (i : ℕ) → new ≡ one_tag_less now → now ≡ record s { tags = drop i s.tags } → new ≡ record s { tags = drop (i + 1) s.tags }
step_tags s now new i e h = e ∙ one_tag_off s now i h

pub end_names : (s now : typed.Scope) (i n : ℕ) → i ≡ length s.bindings - n → now ≡ record s { bindings = drop i s.bindings } → now ≡ names_left n s
end_names s now i n e h = h ∙ ap (λ k. record s { bindings = drop k s.bindings }) e

pub end_tags : (s now : typed.Scope) (i n : ℕ) → i ≡ length s.tags - n → now ≡ record s { tags = drop i s.tags } → now ≡ tags_left n s
end_tags s now i n e h = h ∙ ap (λ k. record s { tags = drop k s.tags }) e
