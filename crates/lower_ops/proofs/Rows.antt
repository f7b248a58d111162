-- Elements and rows of objects.
use Rattle.std.proofs.Common.{◌≡◌, ℕ, zero, suc, ◌+◌, ◌-◌, ◌<◌, ◌≤◌, ◌^◌, Bool, List, [], ◌∷◌, Option, Some, None, refl, ap, sym, ◌∙◌, subst, map, length, arith}
use Rattle.std.specs.Prelude.{slice_get, option_map}
use Rattle.std.proofs.lemmas.Option.{slice_get-map}
use Rattle.ctypes.specs.declared.types.IntType.TheVariants as ty
use Rattle.ctypes.specs.declared.types.IntType.{IntType}
use Rattle.typing_spec.specs.Types.{ObjectType, DeclaredType, complete, unknown_size, ParameterType, elements}
use Rattle.typing_spec.specs.Nodes.{row_type, reference_in}
use Rattle.lower_correct.specs.Places.{size_of_type}
use Rattle.lower_ops.specs.layer.Rows.{deep_size, size_at, counted}

pub deep_more : (n : ℕ) (t : Option DeclaredType) → deep_size (n + 1) t ≡ deep_size n (row_type t)
deep_more n t =
    let e : suc n ≡ n + 1 = omega arith in
    subst (λ k. deep_size k t ≡ deep_size n (row_type t)) e refl

pub deep_none : (n : ℕ) → deep_size n None ≡ 0
deep_none zero = refl
deep_none (suc n) = deep_none n

pub deep_complete : (n : ℕ) (e : IntType) (c : Bool) (lengths : List ℕ) → deep_size n (Some (complete (record { element = e; constant = c; lengths = lengths }))) ≡ size_at n e lengths
deep_complete zero e c lengths = refl
deep_complete (suc n) e c [] = deep_none n
deep_complete (suc n) e c (l ∷ lengths) = deep_complete n e c lengths

-- ---- objects that are looked up

pub looked_none : {A B : Type 0} (g : Option B → Option DeclaredType) (f : A → B) (xs : List A) (i d : ℕ) → g None ≡ None → slice_get xs i ≡ None
    → 0 ≡ deep_size d (g (slice_get (map f xs) i))
looked_none g f xs i d none e = sym (ap (λ o. deep_size d (g o)) (slice_get-map f xs i ∙ ap (option_map f) e) ∙ ap (deep_size d) none ∙ deep_none d)

pub looked_some : {A B : Type 0} (g : Option B → Option DeclaredType) (f : A → B) (xs : List A) (i d : ℕ) (x : A) → slice_get xs i ≡ Some x
    → deep_size d (g (Some (f x))) ≡ deep_size d (g (slice_get (map f xs) i))
looked_some g f xs i d x e = sym (ap (λ o. deep_size d (g o)) (slice_get-map f xs i ∙ ap (option_map f) e))

-- ---- lengths

pub text_none : (d n : ℕ) → 2 ≤ d → 0 ≡ size_at d ty.Char (n ∷ [])
text_none zero n h = absurd (omega (arith, h))
text_none (suc zero) n h = absurd (omega (arith, h))
text_none (suc (suc d)) n h = refl

pub inner_none : (d : ℕ) (e : IntType) → 1 ≤ d → 0 ≡ size_at d e []
inner_none zero e h = absurd (omega (arith, h))
inner_none (suc d) e h = refl

pub inner_some : (d : ℕ) (e : IntType) (l : ℕ) (lengths : List ℕ) → 1 ≤ d → size_at (d - 1) e lengths ≡ size_at d e (l ∷ lengths)
inner_some zero e l lengths h = absurd (omega (arith, h))
inner_some (suc d) e l lengths h =
    let s : suc d - 1 ≡ d = omega arith in
    ap (λ k. size_at k e lengths) s

-- ---- parameters

pub unknown_none : (d : ℕ) (t : ObjectType) → d ≡ 0 → 0 ≡ deep_size d (Some (unknown_size t))
unknown_none d t e = sym (ap (λ k. deep_size k (Some (unknown_size t))) e)

pub unknown_some : (d : ℕ) (t : ObjectType) → 1 ≤ d → deep_size (d - 1) (Some (complete t)) ≡ deep_size d (Some (unknown_size t))
unknown_some zero t h = absurd (omega (arith, h))
unknown_some (suc d) t h =
    let s : suc d - 1 ≡ d = omega arith in
    ap (λ k. deep_size k (Some (complete t))) s

pub first_reference : (t : ObjectType) (ps : List ParameterType) (n : ℕ) → n ≡ 0 → Some (unknown_size t) ≡ reference_in (elements t ∷ ps) n
first_reference t ps n e = sym (ap (λ k. reference_in (elements t ∷ ps) k) e)

pub later_reference : (t : ObjectType) (ps : List ParameterType) (n : ℕ) → 1 ≤ n → reference_in ps (n - 1) ≡ reference_in (elements t ∷ ps) n
later_reference t ps zero h = absurd (omega (arith, h))
later_reference t ps (suc n) h =
    let s : suc n - 1 ≡ n = omega arith in
    ap (λ k. reference_in ps k) s

pub no_items : {A : Type 0} (xs : List A) → length xs ≡ 0 → xs ≡ []
no_items [] e = refl
no_items (x ∷ xs) e = absurd (omega (arith, e))

-- ---- sizes that words count

counted_small : (n : ℕ) → n < 2 ^ 32 → counted n ≡ n
counted_small n h = omega (arith, h)

pub counted_row : (t : Option DeclaredType) → size_of_type (row_type t) < 2 ^ 32 → counted (deep_size 1 t) ≡ deep_size 1 t
counted_row t h = counted_small (deep_size 1 t) h
