-- The live objects, and the model that represents them.
use Rattle.std.proofs.Common.{◌≡◌, ℕ, ℤ, zero, suc, ◌<◌, ◌≤◌, List, [], ◌∷◌, length, map, take, get_or, Option, Some, None, refl, sym, ap, subst, ◌∙◌, arith}
use Rattle.std.specs.Prelude.{slice_get, slice_set, option_map, Result, Ok, Err, IfOk, OnOk}
use Rattle.interp_store.specs.declared.element_tree.Tree.{Tree}
use Rattle.interp_store.specs.declared.element_tree.Tree.TheVariants.{Element}
use Rattle.csem.specs.Store as machine
use Rattle.csem.specs.Store.{at_path}
use Rattle.interp_store.specs.View.{tree_of}

pub get_map : (ts : List Tree) (i : ℕ) → slice_get (map tree_of ts) i ≡ option_map tree_of (slice_get ts i)
get_map [] i = refl
get_map (t ∷ ts) zero = refl
get_map (t ∷ ts) (suc i) = get_map ts i

at_none : (path : List ℕ) → at_path None path ≡ None
at_none [] = refl
at_none (i ∷ path) = at_none path

pub got : (ts : List Tree) (i : ℕ) (t : Tree) → i < length ts → t ≡ get_or ts i t → slice_get ts i ≡ Some t
got [] i t h e = absurd (omega arith)
got (u ∷ ts) zero t h e = ap Some (sym e)
got (u ∷ ts) (suc i) t h e = got ts i t (omega arith) e

pub beyond : (ts : List Tree) (i : ℕ) → length ts ≤ i → slice_get ts i ≡ None
beyond [] i h = refl
beyond (u ∷ ts) zero h = absurd (omega arith)
beyond (u ∷ ts) (suc i) h = beyond ts i (omega arith)

pub map_take : (n : ℕ) (ts : List Tree) → map tree_of (take n ts) ≡ take n (map tree_of ts)
map_take zero ts = refl
map_take (suc n) [] = refl
map_take (suc n) (t ∷ ts) = ap (λ l. tree_of t ∷ l) (map_take n ts)

object_put_in : (ts : List Tree) (i : ℕ) (t new : Tree) (path : List ℕ) (tree : machine.Tree) → slice_get ts i ≡ Some t → tree_of new ≡ machine.put_at path tree (tree_of t) →
    map tree_of (slice_set ts i new) ≡ machine.put_in (map tree_of ts) i path tree
object_put_in [] i t new path tree e n = refl
object_put_in (u ∷ ts) zero t new path tree e n = let same : u ≡ t = cc in ap (λ x. x ∷ map tree_of ts) (n ∙ ap (λ t. machine.put_at path tree (tree_of t)) (sym same))
object_put_in (u ∷ ts) (suc i) t new path tree e n = ap (λ l. tree_of u ∷ l) (object_put_in ts i t new path tree e n)

pub whole_put : (ts : List Tree) (i : ℕ) (new : Tree) (path : List ℕ) → path ≡ [] → map tree_of (slice_set ts i new) ≡ machine.put_in (map tree_of ts) i path (tree_of new)
whole_put [] i new path e = refl
whole_put (t ∷ ts) zero new path e = sym (ap (λ p. machine.put_at p (tree_of new) (tree_of t) ∷ map tree_of ts) e)
whole_put (t ∷ ts) (suc i) new path e = ap (λ l. tree_of t ∷ l) (whole_put ts i new path e)

pub no_object_put : (ts : List Tree) (i : ℕ) (path : List ℕ) (tree : machine.Tree) → length ts ≤ i → map tree_of ts ≡ machine.put_in (map tree_of ts) i path tree
no_object_put [] i path tree h = refl
no_object_put (t ∷ ts) zero path tree h = absurd (omega arith)
no_object_put (t ∷ ts) (suc i) path tree h = ap (λ l. tree_of t ∷ l) (no_object_put ts i path tree (omega arith))

pub no_object : (ts : List Tree) (i : ℕ) (path : List ℕ) → length ts ≤ i → None ≡ at_path (slice_get (map tree_of ts) i) path
no_object ts i path h = sym (ap (λ o. at_path o path) (get_map ts i ∙ ap (option_map tree_of) (beyond ts i h)) ∙ at_none path)

pub some_object : (ts : List Tree) (i : ℕ) (t : Tree) (path : List ℕ) → i < length ts → t ≡ get_or ts i t → at_path (Some (tree_of t)) path ≡ at_path (slice_get (map tree_of ts) i) path
some_object ts i t path h e = sym (ap (λ o. at_path o path) (get_map ts i ∙ ap (option_map tree_of) (got ts i t h e)))

-- an object that is written through the borrowed place
pub object_put : {A E : Type 0} (r : Result A E) (ts : List Tree) (i : ℕ) (now new : Tree) (path p : List ℕ) (tree u : machine.Tree) → i < length ts → now ≡ get_or ts i now → p ≡ path → u ≡ tree →
    OnOk r (tree_of new ≡ machine.put_at p u (tree_of now)) → OnOk r (map tree_of (slice_set ts i new) ≡ machine.put_in (map tree_of ts) i path tree)
object_put (Ok x) ts i now new path p tree u h e a b put =
    object_put_in ts i now new path tree (got ts i now h e) (put ∙ ap (λ p. machine.put_at p u (tree_of now)) a ∙ ap (λ u. machine.put_at path u (tree_of now)) b)
object_put (Err x) ts i now new path p tree u h e a b put = tt

-- that is changed in a part
pub object_changed : {A E : Type 0} (change other : Option machine.Tree → machine.Tree) (r : Result A E) (ts : List Tree) (i n : ℕ) (now new : Tree) (path p : List ℕ) → ((o : Option machine.Tree) → other o ≡ change o) →
    n ≡ i → n < length ts → now ≡ get_or ts n now → p ≡ path → OnOk r (tree_of new ≡ machine.put_at p (other (at_path (Some (tree_of now)) p)) (tree_of now)) →
    OnOk r (map tree_of (slice_set ts n new) ≡ machine.put_in (map tree_of ts) i path (change (at_path (slice_get (map tree_of ts) i) path)))
object_changed change other (Err x) ts i n now new path p same at h e a put = tt
object_changed change other (Ok x) ts i n now new path p same at h e a put =
    let part : other (at_path (Some (tree_of now)) p) ≡ change (at_path (slice_get (map tree_of ts) n) path) =
    same (at_path (Some (tree_of now)) p) ∙ ap (λ p. change (at_path (Some (tree_of now)) p)) a ∙ ap change (some_object ts n now path h e) in
    object_put {E = ℕ} (Ok x) ts n now new path p _ _ h e a part put
    ∙ ap (λ i. machine.put_in (map tree_of ts) i path (change (at_path (slice_get (map tree_of ts) i) path))) at

-- ---- an object that is an element

pub element_kept : (t : Tree) (v : Option ℤ) (path : List ℕ) (new : machine.Tree) → t ≡ Element v → 0 < length path → tree_of t ≡ machine.put_at path new (tree_of t)
element_kept t v [] new e h = absurd (omega (arith, h))
element_kept t v (i ∷ path) new e h = ap tree_of e ∙ sym (ap (λ t. machine.put_at (i ∷ path) new (tree_of t)) e)

pub no_part_of_element : (t : Tree) (v : Option ℤ) (path : List ℕ) → t ≡ Element v → 0 < length path → None ≡ machine.value_of (at_path (Some (tree_of t)) path)
no_part_of_element t v [] e h = absurd (omega (arith, h))
no_part_of_element t v (i ∷ path) e h = sym (ap (λ t. machine.value_of (at_path (Some (tree_of t)) (i ∷ path))) e ∙ ap machine.value_of (at_none path))

pub element_has_none : (t : Tree) (v : Option ℤ) (path : List ℕ) → t ≡ Element v → 0 ≡ machine.length_of (at_path (Some (tree_of t)) path)
element_has_none t v [] e = sym (ap (λ t. machine.length_of (Some (tree_of t))) e)
element_has_none t v (i ∷ path) e = sym (ap (λ t. machine.length_of (at_path (Some (tree_of t)) (i ∷ path))) e ∙ ap machine.length_of (at_none path))

-- ---- an object made

pub made_as : {E : Type 0} (r : Result Tree E) (a b : machine.Tree) → a ≡ b → IfOk r (λ t. tree_of t ≡ a) → IfOk r (λ t. tree_of t ≡ b)
made_as r a b e h = let P : machine.Tree → Type 0 = λ m. IfOk r (λ t. tree_of t ≡ m) in subst P e h
