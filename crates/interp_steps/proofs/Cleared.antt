-- Elements made zero, one after the other.
use Rattle.std.proofs.Common.{◌≡◌, ℕ, ℤ, zero, suc, ◌+◌, ◌-◌, ◌<◌, ◌≤◌, List, [], ◌∷◌, ◌++◌, drop, refl, sym, subst, ap, ◌∙◌, arith}
use Rattle.std.specs.Prelude.{Option, None, Some, min, option_map, slice_get}
use Rattle.ctypes.specs.declared.types.IntType.{IntType}
use Rattle.csem.specs.Store.{Array, Element, Reference, Row, Store, Tree, and_part, at_path, change_part, into, length_of, no_parts, part_of, parts, put_at, put_in, tree_at, with_zeros}
use Rattle.csem.specs.Machine.{State, stored}
use Rattle.csem.specs.Statements.{characters, zeros}
use Rattle.interp_store.specs.layer.Frames as on
use Rattle.interp_store.specs.layer.Frames.{Moved, moves, leaves}
use Rattle.interp_store.specs.layer.Steps.{goes}
use Rattle.interp_store.specs.layer.Agrees.{onto}
use Rattle.interp_steps.specs.Zeros.{one_zero, character_at}

-- ---- an element that has its first value

nothing_more : (fs : List on.Frame) → fs ++ [] ≡ fs
nothing_more [] = refl
nothing_more (f ∷ fs) = ap (λ l. f ∷ l) (nothing_more fs)

pub initialised_in : (fs : List on.Frame) (s t : State) → t ≡ s → onto fs (goes on.initialised s) ≡ moves fs (leaves on.initialised) t
initialised_in fs s t e = ap (λ fs. moves fs (leaves on.initialised) s) (nothing_more fs) ∙ ap (moves fs (leaves on.initialised)) (sym e)

-- ---- zeros

-- an array has no part behind its last one
no_part : (row : Row) (i : ℕ) (change : Tree → Tree) → parts row ≤ i → change_part row i change ≡ row
no_part no_parts i change h = refl
no_part (and_part t row) zero change h = absurd (omega (arith, h))
no_part (and_part t row) (suc i) change h = ap (and_part t) (no_part row i change (omega (arith, h)))

same_part : (row : Row) (j : ℕ) (change : Tree → Tree) → ((t : Tree) → part_of row j ≡ Some t → change t ≡ t) → change_part row j change ≡ row
same_part no_parts j change h = refl
same_part (and_part t row) zero change h = ap (λ t. and_part t row) (h t refl)
same_part (and_part t row) (suc j) change h = ap (and_part t) (same_part row j change h)

none_in : (path : List ℕ) (i : ℕ) (new t : Tree) → length_of (at_path (Some t) path) ≤ i → put_at (path ++ i ∷ []) new t ≡ t
none_in [] i new (Element v) h = refl
none_in [] i new (Array row) h = ap Array (no_part row i (put_at [] new) h)
none_in (j ∷ path) i new (Element v) h = refl
none_in (j ∷ path) i new (Array row) h =
    ap Array (same_part row j (put_at (path ++ i ∷ []) new) (λ t e. none_in path i new t (subst (λ o. length_of (at_path o path) ≤ i) e h)))

none_at : (store : Store) (x : ℕ) (path : List ℕ) (i : ℕ) (new : Tree) → length_of (at_path (slice_get store x) path) ≤ i → put_in store x (path ++ i ∷ []) new ≡ store
none_at [] x path i new h = refl
none_at (t ∷ store) zero path i new h = ap (λ t. t ∷ store) (none_in path i new t h)
none_at (t ∷ store) (suc x) path i new h = ap (λ l. t ∷ l) (none_at store x path i new h)

-- an array keeps its length
as_many_parts : (row : Row) (i : ℕ) (change : Tree → Tree) → parts (change_part row i change) ≡ parts row
as_many_parts no_parts i change = refl
as_many_parts (and_part t row) zero change = refl
as_many_parts (and_part t row) (suc i) change = ap suc (as_many_parts row i change)

changed_part : (row : Row) (j : ℕ) (change : Tree → Tree) → part_of (change_part row j change) j ≡ option_map change (part_of row j)
changed_part no_parts j change = refl
changed_part (and_part t row) zero change = refl
changed_part (and_part t row) (suc j) change = changed_part row j change

same_length : (o : Option Tree) (path : List ℕ) (change : Tree → Tree) → ((t : Tree) → length_of (at_path (Some (change t)) path) ≡ length_of (at_path (Some t) path)) →
    length_of (at_path (option_map change o) path) ≡ length_of (at_path o path)
same_length None path change h = refl
same_length (Some t) path change h = h t

length_kept : (path : List ℕ) (i : ℕ) (new t : Tree) → length_of (at_path (Some (put_at (path ++ i ∷ []) new t)) path) ≡ length_of (at_path (Some t) path)
length_kept [] i new (Element v) = refl
length_kept [] i new (Array row) = as_many_parts row i (put_at [] new)
length_kept (j ∷ path) i new (Element v) = refl
length_kept (j ∷ path) i new (Array row) =
    ap (λ o. length_of (at_path o path)) (changed_part row j (put_at (path ++ i ∷ []) new)) ∙ same_length (part_of row j) path (put_at (path ++ i ∷ []) new) (length_kept path i new)

length_stays : (store : Store) (x : ℕ) (path : List ℕ) (i : ℕ) (new : Tree) →
    length_of (at_path (slice_get (put_in store x (path ++ i ∷ []) new) x) path) ≡ length_of (at_path (slice_get store x) path)
length_stays [] x path i new = refl
length_stays (t ∷ store) zero path i new = length_kept path i new t
length_stays (t ∷ store) (suc x) path i new = length_stays store x path i new

none_cleared : (count first : ℕ) (r : Reference) (s : State) → length_of (tree_at s.store r) ≤ first → s ≡ zeros count first r s
none_cleared zero first r s h = refl
none_cleared (suc count) first r s h =
    let same : one_zero first r s ≡ s = ap (λ (l : Store). record s { store = l }) (none_at s.store r.object r.path first (with_zeros (tree_at s.store (into r first))) h) in
    none_cleared count (suc first) r s (omega (arith, h)) ∙ sym (ap (zeros count (suc first) r) same)

-- as far as the array has parts
within : (k count first : ℕ) (r : Reference) (s : State) → k ≤ count → ((k < count) → length_of (tree_at s.store r) ≤ first + k) →
    zeros k first r s ≡ zeros count first r s
within zero count first r s h rest = by_count count rest
  where
    by_count : (count : ℕ) → ((0 < count) → length_of (tree_at s.store r) ≤ first + 0) → s ≡ zeros count first r s
    by_count zero rest = refl
    by_count (suc count) rest = none_cleared (suc count) first r s (omega (arith, rest (omega arith)))
within (suc k) zero first r s h rest = absurd (omega (arith, h))
within (suc k) (suc count) first r s h rest =
    within k count (suc first) r (one_zero first r s) (omega (arith, h))
    (λ l. let as_long = length_stays s.store r.object r.path first (with_zeros (tree_at s.store (into r first))) in omega (arith, as_long, rest (omega (arith, l))))

pub all_cleared : (count first end room size : ℕ) (r : Reference) (s : State) → size ≡ length_of (tree_at s.store r) → room ≡ size - first → end ≡ min count room →
    zeros end first r s ≡ zeros count first r s
all_cleared count first end room size r s long left is = within end count first r s (omega (arith, is)) (λ h. omega (arith, is, left, long, h))

pub none_left : (r : Reference) (first i count : ℕ) (s whole : State) → count ≤ i → zeros (count - i) (first + i) r s ≡ whole → s ≡ whole
none_left r first i count s whole h all = let none : count - i ≡ 0 = omega (arith, h) in sym (ap (λ k. zeros k (first + i) r s) none) ∙ all

-- one element more, from number a on
pub one_cleared : (r : Reference) (a i count : ℕ) (s t whole : State) → i < count → t ≡ one_zero (a + i) r s →
    zeros (count - i) (a + i) r s ≡ whole → zeros (count - (i + 1)) (a + (i + 1)) r t ≡ whole
one_cleared r a i count s t whole h e all =
    let left : count - i ≡ suc (count - (i + 1)) = omega arith in
    let number : a + (i + 1) ≡ suc (a + i) = omega arith in
    ap (λ x. zeros (count - (i + 1)) x r t) number
    ∙ ap (zeros (count - (i + 1)) (suc (a + i)) r) e
    ∙ sym (ap (λ k. zeros k (a + i) r s) left) ∙ all

-- one character
one_character : (t : IntType) (k i j : ℕ) (text : List ℕ) (r : Reference) (s : State) →
    characters t (suc k) i (drop j text) r s ≡ characters t k (suc i) (drop (suc j) text) r (stored (into r i) (character_at t (slice_get text j)) s)
one_character t k i zero [] r s = refl
one_character t k i (suc j) [] r s = refl
one_character t k i zero (c ∷ text) r s = refl
one_character t k i (suc j) (c ∷ text) r s = one_character t k i j text r s

pub one_put : (t : IntType) (text : List ℕ) (r : Reference) (i count : ℕ) (v v2 : ℤ) (s u whole : State) → i < count → v ≡ character_at t (slice_get text i) → v2 ≡ v →
    u ≡ stored (into r i) v2 s → characters t (count - i) i (drop i text) r s ≡ whole → characters t (count - (i + 1)) (i + 1) (drop (i + 1) text) r u ≡ whole
one_put t text r i count v v2 s u whole h is same e all =
    let left : count - i ≡ suc (count - (i + 1)) = omega arith in
    let number : i + 1 ≡ suc i = omega arith in
    ap (λ x. characters t (count - (i + 1)) x (drop x text) r u) number
    ∙ ap (λ u. characters t (count - (i + 1)) (suc i) (drop (suc i) text) r u) (e ∙ ap (λ v. stored (into r i) v s) (same ∙ is))
    ∙ sym (one_character t (count - (i + 1)) i i text r s)
    ∙ sym (ap (λ k. characters t k i (drop i text) r s) left) ∙ all
