-- The objects that live: each has its shape and values of its type, and keeps its value unless it is written to.
use Rattle.std.proofs.Common.{◌≡◌, ◌⊎◌, inl, inr, ℕ, zero, suc, ◌+◌, ◌<◌, ◌≤◌, List, [], ◌∷◌, ◌++◌, length, map, Option, Some, None, Bool, true, false, ℤ, refl, sym, ap, ◌∙◌, subst, arith}
use Rattle.std.specs.Prelude.{slice_get, nat_lt}
use Rattle.std.proofs.lemmas.Bool.Decides.{nat_tests}
use Rattle.ctypes.specs.declared.types.IntType.{IntType}
use Rattle.ctypes.specs.Types.{IsValueOf}
use Rattle.typing_spec.specs.Types.{ObjectType}
use Rattle.csem.specs.Store.{Tree, Element, Store, Reference, whole, value_of, value_at, put_at, put_in, put, literal_object}
use Rattle.csem.specs.Machine as machine
use Rattle.tac_code.specs.Run.{is_element}
use Rattle.tac_code.specs.Sound.{AreBytes}
use Rattle.lower_correct.proofs.Words.{differ}
use Rattle.lower_correct.proofs.Shapes.{HasShape, Leads, shape_put, value_in, shape_scalar, target_there, set_there}

-- ---- the list of objects

pub put_here : (store : Store) (x : ℕ) (path : List ℕ) (old new : Tree) → slice_get store x ≡ Some old
    → slice_get (put_in store x path new) x ≡ Some (put_at path new old)
put_here [] x path old new h = absurd (let z : ⊥ = cc in z)
put_here (t ∷ store) zero path old new h = let same : t ≡ old = cc in ap (λ y. Some (put_at path new y)) same
put_here (t ∷ store) (suc x) path old new h = put_here store x path old new h

pub put_elsewhere : (store : Store) (x y : ℕ) (path : List ℕ) (new : Tree) → (y ≡ x → ⊥) → slice_get (put_in store x path new) y ≡ slice_get store y
put_elsewhere [] x y path new h = refl
put_elsewhere (t ∷ store) zero zero path new h = absurd (h refl)
put_elsewhere (t ∷ store) zero (suc y) path new h = refl
put_elsewhere (t ∷ store) (suc x) zero path new h = refl
put_elsewhere (t ∷ store) (suc x) (suc y) path new h = put_elsewhere store x y path new (λ e. h (ap suc e))

pub put_length : (store : Store) (x : ℕ) (path : List ℕ) (new : Tree) → length (put_in store x path new) ≡ length store
put_length [] x path new = refl
put_length (t ∷ store) zero path new = refl
put_length (t ∷ store) (suc x) path new = ap suc (put_length store x path new)

pub behind : {A : Type 0} (xs ys : List A) (k : ℕ) → slice_get (xs ++ ys) (length xs + k) ≡ slice_get ys k
behind [] ys k = ap (slice_get ys) (let e : 0 + k ≡ k = omega arith in e)
behind (x ∷ xs) ys k = ap (slice_get (x ∷ xs ++ ys)) (let e : suc (length xs) + k ≡ suc (length xs + k) = omega arith in e) ∙ behind xs ys k

pub before_it : {A : Type 0} (xs ys : List A) (k : ℕ) → k < length xs → slice_get (xs ++ ys) k ≡ slice_get xs k
before_it [] ys k lt = absurd (omega (arith, lt))
before_it (x ∷ xs) ys zero lt = refl
before_it (x ∷ xs) ys (suc k) lt = before_it xs ys k (omega (arith, lt))

pub below_length : {A : Type 0} (xs : List A) (n : ℕ) (x : A) → slice_get xs n ≡ Some x → n < length xs
below_length [] n x e = absurd (let z : ⊥ = cc in z)
below_length (z ∷ xs) zero x e = omega arith
below_length (z ∷ xs) (suc n) x e = omega (arith, below_length xs n x e)

pub length_mapped : {A B : Type 0} (f : A → B) (xs : List A) → length (map f xs) ≡ length xs
length_mapped f [] = refl
length_mapped f (x ∷ xs) = ap suc (length_mapped f xs)

pub nat_cases : {P : Type 0} (m n : ℕ) → ((m ≡ n) → P) → ((m ≡ n → ⊥) → P) → P
nat_cases zero zero a b = a refl
nat_cases zero (suc n) a b = b (λ e. let z : ⊥ = omega (arith, e) in z)
nat_cases (suc m) zero a b = b (λ e. let z : ⊥ = omega (arith, e) in z)
nat_cases (suc m) (suc n) a b = nat_cases m n (λ e. a (ap suc e)) (λ h. b (λ e. h (let z : m ≡ n = omega (arith, e) in z)))

pub cases_lt : {P : Type 0} (m n : ℕ) → (m < n → P) → ((k : ℕ) → m ≡ n + k → P) → P
cases_lt m zero a b = b m (let z : m ≡ 0 + m = omega arith in z)
cases_lt zero (suc n) a b = a (let z : 0 < suc n = omega arith in z)
cases_lt (suc m) (suc n) a b = cases_lt m n (λ lt. a (let z : suc m < suc n = omega (arith, lt) in z)) (λ k e. b k (let z : suc m ≡ suc n + k = omega (arith, e) in z))

-- ---- the objects that live while a call runs

-- the texts of the string literals; the types of the objects that were there before the call, of which `first` are string literals and static
-- objects, and those of its own, each in their order; and the elements of the arrays that its array parameters refer to
pub record World : Type 0 where
  pub texts : List (List ℕ)
  pub first : ℕ
  pub outer : List ObjectType
  pub own : List ObjectType
  pub rows : List ObjectType

abbrev pub all_types : World → List ObjectType
all_types W = W.outer ++ W.own

abbrev pub ObjectFits : ObjectType → Option Tree → Type 0
ObjectFits o None = ⊥
ObjectFits o (Some tree) = HasShape o.element o.lengths tree

-- a reference leads to a part of these lengths, of an array or of an object that is not automatic
pub record Refers (W : World) (r : Reference) (t : IntType) (lengths : List ℕ) : Type 0 where
  pub object : ObjectType
  pub at : slice_get (all_types W) r.object ≡ Some object
  pub element : object.element ≡ t
  pub leads : Leads r.path object.lengths lengths
  pub memory : (r.object < W.first) ⊎ (object.lengths ≡ [] → ⊥)

-- to an array of such elements or rows
abbrev pub RefersToRows : World → ObjectType → Option Reference → Type 0
RefersToRows W o None = ⊥
RefersToRows W o (Some r) = (n : ℕ) × Refers W r o.element (n ∷ o.lengths)

-- each object has its shape and values of its type, string literals their characters; the input is bytes
pub record Fine (W : World) (s : machine.State) : Type 0 where
  pub few : length W.texts ≤ W.first
  pub low : W.first ≤ length W.outer
  pub base : s.base ≡ length W.outer
  pub size : length s.store ≡ length W.outer + length W.own
  pub fits : (n : ℕ) (o : ObjectType) → slice_get (all_types W) n ≡ Some o → ObjectFits o (slice_get s.store n)
  pub literals : (n : ℕ) (text : List ℕ) → slice_get W.texts n ≡ Some text → slice_get s.store n ≡ Some (literal_object text)
  pub arrays : (n : ℕ) (o : ObjectType) → slice_get W.rows n ≡ Some o → RefersToRows W o (slice_get s.arrays n)
  pub input : AreBytes s.input

-- what a part of a call leaves unchanged: the numbers of calls that wait, and those of its own that are not written to
pub record After (first : ℕ) (written : ℕ → Bool) (before s : machine.State) : Type 0 where
  pub base : s.base ≡ before.base
  pub arrays : s.arrays ≡ before.arrays
  pub below : (i : ℕ) → first ≤ i → i < before.base → is_element (slice_get before.store i) ≡ true → slice_get s.store i ≡ slice_get before.store i
  pub still : (x : ℕ) → written x ≡ false → is_element (slice_get before.store (before.base + x)) ≡ true
      → slice_get s.store (before.base + x) ≡ slice_get before.store (before.base + x)

pub after_none : {first : ℕ} (written : ℕ → Bool) (s : machine.State) → After first written s s
after_none written s = record { base = refl; arrays = refl; below = λ i lo lt h. refl; still = λ x h e. refl }

pub after_on : {first : ℕ} (w w1 w2 : ℕ → Bool) (a b z : machine.State) → ((x : ℕ) → w x ≡ false → w1 x ≡ false) → ((x : ℕ) → w x ≡ false → w2 x ≡ false)
    → After first w1 a b → After first w2 b z → After first w a z
after_on {first} w w1 w2 a b z h1 h2 l r = record {
  base = r.base ∙ l.base;
  arrays = r.arrays ∙ l.arrays;
  below = λ i lo lt h. let one = l.below i lo lt h in
      r.below i lo (subst (λ n. i < n) (sym l.base) lt) (ap is_element one ∙ h) ∙ one;
  still = λ x h e. let one = l.still x (h1 x h) e in
      (subst (λ n. is_element (slice_get b.store (n + x)) ≡ true → slice_get z.store (n + x) ≡ slice_get b.store (n + x)) l.base (r.still x (h2 x h)))
      (ap is_element one ∙ e) ∙ one;
}

-- the state with another clock, history or input
pub after_alike : {first : ℕ} (w : ℕ → Bool) (a b z : machine.State) → z.base ≡ b.base → z.arrays ≡ b.arrays → z.store ≡ b.store → After first w a b
    → After first w a z
after_alike w a b z e1 e2 e3 l = record {
  base = e1 ∙ l.base;
  arrays = e2 ∙ l.arrays;
  below = λ i lo lt h. ap (λ store. slice_get store i) e3 ∙ l.below i lo lt h;
  still = λ x h e. ap (λ store. slice_get store (a.base + x)) e3 ∙ l.still x h e;
}

pub fine_alike : (W : World) (a b : machine.State) → b.base ≡ a.base → b.arrays ≡ a.arrays → b.store ≡ a.store → AreBytes b.input → Fine W a → Fine W b
fine_alike W a b e1 e2 e3 bytes h = record {
  few = h.few;
  low = h.low;
  base = e1 ∙ h.base;
  size = ap length e3 ∙ h.size;
  fits = λ n o e. subst (λ t. ObjectFits o t) (sym (ap (λ store. slice_get store n) e3)) (h.fits n o e);
  literals = λ n text e. ap (λ store. slice_get store n) e3 ∙ h.literals n text e;
  arrays = λ n o e. subst (λ t. RefersToRows W o t) (sym (ap (λ l. slice_get l n) e2)) (h.arrays n o e);
  input = bytes;
}

-- ---- an object that is written to

pub tree_is : (t : ObjectType) (o : Option Tree) → ObjectFits t o → (old : Tree) × (o ≡ Some old) × HasShape t.element t.lengths old
tree_is t None h = absurd h
tree_is t (Some old) h = (old, refl, h)

some_same : (a b : ObjectType) → Some a ≡ Some b → a ≡ b
some_same a b e = cc

pub own_at : (W : World) (s : machine.State) (x : ℕ) (t : ObjectType) → Fine W s → slice_get W.own x ≡ Some t → slice_get (all_types W) (s.base + x) ≡ Some t
own_at W s x t fine e = ap (λ n. slice_get (all_types W) (n + x)) fine.base ∙ (behind W.outer W.own x ∙ e)

pub own_fits : (W : World) (s : machine.State) (x : ℕ) (t : ObjectType) → Fine W s → slice_get W.own x ≡ Some t
    → ObjectFits t (slice_get s.store (s.base + x))
own_fits W s x t fine e = fine.fits (s.base + x) t (own_at W s x t fine e)

-- a literal is not the object with this number
pub is_apart : (texts : List (List ℕ)) (n : ℕ) (text : List ℕ) (x : ℕ) → slice_get texts n ≡ Some text → nat_lt x (length texts) ≡ false → n ≡ x → ⊥
is_apart texts n text x e h m = by_size (below_length texts n text e)
  where
    by_size : n < length texts → ⊥
    by_size lt = grind (arith, nat_tests)

-- nor are those of the call
pub own_apart : (W : World) (s : machine.State) (x : ℕ) → Fine W s → nat_lt (s.base + x) (length W.texts) ≡ false
own_apart W s x fine = by_size (s.base + x) (length W.texts) (let few = fine.few in let low = fine.low in let base = fine.base in omega (arith, few, low, base))
  where
    by_size : (a b : ℕ) → b ≤ a → nat_lt a b ≡ false
    by_size a b h = grind (arith, nat_tests)

pub fine_changed : (W : World) (r : Reference) (t : ObjectType) (rest : List ℕ) (new : Tree) (s : machine.State) → slice_get (all_types W) r.object ≡ Some t
    → Leads r.path t.lengths rest → HasShape t.element rest new → nat_lt r.object (length W.texts) ≡ false → Fine W s
    → Fine W (record s { store = put s.store r new })
fine_changed W r t rest new s at lead shape apart fine = record {
  few = fine.few;
  low = fine.low;
  base = fine.base;
  size = put_length s.store r.object r.path new ∙ fine.size;
  fits = fits;
  literals = λ n text e. put_elsewhere s.store r.object n r.path new (is_apart W.texts n text r.object e apart) ∙ fine.literals n text e;
  arrays = fine.arrays;
  input = fine.input;
}
  where
    here_fits : (n : ℕ) (o : ObjectType) → slice_get (all_types W) n ≡ Some o → n ≡ r.object
        → ObjectFits o (slice_get (put_in s.store r.object r.path new) n)
    here_fits n o g m =
        let old = tree_is t (slice_get s.store r.object) (fine.fits r.object t at) in
        let there : slice_get (put_in s.store r.object r.path new) r.object ≡ Some (put_at r.path new old.0) =
        put_here s.store r.object r.path old.0 new old.1 in
        let shaped : ObjectFits t (Some (put_at r.path new old.0)) = shape_put r.path t.element t.lengths rest old.0 new lead old.2 shape in
        let same : t ≡ o = some_same t o (sym at ∙ (ap (slice_get (all_types W)) (sym m) ∙ g)) in
        subst (λ k. ObjectFits o (slice_get (put_in s.store r.object r.path new) k)) (sym m)
        (subst (λ z. ObjectFits o z) (sym there) (subst (λ z. ObjectFits z (Some (put_at r.path new old.0))) same shaped))

    fits : (n : ℕ) (o : ObjectType) → slice_get (all_types W) n ≡ Some o → ObjectFits o (slice_get (put_in s.store r.object r.path new) n)
    fits n o g = nat_cases n r.object (here_fits n o g)
        (λ d. subst (λ z. ObjectFits o z) (sym (put_elsewhere s.store r.object n r.path new d)) (fine.fits n o g))

abbrev pub with_tree : ℕ → Tree → machine.State → machine.State
with_tree x new s = record s { store = put s.store (whole (s.base + x)) new }

pub fine_put : (W : World) (x : ℕ) (t : ObjectType) (v : ℤ) (s : machine.State) → slice_get W.own x ≡ Some t → t.lengths ≡ [] → IsValueOf t.element v
    → Fine W s → Fine W (with_tree x (Element (Some v)) s)
fine_put W x t v s e el h fine =
    fine_changed W (whole (s.base + x)) t t.lengths (Element (Some v)) s (own_at W s x t fine e) refl
    (subst (λ l. HasShape t.element l (Element (Some v))) (sym el) h) (own_apart W s x fine) fine

-- that is what the abstract machine stores (6.5.16p3)
pub put_is_stored : (W : World) (x : ℕ) (t : ObjectType) (v : ℤ) (s : machine.State) → slice_get W.own x ≡ Some t → t.lengths ≡ [] → Fine W s
    → with_tree x (Element (Some v)) s ≡ machine.stored (whole (s.base + x)) v s
put_is_stored W x t v s e el fine =
    let r = whole (s.base + x) in
    let old = tree_is t (slice_get s.store (s.base + x)) (own_fits W s x t fine e) in
    ap (λ (l : Store). record s { store = l }) (sym (set_there s.store r t.element v (target_there s.store r t.element t.lengths [] old.0 old.1 old.2 el)))

-- the value read from it
pub read_back : (W : World) (x : ℕ) (t : ObjectType) (v : ℤ) (s : machine.State) → slice_get W.own x ≡ Some t → Fine W s
    → value_at (put s.store (whole (s.base + x)) (Element (Some v))) (whole (s.base + x)) ≡ Some v
read_back W x t v s e fine =
    let old = tree_is t (slice_get s.store (s.base + x)) (own_fits W s x t fine e) in
    ap value_of (put_here s.store (s.base + x) [] old.0 (Element (Some v)) old.1)

pub after_put : {first : ℕ} (w : ℕ → Bool) (x : ℕ) (new : Tree) (s : machine.State) → w x ≡ true → After first w s (with_tree x new s)
after_put w x new s e = record {
  base = refl;
  arrays = refl;
  below = λ i lo lt h. put_elsewhere s.store (s.base + x) i [] new (λ m. let z : ⊥ = omega (arith, lt, m) in z);
  still = λ y h g. put_elsewhere s.store (s.base + x) (s.base + y) [] new
      (λ m. differ (sym h ∙ (ap w (let z : y ≡ x = omega (arith, m) in z) ∙ e)));
}

-- a value that is read is one of the object's type
value_fits : (t : ObjectType) (o : Option Tree) (v : ℤ) → ObjectFits t o → value_of o ≡ Some v → IsValueOf t.element v
value_fits t None v h e = absurd h
value_fits t (Some tree) v h e = value_in t.element t.lengths tree v h e

pub read_fits : (W : World) (x : ℕ) (t : ObjectType) (v : ℤ) (s : machine.State) → slice_get W.own x ≡ Some t → Fine W s
    → value_at s.store (whole (s.base + x)) ≡ Some v → IsValueOf t.element v
read_fits W x t v s e fine g = value_fits t (slice_get s.store (s.base + x)) v (own_fits W s x t fine e) g

-- ---- a tick later

pub fine_later : (W : World) (s : machine.State) (k : ℕ) → Fine W s → Fine W (record s { clock = k })
fine_later W s k h =
    record { few = h.few; low = h.low; base = h.base; size = h.size; fits = h.fits; literals = h.literals; arrays = h.arrays; input = h.input }

pub after_later : {first : ℕ} (w : ℕ → Bool) (s : machine.State) (k : ℕ) → After first w s (record s { clock = k })
after_later w s k = record { base = refl; arrays = refl; below = λ i lo lt h. refl; still = λ x h e. refl }

pub after_since : {first : ℕ} (w : ℕ → Bool) (s z : machine.State) (k : ℕ) → After first w (record s { clock = k }) z → After first w s z
after_since w s z k l = record { base = l.base; arrays = l.arrays; below = l.below; still = l.still }

-- ---- an element that is written to

-- an automatic object that is no array is not referred to
pub no_number : (W : World) (r : Reference) (t : IntType) (lengths : List ℕ) (s : machine.State) (i : ℕ) → Fine W s → Refers W r t lengths → W.first ≤ i
    → is_element (slice_get s.store i) ≡ true → i ≡ r.object → ⊥
no_number W r t lengths s i fine h lo e m = by_place h.memory
  where
    by_place : (r.object < W.first) ⊎ (h.object.lengths ≡ [] → ⊥) → ⊥
    by_place (inl lt) = omega (arith, lt, lo, m)
    by_place (inr has) =
        let old = tree_is h.object (slice_get s.store r.object) (fine.fits r.object h.object h.at) in
        has (shape_scalar h.object.element h.object.lengths old.0 old.2
        (ap is_element (sym old.1) ∙ (ap (λ k. is_element (slice_get s.store k)) (sym m) ∙ e)))

pub after_store : (W : World) (w : ℕ → Bool) (r : Reference) (t : IntType) (lengths : List ℕ) (new : Tree) (s : machine.State) → Fine W s
    → Refers W r t lengths → After W.first w s (record s { store = put s.store r new })
after_store W w r t lengths new s fine h = record {
  base = refl;
  arrays = refl;
  below = λ i lo lt e. put_elsewhere s.store r.object i r.path new (no_number W r t lengths s i fine h lo e);
  still = λ x d e. put_elsewhere s.store r.object (s.base + x) r.path new
      (no_number W r t lengths s (s.base + x) fine h (let low = fine.low in let b = fine.base in omega (arith, low, b)) e);
}
