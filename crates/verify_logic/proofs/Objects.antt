-- Abstract values of one object, and of all: implications, reads, and the effect of a write.
use Rattle.std.proofs.Common.{◌≡◌, ℕ, zero, suc, ◌+◌, ◌<◌, ◌≤◌, ℤ, List, [], ◌∷◌, ◌++◌, length, take, get_or, refl, ap, subst, sym, ◌∙◌, arith, add-one, Option, Some, None, true, false}
use Rattle.std.proofs.lemmas.Int.{ints}
use Rattle.std.proofs.lemmas.List.{take_all}
use Rattle.std.proofs.Math.Seq.{take-suc}
use Rattle.std.specs.Prelude.{slice_get, slice_set}
use Rattle.csem.specs.Store.{Tree, Element, Array, Row, no_parts, and_part, parts, part_of, at_path, tree_at, change_part, put_at, Store, Reference, put_in, put, set_value}
use Rattle.csem.specs.Machine.{State}
use Rattle.csem.proofs.InPlace.{element_is_set}
use Rattle.verify_logic.specs.declared.abstract_values.Interval.{Interval}
use Rattle.verify_logic.specs.declared.abstract_values.AbsValue.{AbsValue}
use Rattle.verify_logic.specs.States.{Known, Frame, In, ValueIs, EachPart, TreeIs, ObjectsAre, or_scalar, shapes_of, shape_of, Holds, Reaches, Below, Entails, EachEntails, Implies, Along, Refers, ObjectIs, FactsAre, KnownEntails, SubscriptIs, Contents, Forgets, Changes, Replaces, Writes}

pub below : (i j : Interval) (v : ℤ) → Below i j → In i v → In j v
below i j v h m = (omega (arith, ints, h.0, m.0), omega (arith, ints, h.1, m.1))

-- ---- of all objects

pub one_more : (xs ys : List AbsValue) (x y : AbsValue) → EachEntails xs ys → Entails x y → EachEntails (xs ++ x ∷ []) (ys ++ y ∷ [])
one_more [] [] x y h g = (g, tt)
one_more [] (b ∷ bs) x y h g = absurd h
one_more (a ∷ bs) [] x y h g = absurd h
one_more (a ∷ bs) (c ∷ cs) x y h g = (h.0, one_more bs cs x y h.1 g)

-- one step of a loop over them
pub step_more : (xs ys : List AbsValue) (i : ℕ) (d y : AbsValue) → i < length xs → EachEntails (take i xs) ys → Entails (get_or xs i d) y → EachEntails (take (i + 1) xs) (ys ++ y ∷ [])
step_more xs ys i d y lt h g = let P : List AbsValue → Type 0 = λ zs. EachEntails zs (ys ++ y ∷ []) in
    let e : take (suc i) xs ≡ take (i + 1) xs = ap (λ n. take n xs) (sym (add-one i)) in
    subst P (sym (take-suc xs i d lt) ∙ e) (one_more (take i xs) ys (get_or xs i d) y h g)

pub whole_entails : (xs ys : List AbsValue) (n : ℕ) → length xs ≤ n → EachEntails (take n xs) ys → EachEntails xs ys
whole_entails xs ys n le h = let P : List AbsValue → Type 0 = λ zs. EachEntails zs ys in subst P (take_all n xs le) h

pub step_both : (xs ys : List AbsValue) (i : ℕ) (d d2 : AbsValue) → i < length xs → length xs ≡ length ys → EachEntails (take i xs) (take i ys) → Entails (get_or xs i d) (get_or ys i d2) →
    EachEntails (take (i + 1) xs) (take (i + 1) ys)
step_both xs ys i d d2 lt same h g = let P : List AbsValue → Type 0 = λ zs. EachEntails (take (i + 1) xs) zs in
    let lt2 : i < length ys = omega arith in
    let e : take (suc i) ys ≡ take (i + 1) ys = ap (λ n. take n ys) (sym (add-one i)) in
    subst P (sym (take-suc ys i d2 lt2) ∙ e) (step_more xs (take i ys) i d (get_or ys i d2) lt h g)

pub both_entail : (xs ys : List AbsValue) (n : ℕ) → length xs ≤ n → length ys ≤ n → EachEntails (take n xs) (take n ys) → EachEntails xs ys
both_entail xs ys n le le2 h = let P : List AbsValue → Type 0 = λ zs. EachEntails xs zs in subst P (take_all n ys le2) (whole_entails xs (take n ys) n le h)

each_part : (P Q : Tree → Type 0) → ((t : Tree) → P t → Q t) → (row : Row) → EachPart P row → EachPart Q row
each_part P Q f no_parts h = tt
each_part P Q f (and_part t row) h = (f t h.0, each_part P Q f row h.1)

pub tree_entails : (a b : AbsValue) (lengths : List ℕ) → Entails a b → (t : Tree) → TreeIs a lengths t → TreeIs b lengths t
tree_entails a b [] e (Element v) h = e.is v h
tree_entails a b [] e (Array row) h = absurd h
tree_entails a b (n ∷ lengths) e (Element v) h = absurd h
tree_entails a b (n ∷ lengths) e (Array row) h = (h.0, each_part (TreeIs a lengths) (TreeIs b lengths) (tree_entails a b lengths e) row h.1)

pub objects_entail : (xs ys : List AbsValue) (shapes : List (List ℕ)) (store : Store) → EachEntails xs ys → ObjectsAre xs shapes store → ObjectsAre ys shapes store
objects_entail [] [] shapes store h g = g
objects_entail [] (b ∷ bs) shapes store h g = absurd h
objects_entail (a ∷ rest) [] shapes store h g = absurd h
objects_entail (a ∷ rest) (b ∷ bs) [] store h g = absurd g
objects_entail (a ∷ rest) (b ∷ bs) (l ∷ shapes) [] h g = absurd g
objects_entail (a ∷ rest) (b ∷ bs) (l ∷ shapes) (t ∷ store) h g = (tree_entails a b l h.0 t g.0, objects_entail rest bs shapes store h.1 g.1)

-- with other objects
pub with_objects : (fr : Frame) (a b : Known) (base : ℕ) (arrays : List Reference) (store store2 : Store) (input : List ℕ) → Holds fr a base arrays store input → ObjectsAre b.objects (shapes_of fr) store2 → FactsAre b.facts store2 → Holds fr b base arrays store2 input
with_objects fr a b base arrays store store2 input h g f = record { based = h.based; referred = h.referred; objects_are = g; facts_are = f; bytes = h.bytes; sound = h.sound }

pub implies_each : (a b : Known) → KnownEntails a b → Implies (Some a) (Some b)
implies_each a b h = record {
  is = λ fr s c. with_objects fr a b s.base s.arrays s.store s.store s.input c (objects_entail a.objects b.objects (shapes_of fr) s.store h.objects c.objects_are) (h.facts.is s.store c.facts_are);
}

pub implies_same : (o : Option Known) → Implies o o
implies_same o = record { is = λ fr s h. h }

pub none_implies : (o : Option Known) → Implies None o
none_implies o = record { is = λ fr s h. absurd h }

pub implies_then : (o o2 o3 : Option Known) → Implies o o2 → Implies o2 o3 → Implies o o3
implies_then o o2 o3 f g = record { is = λ fr s h. g.is fr s (f.is fr s h) }

-- ---- one object

object_at : (ks : List AbsValue) (shapes : List (List ℕ)) (store : Store) (x : ℕ) (k : AbsValue) → ObjectsAre ks shapes store → slice_get ks x ≡ Some k → ObjectIs k (or_scalar (slice_get shapes x)) (slice_get store x)
object_at [] shapes store x k h e = absurd (cc e)
object_at (a ∷ ks) [] store x k h e = absurd h
object_at (a ∷ ks) (l ∷ shapes) [] x k h e = absurd h
object_at (a ∷ ks) (l ∷ shapes) (t ∷ store) zero k h e = let q : a ≡ k = cc e in let P : AbsValue → Type 0 = λ k. TreeIs k l t in subst P q h.0
object_at (a ∷ ks) (l ∷ shapes) (t ∷ store) (suc x) k h e = object_at ks shapes store x k h.1 e

pub none_contents : (x : ℕ) (k : AbsValue) → Contents None x k
none_contents x k = record { is = λ fr s h. absurd h }

pub some_contents : (known : Known) (x : ℕ) (k : AbsValue) → slice_get known.objects x ≡ Some k → Contents (Some known) x k
some_contents known x k e = record { is = λ fr s h. object_at known.objects (shapes_of fr) s.store x k h.objects_are e }

-- ---- the element at a reference

part_is : (P : Tree → Type 0) (row : Row) (i : ℕ) → i < parts row → EachPart P row → (t : Tree) × (part_of row i ≡ Some t) × P t
part_is P no_parts i lt h = absurd (omega (arith, lt))
part_is P (and_part t row) zero lt h = (t, refl, h.0)
part_is P (and_part t row) (suc i) lt h = part_is P row i (let q : suc i < suc (parts row) = lt in omega (arith, q)) h.1

pub path_is : (k : AbsValue) (lengths path rest : List ℕ) (t : Tree) → Along lengths path rest → TreeIs k lengths t → (u : Tree) × (at_path (Some t) path ≡ Some u) × TreeIs k rest u
path_is k lengths [] rest t a h = let P : List ℕ → Type 0 = λ l. TreeIs k l t in (t, refl, subst P a h)
path_is k [] (i ∷ path) rest t a h = absurd a
path_is k (n ∷ lengths) (i ∷ path) rest (Element v) a h = absurd h
path_is k (n ∷ lengths) (i ∷ path) rest (Array row) a h =
    let q = part_is (TreeIs k lengths) row i (let l : i < n = a.0 in let e : parts row ≡ n = h.0 in omega (arith, l, e)) h.1 in
    let deep = path_is k lengths path rest q.0 a.1 q.2 in
    let P : Option Tree → Type 0 = λ o. at_path o path ≡ Some deep.0 in
    (deep.0, subst P (sym q.1) deep.1, deep.2)

-- the tree at a reference has the lengths that are left there
pub tree_there : (fr : Frame) (x : ℕ) (k : AbsValue) (rest : List ℕ) (store : Store) (r : Reference) → ObjectIs k (shape_of fr x) (slice_get store x) → Refers fr x rest r →
    (u : Tree) × (tree_at store r ≡ Some u) × TreeIs k rest u
tree_there fr x k rest store r h q =
    let P : ℕ → Type 0 = λ y. ObjectIs k (shape_of fr x) (slice_get store y) in
    at (slice_get store r.object) refl (subst P (sym q.object) h)
  where
    at : (o : Option Tree) → slice_get store r.object ≡ o → ObjectIs k (shape_of fr x) o → (u : Tree) × (tree_at store r ≡ Some u) × TreeIs k rest u
    at None e h = absurd h
    at (Some t) e h =
        let deep = path_is k (shape_of fr x) r.path rest t q.path h in
        (deep.0, ap (λ o. at_path o r.path) e ∙ deep.1, deep.2)

-- ---- writes

-- a value that is written to an element takes its place
pub value_put : (fr : Frame) (x : ℕ) (k : AbsValue) (store : Store) (r : Reference) (v : ℤ) → ObjectIs k (shape_of fr x) (slice_get store x) → Refers fr x [] r → set_value store r v ≡ put store r (Element (Some v))
value_put fr x k store r v h q = let there = tree_there fr x k [] store r h q in element there.0 there.1 there.2
  where
    element : (u : Tree) → tree_at store r ≡ Some u → TreeIs k [] u → set_value store r v ≡ put store r (Element (Some v))
    element (Element w) e h = element_is_set store r w v e
    element (Array row) e h = absurd h

parts_change : (row : Row) (i : ℕ) (f : Tree → Tree) → parts (change_part row i f) ≡ parts row
parts_change no_parts i f = refl
parts_change (and_part t row) zero f = refl
parts_change (and_part t row) (suc i) f = ap suc (parts_change row i f)

each_change : (P : Tree → Type 0) (row : Row) (i : ℕ) (f : Tree → Tree) → ((t : Tree) → P t → P (f t)) → EachPart P row → EachPart P (change_part row i f)
each_change P no_parts i f g h = tt
each_change P (and_part t row) zero f g h = (g t h.0, h.1)
each_change P (and_part t row) (suc i) f g h = (h.0, each_change P row i f g h.1)

-- a tree that fits in the place of a part keeps the whole
pub put_is : (k : AbsValue) (lengths path rest : List ℕ) (new : Tree) → Along lengths path rest → TreeIs k rest new → (t : Tree) → TreeIs k lengths t → TreeIs k lengths (put_at path new t)
put_is k lengths [] rest new a n t h = let P : List ℕ → Type 0 = λ l. TreeIs k l new in subst P (sym a) n
put_is k [] (i ∷ path) rest new a n t h = absurd a
put_is k (m ∷ lengths) (i ∷ path) rest new a n (Element v) h = absurd h
put_is k (m ∷ lengths) (i ∷ path) rest new a n (Array row) h =
    (parts_change row i (put_at path new) ∙ h.0, each_change (TreeIs k lengths) row i (put_at path new) (λ t g. put_is k lengths path rest new a.1 n t g) h.1)

put_objects : (ks : List AbsValue) (shapes : List (List ℕ)) (store : Store) (x : ℕ) (path : List ℕ) (k : AbsValue) (new : Tree) →
    ((t : Tree) → slice_get store x ≡ Some t → ObjectIs k (or_scalar (slice_get shapes x)) (Some (put_at path new t))) →
    ObjectsAre ks shapes store → ObjectsAre (slice_set ks x k) shapes (put_in store x path new)
put_objects [] [] [] x path k new f h = tt
put_objects [] [] (t ∷ store) x path k new f h = absurd h
put_objects [] (l ∷ shapes) store x path k new f h = absurd h
put_objects (a ∷ ks) [] store x path k new f h = absurd h
put_objects (a ∷ ks) (l ∷ shapes) [] x path k new f h = absurd h
put_objects (a ∷ ks) (l ∷ shapes) (t ∷ store) zero path k new f h = (f t refl, h.1)
put_objects (a ∷ ks) (l ∷ shapes) (t ∷ store) (suc x) path k new f h = (h.0, put_objects ks shapes store x path k new f h.1)

pub none_replaces : (x : ℕ) (k : AbsValue) (o : Option Known) → Replaces None x k o
none_replaces x k o = record { is = λ fr s new h m. absurd h }

pub set_replaces : (a b : Known) (x : ℕ) (k : AbsValue) → b.objects ≡ slice_set a.objects x k → Forgets x a.facts b.facts → Replaces (Some a) x k (Some b)
set_replaces a b x k d f = record {
  is = λ fr s new h m.
      let P : List AbsValue → Type 0 = λ ys. ObjectsAre ys (shapes_of fr) (put_in s.store x [] new) in
      with_objects fr a b s.base s.arrays s.store (put_in s.store x [] new) s.input h (subst P (sym d) (put_objects a.objects (shapes_of fr) s.store x [] k new (λ t e. m) h.objects_are)) (f.is s.store [] new h.facts_are);
}

pub none_writes : (fr : Frame) (x : ℕ) (sub : Option Interval) (i : Interval) (o : Option Known) → Writes fr None x sub i o
none_writes fr x sub i o = record { is = λ s r v h f q m. absurd h }

-- an element of an array keeps its value, or has the new one
pub array_writes : (fr : Frame) (a b : Known) (x : ℕ) (old k : AbsValue) (sub : Option Interval) (i : Interval) → slice_get a.objects x ≡ Some old → Entails old k → Entails (record { initialised = true; interval = i }) k → b.objects ≡ slice_set a.objects x k →
    Changes x sub i a.facts b.facts → Writes fr (Some a) x sub i (Some b)
array_writes fr a b x old k sub i eo f g d ch = record {
  is = λ s r v h q u m.
      let there : ObjectIs old (shape_of fr x) (slice_get s.store x) = object_at a.objects (shapes_of fr) s.store x old h.objects_are eo in
      let P : Store → Type 0 = λ store. Reaches fr (Some b) (record s { store = store }) in
      subst P (sym (value_put fr x old s.store r v there q)) (at s r v h q u m (slice_get s.store x) refl there);
}
  where
    at : (s : State) (r : Reference) (v : ℤ) → Holds fr a s.base s.arrays s.store s.input → Refers fr x [] r → SubscriptIs sub r.path → In i v → (t : Option Tree) → t ≡ slice_get s.store x → ObjectIs old (shape_of fr x) t →
        Reaches fr (Some b) (record s { store = put s.store r (Element (Some v)) })
    at s r v h q u m None e c = absurd c
    at s r v h q u m (Some t) e c =
        let new : Tree = Element (Some v) in
        let deep = path_is old (shape_of fr x) r.path [] t q.path c in
        let O : Option Tree → Type 0 = λ o. at_path o r.path ≡ Some deep.0 in
        let P : ℕ → Type 0 = λ y. ObjectsAre b.objects (shapes_of fr) (put_in s.store y r.path new) in
        let F : ℕ → Type 0 = λ y. FactsAre b.facts (put_in s.store y r.path new) in
        let Q : List AbsValue → Type 0 = λ ys. ObjectsAre ys (shapes_of fr) (put_in s.store x r.path new) in
        let is : (t2 : Tree) → slice_get s.store x ≡ Some t2 → TreeIs k (shape_of fr x) (put_at r.path new t2) =
        λ t2 e2. (let same : t ≡ t2 = (let z : Some t ≡ Some t2 = e ∙ e2 in cc z) in let T : Tree → Type 0 = λ t. TreeIs k (shape_of fr x) (put_at r.path new t) in
        subst T same (put_is k (shape_of fr x) r.path [] new q.path (g.is (Some v) m) t (tree_entails old k (shape_of fr x) f t c))) in
        with_objects fr a b s.base s.arrays s.store (put_in s.store r.object r.path new) s.input h
        (subst P (sym q.object) (subst Q (sym d) (put_objects a.objects (shapes_of fr) s.store x r.path k new is h.objects_are)))
        (subst F (sym q.object) (ch.is s.store r.path v deep.0 (subst O e deep.1) u m h.facts_are))

-- one that surely has a value lets no other have none, and its values lie in the other's interval
pub entails_rule : (a b : AbsValue) → (a.initialised ≡ false → b.initialised ≡ false) → Below a.interval b.interval → Entails a b
entails_rule a b e l = record { is = λ v h. by v h }
  where
    by : (v : Option ℤ) → ValueIs a v → ValueIs b v
    by None h = e h
    by (Some v) h = below a.interval b.interval v l h
