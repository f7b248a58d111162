-- Facts on single elements: kept, joined, forgotten and changed.
use Rattle.std.proofs.Common.{◌≡◌, ℕ, zero, suc, ◌+◌, ◌<◌, ◌≤◌, ℤ, pos, List, [], ◌∷◌, ◌++◌, length, take, get_or, refl, ap, subst, sym, ◌∙◌, arith, add-one, Option, Some, None, true}
use Rattle.std.proofs.lemmas.Int.{ints}
use Rattle.std.proofs.lemmas.List.{take_all}
use Rattle.std.proofs.Math.Seq.{take-suc}
use Rattle.std.specs.Prelude.{◌<ℤ◌, slice_get}
use Rattle.csem.specs.Store.{Tree, Element, Array, Row, no_parts, and_part, part_of, part_in, at_path, change_part, change_in, put_at, value_of, Store, put_in}
use Rattle.verify_logic.specs.declared.abstract_values.Interval.{Interval}
use Rattle.verify_logic.specs.declared.abstract_values.AbsValue.{AbsValue}
use Rattle.verify_logic.specs.declared.abstract_values.Fact.{Fact}
use Rattle.verify_logic.specs.States.{Known, In, ValueIs, TreeIs, HasValueIn, FactIs, FactsAre, FactsImply, Among, Below, shape_of, Along, ObjectIs, SubscriptIs, Contents, Reads, ReadsAll, Forgets, ChangesOne, Changes}
use Rattle.verify_logic.specs.Calls.{HoldBelow}
use Rattle.verify_logic.proofs.Objects.{below, path_is}

-- ---- lists of facts

facts_more : (facts : List Fact) (f : Fact) (store : Store) → FactsAre facts store → FactIs f store → FactsAre (facts ++ f ∷ []) store
facts_more [] f store h g = (g, tt)
facts_more (a ∷ facts) f store h g = (h.0, facts_more facts f store h.1 g)

fact_at : (facts : List Fact) (n : ℕ) (f : Fact) (store : Store) → slice_get facts n ≡ Some f → FactsAre facts store → FactIs f store
fact_at [] n f store e h = absurd (cc e)
fact_at (a ∷ facts) zero f store e h = let q : a ≡ f = cc e in let P : Fact → Type 0 = λ f. FactIs f store in subst P q h.0
fact_at (a ∷ facts) (suc n) f store e h = fact_at facts n f store e h.1

wider_value : (i j : Interval) (v : Option ℤ) → Below i j → HasValueIn i v → HasValueIn j v
wider_value i j None b h = h
wider_value i j (Some v) b h = below i j v b h

pub among_at : (facts : List Fact) (n : ℕ) (f : Fact) → slice_get facts n ≡ Some f → Among facts f.object f.index f.interval
among_at facts n f e = record { is = λ store h. fact_at facts n f store e h }

pub fact_there : (facts : List Fact) (n : ℕ) (f d : Fact) → n < length facts → f ≡ get_or facts n d → slice_get facts n ≡ Some f
fact_there [] n f d lt e = absurd (omega (arith, lt))
fact_there (a ∷ facts) zero f d lt e = ap (λ a. Some a) (sym e)
fact_there (a ∷ facts) (suc n) f d lt e = fact_there facts n f d (let q : suc n < suc (length facts) = lt in omega (arith, q)) e

pub among_found : (facts : List Fact) (n : ℕ) (f : Fact) (x index : ℕ) → slice_get facts n ≡ Some f → f.object ≡ x → f.index ≡ index → Among facts x index f.interval
among_found facts n f x index e ex ei =
    let P : ℕ → Type 0 = λ x. Among facts x index f.interval in
    let Q : ℕ → Type 0 = λ index. Among facts f.object index f.interval in
    subst P ex (subst Q ei (among_at facts n f e))

-- ---- implications

pub none_implied : (facts : List Fact) → FactsImply facts []
none_implied facts = record { is = λ store h. tt }

pub same_implied : (facts : List Fact) → FactsImply facts facts
same_implied facts = record { is = λ store h. h }

pub implied_more : (facts out : List Fact) (x index : ℕ) (i k : Interval) → Among facts x index i → Below i k → FactsImply facts out → FactsImply facts (out ++ record { object = x; index = index; interval = k } ∷ [])
implied_more facts out x index i k a b h = record { is = λ store g. facts_more out _ store (h.is store g) (wider_value i k _ b (a.is store g)) }

pub implied_step : (facts all : List Fact) (n : ℕ) (f d : Fact) (i : Interval) → n < length all → f ≡ get_or all n d → Among facts f.object f.index i → Below i f.interval → FactsImply facts (take n all) → FactsImply facts (take (n + 1) all)
implied_step facts all n f d i lt e a b h =
    let P : List Fact → Type 0 = λ fs. FactsImply facts fs in
    let Q : Fact → Type 0 = λ g. FactsImply facts (take n all ++ g ∷ []) in
    let s : take (suc n) all ≡ take (n + 1) all = ap (λ m. take m all) (sym (add-one n)) in
    subst P (sym (take-suc all n d lt) ∙ s) (subst Q e (implied_more facts (take n all) f.object f.index i f.interval a b h))

pub implied_end : (facts all : List Fact) (n : ℕ) → length all ≤ n → FactsImply facts (take n all) → FactsImply facts all
implied_end facts all n le h = let P : List Fact → Type 0 = λ fs. FactsImply facts fs in subst P (take_all n all le) h

-- ---- stores

at_none : (i : Interval) (index : ℕ) → HasValueIn i (value_of (at_path None (index ∷ []))) → {A : Type 0} → A
at_none i index h = absurd h

slice_front : (store more : Store) (x : ℕ) (t : Tree) → slice_get store x ≡ Some t → slice_get (store ++ more) x ≡ Some t
slice_front [] more x t e = absurd (cc e)
slice_front (u ∷ store) more zero t e = e
slice_front (u ∷ store) more (suc x) t e = slice_front store more x t e

-- with more objects after them
fact_front : (f : Fact) (store more : Store) → FactIs f store → FactIs f (store ++ more)
fact_front f store more h = by (slice_get store f.object) refl h
  where
    by : (o : Option Tree) → slice_get store f.object ≡ o → HasValueIn f.interval (value_of (at_path o (f.index ∷ []))) → FactIs f (store ++ more)
    by None e h = at_none f.interval f.index h
    by (Some t) e h = let P : Option Tree → Type 0 = λ o. HasValueIn f.interval (value_of (at_path o (f.index ∷ []))) in subst P (sym (slice_front store more f.object t e)) h

pub facts_front : (facts : List Fact) (store more : Store) → FactsAre facts store → FactsAre facts (store ++ more)
facts_front [] store more h = tt
facts_front (f ∷ facts) store more h = (fact_front f store more h.0, facts_front facts store more h.1)

slice_take : (n : ℕ) (store : Store) (x : ℕ) → x < n → slice_get (take n store) x ≡ slice_get store x
slice_take zero store x lt = absurd (omega (arith, lt))
slice_take (suc n) [] x lt = refl
slice_take (suc n) (t ∷ store) zero lt = refl
slice_take (suc n) (t ∷ store) (suc x) lt = slice_take n store x (let q : suc x < suc n = lt in omega (arith, q))

-- of the first objects
pub none_below : (n : ℕ) (facts : List Fact) → HoldBelow n facts []
none_below n facts = record { is = λ store h. tt }

pub below_more : (n : ℕ) (facts out : List Fact) (m : ℕ) (f : Fact) → slice_get facts m ≡ Some f → f.object < n → HoldBelow n facts out → HoldBelow n facts (out ++ f ∷ [])
below_more n facts out m f e lt h = record {
  is = λ store g.
      let P : Option Tree → Type 0 = λ o. HasValueIn f.interval (value_of (at_path o (f.index ∷ []))) in
      facts_more out f (take n store) (h.is store g) (subst P (sym (slice_take n store f.object lt)) (fact_at facts m f store e g));
}

put_other : (store : Store) (x y : ℕ) (path : List ℕ) (new : Tree) → (y ≡ x → ⊥) → slice_get (put_in store x path new) y ≡ slice_get store y
put_other [] x y path new d = refl
put_other (t ∷ store) zero zero path new d = absurd (d refl)
put_other (t ∷ store) zero (suc y) path new d = refl
put_other (t ∷ store) (suc x) zero path new d = refl
put_other (t ∷ store) (suc x) (suc y) path new d = put_other store x y path new (λ e. d (ap suc e))

put_here : (store : Store) (x : ℕ) (path : List ℕ) (new t : Tree) → slice_get store x ≡ Some t → slice_get (put_in store x path new) x ≡ Some (put_at path new t)
put_here [] x path new t e = absurd (cc e)
put_here (u ∷ store) zero path new t e = let q : u ≡ t = cc e in ap (λ t. Some (put_at path new t)) q
put_here (u ∷ store) (suc x) path new t e = put_here store x path new t e

-- of another object than the one that changes
other_kept : (f : Fact) (store : Store) (x : ℕ) (path : List ℕ) (new : Tree) → (f.object ≡ x → ⊥) → FactIs f store → FactIs f (put_in store x path new)
other_kept f store x path new d h = let P : Option Tree → Type 0 = λ o. HasValueIn f.interval (value_of (at_path o (f.index ∷ []))) in subst P (sym (put_other store x f.object path new d)) h

part_apart : (row : Row) (i j : ℕ) (change : Tree → Tree) → (i ≡ j → ⊥) → part_of (change_part row j change) i ≡ part_of row i
part_apart no_parts i j change d = refl
part_apart (and_part t row) zero zero change d = absurd (d refl)
part_apart (and_part t row) zero (suc j) change d = refl
part_apart (and_part t row) (suc i) zero change d = refl
part_apart (and_part t row) (suc i) (suc j) change d = part_apart row i j change (λ e. d (ap suc e))

tree_apart : (t : Tree) (i j : ℕ) (change : Tree → Tree) → (i ≡ j → ⊥) → part_in (Some (change_in t j change)) i ≡ part_in (Some t) i
tree_apart (Element v) i j change d = refl
tree_apart (Array row) i j change d = part_apart row i j change d

part_here : (row : Row) (j : ℕ) (change : Tree → Tree) (u : Tree) → part_of row j ≡ Some u → part_of (change_part row j change) j ≡ Some (change u)
part_here no_parts j change u e = absurd (cc e)
part_here (and_part t row) zero change u e = let q : t ≡ u = cc e in ap (λ t. Some (change t)) q
part_here (and_part t row) (suc j) change u e = part_here row j change u e

tree_here : (t : Tree) (j : ℕ) (change : Tree → Tree) (u : Tree) → part_in (Some t) j ≡ Some u → part_in (Some (change_in t j change)) j ≡ Some (change u)
tree_here (Element v) j change u e = absurd (cc e)
tree_here (Array row) j change u e = part_here row j change u e

-- ---- an object is forgotten

pub none_forgets : (x : ℕ) (facts : List Fact) → Forgets x facts []
none_forgets x facts = record { is = λ store path new h. tt }

pub forgets_more : (x : ℕ) (facts out : List Fact) (n : ℕ) (f : Fact) → slice_get facts n ≡ Some f → (f.object ≡ x → ⊥) → Forgets x facts out → Forgets x facts (out ++ f ∷ [])
forgets_more x facts out n f e d h = record {
  is = λ store path new g. facts_more out f (put_in store x path new) (h.is store path new g) (other_kept f store x path new d (fact_at facts n f store e g));
}

-- ---- an element changes

pub none_changes : (x : ℕ) (sub : Option Interval) (i : Interval) (facts : List Fact) → Changes x sub i facts []
none_changes x sub i facts = record { is = λ store path v u e q m h. tt }

pub forgotten_changes : (x : ℕ) (sub : Option Interval) (i : Interval) (facts facts2 : List Fact) → Forgets x facts facts2 → Changes x sub i facts facts2
forgotten_changes x sub i facts facts2 h = record { is = λ store path v u e q m g. h.is store path (Element (Some v)) g }

pub changes_more : (x : ℕ) (j i : Interval) (facts out : List Fact) (n : ℕ) (f g : Fact) → slice_get facts n ≡ Some f → ChangesOne x j i f g → Changes x (Some j) i facts out → Changes x (Some j) i facts (out ++ g ∷ [])
changes_more x j i facts out n f g e c h = record {
  is = λ store path v u a q m k. facts_more out g (put_in store x path (Element (Some v))) (h.is store path v u a q m k) (c.is store path v u a q m (fact_at facts n f store e k));
}

pub other_changes : (x : ℕ) (j i : Interval) (f : Fact) → (f.object ≡ x → ⊥) → ChangesOne x j i f f
other_changes x j i f d = record { is = λ store path v u a q m h. other_kept f store x path (Element (Some v)) d h }

-- an element of object x with another subscript
apart_kept : (f : Fact) (store : Store) (j : ℕ) (new : Tree) → (f.index ≡ j → ⊥) → FactIs f store → FactIs f (put_in store f.object (j ∷ []) new)
apart_kept f store j new d h = by (slice_get store f.object) refl h
  where
    P : Option Tree → Type 0
    P o = HasValueIn f.interval (value_of (at_path o (f.index ∷ [])))

    by : (o : Option Tree) → slice_get store f.object ≡ o → P o → P (slice_get (put_in store f.object (j ∷ []) new) f.object)
    by None e h = at_none f.interval f.index h
    by (Some t) e h =
        let Q : Option Tree → Type 0 = λ o. HasValueIn f.interval (value_of o) in
        subst P (sym (put_here store f.object (j ∷ []) new t e)) (subst Q (sym (tree_apart t f.index j (put_at [] new) d)) h)

-- the element that has the new value
new_is_there : (x j : ℕ) (i : Interval) (store : Store) (v : ℤ) (u : Tree) → at_path (slice_get store x) (j ∷ []) ≡ Some u → In i v → FactIs (record { object = x; index = j; interval = i }) (put_in store x (j ∷ []) (Element (Some v)))
new_is_there x j i store v u a m = by (slice_get store x) refl a
  where
    P : Option Tree → Type 0
    P o = HasValueIn i (value_of (at_path o (j ∷ [])))

    by : (o : Option Tree) → slice_get store x ≡ o → at_path o (j ∷ []) ≡ Some u → P (slice_get (put_in store x (j ∷ []) (Element (Some v))) x)
    by None e a = absurd (cc a)
    by (Some t) e a =
        let Q : Option Tree → Type 0 = λ o. HasValueIn i (value_of o) in
        subst P (sym (put_here store x (j ∷ []) (Element (Some v)) t e)) (subst Q (sym (tree_here t j (put_at [] (Element (Some v))) u a)) m)

-- by the one subscript
by_subscript : (j : Interval) (path : List ℕ) (P : List ℕ → Type 0) → SubscriptIs (Some j) path → ((n : ℕ) → In j (pos n) → P (n ∷ [])) → P path
by_subscript j [] P q h = absurd q
by_subscript j (n ∷ []) P q h = h n q
by_subscript j (n ∷ m ∷ path) P q h = absurd q

pub apart_changes : (x : ℕ) (j i : Interval) (f : Fact) → f.object ≡ x → (In j (pos f.index) → ⊥) → ChangesOne x j i f f
apart_changes x j i f ex d = record {
  is = λ store path v u a q m h.
      let P : List ℕ → Type 0 = λ path. FactIs f (put_in store x path (Element (Some v))) in
      by_subscript j path P q (λ k mk.
      let R : ℕ → Type 0 = λ y. FactIs f (put_in store y (k ∷ []) (Element (Some v))) in
      let I : ℕ → Type 0 = λ k. In j (pos k) in
      subst R ex (apart_kept f store k (Element (Some v)) (λ ek. d (subst I (sym ek) mk)) h));
}

equal_or_not : (i j : ℕ) → {P : Type 0} → (i ≡ j → P) → ((i ≡ j → ⊥) → P) → P
equal_or_not zero zero f g = f refl
equal_or_not zero (suc j) f g = g (λ e. cc e)
equal_or_not (suc i) zero f g = g (λ e. cc e)
equal_or_not (suc i) (suc j) f g = equal_or_not i j (λ e. f (ap suc e)) (λ d. g (λ e. d (let q : suc i ≡ suc j = e in cc q)))

-- an element that may be the one
pub either_changes : (x : ℕ) (j i k : Interval) (f : Fact) → f.object ≡ x → Below f.interval k → Below i k → ChangesOne x j i f (record { object = f.object; index = f.index; interval = k })
either_changes x j i k f ex bf bi = record {
  is = λ store path v u a q m h.
      let A : ℕ → Type 0 = λ y. at_path (slice_get store y) path ≡ Some u in
      let R : ℕ → Type 0 = λ y. FactIs (record { object = f.object; index = f.index; interval = k }) (put_in store y path (Element (Some v))) in
      subst R ex (at store path v u (subst A (sym ex) a) q m (wider_value f.interval k _ bf h));
}
  where
    at : (store : Store) (path : List ℕ) (v : ℤ) (u : Tree) → at_path (slice_get store f.object) path ≡ Some u → SubscriptIs (Some j) path → In i v → FactIs (record { object = f.object; index = f.index; interval = k }) store →
        FactIs (record { object = f.object; index = f.index; interval = k }) (put_in store f.object path (Element (Some v)))
    at store [] v u a q m h = absurd q
    at store (n ∷ []) v u a q m h =
        let P : ℕ → Type 0 = λ y. FactIs (record { object = f.object; index = y; interval = k }) (put_in store f.object (n ∷ []) (Element (Some v))) in
        equal_or_not f.index n (λ e. subst P (sym e) (new_is_there f.object n k store v u a (below i k v bi m))) (λ d. apart_kept (record { object = f.object; index = f.index; interval = k }) store n (Element (Some v)) d h)
    at store (n ∷ o ∷ path) v u a q m h = absurd q

-- the only one that it may be
only_there : (x index : ℕ) (j i : Interval) → j.low ≡ pos index → j.high ≡ pos index → (store : Store) (path : List ℕ) (v : ℤ) (u : Tree) → at_path (slice_get store x) path ≡ Some u → SubscriptIs (Some j) path → In i v →
    FactIs (record { object = x; index = index; interval = i }) (put_in store x path (Element (Some v)))
only_there x index j i el eh store [] v u a q m = absurd q
only_there x index j i el eh store (n ∷ []) v u a q m =
    let P : ℕ → Type 0 = λ y. FactIs (record { object = x; index = y; interval = i }) (put_in store x (n ∷ []) (Element (Some v))) in
    let e : n ≡ index = omega (arith, ints, el, eh, q.0, q.1) in
    subst P e (new_is_there x n i store v u a m)
only_there x index j i el eh store (n ∷ o ∷ path) v u a q m = absurd q

pub only_changes : (x index : ℕ) (j i : Interval) (f : Fact) → j.low ≡ pos index → j.high ≡ pos index → ChangesOne x j i f (record { object = x; index = index; interval = i })
only_changes x index j i f el eh = record { is = λ store path v u a q m h. only_there x index j i el eh store path v u a q m }

pub new_changes : (x index : ℕ) (j i : Interval) (facts out : List Fact) → j.low ≡ pos index → j.high ≡ pos index → Changes x (Some j) i facts out → Changes x (Some j) i facts (out ++ record { object = x; index = index; interval = i } ∷ [])
new_changes x index j i facts out el eh h = record {
  is = λ store path v u a q m g. facts_more out _ (put_in store x path (Element (Some v))) (h.is store path v u a q m g) (only_there x index j i el eh store path v u a q m);
}

pub same_changes : (x : ℕ) (sub : Option Interval) (i : Interval) (facts out out2 : List Fact) → out2 ≡ out → Changes x sub i facts out → Changes x sub i facts out2
same_changes x sub i facts out out2 e h = let P : List Fact → Type 0 = λ out. Changes x sub i facts out in subst P (sym e) h

-- ---- reads

-- each element from number low to n is in the interval
pub record FoundTo (facts : List Fact) (x low n : ℕ) (k : Interval) : Type 0 where
  pub is : (store : Store) (j : ℕ) → FactsAre facts store → low ≤ j → j < n → HasValueIn k (value_of (at_path (slice_get store x) (j ∷ [])))

pub found_none : (facts : List Fact) (x n : ℕ) (k : Interval) → FoundTo facts x n n k
found_none facts x n k = record { is = λ store j h le lt. absurd (omega (arith, le, lt)) }

pub found_more : (facts : List Fact) (x low n : ℕ) (k i k2 : Interval) → Among facts x n i → Below k k2 → Below i k2 → FoundTo facts x low n k → FoundTo facts x low (n + 1) k2
found_more facts x low n k i k2 a bk bi h = record {
  is = λ store j g le lt. let P : ℕ → Type 0 = λ j. HasValueIn k2 (value_of (at_path (slice_get store x) (j ∷ []))) in
      equal_or_not j n (λ e. subst P (sym e) (wider_value i k2 _ bi (a.is store g))) (λ d. wider_value k k2 _ bk (h.is store j g le (less j n lt d)));
}
  where
    less : (j n : ℕ) → j < n + 1 → (j ≡ n → ⊥) → j < n
    less j n lt d = by_lt j n d lt
      where
        by_lt : (j n : ℕ) → (j ≡ n → ⊥) → j < n + 1 → j < n
        by_lt zero zero d lt = absurd (d refl)
        by_lt zero (suc n) d lt = omega arith
        by_lt (suc j) zero d lt = absurd (let q : suc j < 1 = lt in omega (arith, q))
        by_lt (suc j) (suc n) d lt = let r : j < n = by_lt j n (λ e. d (ap suc e)) (let q : suc j < suc n + 1 = lt in omega (arith, q)) in let z : suc j < suc n = omega (arith, r) in z

has_value : (k : Interval) (v : Option ℤ) → HasValueIn k v → ValueIs (record { initialised = true; interval = k }) v
has_value k None h = absurd h
has_value k (Some v) h = h

pub found_all : (facts : List Fact) (x low n : ℕ) (j k : Interval) → j.low ≡ pos low → j.high <ℤ pos n → FoundTo facts x low n k → ReadsAll facts x j k
found_all facts x low n j k el eh h = record { is = λ store i g b. h.is store i g (omega (arith, ints, el, b.0)) (omega (arith, ints, eh, b.1)) }

pub facts_read : (known : Known) (x : ℕ) (j k : Interval) → ReadsAll known.facts x j k → Reads (Some known) x (Some j) (record { initialised = true; interval = k })
facts_read known x j k h = record {
  is = λ fr s r c f q.
      let P : ℕ → Type 0 = λ y. ValueIs (record { initialised = true; interval = k }) (value_of (at_path (slice_get s.store y) r.path)) in
      let Q : List ℕ → Type 0 = λ path. ValueIs (record { initialised = true; interval = k }) (value_of (at_path (slice_get s.store x) path)) in
      subst P (sym f.object) (by_subscript j r.path Q q (λ m b. has_value k _ (h.is s.store m c.facts_are b)));
}

element_of : (k : AbsValue) (o : Option Tree) (path : List ℕ) (lengths : List ℕ) → ObjectIs k lengths o → Along lengths path [] → ValueIs k (value_of (at_path o path))
element_of k None path lengths h a = absurd h
element_of k (Some t) path lengths h a =
    let deep = path_is k lengths path [] t a h in
    let P : Option Tree → Type 0 = λ u. ValueIs k (value_of u) in
    subst P (sym deep.1) (leaf deep.0 deep.2)
  where
    leaf : (u : Tree) → TreeIs k [] u → ValueIs k (value_of (Some u))
    leaf (Element v) h = h
    leaf (Array row) h = absurd h

pub contents_read : (o : Option Known) (x : ℕ) (sub : Option Interval) (k : AbsValue) → Contents o x k → Reads o x sub k
contents_read o x sub k h = record {
  is = λ fr s r c f q.
      let P : ℕ → Type 0 = λ y. ValueIs k (value_of (at_path (slice_get s.store y) r.path)) in
      subst P (sym f.object) (element_of k (slice_get s.store x) r.path (shape_of fr x) (h.is fr s c) f.path);
}
