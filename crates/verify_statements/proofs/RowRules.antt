-- First values of arrays of one row, from the results for each element.
use Rattle.std.proofs.Common.{◌≡◌, ◌≤◌, ◌<◌, ◌+◌, ◌-◌, ◌++◌, ℕ, zero, suc, ℤ, pos, List, [], ◌∷◌, map, length, refl, sym, ap, subst, ◌∙◌, arith, add-one, inl, inr}
use Rattle.std.proofs.lemmas.Int.{ints}
use Rattle.std.specs.Prelude.{◌-ℤ◌, Option, Some, None, true, slice_get, slice_set, ◌*◌}
use Rattle.std.specs.declared.vec.Vec.{Vec}
use Rattle.std.specs.declared.alloc.Global.{Global}
use Rattle.ctypes.specs.declared.types.IntType.{IntType}
use Rattle.ctypes.specs.Types.{converted}
use Rattle.typing_spec.specs.Types.{ObjectType, elements_in}
use Rattle.typing_spec.specs.Program as typed
use Rattle.typing_spec.specs.Program.{Value, Initialiser, Initialisers}
use Rattle.typed_ast.specs.declared.initialisers.Initialiser as held
use Rattle.typed_ast.specs.View.{initialiser_of, initialisers_of}
use Rattle.csem.specs.Store.{Tree, Element, Array, Row, no_parts, and_part, parts, part_of, value_of, at_path, tree_at, put, with_value, with_zeros, set_value, set_zeros, Store, Reference, into}
use Rattle.csem.specs.Machine.{State, Goes, then_do, tick, ticks, stored}
use Rattle.csem.specs.Statements.{zeros, characters, text_or_none, initialise, initialise_all}
use Rattle.csem.specs.Meaning.{calling}
use Rattle.csem.specs.Laws.{IsNot, Parts}
use Rattle.csem.proofs.Writes.{other_part_stays}
use Rattle.verify_logic.specs.declared.abstract_values.Interval.{Interval}
use Rattle.verify_logic.specs.declared.abstract_values.AbsValue.{AbsValue}
use Rattle.verify_logic.specs.declared.abstract_values.Fact.{Fact}
use Rattle.verify_logic.specs.States.{Known, Frame, In, just, HasValueIn, EachPart, TreeIs, ObjectIs, ObjectsAre, or_scalar, shape_of, shapes_of, Reaches, Ends, Along, SubscriptIs, FactsAre, ReadsAll, Writes}
use Rattle.verify_logic.specs.Judgements.{Evaluates, Converts}
use Rattle.verify_logic.specs.Statements.{Ways, Executes, RenewsOne, Initialises, only_normal}
use Rattle.verify_logic.proofs.Runs.{then_ends, tick_ends, weaker}
use Rattle.verify_logic.proofs.Calls.{ticks_end}
use Rattle.verify_logic.proofs.Rules.{value_then, into_refers}
use Rattle.verify_logic.proofs.Objects.{with_objects, some_contents, tree_there}
use Rattle.verify_logic.proofs.Begun.{define_rule, shape_at}
use Rattle.verify_statements.specs.Rows.{IsRow, ElementBegins, RowClears, RowBegins, RowSpells, RowFills, RowBecomes}

-- ---- one element

row_path : (lengths path : List ℕ) (n : ℕ) → lengths ≡ n ∷ [] → Along lengths path (n ∷ []) → path ≡ []
row_path lengths [] n e a = refl
row_path [] (i ∷ path) n e a = absurd a
row_path (m ∷ []) (i ∷ []) n e a = absurd (let q : [] ≡ n ∷ [] = a.1 in cc q)
row_path (m ∷ []) (i ∷ j ∷ path) n e a = absurd a.1
row_path (m ∷ l ∷ lengths) (i ∷ path) n e a = absurd (cc e)

in_alone : (sub : Interval) (i : ℕ) → sub ≡ just (pos i) → In sub (pos i)
in_alone sub i e = let P : Interval → Type 0 = λ sub. In sub (pos i) in subst P (sym e) (omega (arith, ints), omega (arith, ints))

element_put : (fr : Frame) (x n i : ℕ) (o : Option Known) (sub k : Interval) (o2 : Option Known) (r : Reference) (v : ℤ) (s : State) → i < n → sub ≡ just (pos i) → Writes fr o x (Some sub) k o2 → In k v → IsRow fr x n r → Reaches fr o s → Reaches fr o2 (stored (into r i) v s)
element_put fr x n i o sub k o2 r v s lt es w m row c =
    let P : List ℕ → Type 0 = λ path. SubscriptIs (Some sub) (path ++ i ∷ []) in
    w.is s (into r i) v c (into_refers fr x n i [] r lt row.refers) (subst P (sym (row_path (shape_of fr x) r.path n row.shape row.refers.path)) (in_alone sub i es)) m

pub element_begins : (fr : Frame) (u : IntType) (e : Value) (x n i : ℕ) (o : Option Known) (j : Interval) (o1 : Option Known) (sub k : Interval) (o2 : Option Known) → sub ≡ just (pos i) → Evaluates fr e o j o1 → Converts u j k → Writes fr o1 x (Some sub) k o2 →
    ElementBegins fr (typed.one_value u e) x n i o o2
element_begins fr u e x n i o j o1 sub k o2 es h cv w = record {
  runs = λ t d r s lt row c.
      value_then fr d e o j o1 s (λ v s. tick s (λ s. Goes (tt {0}) (stored (into r i) (converted u v) s))) (λ z s2. Reaches fr o2 s2) h c (λ v s2 m c2.
      tick_ends fr.listed s2 (λ s. Goes (tt {0}) (stored (into r i) (converted u v) s)) (λ z s2. Reaches fr o2 s2) (λ q. element_put fr x n i o1 sub k o2 r (converted u v) (record s2 { clock = q }) lt es w (cv.gives v m) row c2));
}

-- ---- the rest, which is zero

-- there is no row at a reference
abbrev NoRow : Option Tree → Type 0
NoRow None = Unit {0}
NoRow (Some (Element w)) = Unit {0}
NoRow (Some (Array row)) = ⊥

zero_there : (store : Store) (r : Reference) → NoRow (tree_at store r) → set_value store r (pos 0) ≡ set_zeros store r
zero_there store r h = ap (put store r) (same (tree_at store r) h)
  where
    same : (o : Option Tree) → NoRow o → with_value (pos 0) o ≡ with_zeros o
    same None h = refl
    same (Some (Element w)) h = refl
    same (Some (Array row)) h = absurd h

-- an object of known lengths
object_there : (ks : List AbsValue) (shapes : List (List ℕ)) (store : Store) (x n : ℕ) → or_scalar (slice_get shapes x) ≡ n ∷ [] → ObjectsAre ks shapes store → (k : AbsValue) × ObjectIs k (or_scalar (slice_get shapes x)) (slice_get store x)
object_there [] [] store x n e h = absurd (cc e)
object_there [] (l ∷ shapes) store x n e h = absurd h
object_there (k ∷ ks) [] store x n e h = absurd h
object_there (k ∷ ks) (l ∷ shapes) [] x n e h = absurd h
object_there (k ∷ ks) (l ∷ shapes) (t ∷ store) zero n e h = (k, h.0)
object_there (k ∷ ks) (l ∷ shapes) (t ∷ store) (suc x) n e h = object_there ks shapes store x n e h.1

element_there : (fr : Frame) (x n i : ℕ) (o : Option Known) (r : Reference) (s : State) → i < n → IsRow fr x n r → Reaches fr o s → NoRow (tree_at s.store (into r i))
element_there fr x n i None r s lt row c = absurd c
element_there fr x n i (Some known) r s lt row c =
    let k = object_there known.objects (shapes_of fr) s.store x n row.shape c.objects_are in
    let there = tree_there fr x k.0 [] s.store (into r i) k.1 (into_refers fr x n i [] r lt row.refers) in
    let P : Option Tree → Type 0 = λ o. NoRow o in
    subst P (sym there.1) (element k.0 there.0 there.2)
  where
    element : (k : AbsValue) (u : Tree) → TreeIs k [] u → NoRow (Some u)
    element k (Element w) h = tt
    element k (Array row) h = absurd h

pub clears_end : (fr : Frame) (x n i : ℕ) (o : Option Known) → n ≤ i → RowClears fr x n i o o
clears_end fr x n i o le = record { is = λ m r s e row c. at r m s e c }
  where
    at : (r : Reference) (m : ℕ) (s : State) → i + m ≡ n → Reaches fr o s → Reaches fr o (zeros m i r s)
    at r zero s e c = c
    at r (suc m) s e c = absurd (omega (arith, e, le))

pub clears_more : (fr : Frame) (x n i : ℕ) (o : Option Known) (sub k : Interval) (o1 o2 : Option Known) → i < n → sub ≡ just (pos i) → k ≡ just (pos 0) → Writes fr o x (Some sub) k o1 → RowClears fr x n (i + 1) o1 o2 → RowClears fr x n i o o2
clears_more fr x n i o sub k o1 o2 lt es ek w h = record { is = λ m r s e row c. at r m s e row c }
  where
    at : (r : Reference) (m : ℕ) (s : State) → i + m ≡ n → IsRow fr x n r → Reaches fr o s → Reaches fr o2 (zeros m i r s)
    at r zero s e row c = absurd (omega (arith, e, lt))
    at r (suc m) s e row c =
        let P : ℕ → Type 0 = λ j. Reaches fr o2 (zeros m j r (stored (into r i) (pos 0) s)) in
        let S : Store → Type 0 = λ store. Reaches fr o2 (zeros m (suc i) r (record s { store = store })) in
        let q : (i + 1) + m ≡ n = omega (arith, e) in
        let zero_in : In k (pos 0) = (let Q : Interval → Type 0 = λ k. In k (pos 0) in subst Q (sym ek) (omega (arith, ints), omega (arith, ints))) in
        subst S (zero_there s.store (into r i) (element_there fr x n i o r s lt row c))
        (subst P (add-one i) (h.is m r (stored (into r i) (pos 0) s) q row (element_put fr x n i o sub k o1 r (pos 0) s lt es w zero_in row c)))

-- ---- lists (6.7.9p17)

pub none_begin : (fr : Frame) (x n i : ℕ) (o o2 : Option Known) → RowClears fr x n i o o2 → RowBegins fr typed.no_initialisers x n i o o2
none_begin fr x n i o o2 h = record {
  runs = λ t d m r s e row c. then_ends fr.listed (ticks (m * elements_in []) s) _ (λ u s2. Reaches fr o s2) (λ u s2. Reaches fr o2 s2) (ticks_end fr (m * elements_in []) s o c) (λ u s2 c2. h.is m r s2 e row c2);
}

pub one_begins : (fr : Frame) (a : Initialiser) (more : Initialisers) (x n i : ℕ) (o o1 o2 : Option Known) → i < n → ElementBegins fr a x n i o o1 → RowBegins fr more x n (i + 1) o1 o2 → RowBegins fr (typed.and_initialiser a more) x n i o o2
one_begins fr a more x n i o o1 o2 lt ha h = record {
  runs = λ t d m r s e row c.
      then_ends fr.listed (initialise fr.program (calling fr.program d) a t [] (into r i) s) (λ u s. initialise_all fr.program (calling fr.program d) more t (m - 1) (suc i) [] r s) (λ u s2. Reaches fr o1 s2) (λ u s2. Reaches fr o2 s2)
      (ha.runs t d r s lt row c) (λ u s2 c2.
      let P : ℕ → Type 0 = λ j. Ends fr.listed (initialise_all fr.program (calling fr.program d) more t (m - 1) j [] r s2) (λ u s3. Reaches fr o2 s3) in
      subst P (add-one i) (h.runs t d (m - 1) r s2 (less m e) row c2));
}
  where
    less : (m : ℕ) → i + m ≡ n → (i + 1) + (m - 1) ≡ n
    less zero e = absurd (omega (arith, e, lt))
    less (suc m) e = let p : suc m - 1 ≡ m = omega arith in let q : i + suc m ≡ n = e in omega (arith, p, q)

pub list_row : (fr : Frame) (all : Initialisers) (t : IntType) (x n : ℕ) (o o2 : Option Known) → RowBegins fr all x n 0 o o2 → RowFills fr (typed.list all) t x n o o2
list_row fr all t x n o o2 h = record {
  runs = λ d r s row c. tick_ends fr.listed s _ (λ u s2. Reaches fr o2 s2) (λ m. h.runs t d n r (record s { clock = m }) (omega arith) row c);
}

pub next_begins : (fr : Frame) (xs : List held.Initialiser) (a : held.Initialiser) (more : List held.Initialiser) (x n i : ℕ) (o o1 o2 : Option Known) → xs ≡ a ∷ more → i < n → ElementBegins fr (initialiser_of a) x n i o o1 →
    RowBegins fr (initialisers_of (map initialiser_of more)) x n (i + 1) o1 o2 → RowBegins fr (initialisers_of (map initialiser_of xs)) x n i o o2
next_begins fr xs a more x n i o o1 o2 e lt ha h = let P : List held.Initialiser → Type 0 = λ xs. RowBegins fr (initialisers_of (map initialiser_of xs)) x n i o o2 in
    subst P (sym e) (one_begins fr (initialiser_of a) (initialisers_of (map initialiser_of more)) x n i o o1 o2 lt ha h)

pub last_begins : (fr : Frame) (xs : List held.Initialiser) (x n i : ℕ) (o o2 : Option Known) → length xs ≡ 0 → RowClears fr x n i o o2 → RowBegins fr (initialisers_of (map initialiser_of xs)) x n i o o2
last_begins fr [] x n i o o2 e h = none_begin fr x n i o o2 h
last_begins fr (a ∷ xs) x n i o o2 e h = absurd (cc e)

-- ---- strings (6.7.9p14)

pub spells_end : (fr : Frame) (t : IntType) (text : List ℕ) (x n i : ℕ) (o : Option Known) → n ≤ i → RowSpells fr t text x n i o o
spells_end fr t text x n i o le = record { is = λ m r s e row c. at r m s e c }
  where
    at : (r : Reference) (m : ℕ) (s : State) → i + m ≡ n → Reaches fr o s → Reaches fr o (characters t m i text r s)
    at r zero s e c = c
    at r (suc m) s e c = absurd (omega (arith, e, le))

-- an element that is written leaves those after it as they are
later_path : (path : List ℕ) (i j : ℕ) → IsNot i j → Parts (path ++ i ∷ []) (path ++ j ∷ [])
later_path [] i j h = inl h
later_path (k ∷ path) i j h = inr (refl, later_path path i j h)

later_stays : (store : Store) (r : Reference) (i j : ℕ) (v : ℤ) → i < j → tree_at (set_value store (into r i) v) (into r j) ≡ tree_at store (into r j)
later_stays store r i j v lt = other_part_stays store (into r i) (into r j) (with_value v (tree_at store (into r i))) (later_path r.path i j (λ e. absurd (omega (arith, lt, e))))

-- past the text the elements become zero
past_text : (t : IntType) (m i : ℕ) (r : Reference) (s : State) → ((j : ℕ) → i ≤ j → j < i + m → NoRow (tree_at s.store (into r j))) → characters t m i [] r s ≡ zeros m i r s
past_text t zero i r s h = refl
past_text t (suc m) i r s h =
    let s2 : State = stored (into r i) (pos 0) s in
    past_text t m (suc i) r s2 later ∙ ap (λ store. zeros m (suc i) r (record s { store = store })) (zero_there s.store (into r i) (h i (omega arith) (omega arith)))
  where
    later : (j : ℕ) → suc i ≤ j → j < suc i + m → NoRow (tree_at (stored (into r i) (pos 0) s).store (into r j))
    later j le lt = let P : Option Tree → Type 0 = λ o. NoRow o in subst P (sym (later_stays s.store r i j (pos 0) (omega (arith, le)))) (h j (omega (arith, le)) (omega (arith, lt)))

pub spells_rest : (fr : Frame) (t : IntType) (text : List ℕ) (x n i : ℕ) (o o2 : Option Known) → length text ≡ 0 → RowClears fr x n i o o2 → RowSpells fr t text x n i o o2
spells_rest fr t [] x n i o o2 z h = record { is = λ m r s e row c. let P : State → Type 0 = λ s. Reaches fr o2 s in subst P (sym (past_text t m i r s (λ j le lt. element_there fr x n j o r s (omega (arith, e, lt)) row c))) (h.is m r s e row c) }
spells_rest fr t (a ∷ text) x n i o o2 z h = absurd (cc z)

pub spells_more : (fr : Frame) (t : IntType) (text more : List ℕ) (a x n i : ℕ) (o : Option Known) (sub j k : Interval) (o1 o2 : Option Known) → text ≡ a ∷ more → i < n → sub ≡ just (pos i) → j ≡ just (pos a) → Converts t j k → Writes fr o x (Some sub) k o1 →
    RowSpells fr t more x n (i + 1) o1 o2 → RowSpells fr t text x n i o o2
spells_more fr t text more a x n i o sub j k o1 o2 et lt es ej cv w h = let T : List ℕ → Type 0 = λ text. RowSpells fr t text x n i o o2 in subst T (sym et) (record { is = λ m r s e row c. at r m s e row c })
  where
    at : (r : Reference) (m : ℕ) (s : State) → i + m ≡ n → IsRow fr x n r → Reaches fr o s → Reaches fr o2 (characters t m i (a ∷ more) r s)
    at r zero s e row c = absurd (omega (arith, e, lt))
    at r (suc m) s e row c =
        let P : ℕ → Type 0 = λ i2. Reaches fr o2 (characters t m i2 more r (stored (into r i) (converted t (pos a)) s)) in
        let q : (i + 1) + m ≡ n = omega (arith, e) in
        let a_in : In j (pos a) = in_alone j a ej in
        subst P (add-one i) (h.is m r (stored (into r i) (converted t (pos a)) s) q row (element_put fr x n i o sub k o1 r (converted t (pos a)) s lt es w (cv.gives (pos a) a_in) row c))

pub text_row : (fr : Frame) (a : ℕ) (text : List ℕ) (t : IntType) (x n : ℕ) (o o2 : Option Known) → slice_get fr.program.literals a ≡ Some text → RowSpells fr t text x n 0 o o2 → RowFills fr (typed.text a) t x n o o2
text_row fr a text t x n o o2 e h = record {
  runs = λ d r s row c.
      let P : Option (List ℕ) → Type 0 = λ l. Ends fr.listed (tick s (λ s. then_do (ticks n s) (λ u s. Goes (tt {0}) (characters t n 0 (text_or_none l) r s)))) (λ u s2. Reaches fr o2 s2) in
      subst P (sym e) (tick_ends fr.listed s _ (λ u s2. Reaches fr o2 s2) (λ m.
      then_ends fr.listed (ticks n (record s { clock = m })) _ (λ u s2. Reaches fr o s2) (λ u s2. Reaches fr o2 s2) (ticks_end fr n (record s { clock = m }) o c) (λ u s2 c2. h.is n r s2 (omega arith) row c2)));
}

pub text_there : (texts : List (Vec ℕ Global)) (n : ℕ) (text : Vec ℕ Global) → slice_get texts n ≡ Some text → slice_get (map (λ t. t.items) texts) n ≡ Some text.items
text_there [] n text e = absurd (cc e)
text_there (u ∷ texts) zero text e = let q : u ≡ text = cc e in ap (λ t. Some t.items) q
text_there (u ∷ texts) (suc n) text e = text_there texts n text e

-- ---- all elements have values

pub same_becomes : (fr : Frame) (x n : ℕ) (o : Option Known) → RowBecomes fr x n o o
same_becomes fr x n o = record { is = λ s e c. c }

set_object : (ks : List AbsValue) (shapes : List (List ℕ)) (store : Store) (x : ℕ) (k : AbsValue) → ObjectIs k (or_scalar (slice_get shapes x)) (slice_get store x) → ObjectsAre ks shapes store → ObjectsAre (slice_set ks x k) shapes store
set_object [] shapes store x k t h = h
set_object (a ∷ ks) [] store x k t h = absurd h
set_object (a ∷ ks) (l ∷ shapes) [] x k t h = absurd h
set_object (a ∷ ks) (l ∷ shapes) (u ∷ store) zero k t h = (t, h.1)
set_object (a ∷ ks) (l ∷ shapes) (u ∷ store) (suc x) k t h = (h.0, set_object ks shapes store x k t h.1)

each_full : (k : Interval) (row : Row) → ((i : ℕ) → i < parts row → HasValueIn k (value_of (part_of row i))) → EachPart (TreeIs (record { initialised = true; interval = k }) []) row
each_full k no_parts f = tt
each_full k (and_part (Element (Some v)) row) f = (f 0 (let q : 0 < suc (parts row) = omega arith in q), each_full k row (λ i lt. f (suc i) (let q : suc i < suc (parts row) = omega (arith, lt) in q)))
each_full k (and_part (Element None) row) f = absurd (f 0 (let q : 0 < suc (parts row) = omega arith in q))
each_full k (and_part (Array r) row) f = absurd (f 0 (let q : 0 < suc (parts row) = omega arith in q))

pub row_becomes : (fr : Frame) (a b : Known) (x n : ℕ) (old new : AbsValue) (j k : Interval) → slice_get a.objects x ≡ Some old → j.low ≡ pos 0 → j.high ≡ pos n -ℤ pos 1 → ReadsAll a.facts x j k → new ≡ record { initialised = true; interval = k } →
    b.objects ≡ slice_set a.objects x new → b.facts ≡ a.facts → RowBecomes fr x n (Some a) (Some b)
row_becomes fr a b x n old new j k eo el eh h en eb ef = record {
  is = λ s e c.
      let full : AbsValue = record { initialised = true; interval = k } in
      let N : AbsValue → Type 0 = λ new. ObjectIs new (shape_of fr x) (slice_get s.store x) in
      let O : List AbsValue → Type 0 = λ xs. ObjectsAre xs (shapes_of fr) s.store in
      let F : List Fact → Type 0 = λ facts. FactsAre facts s.store in
      let whole : ObjectIs full (shape_of fr x) (slice_get s.store x) = by (shape_of fr x) (slice_get s.store x) refl e ((some_contents a x old eo).is fr s c) (λ i lt. h.is s.store i c.facts_are (omega (arith, ints, el), omega (arith, ints, eh, lt))) in
      with_objects fr a b s.base s.arrays s.store s.store s.input c (subst O (sym eb) (set_object a.objects (shapes_of fr) s.store x new (subst N (sym en) whole) c.objects_are)) (subst F (sym ef) c.facts_are);
}
  where
    by : (lengths : List ℕ) (o : Option Tree) → {o2 : Option Tree} → o2 ≡ o → lengths ≡ n ∷ [] → ObjectIs old lengths o → ((i : ℕ) → i < n → HasValueIn k (value_of (at_path o2 (i ∷ [])))) → ObjectIs (record { initialised = true; interval = k }) lengths o
    by lengths None q e h g = absurd h
    by [] (Some t) q e h g = absurd (cc e)
    by (m ∷ l ∷ lengths) (Some t) q e h g = absurd (cc e)
    by (m ∷ []) (Some (Element v)) q e h g = absurd h
    by (m ∷ []) (Some (Array row)) q e h g =
        let P : Option Tree → ℕ → Type 0 = λ o i. HasValueIn k (value_of (at_path o (i ∷ []))) in
        let em : m ≡ n = cc e in
        let long : parts row ≡ m = h.0 in
        (long, each_full k row (λ i lt. let Q : Option Tree → Type 0 = λ o. P o i in subst Q q (g i (omega (arith, em, long, lt)))))

pub becomes_at : (fr : Frame) (a : Known) (xs ys : List AbsValue) (facts : List Fact) (x n : ℕ) (old new : AbsValue) (j k : Interval) → xs ≡ a.objects → slice_get xs x ≡ Some old → j.low ≡ pos 0 → j.high ≡ pos n -ℤ pos 1 → facts ≡ a.facts → ReadsAll facts x j k →
    new ≡ record { initialised = true; interval = k } → ys ≡ slice_set a.objects x new → RowBecomes fr x n (Some a) (Some (record { objects = ys; facts = a.facts }))
becomes_at fr a xs ys facts x n old new j k ex eo el eh ef h en ey =
    let P : List AbsValue → Type 0 = λ xs. slice_get xs x ≡ Some old in
    let Q : List Fact → Type 0 = λ facts. ReadsAll facts x j k in
    row_becomes fr a (record { objects = ys; facts = a.facts }) x n old new j k (subst P ex eo) el eh (subst Q ef h) en ey refl

pub shape_is : (fr : Frame) (n x base length2 : ℕ) (t : ObjectType) → base ≡ length fr.outer → x ≡ base + n → slice_get fr.objects n ≡ Some t → t.lengths ≡ length2 ∷ [] → shape_of fr x ≡ length2 ∷ []
shape_is fr n x base length2 t eb ex et el = let q : x ≡ length fr.outer + n = omega (arith, eb, ex) in shape_at fr n x t q et ∙ el

pub defined_row : (fr : Frame) (n x base length2 : ℕ) (t : ObjectType) (i : Initialiser) (u : IntType) (o o2 o3 o4 : Option Known) (kept : AbsValue) (w : Ways) → w ≡ only_normal kept o4 → base ≡ length fr.outer → x ≡ base + n →
    slice_get fr.objects n ≡ Some t → t.lengths ≡ length2 ∷ [] → u ≡ t.element → RenewsOne fr n o o2 → RowFills fr i u x length2 o2 o3 → RowBecomes fr x length2 o3 o4 → Executes fr (typed.define n i) o w
defined_row fr n x base length2 t i u o o2 o3 o4 kept w ew eb ex et el eu one h b =
    let P : Ways → Type 0 = λ w. Executes fr (typed.define n i) o w in
    let q : x ≡ length fr.outer + n = omega (arith, eb, ex) in
    let sh : shape_of fr x ≡ length2 ∷ [] = shape_is fr n x base length2 t eb ex et el in
    let U : IntType → Type 0 = λ u. RowFills fr i u x length2 o2 o3 in
    let L : List ℕ → Type 0 = λ l. Initialises fr i t.element x l o2 o4 in
    let filled : RowFills fr i t.element x length2 o2 o3 = subst U eu h in
    let row : Initialises fr i t.element x (length2 ∷ []) o2 o4 = record {
      runs = λ d r s f c. weaker fr.listed (initialise fr.program (calling fr.program d) i t.element (length2 ∷ []) r s) (λ u2 s2. Reaches fr o3 s2) (λ u2 s2. Reaches fr o4 s2) (filled.runs d r s (record { shape = sh; refers = f }) c) (λ u2 s2 c2. b.is s2 sh c2);
    } in
    subst P (sym ew) (define_rule fr n x t i o o2 o4 kept q et one (subst L (sym el) row))
