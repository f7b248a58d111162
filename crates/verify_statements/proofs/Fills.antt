-- First values of objects of a block, from the results for each part.
use Rattle.std.proofs.Common.{◌≡◌, ◌≤◌, ◌<◌, ◌+◌, ◌-◌, ◌++◌, ℕ, zero, suc, ℤ, pos, List, [], ◌∷◌, map, length, refl, sym, ap, subst, ◌∙◌, arith, add-one}
use Rattle.std.specs.Prelude.{Option, Some, None, Bool, true, slice_get, ◌*◌}
use Rattle.ctypes.specs.declared.types.IntType.{IntType}
use Rattle.ctypes.specs.Types.{converted}
use Rattle.ctypes.proofs.Uses.{converted_fits}
use Rattle.typing_spec.specs.Types.{ObjectType, elements_in}
use Rattle.typing_spec.specs.Program as typed
use Rattle.typing_spec.specs.Program.{Value, Initialiser, Initialisers}
use Rattle.csem.specs.Store.{Tree, Element, Array, Row, no_parts, and_part, parts, part_of, at_path, change_part, change_in, put_at, put_in, put, set_value, zeroed, zeroed_row, set_zeros, Store, Reference, whole, into}
use Rattle.csem.specs.Machine.{State, Ended, Undefined, TicksUsed, Run, Goes, Stops, then_do, ticks, stored}
use Rattle.csem.specs.Expressions.{evaluate}
use Rattle.csem.specs.Statements.{zeros, characters, text_or_none, initialise, initialise_all}
use Rattle.csem.specs.Meaning.{calling}
use Rattle.csem.proofs.InPlace.{zeros_are_set}
use Rattle.verify_logic.specs.declared.abstract_values.Interval.{Interval}
use Rattle.verify_logic.specs.declared.abstract_values.AbsValue.{AbsValue}
use Rattle.verify_logic.specs.States.{Known, Frame, In, just, Below, range_of, EachPart, TreeIs, shape_of, Holds, Reaches, Ends, Entails, Implies, Along, Refers, ObjectIs, Contents, Replaces}
use Rattle.verify_logic.specs.Judgements.{Evaluates, Converts}
use Rattle.verify_logic.specs.Statements.{Initialises}
use Rattle.verify_logic.proofs.Runs.{then_ends, tick_ends, weaker}
use Rattle.verify_logic.proofs.Rules.{into_refers}
use Rattle.verify_logic.proofs.Objects.{below, path_is, tree_there, value_put, put_is, tree_entails, entails_rule}
use Rattle.verify_statements.specs.Quiet.{quiet}
use Rattle.std.proofs.lemmas.Int.{ints}
use Rattle.typed_ast.specs.declared.initialisers.Initialiser as held
use Rattle.typed_ast.specs.declared.types.ObjectType as held_type
use Rattle.typed_ast.specs.View.{initialiser_of, initialisers_of, object_type_of}
use Rattle.csem.specs.Statements.{renewed}
use Rattle.verify_logic.specs.Statements.{Ways, Executes, RenewsOne, only_normal}
use Rattle.verify_logic.proofs.Begun.{define_rule, shape_at}
use Rattle.verify_statements.specs.Fills.{Takes, full, Filled, Fills, FirstParts, FilledRow, FillsAll, FillsEnd, FillsFrom}
use Rattle.verify_statements.proofs.Work.{work_initialiser, work_initialisers}
use Rattle.verify_statements.proofs.Quiet.{Stays, Same, evaluate_stays}

-- ---- stores with a tree inserted

change_twice : (row : Row) (i : ℕ) (f g h : Tree → Tree) → ((t : Tree) → g (f t) ≡ h t) → change_part (change_part row i f) i g ≡ change_part row i h
change_twice no_parts i f g h e = refl
change_twice (and_part t row) zero f g h e = ap (λ u. and_part u row) (e t)
change_twice (and_part t row) (suc i) f g h e = ap (λ more. and_part t more) (change_twice row i f g h e)

change_in_twice : (t : Tree) (i : ℕ) (f g h : Tree → Tree) → ((t : Tree) → g (f t) ≡ h t) → change_in (change_in t i f) i g ≡ change_in t i h
change_in_twice (Element v) i f g h e = refl
change_in_twice (Array row) i f g h e = ap (λ row. Array row) (change_twice row i f g h e)

-- a part of what was inserted
put_into : (path : List ℕ) (i : ℕ) (u new t : Tree) → put_at (path ++ i ∷ []) new (put_at path u t) ≡ put_at path (change_in u i (put_at [] new)) t
put_into [] i u new t = refl
put_into (k ∷ path) i u new t = change_in_twice t k (put_at path u) (put_at (path ++ i ∷ []) new) (put_at path (change_in u i (put_at [] new))) (λ t. put_into path i u new t)

put_again : (path : List ℕ) (u new t : Tree) → put_at path new (put_at path u t) ≡ put_at path new t
put_again [] u new t = refl
put_again (k ∷ path) u new t = change_in_twice t k (put_at path u) (put_at path new) (put_at path new) (λ t. put_again path u new t)

in_store : (store : Store) (x : ℕ) (path path2 : List ℕ) (u new v : Tree) → ((t : Tree) → put_at path2 new (put_at path u t) ≡ put_at path v t) → put_in (put_in store x path u) x path2 new ≡ put_in store x path v
in_store [] x path path2 u new v e = refl
in_store (t ∷ store) zero path path2 u new v e = ap (λ t. t ∷ store) (e t)
in_store (t ∷ store) (suc x) path path2 u new v e = ap (λ rest. t ∷ rest) (in_store store x path path2 u new v e)

-- what is there is inserted there
change_same : (row : Row) (i : ℕ) (t : Tree) (f : Tree → Tree) → part_of row i ≡ Some t → f t ≡ t → change_part row i f ≡ row
change_same no_parts i t f e d = refl
change_same (and_part u row) zero t f e d = let q : u ≡ t = cc e in let P : Tree → Type 0 = λ v. f v ≡ v in ap (λ v. and_part v row) (subst P (sym q) d)
change_same (and_part u row) (suc i) t f e d = ap (λ more. and_part u more) (change_same row i t f e d)

none_at : (path : List ℕ) (u : Tree) → at_path None path ≡ Some u → ⊥
none_at [] u e = absurd (cc e)
none_at (i ∷ path) u e = none_at path u e

put_same : (path : List ℕ) (t u : Tree) → at_path (Some t) path ≡ Some u → put_at path u t ≡ t
put_same [] t u e = let q : t ≡ u = cc e in sym q
put_same (i ∷ path) (Element v) u e = refl
put_same (i ∷ path) (Array row) u e = part (part_of row i) refl (λ t d. put_same path t u d)
  where
    part : (o : Option Tree) → o ≡ part_of row i → ((t : Tree) → at_path (Some t) path ≡ Some u → put_at path u t ≡ t) → Array (change_part row i (put_at path u)) ≡ Array row
    part None q k = let P : Option Tree → Type 0 = λ o. at_path o path ≡ Some u in absurd (none_at path u (subst P (sym q) e))
    part (Some t) q k = let P : Option Tree → Type 0 = λ o. at_path o path ≡ Some u in ap (λ row. Array row) (change_same row i t (put_at path u) (sym q) (k t (subst P (sym q) e)))

put_whole : (store : Store) (x : ℕ) (path : List ℕ) (new t : Tree) → slice_get store x ≡ Some t → put_in store x [] (put_at path new t) ≡ put_in store x path new
put_whole [] x path new t e = refl
put_whole (u ∷ store) zero path new t e = let q : u ≡ t = cc e in ap (λ v. put_at path new v ∷ store) (sym q)
put_whole (u ∷ store) (suc x) path new t e = ap (λ rest. u ∷ rest) (put_whole store x path new t e)

store_same : (store : Store) (x : ℕ) (t : Tree) → slice_get store x ≡ Some t → put_in store x [] t ≡ store
store_same [] x t e = refl
store_same (u ∷ store) zero t e = let q : u ≡ t = cc e in ap (λ v. v ∷ store) (sym q)
store_same (u ∷ store) (suc x) t e = ap (λ rest. u ∷ rest) (store_same store x t e)

-- ---- rows

first_changed : (P : Tree → Type 0) (row : Row) (i : ℕ) (new : Tree) → i < parts row → FirstParts P i row → P new → FirstParts P (suc i) (change_part row i (put_at [] new))
first_changed P no_parts i new lt h n = absurd (omega (arith, lt))
first_changed P (and_part t row) zero new lt h n = (n, tt)
first_changed P (and_part t row) (suc i) new lt h n = (h.0, first_changed P row i new (let q : suc i < suc (parts row) = lt in omega (arith, q)) h.1 n)

first_more : (P Q : Tree → Type 0) → ((t : Tree) → P t → Q t) → (row : Row) (i : ℕ) → FirstParts P i row → FirstParts Q i row
first_more P Q f row zero h = tt
first_more P Q f no_parts (suc i) h = absurd h
first_more P Q f (and_part t row) (suc i) h = (f t h.0, first_more P Q f row i h.1)

all_first : (P : Tree → Type 0) (row : Row) (i : ℕ) → parts row ≡ i → FirstParts P i row → EachPart P row
all_first P no_parts i e h = tt
all_first P (and_part t row) zero e h = absurd (cc e)
all_first P (and_part t row) (suc i) e h = (h.0, all_first P row i (let q : suc (parts row) ≡ suc i = e in omega (arith, q)) h.1)

parts_changed : (row : Row) (i : ℕ) (f : Tree → Tree) → parts (change_part row i f) ≡ parts row
parts_changed no_parts i f = refl
parts_changed (and_part t row) zero f = refl
parts_changed (and_part t row) (suc i) f = ap suc (parts_changed row i f)

parts_zeroed : (row : Row) → parts (zeroed_row row) ≡ parts row
parts_zeroed no_parts = refl
parts_zeroed (and_part t row) = ap suc (parts_zeroed row)

each_zeroed : (P Q : Tree → Type 0) → ((t : Tree) → P t → Q (zeroed t)) → (row : Row) → EachPart P row → EachPart Q (zeroed_row row)
each_zeroed P Q f no_parts h = tt
each_zeroed P Q f (and_part t row) h = (f t h.0, each_zeroed P Q f row h.1)

-- a tree whose elements become zero keeps its lengths
zeroed_is : (k : AbsValue) (j : Interval) → In j (pos 0) → (lengths : List ℕ) (t : Tree) → TreeIs k lengths t → TreeIs (full j) lengths (zeroed t)
zeroed_is k j m [] (Element v) h = m
zeroed_is k j m [] (Array row) h = absurd h
zeroed_is k j m (n ∷ lengths) (Element v) h = absurd h
zeroed_is k j m (n ∷ lengths) (Array row) h = (parts_zeroed row ∙ h.0, each_zeroed (TreeIs k lengths) (TreeIs (full j) lengths) (zeroed_is k j m lengths) row h.1)

wider : (i j : Interval) → Below i j → (lengths : List ℕ) (t : Tree) → TreeIs (full i) lengths t → TreeIs (full j) lengths t
wider i j b lengths t h = tree_entails (full i) (full j) lengths (entails_rule (full i) (full j) (λ e. absurd (cc e)) b) t h

-- ---- a part of an object of which nothing is known

pub part_put : (fr : Frame) (o : Option Known) (x : ℕ) (k : AbsValue) (j : Interval) (rest : List ℕ) (r : Reference) (new : Tree) (s : State) → Takes o x k → Entails (full j) k → Refers fr x rest r → Reaches fr o s → TreeIs (full j) rest new →
    Reaches fr o (record s { store = put s.store r new })
part_put fr o x k j rest r new s h f g c n = at (slice_get s.store x) refl (h.contents.is fr s c)
  where
    at : (t : Option Tree) → t ≡ slice_get s.store x → ObjectIs k (shape_of fr x) t → Reaches fr o (record s { store = put s.store r new })
    at None e b = absurd b
    at (Some t) e b =
        let P : Store → Type 0 = λ store. Reaches fr o (record s { store = store }) in
        let Q : ℕ → Type 0 = λ y. Reaches fr o (record s { store = put_in s.store y r.path new }) in
        let is : TreeIs k (shape_of fr x) (put_at r.path new t) = put_is k (shape_of fr x) r.path rest new g.path (tree_entails (full j) k rest f new n) t b in
        subst Q (sym g.object) (subst P (put_whole s.store x r.path new t (sym e)) (h.replaces.is fr s (put_at r.path new t) c is))

-- a value that is written to an element takes its place
value_takes : (fr : Frame) (o : Option Known) (x : ℕ) (k : AbsValue) (r : Reference) (v : ℤ) (s : State) → Takes o x k → Refers fr x [] r → Reaches fr o s → set_value s.store r v ≡ put s.store r (Element (Some v))
value_takes fr o x k r v s h g c = value_put fr x k s.store r v (h.contents.is fr s c) g

value_stored : (fr : Frame) (o : Option Known) (x : ℕ) (k : AbsValue) (j : Interval) (r : Reference) (v : ℤ) (s : State) → Takes o x k → Entails (full j) k → Refers fr x [] r → Reaches fr o s → In j v → Reaches fr o (stored r v s)
value_stored fr o x k j r v s h f g c m =
    let P : Store → Type 0 = λ store. Reaches fr o (record s { store = store }) in
    subst P (sym (value_takes fr o x k r v s h g c)) (part_put fr o x k j [] r (Element (Some v)) s h f g c m)

-- the row at a reference
row_at : (fr : Frame) (o : Option Known) (x : ℕ) (k : AbsValue) (n : ℕ) (inner : List ℕ) (r : Reference) (s : State) → Takes o x k → Refers fr x (n ∷ inner) r → Reaches fr o s → (row : Row) × (parts row ≡ n) × (s.store ≡ put s.store r (Array row))
row_at fr o x k n inner r s h g c = at (slice_get s.store x) refl (h.contents.is fr s c)
  where
    by : (t u : Tree) → slice_get s.store x ≡ Some t → at_path (Some t) r.path ≡ Some u → TreeIs k (n ∷ inner) u → (row : Row) × (parts row ≡ n) × (s.store ≡ put s.store r (Array row))
    by t (Element v) e d m = absurd m
    by t (Array row) e d m =
        let P : ℕ → Type 0 = λ y. s.store ≡ put_in s.store y r.path (Array row) in
        let same : put_in s.store x r.path (Array row) ≡ s.store = sym (put_whole s.store x r.path (Array row) t e) ∙ ap (λ v. put_in s.store x [] v) (put_same r.path t (Array row) d) ∙ store_same s.store x t e in
        (row, m.0, subst P (sym g.object) (sym same))

    at : (t : Option Tree) → t ≡ slice_get s.store x → ObjectIs k (shape_of fr x) t → (row : Row) × (parts row ≡ n) × (s.store ≡ put s.store r (Array row))
    at None e b = absurd b
    at (Some t) e b = let deep = path_is k (shape_of fr x) r.path (n ∷ inner) t g.path b in by t deep.0 (sym e) deep.1 deep.2

-- one more part of the row
row_more : (before store : Store) (r : Reference) (row : Row) (i : ℕ) (new : Tree) → store ≡ put before r (Array row) → put store (into r i) new ≡ put before r (Array (change_part row i (put_at [] new)))
row_more before store r row i new e = ap (λ store. put store (into r i) new) e ∙ in_store before r.object r.path (r.path ++ i ∷ []) (Array row) new (Array (change_part row i (put_at [] new))) (λ t. put_into r.path i (Array row) new t)

-- ---- one value (6.7.9p11)

goes_on : (fr : Frame) (o : Option Known) (s s2 : State) → Same s s2 → Reaches fr o s → Reaches fr o s2
goes_on fr None s s2 h c = absurd c
goes_on fr (Some known) s s2 h c =
    let P : List Reference → Type 0 = λ arrays. Holds fr known s2.base arrays s2.store s2.input in
    let Q : Store → Type 0 = λ store. Holds fr known s2.base s.arrays store s2.input in
    let R : ℕ → Type 0 = λ base. Holds fr known base s.arrays s.store s2.input in
    let I : List ℕ → Type 0 = λ input. Holds fr known s.base s.arrays s.store input in
    subst P (sym h.arrays) (subst Q (sym h.store) (subst R (sym h.base) (subst I (sym h.input) c)))

both_ends : {A : Type 0} (fr : Frame) (s : State) (r : Run A) (P : A → State → Type 0) → Ends fr.listed r P → Stays s r → Ends fr.listed r (λ a s2. P a s2 × Same s s2)
both_ends fr s (Goes a s2) P h k = (h, k)
both_ends fr s (Stops (Ended n) s2) P h k = tt
both_ends fr s (Stops (Undefined act at) s2) P h k = h
both_ends fr s (Stops TicksUsed s2) P h k = tt

pub value_fills : (fr : Frame) (u : IntType) (e : Value) (t : IntType) (x : ℕ) (rest : List ℕ) (o : Option Known) (k : AbsValue) (i : Interval) (o2 : Option Known) (j : Interval) → rest ≡ [] → Takes o x k → Entails (full j) k → quiet e ≡ true →
    Evaluates fr e o i o2 → Converts u i j → Fills fr (typed.one_value u e) t x rest o j
value_fills fr u e t x rest o k i o2 j er h f q ev cv = record {
  runs = λ d r s g c.
      then_ends fr.listed (evaluate fr.program (calling fr.program d) e s) _ (λ v s2. (In i v × Reaches fr o2 s2) × Same s s2) (λ w s2. Reaches fr o s2 × Filled j rest s.store s2.store r)
      (both_ends fr s (evaluate fr.program (calling fr.program d) e s) (λ v s2. In i v × Reaches fr o2 s2) (ev.runs d s c) (evaluate_stays fr.program (calling fr.program d) e s q)) (λ v s2 m.
      tick_ends fr.listed s2 (λ s. Goes (tt {0}) (stored r (converted u v) s)) (λ w s3. Reaches fr o s3 × Filled j rest s.store s3.store r) (λ n. done r s (record s2 { clock = n }) v m.0.0 g (goes_on fr o s s2 m.1 c) m.1.store));
}
  where
    done : (r : Reference) (s s2 : State) (v : ℤ) → In i v → Refers fr x rest r → Reaches fr o s2 → s2.store ≡ s.store → Reaches fr o (stored r (converted u v) s2) × Filled j rest s.store (stored r (converted u v) s2).store r
    done r s s2 v m g c es =
        let L : List ℕ → Type 0 = λ l. TreeIs (full j) l (Element (Some (converted u v))) in
        let R : List ℕ → Type 0 = λ l. Refers fr x l r in
        let to : Refers fr x [] r = subst R er g in (
          value_stored fr o x k j r (converted u v) s2 h f to c (cv.gives v m),
          record {
            tree = Element (Some (converted u v));
            is = subst L (sym er) (cv.gives v m);
            put_there = value_takes fr o x k r (converted u v) s2 h to c ∙ ap (λ store. put store r (Element (Some (converted u v)))) es;
          },
        )

pub braces_fill : (fr : Frame) (i : Initialiser) (t : IntType) (x : ℕ) (rest : List ℕ) (o : Option Known) (j : Interval) → Fills fr i t x rest o j → Fills fr (typed.in_braces i) t x rest o j
braces_fill fr i t x rest o j h = record {
  runs = λ d r s g c. tick_ends fr.listed s (λ s. initialise fr.program (calling fr.program d) i t rest r s) (λ u s2. Reaches fr o s2 × Filled j rest s.store s2.store r) (λ n. h.runs d r (record s { clock = n }) g c);
}

-- ---- lists (6.7.9p17, p21)

module _ (fr : Frame) (x : ℕ) (o : Option Known) (k : AbsValue) (h : Takes o x k) where
  ticks_stay : (q : ℕ) (s : State) → Reaches fr o s → Ends fr.listed (ticks q s) (λ u s2. (Reaches fr o s2) × (s2.store ≡ s.store))
  ticks_stay zero s c = (c, refl)
  ticks_stay (suc q) s c = tick_ends fr.listed s (λ s. ticks q s) (λ u s2. (Reaches fr o s2) × (s2.store ≡ s.store)) (λ n. ticks_stay q (record s { clock = n }) c)

  zeros_fill : (n m i : ℕ) (inner : List ℕ) (j : Interval) (r : Reference) (before : Store) (row : Row) (s : State) → Entails (full j) k → In j (pos 0) → i + m ≡ n → Refers fr x (n ∷ inner) r → Reaches fr o s → s.store ≡ put before r (Array row) →
      parts row ≡ n → FirstParts (TreeIs (full j) inner) i row → Reaches fr o (zeros m i r s) × FilledRow j n inner before (zeros m i r s).store r
  zeros_fill n zero i inner j r before row s f z e g c es ep hp =
      let q : i ≡ n = omega (arith, e) in
      let F : ℕ → Type 0 = λ i. FirstParts (TreeIs (full j) inner) i row in
      (c, record { row = row; long = ep; each = all_first (TreeIs (full j) inner) row n ep (subst F q hp); put_there = es })
  zeros_fill n (suc m) i inner j r before row s f z e g c es ep hp =
      let lt : i < n = omega (arith, e) in
      let to : Refers fr x inner (into r i) = into_refers fr x n i inner r lt g in
      let there = tree_there fr x k inner s.store (into r i) (h.contents.is fr s c) to in
      let new : Tree = zeroed there.0 in
      let is : TreeIs (full j) inner new = zeroed_is k j z inner there.0 there.2 in
      let set : set_zeros s.store (into r i) ≡ put s.store (into r i) new = zeros_are_set s.store (into r i) there.0 there.1 in
      let P : Store → Type 0 = λ store. Reaches fr o (record s { store = store }) in
      let row2 : Row = change_part row i (put_at [] new) in
      let s2 : State = record s { store = set_zeros s.store (into r i) } in
      zeros_fill n m (suc i) inner j r before row2 s2 f z (let q : i + suc m ≡ n = e in omega (arith, q)) g (subst P (sym set) (part_put fr o x k j inner (into r i) new s h f to c is))
      (set ∙ row_more before s.store r row i new es) (parts_changed row i (put_at [] new) ∙ ep) (first_changed (TreeIs (full j) inner) row i new (omega (arith, lt, ep)) hp is)

  pub none_fill : (t : IntType) (n i : ℕ) (inner : List ℕ) (j j2 : Interval) → Entails (full j2) k → Below j j2 → In j2 (pos 0) → FillsAll fr typed.no_initialisers t x n i inner o j j2
  none_fill t n i inner j j2 f b z = record {
    runs = λ d m r before row s e g c es ep hp.
        then_ends fr.listed (ticks (m * elements_in inner) s) _ (λ u s2. (Reaches fr o s2) × (s2.store ≡ s.store)) (λ u s2. Reaches fr o s2 × FilledRow j2 n inner before s2.store r)
        (ticks_stay (m * elements_in inner) s c) (λ u s2 c2.
        zeros_fill n m i inner j2 r before row s2 f z e g c2.0 (c2.1 ∙ es) ep (first_more (TreeIs (full j) inner) (TreeIs (full j2) inner) (wider j j2 b inner) row i hp));
  }

  -- if there is one for each
  pub all_filled : (t : IntType) (n : ℕ) (inner : List ℕ) (j : Interval) → FillsAll fr typed.no_initialisers t x n n inner o j j
  all_filled t n inner j = record {
    runs = λ d m r before row s e g c es ep hp.
        then_ends fr.listed (ticks (m * elements_in inner) s) _ (λ u s2. (Reaches fr o s2) × (s2.store ≡ s.store)) (λ u s2. Reaches fr o s2 × FilledRow j n inner before s2.store r)
        (ticks_stay (m * elements_in inner) s c) (λ u s2 c2.
        let q : 0 ≡ m = omega (arith, e) in
        let Z : ℕ → Type 0 = λ m. Reaches fr o (zeros m n r s2) × FilledRow j n inner before (zeros m n r s2).store r in
        subst Z q (c2.0, record { row = row; long = ep; each = all_first (TreeIs (full j) inner) row n ep hp; put_there = c2.1 ∙ es }));
  }

  pub one_fills : (a : Initialiser) (more : Initialisers) (t : IntType) (n i : ℕ) (inner : List ℕ) (j j1 j2 j3 : Interval) → i < n → Fills fr a t x inner o j1 → Below j j2 → Below j1 j2 → FillsAll fr more t x n (suc i) inner o j2 j3 →
      FillsAll fr (typed.and_initialiser a more) t x n i inner o j j3
  one_fills a more t n i inner j j1 j2 j3 lt ha b b1 hm = record {
    runs = λ d m r before row s e g c es ep hp.
        then_ends fr.listed (initialise fr.program (calling fr.program d) a t inner (into r i) s) _ (λ u s2. Reaches fr o s2 × Filled j1 inner s.store s2.store (into r i)) (λ u s2. Reaches fr o s2 × FilledRow j3 n inner before s2.store r)
        (ha.runs d (into r i) s (into_refers fr x n i inner r lt g) c) (λ u s2 q.
        let new : Tree = q.1.tree in
        hm.runs d (m - 1) r before (change_part row i (put_at [] new)) s2 (less m e) g q.0 (q.1.put_there ∙ row_more before s.store r row i new es) (parts_changed row i (put_at [] new) ∙ ep)
        (first_changed (TreeIs (full j2) inner) row i new (omega (arith, lt, ep)) (first_more (TreeIs (full j) inner) (TreeIs (full j2) inner) (wider j j2 b inner) row i hp) (wider j1 j2 b1 inner new q.1.is)));
  }
    where
      less : (m : ℕ) → i + m ≡ n → suc i + (m - 1) ≡ n
      less zero e = absurd (omega (arith, e, lt))
      less (suc m) e = let p : suc m - 1 ≡ m = omega arith in let q : i + suc m ≡ n = e in omega (arith, p, q)

  pub list_fills : (all : Initialisers) (t : IntType) (n : ℕ) (inner rest : List ℕ) (j0 j : Interval) → rest ≡ n ∷ inner → FillsAll fr all t x n 0 inner o j0 j → Fills fr (typed.list all) t x rest o j
  list_fills all t n inner rest j0 j er ha = let R : List ℕ → Type 0 = λ rest. Fills fr (typed.list all) t x rest o j in subst R (sym er) (record {
    runs = λ d r s g c.
        tick_ends fr.listed s (λ s. initialise_all fr.program (calling fr.program d) all t n 0 inner r s) (λ u s2. Reaches fr o s2 × Filled j (n ∷ inner) s.store s2.store r) (λ m. by d r (record s { clock = m }) g c);
  })
    where
      by : (d : ℕ) (r : Reference) (s : State) → Refers fr x (n ∷ inner) r → Reaches fr o s → Ends fr.listed (initialise_all fr.program (calling fr.program d) all t n 0 inner r s) (λ u s2. Reaches fr o s2 × Filled j (n ∷ inner) s.store s2.store r)
      by d r s g c =
          let at = row_at fr o x k n inner r s h g c in
          weaker fr.listed (initialise_all fr.program (calling fr.program d) all t n 0 inner r s) (λ u s2. Reaches fr o s2 × FilledRow j n inner s.store s2.store r) (λ u s2. Reaches fr o s2 × Filled j (n ∷ inner) s.store s2.store r)
          (ha.runs d n r s.store at.0 s (omega arith) g c at.2 at.1 tt) (λ u s2 q. (q.0, record { tree = Array q.1.row; is = (q.1.long, q.1.each); put_there = q.1.put_there }))

  -- ---- strings (6.7.9p14)

  characters_fill : (t : IntType) (n m i : ℕ) (text : List ℕ) (j : Interval) (r : Reference) (before : Store) (row : Row) (s : State) → Entails (full j) k → In j (pos 0) → ((v : ℤ) → In j (converted t v)) → i + m ≡ n → Refers fr x (n ∷ []) r → Reaches fr o s →
      s.store ≡ put before r (Array row) → parts row ≡ n → FirstParts (TreeIs (full j) []) i row → Reaches fr o (characters t m i text r s) × FilledRow j n [] before (characters t m i text r s).store r
  characters_fill t n zero i text j r before row s f z v e g c es ep hp =
      let q : i ≡ n = omega (arith, e) in
      let F : ℕ → Type 0 = λ i. FirstParts (TreeIs (full j) []) i row in
      (c, record { row = row; long = ep; each = all_first (TreeIs (full j) []) row n ep (subst F q hp); put_there = es })
  characters_fill t n (suc m) i [] j r before row s f z v e g c es ep hp =
      let lt : i < n = omega (arith, e) in
      let to : Refers fr x [] (into r i) = into_refers fr x n i [] r lt g in
      let new : Tree = Element (Some (pos 0)) in
      characters_fill t n m (suc i) [] j r before (change_part row i (put_at [] new)) (stored (into r i) (pos 0) s) f z v (let q : i + suc m ≡ n = e in omega (arith, q)) g
      (value_stored fr o x k j (into r i) (pos 0) s h f to c z) (value_takes fr o x k (into r i) (pos 0) s h to c ∙ row_more before s.store r row i new es) (parts_changed row i (put_at [] new) ∙ ep)
      (first_changed (TreeIs (full j) []) row i new (omega (arith, lt, ep)) hp z)
  characters_fill t n (suc m) i (a ∷ text) j r before row s f z v e g c es ep hp =
      let lt : i < n = omega (arith, e) in
      let to : Refers fr x [] (into r i) = into_refers fr x n i [] r lt g in
      let new : Tree = Element (Some (converted t (pos a))) in
      characters_fill t n m (suc i) text j r before (change_part row i (put_at [] new)) (stored (into r i) (converted t (pos a)) s) f z v (let q : i + suc m ≡ n = e in omega (arith, q)) g
      (value_stored fr o x k j (into r i) (converted t (pos a)) s h f to c (v (pos a))) (value_takes fr o x k (into r i) (converted t (pos a)) s h to c ∙ row_more before s.store r row i new es)
      (parts_changed row i (put_at [] new) ∙ ep)
      (first_changed (TreeIs (full j) []) row i new (omega (arith, lt, ep)) hp (v (pos a)))

  pub text_fills : (a : ℕ) (t : IntType) (n : ℕ) (rest : List ℕ) (j : Interval) → rest ≡ n ∷ [] → Entails (full j) k → j ≡ range_of t → In j (pos 0) → Fills fr (typed.text a) t x rest o j
  text_fills a t n rest j er f ej z = let R : List ℕ → Type 0 = λ rest. Fills fr (typed.text a) t x rest o j in subst R (sym er) (record {
    runs = λ d r s g c.
        tick_ends fr.listed s _ (λ u s2. Reaches fr o s2 × Filled j (n ∷ []) s.store s2.store r) (λ m. by d r (record s { clock = m }) g c);
  })
    where
      fits : (v : ℤ) → In j (converted t v)
      fits v = let P : Interval → Type 0 = λ j. In j (converted t v) in subst P (sym ej) (converted_fits t v)

      by : (d : ℕ) (r : Reference) (s : State) → Refers fr x (n ∷ []) r → Reaches fr o s → Ends fr.listed (then_do (ticks n s) (λ u s. Goes (tt {0}) (characters t n 0 (text_or_none (slice_get fr.program.literals a)) r s))) (λ u s2. Reaches fr o s2 × Filled j (n ∷ []) s.store s2.store r)
      by d r s g c =
          let at = row_at fr o x k n [] r s h g c in
          then_ends fr.listed (ticks n s) _ (λ u s2. (Reaches fr o s2) × (s2.store ≡ s.store)) (λ u s2. Reaches fr o s2 × Filled j (n ∷ []) s.store s2.store r) (ticks_stay n s c) (λ u s2 c2.
          let q = characters_fill t n n 0 (text_or_none (slice_get fr.program.literals a)) j r s.store at.0 s2 f z fits (omega arith) g c2.0 (c2.1 ∙ at.2) at.1 tt in
          (q.0, record { tree = Array q.1.row; is = (q.1.long, q.1.each); put_there = q.1.put_there }))

-- ---- the whole object

path_length : (lengths path rest : List ℕ) → Along lengths path rest → length rest + length path ≡ length lengths
path_length lengths [] rest a = let q : length lengths ≡ length rest = ap length a in omega (arith, q)
path_length [] (i ∷ path) rest a = absurd a
path_length (n ∷ lengths) (i ∷ path) rest a = let q : length rest + length path ≡ length lengths = path_length lengths path rest a.1 in let g : length rest + suc (length path) ≡ suc (length lengths) = omega (arith, q) in g

no_path : (lengths path : List ℕ) → Along lengths path lengths → path ≡ []
no_path lengths [] a = refl
no_path lengths (i ∷ path) a = absurd (let q : length lengths + suc (length path) ≡ length lengths = path_length lengths (i ∷ path) lengths a in omega (arith, q))

pub whole_fills : (fr : Frame) (i : Initialiser) (t : IntType) (x : ℕ) (o : Option Known) (j : Interval) (new : AbsValue) (o2 : Option Known) → Fills fr i t x (shape_of fr x) o j → Entails (full j) new → Replaces o x new o2 → Initialises fr i t x (shape_of fr x) o o2
whole_fills fr i t x o j new o2 h f w = record {
  runs = λ d r s g c.
      weaker fr.listed (initialise fr.program (calling fr.program d) i t (shape_of fr x) r s) (λ u s2. Reaches fr o s2 × Filled j (shape_of fr x) s.store s2.store r) (λ u s2. Reaches fr o2 s2) (h.runs d r s g c) (λ u s2 q. at r s s2 g q.0 q.1);
}
  where
    at : (r : Reference) (s s2 : State) → Refers fr x (shape_of fr x) r → Reaches fr o s2 → Filled j (shape_of fr x) s.store s2.store r → Reaches fr o2 s2
    at r s s2 g c q =
        let P : Store → Type 0 = λ store. Reaches fr o2 (record s2 { store = store }) in
        let none : r.path ≡ [] = no_path (shape_of fr x) r.path g.path in
        let X : ℕ → Type 0 = λ y. s2.store ≡ put_in s.store y r.path q.tree in
        let Y : List ℕ → Type 0 = λ path. s2.store ≡ put_in s.store x path q.tree in
        let e : s2.store ≡ put_in s.store x [] q.tree = subst Y none (subst X g.object q.put_there) in
        let same : put_in s2.store x [] q.tree ≡ s2.store = ap (λ store. put_in store x [] q.tree) e ∙ in_store s.store x [] [] q.tree q.tree q.tree (λ t. refl) ∙ sym e in
        subst P same (w.is fr s2 q.tree c (tree_entails (full j) new (shape_of fr x) f q.tree q.is))

-- ---- as the functions have them

pub takes_both : (o again o1 : Option Known) (x : ℕ) (known k : AbsValue) → Contents o x known → Entails known k → o1 ≡ o → Replaces o1 x k again → Implies again o → Takes o x k
takes_both o again o1 x known k c e q r i = let P : Option Known → Type 0 = λ o. Replaces o x k again in let r2 : Replaces o x k again = subst P q r in record {
  contents = record { is = λ fr s h. more (shape_of fr x) (slice_get s.store x) (c.is fr s h) };
  replaces = record { is = λ fr s new h m. i.is fr (record s { store = put s.store (whole x) new }) (r2.is fr s new h m) };
}
  where
    more : (lengths : List ℕ) (t : Option Tree) → ObjectIs known lengths t → ObjectIs k lengths t
    more lengths None h = absurd h
    more lengths (Some t) h = tree_entails known k lengths e t h

pub one_fills_at : (fr : Frame) (x : ℕ) (o : Option Known) (k : AbsValue) → Takes o x k → (u : IntType) (e : Value) (t : IntType) (lengths : List ℕ) (o1 : Option Known) (i : Interval) (o2 : Option Known) (j : Interval) (b : Bool) → lengths ≡ [] → b ≡ quiet e → b ≡ true →
    o1 ≡ o → Evaluates fr e o1 i o2 → Converts u i j → Entails (full j) k → Fills fr (typed.one_value u e) t x lengths o j
one_fills_at fr x o k h u e t lengths o1 i o2 j b el eb et eo ev cv f = let P : Option Known → Type 0 = λ o. Evaluates fr e o i o2 in
    value_fills fr u e t x lengths o k i o2 j el h f (sym eb ∙ et) (subst P eo ev) cv

pub text_fills_at : (fr : Frame) (x : ℕ) (o : Option Known) (k : AbsValue) → Takes o x k → (a : ℕ) (t : IntType) (n : ℕ) (lengths inner : List ℕ) (j : Interval) → lengths ≡ n ∷ inner → inner ≡ [] → j ≡ range_of t → In j (pos 0) → Entails (full j) k → Fills fr (typed.text a) t x lengths o j
text_fills_at fr x o k h a t n lengths inner j el ei ej z f = text_fills fr x o k h a t n lengths j (el ∙ ap (λ l. n ∷ l) ei) f ej z

pub list_filled : (fr : Frame) (x : ℕ) (o : Option Known) (k : AbsValue) → Takes o x k → (all : Initialisers) (t : IntType) (n : ℕ) (inner lengths : List ℕ) (j : Interval) → lengths ≡ n ∷ inner → FillsFrom fr all t x n inner o j → Fills fr (typed.list all) t x lengths o j
list_filled fr x o k h all t n inner lengths j el f = list_fills fr x o k h all t n inner lengths f.first j el f.all

pub end_full : (fr : Frame) (x : ℕ) (o : Option Known) (k : AbsValue) → Takes o x k → (t : IntType) (n done : ℕ) (inner : List ℕ) (j : Interval) → done ≡ n → FillsEnd fr t x n done inner o j j
end_full fr x o k h t n done inner j e = let P : ℕ → Type 0 = λ done. FillsEnd fr t x n done inner o j j in subst P (sym e) (record { rest = all_filled fr x o k h t n inner j })

pub end_zero : (fr : Frame) (x : ℕ) (o : Option Known) (k : AbsValue) → Takes o x k → (t : IntType) (n done : ℕ) (inner : List ℕ) (j zero_interval j2 : Interval) → zero_interval ≡ just (pos 0) → Below j j2 → Below zero_interval j2 → Entails (full j2) k → FillsEnd fr t x n done inner o j j2
end_zero fr x o k h t n done inner j z j2 ez b bz f = let P : Interval → Type 0 = λ z. In z (pos 0) in
    record { rest = none_fill fr x o k h t n done inner j j2 f b (below z j2 (pos 0) bz (subst P (sym ez) (omega (arith, ints), omega (arith, ints)))) }

pub one_more : (fr : Frame) (x : ℕ) (o : Option Known) (k : AbsValue) → Takes o x k → (xs : List held.Initialiser) (a : held.Initialiser) (more : List held.Initialiser) (t : IntType) (n done : ℕ) (inner : List ℕ) (j j1 j2 j3 : Interval) → xs ≡ a ∷ more → done < n → Fills fr (initialiser_of a) t x inner o j1 →
    Below j j2 → Below j1 j2 → FillsAll fr (initialisers_of (map initialiser_of more)) t x n (done + 1) inner o j2 j3 → FillsAll fr (initialisers_of (map initialiser_of xs)) t x n done inner o j j3
one_more fr x o k h xs a more t n done inner j j1 j2 j3 ex lt ha b b1 hm =
    let P : List held.Initialiser → Type 0 = λ xs. FillsAll fr (initialisers_of (map initialiser_of xs)) t x n done inner o j j3 in
    let Q : ℕ → Type 0 = λ i. FillsAll fr (initialisers_of (map initialiser_of more)) t x n i inner o j2 j3 in
    subst P (sym ex) (one_fills fr x o k h (initialiser_of a) (initialisers_of (map initialiser_of more)) t n done inner j j1 j2 j3 lt ha b b1 (subst Q (add-one done) hm))

pub none_more : (fr : Frame) (x : ℕ) (o : Option Known) (k : AbsValue) → Takes o x k → (xs : List held.Initialiser) (t : IntType) (n done : ℕ) (inner : List ℕ) (j j2 : Interval) → length xs ≡ 0 → FillsEnd fr t x n done inner o j j2 →
    FillsAll fr (initialisers_of (map initialiser_of xs)) t x n done inner o j j2
none_more fr x o k h [] t n done inner j j2 e f = f.rest
none_more fr x o k h (a ∷ xs) t n done inner j j2 e f = absurd (cc e)

pub fewer : (xs : List held.Initialiser) (a : held.Initialiser) (more : List held.Initialiser) (n : ℕ) → xs ≡ a ∷ more → work_initialisers (initialisers_of (map initialiser_of xs)) ≤ n → work_initialisers (initialisers_of (map initialiser_of more)) ≤ n
fewer xs a more n e h =
    let P : List held.Initialiser → Type 0 = λ xs. work_initialisers (initialisers_of (map initialiser_of xs)) ≤ n in
    let all : work_initialiser (initialiser_of a) + work_initialisers (initialisers_of (map initialiser_of more)) + 3 ≤ n = subst P e h in
    omega (arith, all)

pub defined_whole : (fr : Frame) (n x base : ℕ) (t : ObjectType) (i : Initialiser) (u : IntType) (lengths : List ℕ) (o o2 wide : Option Known) (j : Interval) (new : AbsValue) (o3 : Option Known) (kept : AbsValue) (w : Ways) → w ≡ only_normal kept o3 → base ≡ length fr.outer → x ≡ base + n →
    slice_get fr.objects n ≡ Some t → u ≡ t.element → lengths ≡ t.lengths → RenewsOne fr n o o2 → Implies o2 wide → Fills fr i u x lengths wide j → new ≡ full j → Replaces wide x new o3 → Executes fr (typed.define n i) o w
defined_whole fr n x base t i u lengths o o2 wide j new o3 kept w ew eb ex et eu el one im h en r =
    let P : Ways → Type 0 = λ w. Executes fr (typed.define n i) o w in
    let q : x ≡ length fr.outer + n = omega (arith, eb, ex) in
    let sh : shape_of fr x ≡ t.lengths = shape_at fr n x t q et in
    let U : IntType → Type 0 = λ u. Fills fr i u x lengths wide j in
    let L : List ℕ → Type 0 = λ l. Fills fr i t.element x l wide j in
    let N : AbsValue → Type 0 = λ new. Replaces wide x new o3 in
    let I : List ℕ → Type 0 = λ l. Initialises fr i t.element x l wide o3 in
    let filled_whole : Fills fr i t.element x (shape_of fr x) wide j = subst L (el ∙ sym sh) (subst U eu h) in
    let begun : RenewsOne fr n o wide = record { is = λ s c. im.is fr (renewed fr.objects n s) (one.is s c) } in
    subst P (sym ew) (define_rule fr n x t i o wide o3 kept q et begun (subst I sh (whole_fills fr i t.element x wide j (full j) o3 filled_whole (record { is = λ v m. m }) (subst N en r))))

pub object_found : (xs : List held_type.ObjectType) (n : ℕ) (t : held_type.ObjectType) → slice_get xs n ≡ Some t → slice_get (map object_type_of xs) n ≡ Some (object_type_of t)
object_found [] n t e = absurd (cc e)
object_found (y ∷ xs) zero t e = let q : y ≡ t = cc e in ap (λ y. Some (object_type_of y)) q
object_found (y ∷ xs) (suc n) t e = object_found xs n t e
