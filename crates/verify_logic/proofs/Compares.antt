-- Consequences of comparisons.
use Rattle.std.proofs.Common.{◌≡◌, ◌⊎◌, inl, inr, ℕ, zero, suc, ℤ, pos, ◌+ℤ◌, ◌-ℤ◌, ◌≤ℤ◌, List, [], ◌∷◌, refl, ap, sym, subst, arith, ◌∙◌}
use Rattle.std.proofs.lemmas.Int.{ints, by_lt_z}
use Rattle.std.specs.Prelude.{◌<ℤ◌, int_lt, int_le, Bool, true, false, ◌&&◌, ◌||◌, Option, Some, None, slice_get, slice_set, Result, Ok, Err}
use Rattle.srcset.specs.declared.refusal.Pos.{Pos}
use Rattle.ctypes.specs.declared.types.IntType.{IntType}
use Rattle.ctypes.specs.declared.operators.BinOp.{BinOp}
use Rattle.ctypes.specs.declared.operators.Undef.{Undef}
use Rattle.ctypes.specs.declared.operators.BinOp.TheVariants.{Less, Greater, LessEqual, GreaterEqual, Equal, NotEqual}
use Rattle.ctypes.specs.Types.{truth, of_truth, converted}
use Rattle.ctypes.specs.Arithmetic.{computed}
use Rattle.ctypes.proofs.Uses.{converted_keeps}
use Rattle.typing_spec.specs.Operators.{right_operand}
use Rattle.typing_spec.specs.Program as typed
use Rattle.typing_spec.specs.Program.{Place, Value, Program}
use Rattle.csem.specs.Store.{Tree, Element, Array, Store, value_of, value_at, at_path}
use Rattle.csem.specs.Machine.{State, Goes, computed_at, value_or_undefined}
use Rattle.csem.specs.Expressions.{find, evaluate, position_of}
use Rattle.csem.specs.Meaning.{calling}
use Rattle.verify_logic.specs.declared.abstract_values.Interval.{Interval}
use Rattle.verify_logic.specs.declared.abstract_values.AbsValue.{AbsValue}
use Rattle.verify_logic.specs.declared.abstract_values.Fact.{Fact}
use Rattle.verify_logic.specs.declared.operands.Operand.{Operand}
use Rattle.verify_logic.specs.declared.operands.Operand.TheVariants.{Number, Object}
use Rattle.verify_logic.specs.declared.operands.Relation.{Relation}
use Rattle.verify_logic.specs.declared.operands.Relation.TheVariants as relation
use Rattle.verify_logic.specs.States.{Known, Frame, In, ValueIs, TreeIs, ObjectsAre, FactsAre, Reaches, Ends, Below, range_of, shapes_of, shape_of, Along, Refers, Contents}
use Rattle.verify_logic.specs.Judgements.{Tests, either_way}
use Rattle.verify_logic.specs.Places.{FindsAt}
use Rattle.verify_logic.specs.Relations.{Tells, Narrows, CutsAbove, CutsBelow, Avoids, HasValue, OperandIs, Looks, Restricts, RestrictsBoth, Learns}
use Rattle.verify_logic.proofs.Runs.{then_ends, tick_ends}
use Rattle.verify_logic.proofs.Rules.{value_is}
use Rattle.verify_logic.proofs.Objects.{below, with_objects}

-- ---- the truth of a test

abbrev valued : ℤ → Result ℤ Undef
valued v = Ok v

truth_back : (b c : Bool) (x : ℤ) → valued (of_truth b) ≡ Ok x → truth x ≡ c → b ≡ c
truth_back true c x e t = let q : pos 1 ≡ x = cc e in ap truth q ∙ t
truth_back false c x e t = let q : pos 0 ≡ x = cc e in ap truth q ∙ t

lt_true : (v w : ℤ) → int_lt v w ≡ true → v <ℤ w
lt_true v w e = grind (arith, ints)

lt_false : (v w : ℤ) → int_lt v w ≡ false → w ≤ℤ v
lt_false v w e = grind (arith, ints)

le_true : (v w : ℤ) → int_le v w ≡ true → v ≤ℤ w
le_true v w e = grind (arith, ints)

le_false : (v w : ℤ) → int_le v w ≡ false → w <ℤ v
le_false v w e = grind (arith, ints)

same_true : (v w : ℤ) → (int_le v w && int_le w v) ≡ true → v ≡ w
same_true v w e = let h = both_true (int_le v w) (int_le w v) e in let a : v ≤ℤ w = le_true v w h.0 in let b : w ≤ℤ v = le_true w v h.1 in omega (arith, ints, a, b)
  where
    both_true : (x y : Bool) → (x && y) ≡ true → (x ≡ true) × (y ≡ true)
    both_true true y e = (refl, e)
    both_true false y e = absurd (cc e)

same_false : (v w : ℤ) → (int_le v w && int_le w v) ≡ false → v ≡ w → ⊥
same_false v w e q = let P : ℤ → Type 0 = λ w. (int_le v w && int_le w v) ≡ false in yes (int_le v v) (reflexive v) (subst P (sym q) e)
  where
    reflexive : (v : ℤ) → int_le v v ≡ true
    reflexive v = grind (arith, ints)

    yes : (b : Bool) → b ≡ true → (b && b) ≡ false → ⊥
    yes true e f = cc f
    yes false e f = cc e

other_true : (v w : ℤ) → (int_lt v w || int_lt w v) ≡ true → v ≡ w → ⊥
other_true v w e q = one (int_lt v w) (int_lt w v) e (λ f. let a : v <ℤ w = lt_true v w f in omega (arith, ints, a, q)) (λ f. let a : w <ℤ v = lt_true w v f in omega (arith, ints, a, q))
  where
    one : (x y : Bool) → (x || y) ≡ true → (x ≡ true → ⊥) → (y ≡ true → ⊥) → ⊥
    one true y e f g = f refl
    one false y e f g = g e

other_false : (v w : ℤ) → (int_lt v w || int_lt w v) ≡ false → v ≡ w
other_false v w e = let h = none (int_lt v w) (int_lt w v) e in let a : w ≤ℤ v = lt_false v w h.0 in let b : v ≤ℤ w = lt_false w v h.1 in omega (arith, ints, a, b)
  where
    none : (x y : Bool) → (x || y) ≡ false → (x ≡ false) × (y ≡ false)
    none false y e = (refl, e)
    none true y e = absurd (cc e)

pub less_yes : Tells Less true false relation.Less
less_yes = record { is = λ t v w x e b. lt_true v w (truth_back (int_lt v w) true x e b); has = λ t v w. tt; right = λ t w. refl }

pub less_no : Tells Less false true relation.AtMost
less_no = record { is = λ t v w x e b. lt_false v w (truth_back (int_lt v w) false x e b); has = λ t v w. tt; right = λ t w. refl }

pub greater_yes : Tells Greater true true relation.Less
greater_yes = record { is = λ t v w x e b. lt_true w v (truth_back (int_lt w v) true x e b); has = λ t v w. tt; right = λ t w. refl }

pub greater_no : Tells Greater false false relation.AtMost
greater_no = record { is = λ t v w x e b. lt_false w v (truth_back (int_lt w v) false x e b); has = λ t v w. tt; right = λ t w. refl }

pub at_most_yes : Tells LessEqual true false relation.AtMost
at_most_yes = record { is = λ t v w x e b. le_true v w (truth_back (int_le v w) true x e b); has = λ t v w. tt; right = λ t w. refl }

pub at_most_no : Tells LessEqual false true relation.Less
at_most_no = record { is = λ t v w x e b. le_false v w (truth_back (int_le v w) false x e b); has = λ t v w. tt; right = λ t w. refl }

pub at_least_yes : Tells GreaterEqual true true relation.AtMost
at_least_yes = record { is = λ t v w x e b. le_true w v (truth_back (int_le w v) true x e b); has = λ t v w. tt; right = λ t w. refl }

pub at_least_no : Tells GreaterEqual false false relation.Less
at_least_no = record { is = λ t v w x e b. le_false w v (truth_back (int_le w v) false x e b); has = λ t v w. tt; right = λ t w. refl }

pub same_yes : Tells Equal true false relation.Same
same_yes = record { is = λ t v w x e b. same_true v w (truth_back (int_le v w && int_le w v) true x e b); has = λ t v w. tt; right = λ t w. refl }

pub same_no : Tells Equal false false relation.Other
same_no = record { is = λ t v w x e b. same_false v w (truth_back (int_le v w && int_le w v) false x e b); has = λ t v w. tt; right = λ t w. refl }

pub other_yes : Tells NotEqual true false relation.Other
other_yes = record { is = λ t v w x e b. other_true v w (truth_back (int_lt v w || int_lt w v) true x e b); has = λ t v w. tt; right = λ t w. refl }

pub other_no : Tells NotEqual false false relation.Same
other_no = record { is = λ t v w x e b. other_false v w (truth_back (int_lt v w || int_lt w v) false x e b); has = λ t v w. tt; right = λ t w. refl }

-- ---- operands

-- the store is as it was
abbrev Seen : Interval → Operand → Frame → Option Known → Store → ℤ → State → Type 0
Seen i a fr o store v s = In i v × OperandIs a v s.store × (s.store ≡ store) × Reaches fr o s

pub number_looks : (fr : Frame) (t : IntType) (v u : ℤ) (o : Option Known) (i : Interval) → In i v → v ≡ u → Looks fr (typed.constant t v) o (Number u) i
number_looks fr t v u o i m e = record { runs = λ d s c. tick_ends fr.listed s (λ s. Goes v s) (Seen i (Number u) fr o s.store) (λ n. (m, e, refl, c)) }

look_value : (al : List Pos) (at : Pos) (w : Option ℤ) (s : State) (k : AbsValue) (rest : ℤ → State → Type 0) → k.initialised ≡ true → ValueIs k w → ((v : ℤ) → w ≡ Some v → In k.interval v → rest v s) → Ends al (value_or_undefined at w s) rest
look_value al at None s k rest i h f = absurd (let q : true ≡ false = sym i ∙ h in cc q)
look_value al at (Some v) s k rest i h f = f v refl h

-- a reference to a scalar object is to the whole of it
pub whole_path : (lengths path : List ℕ) → lengths ≡ [] → Along lengths path [] → path ≡ []
whole_path lengths [] e a = refl
whole_path [] (i ∷ path) e a = absurd a
whole_path (n ∷ lengths) (i ∷ path) e a = absurd (cc e)

pub read_looks : (fr : Frame) (t : IntType) (place : Place) (x : ℕ) (o : Option Known) (k : AbsValue) → FindsAt fr place x [] → shape_of fr x ≡ [] → Contents o x k → k.initialised ≡ true → Looks fr (typed.read t place) o (Object x) k.interval
read_looks fr t place x o k f e g i = record {
  runs = λ d s c.
      then_ends fr.listed (find fr.program (calling fr.program d) place s) _ (λ r s2. Refers fr x [] r × Reaches fr o s2 × (s2.store ≡ s.store)) (Seen k.interval (Object x) fr o s.store) (f.runs d o s c) (λ r s2 m.
      look_value fr.listed (position_of place) (value_at s2.store r) s2 k (Seen k.interval (Object x) fr o s.store) i (value_is fr o x k r s2 g m.0 m.1) (λ v q mv.
      let P : ℕ → Type 0 = λ y. value_of (at_path (slice_get s2.store y) r.path) ≡ Some v in
      let Q : List ℕ → Type 0 = λ path. value_of (at_path (slice_get s2.store x) path) ≡ Some v in
      (mv, subst Q (whole_path (shape_of fr x) r.path e m.0.path) (subst P m.0.object q), m.2, m.1)));
}

pub none_restricts : (x : ℕ) (i : Interval) → Restricts (Object x) i None None
none_restricts x i = record { is = λ fr s v e m h. absurd h }

pub same_restricts : (a : Operand) (i : Interval) (o : Option Known) → Restricts a i o o
same_restricts a i o = record { is = λ fr s v e m h. h }

pub empty_restricts : (a : Operand) (i : Interval) (o : Option Known) → i.high <ℤ i.low → Restricts a i o None
empty_restricts a i o l = record { is = λ fr s v e m h. omega (arith, ints, l, m.0, m.1) }

-- the value of an element lies in the interval
restricted_tree : (a b : AbsValue) (lengths : List ℕ) (t : Tree) (v : ℤ) → value_of (Some t) ≡ Some v → In b.interval v → TreeIs a lengths t → TreeIs b lengths t
restricted_tree a b [] (Element None) v e m h = absurd (cc e)
restricted_tree a b [] (Element (Some w)) v e m h = let q : v ≡ w = cc e in let P : ℤ → Type 0 = In b.interval in subst P q m
restricted_tree a b [] (Array row) v e m h = absurd h
restricted_tree a b (n ∷ lengths) (Element w) v e m h = absurd h
restricted_tree a b (n ∷ lengths) (Array row) v e m h = absurd (cc e)

restricted_objects : (ks : List AbsValue) (shapes : List (List ℕ)) (store : Store) (x : ℕ) (k : AbsValue) (v : ℤ) → value_of (slice_get store x) ≡ Some v → In k.interval v → ObjectsAre ks shapes store → ObjectsAre (slice_set ks x k) shapes store
restricted_objects [] shapes store x k v e m h = h
restricted_objects (a ∷ ks) [] store x k v e m h = absurd h
restricted_objects (a ∷ ks) (l ∷ shapes) [] x k v e m h = absurd h
restricted_objects (a ∷ ks) (l ∷ shapes) (t ∷ store) zero k v e m h = (restricted_tree a k l t v e m h.0, h.1)
restricted_objects (a ∷ ks) (l ∷ shapes) (t ∷ store) (suc x) k v e m h = (h.0, restricted_objects ks shapes store x k v e m h.1)

pub set_restricts : (a b : Known) (x : ℕ) (k : AbsValue) → b.objects ≡ slice_set a.objects x k → b.facts ≡ a.facts → Restricts (Object x) k.interval (Some a) (Some b)
set_restricts a b x k e d = record {
  is = λ fr s v q m h.
      let P : List AbsValue → Type 0 = λ ys. ObjectsAre ys (shapes_of fr) s.store in
      let F : List Fact → Type 0 = λ facts. FactsAre facts s.store in
      with_objects fr a b s.base s.arrays s.store s.store s.input h (subst P (sym e) (restricted_objects a.objects (shapes_of fr) s.store x k v q m h.objects_are)) (subst F (sym d) h.facts_are);
}

-- ---- intervals

pub unchanged : (r : Relation) (i j : Interval) → Narrows r i j i j
unchanged r i j = record { is = λ v w m n h. (m, n) }

pub less_narrows : (i j left right : Interval) (top bottom : ℤ) → top ≡ j.high -ℤ pos 1 → bottom ≡ i.low +ℤ pos 1 → CutsAbove i top left → CutsBelow j bottom right → Narrows relation.Less i j left right
less_narrows i j left right top bottom et eb f g = record { is = λ v w m n h. (f.is v m (omega (arith, ints, et, h, n.1)), g.is w n (omega (arith, ints, eb, h, m.0))) }

pub at_most_narrows : (i j left right : Interval) (top bottom : ℤ) → top ≡ j.high → bottom ≡ i.low → CutsAbove i top left → CutsBelow j bottom right → Narrows relation.AtMost i j left right
at_most_narrows i j left right top bottom et eb f g = record { is = λ v w m n h. (f.is v m (omega (arith, ints, et, h, n.1)), g.is w n (omega (arith, ints, eb, h, m.0))) }

pub same_narrows : (i j i2 left j2 right : Interval) (b t b2 t2 : ℤ) → b ≡ j.low → t ≡ j.high → b2 ≡ i.low → t2 ≡ i.high → CutsBelow i b i2 → CutsAbove i2 t left → CutsBelow j b2 j2 → CutsAbove j2 t2 right →
    Narrows relation.Same i j left right
same_narrows i j i2 left j2 right b t b2 t2 eb et eb2 et2 f f2 g g2 = record {
  is = λ v w m n h.
      (f2.is v (f.is v m (omega (arith, ints, eb, h, n.0))) (omega (arith, ints, et, h, n.1)), g2.is w (g.is w n (omega (arith, ints, eb2, h, m.0))) (omega (arith, ints, et2, h, m.1)));
}

apart : (v w : ℤ) → (v ≡ w → ⊥) → (v <ℤ w) ⊎ (w <ℤ v)
apart v w h = by_lt_z v w (λ l. inl l) (λ le. by_lt_z w v (λ l. inr l) (λ le2. absurd (h (omega (arith, ints, le, le2)))))

pub avoids_same : (i j : Interval) → Avoids i j i
avoids_same i j = record { is = λ v w m n h. m }

pub avoids_low : (i j r : Interval) → j.high ≤ℤ j.low → i.low ≡ j.low → r.low ≡ i.low +ℤ pos 1 → r.high ≡ i.high → Avoids i j r
avoids_low i j r one e el eh = record { is = λ v w m n h. at v w m n (apart v w h) }
  where
    at : (v w : ℤ) → In i v → In j w → (v <ℤ w) ⊎ (w <ℤ v) → In r v
    at v w m n (inl l) = absurd (omega (arith, ints, one, e, l, m.0, n.1))
    at v w m n (inr l) = (omega (arith, ints, one, e, el, l, n.0), omega (arith, ints, eh, m.1))

pub avoids_high : (i j r : Interval) → j.high ≤ℤ j.low → i.high ≡ j.high → r.low ≡ i.low → r.high ≡ i.high -ℤ pos 1 → Avoids i j r
avoids_high i j r one e el eh = record { is = λ v w m n h. at v w m n (apart v w h) }
  where
    at : (v w : ℤ) → In i v → In j w → (v <ℤ w) ⊎ (w <ℤ v) → In r v
    at v w m n (inl l) = (omega (arith, ints, el, m.0), omega (arith, ints, one, e, eh, l, n.1))
    at v w m n (inr l) = absurd (omega (arith, ints, one, e, l, m.1, n.0))

pub other_narrows : (i j left right : Interval) → Avoids i j left → Avoids j i right → Narrows relation.Other i j left right
other_narrows i j left right f g = record { is = λ v w m n h. (f.is v w m n h, g.is w v n m (λ e. h (sym e))) }

-- ---- comparisons

pub both_restrict : (a : Operand) (i : Interval) (b : Operand) (j : Interval) (o o2 o3 : Option Known) → Restricts a i o o2 → Restricts b j o2 o3 → RestrictsBoth a i b j o o3
both_restrict a i b j o o2 o3 f g = record { is = λ fr s v w ox oy m n h. g.is fr s w oy n (f.is fr s v ox m h) }

pub learns_straight : (op : BinOp) (b : Bool) (r : Relation) (x y : Operand) (i j i2 j2 : Interval) (o o3 : Option Known) → Tells op b false r → Narrows r i j i2 j2 → RestrictsBoth x i2 y j2 o o3 → Learns op b x i y j o o3
learns_straight op b r x y i j i2 j2 o o3 t n f = record {
  is = λ fr s ty v w res m q ox oy ce te h. let k = n.is v w m q (t.is ty v w res ce te) in f.is fr s v w ox oy k.0 k.1 h;
  has = t.has;
  right = t.right;
}

pub learns_swapped : (op : BinOp) (b : Bool) (r : Relation) (x y : Operand) (i j i2 j2 : Interval) (o o3 : Option Known) → Tells op b true r → Narrows r j i j2 i2 → RestrictsBoth y j2 x i2 o o3 → Learns op b x i y j o o3
learns_swapped op b r x y i j i2 j2 o o3 t n f = record {
  is = λ fr s ty v w res m q ox oy ce te h. let k = n.is w v q m (t.is ty v w res ce te) in f.is fr s w v oy ox k.0 k.1 h;
  has = t.has;
  right = t.right;
}

pub tells_at : (op : BinOp) (b c sw : Bool) (r : Relation) → b ≡ c → Tells op c sw r → Tells op b sw r
tells_at op b c sw r e h = let P : Bool → Type 0 = λ b. Tells op b sw r in subst P (sym e) h

-- an operation's value, and the abstract state by its truth
computed_way : (at : Pos) (r : Result ℤ Undef) (s : State) (fr : Frame) (on off : Option Known) → HasValue r → ((x : ℤ) → r ≡ Ok x → truth x ≡ true → Reaches fr on s) → ((x : ℤ) → r ≡ Ok x → truth x ≡ false → Reaches fr off s) →
    Ends fr.listed (computed_at at r s) (λ v s2. Reaches fr (either_way (truth v) on off) s2)
computed_way at (Err act) s fr on off h f g = absurd h
computed_way at (Ok x) s fr on off h f g = way (truth x) (f x refl) (g x refl)
  where
    way : (b : Bool) → (b ≡ true → Reaches fr on s) → (b ≡ false → Reaches fr off s) → Reaches fr (either_way b on off) s
    way true f g = f refl
    way false f g = g refl

pub compare_rule : (fr : Frame) (at : Pos) (op : BinOp) (t : IntType) (a b : Value) (o : Option Known) (x y : Operand) (i j : Interval) (on off : Option Known) → Looks fr a o x i → Looks fr b o y j →
    Below i (range_of t) → Below j (range_of t) → Learns op true x i y j o on → Learns op false x i y j o off → Tests fr (typed.binary at op t a b) o on off
compare_rule fr at op t a b o x y i j on off ha hb bi bj lt lf = record {
  runs = λ d s c.
      let post : ℤ → State → Type 0 = λ v s2. Reaches fr (either_way (truth v) on off) s2 in
      tick_ends fr.listed s _ post (λ n.
      then_ends fr.listed (evaluate fr.program (calling fr.program d) a (record s { clock = n })) _ (Seen i x fr o s.store) post (ha.runs d (record s { clock = n }) c) (λ v s2 m.
      then_ends fr.listed (evaluate fr.program (calling fr.program d) b s2) _ (Seen j y fr o s2.store) post (hb.runs d s2 m.3) (λ w s3 q.
      let PS : Store → Type 0 = λ store. OperandIs x v store in
      let ox : OperandIs x v s3.store = subst PS (sym q.2) m.1 in
      let ev : converted t v ≡ v = converted_keeps t v (below i (range_of t) v bi m.0) in
      let ew : right_operand op t w ≡ w = lt.right t w ∙ converted_keeps t w (below j (range_of t) w bj q.0) in
      let PV : ℤ → Type 0 = λ u. Ends fr.listed (computed_at at (computed op t u (right_operand op t w)) s3) post in
      let PW : ℤ → Type 0 = λ u. Ends fr.listed (computed_at at (computed op t v u) s3) post in
      subst PV (sym ev) (subst PW (sym ew) (computed_way at (computed op t v w) s3 fr on off (lt.has t v w)
      (λ r ce te. lt.is fr s3 t v w r m.0 q.0 ox q.1 ce te q.3) (λ r ce te. lf.is fr s3 t v w r m.0 q.0 ox q.1 ce te q.3))))));
}

pub compare_fits : (fr : Frame) (at : Pos) (op : BinOp) (t : IntType) (a b : Value) (o : Option Known) (x y : Operand) (i j all : Interval) (on off : Option Known) → all ≡ range_of t → Looks fr a o x i → Looks fr b o y j →
    Below i all → Below j all → Learns op true x i y j o on → Learns op false x i y j o off → Tests fr (typed.binary at op t a b) o on off
compare_fits fr at op t a b o x y i j all on off e ha hb bi bj lt lf = let P : Interval → Type 0 = λ all. Below i all in let Q : Interval → Type 0 = λ all. Below j all in
    compare_rule fr at op t a b o x y i j on off ha hb (subst P e bi) (subst Q e bj) lt lf
