-- Rules for expressions.
use Rattle.std.proofs.Common.{◌≡◌, ◌≤◌, ◌<◌, ℕ, zero, suc, ℤ, pos, negsuc, List, [], ◌∷◌, ◌++◌, length, drop, refl, sym, subst, ◌∙◌, arith}
use Rattle.std.proofs.lemmas.Int.{ints}
use Rattle.std.proofs.lemmas.Bool.Decides.{nat_tests}
use Rattle.std.specs.Prelude.{◌≤ℤ◌, ◌<ℤ◌, Option, Some, None, Bool, true, false, nat_lt, slice_get, Contains}
use Rattle.srcset.specs.declared.refusal.Pos.{Pos}
use Rattle.ctypes.specs.declared.types.IntType.{IntType}
use Rattle.ctypes.specs.declared.operators.BinOp.{BinOp}
use Rattle.ctypes.specs.declared.operators.Undef.TheVariants.{U5, U7}
use Rattle.ctypes.specs.Types.{truth, of_truth, converted}
use Rattle.tree.specs.declared.expression.PrefixOp.{PrefixOp}
use Rattle.tree.specs.declared.expression.StepOp.{StepOp}
use Rattle.typing_spec.specs.Operators.{operated, sign_of}
use Rattle.typing_spec.specs.Program as typed
use Rattle.typing_spec.specs.Program.{Moment, Storage, Place, Arguments, Value, Program}
use Rattle.csem.specs.Store.{Store, Tree, Element, Array, Reference, into, value_of, value_at, tree_at, length_of, at_path}
use Rattle.csem.specs.Machine.{State, Run, Goes, then_do, choose, tick, or_first, designated, undefined, subscripted, value_or_undefined, read, write, stored}
use Rattle.csem.specs.Expressions.{Passed, find, pass, evaluate, get_byte, step_operation, step_value, position_of}
use Rattle.csem.specs.Meaning.{calling}
use Rattle.verify_logic.specs.declared.abstract_values.Interval.{Interval}
use Rattle.verify_logic.specs.declared.abstract_values.AbsValue.{AbsValue}
use Rattle.verify_logic.specs.declared.abstract_values.ArrayArgument.{ArrayArgument}
use Rattle.verify_logic.specs.States.{Known, Frame, In, just, ValueIs, TreeIs, ReachesAt, Reaches, Ends, Below, Implies, shapes_of, rest_of, ArrayIs, ArraysAre, or_scalar, shape_of, Along, Refers, ObjectIs, SubscriptIs, LeadsInto, Contents, Reads, Writes}
use Rattle.verify_logic.specs.Judgements.{Evaluates, Tests, ReadsOr, MayRead, OperatesAt, SignsAt, Subscripts, Converts, either_way}
use Rattle.verify_logic.specs.Places.{OneRow, Subscribes, Designates, Finds, FindsAt, Are, Passes, step_interval, ConvertsOr, Splits, got}
use Rattle.verify_logic.proofs.Runs.{then_ends, tick_ends, weaker, computed_ends, computed_then, second, first}
use Rattle.verify_logic.proofs.Objects.{below, path_is}

-- a condition on a value and the objects
abbrev pub Both : Interval → Frame → Option Known → ℤ → State → Type 0
Both i fr o v s = In i v × Reaches fr o s

-- an expression is evaluated, and then
pub value_then : {B : Type 0} (fr : Frame) (d : ℕ) (e : Value) (o : Option Known) (i : Interval) (o2 : Option Known) (s : State) (go : ℤ → State → Run B)
    (post : B → State → Type 0) → Evaluates fr e o i o2 → Reaches fr o s → ((v : ℤ) (s2 : State) → In i v → Reaches fr o2 s2 → Ends fr.listed (go v s2) post) →
    Ends fr.listed (then_do (evaluate fr.program (calling fr.program d) e s) go) post
value_then fr d e o i o2 s go post h c next =
    then_ends fr.listed (evaluate fr.program (calling fr.program d) e s) go (λ v s2. In i v × Reaches fr o2 s2) post (h.runs d s c) (λ v s2 m. next v s2 m.0 m.1)

-- a place is found, and then
pub place_then : {B : Type 0} (fr : Frame) (d : ℕ) (place : Place) (o : Option Known) (x : ℕ) (rest : List ℕ) (sub : Option Interval) (o2 : Option Known) (s : State) (go : Reference → State → Run B)
    (post : B → State → Type 0) → Finds fr place o x rest sub o2 → Reaches fr o s → ((r : Reference) (s2 : State) → Refers fr x rest r → SubscriptIs sub r.path → Reaches fr o2 s2 → Ends fr.listed (go r s2) post) →
    Ends fr.listed (then_do (find fr.program (calling fr.program d) place s) go) post
place_then fr d place o x rest sub o2 s go post h c next =
    then_ends fr.listed (find fr.program (calling fr.program d) place s) go (λ r s2. (Refers fr x rest r × SubscriptIs sub r.path) × Reaches fr o2 s2) post (h.runs d s c) (λ r s2 m. next r s2 m.0.0 m.0.1 m.1)

-- ---- places

pub based : (fr : Frame) (o : Option Known) (s : State) → Reaches fr o s → s.base ≡ length fr.outer
based fr None s h = absurd h
based fr (Some k) s h = h.based

pub referred : (fr : Frame) (o : Option Known) (s : State) → Reaches fr o s → ArraysAre fr.outer fr.arrays s.arrays
referred fr None s h = absurd h
referred fr (Some k) s h = h.referred

pub named_rule : (fr : Frame) (at : Pos) (what : Storage) (x depth : ℕ) (rest : List ℕ) → rest_of (shapes_of fr) x depth ≡ rest → Designates fr what x depth → FindsAt fr (typed.named at what) x rest
named_rule fr at what x depth rest e h = record {
  runs = λ d o s c.
      let P : List ℕ → Type 0 = λ rest. Ends fr.listed (find fr.program (calling fr.program d) (typed.named at what) s) (λ r s2. Refers fr x rest r × Reaches fr o s2 × (s2.store ≡ s.store)) in
      subst P e (tick_ends fr.listed s (λ s. Goes (designated fr.program what s) s) (λ r s2. Refers fr x (rest_of (shapes_of fr) x depth) r × Reaches fr o s2 × (s2.store ≡ s.store))
      (λ n. (h.is (record s { clock = n }) (based fr o s c) (referred fr o s c), c, refl)));
}

-- the target of an array parameter (6.9.1p10)
array_found : (shapes : List (List ℕ)) (ps : List ArrayArgument) (rs : List Reference) (n : ℕ) (a : ArrayArgument) → ArraysAre shapes ps rs → slice_get ps n ≡ Some a → ArrayIs shapes a (or_first (slice_get rs n))
array_found shapes [] rs n a h e = absurd (cc e)
array_found shapes (p ∷ ps) [] n a h e = absurd h
array_found shapes (p ∷ ps) (r ∷ rs) zero a h e = let q : p ≡ a = cc e in let P : ArrayArgument → Type 0 = λ a. ArrayIs shapes a r in subst P q h.0
array_found shapes (p ∷ ps) (r ∷ rs) (suc n) a h e = array_found shapes ps rs n a h.1 e

shape_in_front : (xs ys : List (List ℕ)) (x : ℕ) → x < length xs → slice_get (xs ++ ys) x ≡ slice_get xs x
shape_in_front [] ys x h = absurd (omega (arith, h))
shape_in_front (l ∷ xs) ys zero h = refl
shape_in_front (l ∷ xs) ys (suc x) h = shape_in_front xs ys x (let q : suc x < suc (length xs) = h in omega (arith, q))

pub parameter_designates : (fr : Frame) (n : ℕ) (a : ArrayArgument) → slice_get fr.arrays n ≡ Some a → Designates fr (typed.parameter n) a.object a.depth
parameter_designates fr n a e = record {
  is = λ s b h.
      let i = array_found fr.outer fr.arrays s.arrays n a h e in
      let P : Option (List ℕ) → Type 0 = λ o. Along (or_scalar o) (or_first (slice_get s.arrays n)).path (drop a.depth (or_scalar o)) in
      record { object = i.object; path = subst P (sym (shape_in_front fr.outer _ a.object i.lives)) i.path };
}

pub finds_at : (fr : Frame) (place : Place) (x : ℕ) (rest : List ℕ) (o : Option Known) → FindsAt fr place x rest → Finds fr place o x rest None o
finds_at fr place x rest o h = record {
  runs = λ d s c. weaker fr.listed (find fr.program (calling fr.program d) place s) _ (λ r s2. (Refers fr x rest r × SubscriptIs None r.path) × Reaches fr o s2) (h.runs d o s c) (λ r s2 m. ((m.0, tt), m.1));
}

-- an element that has a value, or is read at a place that is listed
read_element : (al : List Pos) (at : Pos) (i : Interval) (v : Option ℤ) (s : State) (rest : State → Type 0) → ReadsOr al at i v → rest s →
    Ends al (value_or_undefined at v s) (λ v s2. In i v × rest s2)
read_element al at i None s rest h c = h
read_element al at i (Some v) s rest h c = (h, c)

element_of : (k : AbsValue) (u : Tree) → TreeIs k [] u → ValueIs k (value_of (Some u))
element_of k (Element v) h = h
element_of k (Array row) h = absurd h

-- the value at a reference to an element
pub value_is : (fr : Frame) (o : Option Known) (x : ℕ) (k : AbsValue) (r : Reference) (s : State) → Contents o x k → Refers fr x [] r → Reaches fr o s → ValueIs k (value_at s.store r)
value_is fr o x k r s f g h =
    let P : ℕ → Type 0 = λ y. ValueIs k (value_of (at_path (slice_get s.store y) r.path)) in
    subst P (sym g.object) (at (slice_get s.store x) (f.is fr s h))
  where
    at : (t : Option Tree) → ObjectIs k (shape_of fr x) t → ValueIs k (value_of (at_path t r.path))
    at None q = absurd q
    at (Some t) q =
        let deep = path_is k (shape_of fr x) r.path [] t g.path q in
        let Q : Option Tree → Type 0 = λ u. ValueIs k (value_of u) in
        subst Q (sym deep.1) (element_of k deep.0 deep.2)

pub has_value : (fr : Frame) (at : Pos) (k : AbsValue) → k.initialised ≡ true → MayRead fr at k
has_value fr at k e = record { is = λ v h. by v h }
  where
    by : (v : Option ℤ) → ValueIs k v → ReadsOr fr.listed at k.interval v
    by None h = absurd (let q : true ≡ false = sym e ∙ h in cc q)
    by (Some v) h = h

pub listed_value : (fr : Frame) (at : Pos) (k : AbsValue) → Contains fr.listed at → MayRead fr at k
listed_value fr at k e = record { is = λ v h. by v h }
  where
    by : (v : Option ℤ) → ValueIs k v → ReadsOr fr.listed at k.interval v
    by None h = e
    by (Some v) h = h

pub read_ends : (fr : Frame) (at : Pos) (o : Option Known) (x : ℕ) (sub : Option Interval) (k : AbsValue) (r : Reference) (s : State) → Reads o x sub k → MayRead fr at k → Refers fr x [] r → SubscriptIs sub r.path → Reaches fr o s →
    Ends fr.listed (read at r s) (Both k.interval fr o)
read_ends fr at o x sub k r s f m g q h = read_element fr.listed at k.interval (value_at s.store r) s (λ s2. Reaches fr o s2) (m.is (value_at s.store r) (f.is fr s r h g q)) h

not_less : (x n : ℕ) → n ≤ x → nat_lt x n ≡ false
not_less x n h = grind (arith, nat_tests)

pub is_less : (x n : ℕ) → x < n → nat_lt x n ≡ true
is_less x n h = grind (arith, nat_tests)

pub write_ends : (fr : Frame) (at : Pos) (x : ℕ) (sub : Option Interval) (r : Reference) (v : ℤ) (s : State) (i : Interval) (o o2 : Option Known) → length fr.program.literals ≤ x → Writes fr o x sub i o2 → In i v →
    Refers fr x [] r → SubscriptIs sub r.path → Reaches fr o s → Ends fr.listed (write fr.program at r v s) (Both i fr o2)
write_ends fr at x sub r v s i o o2 above w m f q h =
    let P : ℕ → Type 0 = λ y. length fr.program.literals ≤ y in
    second fr.listed (nat_lt r.object (length fr.program.literals)) (undefined U7 at s) (Goes v (stored r v s)) (Both i fr o2) (not_less r.object (length fr.program.literals) (subst P (sym f.object) above))
    (m, w.is s r v h f q m)

-- ---- subscripts (6.5.2.1)

along_more : (lengths path : List ℕ) (n : ℕ) (rest : List ℕ) (i : ℕ) → i < n → Along lengths path (n ∷ rest) → Along lengths (path ++ i ∷ []) rest
along_more [] [] n rest i lt h = absurd (cc h)
along_more (m ∷ lengths) [] n rest i lt h =
    let e : m ≡ n = cc h in
    let f : lengths ≡ rest = cc h in
    let P : ℕ → Type 0 = λ n. i < n in
    (subst P (sym e) lt, f)
along_more [] (j ∷ path) n rest i lt h = absurd h
along_more (m ∷ lengths) (j ∷ path) n rest i lt h = (h.0, along_more lengths path n rest i lt h.1)

row_length : (k : AbsValue) (n : ℕ) (rest : List ℕ) (u : Tree) → TreeIs k (n ∷ rest) u → length_of (Some u) ≡ n
row_length k n rest (Element v) h = absurd h
row_length k n rest (Array row) h = h.0

pub into_refers : (fr : Frame) (x n i : ℕ) (rest : List ℕ) (r : Reference) → i < n → Refers fr x (n ∷ rest) r → Refers fr x rest (into r i)
into_refers fr x n i rest r lt f = record { object = f.object; path = along_more (shape_of fr x) r.path n rest i lt f.path }

pub length_is : (fr : Frame) (o : Option Known) (x : ℕ) (k : AbsValue) (n : ℕ) (rest : List ℕ) (r : Reference) (s : State) → Contents o x k → Refers fr x (n ∷ rest) r → Reaches fr o s → length_of (tree_at s.store r) ≡ n
length_is fr o x k n rest r s f g h =
    let P : ℕ → Type 0 = λ y. length_of (at_path (slice_get s.store y) r.path) ≡ n in
    subst P (sym g.object) (at (slice_get s.store x) (f.is fr s h))
  where
    at : (t : Option Tree) → ObjectIs k (shape_of fr x) t → length_of (at_path t r.path) ≡ n
    at None q = absurd q
    at (Some t) q =
        let deep = path_is k (shape_of fr x) r.path (n ∷ rest) t g.path q in
        let Q : Option Tree → Type 0 = λ u. length_of u ≡ n in
        subst Q (sym deep.1) (row_length k n rest deep.0 deep.2)

-- a subscript in these bounds
within_ends : (fr : Frame) (at : Pos) (x n : ℕ) (rest : List ℕ) (r : Reference) (v : ℤ) (s : State) (o : Option Known) → pos 0 ≤ℤ v → v <ℤ pos n → length_of (tree_at s.store r) ≡ n → Refers fr x (n ∷ rest) r → Reaches fr o s →
    Ends fr.listed (subscripted at r v s) (λ r2 s2. (Refers fr x rest r2 × LeadsInto r r2 v) × Reaches fr o s2)
within_ends fr at x n rest r (pos i) s o low high e f h =
    let lt : i < n = omega (arith, ints, high) in
    let lt2 : i < length_of (tree_at s.store r) = omega (arith, lt, e) in
    first fr.listed (nat_lt i (length_of (tree_at s.store r))) (Goes (into r i) s) (undefined U5 at s) (λ r2 s2. (Refers fr x rest r2 × LeadsInto r r2 (pos i)) × Reaches fr o s2) (is_less i (length_of (tree_at s.store r)) lt2)
    ((into_refers fr x n i rest r lt f, record { index = i; value = refl; leads = refl }), h)
within_ends fr at x n rest r (negsuc i) s o low high e f h = absurd (omega (arith, ints, low))

-- one that may lie outside, at a place that is listed
listed_ends : (fr : Frame) (at : Pos) (x n : ℕ) (rest : List ℕ) (r : Reference) (v : ℤ) (s : State) (o : Option Known) → Contains fr.listed at → length_of (tree_at s.store r) ≡ n → Refers fr x (n ∷ rest) r → Reaches fr o s →
    Ends fr.listed (subscripted at r v s) (λ r2 s2. (Refers fr x rest r2 × LeadsInto r r2 v) × Reaches fr o s2)
listed_ends fr at x n rest r (pos i) s o al e f h = by (nat_lt i (length_of (tree_at s.store r))) (λ t. is_below i (length_of (tree_at s.store r)) t)
  where
    is_below : (i n : ℕ) → nat_lt i n ≡ true → i < n
    is_below i n t = grind (arith, nat_tests, t)

    by : (b : Bool) → (b ≡ true → i < length_of (tree_at s.store r)) → Ends fr.listed (choose b (Goes (into r i) s) (undefined U5 at s)) (λ r2 s2. (Refers fr x rest r2 × LeadsInto r r2 (pos i)) × Reaches fr o s2)
    by true q = let lt : i < length_of (tree_at s.store r) = q refl in let lt2 : i < n = omega (arith, lt, e) in ((into_refers fr x n i rest r lt2 f, record { index = i; value = refl; leads = refl }), h)
    by false q = al
listed_ends fr at x n rest r (negsuc i) s o al e f h = al

pub bounds_subscript : (fr : Frame) (at : Pos) (i : Interval) (n : ℕ) → pos 0 ≤ℤ i.low → i.high <ℤ pos n → Subscripts fr at i n
bounds_subscript fr at i n low high = record { is = λ x rest r v s o m e f h. within_ends fr at x n rest r v s o (omega (arith, ints, low, m.0)) (omega (arith, ints, high, m.1)) e f h }

pub listed_subscript : (fr : Frame) (at : Pos) (i : Interval) (n : ℕ) → Contains fr.listed at → Subscripts fr at i n
listed_subscript fr at i n al = record { is = λ x rest r v s o m e f h. listed_ends fr at x n rest r v s o al e f h }

pub element_rule : (fr : Frame) (at : Pos) (array : Place) (index : Value) (o : Option Known) (x n : ℕ) (rest : List ℕ) (sub : Option Interval) (o2 : Option Known) (i : Interval) (o3 : Option Known) (k : AbsValue) (sub2 : Option Interval) →
    Finds fr array o x (n ∷ rest) sub o2 → Evaluates fr index o2 i o3 → Contents o3 x k → Subscripts fr at i n → Subscribes sub2 i (shape_of fr x) → Finds fr (typed.element at array index) o x rest sub2 o3
element_rule fr at array index o x n rest sub o2 i o3 k sub2 f h g q u = record {
  runs = λ d s c.
      let post : Reference → State → Type 0 = λ r2 s2. (Refers fr x rest r2 × SubscriptIs sub2 r2.path) × Reaches fr o3 s2 in
      tick_ends fr.listed s _ post (λ m.
      place_then fr d array o x (n ∷ rest) sub o2 (record s { clock = m }) _ post f c (λ r s2 fr2 qs c2.
      value_then fr d index o2 i o3 s2 (λ v s. subscripted at r v s) post h c2 (λ v s3 mv c3.
      weaker fr.listed (subscripted at r v s3) _ post (q.is x rest r v s3 o3 mv (length_is fr o3 x k n rest r s3 g fr2 c3) fr2 c3) (λ r2 s4 z.
      ((z.0.0, subscribed sub2 i (shape_of fr x) n rest r r2 v u fr2.path z.0.1 mv), z.1)))));
}
  where
    alone : (lengths path : List ℕ) (n : ℕ) (rest : List ℕ) → OneRow lengths → Along lengths path (n ∷ rest) → path ≡ []
    alone [] path n rest one a = absurd one
    alone (m ∷ []) [] n rest one a = refl
    alone (m ∷ []) (j ∷ []) n rest one a = let e : [] ≡ n ∷ rest = a.1 in absurd (cc e)
    alone (m ∷ []) (j ∷ l ∷ path) n rest one a = absurd a.1
    alone (m ∷ l ∷ lengths) path n rest one a = absurd one

    subscribed : (sub : Option Interval) (i : Interval) (lengths : List ℕ) (n : ℕ) (rest : List ℕ) (r r2 : Reference) (v : ℤ) → Subscribes sub i lengths → Along lengths r.path (n ∷ rest) → LeadsInto r r2 v → In i v → SubscriptIs sub r2.path
    subscribed None i lengths n rest r r2 v u a l m = tt
    subscribed (Some j) i lengths n rest r r2 v u a l m =
        let P : Reference → Type 0 = λ r2. SubscriptIs (Some j) r2.path in
        let Q : List ℕ → Type 0 = λ path. SubscriptIs (Some j) (path ++ l.index ∷ []) in
        let J : Interval → Type 0 = λ j. In j (pos l.index) in
        let V : ℤ → Type 0 = λ v. In i v in
        subst P (sym l.leads) (subst Q (sym (alone lengths r.path n rest u.1 a)) (subst J (sym u.0) (subst V l.value m)))

-- ---- values

pub constant_rule : (fr : Frame) (t : IntType) (v : ℤ) (o : Option Known) (i : Interval) → In i v → Evaluates fr (typed.constant t v) o i o
constant_rule fr t v o i h = record { runs = λ d s c. tick_ends fr.listed s (λ s. Goes v s) (Both i fr o) (λ n. (h, c)) }

pub read_rule : (fr : Frame) (t : IntType) (place : Place) (o : Option Known) (x : ℕ) (sub : Option Interval) (o2 : Option Known) (k : AbsValue) → Finds fr place o x [] sub o2 → Reads o2 x sub k → MayRead fr (position_of place) k →
    Evaluates fr (typed.read t place) o k.interval o2
read_rule fr t place o x sub o2 k f g m = record {
  runs = λ d s c.
      place_then fr d place o x [] sub o2 s _ (Both k.interval fr o2) f c (λ r s2 q u c2. read_ends fr (position_of place) o2 x sub k r s2 g m q u c2);
}

pub assigned_rule : (fr : Frame) (at : Pos) (t : IntType) (place : Place) (e : Value) (o : Option Known) (x : ℕ) (sub : Option Interval) (o2 : Option Known) (i : Interval) (o3 : Option Known) (r : Interval) (o4 : Option Known) →
    Finds fr place o x [] sub o2 → length fr.program.literals ≤ x → Evaluates fr e o2 i o3 → Converts t i r → Writes fr o3 x sub r o4 → Evaluates fr (typed.assigned at t place e) o r o4
assigned_rule fr at t place e o x sub o2 i o3 r o4 f above h g w = record {
  runs = λ d s c.
      tick_ends fr.listed s _ (Both r fr o4) (λ n.
      place_then fr d place o x [] sub o2 (record s { clock = n }) _ (Both r fr o4) f c (λ to s2 q u c2.
      value_then fr d e o2 i o3 s2 _ (Both r fr o4) h c2 (λ v s3 m c3.
      write_ends fr at x sub to (converted t v) s3 r o3 o4 above w (g.gives v m) q u c3)));
}

pub compound_rule : (fr : Frame) (at : Pos) (op : BinOp) (t of : IntType) (place : Place) (e : Value) (o : Option Known) (x : ℕ) (sub : Option Interval) (o2 : Option Known) (j : Interval) (o3 : Option Known) (old : AbsValue) (k r : Interval)
    (o4 : Option Known) → Finds fr place o x [] sub o2 → length fr.program.literals ≤ x → Evaluates fr e o2 j o3 → Reads o3 x sub old → MayRead fr (position_of place) old → OperatesAt fr at op of old.interval j k → Converts t k r →
    Writes fr o3 x sub r o4 → Evaluates fr (typed.compound at op t of place e) o r o4
compound_rule fr at op t of place e o x sub o2 j o3 old k r o4 f above h rd mr g cv w = record {
  runs = λ d s c.
      tick_ends fr.listed s _ (Both r fr o4) (λ n.
      place_then fr d place o x [] sub o2 (record s { clock = n }) _ (Both r fr o4) f c (λ to s2 q z c2.
      value_then fr d e o2 j o3 s2 _ (Both r fr o4) h c2 (λ v s3 m c3.
      then_ends fr.listed (read (position_of place) to s3) _ (Both old.interval fr o3) (Both r fr o4) (read_ends fr (position_of place) o3 x sub old to s3 rd mr q z c3) (λ u s4 m4.
      computed_then fr.listed at (operated op of u v) s4 k _ (Both r fr o4) (g.gives u v m4.0 m) (λ y my.
      write_ends fr at x sub to (converted t y) s4 r o3 o4 above w (cv.gives y my) q z m4.1)))));
}

step_in : (moment : Moment) (i r : Interval) (old new : ℤ) → In i old → In r new → In (step_interval moment i r) (step_value moment old new)
step_in typed.after i r old new h k = h
step_in typed.before i r old new h k = k

pub stepped_rule : (fr : Frame) (at : Pos) (moment : Moment) (op : StepOp) (t of : IntType) (place : Place) (o : Option Known) (x : ℕ) (sub : Option Interval) (o2 : Option Known) (old : AbsValue) (k r : Interval)
    (o3 : Option Known) → Finds fr place o x [] sub o2 → length fr.program.literals ≤ x → Reads o2 x sub old → MayRead fr (position_of place) old → OperatesAt fr at (step_operation op) of old.interval (just (pos 1)) k → Converts t k r →
    Writes fr o2 x sub r o3 → Evaluates fr (typed.stepped at moment op t of place) o (step_interval moment old.interval r) o3
stepped_rule fr at moment op t of place o x sub o2 old k r o3 f above rd mr g cv w = let q = step_interval moment old.interval r in record {
  runs = λ d s c.
      tick_ends fr.listed s _ (Both q fr o3) (λ n.
      place_then fr d place o x [] sub o2 (record s { clock = n }) _ (Both q fr o3) f c (λ to s3 to_x z c3.
      then_ends fr.listed (read (position_of place) to s3) _ (Both old.interval fr o2) (Both q fr o3) (read_ends fr (position_of place) o2 x sub old to s3 rd mr to_x z c3) (λ u s4 m4.
      computed_then fr.listed at (operated (step_operation op) of u (pos 1)) s4 k _ (Both q fr o3) (g.gives u (pos 1) m4.0 (omega (arith, ints), omega (arith, ints))) (λ y my.
      then_ends fr.listed (write fr.program at to (converted t y) s4) _ (Both r fr o3) (Both q fr o3) (write_ends fr at x sub to (converted t y) s4 r o2 o3 above w (cv.gives y my) to_x z m4.1) (λ new s5 m5.
      (step_in moment old.interval r u new m4.0 m5.0, m5.1))))));
}

pub unary_rule : (fr : Frame) (at : Pos) (op : PrefixOp) (t : IntType) (e : Value) (o : Option Known) (i : Interval) (o2 : Option Known) (r : Interval) →
    Evaluates fr e o i o2 → SignsAt fr at op t i r → Evaluates fr (typed.unary at op t e) o r o2
unary_rule fr at op t e o i o2 r h g = record {
  runs = λ d s c.
      tick_ends fr.listed s _ (Both r fr o2) (λ n.
      value_then fr d e o i o2 (record s { clock = n }) _ (Both r fr o2) h c (λ v s2 m c2.
      computed_ends fr.listed at (sign_of op t v) s2 r (λ s2. Reaches fr o2 s2) (g.gives v m) c2));
}

pub binary_rule : (fr : Frame) (at : Pos) (op : BinOp) (t : IntType) (a b : Value) (o : Option Known) (i : Interval) (o2 : Option Known) (j : Interval) (o3 : Option Known) (r : Interval) →
    Evaluates fr a o i o2 → Evaluates fr b o2 j o3 → OperatesAt fr at op t i j r → Evaluates fr (typed.binary at op t a b) o r o3
binary_rule fr at op t a b o i o2 j o3 r ha hb g = record {
  runs = λ d s c.
      tick_ends fr.listed s _ (Both r fr o3) (λ n.
      value_then fr d a o i o2 (record s { clock = n }) _ (Both r fr o3) ha c (λ v s2 m c2.
      value_then fr d b o2 j o3 s2 _ (Both r fr o3) hb c2 (λ w s3 m3 c3.
      computed_ends fr.listed at (operated op t v w) s3 r (λ s2. Reaches fr o3 s2) (g.gives v w m m3) c3)));
}

-- ---- choices

pub by_truth : {A : Type 0} (b : Bool) (fr : Frame) (on off : Option Known) (s : State) (x y : Run A) (post : A → State → Type 0) → Reaches fr (either_way b on off) s →
    (Reaches fr on s → Ends fr.listed x post) → (Reaches fr off s → Ends fr.listed y post) → Ends fr.listed (choose b x y) post
by_truth true fr on off s x y post h f g = f h
by_truth false fr on off s x y post h f g = g h

pub test_then : {B : Type 0} (fr : Frame) (d : ℕ) (e : Value) (o on off : Option Known) (s : State) (x y : ℤ → State → Run B)
    (post : B → State → Type 0) → Tests fr e o on off → Reaches fr o s → ((v : ℤ) (s2 : State) → Reaches fr on s2 → Ends fr.listed (x v s2) post) → ((v : ℤ) (s2 : State) → Reaches fr off s2 → Ends fr.listed (y v s2) post) →
    Ends fr.listed (then_do (evaluate fr.program (calling fr.program d) e s) (λ v s. choose (truth v) (x v s) (y v s))) post
test_then fr d e o on off s x y post h c f g =
    then_ends fr.listed (evaluate fr.program (calling fr.program d) e s) _ (λ v s2. Reaches fr (either_way (truth v) on off) s2) post (h.runs d s c)
    (λ v s2 m. by_truth (truth v) fr on off s2 (x v s2) (y v s2) post m (f v s2) (g v s2))

abbrev truths : Interval
truths = record { low = pos 0; high = pos 1 }

truth_in : (b : Bool) → In truths (of_truth b)
truth_in true = (omega (arith, ints), omega (arith, ints))
truth_in false = (omega (arith, ints), omega (arith, ints))

pub both_rule : (fr : Frame) (a b : Value) (o on off : Option Known) (j : Interval) (o2 out : Option Known) →
    Tests fr a o on off → Evaluates fr b on j o2 → Implies o2 out → Implies off out → Evaluates fr (typed.both_true a b) o truths out
both_rule fr a b o on off j o2 out ha hb f g = record {
  runs = λ d s c.
      tick_ends fr.listed s _ (Both truths fr out) (λ n.
      test_then fr d a o on off (record s { clock = n }) (λ v s. then_do (evaluate fr.program (calling fr.program d) b s) (λ w s. Goes (of_truth (truth w)) s)) (λ v s. Goes (pos 0) s) (Both truths fr out) ha c
      (λ v s2 c2. value_then fr d b on j o2 s2 (λ w s. Goes (of_truth (truth w)) s) (Both truths fr out) hb c2 (λ w s3 m c3. (truth_in (truth w), f.is fr s3 c3)))
      (λ v s2 c2. (truth_in false, g.is fr s2 c2)));
}

pub one_rule : (fr : Frame) (a b : Value) (o on off : Option Known) (j : Interval) (o2 out : Option Known) →
    Tests fr a o on off → Evaluates fr b off j o2 → Implies o2 out → Implies on out → Evaluates fr (typed.one_true a b) o truths out
one_rule fr a b o on off j o2 out ha hb f g = record {
  runs = λ d s c.
      tick_ends fr.listed s _ (Both truths fr out) (λ n.
      test_then fr d a o on off (record s { clock = n }) (λ v s. Goes (pos 1) s) (λ v s. then_do (evaluate fr.program (calling fr.program d) b s) (λ w s. Goes (of_truth (truth w)) s)) (Both truths fr out) ha c
      (λ v s2 c2. (truth_in true, g.is fr s2 c2))
      (λ v s2 c2. value_then fr d b off j o2 s2 (λ w s. Goes (of_truth (truth w)) s) (Both truths fr out) hb c2 (λ w s3 m c3. (truth_in (truth w), f.is fr s3 c3))));
}

pub chosen_rule : (fr : Frame) (t : Option IntType) (e a b : Value) (o on off : Option Known) (i : Interval) (o2 : Option Known) (j : Interval) (o3 : Option Known) (k r : Interval) (out : Option Known) →
    Tests fr e o on off → Evaluates fr a on i o2 → Evaluates fr b off j o3 → Implies o2 out → Implies o3 out → Below i k → Below j k → ConvertsOr t k r → Evaluates fr (typed.chosen t e a b) o r out
chosen_rule fr t e a b o on off i o2 j o3 k r out he ha hb f g bi bj cv = record {
  runs = λ d s c.
      tick_ends fr.listed s _ (Both r fr out) (λ n.
      then_ends fr.listed (evaluate fr.program (calling fr.program d) e (record s { clock = n })) _ (λ v s2. Reaches fr (either_way (truth v) on off) s2) (Both r fr out) (he.runs d (record s { clock = n }) c) (λ v s2 m.
      then_ends fr.listed (choose (truth v) (evaluate fr.program (calling fr.program d) a s2) (evaluate fr.program (calling fr.program d) b s2)) _ (Both k fr out) (Both r fr out)
      (by_truth (truth v) fr on off s2 (evaluate fr.program (calling fr.program d) a s2) (evaluate fr.program (calling fr.program d) b s2) (Both k fr out) m
      (λ c2. weaker fr.listed (evaluate fr.program (calling fr.program d) a s2) (Both i fr o2) (Both k fr out) (ha.runs d s2 c2) (λ w s3 q. (below i k w bi q.0, f.is fr s3 q.1)))
      (λ c2. weaker fr.listed (evaluate fr.program (calling fr.program d) b s2) (Both j fr o3) (Both k fr out) (hb.runs d s2 c2) (λ w s3 q. (below j k w bj q.0, g.is fr s3 q.1))))
      (λ w s3 q. (cv.gives w q.0, q.1))));
}

pub sequence_rule : (fr : Frame) (a b : Value) (o : Option Known) (i : Interval) (o2 : Option Known) (j : Interval) (o3 : Option Known) →
    Evaluates fr a o i o2 → Evaluates fr b o2 j o3 → Evaluates fr (typed.sequence a b) o j o3
sequence_rule fr a b o i o2 j o3 ha hb = record {
  runs = λ d s c.
      tick_ends fr.listed s _ (Both j fr o3) (λ n.
      value_then fr d a o i o2 (record s { clock = n }) _ (Both j fr o3) ha c (λ v s2 m c2. hb.runs d s2 c2));
}

pub cast_rule : (fr : Frame) (t : IntType) (e : Value) (o : Option Known) (i r : Interval) (o2 : Option Known) →
    Evaluates fr e o i o2 → Converts t i r → Evaluates fr (typed.cast t e) o r o2
cast_rule fr t e o i r o2 h g = record {
  runs = λ d s c.
      tick_ends fr.listed s _ (Both r fr o2) (λ n.
      value_then fr d e o i o2 (record s { clock = n }) _ (Both r fr o2) h c (λ v s2 m c2. (g.gives v m, c2)));
}

pub discarded_rule : (fr : Frame) (e : Value) (o : Option Known) (i r : Interval) (o2 : Option Known) →
    Evaluates fr e o i o2 → In r (pos 0) → Evaluates fr (typed.discarded e) o r o2
discarded_rule fr e o i r o2 h g = record {
  runs = λ d s c.
      tick_ends fr.listed s _ (Both r fr o2) (λ n.
      value_then fr d e o i o2 (record s { clock = n }) _ (Both r fr o2) h c (λ v s2 m c2. (g, c2)));
}

-- ---- arguments and calls of built-in functions (6.5.2.2)

pub no_arguments_rule : (fr : Frame) (o : Option Known) → Passes fr typed.no_arguments o [] [] o
no_arguments_rule fr o = record { runs = λ d s c. (record { numbers = tt; arrays_are = tt }, c) }

pub number_rule : (fr : Frame) (t : IntType) (e : Value) (more : Arguments) (o : Option Known) (i r : Interval) (o2 : Option Known) (is : List Interval) (ps : List ArrayArgument) (o3 : Option Known) →
    Evaluates fr e o i o2 → Converts t i r → Passes fr more o2 is ps o3 → Passes fr (typed.and_number t e more) o (r ∷ is) ps o3
number_rule fr t e more o i r o2 is ps o3 h cv g = record {
  runs = λ d s c.
      let post : List Passed → State → Type 0 = λ passed s2. Are fr (r ∷ is) ps passed × Reaches fr o3 s2 in
      value_then fr d e o i o2 s _ post h c (λ v s2 m c2.
      then_ends fr.listed (pass fr.program (calling fr.program d) more s2) _ (λ passed s3. Are fr is ps passed × Reaches fr o3 s3) post (g.runs d s2 c2) (λ passed s3 q.
      (record { numbers = (cv.gives v m, q.0.numbers); arrays_are = q.0.arrays_are }, q.1)));
}

pub array_rule : (fr : Frame) (array : Place) (more : Arguments) (o : Option Known) (a : ArrayArgument) (sub : Option Interval) (o2 : Option Known) (is : List Interval) (ps : List ArrayArgument) (o3 : Option Known) → a.object < length (shapes_of fr) →
    Finds fr array o a.object (rest_of (shapes_of fr) a.object a.depth) sub o2 → Passes fr more o2 is ps o3 → Passes fr (typed.and_array array more) o is (a ∷ ps) o3
array_rule fr array more o a sub o2 is ps o3 lt f g = record {
  runs = λ d s c.
      let post : List Passed → State → Type 0 = λ passed s2. Are fr is (a ∷ ps) passed × Reaches fr o3 s2 in
      place_then fr d array o a.object (rest_of (shapes_of fr) a.object a.depth) sub o2 s _ post f c (λ r s2 m z c2.
      then_ends fr.listed (pass fr.program (calling fr.program d) more s2) _ (λ passed s3. Are fr is ps passed × Reaches fr o3 s3) post (g.runs d s2 c2) (λ passed s3 q.
      (record { numbers = q.0.numbers; arrays_are = (record { object = m.object; lives = lt; path = m.path }, q.0.arrays_are) }, q.1)));
}

pub arguments_then : (fr : Frame) (d : ℕ) (arguments : Arguments) (o : Option Known) (is : List Interval) (ps : List ArrayArgument) (o2 : Option Known) (s : State) (go : List Passed → State → Run ℤ) (post : ℤ → State → Type 0) →
    Passes fr arguments o is ps o2 → Reaches fr o s → ((passed : List Passed) (s2 : State) → Are fr is ps passed → Reaches fr o2 s2 → Ends fr.listed (go passed s2) post) →
    Ends fr.listed (tick s (λ s. then_do (pass fr.program (calling fr.program d) arguments s) go)) post
arguments_then fr d arguments o is ps o2 s go post h c next = tick_ends fr.listed s (λ s. then_do (pass fr.program (calling fr.program d) arguments s) go) post (λ n.
    then_ends fr.listed (pass fr.program (calling fr.program d) arguments (record s { clock = n })) go (λ passed s2. Are fr is ps passed × Reaches fr o2 s2) post (h.runs d (record s { clock = n }) c) (λ passed s2 m. next passed s2 m.0 m.1))

less_input : (fr : Frame) (o : Option Known) (base : ℕ) (arrays : List Reference) (store : Store) (b : ℕ) (more : List ℕ) → ReachesAt fr o base arrays store (b ∷ more) → (b < 256) × ReachesAt fr o base arrays store more
less_input fr None base arrays store b more h = absurd h
less_input fr (Some k) base arrays store b more h = (h.bytes.0, record { based = h.based; referred = h.referred; objects_are = h.objects_are; facts_are = h.facts_are; bytes = h.bytes.1; sound = h.sound })

got_byte : (fr : Frame) (o : Option Known) (s : State) (input : List ℕ) → ReachesAt fr o s.base s.arrays s.store input → Reaches fr o s → Ends fr.listed (get_byte input s) (Both got fr o)
got_byte fr o s [] h c = ((omega (arith, ints), omega (arith, ints)), c)
got_byte fr o s (b ∷ more) h c = let k = less_input fr o s.base s.arrays s.store b more h in ((omega (arith, ints), omega (arith, ints, k.0)), k.1)

pub get_byte_rule : (fr : Frame) (at : Pos) (t : Option IntType) (used : Bool) (arguments : Arguments) (o : Option Known) (is : List Interval) (ps : List ArrayArgument) (o2 : Option Known) → Passes fr arguments o is ps o2 →
    Evaluates fr (typed.call at typed.get_byte t used arguments) o got o2
get_byte_rule fr at t used arguments o is ps o2 h = record {
  runs = λ d s c.
      arguments_then fr d arguments o is ps o2 s _ (Both got fr o2) h c (λ passed s2 a c2. got_byte fr o2 s2 s2.input c2 c2);
}

pub put_byte_rule : (fr : Frame) (at : Pos) (t : Option IntType) (used : Bool) (arguments : Arguments) (o : Option Known) (is : List Interval) (ps : List ArrayArgument) (o2 : Option Known) (r : Interval) → Passes fr arguments o is ps o2 → In r (pos 0) →
    Evaluates fr (typed.call at typed.put_byte t used arguments) o r o2
put_byte_rule fr at t used arguments o is ps o2 r h g = record {
  runs = λ d s c.
      arguments_then fr d arguments o is ps o2 s _ (Both r fr o2) h c (λ passed s2 a c2. (g, c2));
}

pub exit_rule : (fr : Frame) (at : Pos) (t : Option IntType) (used : Bool) (arguments : Arguments) (o : Option Known) (is : List Interval) (ps : List ArrayArgument) (o2 o3 : Option Known) (r : Interval) → Passes fr arguments o is ps o2 →
    Evaluates fr (typed.call at typed.exit t used arguments) o r o3
exit_rule fr at t used arguments o is ps o2 o3 r h = record {
  runs = λ d s c.
      arguments_then fr d arguments o is ps o2 s _ (Both r fr o3) h c (λ passed s2 a c2. tt);
}

-- ---- tests

pub value_tests : (fr : Frame) (e : Value) (o : Option Known) (i : Interval) (o2 on off : Option Known) → Evaluates fr e o i o2 → Splits i o2 on off → Tests fr e o on off
value_tests fr e o i o2 on off h g = record {
  runs = λ d s c.
      weaker fr.listed (evaluate fr.program (calling fr.program d) e s) (Both i fr o2) (λ v s2. Reaches fr (either_way (truth v) on off) s2) (h.runs d s c) (λ v s2 m. g.is fr s2 v m.0 m.1);
}

truth_way : (b : Bool) (fr : Frame) (on off on2 off2 : Option Known) (s : State) → (Reaches fr on s → Reaches fr on2 s) → (Reaches fr off s → Reaches fr off2 s) →
    Reaches fr (either_way b on off) s → Reaches fr (either_way (truth (of_truth b)) on2 off2) s
truth_way true fr on off on2 off2 s f g h = f h
truth_way false fr on off on2 off2 s f g h = g h

pub both_tests : (fr : Frame) (a b : Value) (o on off on2 off2 out : Option Known) →
    Tests fr a o on off → Tests fr b on on2 off2 → Implies off2 out → Implies off out → Tests fr (typed.both_true a b) o on2 out
both_tests fr a b o on off on2 off2 out ha hb f g = record {
  runs = λ d s c.
      let post : ℤ → State → Type 0 = λ v s2. Reaches fr (either_way (truth v) on2 out) s2 in
      tick_ends fr.listed s _ post (λ n.
      test_then fr d a o on off (record s { clock = n }) (λ v s. then_do (evaluate fr.program (calling fr.program d) b s) (λ w s. Goes (of_truth (truth w)) s)) (λ v s. Goes (pos 0) s) post ha c
      (λ v s2 c2. then_ends fr.listed (evaluate fr.program (calling fr.program d) b s2) _ (λ w s3. Reaches fr (either_way (truth w) on2 off2) s3) post (hb.runs d s2 c2)
      (λ w s3 m. truth_way (truth w) fr on2 off2 on2 out s3 (λ h. h) (f.is fr s3) m))
      (λ v s2 c2. g.is fr s2 c2));
}

pub one_tests : (fr : Frame) (a b : Value) (o on off on2 off2 out : Option Known) →
    Tests fr a o on off → Tests fr b off on2 off2 → Implies on2 out → Implies on out → Tests fr (typed.one_true a b) o out off2
one_tests fr a b o on off on2 off2 out ha hb f g = record {
  runs = λ d s c.
      let post : ℤ → State → Type 0 = λ v s2. Reaches fr (either_way (truth v) out off2) s2 in
      tick_ends fr.listed s _ post (λ n.
      test_then fr d a o on off (record s { clock = n }) (λ v s. Goes (pos 1) s) (λ v s. then_do (evaluate fr.program (calling fr.program d) b s) (λ w s. Goes (of_truth (truth w)) s)) post ha c
      (λ v s2 c2. g.is fr s2 c2)
      (λ v s2 c2. then_ends fr.listed (evaluate fr.program (calling fr.program d) b s2) _ (λ w s3. Reaches fr (either_way (truth w) on2 off2) s3) post (hb.runs d s2 c2)
      (λ w s3 m. truth_way (truth w) fr on2 off2 out off2 s3 (f.is fr s3) (λ h. h) m)));
}
