-- Abstract states, and the states of the abstract machine that they describe.
use Rattle.std.specs.Prelude.{◌≡◌, ◌<◌, ℕ, ℤ, pos, ◌≤ℤ◌, List, [], ◌∷◌, ◌++◌, map, drop, length, Option, Some, None, false, Contains, nat_eq, slice_get}
use Rattle.srcset.specs.declared.refusal.Pos.{Pos}
use Rattle.ctypes.specs.declared.types.IntType.{IntType}
use Rattle.ctypes.specs.Types.{least, greatest}
use Rattle.typing_spec.specs.Types.{ObjectType}
use Rattle.typing_spec.specs.Program.{Function, Program}
use Rattle.csem.specs.Store.{Tree, Element, Array, Row, no_parts, and_part, parts, value_of, at_path, Store, Reference, whole, into, put, put_in}
use Rattle.csem.specs.Machine.{State, Ended, Undefined, TicksUsed, Run, Goes, Stops, then_do, stored}
use Rattle.csem.specs.Meaning.{body_of, value_left, calling}
use Rattle.verify_logic.specs.declared.abstract_values.Interval.{Interval}
use Rattle.verify_logic.specs.declared.abstract_values.AbsValue.{AbsValue}
use Rattle.verify_logic.specs.declared.abstract_values.ArrayArgument.{ArrayArgument}
use Rattle.verify_logic.specs.declared.abstract_values.Fact.{Fact}

-- an abstract state: the values of all objects, and facts on single elements of arrays
pub record Known : Type 0 where
  pub objects : List AbsValue
  pub facts : List Fact

-- a summary of a function's body: entered with these values of all objects, of which those before the call have these lengths,
-- and with these arrays, it ends with a value in `value` and leaves the objects as `left` says
pub record Summary : Type 0 where
  pub function : ℕ
  pub outer : List (List ℕ)
  pub arrays : List ArrayArgument
  pub entry : Known
  pub value : AbsValue
  pub left : Option Known

-- the call and the program in which an expression is evaluated: the places at which undefined behaviour is admitted, the summaries of
-- calls, the lengths of each object that lived before the call (none for a scalar), the objects of the call, and the targets of its array
-- parameters
pub record Frame : Type 0 where
  pub program : Program
  pub listed : List Pos
  pub summaries : List Summary
  pub outer : List (List ℕ)
  pub objects : List ObjectType
  pub arrays : List ArrayArgument

abbrev pub lengths_in : ObjectType → List ℕ
lengths_in t = t.lengths

-- the lengths of all objects
abbrev pub shapes_of : Frame → List (List ℕ)
shapes_of fr = fr.outer ++ map lengths_in fr.objects

-- ---- values

abbrev pub In : Interval → ℤ → Type 0
In i v = (i.low ≤ℤ v) × (v ≤ℤ i.high)

abbrev pub just : ℤ → Interval
just v = record { low = v; high = v }

abbrev pub range_of : IntType → Interval
range_of t = record { low = least t; high = greatest t }

-- an element that may be indeterminate
abbrev pub ValueIs : AbsValue → Option ℤ → Type 0
ValueIs k None = k.initialised ≡ false
ValueIs k (Some v) = In k.interval v

-- ---- objects

abbrev pub EachPart : (Tree → Type 0) → Row → Type 0
EachPart P no_parts = Unit {0}
EachPart P (and_part t row) = P t × EachPart P row

-- a tree of these lengths, each of whose elements is such a value
abbrev pub TreeIs : AbsValue → List ℕ → Tree → Type 0
TreeIs k [] (Element v) = ValueIs k v
TreeIs k [] (Array row) = ⊥
TreeIs k (n ∷ lengths) (Element v) = ⊥
TreeIs k (n ∷ lengths) (Array row) = (parts row ≡ n) × EachPart (TreeIs k lengths) row

abbrev pub ObjectsAre : List AbsValue → List (List ℕ) → Store → Type 0
ObjectsAre [] [] [] = Unit {0}
ObjectsAre [] [] (t ∷ store) = ⊥
ObjectsAre [] (lengths ∷ shapes) store = ⊥
ObjectsAre (k ∷ ks) [] store = ⊥
ObjectsAre (k ∷ ks) (lengths ∷ shapes) [] = ⊥
ObjectsAre (k ∷ ks) (lengths ∷ shapes) (t ∷ store) = TreeIs k lengths t × ObjectsAre ks shapes store

abbrev pub HasValueIn : Interval → Option ℤ → Type 0
HasValueIn i None = ⊥
HasValueIn i (Some v) = In i v

-- the element has a value in the interval
abbrev pub FactIs : Fact → Store → Type 0
FactIs f store = HasValueIn f.interval (value_of (at_path (slice_get store f.object) (f.index ∷ [])))

abbrev pub FactsAre : List Fact → Store → Type 0
FactsAre [] store = Unit {0}
FactsAre (f ∷ facts) store = FactIs f store × FactsAre facts store

abbrev pub or_scalar : Option (List ℕ) → List ℕ
or_scalar None = []
or_scalar (Some lengths) = lengths

-- the lengths of object x
abbrev pub shape_of : Frame → ℕ → List ℕ
shape_of fr x = or_scalar (slice_get (shapes_of fr) x)

-- ---- arrays that are passed (6.5.2.1, 6.9.1p10)

-- subscripts that lie within these lengths lead to a row or an element of the rest of them
abbrev pub Along : List ℕ → (path : List ℕ) → (rest : List ℕ) → Type 0
Along lengths [] rest = lengths ≡ rest
Along [] (i ∷ path) rest = ⊥
Along (n ∷ lengths) (i ∷ path) rest = (i < n) × Along lengths path rest

-- the lengths of a row after `depth` subscripts of object x
abbrev pub rest_of : List (List ℕ) → (x depth : ℕ) → List ℕ
rest_of shapes x depth = drop depth (or_scalar (slice_get shapes x))

-- among objects of these lengths, a reference to such an array
pub record ArrayIs (shapes : List (List ℕ)) (a : ArrayArgument) (r : Reference) : Type 0 where
  pub object : r.object ≡ a.object
  pub lives : a.object < length shapes
  pub path : Along (or_scalar (slice_get shapes a.object)) r.path (rest_of shapes a.object a.depth)

abbrev pub ArraysAre : List (List ℕ) → List ArrayArgument → List Reference → Type 0
ArraysAre shapes [] [] = Unit {0}
ArraysAre shapes [] (r ∷ rs) = ⊥
ArraysAre shapes (a ∷ ps) [] = ⊥
ArraysAre shapes (a ∷ ps) (r ∷ rs) = ArrayIs shapes a r × ArraysAre shapes ps rs

-- ---- states

abbrev pub AreBytes : List ℕ → Type 0
AreBytes [] = Unit {0}
AreBytes (b ∷ more) = (b < 256) × AreBytes more

-- the objects have such values, those of the call after the others, these arrays are passed, and the input left is of bytes
pub record Covers (outer : List (List ℕ)) (passed : List ArrayArgument) (objects : List ObjectType) (known : Known) (base : ℕ) (arrays : List Reference) (store : Store) (input : List ℕ) : Type 0 where
  pub based : base ≡ length outer
  pub referred : ArraysAre outer passed arrays
  pub objects_are : ObjectsAre known.objects (outer ++ map lengths_in objects) store
  pub facts_are : FactsAre known.facts store
  pub bytes : AreBytes input

-- without an abstract state, no run reaches this point
abbrev pub CoversState : (outer : List (List ℕ)) → (passed : List ArrayArgument) → (objects : List ObjectType) → Option Known → State → Type 0
CoversState outer passed objects None s = ⊥
CoversState outer passed objects (Some known) s = Covers outer passed objects known s.base s.arrays s.store s.input

-- a part of a run continues with the postcondition, ends, or uses its ticks; it meets undefined behaviour only at one of the places
abbrev pub Ends : {A : Type 0} → List Pos → Run A → (A → State → Type 0) → Type 0
Ends listed (Goes a s) post = post a s
Ends listed (Stops (Ended n) s) post = Unit {0}
Ends listed (Stops (Undefined act at) s) post = Contains listed at
Ends listed (Stops TicksUsed s) post = Unit {0}

-- a function's body, before its objects end
abbrev pub body_and_value : Program → (f d : ℕ) → Function → State → Run (Option ℤ)
body_and_value p f d g s = then_do (body_of p (calling p d) g s) (λ flow s2. Goes (value_left (nat_eq f p.main) flow) s2)

-- the summary holds, with calls at most d deep
abbrev pub IsSound : Program → List Pos → Summary → Type 0
IsSound p listed a = (g : Function) → slice_get p.functions a.function ≡ Some g → (d : ℕ) (s : State) → CoversState a.outer a.arrays g.objects (Some a.entry) s →
    Ends listed (body_and_value p a.function d g s) (λ v s2. ValueIs a.value v × CoversState a.outer a.arrays g.objects a.left s2)

abbrev pub AreSound : Program → List Pos → List Summary → Type 0
AreSound p listed [] = Unit {0}
AreSound p listed (a ∷ more) = IsSound p listed a × AreSound p listed more

-- the objects have such values, the call is that of the frame, and the frame's summaries of calls hold
pub record Holds (fr : Frame) (known : Known) (base : ℕ) (arrays : List Reference) (store : Store) (input : List ℕ) : Type 0 where
  pub based : base ≡ length fr.outer
  pub referred : ArraysAre fr.outer fr.arrays arrays
  pub objects_are : ObjectsAre known.objects (shapes_of fr) store
  pub facts_are : FactsAre known.facts store
  pub bytes : AreBytes input
  pub sound : AreSound fr.program fr.listed fr.summaries

-- without an abstract state, no run reaches this point
abbrev pub ReachesAt : Frame → Option Known → (base : ℕ) → (arrays : List Reference) → Store → (input : List ℕ) → Type 0
ReachesAt fr None base arrays store input = ⊥
ReachesAt fr (Some known) base arrays store input = Holds fr known base arrays store input

-- the abstract state describes state s of a run within the frame
abbrev pub Reaches : Frame → Option Known → State → Type 0
Reaches fr o s = ReachesAt fr o s.base s.arrays s.store s.input

-- ---- implications

abbrev pub Below : Interval → Interval → Type 0
Below i j = (j.low ≤ℤ i.low) × (i.high ≤ℤ j.high)

pub record Entails (a b : AbsValue) : Type 0 where
  pub is : (v : Option ℤ) → ValueIs a v → ValueIs b v

abbrev pub EachEntails : List AbsValue → List AbsValue → Type 0
EachEntails [] [] = Unit {0}
EachEntails [] (b ∷ bs) = ⊥
EachEntails (a ∷ rest) [] = ⊥
EachEntails (a ∷ rest) (b ∷ bs) = Entails a b × EachEntails rest bs

-- the first facts imply the others
pub record FactsImply (facts facts2 : List Fact) : Type 0 where
  pub is : (store : Store) → FactsAre facts store → FactsAre facts2 store

pub record KnownEntails (a b : Known) : Type 0 where
  pub objects : EachEntails a.objects b.objects
  pub facts : FactsImply a.facts b.facts

-- one of the facts is that this element has a value in the interval
pub record Among (facts : List Fact) (x index : ℕ) (i : Interval) : Type 0 where
  pub is : (store : Store) → FactsAre facts store → FactIs (record { object = x; index = index; interval = i }) store

pub record Implies (o o2 : Option Known) : Type 0 where
  pub is : (fr : Frame) (s : State) → Reaches fr o s → Reaches fr o2 s

-- ---- references (6.5.2.1)

-- a reference into object x, to an array of these lengths or an element
pub record Refers (fr : Frame) (x : ℕ) (rest : List ℕ) (r : Reference) : Type 0 where
  pub object : r.object ≡ x
  pub path : Along (shape_of fr x) r.path rest

-- where `sub` is known: there is one subscript, which lies in the interval
abbrev pub SubscriptIs : Option Interval → (path : List ℕ) → Type 0
SubscriptIs None path = Unit {0}
SubscriptIs (Some i) [] = ⊥
SubscriptIs (Some i) (j ∷ []) = In i (pos j)
SubscriptIs (Some i) (j ∷ k ∷ path) = ⊥

-- the reference leads to element v of the array at another
pub record LeadsInto (r r2 : Reference) (v : ℤ) : Type 0 where
  pub index : ℕ
  pub value : v ≡ pos index
  pub leads : r2 ≡ into r index

abbrev pub ObjectIs : AbsValue → List ℕ → Option Tree → Type 0
ObjectIs k lengths None = ⊥
ObjectIs k lengths (Some t) = TreeIs k lengths t

-- the elements of object x are such values
pub record Contents (o : Option Known) (x : ℕ) (k : AbsValue) : Type 0 where
  pub is : (fr : Frame) (s : State) → Reaches fr o s → ObjectIs k (shape_of fr x) (slice_get s.store x)

-- an element of object x, whose subscript is in `sub` if that is known, has such a value
pub record Reads (o : Option Known) (x : ℕ) (sub : Option Interval) (k : AbsValue) : Type 0 where
  pub is : (fr : Frame) (s : State) (r : Reference) → Reaches fr o s → Refers fr x [] r → SubscriptIs sub r.path → ValueIs k (value_of (at_path (slice_get s.store r.object) r.path))

-- each element of object x whose subscript lies in the interval has a value in the other
pub record ReadsAll (facts : List Fact) (x : ℕ) (j k : Interval) : Type 0 where
  pub is : (store : Store) (i : ℕ) → FactsAre facts store → In j (pos i) → HasValueIn k (value_of (at_path (slice_get store x) (i ∷ [])))

-- `facts2` holds after any write to object x if `facts` holds before it
pub record Forgets (x : ℕ) (facts facts2 : List Fact) : Type 0 where
  pub is : (store : Store) (path : List ℕ) (new : Tree) → FactsAre facts store → FactsAre facts2 (put_in store x path new)

-- for one of them: if f holds before such a write, g holds after it
pub record ChangesOne (x : ℕ) (j i : Interval) (f g : Fact) : Type 0 where
  pub is : (store : Store) (path : List ℕ) (v : ℤ) (u : Tree) → at_path (slice_get store x) path ≡ Some u → SubscriptIs (Some j) path → In i v → FactIs f store → FactIs g (put_in store x path (Element (Some v)))

-- these facts hold after a value in the interval has been written to an element of object x, whose subscript is in `sub` if that is known
pub record Changes (x : ℕ) (sub : Option Interval) (i : Interval) (facts facts2 : List Fact) : Type 0 where
  pub is : (store : Store) (path : List ℕ) (v : ℤ) (u : Tree) → at_path (slice_get store x) path ≡ Some u → SubscriptIs sub path → In i v → FactsAre facts store → FactsAre facts2 (put_in store x path (Element (Some v)))

-- an object becomes another of its lengths
pub record Replaces (o : Option Known) (x : ℕ) (k : AbsValue) (o2 : Option Known) : Type 0 where
  pub is : (fr : Frame) (s : State) (new : Tree) → Reaches fr o s → TreeIs k (shape_of fr x) new → Reaches fr o2 (record s { store = put s.store (whole x) new })

-- a value in the interval is written to an element of object x, whose subscript is in `sub` if that is known
pub record Writes (fr : Frame) (o : Option Known) (x : ℕ) (sub : Option Interval) (i : Interval) (o2 : Option Known) : Type 0 where
  pub is : (s : State) (r : Reference) (v : ℤ) → Reaches fr o s → Refers fr x [] r → SubscriptIs sub r.path → In i v → Reaches fr o2 (stored r v s)
