-- Rules as the functions have them.
use Rattle.std.proofs.Common.{◌≡◌, ◌≤◌, ◌<◌, ◌+◌, ◌∙◌, ℕ, zero, suc, ℤ, pos, List, [], ◌∷◌, ◌++◌, length, map, drop, take, get_or, refl, sym, ap, subst, arith, add-one}
use Rattle.std.proofs.lemmas.List.{take_all}
use Rattle.std.proofs.Math.Seq.{take-suc}
use Rattle.std.proofs.lemmas.Int.{ints}
use Rattle.std.specs.Prelude.{Option, Some, None, IfOk, IfSome, Bool, true, false, slice_get, slice_set, Result, Ok, Err, Contains}
use Rattle.srcset.specs.declared.refusal.Pos.{Pos}
use Rattle.ctypes.specs.declared.types.IntType.{IntType}
use Rattle.ctypes.specs.declared.types.IntType.TheVariants as ty
use Rattle.ctypes.specs.declared.operators.BinOp.{BinOp}
use Rattle.ctypes.specs.declared.operators.Undef.{Undef}
use Rattle.ctypes.specs.Types.{IsValueOf}
use Rattle.ctypes.specs.Arithmetic.{result_type}
use Rattle.tree.specs.declared.expression.PrefixOp.{PrefixOp}
use Rattle.tree.specs.declared.expression.StepOp.{StepOp}
use Rattle.tree.specs.declared.expression.StepOp.TheVariants.{Increment, Decrement}
use Rattle.typing_spec.specs.Operators.{operated, sign_of, signed_type}
use Rattle.typing_spec.specs.Program as typed
use Rattle.typing_spec.specs.Program.{Moment, Place, Value, Arguments}
use Rattle.typed_ast.specs.declared.types.ObjectType as held
use Rattle.typed_ast.specs.declared.expressions.Argument.{Argument}
use Rattle.typed_ast.specs.declared.storage_places.Callee as callee
use Rattle.typed_ast.specs.declared.storage_places.Callee.TheVariants as called
use Rattle.typed_ast.specs.declared.storage_places.Storage as stored
use Rattle.typed_ast.specs.declared.storage_places.Storage.TheVariants as kind
use Rattle.typed_ast.specs.View.{Given, number_given, array_given, argument_of, arguments_of, and_given, callee_of, storage_of}
use Rattle.csem.specs.Store.{Tree, Element, Array, Row, no_parts, and_part, parts, Store, Reference, put_at, put_in, put}
use Rattle.csem.specs.Machine.{State}
use Rattle.csem.specs.Expressions.{step_operation, position_of}
use Rattle.csem.proofs.Fits.{operation_fits, sign_fits}
use Rattle.std.specs.declared.vec.Vec.{Vec}
use Rattle.std.specs.declared.alloc.Global.{Global}
use Rattle.verify_logic.specs.declared.abstract_values.Interval.{Interval}
use Rattle.verify_logic.specs.declared.abstract_values.AbsValue.{AbsValue}
use Rattle.verify_logic.specs.declared.abstract_values.ArrayArgument.{ArrayArgument}
use Rattle.verify_logic.specs.States.{Known, Frame, In, just, Below, range_of, shape_of, shapes_of, Along, EachPart, Refers, Contents, Replaces, Reads, Writes, Implies, Entails, TreeIs, ObjectIs, Reaches}
use Rattle.verify_logic.specs.Judgements.{Evaluates, Tests, Operates, OperatesAt, Signs, SignsAt, GivesOr, MayRead, Subscripts, Converts}
use Rattle.verify_logic.specs.Places.{OneRow, Subscribes, NonZero, Splits, Designates, Finds, FindsAt, Passes, got, step_interval}
use Rattle.verify_logic.proofs.Runs.{gives_or}
use Rattle.verify_logic.proofs.Objects.{value_put}
use Rattle.verify_logic.proofs.Rules.{named_rule, finds_at, element_rule, read_rule, compound_rule, stepped_rule, both_rule, one_rule, get_byte_rule, put_byte_rule, exit_rule, number_rule, array_rule, no_arguments_rule, value_tests}
use Rattle.verify_logic.specs.declared.operands.Operand.{Operand}
use Rattle.verify_logic.specs.declared.operands.Operand.TheVariants.{Object}
use Rattle.verify_logic.specs.declared.operands.Relation.{Relation}
use Rattle.verify_logic.specs.Relations.{Tells, Narrows, Looks, Restricts, RestrictsBoth, Learns}
use Rattle.verify_logic.proofs.Splits.{nonzero_same}
use Rattle.verify_logic.proofs.Compares.{set_restricts, learns_straight, learns_swapped, compare_fits}
use Rattle.verify_expressions.specs.declared.state.AbsState.{AbsState}
use Rattle.verify_expressions.specs.declared.stop.Stop.{Stop}
use Rattle.verify_expressions.specs.declared.expressions.Evaluated.{Evaluated}
use Rattle.verify_expressions.specs.declared.conditions.Tested.{Tested}
use Rattle.verify_expressions.specs.Views.{state_of, shape_in, own_shape_in}
use Rattle.verify_expressions.proofs.Work.{work_arguments}
use Rattle.verify_expressions.specs.Parts.{OneElement, PassesAll, PassesOne, VariableAt, CallsAt, LearnsBoth}

-- ---- operators at their places

pub operates_at : (fr : Frame) (at : Pos) (op : BinOp) (t : IntType) (i j r : Interval) → Operates op t i j r → OperatesAt fr at op t i j r
operates_at fr at op t i j r h = record { gives = λ v w m n. gives_or fr.listed at r (operated op t v w) (h.gives v w m n) }

pub operates_listed : (fr : Frame) (at : Pos) (op : BinOp) (t u : IntType) (i j r : Interval) → Contains fr.listed at → u ≡ result_type op t → r ≡ range_of u → OperatesAt fr at op t i j r
operates_listed fr at op t u i j r al eu er = let P : Interval → Type 0 = λ r. OperatesAt fr at op t i j r in let Q : IntType → Type 0 = λ u. OperatesAt fr at op t i j (range_of u) in
    subst P (sym er) (subst Q (sym eu) (record { gives = λ v w m n. by (operated op t v w) (operation_fits op t v w) }))
  where
    by : (x : Result ℤ Undef) → IfOk x (λ v. IsValueOf (result_type op t) v) → GivesOr fr.listed at (range_of (result_type op t)) x
    by (Ok v) h = h
    by (Err act) h = al

pub signs_at : (fr : Frame) (at : Pos) (op : PrefixOp) (t : IntType) (i r : Interval) → Signs op t i r → SignsAt fr at op t i r
signs_at fr at op t i r h = record { gives = λ v m. gives_or fr.listed at r (sign_of op t v) (h.gives v m) }

pub signs_listed : (fr : Frame) (at : Pos) (op : PrefixOp) (t u : IntType) (i r : Interval) → Contains fr.listed at → u ≡ signed_type op t → r ≡ range_of u → SignsAt fr at op t i r
signs_listed fr at op t u i r al eu er = let P : Interval → Type 0 = λ r. SignsAt fr at op t i r in let Q : IntType → Type 0 = λ u. SignsAt fr at op t i (range_of u) in
    subst P (sym er) (subst Q (sym eu) (record { gives = λ v m. by (sign_of op t v) (sign_fits op t v) }))
  where
    by : (x : Result ℤ Undef) → IfOk x (λ v. IsValueOf (signed_type op t) v) → GivesOr fr.listed at (range_of (signed_type op t)) x
    by (Ok v) h = h
    by (Err act) h = al

step_type : (op : StepOp) (t : IntType) → t ≡ result_type (step_operation op) t
step_type Increment t = refl
step_type Decrement t = refl

pub steps_listed : (fr : Frame) (at : Pos) (op : StepOp) (t : IntType) (i r : Interval) → Contains fr.listed at → r ≡ range_of t → OperatesAt fr at (step_operation op) t i (just (pos 1)) r
steps_listed fr at op t i r al er = operates_listed fr at (step_operation op) t t i (just (pos 1)) r al (step_type op t) er

-- ---- places

pub literal_named : (fr : Frame) (n : ℕ) (what : stored.Storage) → what ≡ kind.Literal n → Designates fr (storage_of what) n 0
literal_named fr n what e = let P : stored.Storage → Type 0 = λ what. Designates fr (storage_of what) n 0 in subst P (sym e) (record { is = λ s b a. record { object = refl; path = refl } })

static_some : (fr : Frame) (count n : ℕ) (r : Option ℕ) → count ≡ length fr.program.literals → IfSome r (λ x. x ≡ count + n) → IfSome r (λ x. Designates fr (typed.static n) x 0)
static_some fr count n None e h = tt
static_some fr count n (Some x) e h = record { is = λ s b a. record { object = (let q : length fr.program.literals + n ≡ x = omega (arith, e, h) in q); path = refl } }

pub static_named : (fr : Frame) (count n : ℕ) (what : stored.Storage) (r : Option ℕ) → what ≡ kind.Static n → count ≡ length fr.program.literals → IfSome r (λ x. x ≡ count + n) → IfSome r (λ x. Designates fr (storage_of what) x 0)
static_named fr count n what r w e h = let P : stored.Storage → Type 0 = λ what. IfSome r (λ x. Designates fr (storage_of what) x 0) in subst P (sym w) (static_some fr count n r e h)

automatic_some : (fr : Frame) (base n : ℕ) (r : Option ℕ) → base ≡ length fr.outer → IfSome r (λ x. x ≡ base + n) → IfSome r (λ x. Designates fr (typed.automatic n) x 0)
automatic_some fr base n None e h = tt
automatic_some fr base n (Some x) e h = record { is = λ s b a. record { object = (let q : s.base + n ≡ x = omega (arith, e, b, h) in q); path = refl } }

pub automatic_named : (fr : Frame) (base n : ℕ) (what : stored.Storage) (r : Option ℕ) → what ≡ kind.Automatic n → base ≡ length fr.outer → IfSome r (λ x. x ≡ base + n) → IfSome r (λ x. Designates fr (storage_of what) x 0)
automatic_named fr base n what r w e h = let P : stored.Storage → Type 0 = λ what. IfSome r (λ x. Designates fr (storage_of what) x 0) in subst P (sym w) (automatic_some fr base n r e h)

pub parameter_named : (fr : Frame) (what : stored.Storage) (n : ℕ) (r : Option ArrayArgument) → what ≡ kind.Parameter n → IfSome r (λ a. Designates fr (typed.parameter n) a.object a.depth) → IfSome r (λ a. Designates fr (storage_of what) a.object a.depth)
parameter_named fr what n r e h = let P : stored.Storage → Type 0 = λ what. IfSome r (λ a. Designates fr (storage_of what) a.object a.depth) in subst P (sym e) h

pub named_finds : (fr : Frame) (at : Pos) (what : typed.Storage) (x depth : ℕ) (o : Option Known) → Designates fr what x depth → Finds fr (typed.named at what) o x (drop depth (shape_of fr x)) None o
named_finds fr at what x depth o h = finds_at fr (typed.named at what) x (drop depth (shape_of fr x)) o (named_rule fr at what x depth (drop depth (shape_of fr x)) refl h)

pub element_finds : (fr : Frame) (at : Pos) (array : Place) (index : Value) (o : Option Known) (x depth n : ℕ) (sub : Option Interval) (o2 : Option Known) (i : Interval) (o3 : Option Known) (k : AbsValue) (sub2 : Option Interval) →
    drop depth (shape_of fr x) ≡ n ∷ drop (depth + 1) (shape_of fr x) → Finds fr array o x (drop depth (shape_of fr x)) sub o2 → Evaluates fr index o2 i o3 → Contents o3 x k → Subscripts fr at i n → Subscribes sub2 i (shape_of fr x) →
    Finds fr (typed.element at array index) o x (drop (depth + 1) (shape_of fr x)) sub2 o3
element_finds fr at array index o x depth n sub o2 i o3 k sub2 e f h g q u = let P : List ℕ → Type 0 = λ rest. Finds fr array o x rest sub o2 in
    element_rule fr at array index o x n (drop (depth + 1) (shape_of fr x)) sub o2 i o3 k sub2 (subst P e f) h g q u

pub finds_rest : (fr : Frame) (a : Place) (o : Option Known) (x depth : ℕ) (sub : Option Interval) (o2 : Option Known) → drop depth (shape_of fr x) ≡ [] → Finds fr a o x (drop depth (shape_of fr x)) sub o2 → Finds fr a o x [] sub o2
finds_rest fr a o x depth sub o2 e h = let P : List ℕ → Type 0 = λ rest. Finds fr a o x rest sub o2 in subst P e h

pub scalar_finds : (fr : Frame) (at : Pos) (what : typed.Storage) (x : ℕ) → shape_of fr x ≡ [] → Designates fr what x 0 → FindsAt fr (typed.named at what) x []
scalar_finds fr at what x e h = named_rule fr at what x 0 [] e h

-- ---- the lengths of objects

pub outer_shape : (outer : List (Vec ℕ Global)) (objects : List held.ObjectType) (x : ℕ) (d : Vec ℕ Global) → x < length outer → (get_or outer x d).items ≡ shape_in outer objects x
outer_shape [] objects x d h = absurd (omega (arith, h))
outer_shape (l ∷ outer) objects zero d h = refl
outer_shape (l ∷ outer) objects (suc x) d h = outer_shape outer objects x d (let q : suc x < suc (length outer) = h in omega (arith, q))

pub inner_shape : (outer : List (Vec ℕ Global)) (objects : List held.ObjectType) (x n : ℕ) → x ≡ length outer + n → own_shape_in objects n ≡ shape_in outer objects x
inner_shape [] objects x n e = ap (λ m. own_shape_in objects m) (let q : n ≡ x = omega (arith, e) in q)
inner_shape (l ∷ outer) objects zero n e = absurd (let q : zero ≡ suc (length outer) + n = e in omega (arith, q))
inner_shape (l ∷ outer) objects (suc x) n e = inner_shape outer objects x n (let q : suc x ≡ suc (length outer) + n = e in omega (arith, q))

-- ---- expressions

pub in_just : (r : Interval) (v : ℤ) → r ≡ just v → In r v
in_just r v e = let P : Interval → Type 0 = λ r. In r v in subst P (sym e) (omega (arith, ints), omega (arith, ints))

pub in_single : (r : Interval) (v u : ℤ) → u ≡ v → r ≡ just u → In r v
in_single r v u e d = let P : ℤ → Type 0 = λ v. In r v in subst P e (in_just r u d)

pub both_value : (fr : Frame) (a b : Value) (o on off : Option Known) (j r : Interval) (o2 out : Option Known) → r ≡ range_of ty.Bool →
    Tests fr a o on off → Evaluates fr b on j o2 → Implies o2 out → Implies off out → Evaluates fr (typed.both_true a b) o r out
both_value fr a b o on off j r o2 out e ha hb f g = let P : Interval → Type 0 = λ r. Evaluates fr (typed.both_true a b) o r out in
    subst P (sym e) (both_rule fr a b o on off j o2 out ha hb f g)

pub one_value : (fr : Frame) (a b : Value) (o on off : Option Known) (j r : Interval) (o2 out : Option Known) → r ≡ range_of ty.Bool →
    Tests fr a o on off → Evaluates fr b off j o2 → Implies o2 out → Implies on out → Evaluates fr (typed.one_true a b) o r out
one_value fr a b o on off j r o2 out e ha hb f g = let P : Interval → Type 0 = λ r. Evaluates fr (typed.one_true a b) o r out in
    subst P (sym e) (one_rule fr a b o on off j o2 out ha hb f g)

pub gets : (fr : Frame) (at : Pos) (c : callee.Callee) (t : Option IntType) (used : Bool) (arguments : Arguments) (o : Option Known) (is : List Interval) (ps : List ArrayArgument) (o2 : Option Known) (r : Interval) → c ≡ called.GetByte → r ≡ got →
    Passes fr arguments o is ps o2 → Evaluates fr (typed.call at (callee_of c) t used arguments) o r o2
gets fr at c t used arguments o is ps o2 r e d h = let P : callee.Callee → Type 0 = λ c. Evaluates fr (typed.call at (callee_of c) t used arguments) o r o2 in
    let Q : Interval → Type 0 = λ r. Evaluates fr (typed.call at typed.get_byte t used arguments) o r o2 in
    subst P (sym e) (subst Q (sym d) (get_byte_rule fr at t used arguments o is ps o2 h))

pub puts : (fr : Frame) (at : Pos) (c : callee.Callee) (t : Option IntType) (used : Bool) (arguments : Arguments) (o : Option Known) (is : List Interval) (ps : List ArrayArgument) (o2 : Option Known) (r : Interval) → c ≡ called.PutByte → r ≡ just (pos 0) →
    Passes fr arguments o is ps o2 → Evaluates fr (typed.call at (callee_of c) t used arguments) o r o2
puts fr at c t used arguments o is ps o2 r e d h = let P : callee.Callee → Type 0 = λ c. Evaluates fr (typed.call at (callee_of c) t used arguments) o r o2 in
    subst P (sym e) (put_byte_rule fr at t used arguments o is ps o2 r h (in_just r (pos 0) d))

pub exits : (fr : Frame) (at : Pos) (c : callee.Callee) (t : Option IntType) (used : Bool) (arguments : Arguments) (o : Option Known) (is : List Interval) (ps : List ArrayArgument) (o2 o3 : Option Known) (r : Interval) → c ≡ called.Exit →
    Passes fr arguments o is ps o2 → Evaluates fr (typed.call at (callee_of c) t used arguments) o r o3
exits fr at c t used arguments o is ps o2 o3 r e h = let P : callee.Callee → Type 0 = λ c. Evaluates fr (typed.call at (callee_of c) t used arguments) o r o3 in
    subst P (sym e) (exit_rule fr at t used arguments o is ps o2 o3 r h)

pub calls_some : (fr : Frame) (at : Pos) (f : ℕ) (t : Option IntType) (used : Bool) (arguments : Arguments) (o : Option Known) (is : List Interval) (ps : List ArrayArgument) (o2 : Option Known) (i : Interval) (o3 : Option Known) (c : callee.Callee) →
    c ≡ called.Function f → Passes fr arguments o is ps o2 → CallsAt fr at f used is ps o2 i o3 → Evaluates fr (typed.call at (callee_of c) t used arguments) o i o3
calls_some fr at f t used arguments o is ps o2 i o3 c e h g = let P : callee.Callee → Type 0 = λ c. Evaluates fr (typed.call at (callee_of c) t used arguments) o i o3 in subst P (sym e) (g.gives t arguments o h)

-- ---- arguments

pub number_passes : (fr : Frame) (t : IntType) (e : Value) (o : Option Known) (i r : Interval) (o2 o3 : Option Known) (is : List Interval) (ps : List ArrayArgument) → Evaluates fr e o i o2 → Converts t i r → is ≡ r ∷ [] → ps ≡ [] → o3 ≡ o2 →
    PassesOne fr (number_given t e) o is ps o3
number_passes fr t e o i r o2 o3 is ps h g ei ep eo =
    let P : List Interval → Type 0 = λ is. PassesOne fr (number_given t e) o is ps o3 in
    let Q : List ArrayArgument → Type 0 = λ ps. PassesOne fr (number_given t e) o (r ∷ []) ps o3 in
    let R : Option Known → Type 0 = λ o3. PassesOne fr (number_given t e) o (r ∷ []) [] o3 in
    subst P (sym ei) (subst Q (sym ep) (subst R (sym eo) (record { passes = λ more js qs o4 p. number_rule fr t e more o i r o2 js qs o4 h g p })))

pub array_passes : (fr : Frame) (array : Place) (o : Option Known) (a : ArrayArgument) (sub : Option Interval) (o2 o3 : Option Known) (is : List Interval) (ps : List ArrayArgument) → a.object < length (shapes_of fr) → Finds fr array o a.object (drop a.depth (shape_of fr a.object)) sub o2 →
    is ≡ [] → ps ≡ a ∷ [] → o3 ≡ o2 → PassesOne fr (array_given array) o is ps o3
array_passes fr array o a sub o2 o3 is ps lt f ei ep eo =
    let P : List Interval → Type 0 = λ is. PassesOne fr (array_given array) o is ps o3 in
    let Q : List ArrayArgument → Type 0 = λ ps. PassesOne fr (array_given array) o [] ps o3 in
    let R : Option Known → Type 0 = λ o3. PassesOne fr (array_given array) o [] (a ∷ []) o3 in
    subst P (sym ei) (subst Q (sym ep) (subst R (sym eo) (record { passes = λ more js qs o4 p. array_rule fr array more o a sub o2 js qs o4 lt f p })))

-- ---- writes

pub entails_new : (i : Interval) (k : AbsValue) → k ≡ record { initialised = true; interval = i } → Entails (record { initialised = true; interval = i }) k
entails_new i k e = let P : AbsValue → Type 0 = λ k. Entails (record { initialised = true; interval = i }) k in subst P (sym e) (record { is = λ v h. h })

pub new_entails : (i : Interval) (new k : AbsValue) → new ≡ record { initialised = true; interval = i } → Entails new k → Entails (record { initialised = true; interval = i }) k
new_entails i new k e h = let P : AbsValue → Type 0 = λ new. Entails new k in subst P e h

pub copied_nonzero : (i : Interval) (o : Option Known) (r : Result AbsState Stop) → IfOk r (λ f. state_of f ≡ o) → IfOk r (λ f. NonZero i o (state_of f))
copied_nonzero i o (Err e) h = tt
copied_nonzero i o (Ok f) h = nonzero_same i o (state_of f) h

-- ---- comparisons

pub not_false : (b : Bool) → b ≡ true → b ≡ true
not_false b e = e

pub set_restricted : (a b : Known) (x : ℕ) (i : Interval) (k : AbsValue) → k ≡ record { initialised = true; interval = i } → b.objects ≡ slice_set a.objects x k → b.facts ≡ a.facts → Restricts (Object x) i (Some a) (Some b)
set_restricted a b x i k e d f = let P : Interval → Type 0 = λ i. Restricts (Object x) i (Some a) (Some b) in
    let q : k.interval ≡ i = ap (λ k. k.interval) e in subst P q (set_restricts a b x k d f)

pub object_some : (a : Operand) (x : ℕ) (i : Interval) (o : Option Known) (r : Option AbsState) → a ≡ Object x → IfSome r (λ f. Restricts (Object x) i o (state_of f)) → IfSome r (λ f. Restricts a i o (state_of f))
object_some a x i o r e h = let P : Operand → Type 0 = λ a. IfSome r (λ f. Restricts a i o (state_of f)) in subst P (sym e) h

pub straight_some : (op : BinOp) (b sw : Bool) (r : Relation) (x y : Operand) (i j i2 j2 : Interval) (o : Option Known) (f : Option AbsState) → sw ≡ false → Tells op b sw r → Narrows r i j i2 j2 →
    IfSome f (λ g. RestrictsBoth x i2 y j2 o (state_of g)) → IfSome f (λ g. Learns op b x i y j o (state_of g))
straight_some op b sw r x y i j i2 j2 o None e t n h = tt
straight_some op b sw r x y i j i2 j2 o (Some g) e t n h = let P : Bool → Type 0 = λ sw. Tells op b sw r in
    learns_straight op b r x y i j i2 j2 o (state_of g) (subst P e t) n h

pub swapped_some : (op : BinOp) (b sw : Bool) (r : Relation) (x y : Operand) (i j i2 j2 : Interval) (o : Option Known) (f : Option AbsState) → sw ≡ true → Tells op b sw r → Narrows r j i j2 i2 →
    IfSome f (λ g. RestrictsBoth y j2 x i2 o (state_of g)) → IfSome f (λ g. Learns op b x i y j o (state_of g))
swapped_some op b sw r x y i j i2 j2 o None e t n h = tt
swapped_some op b sw r x y i j i2 j2 o (Some g) e t n h = let P : Bool → Type 0 = λ sw. Tells op b sw r in
    learns_swapped op b r x y i j i2 j2 o (state_of g) (subst P e t) n h

pub learns_both : (op : BinOp) (x y : Operand) (i j : Interval) (o o1 o2 on off : Option Known) → o1 ≡ o → o2 ≡ o → Learns op true x i y j o1 on → Learns op false x i y j o2 off → LearnsBoth op x i y j o on off
learns_both op x y i j o o1 o2 on off e1 e2 t f =
    let P : Option Known → Type 0 = λ o. Learns op true x i y j o on in
    let Q : Option Known → Type 0 = λ o. Learns op false x i y j o off in
    (subst P e1 t, subst Q e2 f)

pub compared_some : (fr : Frame) (at : Pos) (op : BinOp) (t : IntType) (a b : Value) (o : Option Known) (x y : Operand) (i j all : Interval) (r : Result (Option Tested) Stop) → all ≡ range_of t → Looks fr a o x i → Looks fr b o y j →
    Below i all → Below j all → IfOk r (λ q. IfSome q (λ z. LearnsBoth op x i y j o (state_of z.on) (state_of z.off))) → IfOk r (λ q. IfSome q (λ z. Tests fr (typed.binary at op t a b) o (state_of z.on) (state_of z.off)))
compared_some fr at op t a b o x y i j all (Err e) ea ha hb bi bj l = tt
compared_some fr at op t a b o x y i j all (Ok None) ea ha hb bi bj l = tt
compared_some fr at op t a b o x y i j all (Ok (Some z)) ea ha hb bi bj l = compare_fits fr at op t a b o x y i j all (state_of z.on) (state_of z.off) ea ha hb bi bj l.0 l.1

-- ---- reads

pub read_as : (fr : Frame) (t : IntType) (place : Place) (at : Pos) (o : Option Known) (x depth : ℕ) (sub : Option Interval) (o2 : Option Known) (k : AbsValue) (r : Interval) → at ≡ position_of place → Finds fr place o x (drop depth (shape_of fr x)) sub o2 →
    drop depth (shape_of fr x) ≡ [] → Reads o2 x sub k → (r ≡ k.interval) × MayRead fr at k → Evaluates fr (typed.read t place) o r o2
read_as fr t place at o x depth sub o2 k r e f z g m = let P : Interval → Type 0 = λ r. Evaluates fr (typed.read t place) o r o2 in let Q : Pos → Type 0 = λ at. MayRead fr at k in
    subst P (sym m.0) (read_rule fr t place o x sub o2 k (finds_rest fr place o x depth sub o2 z f) g (subst Q e m.1))

pub compound_as : (fr : Frame) (at : Pos) (op : BinOp) (t of : IntType) (place : Place) (at2 : Pos) (e : Value) (o : Option Known) (x : ℕ) (sub : Option Interval) (o2 : Option Known) (j : Interval) (o3 : Option Known) (old : AbsValue) (i k r : Interval)
    (o4 : Option Known) → at2 ≡ position_of place → Finds fr place o x [] sub o2 → length fr.program.literals ≤ x → Evaluates fr e o2 j o3 → Reads o3 x sub old → (i ≡ old.interval) × MayRead fr at2 old → OperatesAt fr at op of i j k → Converts t k r →
    Writes fr o3 x sub r o4 → Evaluates fr (typed.compound at op t of place e) o r o4
compound_as fr at op t of place at2 e o x sub o2 j o3 old i k r o4 ep f above h rd mr g cv w = let P : Interval → Type 0 = λ i. OperatesAt fr at op of i j k in let Q : Pos → Type 0 = λ at. MayRead fr at old in
    compound_rule fr at op t of place e o x sub o2 j o3 old k r o4 f above h rd (subst Q ep mr.1) (subst P mr.0 g) cv w

pub stepped_as : (fr : Frame) (at : Pos) (moment : Moment) (op : StepOp) (t of : IntType) (place : Place) (at2 : Pos) (o : Option Known) (x : ℕ) (sub : Option Interval) (o2 : Option Known) (old : AbsValue) (i k r q : Interval)
    (o3 : Option Known) → at2 ≡ position_of place → q ≡ step_interval moment i r → Finds fr place o x [] sub o2 → length fr.program.literals ≤ x → Reads o2 x sub old → (i ≡ old.interval) × MayRead fr at2 old →
    OperatesAt fr at (step_operation op) of i (just (pos 1)) k → Converts t k r → Writes fr o2 x sub r o3 → Evaluates fr (typed.stepped at moment op t of place) o q o3
stepped_as fr at moment op t of place at2 o x sub o2 old i k r q o3 ep eq f above rd mr g cv w =
    let P : Interval → Type 0 = λ i. OperatesAt fr at (step_operation op) of i (just (pos 1)) k in
    let Q : Pos → Type 0 = λ at. MayRead fr at old in
    let R : Interval → Type 0 = λ q. Evaluates fr (typed.stepped at moment op t of place) o q o3 in
    let S : Interval → Type 0 = λ i. Evaluates fr (typed.stepped at moment op t of place) o (step_interval moment i r) o3 in
    subst R (sym eq) (subst S (sym mr.0) (stepped_rule fr at moment op t of place o x sub o2 old k r o3 f above rd (subst Q ep mr.1) (subst P mr.0 g) cv w))

pub variable_found : (fr : Frame) (a : Place) (o : Option Known) (x depth : ℕ) (sub : Option Interval) (o2 : Option Known) → VariableAt fr x depth → Finds fr a o x (drop depth (shape_of fr x)) sub o2 → Finds fr a o x [] sub o2
variable_found fr a o x depth sub o2 v h = finds_rest fr a o x depth sub o2 v.element h

-- ---- arguments, in their order

append_assoc : {A : Type 0} (xs ys zs : List A) → xs ++ (ys ++ zs) ≡ (xs ++ ys) ++ zs
append_assoc [] ys zs = refl
append_assoc (x ∷ xs) ys zs = ap (λ rest. x ∷ rest) (append_assoc xs ys zs)

append_none : {A : Type 0} (xs : List A) → xs ++ [] ≡ xs
append_none [] = refl
append_none (x ∷ xs) = ap (λ zs. x ∷ zs) (append_none xs)

-- the arguments so far are such numbers and arrays, before whatever the rest is
abbrev pub LeadsTo : Frame → List Argument → Option Known → List Argument → Option Known → List Interval → List ArrayArgument → Type 0
LeadsTo fr xs o all before done pdone = (is : List Interval) (ps : List ArrayArgument) (o3 : Option Known) → PassesAll fr xs o is ps o3 → PassesAll fr all before (done ++ is) (pdone ++ ps) o3

pub pass_step : (fr : Frame) (xs : List Argument) (x : Argument) (more : List Argument) (o : Option Known) (js : List Interval) (qs : List ArrayArgument) (o2 : Option Known) (done done2 : List Interval) (pdone pdone2 : List ArrayArgument) (all : List Argument)
    (before : Option Known) → xs ≡ x ∷ more → done2 ≡ done ++ js → pdone2 ≡ pdone ++ qs → PassesOne fr (argument_of x) o js qs o2 → LeadsTo fr xs o all before done pdone → LeadsTo fr more o2 all before done2 pdone2
pass_step fr xs x more o js qs o2 done done2 pdone pdone2 all before e ed ep h leads = λ is ps o3 p.
    let P : List Argument → Type 0 = λ xs. PassesAll fr xs o (js ++ is) (qs ++ ps) o3 in
    let Q : List Interval → Type 0 = λ is2. PassesAll fr all before is2 (pdone ++ (qs ++ ps)) o3 in
    let Q2 : List ArrayArgument → Type 0 = λ ps2. PassesAll fr all before ((done ++ js) ++ is) ps2 o3 in
    let R : List Interval → Type 0 = λ done2. PassesAll fr all before (done2 ++ is) (pdone2 ++ ps) o3 in
    let R2 : List ArrayArgument → Type 0 = λ pdone2. PassesAll fr all before ((done ++ js) ++ is) (pdone2 ++ ps) o3 in
    subst R (sym ed) (subst R2 (sym ep) (subst Q2 (append_assoc pdone qs ps) (subst Q (append_assoc done js is) (leads (js ++ is) (qs ++ ps) o3 (subst P (sym e) (h.passes (arguments_of (map argument_of more)) is ps o3 p))))))

pub pass_end : (fr : Frame) (xs : List Argument) (o : Option Known) (done : List Interval) (pdone : List ArrayArgument) (all : List Argument) (before : Option Known) → length xs ≡ 0 → LeadsTo fr xs o all before done pdone → PassesAll fr all before done pdone o
pass_end fr [] o done pdone all before e leads = let Q : List Interval → Type 0 = λ is. PassesAll fr all before is pdone o in let R : List ArrayArgument → Type 0 = λ ps. PassesAll fr all before (done ++ []) ps o in
    subst Q (append_none done) (subst R (append_none pdone) (leads [] [] o (no_arguments_rule fr o)))
pass_end fr (x ∷ xs) o done pdone all before e leads = absurd (cc e)

pub pass_begins : (fr : Frame) (all : List Argument) (o : Option Known) (done : List Interval) (pdone : List ArrayArgument) → done ≡ [] → pdone ≡ [] → LeadsTo fr all o all o done pdone
pass_begins fr all o done pdone e ep = λ is ps o3 h. let Q : List Interval → Type 0 = λ done. PassesAll fr all o (done ++ is) (pdone ++ ps) o3 in let R : List ArrayArgument → Type 0 = λ pdone. PassesAll fr all o is (pdone ++ ps) o3 in
    subst Q (sym e) (subst R (sym ep) h)

pub fewer : (xs : List Argument) (x : Argument) (more : List Argument) (n : ℕ) → xs ≡ x ∷ more → work_arguments (arguments_of (map argument_of xs)) ≤ n → work_arguments (arguments_of (map argument_of more)) ≤ n
fewer xs x more n e h =
    let P : List Argument → Type 0 = λ xs. work_arguments (arguments_of (map argument_of xs)) ≤ n in
    less (argument_of x) (arguments_of (map argument_of more)) n (subst P e h)
  where
    less : (g : Given) (more : Arguments) (n : ℕ) → work_arguments (and_given g more) ≤ n → work_arguments more ≤ n
    less (number_given t e) more n h = omega (arith, h)
    less (array_given p) more n h = omega (arith, h)

-- a part of an object is changed, or the whole of it to what that leaves
put_whole : (store : Store) (x : ℕ) (path : List ℕ) (new t : Tree) → slice_get store x ≡ Some t → put_in store x [] (put_at path new t) ≡ put_in store x path new
put_whole [] x path new t e = refl
put_whole (u ∷ store) zero path new t e = let q : u ≡ t = cc e in ap (λ v. put_at path new v ∷ store) (sym q)
put_whole (u ∷ store) (suc x) path new t e = ap (λ rest. u ∷ rest) (put_whole store x path new t e)

-- an object of one element whose element changes
one_part : (n : ℕ) (lengths path : List ℕ) (old k : AbsValue) (new : Tree) → ((u : Tree) → TreeIs old lengths u → TreeIs k lengths (put_at path new u)) → (row : Row) (j : ℕ) → n ≡ 1 → parts row ≡ 1 → j ≡ 0 → EachPart (TreeIs old lengths) row →
    TreeIs k (n ∷ lengths) (put_at (j ∷ path) new (Array row))
one_part n lengths path old k new f no_parts j en e z g = absurd (cc e)
one_part n lengths path old k new f (and_part u (and_part w row)) j en e z g = absurd (let q : suc (suc (parts row)) ≡ 1 = e in omega (arith, q))
one_part n lengths path old k new f (and_part u no_parts) zero en e z g = (sym en, (f u g.0, tt))
one_part n lengths path old k new f (and_part u no_parts) (suc j) en e z g = absurd (cc z)

one_put : (lengths path : List ℕ) (old k : AbsValue) (i : Interval) (v : ℤ) → OneElement lengths → Along lengths path [] → Entails (record { initialised = true; interval = i }) k → In i v → (t : Tree) → TreeIs old lengths t → TreeIs k lengths (put_at path (Element (Some v)) t)
one_put [] [] old k i v o a f m t h = f.is (Some v) m
one_put [] (j ∷ path) old k i v o a f m t h = absurd a
one_put (n ∷ lengths) [] old k i v o a f m t h = absurd (cc a)
one_put (n ∷ lengths) (j ∷ path) old k i v o a f m (Element w) h = absurd h
one_put (n ∷ lengths) (j ∷ path) old k i v o a f m (Array row) h =
    let one : n ≡ 1 = o.0 in
    let lt : j < n = a.0 in
    let long : parts row ≡ n = h.0 in
    one_part n lengths path old k (Element (Some v)) (λ u g. one_put lengths path old k i v o.1 a.1 f m u g) row j one (omega (arith, one, long)) (omega (arith, one, lt)) h.1

pub one_writes_by : (fr : Frame) (o : Option Known) (x : ℕ) (old k : AbsValue) (sub : Option Interval) (i : Interval) (o2 : Option Known) → OneElement (shape_of fr x) → Contents o x old → Entails (record { initialised = true; interval = i }) k → Replaces o x k o2 → Writes fr o x sub i o2
one_writes_by fr o x old k sub i o2 one g n h = record {
  is = λ s r v c q u m.
      let P : Store → Type 0 = λ store. Reaches fr o2 (record s { store = store }) in
      subst P (sym (value_put fr x old s.store r v (g.is fr s c) q)) (at s r v c q m (slice_get s.store x) refl (g.is fr s c));
}
  where
    at : (s : State) (r : Reference) (v : ℤ) → Reaches fr o s → Refers fr x [] r → In i v → (t : Option Tree) → t ≡ slice_get s.store x → ObjectIs old (shape_of fr x) t →
        Reaches fr o2 (record s { store = put s.store r (Element (Some v)) })
    at s r v c q m None e b = absurd b
    at s r v c q m (Some t) e b =
        let P : Store → Type 0 = λ store. Reaches fr o2 (record s { store = store }) in
        let Q : ℕ → Type 0 = λ y. Reaches fr o2 (record s { store = put_in s.store y r.path (Element (Some v)) }) in
        let new : TreeIs k (shape_of fr x) (put_at r.path (Element (Some v)) t) = one_put (shape_of fr x) r.path old k i v one q.path n m t b in
        subst Q (sym q.object) (subst P (put_whole s.store x r.path (Element (Some v)) t (sym e)) (h.is fr s (put_at r.path (Element (Some v)) t) c new))

-- ---- lengths that are all 1

ones_more : (xs : List ℕ) (n : ℕ) → OneElement xs → n ≡ 1 → OneElement (xs ++ n ∷ [])
ones_more [] n h e = (e, tt)
ones_more (x ∷ xs) n h e = (h.0, ones_more xs n h.1 e)

pub ones_step : (xs : List ℕ) (n d : ℕ) → n < length xs → OneElement (take n xs) → get_or xs n d ≡ 1 → OneElement (take (n + 1) xs)
ones_step xs n d lt h e =
    let q : take (suc n) xs ≡ take (n + 1) xs = ap (λ m. take m xs) (sym (add-one n)) in
    subst OneElement (sym (take-suc xs n d lt) ∙ q) (ones_more (take n xs) (get_or xs n d) h e)

pub whole_ones : (xs : List ℕ) (n : ℕ) → length xs ≤ n → OneElement (take n xs) → OneElement xs
whole_ones xs n le h = subst OneElement (take_all n xs le) h

pub own_found : (objects : List held.ObjectType) (n : ℕ) (x : held.ObjectType) → slice_get objects n ≡ Some x → own_shape_in objects n ≡ x.lengths.items
own_found [] n x e = absurd (cc e)
own_found (y ∷ objects) zero x e = let q : y ≡ x = cc e in let P : held.ObjectType → Type 0 = λ x. y.lengths.items ≡ x.lengths.items in subst P q refl
own_found (y ∷ objects) (suc n) x e = own_found objects n x e

pub calls_found : (fr : Frame) (at : Pos) (f : ℕ) (t : Option IntType) (used : Bool) (arguments : Arguments) (o : Option Known) (is is2 : List Interval) (ps ps2 : List ArrayArgument) (o2 : Option Known) (c : callee.Callee) (r : Result Evaluated Stop) →
    c ≡ called.Function f → is2 ≡ is → ps2 ≡ ps → Passes fr arguments o is ps o2 → IfOk r (λ r. CallsAt fr at f used is2 ps2 o2 r.interval (state_of r.state)) → IfOk r (λ r. Evaluates fr (typed.call at (callee_of c) t used arguments) o r.interval (state_of r.state))
calls_found fr at f t used arguments o is is2 ps ps2 o2 c (Err e) ec ei ep h g = tt
calls_found fr at f t used arguments o is is2 ps ps2 o2 c (Ok r) ec ei ep h g = let P : List Interval → Type 0 = λ is. CallsAt fr at f used is ps o2 r.interval (state_of r.state) in let Q : List ArrayArgument → Type 0 = λ ps. CallsAt fr at f used is2 ps o2 r.interval (state_of r.state) in
    calls_some fr at f t used arguments o is ps o2 r.interval (state_of r.state) c ec h (subst P ei (subst Q ep g))

pub value_split : (fr : Frame) (e : Value) (o : Option Known) (i : Interval) (o2 : Option Known) (r : Result Tested Stop) → Evaluates fr e o i o2 → IfOk r (λ r. Splits i o2 (state_of r.on) (state_of r.off)) →
    IfOk r (λ r. Tests fr e o (state_of r.on) (state_of r.off))
value_split fr e o i o2 (Err x) h g = tt
value_split fr e o i o2 (Ok r) h g = value_tests fr e o i o2 (state_of r.on) (state_of r.off) h g

pub element_behind : (fr : Frame) (at : Pos) (array : Place) (index : Value) (o : Option Known) (x depth n : ℕ) (sub : Option Interval) (o2 : Option Known) (i : Interval) (o3 : Option Known) (k : AbsValue) (sub2 : Option Interval) (depth2 : ℕ) → depth2 ≡ depth + 1 →
    drop depth (shape_of fr x) ≡ n ∷ drop (depth + 1) (shape_of fr x) → Finds fr array o x (drop depth (shape_of fr x)) sub o2 → Evaluates fr index o2 i o3 → Contents o3 x k → Subscripts fr at i n → Subscribes sub2 i (shape_of fr x) →
    Finds fr (typed.element at array index) o x (drop depth2 (shape_of fr x)) sub2 o3
element_behind fr at array index o x depth n sub o2 i o3 k sub2 depth2 ed e f h g q u = let P : ℕ → Type 0 = λ m. Finds fr (typed.element at array index) o x (drop m (shape_of fr x)) sub2 o3 in
    subst P (sym ed) (element_finds fr at array index o x depth n sub o2 i o3 k sub2 e f h g q u)

-- ---- where no run comes

pub never_evaluates : (fr : Frame) (e : Value) (o : Option Known) (i : Interval) (o2 : Option Known) → o ≡ None → Evaluates fr e o i o2
never_evaluates fr e o i o2 q = let P : Option Known → Type 0 = λ o. Evaluates fr e o i o2 in subst P (sym q) (record { runs = λ d s c. absurd c })

pub never_tests : (fr : Frame) (e : Value) (o on off : Option Known) → o ≡ None → Tests fr e o on off
never_tests fr e o on off q = let P : Option Known → Type 0 = λ o. Tests fr e o on off in subst P (sym q) (record { runs = λ d s c. absurd c })

-- ---- arrays of one row

pub one_row : (lengths : List ℕ) → length lengths ≡ 1 → OneRow lengths
one_row [] e = absurd (cc e)
one_row (n ∷ []) e = tt
one_row (n ∷ m ∷ lengths) e = absurd (let q : suc (suc (length lengths)) ≡ 1 = e in omega (arith, q))
