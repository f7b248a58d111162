-- Objects of a call begin, and get their first values (6.2.4p6, 6.7.9).
use Rattle.std.proofs.Common.{◌≡◌, ℕ, zero, suc, ◌+◌, ◌-◌, List, [], ◌∷◌, ◌++◌, map, length, refl, ap, sym, subst, arith}
use Rattle.std.specs.Prelude.{Option, Some, None, false, slice_get}
use Rattle.ctypes.specs.declared.types.IntType.{IntType}
use Rattle.ctypes.specs.Types.{converted}
use Rattle.typing_spec.specs.Types.{ObjectType}
use Rattle.typing_spec.specs.Program as typed
use Rattle.typing_spec.specs.Program.{Value, Initialiser, Statement}
use Rattle.csem.specs.Store.{Tree, parts, whole, put, repeated, filled, indeterminate}
use Rattle.csem.specs.Machine.{State, Goes, tick, stored}
use Rattle.csem.specs.Statements.{Normal, new_object, own, renewed, all_renewed, initialise, define_object}
use Rattle.csem.specs.Meaning.{calling}
use Rattle.verify_logic.specs.declared.abstract_values.Interval.{Interval}
use Rattle.verify_logic.specs.declared.abstract_values.AbsValue.{AbsValue}
use Rattle.verify_logic.specs.States.{Known, Frame, EachPart, TreeIs, or_scalar, lengths_in, shape_of, Reaches, Ends, Refers, Replaces, Writes}
use Rattle.verify_logic.specs.Judgements.{Evaluates, Converts}
use Rattle.verify_logic.specs.Statements.{Leaves, Executes, Renews, RenewsOne, Initialises, only_normal}
use Rattle.verify_logic.proofs.Runs.{then_ends, tick_ends}
use Rattle.verify_logic.proofs.Rules.{value_then, based}

parts_repeated : (n : ℕ) (t : Tree) → parts (repeated n t) ≡ n
parts_repeated zero t = refl
parts_repeated (suc n) t = ap suc (parts_repeated n t)

each_repeated : (P : Tree → Type 0) (n : ℕ) (t : Tree) → P t → EachPart P (repeated n t)
each_repeated P zero t h = tt
each_repeated P (suc n) t h = (h, each_repeated P n t h)

-- a new object has no values
pub new_is : (k : AbsValue) → k.initialised ≡ false → (lengths : List ℕ) → TreeIs k lengths (filled None lengths)
new_is k e [] = e
new_is k e (n ∷ lengths) = (parts_repeated n (filled None lengths), each_repeated (TreeIs k lengths) n (filled None lengths) (new_is k e lengths))

-- the lengths of an object of the call
own_object : (objects : List ObjectType) (n : ℕ) (t : ObjectType) → slice_get objects n ≡ Some t → or_scalar (slice_get (map lengths_in objects) n) ≡ t.lengths
own_object [] n t e = absurd (cc e)
own_object (u ∷ objects) zero t e = let q : u ≡ t = cc e in ap lengths_in q
own_object (u ∷ objects) (suc n) t e = own_object objects n t e

own_shape : (outer : List (List ℕ)) (objects : List ObjectType) (n x : ℕ) (t : ObjectType) → x ≡ length outer + n → slice_get objects n ≡ Some t → or_scalar (slice_get (outer ++ map lengths_in objects) x) ≡ t.lengths
own_shape [] objects n x t q e = let P : ℕ → Type 0 = λ y. or_scalar (slice_get (map lengths_in objects) y) ≡ t.lengths in
    let f : n ≡ x = omega (arith, q) in subst P f (own_object objects n t e)
own_shape (l ∷ outer) objects n zero t q e = let f : zero ≡ suc (length outer) + n = q in absurd (omega (arith, f))
own_shape (l ∷ outer) objects n (suc x) t q e = let f : suc x ≡ suc (length outer) + n = q in own_shape outer objects n x t (omega (arith, f)) e

pub shape_at : (fr : Frame) (n x : ℕ) (t : ObjectType) → x ≡ length fr.outer + n → slice_get fr.objects n ≡ Some t → shape_of fr x ≡ t.lengths
shape_at fr n x t e h = own_shape fr.outer fr.objects n x t e h

pub renew_rule : (fr : Frame) (n x : ℕ) (t : ObjectType) (k : AbsValue) (o o2 : Option Known) → x ≡ length fr.outer + n → slice_get fr.objects n ≡ Some t → k.initialised ≡ false → Replaces o x k o2 → RenewsOne fr n o o2
renew_rule fr n x t k o o2 e h i r = record {
  is = λ s c.
      let P : ℕ → Type 0 = λ y. Reaches fr o2 (record s { store = put s.store (whole y) (new_object (slice_get fr.objects n)) }) in
      let Q : Option ObjectType → Type 0 = λ u. TreeIs k (shape_of fr x) (new_object u) in
      let L : List ℕ → Type 0 = λ l. TreeIs k l (indeterminate t) in
      let new : TreeIs k (shape_of fr x) (new_object (slice_get fr.objects n)) = subst Q (sym h) (subst L (sym (shape_at fr n x t e h)) (new_is k i t.lengths)) in
      let b : s.base ≡ length fr.outer = based fr o s c in
      let q : x ≡ s.base + n = omega (arith, e, b) in subst P q (r.is fr s (new_object (slice_get fr.objects n)) c new);
}

pub none_renewed : (fr : Frame) (first count : ℕ) (o : Option Known) → count ≡ 0 → Renews fr first count o o
none_renewed fr first count o e = let P : ℕ → Type 0 = λ n. Renews fr first n o o in subst P (sym e) (record { is = λ s h. h })

pub more_renewed : (fr : Frame) (first second count : ℕ) (o o2 o3 : Option Known) → second ≡ first + 1 → (count ≡ 0 → ⊥) → RenewsOne fr first o o2 → Renews fr second (count - 1) o2 o3 → Renews fr first count o o3
more_renewed fr first second zero o o2 o3 e z one h = absurd (z refl)
more_renewed fr first second (suc k) o o2 o3 e z one h = record {
  is = λ s c.
      let q : second ≡ suc first = omega (arith, e) in
      let q2 : suc k - 1 ≡ k = omega arith in
      let P : ℕ → Type 0 = λ m. Reaches fr o3 (all_renewed fr.objects m (suc k - 1) (renewed fr.objects first s)) in
      let Q : ℕ → Type 0 = λ m. Reaches fr o3 (all_renewed fr.objects (suc first) m (renewed fr.objects first s)) in
      subst Q q2 (subst P q (h.is (renewed fr.objects first s) (one.is s c)));
}

pub declare_rule : (fr : Frame) (n : ℕ) (o o2 : Option Known) (k : AbsValue) → RenewsOne fr n o o2 → Executes fr (typed.declare n) o (only_normal k o2)
declare_rule fr n o o2 k r = record { runs = λ d s c. tick_ends fr.listed s (λ s. Goes Normal (renewed fr.objects n s)) (Leaves fr (only_normal k o2)) (λ m. r.is (record s { clock = m }) c) }

-- ---- first values (6.7.9)

pub one_value_rule : (fr : Frame) (u : IntType) (e : Value) (t : IntType) (x : ℕ) (o : Option Known) (i : Interval) (o2 : Option Known) (r : Interval) (o3 : Option Known) →
    Evaluates fr e o i o2 → Converts u i r → Writes fr o2 x None r o3 → Initialises fr (typed.one_value u e) t x [] o o3
one_value_rule fr u e t x o i o2 r o3 h cv w = record {
  runs = λ d to s f c.
      value_then fr d e o i o2 s (λ v s. tick s (λ s. Goes (tt {0}) (stored to (converted u v) s))) (λ u2 s2. Reaches fr o3 s2) h c (λ v s2 m c2.
      tick_ends fr.listed s2 (λ s. Goes (tt {0}) (stored to (converted u v) s)) (λ u2 s2. Reaches fr o3 s2) (λ k. w.is (record s2 { clock = k }) to (converted u v) c2 f tt (cv.gives v m)));
}

pub in_braces_rule : (fr : Frame) (i : Initialiser) (t : IntType) (x : ℕ) (rest : List ℕ) (o o2 : Option Known) → Initialises fr i t x rest o o2 → Initialises fr (typed.in_braces i) t x rest o o2
in_braces_rule fr i t x rest o o2 h = record {
  runs = λ d to s f c. tick_ends fr.listed s (λ s. initialise fr.program (calling fr.program d) i t rest to s) (λ u2 s2. Reaches fr o2 s2) (λ n. h.runs d to (record s { clock = n }) f c);
}

define_object_ends : (fr : Frame) (n x : ℕ) (t : ObjectType) (i : Initialiser) (o o2 : Option Known) (k : AbsValue) (d : ℕ) (s : State) → x ≡ length fr.outer + n → slice_get fr.objects n ≡ Some t →
    Initialises fr i t.element x t.lengths o o2 → Reaches fr o s → Ends fr.listed (define_object fr.program (calling fr.program d) fr.objects (Some t) n i s) (Leaves fr (only_normal k o2))
define_object_ends fr n x t i o o2 k d s e h g c =
    let b : s.base ≡ length fr.outer = based fr o s c in
    let q : s.base + n ≡ x = omega (arith, e, b) in
    let L : List ℕ → Type 0 = λ l. Refers fr x l (own n s) in
    let f : Refers fr x t.lengths (own n s) = subst L (shape_at fr n x t e h) (record { object = q; path = refl }) in
    then_ends fr.listed (initialise fr.program (calling fr.program d) i t.element t.lengths (own n s) s) (λ u s. Goes Normal s) (λ u s2. Reaches fr o2 s2) (Leaves fr (only_normal k o2)) (g.runs d (own n s) s f c) (λ u s2 c2. c2)

pub define_rule : (fr : Frame) (n x : ℕ) (t : ObjectType) (i : Initialiser) (o o2 o3 : Option Known) (k : AbsValue) → x ≡ length fr.outer + n → slice_get fr.objects n ≡ Some t → RenewsOne fr n o o2 →
    Initialises fr i t.element x t.lengths o2 o3 → Executes fr (typed.define n i) o (only_normal k o3)
define_rule fr n x t i o o2 o3 k e h one g = record {
  runs = λ d s c.
      tick_ends fr.listed s (λ s. define_object fr.program (calling fr.program d) fr.objects (slice_get fr.objects n) n i (renewed fr.objects n s)) (Leaves fr (only_normal k o3)) (λ m.
      let s2 : State = renewed fr.objects n (record s { clock = m }) in
      let P : Option ObjectType → Type 0 = λ u. Ends fr.listed (define_object fr.program (calling fr.program d) fr.objects u n i s2) (Leaves fr (only_normal k o3)) in
      subst P (sym h) (define_object_ends fr n x t i o2 o3 k d s2 e h g (one.is (record s { clock = m }) c)));
}
