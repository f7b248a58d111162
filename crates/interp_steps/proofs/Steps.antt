-- Steps of statements.
use Rattle.std.proofs.Common.{◌≡◌, ℕ, ℤ, zero, suc, [], ◌∷◌, ◌+◌, ◌-◌, ◌<◌, ◌≤◌, List, length, map, get_or, refl, sym, ap, subst, ◌∙◌, arith, Bor}
use Rattle.std.specs.Prelude.{Result, Ok, Option, Some, None, option_map, slice_get}
use Rattle.std.proofs.lemmas.Option.{slice_get-map}
use Rattle.interp_store.proofs.Scenes.{beyond_any, got_any}
use Rattle.typed_ast.specs.declared.types.ObjectType as held
use Rattle.typed_ast.specs.View.{object_type_of}
use Rattle.typing_spec.specs.Program as typed
use Rattle.csem.specs.Store.{Reference, Store, Tree, put_in}
use Rattle.std.proofs.lemmas.List.{append-nil}
use Rattle.typing_spec.specs.Types.{ObjectType}
use Rattle.interp_store.specs.declared.stop.Stop.{Stop}
use Rattle.interp_store.specs.declared.machine.Machine.{Machine}
use Rattle.interp_store.specs.declared.frames.ControlFrame.{ControlFrame}
use Rattle.interp_store.specs.declared.frames.FlowFrame.{FlowFrame}
use Rattle.interp_store.specs.declared.frames.Flow.{Flow}
use Rattle.interp_store.proofs.Taken.{takes_as}
use Rattle.interp_store.specs.declared.frames.Found.{Found}
use Rattle.interp_store.specs.declared.frames.Step.{Step}
use Rattle.interp_store.specs.declared.frames.Step.TheVariants as step
use Rattle.interp_store.specs.layer.Frames as on
use Rattle.interp_store.specs.layer.Frames.{moves}
use Rattle.interp_store.specs.layer.Steps.{goes, waits, defines, entered_statement, from_label, left_by_value, left_by_flow}
use Rattle.interp_store.specs.layer.Views.{found_of, flow_of, control_frame, flow_frame}
use Rattle.interp_store.specs.layer.Agrees.{onto, Agrees, Takes}
use Rattle.csem.specs.Machine.{State}
use Rattle.csem.specs.Statements.{Normal, own, renewed, all_renewed}

-- one object more, from number a on
pub one_renewed : (objects : List ObjectType) (a i count : ℕ) (n : ℕ) (s t whole : State) → i < count → n ≡ a + i → t ≡ renewed objects n s →
    all_renewed objects (a + i) (count - i) s ≡ whole → all_renewed objects (a + (i + 1)) (count - (i + 1)) t ≡ whole
one_renewed objects a i count n s t whole h at e all =
    let left : count - i ≡ suc (count - (i + 1)) = omega arith in
    let number : a + (i + 1) ≡ suc (a + i) = omega arith in
    ap (λ x. all_renewed objects x (count - (i + 1)) t) number ∙ ap (λ t. all_renewed objects (suc (a + i)) (count - (i + 1)) t) (e ∙ ap (λ n. renewed objects n s) at)
    ∙ sym (ap (λ k. all_renewed objects (a + i) k s) left) ∙ all

pub all_done : (objects : List ObjectType) (a i count : ℕ) (s whole : State) → count ≡ i → all_renewed objects (a + i) (count - i) s ≡ whole → s ≡ whole
all_done objects a i count s whole e all = let none : count - i ≡ 0 = omega arith in sym (ap (λ k. all_renewed objects (a + i) k s) none) ∙ all

-- a store does not have that many objects
put_beyond : (store : Store) (x : ℕ) (path : List ℕ) (new : Tree) → length store ≤ x → put_in store x path new ≡ store
put_beyond [] x path new h = refl
put_beyond (t ∷ store) zero path new h = absurd (omega (arith, h))
put_beyond (t ∷ store) (suc x) path new h = ap (λ (s : Store). t ∷ s) (put_beyond store x path new (omega (arith, h)))

one_beyond : (objects : List ObjectType) (n : ℕ) (s : State) → length s.store ≤ n → renewed objects n s ≡ s
one_beyond objects n s h = ap (λ (k : Store). record s { store = k }) (put_beyond s.store (s.base + n) [] _ (omega (arith, h)))

pub all_beyond : (objects : List ObjectType) (n k : ℕ) (s : State) → length s.store ≤ n → all_renewed objects n k s ≡ s
all_beyond objects n zero s h = refl
all_beyond objects n (suc k) s h = ap (λ t. all_renewed objects (suc n) k t) (one_beyond objects n s h) ∙ all_beyond objects (suc n) k s (omega (arith, h))

-- a result without further steps
pub leaves_as : (fs : List on.Frame) (x : Found) (r : Result Step Stop) (s t : State) → r ≡ Ok (step.Leaves x) → t ≡ s → Agrees (onto fs (goes (found_of x) s)) r fs t
leaves_as fs x r s t e same =
    let P : Result Step Stop → Type 0 = λ r. Agrees (onto fs (goes (found_of x) s)) r fs t in
    subst P (sym e) (ap (λ l. moves l (on.leaves (found_of x)) s) (append-nil fs) ∙ ap (moves fs (on.leaves (found_of x))) (sym same))

-- equal frames and values take the same step
pub control_left_as : (frame f : ControlFrame) (v v2 : ℤ) (old new : Machine) (r : Result Step Stop) → frame ≡ f → v2 ≡ v →
    Takes (λ p s. left_by_value p (control_frame f) v2 s) old r new → Takes (λ p s. left_by_value p (control_frame frame) v s) old r new
control_left_as frame f v v2 old new r e same h =
    takes_as old new r (λ p s. left_by_value p (control_frame frame) v s) (λ p s. left_by_value p (control_frame f) v2 s)
    (λ p s. ap (λ v. left_by_value p (control_frame f) v s) same ∙ ap (λ f. left_by_value p (control_frame f) v s) (sym e)) h

-- and so do equal ways in which a statement is left
pub flow_left_as : (frame : FlowFrame) (flow f : Flow) (old new : Machine) (r : Result Step Stop) → flow ≡ f →
    Takes (λ p s. left_by_flow p (flow_frame frame) (flow_of f) s) old r new → Takes (λ p s. left_by_flow p (flow_frame frame) (flow_of flow) s) old r new
flow_left_as frame flow f old new r e h =
    takes_as old new r (λ p s. left_by_flow p (flow_frame frame) (flow_of flow) s) (λ p s. left_by_flow p (flow_frame frame) (flow_of f) s)
    (λ p s. ap (λ f. left_by_flow p (flow_frame frame) (flow_of f) s) (sym e)) h

-- ---- types of objects

pub no_type : (ts : List held.ObjectType) (n : ℕ) → length ts ≤ n → None ≡ slice_get (map object_type_of ts) n
no_type ts n h = sym (slice_get-map object_type_of ts n ∙ ap (option_map object_type_of) (beyond_any ts n h))

pub a_type : (ts : List held.ObjectType) (n : ℕ) (t : held.ObjectType) → n < length ts → t ≡ get_or ts n t → Some (object_type_of t) ≡ slice_get (map object_type_of ts) n
a_type ts n t h e = sym (slice_get-map object_type_of ts n ∙ ap (option_map object_type_of) (got_any ts n t h e))

pub defined_as : (p : typed.Program) (ty : Option (Bor held.ObjectType)) (t : Bor held.ObjectType) (n : ℕ) (i : typed.Initialiser) (s : State) (lengths : List ℕ) (r : Reference) →
    ty ≡ Some t → lengths ≡ t.now.lengths.items → r ≡ own n s →
    waits on.defined (on.initialiser i t.now.element lengths r) s ≡ defines p (option_map (λ (t : Bor held.ObjectType). object_type_of t.now) ty) n i s
defined_as p ty t n i s lengths r is long at =
    ap (λ l. waits on.defined (on.initialiser i t.now.element l r) s) long ∙ ap (λ r. waits on.defined (on.initialiser i t.now.element t.now.lengths.items r) s) at
    ∙ ap (λ (o : Option (Bor held.ObjectType)). defines p (option_map (λ (t : Bor held.ObjectType). object_type_of t.now) o) n i s) (sym is)

-- ---- statements

pub statement_as : (old new : Machine) (r : Result Step Stop) (objects : List ObjectType) (a t : typed.Statement) → a ≡ t →
    Takes (λ p s. entered_statement p objects t s) old r new → Takes (λ p s. entered_statement p objects a s) old r new
statement_as old new r objects a t e h =
    takes_as old new r (λ p s. entered_statement p objects a s) (λ p s. entered_statement p objects t s) (λ p s. ap (λ x. entered_statement p objects x s) (sym e)) h

pub no_label : (objects : List ObjectType) (all : typed.Statements) (s : State) → from_label objects None all s ≡ goes (on.a_flow Normal) s
no_label objects typed.no_statements s = refl
no_label objects (typed.and_statement a more) s = refl
