-- Places that are whole objects, and elements of these.
use Rattle.std.proofs.Common.{◌≡◌, ◌<◌, rules, ℕ, zero, suc, ℤ, pos, List, map, get_or, length, Option, Some, None, refl, sym, ap, subst, ◌∙◌, arith}
use Rattle.std.specs.Prelude.{true, nat_lt, slice_get, option_map, IfSome, Result, Ok, Err}
use Rattle.std.proofs.lemmas.Bool.{lt-ltb}
use Rattle.srcset.specs.declared.refusal.Pos.{Pos}
use Rattle.typing_spec.specs.Program as typed
use Rattle.typed_ast.specs.declared.expressions.Place.{Place, the_lemmas}
use Rattle.typed_ast.specs.declared.expressions.Place as P
use Rattle.typed_ast.specs.declared.storage_places.Storage.{Storage}
use Rattle.typed_ast.specs.View.{place_of, storage_of, moment_of}
use Rattle.ctypes.specs.Types.{converted}
use Rattle.typing_spec.specs.Operators.{operated}
use Rattle.csem.specs.History.{Entry}
use Rattle.ctypes.specs.declared.operators.Undef.TheVariants.{U5}
use Rattle.csem.specs.Store as machine
use Rattle.csem.specs.Store.{Reference, Row, parts, part_of, whole, into, value_of, part_in, length_of}
use Rattle.csem.specs.Machine.{State, Run, Goes, Stops, then_do, choose, tick, tick_of, designated, subscripted, read, write, computed_at, value_or_undefined, undefined}
use Rattle.csem.specs.Expressions.{step_operation, step_value}
use Rattle.interp_store.specs.declared.element_tree.Tree.{Tree}
use Rattle.interp_store.specs.declared.reference.Reference as held
use Rattle.interp_store.specs.declared.stop.Stop.{Stop}
use Rattle.interp_store.specs.View.{tree_of, reference_of}
use Rattle.interp_store.specs.declared.scene.Scene.{Scene}
use Rattle.interp_store.specs.declared.frames.Compound.{Compound}
use Rattle.interp_store.specs.declared.frames.Stepping.{Stepping}
use Rattle.interp_store.specs.layer.Frames.{Found}
use Rattle.interp_store.specs.layer.Agrees.{Outside, Runs, number, state_in, combined, stepped}
use Rattle.interp_store.proofs.Trees.{get_map, got}
use Rattle.interp_store.proofs.Scenes.{stops_in, goes_on}
use Rattle.interp_store.proofs.Resumes.{tick_then_of}
use Rattle.interp_eval.specs.layer.Comes.{Course, Leads, Designates, IsPart, IsWhole, found}
use Rattle.interp_eval.proofs.Comings.{then_assoc, leads_as}
use Rattle.interp_eval.proofs.Flows.{leads_there}

named_is : (at : Pos) (what : Storage) → place_of (P.Named at what) ≡ typed.named at (storage_of what)
named_is at what = search (rules, the_lemmas)

-- a name
module _ (p : typed.Program) (scene : Scene) (at : Pos) (what : typed.Storage) (n : ℕ) (h : (o : Outside) → Designates (Some n) (designated p what (state_in scene o))) where
  named_at : (m : ℕ) (i : List ℕ) (e : List Entry) → IsWhole (Some n) (found (typed.named at what) p (state_in scene (record { clock = m; input = i; history = e })))
      (state_in scene (record { clock = m; input = i; history = e }))
  named_at zero i e = refl
  named_at (suc m) i e = let o : Outside = record { clock = m; input = i; history = e } in ap (λ r. Goes r (state_in scene o)) (h o)

named_whole : (p : typed.Program) (scene : Scene) (at : Pos) (what : typed.Storage) (x : Option ℕ) → ((o : Outside) → Designates x (designated p what (state_in scene o))) →
    (o : Outside) → IsWhole x (found (typed.named at what) p (state_in scene o)) (state_in scene o)
named_whole p scene at what None h o = tt
named_whole p scene at what (Some n) h o = named_at p scene at what n h o.clock o.input o.history

pub is_whole : (p : typed.Program) (scene : Scene) (a : Place) (at : Pos) (what : Storage) (x : Option ℕ) → a ≡ P.Named at what →
    ((o : Outside) → Designates x (designated p (storage_of what) (state_in scene o))) →
    (o : Outside) → IsWhole x (found (place_of a) p (state_in scene o)) (state_in scene o)
is_whole p scene a at what x e h o =
    let P : typed.Place → Type 0 = λ a. IsWhole x (found a p (state_in scene o)) (state_in scene o) in
    subst P (sym (ap place_of e ∙ named_is at what)) (named_whole p scene at (storage_of what) x h o)

-- the part that follows a place that is a whole object
pub leads_whole : {A : Type 0} (c : Course) (k : ℕ) (scene : Scene) (part : State → Run Reference) (next : Reference → State → Run A)
    (rest : A → State → Run Found) (x : Option ℕ) (n : ℕ) → x ≡ Some n →
    ((o : Outside) → IsWhole x (part (state_in scene o)) (state_in scene o)) → Leads c k scene (λ s. then_do (part s) next) rest → Leads c k scene (λ s. tick s (λ s. next (whole n) s)) rest
leads_whole c k scene part next rest x n e is h =
    leads_there c k scene (λ s. then_do (part s) next) (λ s. tick s (λ s. next (whole n) s)) rest
    (λ o.
    let s = state_in scene o in
    let P : Option ℕ → Type 0 = λ x. IsWhole x (part s) s in
    let same : part s ≡ tick s (λ s. Goes (whole n) s) = subst P e (is o) in
    ap (λ r. then_do r next) same ∙ tick_then_of o.clock s (λ s. Goes (whole n) s) next) h

-- the value of a whole object
pub read_whole : (c : Course) (k : ℕ) (scene : Scene) (rest : ℤ → State → Run Found) (n : ℕ) (at at2 : Pos) → at ≡ at2 →
    Leads c k scene (λ s. tick s (λ s. read at2 (whole n) s)) rest → Leads c k scene (λ s. tick s (λ s. read at (whole n) s)) rest
read_whole c k scene rest n at at2 e h =
    leads_as c k scene (λ s. tick s (λ s. read at2 (whole n) s)) (λ s. tick s (λ s. read at (whole n) s)) rest (λ s. ap (λ at. tick s (λ s. read at (whole n) s)) (sym e)) h

-- ---- elements

module _ (at : Pos) (array : State → Run Reference) (index : State → Run ℤ) where
  part_then : (x : Run Reference) → then_do (then_do x (λ r s. then_do (index s) (λ v s. subscripted at r v s))) (λ r s. read at r s) ≡
      then_do x (λ r s. then_do (index s) (λ v s. then_do (subscripted at r v s) (λ r s. read at r s)))
  part_then (Goes r s) = then_assoc (index s) (λ v s. subscripted at r v s) (λ r s. read at r s)
  part_then (Stops e s) = refl

  ticked_then : (m : ℕ) (s : State) → then_do (tick_of m s (λ s. then_do (array s) (λ r s. then_do (index s) (λ v s. subscripted at r v s)))) (λ r s. read at r s) ≡
      tick_of m s (λ s. then_do (array s) (λ r s. then_do (index s) (λ v s. then_do (subscripted at r v s) (λ r s. read at r s))))
  ticked_then zero s = refl
  ticked_then (suc m) s = part_then (array (record s { clock = m }))

  -- the value of an element, after the tick of the element
  pub reads_element : (c : Course) (k : ℕ) (scene : Scene) (rest : ℤ → State → Run Found) →
      Leads c k scene (λ s. then_do (tick s (λ s. then_do (array s) (λ r s. then_do (index s) (λ v s. subscripted at r v s)))) (λ r s. read at r s)) rest →
      Leads c k scene (λ s. tick s (λ s. then_do (array s) (λ r s. then_do (index s) (λ v s. then_do (subscripted at r v s) (λ r s. read at r s))))) rest
  reads_element c k scene rest h = leads_as c k scene _ (λ s. tick s (λ s. then_do (array s) (λ r s. then_do (index s) (λ v s. then_do (subscripted at r v s) (λ r s. read at r s))))) rest
      (λ s. ticked_then s.clock s) h

-- an element of an array that is a whole object
in_row : (row : Row) (i : ℕ) (w : ℤ) → value_of (part_of row i) ≡ Some w → i < parts row
in_row machine.no_parts i w e = absurd (cc e)
in_row (machine.and_part t row) zero w e = omega arith
in_row (machine.and_part t row) (suc i) w e = let h : i < parts row = in_row row i w e in omega arith

in_length : (t : machine.Tree) (i : ℕ) (w : ℤ) → value_of (part_in (Some t) i) ≡ Some w → nat_lt i (length_of (Some t)) ≡ true
in_length (machine.Element v) i w e = absurd (cc e)
in_length (machine.Array row) i w e = lt-ltb i (parts row) (in_row row i w e)

part_goes : (at : Pos) (s : State) (n i : ℕ) (t : machine.Tree) (w : ℤ) → slice_get s.store n ≡ Some t → value_of (part_in (Some t) i) ≡ Some w →
    then_do (subscripted at (whole n) (pos i) s) (λ r s. read at r s) ≡ Goes w s
part_goes at s n i t w a e =
    let goes : Run Reference = Goes (into (whole n) i) s in
    let stops : Run Reference = undefined U5 at s in
    ap (λ o. then_do (choose (nat_lt i (length_of o)) goes stops) (λ r s. read at r s)) a
    ∙ ap (λ b. then_do (choose b goes stops) (λ r s. read at r s)) (in_length t i w e)
    ∙ ap (λ o. value_or_undefined at (value_of (part_in o i)) s) a
    ∙ ap (λ v. value_or_undefined at v s) e

pub part_read : (at : Pos) (scene : Scene) (o : Outside) (n i : ℕ) (ts : List Tree) (t : Tree) (x : Option ℤ) → scene.store.objects.items ≡ ts → n < length ts → t ≡ get_or ts n t →
    IfSome x (λ v. value_of (part_in (Some (tree_of t)) i) ≡ Some v) → IsPart x (then_do (subscripted at (whole n) (pos i) (state_in scene o)) (λ r s. read at r s)) (state_in scene o)
part_read at scene o n i ts t None h a b e = tt
part_read at scene o n i ts t (Some w) h a b e =
    part_goes at (state_in scene o) n i (tree_of t) w (ap (λ (ts : List Tree). slice_get (map tree_of ts) n) h ∙ get_map ts n ∙ ap (option_map tree_of) (got ts n t a b)) e

pub by_number : (at : Pos) (scene : Scene) (o : Outside) (n i : ℕ) (v : ℤ) (x : Option ℤ) → v ≡ pos i → IsPart x
    (then_do (subscripted at (whole n) (pos i) (state_in scene o)) (λ r s. read at r s)) (state_in scene o) →
    IsPart x (then_do (subscripted at (whole n) v (state_in scene o)) (λ r s. read at r s)) (state_in scene o)
by_number at scene o n i v x e h =
    let P : ℤ → Type 0 = λ v. IsPart x (then_do (subscripted at (whole n) v (state_in scene o)) (λ r s. read at r s)) (state_in scene o) in
    subst P (sym e) h

-- where an element is found first
module _ (at : Pos) (r : Reference) (v : ℤ) (s : State) where
  pub element_stops : (e : Stop) → Runs reference_of (subscripted at r v s) (Err e) s → Runs number (then_do (subscripted at r v s) (λ r s. read at r s)) (Err e) s
  element_stops e h = stops_in reference_of number (subscripted at r v s) (λ r s. read at r s) e s h

  pub element_goes : (part : held.Reference) (x : Result ℤ Stop) → Runs reference_of (subscripted at r v s) (Ok part) s → Runs number (read at (reference_of part) s) x s →
      Runs number (then_do (subscripted at r v s) (λ r s. read at r s)) x s
  element_goes part x h k = goes_on reference_of number (subscripted at r v s) (λ r s. read at r s) part x s s h k

-- ---- assignments that read their element

module _ (c : Course) (k : ℕ) (scene : Scene) (rest : ℤ → State → Run Found) (p : typed.Program) (place : State → Run Reference) (at : Pos) where
  pub combines_found : (a : Compound) (e : State → Run ℤ) → a.read_at ≡ at →
      Leads c k scene (λ s. then_do (place s) (λ r s. then_do (e s)
      (λ v s. then_do (read at r s) (λ old s. then_do (computed_at a.at (operated a.op a.of old v) s)
      (λ w s. write p a.at r (converted a.ty w) s))))) rest →
      Leads c k scene (λ s. then_do (place s) (λ r s. then_do (e s) (λ v s. combined p a r v s))) rest
  combines_found a e same h = leads_as c k scene _ (λ s. then_do (place s) (λ r s. then_do (e s) (λ v s. combined p a r v s))) rest
      (λ s. ap (λ at. then_do (place s) (λ r s. then_do (e s)
      (λ v s. then_do (read at r s) (λ old s. then_do (computed_at a.at (operated a.op a.of old v) s)
      (λ w s. write p a.at r (converted a.ty w) s))))) (sym same)) h

  pub steps_found : (a : Stepping) → a.read_at ≡ at →
      Leads c k scene (λ s. then_do (place s) (λ r s. then_do (read at r s) (λ old s. then_do (computed_at a.at (operated (step_operation a.op) a.of old (pos 1)) s) (λ w s.
      then_do (write p a.at r (converted a.ty w) s) (λ new s. Goes (step_value (moment_of a.moment) old new) s))))) rest →
      Leads c k scene (λ s. then_do (place s) (λ r s. stepped p a r s)) rest
  steps_found a same h = leads_as c k scene _ (λ s. then_do (place s) (λ r s. stepped p a r s)) rest
      (λ s. ap (λ at. then_do (place s) (λ r s. then_do (read at r s) (λ old s. then_do (computed_at a.at (operated (step_operation a.op) a.of old (pos 1)) s) (λ w s.
      then_do (write p a.at r (converted a.ty w) s) (λ new s. Goes (step_value (moment_of a.moment) old new) s))))) (sym same)) h
