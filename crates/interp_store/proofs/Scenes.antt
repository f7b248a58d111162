-- The results of the operations on the objects of a run.
use Rattle.std.proofs.Common.{◌≡◌, ℕ, zero, suc, ◌+◌, ◌<◌, ◌≤◌, List, [], ◌∷◌, map, get_or, Some, None, arith, ℤ, pos, length, refl, sym, ap, subst, ◌∙◌, false}
use Rattle.std.specs.Prelude.{nat_lt, Result, Ok, Err, slice_get, option_map}
use Rattle.std.proofs.lemmas.Option.{slice_get-map}
use Rattle.std.proofs.lemmas.List.{length-map}
use Rattle.srcset.specs.declared.refusal.Pos.{Pos}
use Rattle.typed_ast.specs.declared.units.Program.{Program}
use Rattle.typed_ast.specs.declared.types.ObjectType.{ObjectType}
use Rattle.typing_spec.specs.Types as type
use Rattle.typed_ast.specs.View.{program_of, object_type_of, moment_of}
use Rattle.ctypes.specs.declared.operators.BinOp.{BinOp}
use Rattle.ctypes.specs.Types.{converted}
use Rattle.typing_spec.specs.Program as typed
use Rattle.typing_spec.specs.Operators.{operated}
use Rattle.csem.specs.Expressions.{step_operation, step_value}
use Rattle.interp_store.specs.declared.frames.Compound.{Compound}
use Rattle.interp_store.specs.declared.frames.Stepping.{Stepping}
use Rattle.ctypes.specs.declared.operators.Undef.TheVariants.{U7}
use Rattle.csem.specs.Store.{Reference, Store, Tree, Element, filled, put}
use Rattle.csem.proofs.InPlace.{nothing_is_put}
use Rattle.csem.specs.Statements.{new_object, own, renewed}
use Rattle.csem.specs.Machine.{State, Run, Goes, undefined, then_do, choose, stored, read, write, computed_at}
use Rattle.interp_store.specs.declared.stop.Stop.{Stop}
use Rattle.interp_store.specs.declared.stop.Stop.TheVariants as stop
use Rattle.interp_store.specs.layer.Agrees.{Runs, number, combined, stepped}

pub beyond_any : {A : Type 0} (xs : List A) (i : ℕ) → length xs ≤ i → slice_get xs i ≡ None
beyond_any [] i h = refl
beyond_any (x ∷ xs) zero h = absurd (omega arith)
beyond_any (x ∷ xs) (suc i) h = beyond_any xs i (omega arith)

pub got_any : {A : Type 0} (xs : List A) (i : ℕ) (x : A) → i < length xs → x ≡ get_or xs i x → slice_get xs i ≡ Some x
got_any [] i x h e = absurd (omega arith)
got_any (y ∷ xs) zero x h e = ap Some (sym e)
got_any (y ∷ xs) (suc i) x h e = got_any xs i x (omega arith) e

literals_are : (p : Program) → length (program_of p).literals ≡ length p.literals.items
literals_are p = length-map p.literals.items (λ text. text.items)

pub writes : (p : Program) (at : Pos) (r : Reference) (v w : ℤ) (s t : State) (n : ℕ) → n ≡ length p.literals.items → nat_lt r.object n ≡ false → w ≡ v → t ≡ stored r v s →
    write (program_of p) at r v s ≡ Goes w t
writes p at r v w s t n e h same new =
    let test : nat_lt r.object (length (program_of p).literals) ≡ false = ap (nat_lt r.object) (literals_are p ∙ sym e) ∙ h in
    let goes : Run ℤ = undefined U7 at s in
    ap (λ b. choose b goes (Goes v (stored r v s))) test ∙ ap (λ v2. Goes v2 (stored r v s)) (sym same) ∙ ap (Goes w) (sym new)

-- one operation and then another, where the first stopped
pub runs_as : {A B : Type 0} (view : A → B) (x y : Run B) (r : Result A Stop) (s : State) → x ≡ y → Runs view x r s → Runs view y r s
runs_as view x y r s e h = let P : Run _ → Type 0 = λ x. Runs view x r s in subst P e h

pub stops_in : {A B C D : Type 0} (view : A → B) (view2 : C → D) (run : Run B) (k : B → State → Run D) (e : Stop) (s : State) →
    Runs view run (Err e) s → Runs view2 (then_do run k) (Err e) s
stops_in view view2 run k stop.Memory s h = tt
stops_in view view2 run k (stop.Ended n) s h = ap (λ r. then_do r k) h
stops_in view view2 run k (stop.Undefined act at) s h = ap (λ r. then_do r k) h

-- and where it went on
pub goes_on : {A B C D : Type 0} (view : A → B) (view2 : C → D) (run : Run B) (k : B → State → Run D) (a : A) (r : Result C Stop) (s t : State) →
    Runs view run (Ok a) s → Runs view2 (k (view a) s) r t → Runs view2 (then_do run k) r t
goes_on view view2 run k a r s t h n =
    let P : Run _ → Type 0 = λ x. Runs view2 x r t in
    subst P (sym (ap (λ r. then_do r k) h)) n

-- ---- objects made anew

pub no_type : (ts : List ObjectType) (n : ℕ) → length ts ≤ n → Element None ≡ new_object (slice_get (map object_type_of ts) n)
no_type ts n h = ap new_object (sym (slice_get-map object_type_of ts n ∙ ap (option_map object_type_of) (beyond_any ts n h)))

pub of_type : (ts : List ObjectType) (n : ℕ) (t : ObjectType) (new : Tree) → n < length ts → t ≡ get_or ts n t → new ≡ filled None t.lengths.items →
    new ≡ new_object (slice_get (map object_type_of ts) n)
of_type ts n t new h e is = is ∙ ap new_object (sym (slice_get-map object_type_of ts n ∙ ap (option_map object_type_of) (got_any ts n t h e)))

pub renews : (s : State) (objects : List type.ObjectType) (n : ℕ) (store : Store) (r : Reference) (t : Tree) → store ≡ put s.store r t → r ≡ own n s →
    t ≡ new_object (slice_get objects n) → record s { store = store } ≡ renewed objects n s
renews s objects n store r t a b c =
    let with : Store → State = λ x. record s { store = x } in
    ap with (a ∙ ap (λ r. put s.store r t) b ∙ ap (put s.store (own n s)) c)

pub renews_nothing : (s : State) (objects : List type.ObjectType) (n : ℕ) → length s.store ≤ s.base + n → s ≡ renewed objects n s
renews_nothing s objects n h =
    let with : Store → State = λ x. record s { store = x } in
    ap with (sym (nothing_is_put s.store (own n s) (new_object (slice_get objects n)) (beyond_any s.store (s.base + n) h)))

-- ---- assignments that read their element

module _ (p : typed.Program) (c : Compound) (r : Reference) (v v2 : ℤ) (same_v : v2 ≡ v) (s : State) where
  pub combine_reads : (e : Stop) → Runs number (read c.read_at r s) (Err e) s → Runs number (combined p c r v s) (Err e) s
  combine_reads e h = stops_in number number (read c.read_at r s) _ e s h

  pub combine_writes : (old old2 w w2 : ℤ) (x : Result ℤ Stop) (t : State) → old2 ≡ old → w2 ≡ w → Runs number (read c.read_at r s) (Ok old) s →
      Runs number (computed_at c.at (operated c.op c.of old2 v2) s) (Ok w) s → Runs number (write p c.at r (converted c.ty w2) s) x t → Runs number (combined p c r v s) x t
  combine_writes old old2 w w2 x t a b h k n =
      let k2 : Runs number (computed_at c.at (operated c.op c.of old v) s) (Ok w) s =
      runs_as number _ _ (Ok w) s (ap (λ x. computed_at c.at (operated c.op c.of x v2) s) a ∙ ap (λ x. computed_at c.at (operated c.op c.of old x) s) same_v) k in
      let n2 : Runs number (write p c.at r (converted c.ty w) s) x t =
      runs_as number _ _ x t (ap (λ x. write p c.at r (converted c.ty x) s) b) n in
      goes_on number number (read c.read_at r s) _ old x s t h (goes_on number number (computed_at c.at (operated c.op c.of old v) s) _ w x s t k2 n2)

  pub combine_computes : (old old2 : ℤ) (e : Stop) → old2 ≡ old → Runs number (read c.read_at r s) (Ok old) s →
      Runs number (computed_at c.at (operated c.op c.of old2 v2) s) (Err e) s → Runs number (combined p c r v s) (Err e) s
  combine_computes old old2 e a h k =
      let k2 : Runs number (computed_at c.at (operated c.op c.of old v) s) (Err e) s =
      runs_as number _ _ (Err e) s (ap (λ x. computed_at c.at (operated c.op c.of x v2) s) a ∙ ap (λ x. computed_at c.at (operated c.op c.of old x) s) same_v) k in
      goes_on number number (read c.read_at r s) _ old (Err e) s s h (stops_in number number (computed_at c.at (operated c.op c.of old v) s) _ e s k2)

module _ (p : typed.Program) (c : Stepping) (r : Reference) (op : BinOp) (same_op : op ≡ step_operation c.op) (s : State) where
  pub step_reads : (e : Stop) → Runs number (read c.read_at r s) (Err e) s → Runs number (stepped p c r s) (Err e) s
  step_reads e h = stops_in number number (read c.read_at r s) _ e s h

  pub step_computes : (old old2 : ℤ) (e : Stop) → old2 ≡ old → Runs number (read c.read_at r s) (Ok old) s →
      Runs number (computed_at c.at (operated op c.of old2 (pos 1)) s) (Err e) s → Runs number (stepped p c r s) (Err e) s
  step_computes old old2 e a h k =
      let k2 : Runs number (computed_at c.at (operated (step_operation c.op) c.of old (pos 1)) s) (Err e) s =
      runs_as number _ _ (Err e) s (ap (λ x. computed_at c.at (operated op c.of x (pos 1)) s) a ∙ ap (λ x. computed_at c.at (operated x c.of old (pos 1)) s) same_op) k in
      goes_on number number (read c.read_at r s) _ old (Err e) s s h (stops_in number number (computed_at c.at (operated (step_operation c.op) c.of old (pos 1)) s) _ e s k2)

  module _ (old old2 w w2 : ℤ) (a : old2 ≡ old) (b : w2 ≡ w) (h : Runs number (read c.read_at r s) (Ok old) s)
      (k : Runs number (computed_at c.at (operated op c.of old2 (pos 1)) s) (Ok w) s) (t : State) where
    then_written : (x : Result ℤ Stop) → Runs number (then_do (write p c.at r (converted c.ty w) s) (λ new s. Goes (step_value (moment_of c.moment) old new) s)) x t →
        Runs number (stepped p c r s) x t
    then_written x n =
        let k2 : Runs number (computed_at c.at (operated (step_operation c.op) c.of old (pos 1)) s) (Ok w) s =
        runs_as number _ _ (Ok w) s (ap (λ x. computed_at c.at (operated op c.of x (pos 1)) s) a ∙ ap (λ x. computed_at c.at (operated x c.of old (pos 1)) s) same_op) k in
        goes_on number number (read c.read_at r s) _ old x s t h (goes_on number number (computed_at c.at (operated (step_operation c.op) c.of old (pos 1)) s) _ w x s t k2 n)

    pub step_refused : (e : Stop) → Runs number (write p c.at r (converted c.ty w2) s) (Err e) t → Runs number (stepped p c r s) (Err e) t
    step_refused e n =
        let n2 : Runs number (write p c.at r (converted c.ty w) s) (Err e) t =
        runs_as number _ _ (Err e) t (ap (λ x. write p c.at r (converted c.ty x) s) b) n in
        then_written (Err e) (stops_in number number (write p c.at r (converted c.ty w) s) _ e t n2)

    pub step_writes : (new given : ℤ) → given ≡ step_value (moment_of c.moment) old new → Runs number (write p c.at r (converted c.ty w2) s) (Ok new) t →
        stepped p c r s ≡ Goes given t
    step_writes new given e n =
        let n2 : Runs number (write p c.at r (converted c.ty w) s) (Ok new) t =
        runs_as number _ _ (Ok new) t (ap (λ x. write p c.at r (converted c.ty x) s) b) n in
        then_written (Ok given) (goes_on number number (write p c.at r (converted c.ty w) s) _ new (Ok given) t t n2 (ap (λ v. Goes v t) (sym e)))
