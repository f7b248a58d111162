-- Where a switch jumps to.
use Rattle.std.proofs.Common.{◌≡◌, ◌≤◌, ℕ, zero, suc, ◌+◌, ◌-◌, ℤ, List, [], ◌∷◌, ◌++◌, map, length, Option, Some, None, refl, sym, ap, subst, ◌∙◌, arith}
use Rattle.std.specs.Prelude.{Bool, true, false, drop, nat_lt}
use Rattle.std.specs.Borrow.{Bor}
use Rattle.std.proofs.lemmas.Bool.{and_parts, le-ltb}
use Rattle.typing_spec.specs.Types.{ObjectType}
use Rattle.typing_spec.specs.Program as typed
use Rattle.typed_ast.specs.declared.statements.Statement.{Statement}
use Rattle.typed_ast.specs.View.{statement_of, statements_of}
use Rattle.csem.specs.Machine.{State, Run, Goes, Stops, then_do, choose, tick, tick_of}
use Rattle.csem.specs.Statements.{Flow, next_after, after_switch, labels_at, labels_of, label_for, same_value, execute, execute_all, execute_from}
use Rattle.interp_store.specs.declared.scene.Scene.{Scene}
use Rattle.interp_store.specs.layer.Frames.{Found}
use Rattle.interp_store.specs.layer.Presents.{call_in}
use Rattle.interp_eval.specs.layer.Comes.{Course, Leads, all_executed, from_label, selected, jumped}
use Rattle.interp_eval.specs.layer.Quick.{quick_all, quick_statement}
use Rattle.interp_eval.proofs.Work.{work_all, work_statement}
use Rattle.interp_eval.proofs.Comings.{leads_as}

-- a statement with these labels is passed
abbrev passed : List (Option ℤ) → ℤ → (here default : typed.Statements) → (go : typed.Statements → State → Run typed.Statements) → State → Run typed.Statements
passed [] v here default go s = go default s
passed (None ∷ labels) v here default go s = go here s
passed (Some c ∷ labels) v here default go s = tick s (λ s. choose (same_value c v) (Goes here s) (go default s))

-- the statements to which a value jumps, where these are left, and those from the last `default` on
abbrev pub choosing : ℤ → (left default : typed.Statements) → State → Run typed.Statements
choosing v typed.no_statements default s = Goes default s
choosing v (typed.and_statement a more) default s = passed (labels_at a) v (typed.and_statement a more) default (choosing v more) s

-- a statement is a label at most
data Kind (labels : List (Option ℤ)) : Type 0 where
  no_label : labels ≡ [] → Kind labels
  a_default : labels ≡ None ∷ [] → Kind labels
  a_case : (c : ℤ) → labels ≡ Some c ∷ [] → Kind labels

kind : (a : typed.Statement) → Kind (labels_at a)
kind typed.empty = no_label refl
kind (typed.evaluate e) = no_label refl
kind (typed.declare n) = no_label refl
kind (typed.define n i) = no_label refl
kind (typed.block first count all) = no_label refl
kind (typed.branch e a) = no_label refl
kind (typed.branches e a b) = no_label refl
kind (typed.switch t e first count all) = no_label refl
kind (typed.case v) = a_case v refl
kind typed.default = a_default refl
kind (typed.while e a) = no_label refl
kind (typed.do_while a e) = no_label refl
kind (typed.for declared start test step a) = no_label refl
kind typed.break = no_label refl
kind typed.continue = no_label refl
kind typed.return_nothing = no_label refl
kind (typed.return_value t e) = no_label refl

-- ---- numbers of labels

none_left : (k : ℕ) (here : typed.Statements) (more : typed.Statements) → choose (nat_lt k 0) here (from_label (Some (k - 0)) more) ≡ from_label (Some k) more
none_left k here more =
    let below : 0 ≤ k = omega arith in
    let same : k - 0 ≡ k = omega arith in
    ap (λ b. choose b here (from_label (Some (k - 0)) more)) (le-ltb k 0 below) ∙ ap (λ m. from_label (Some m) more) same

one_left : (k : ℕ) (here : typed.Statements) (more : typed.Statements) → choose (nat_lt (suc k) 1) here (from_label (Some (suc k - 1)) more) ≡ from_label (Some k) more
one_left k here more =
    let below : 1 ≤ suc k = omega arith in
    let same : suc k - 1 ≡ k = omega arith in
    ap (λ b. choose b here (from_label (Some (suc k - 1)) more)) (le-ltb (suc k) 1 below) ∙ ap (λ m. from_label (Some m) more) same

module _ (v : ℤ) (all : typed.Statements) where
  -- these are left, and the labels from this number on with them
  abbrev Numbered : ℕ → typed.Statements → Type 0
  Numbered n more = (k : ℕ) → from_label (Some (n + k)) all ≡ from_label (Some k) more

  module _ (a : typed.Statement) (more : typed.Statements) (n : ℕ) (h : Numbered n (typed.and_statement a more)) where
    by_labels : (labels : List (Option ℤ)) → labels_at a ≡ labels → (k : ℕ) →
        from_label (Some (n + k)) all ≡ choose (nat_lt k (length labels)) (typed.and_statement a more) (from_label (Some (k - length labels)) more)
    by_labels labels e k = h k ∙ ap (λ labels. choose (nat_lt k (length labels)) (typed.and_statement a more) (from_label (Some (k - length labels)) more)) e

    numbered_past : labels_at a ≡ [] → Numbered n more
    numbered_past e k = by_labels [] e k ∙ none_left k (typed.and_statement a more) more

    numbered_behind : (x : Option ℤ) → labels_at a ≡ x ∷ [] → Numbered (suc n) more
    numbered_behind x e k =
        let same : suc n + k ≡ n + suc k = omega arith in
        ap (λ m. from_label (Some m) all) same ∙ by_labels (x ∷ []) e (suc k) ∙ one_left k (typed.and_statement a more) more

    number_here : (x : Option ℤ) → labels_at a ≡ x ∷ [] → from_label (Some n) all ≡ typed.and_statement a more
    number_here x e =
        let same : n ≡ n + 0 = omega arith in
        ap (λ m. from_label (Some m) all) same ∙ by_labels (x ∷ []) e 0

  abbrev labelled : Option ℕ → State → Run typed.Statements
  labelled label s = Goes (from_label label all) s

  abbrev Picks : typed.Statements → Type 0
  Picks more = (n : ℕ) (label : Option ℕ) → Numbered n more → (s : State) → then_do (label_for v (labels_of more) n label s) labelled ≡ choosing v more (from_label label all) s

  chosen_then : (b : Bool) (x : Option ℕ) (here : typed.Statements) (r : Run (Option ℕ)) (q : Run typed.Statements) (s : State) → from_label x all ≡ here → then_do r labelled ≡ q →
      then_do (choose b (Goes x s) r) labelled ≡ choose b (Goes here s) q
  chosen_then true x here r q s e h = ap (λ x. Goes x s) e
  chosen_then false x here r q s e h = h

  ticked_then : (m : ℕ) (s : State) (f : State → Run (Option ℕ)) (g : State → Run typed.Statements) → ((s : State) → then_do (f s) labelled ≡ g s) →
      then_do (tick_of m s f) labelled ≡ tick_of m s g
  ticked_then zero s f g h = refl
  ticked_then (suc m) s f g h = h (record s { clock = m })

  module _ (a : typed.Statement) (more : typed.Statements) (ih : Picks more) where
    abbrev Picked : List (Option ℤ) → ℕ → Option ℕ → State → Type 0
    Picked labels n label s = then_do (label_for v (labels ++ labels_of more) n label s) labelled ≡
        passed labels v (typed.and_statement a more) (from_label label all) (choosing v more) s

    picked : (labels : List (Option ℤ)) (n : ℕ) (label : Option ℕ) (s : State) → labels_at a ≡ labels → Picked labels n label s → Picked (labels_at a) n label s
    picked labels n label s e h = let P : List (Option ℤ) → Type 0 = λ labels. Picked labels n label s in subst P (sym e) h

    by_kind : Kind (labels_at a) → Picks (typed.and_statement a more)
    by_kind (no_label e) n label h s = picked [] n label s e (ih n label (numbered_past a more n h e) s)
    by_kind (a_default e) n label h s =
        picked (None ∷ []) n label s e
        (ih (suc n) (Some n) (numbered_behind a more n h None e) s ∙ ap (λ here. choosing v more here s) (number_here a more n h None e))
    by_kind (a_case c e) n label h s =
        picked (Some c ∷ []) n label s e
        (ticked_then s.clock s (λ s. choose (same_value c v) (Goes (Some n) s) (label_for v (labels_of more) (suc n) label s))
        (λ s. choose (same_value c v) (Goes (typed.and_statement a more) s) (choosing v more (from_label label all) s))
        (λ s. chosen_then (same_value c v) (Some n) (typed.and_statement a more) (label_for v (labels_of more) (suc n) label s) (choosing v more (from_label label all) s) s
        (number_here a more n h (Some c) e) (ih (suc n) label (numbered_behind a more n h (Some c) e) s)))

  picks : (more : typed.Statements) → Picks more
  picks typed.no_statements n label h s = refl
  picks (typed.and_statement a more) n label h s = by_kind a more (picks more) (kind a) n label h s

from_start : (all : typed.Statements) (k : ℕ) → from_label (Some (0 + k)) all ≡ from_label (Some k) all
from_start all k = let same : 0 + k ≡ k = omega arith in ap (λ k. from_label (Some k) all) same

from_none : (all : typed.Statements) → from_label None all ≡ typed.no_statements
from_none typed.no_statements = refl
from_none (typed.and_statement a more) = refl

-- ---- the loop over the statements of the block

empty : (xs : List Statement) → length xs ≡ 0 → xs ≡ []
empty [] e = refl
empty (x ∷ xs) e = absurd (omega (arith, e))

module _ (c : Course) (k : ℕ) (scene : Scene) (v : ℤ) (rest : typed.Statements → State → Run Found) where
  -- begins
  pub chooses_all : (all : typed.Statements) → Leads c k scene (selected v all) rest → Leads c k scene (choosing v all typed.no_statements) rest
  chooses_all all h = leads_as c k scene (selected v all) (choosing v all typed.no_statements) rest
      (λ s. picks v all all 0 None (from_start all) s ∙ ap (λ default. choosing v all default s) (from_none all)) h

  -- ends
  pub chooses_default : (xs : List Statement) (default : typed.Statements) → length xs ≡ 0 →
      Leads c k scene (choosing v (statements_of (map statement_of xs)) default) rest → Leads c k scene (λ s. Goes default s) rest
  chooses_default xs default e h = let P : List Statement → Type 0 = λ xs. Leads c k scene (choosing v (statements_of (map statement_of xs)) default) rest in subst P (empty xs e) h

  -- goes by the labels of a statement
  chooses_at : (xs : List Statement) (x : Statement) (more : List Statement) (default : typed.Statements) (labels : List (Option ℤ)) → xs ≡ x ∷ more → labels_at (statement_of x) ≡ labels →
      Leads c k scene (choosing v (statements_of (map statement_of xs)) default) rest →
      Leads c k scene (passed labels v (statements_of (map statement_of xs)) default (choosing v (statements_of (map statement_of more)))) rest
  chooses_at xs x more default labels e is h =
      let P : List Statement → Type 0 = λ xs. Leads c k scene (choosing v (statements_of (map statement_of xs)) default) rest in
      let Q : List (Option ℤ) → Type 0 = λ labels. Leads c k scene (passed labels v (statements_of (map statement_of (x ∷ more))) default (choosing v (statements_of (map statement_of more)))) rest in
      let R : List Statement → Type 0 = λ xs. Leads c k scene (passed labels v (statements_of (map statement_of xs)) default (choosing v (statements_of (map statement_of more)))) rest in
      let first : Q (labels_at (statement_of x)) = subst P e h in
      let there : R (x ∷ more) = subst Q is first in
      subst R (sym e) there

  module _ (xs : List Statement) (x : Statement) (more : List Statement) (default : typed.Statements) where
    pub at_case : (w : ℤ) → xs ≡ x ∷ more → labels_at (statement_of x) ≡ Some w ∷ [] → Leads c k scene (choosing v (statements_of (map statement_of xs)) default) rest →
        Leads c k scene (λ s. tick s (λ s. choose (same_value w v) (Goes (statements_of (map statement_of xs)) s) (choosing v (statements_of (map statement_of more)) default s))) rest
    at_case w e is h = chooses_at xs x more default (Some w ∷ []) e is h

    pub at_default : xs ≡ x ∷ more → labels_at (statement_of x) ≡ None ∷ [] → Leads c k scene (choosing v (statements_of (map statement_of xs)) default) rest →
        Leads c k scene (choosing v (statements_of (map statement_of more)) (statements_of (map statement_of xs))) rest
    at_default e is h = chooses_at xs x more default (None ∷ []) e is h

    pub at_none : xs ≡ x ∷ more → labels_at (statement_of x) ≡ [] → Leads c k scene (choosing v (statements_of (map statement_of xs)) default) rest →
        Leads c k scene (choosing v (statements_of (map statement_of more)) default) rest
    at_none e is h = chooses_at xs x more default [] e is h

-- a value that is the same as another
pub selects_with : (c : Course) (k : ℕ) (scene : Scene) (v w : ℤ) (rest : typed.Statements → State → Run Found) (all : typed.Statements) → v ≡ w →
    Leads c k scene (selected v all) rest → Leads c k scene (selected w all) rest
selects_with c k scene v w rest all e h = leads_as c k scene (selected v all) (selected w all) rest (λ s. ap (λ v. selected v all s) e) h

-- ---- the statements from a label on

module _ (p : typed.Program) (objects : List ObjectType) where
  runs_at : (b : Bool) (a : typed.Statement) (more there : typed.Statements) (r : Run Flow) (s : State) → execute_all p (call_in p) objects there s ≡ r →
      execute_all p (call_in p) objects (choose b (typed.and_statement a more) there) s ≡
      choose b (then_do (execute p (call_in p) objects a s) (λ flow s. next_after flow s (execute_all p (call_in p) objects more))) r
  runs_at true a more there r s h = refl
  runs_at false a more there r s h = h

  runs_from : (all : typed.Statements) (label : Option ℕ) (s : State) → execute_all p (call_in p) objects (from_label label all) s ≡ execute_from p (call_in p) objects label all s
  runs_from typed.no_statements label s = refl
  runs_from (typed.and_statement a more) None s = refl
  runs_from (typed.and_statement a more) (Some k) s =
      runs_at (nat_lt k (length (labels_at a))) a more (from_label (Some (k - length (labels_at a))) more) (execute_from p (call_in p) objects (Some (k - length (labels_at a))) more s) s
      (runs_from more (Some (k - length (labels_at a))) s)

  runs_then : (all : typed.Statements) (r : Run (Option ℕ)) →
      then_do r (λ label s. then_do (execute_from p (call_in p) objects label all s) after_switch) ≡
      then_do (then_do r (λ label s. Goes (from_label label all) s)) (λ x s. then_do (all_executed objects x p s) after_switch)
  runs_then all (Goes label s) = ap (λ r. then_do r after_switch) (sym (runs_from all label s))
  runs_then all (Stops e s) = refl

  pub jumps_then : (c : Course) (k : ℕ) (scene : Scene) (v : ℤ) (all : typed.Statements) (rest : Flow → State → Run Found) → Leads c k scene (jumped objects v all p) rest →
      Leads c k scene (λ s. then_do (selected v all s) (λ x s. then_do (all_executed objects x p s) after_switch)) rest
  jumps_then c k scene v all rest h =
      leads_as c k scene (jumped objects v all p) (λ s. then_do (selected v all s) (λ x s. then_do (all_executed objects x p s) after_switch)) rest
      (λ s. runs_then all (label_for v (labels_of all) 0 None s)) h

-- the same of a whole switch
pub jumps_with : (c : Course) (k : ℕ) (scene : Scene) (objects : List ObjectType) (v w : ℤ) (all : typed.Statements) (p : typed.Program) (rest : Flow → State → Run Found) → v ≡ w →
    Leads c k scene (jumped objects v all p) rest → Leads c k scene (jumped objects w all p) rest
jumps_with c k scene objects v w all p rest e h = leads_as c k scene (jumped objects v all p) (jumped objects w all p) rest (λ s. ap (λ v. jumped objects v all p s) e) h

-- ---- a part of the statements

abbrev pub those : Bor (List Statement) → typed.Statements
those x = statements_of (map statement_of x.now)

pub next_part : (k : ℕ) (all xs : List Statement) (x : Statement) (more : List Statement) → xs ≡ drop k all → xs ≡ x ∷ more → more ≡ drop (suc k) all
next_part zero [] xs x more e is = absurd (cc (e, is))
next_part zero (y ∷ all) xs x more e is = cc (e, is)
next_part (suc k) [] xs x more e is = absurd (cc (e, is))
next_part (suc k) (y ∷ all) xs x more e is = next_part k all xs x more e is

pub no_part : (all : List Statement) → [] ≡ drop (length all) all
no_part [] = refl
no_part (x ∷ all) = no_part all

work_part : (k : ℕ) (all : List Statement) → work_all (statements_of (map statement_of (drop k all))) ≤ work_all (statements_of (map statement_of all))
work_part zero all = omega arith
work_part (suc k) [] = omega arith
work_part (suc k) (x ∷ all) =
    let h : work_all (statements_of (map statement_of (drop k all))) ≤ work_all (statements_of (map statement_of all)) = work_part k all in
    let goal : work_all (statements_of (map statement_of (drop k all))) ≤ work_statement (statement_of x) + work_all (statements_of (map statement_of all)) + 1 = omega (arith, h) in
    goal

pub part_below : (k : ℕ) (all xs : List Statement) → xs ≡ drop k all → work_all (statements_of (map statement_of xs)) ≤ work_all (statements_of (map statement_of all))
part_below k all xs e =
    let P : List Statement → Type 0 = λ xs. work_all (statements_of (map statement_of xs)) ≤ work_all (statements_of (map statement_of all)) in
    subst P (sym e) (work_part k all)

quick_part : (k : ℕ) (all : List Statement) → quick_all (statements_of (map statement_of all)) ≡ true → quick_all (statements_of (map statement_of (drop k all))) ≡ true
quick_part zero all q = q
quick_part (suc k) [] q = q
quick_part (suc k) (x ∷ all) q = quick_part k all (and_parts (quick_statement (statement_of x)) (quick_all (statements_of (map statement_of all))) q).1

pub part_quick : (k : ℕ) (all xs : List Statement) → xs ≡ drop k all → quick_all (statements_of (map statement_of all)) ≡ true → quick_all (statements_of (map statement_of xs)) ≡ true
part_quick k all xs e q = let P : List Statement → Type 0 = λ xs. quick_all (statements_of (map statement_of xs)) ≡ true in subst P (sym e) (quick_part k all q)
