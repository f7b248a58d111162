-- The results of statements.
use Rattle.std.proofs.Common.{◌≡◌, ◌≤◌, ℕ, List, ◌∷◌, map, Option, Some, None, sym, ap, ◌∙◌, subst, arith, ◌+◌}
use Rattle.typing_spec.specs.Types.{ObjectType}
use Rattle.typing_spec.specs.Program as typed
use Rattle.ctypes.specs.declared.types.IntType.{IntType}
use Rattle.csem.specs.Store.{Reference}
use Rattle.csem.specs.Machine.{State, Run, Goes, then_do}
use Rattle.csem.specs.Expressions.{evaluate_or}
use Rattle.csem.specs.Statements.{Flow, Normal, Broken, Continued, Returned, after_body, next_after, own, define_object}
use Rattle.typed_ast.specs.declared.statements.Statement.{Statement}
use Rattle.typed_ast.specs.View.{statement_of, statements_of}
use Rattle.interp_store.specs.declared.scene.Scene.{Scene}
use Rattle.interp_store.specs.layer.Frames.{Found}
use Rattle.interp_store.specs.layer.Presents.{call_in, loop, tested}
use Rattle.interp_store.specs.layer.Agrees.{Outside, state_in}
use Rattle.interp_store.proofs.Adequate.{real}
use Rattle.interp_eval.specs.layer.Comes.{Course, Leads, initialised, executed, all_executed, way_out}
use Rattle.interp_eval.proofs.Work.{work_all, work_statement}
use Rattle.interp_eval.proofs.Comings.{leads_as}

-- objects were changed
pub moved : {A : Type 0} (c : Course) (k : ℕ) (before later : Scene) (change : State → State) (next : State → Run A) (rest : A → State → Run Found) →
    ((o : Outside) → state_in later o ≡ change (state_in before o)) → Leads c k before (λ s. next (change s)) rest → Leads c k later next rest
moved c k before later change next rest e h = record {
  is_left = λ n. ap (λ s. then_do (next s) rest) (e (record { clock = n; input = c.input; history = c.history })) ∙ h.is_left n;
}

-- one more turn
pub turned : (c : Course) (k : ℕ) (scene : Scene) (p : typed.Program) (objects : List ObjectType) (test : Option typed.Value) (a : typed.Statement)
    (step : Option typed.Value) (rest : Flow → State → Run Found) →
    Leads c k scene (λ s. loop p (call_in p) objects test a step s) rest →
    Leads c k scene (λ s. then_do (evaluate_or p (call_in p) test s) (λ v s. tested p (call_in p) objects test a step v s)) rest
turned c k scene p objects test a step rest h =
    leads_as c k scene (λ s. loop p (call_in p) objects test a step s) (λ s. then_do (evaluate_or p (call_in p) test s) (λ v s. tested p (call_in p) objects test a step v s)) rest
    (λ s. (real p).again objects test a step s) h

-- out of the loop
pub out : (c : Course) (k : ℕ) (scene : Scene) (flow other : Flow) (again : State → Run Flow) (rest : Flow → State → Run Found) → way_out flow ≡ Some other →
    Leads c k scene (λ s. after_body flow s again) rest → Leads c k scene (λ s. Goes other s) rest
out c k scene Normal other again rest e h = absurd (cc e)
out c k scene Continued other again rest e h = absurd (cc e)
out c k scene Broken other again rest e h = leads_as c k scene (λ s. Goes Normal s) (λ s. Goes other s) rest (λ s. ap (λ f. Goes f s) (cc e)) h
out c k scene (Returned v) other again rest e h = leads_as c k scene (λ s. Goes (Returned v) s) (λ s. Goes other s) rest (λ s. ap (λ f. Goes f s) (cc e)) h

-- or on
pub on : (c : Course) (k : ℕ) (scene : Scene) (flow : Flow) (again : State → Run Flow) (rest : Flow → State → Run Found) → way_out flow ≡ None →
    Leads c k scene (λ s. after_body flow s again) rest → Leads c k scene again rest
on c k scene Normal again rest e h = h
on c k scene Continued again rest e h = h
on c k scene Broken again rest e h = absurd (cc e)
on c k scene (Returned v) again rest e h = absurd (cc e)

-- ---- statements one after the other

pub headed : (c : Course) (k : ℕ) (scene : Scene) (p : typed.Program) (objects : List ObjectType) (xs : List Statement) (x : Statement)
    (more : List Statement) (rest : Flow → State → Run Found) → xs ≡ x ∷ more →
    Leads c k scene (all_executed objects (statements_of (map statement_of xs)) p) rest →
    Leads c k scene (λ s. then_do (executed objects (statement_of x) p s) (λ flow s. next_after flow s (all_executed objects (statements_of (map statement_of more)) p))) rest
headed c k scene p objects xs x more rest e h =
    let P : List Statement → Type 0 = λ xs. Leads c k scene (all_executed objects (statements_of (map statement_of xs)) p) rest in
    subst P e h

pub fewer : (xs : List Statement) (x : Statement) (more : List Statement) (n : ℕ) → xs ≡ x ∷ more → work_all (statements_of (map statement_of xs)) ≤ n
    → work_all (statements_of (map statement_of more)) ≤ n
fewer xs x more n e h =
    let P : List Statement → Type 0 = λ xs. work_all (statements_of (map statement_of xs)) ≤ n in
    let all : work_statement (statement_of x) + work_all (statements_of (map statement_of more)) + 1 ≤ n = subst P e h in
    omega (arith, all)

-- ---- definitions

-- the same at its place
pub leads_there : {A : Type 0} (c : Course) (k : ℕ) (scene : Scene) (part part2 : State → Run A) (rest : A → State → Run Found) → ((o : Outside) → part (state_in scene o) ≡ part2 (state_in scene o)) →
    Leads c k scene part rest → Leads c k scene part2 rest
leads_there c k scene part part2 rest e h = record {
  is_left = λ n. ap (λ r. then_do r rest) (sym (e (record { clock = n; input = c.input; history = c.history }))) ∙ h.is_left n;
}

-- a type, and these are its elements
pub defines : (c : Course) (k : ℕ) (scene : Scene) (p : typed.Program) (objects : List ObjectType) (n : ℕ) (o : Option ObjectType) (u : IntType) (lengths : List ℕ)
    (t : ObjectType) (i : typed.Initialiser) (r : Reference) (rest : Flow → State → Run Found) → o ≡ Some t → u ≡ t.element → lengths ≡ t.lengths →
    ((o : Outside) → r ≡ own n (state_in scene o)) →
    Leads c k scene (λ s. define_object p (call_in p) objects o n i s) rest →
    Leads c k scene (λ s. then_do (initialised i u lengths r p s) (λ z s. Goes Normal s)) rest
defines c k scene p objects n o u lengths t i r rest is element same at h =
    leads_there c k scene (λ s. define_object p (call_in p) objects o n i s) (λ s. then_do (initialised i u lengths r p s) (λ z s. Goes Normal s)) rest
    (λ x.
    let s = state_in scene x in
    ap (λ o. define_object p (call_in p) objects o n i s) is
    ∙ ap (λ r. then_do (initialised i t.element t.lengths r p s) (λ (z : Unit {0}) s. Goes Normal s)) (sym (at x))
    ∙ ap (λ u. then_do (initialised i u t.lengths r p s) (λ (z : Unit {0}) s. Goes Normal s)) (sym element)
    ∙ ap (λ l. then_do (initialised i u l r p s) (λ (z : Unit {0}) s. Goes Normal s)) (sym same)) h

-- no type
pub defines_none : (c : Course) (k : ℕ) (scene : Scene) (p : typed.Program) (objects : List ObjectType) (n : ℕ) (o : Option ObjectType) (i : typed.Initialiser)
    (rest : Flow → State → Run Found) → o ≡ None → Leads c k scene (λ s. define_object p (call_in p) objects o n i s) rest → Leads c k scene (λ s. Goes Normal s) rest
defines_none c k scene p objects n o i rest is h =
    leads_there c k scene (λ s. define_object p (call_in p) objects o n i s) (λ s. Goes Normal s) rest (λ x. ap (λ o. define_object p (call_in p) objects o n i (state_in scene x)) is) h
