-- A part of a program keeps within the limits where each call in it does.
use Rattle.std.proofs.Common.{ℕ, zero, suc, ◌-◌, ◌*◌, List, [], ◌∷◌, ◌++◌, Option, Some, None, Bool, true, false, ℤ, pos, negsuc, refl, ◌∙◌, length}
use Rattle.std.specs.Prelude.{slice_get, nat_lt, Result, Ok, Err}
use Rattle.srcset.specs.declared.refusal.Pos.{Pos}
use Rattle.ctypes.specs.declared.types.IntType.{IntType}
use Rattle.ctypes.specs.declared.operators.Undef.{Undef}
use Rattle.ctypes.specs.declared.operators.Undef.TheVariants.{U5}
use Rattle.ctypes.specs.Types.{truth, of_truth, modulo, converted}
use Rattle.csem_events.specs.Events.{Got, GotEnd, Put}
use Rattle.typing_spec.specs.Types.{ObjectType, elements_in}
use Rattle.typing_spec.specs.Operators.{operated, sign_of}
use Rattle.typing_spec.specs.Program as typed
use Rattle.typing_spec.specs.Program.{Storage, Callee, Place, Value, Arguments, Initialiser, Initialisers, Statement, Statements, Program}
use Rattle.csem.specs.Store.{Reference, into, length_of, tree_at, value_at}
use Rattle.csem.specs.Machine.{State, Run, Goes, Ended, Undefined, TicksUsed, choose, ticks, undefined, computed_at, designated, subscripted, value_or_undefined, read, stored, write}
use Rattle.csem.specs.Expressions.{Passed, Number, Referred, Calling, call_value, get_byte, put_byte, first_number, call_of, position_of, step_operation, step_value, converted_or_none, find, evaluate, pass, evaluate_or}
use Rattle.csem.specs.Statements.{zeros, clear, characters, first_length, inner_lengths, text_or_none, initialise, initialise_all, own, renewed, all_renewed, Flow, Normal, Broken, Continued, Returned, next_after, after_body, after_switch, turns, labels_at, labels_of, same_value, label_for, define_object, execute, execute_all, execute_from}
use Rattle.verify_stack.specs.Calls.{callee_calls, place_calls, value_calls, argument_calls, option_calls, initialiser_calls, initialisers_calls, statement_calls, statements_calls}
use Rattle.verify_stack.proofs.Runs.{Limits, Has, Stays, Keeps, Plain, did_has, keeps_tick, keeps_then, keeps_choose, keeps_stay, keeps_stop, keeps_after, keeps_change, keeps_ticks, EachKept, kept_first, kept_rest}

keeps_undefined : {A : Type 0} (k : Limits) (u : Undef) (at : Pos) → Keeps {A = A} k (undefined u at)
keeps_undefined k u at = keeps_stop k (Undefined u at)

keeps_computed : (k : Limits) (at : Pos) (c : Result ℤ Undef) → Keeps k (computed_at at c)
keeps_computed k at (Ok v) = keeps_stay k v
keeps_computed k at (Err u) = keeps_undefined k u at

keeps_value : (k : Limits) (at : Pos) (o : Option ℤ) → Keeps k (value_or_undefined at o)
keeps_value k at None = keeps_undefined k _ at
keeps_value k at (Some v) = keeps_stay k v

keeps_read : (k : Limits) (at : Pos) (r : Reference) → Keeps k (read at r)
keeps_read k at r = record { keeps = λ s m. (keeps_value k at (value_at s.store r)).keeps s m }

keeps_designated : (k : Limits) (p : Program) (what : Storage) → Keeps k (λ s. Goes (designated p what s) s)
keeps_designated k p what = record { keeps = λ s m. m }

keeps_within : (k : Limits) (b : Bool) (at : Pos) (r : Reference) (u : Undef) → Keeps k (λ s. choose b (Goes r s) (undefined u at s))
keeps_within k b at r u = keeps_choose k b _ _ (keeps_stay k r) (keeps_undefined k u at)

keeps_subscripted : (k : Limits) (at : Pos) (r : Reference) (v : ℤ) → Keeps k (subscripted at r v)
keeps_subscripted k at r (pos i) = record { keeps = λ s m. (keeps_within k (nat_lt i (length_of (tree_at s.store r))) at (into r i) U5).keeps s m }
keeps_subscripted k at r (negsuc i) = keeps_undefined k _ at

plain_stored : (r : Reference) (v : ℤ) → Plain (stored r v)
plain_stored r v = record { same = λ s. refl }

keeps_write : (k : Limits) (p : Program) (at : Pos) (r : Reference) (v : ℤ) → Keeps k (write p at r v)
keeps_write k p at r v = keeps_choose k (nat_lt r.object (length p.literals)) _ _ (keeps_undefined k _ at) (keeps_change k v (stored r v) (plain_stored r v))

keeps_call_value : (k : Limits) (used : Bool) (at : Pos) (o : Option ℤ) → Keeps k (call_value used at o)
keeps_call_value k used at (Some v) = keeps_stay k v
keeps_call_value k true at None = keeps_undefined k _ at
keeps_call_value k false at None = keeps_stay k (pos 0)

get_keeps : (k : Limits) (i : List ℕ) (s : State) → Has k s.history → Stays k (get_byte i s)
get_keeps k [] s m = did_has k GotEnd s.history m
get_keeps k (b ∷ bs) s m = did_has k (Got b) s.history m

keeps_get : (k : Limits) → Keeps k (λ s. get_byte s.input s)
keeps_get k = record { keeps = λ s m. get_keeps k s.input s m }

keeps_put : (k : Limits) (v : ℤ) → Keeps k (put_byte v)
keeps_put k v = record { keeps = λ s m. did_has k (Put (modulo 8 v)) s.history m }

-- ---- expressions

module _ (k : Limits) (p : Program) (c : Calling) where
  keeps_call_of : (at : Pos) (callee : Callee) (used : Bool) (passed : List Passed) → EachKept k c (callee_calls callee) → Keeps k (call_of c at callee used passed)
  keeps_call_of at (typed.function f) used passed h = keeps_then k (c f passed) _ (h.0 passed) (λ v. keeps_call_value k used at v)
  keeps_call_of at typed.get_byte used passed h = keeps_get k
  keeps_call_of at typed.put_byte used passed h = keeps_put k (first_number passed)
  keeps_call_of at typed.exit used passed h = keeps_stop k (Ended (modulo 8 (first_number passed)))
  keeps_call_of at (typed.missing n) used passed h = keeps_stay k (pos 0)

  -- those of the first of two parts, and of the other
  left : (xs ys : List ℕ) → EachKept k c (xs ++ ys) → EachKept k c xs
  left xs ys h = kept_first k c xs ys h

  right : (xs ys : List ℕ) → EachKept k c (xs ++ ys) → EachKept k c ys
  right xs ys h = kept_rest k c xs ys h

  mutual
    keeps_find : (a : Place) → EachKept k c (place_calls a) → Keeps k (find p c a)
    keeps_find (typed.named at what) h = keeps_tick k _ (keeps_designated k p what)
    keeps_find (typed.element at a i) h =
        keeps_tick k _ (keeps_then k (find p c a) _ (keeps_find a (left (place_calls a) (value_calls i) h)) (λ r.
        keeps_then k (evaluate p c i) _ (keeps_evaluate i (right (place_calls a) (value_calls i) h)) (λ v. keeps_subscripted k at r v)))

    keeps_evaluate : (e : Value) → EachKept k c (value_calls e) → Keeps k (evaluate p c e)
    keeps_evaluate (typed.constant t v) h = keeps_tick k _ (keeps_stay k v)
    keeps_evaluate (typed.read t a) h = keeps_then k (find p c a) _ (keeps_find a h) (λ r. keeps_read k (position_of a) r)
    keeps_evaluate (typed.assigned at t a e) h =
        keeps_tick k _ (keeps_then k (find p c a) _ (keeps_find a (left (place_calls a) (value_calls e) h)) (λ r.
        keeps_then k (evaluate p c e) _ (keeps_evaluate e (right (place_calls a) (value_calls e) h)) (λ v. keeps_write k p at r (converted t v))))
    keeps_evaluate (typed.compound at op t of a e) h =
        keeps_tick k _ (keeps_then k (find p c a) _ (keeps_find a (left (place_calls a) (value_calls e) h)) (λ r.
        keeps_then k (evaluate p c e) _ (keeps_evaluate e (right (place_calls a) (value_calls e) h)) (λ v.
        keeps_then k (read (position_of a) r) _ (keeps_read k (position_of a) r) (λ old.
        keeps_then k (computed_at at (operated op of old v)) _ (keeps_computed k at (operated op of old v)) (λ w. keeps_write k p at r (converted t w))))))
    keeps_evaluate (typed.stepped at moment op t of a) h =
        keeps_tick k _ (keeps_then k (find p c a) _ (keeps_find a h) (λ r.
        keeps_then k (read (position_of a) r) _ (keeps_read k (position_of a) r) (λ old.
        keeps_then k (computed_at at (operated (step_operation op) of old (pos 1))) _ (keeps_computed k at (operated (step_operation op) of old (pos 1))) (λ w.
        keeps_then k (write p at r (converted t w)) _ (keeps_write k p at r (converted t w)) (λ new. keeps_stay k (step_value moment old new))))))
    keeps_evaluate (typed.unary at op t e) h = keeps_tick k _ (keeps_then k (evaluate p c e) _ (keeps_evaluate e h) (λ v. keeps_computed k at (sign_of op t v)))
    keeps_evaluate (typed.binary at op t a b) h =
        keeps_tick k _ (keeps_then k (evaluate p c a) _ (keeps_evaluate a (left (value_calls a) (value_calls b) h)) (λ v.
        keeps_then k (evaluate p c b) _ (keeps_evaluate b (right (value_calls a) (value_calls b) h)) (λ w. keeps_computed k at (operated op t v w))))
    keeps_evaluate (typed.both_true a b) h =
        keeps_tick k _ (keeps_then k (evaluate p c a) _ (keeps_evaluate a (left (value_calls a) (value_calls b) h)) (λ v.
        keeps_choose k (truth v) _ _ (keeps_then k (evaluate p c b) _ (keeps_evaluate b (right (value_calls a) (value_calls b) h)) (λ w. keeps_stay k (of_truth (truth w)))) (keeps_stay k (pos 0))))
    keeps_evaluate (typed.one_true a b) h =
        keeps_tick k _ (keeps_then k (evaluate p c a) _ (keeps_evaluate a (left (value_calls a) (value_calls b) h)) (λ v.
        keeps_choose k (truth v) _ _ (keeps_stay k (pos 1)) (keeps_then k (evaluate p c b) _ (keeps_evaluate b (right (value_calls a) (value_calls b) h)) (λ w. keeps_stay k (of_truth (truth w))))))
    keeps_evaluate (typed.chosen t d a b) h =
        let arms = right (value_calls d) (value_calls a ++ value_calls b) h in
        keeps_tick k _ (keeps_then k (evaluate p c d) _ (keeps_evaluate d (left (value_calls d) (value_calls a ++ value_calls b) h)) (λ v.
        keeps_then k (λ s. choose (truth v) (evaluate p c a s) (evaluate p c b s)) _
        (keeps_choose k (truth v) _ _ (keeps_evaluate a (left (value_calls a) (value_calls b) arms)) (keeps_evaluate b (right (value_calls a) (value_calls b) arms)))
        (λ w. keeps_stay k (converted_or_none t w))))
    keeps_evaluate (typed.sequence a b) h =
        keeps_tick k _ (keeps_then k (evaluate p c a) _ (keeps_evaluate a (left (value_calls a) (value_calls b) h)) (λ v. keeps_evaluate b (right (value_calls a) (value_calls b) h)))
    keeps_evaluate (typed.cast t e) h = keeps_tick k _ (keeps_then k (evaluate p c e) _ (keeps_evaluate e h) (λ v. keeps_stay k (converted t v)))
    keeps_evaluate (typed.discarded e) h = keeps_tick k _ (keeps_then k (evaluate p c e) _ (keeps_evaluate e h) (λ v. keeps_stay k (pos 0)))
    keeps_evaluate (typed.call at callee result used arguments) h =
        keeps_tick k _ (keeps_then k (pass p c arguments) _ (keeps_pass arguments (left (argument_calls arguments) (callee_calls callee) h)) (λ passed.
        keeps_call_of at callee used passed (right (argument_calls arguments) (callee_calls callee) h)))

    keeps_pass : (es : Arguments) → EachKept k c (argument_calls es) → Keeps k (pass p c es)
    keeps_pass typed.no_arguments h = keeps_stay k []
    keeps_pass (typed.and_number t e rest) h =
        keeps_then k (evaluate p c e) _ (keeps_evaluate e (left (value_calls e) (argument_calls rest) h)) (λ v.
        keeps_then k (pass p c rest) _ (keeps_pass rest (right (value_calls e) (argument_calls rest) h)) (λ passed. keeps_stay k (Number (converted t v) ∷ passed)))
    keeps_pass (typed.and_array a rest) h =
        keeps_then k (find p c a) _ (keeps_find a (left (place_calls a) (argument_calls rest) h)) (λ r.
        keeps_then k (pass p c rest) _ (keeps_pass rest (right (place_calls a) (argument_calls rest) h)) (λ passed. keeps_stay k (Referred r ∷ passed)))

  keeps_or : (o : Option Value) → EachKept k c (option_calls o) → Keeps k (evaluate_or p c o)
  keeps_or None h = keeps_stay k (pos 1)
  keeps_or (Some e) h = keeps_evaluate e h

-- ---- statements

keeps_next : (k : Limits) (f : Flow) (go : State → Run Flow) → Keeps k go → Keeps k (λ s. next_after f s go)
keeps_next k Normal go h = h
keeps_next k Broken go h = keeps_stay k Broken
keeps_next k Continued go h = keeps_stay k Continued
keeps_next k (Returned v) go h = keeps_stay k (Returned v)

keeps_after_body : (k : Limits) (f : Flow) (go : State → Run Flow) → Keeps k go → Keeps k (λ s. after_body f s go)
keeps_after_body k Normal go h = h
keeps_after_body k Continued go h = h
keeps_after_body k Broken go h = keeps_stay k Normal
keeps_after_body k (Returned v) go h = keeps_stay k (Returned v)

keeps_after_switch : (k : Limits) (f : Flow) → Keeps k (after_switch f)
keeps_after_switch k Normal = keeps_stay k Normal
keeps_after_switch k Broken = keeps_stay k Normal
keeps_after_switch k Continued = keeps_stay k Continued
keeps_after_switch k (Returned v) = keeps_stay k (Returned v)

module _ (k : Limits) (t : State → Run ℤ) (b : State → Run Flow) (u : State → Run ℤ) (ht : Keeps k t) (hb : Keeps k b) (hu : Keeps k u) where
  keeps_turns : (n : ℕ) → Keeps k (turns n t b u)
  keeps_turns zero = keeps_stop k TicksUsed
  keeps_turns (suc n) =
      keeps_then k t _ ht (λ v.
      keeps_choose k (truth v) _ _ (keeps_then k b _ hb (λ f. keeps_after_body k f _ (keeps_then k u _ hu (λ w. keeps_turns n)))) (keeps_stay k Normal))

  keeps_loop : Keeps k (λ s. turns s.clock t b u s)
  keeps_loop = record { keeps = λ s m. (keeps_turns s.clock).keeps s m }

keeps_label_for : (k : Limits) (v : ℤ) (labels : List (Option ℤ)) (n : ℕ) (d : Option ℕ) → Keeps k (label_for v labels n d)
keeps_label_for k v [] n d = keeps_stay k d
keeps_label_for k v (None ∷ labels) n d = keeps_label_for k v labels (suc n) (Some n)
keeps_label_for k v (Some w ∷ labels) n d = keeps_tick k _ (keeps_choose k (same_value w v) _ _ (keeps_stay k (Some n)) (keeps_label_for k v labels (suc n) d))

plain_self : Plain (λ s. s)
plain_self = record { same = λ s. refl }

plain_chain : (g h : State → State) → Plain g → Plain h → Plain (λ s. h (g s))
plain_chain g h pg ph = record { same = λ s. ph.same (g s) ∙ pg.same s }

plain_renewed : (objects : List ObjectType) (x : ℕ) → Plain (renewed objects x)
plain_renewed objects x = record { same = λ s. refl }

plain_all_renewed : (objects : List ObjectType) (x n : ℕ) → Plain (all_renewed objects x n)
plain_all_renewed objects x zero = plain_self
plain_all_renewed objects x (suc n) = plain_chain (renewed objects x) (all_renewed objects (suc x) n) (plain_renewed objects x) (plain_all_renewed objects (suc x) n)

plain_zeros : (n i : ℕ) (r : Reference) → Plain (zeros n i r)
plain_zeros zero i r = plain_self
plain_zeros (suc n) i r = plain_chain _ (zeros n (suc i) r) (record { same = λ s. refl }) (plain_zeros n (suc i) r)

plain_characters : (t : IntType) (n i : ℕ) (text : List ℕ) (r : Reference) → Plain (characters t n i text r)
plain_characters t zero i text r = plain_self
plain_characters t (suc n) i [] r = plain_chain (stored (into r i) (pos 0)) (characters t n (suc i) [] r) (plain_stored (into r i) (pos 0)) (plain_characters t n (suc i) [] r)
plain_characters t (suc n) i (ch ∷ text) r = plain_chain (stored (into r i) (converted t (pos ch))) (characters t n (suc i) text r) (plain_stored (into r i) (converted t (pos ch))) (plain_characters t n (suc i) text r)

keeps_clear : (k : Limits) (n i : ℕ) (lengths : List ℕ) (r : Reference) → Keeps k (clear n i lengths r)
keeps_clear k n i lengths r = keeps_then k (ticks (n * elements_in lengths)) _ (keeps_ticks k (n * elements_in lengths)) (λ u. keeps_change k tt (zeros n i r) (plain_zeros n i r))

-- the reference to an object of the present call changes no state
keeps_own : {A : Type 0} (k : Limits) (x : ℕ) (f : Reference → State → Run A) → ((r : Reference) → Keeps k (f r)) → Keeps k (λ s. f (own x s) s)
keeps_own k x f h = record { keeps = λ s m. (h (own x s)).keeps s m }

module _ (k : Limits) (p : Program) (c : Calling) where
  mutual
    keeps_initialise : (i : Initialiser) (t : IntType) (lengths : List ℕ) (r : Reference) → EachKept k c (initialiser_calls i) → Keeps k (initialise p c i t lengths r)
    keeps_initialise (typed.one_value u e) t lengths r h =
        keeps_then k (evaluate p c e) _ (keeps_evaluate k p c e h) (λ v. keeps_tick k _ (keeps_change k tt (stored r (converted u v)) (plain_stored r (converted u v))))
    keeps_initialise (typed.text n) t lengths r h =
        keeps_tick k _ (keeps_then k (ticks (first_length lengths)) _ (keeps_ticks k (first_length lengths)) (λ u.
        keeps_change k tt (characters t (first_length lengths) 0 (text_or_none (slice_get p.literals n)) r) (plain_characters t (first_length lengths) 0 (text_or_none (slice_get p.literals n)) r)))
    keeps_initialise (typed.in_braces i) t lengths r h = keeps_tick k _ (keeps_initialise i t lengths r h)
    keeps_initialise (typed.list all) t lengths r h = keeps_tick k _ (keeps_initialise_all all t (first_length lengths) 0 (inner_lengths lengths) r h)

    keeps_initialise_all : (all : Initialisers) (t : IntType) (n i : ℕ) (lengths : List ℕ) (r : Reference) → EachKept k c (initialisers_calls all) → Keeps k (initialise_all p c all t n i lengths r)
    keeps_initialise_all typed.no_initialisers t n i lengths r h = keeps_clear k n i lengths r
    keeps_initialise_all (typed.and_initialiser x rest) t n i lengths r h =
        keeps_then k (initialise p c x t lengths (into r i)) _ (keeps_initialise x t lengths (into r i) (kept_first k c (initialiser_calls x) (initialisers_calls rest) h)) (λ u.
        keeps_initialise_all rest t (n - 1) (suc i) lengths r (kept_rest k c (initialiser_calls x) (initialisers_calls rest) h))

module _ (k : Limits) (p : Program) (c : Calling) (objects : List ObjectType) where
  keeps_define : (o : Option ObjectType) (x : ℕ) (i : Initialiser) → EachKept k c (initialiser_calls i) → Keeps k (define_object p c objects o x i)
  keeps_define None x i h = keeps_stay k Normal
  keeps_define (Some t) x i h =
      keeps_then k (λ s. initialise p c i t.element t.lengths (own x s) s) _ (keeps_own k x (initialise p c i t.element t.lengths) (λ r. keeps_initialise k p c i t.element t.lengths r h)) (λ u. keeps_stay k Normal)

  -- those of the first of two parts, and of the other
  first : (xs ys : List ℕ) → EachKept k c (xs ++ ys) → EachKept k c xs
  first xs ys h = kept_first k c xs ys h

  rest : (xs ys : List ℕ) → EachKept k c (xs ++ ys) → EachKept k c ys
  rest xs ys h = kept_rest k c xs ys h

  keeps_value_of : (e : Value) → EachKept k c (value_calls e) → Keeps k (evaluate p c e)
  keeps_value_of e h = keeps_evaluate k p c e h

  keeps_option : (o : Option Value) → EachKept k c (option_calls o) → Keeps k (evaluate_or p c o)
  keeps_option o h = keeps_or k p c o h

  mutual
    keeps_execute : (a : Statement) → EachKept k c (statement_calls a) → Keeps k (execute p c objects a)
    keeps_execute typed.empty h = keeps_tick k _ (keeps_stay k Normal)
    keeps_execute (typed.evaluate e) h = keeps_tick k _ (keeps_then k (evaluate p c e) _ (keeps_value_of e h) (λ v. keeps_stay k Normal))
    keeps_execute (typed.declare x) h = keeps_tick k _ (keeps_change k Normal (renewed objects x) (plain_renewed objects x))
    keeps_execute (typed.define x i) h = keeps_tick k _ (keeps_after k (renewed objects x) (plain_renewed objects x) _ (keeps_define (slice_get objects x) x i h))
    keeps_execute (typed.block x n all) h = keeps_tick k _ (keeps_after k (all_renewed objects x n) (plain_all_renewed objects x n) _ (keeps_all all h))
    keeps_execute (typed.branch e a) h =
        keeps_tick k _ (keeps_then k (evaluate p c e) _ (keeps_value_of e (first (value_calls e) (statement_calls a) h)) (λ v.
        keeps_choose k (truth v) _ _ (keeps_execute a (rest (value_calls e) (statement_calls a) h)) (keeps_stay k Normal)))
    keeps_execute (typed.branches e a b) h =
        let arms = rest (value_calls e) (statement_calls a ++ statement_calls b) h in
        keeps_tick k _ (keeps_then k (evaluate p c e) _ (keeps_value_of e (first (value_calls e) (statement_calls a ++ statement_calls b) h)) (λ v.
        keeps_choose k (truth v) _ _ (keeps_execute a (first (statement_calls a) (statement_calls b) arms)) (keeps_execute b (rest (statement_calls a) (statement_calls b) arms))))
    keeps_execute (typed.switch t e x n all) h =
        keeps_tick k _ (keeps_then k (evaluate p c e) _ (keeps_value_of e (first (value_calls e) (statements_calls all) h)) (λ v. keeps_tick k _ (
        keeps_then k (λ s. label_for (converted t v) (labels_of all) 0 None (all_renewed objects x n s)) _
        (keeps_after k (all_renewed objects x n) (plain_all_renewed objects x n) (label_for (converted t v) (labels_of all) 0 None) (keeps_label_for k (converted t v) (labels_of all) 0 None)) (λ label.
        keeps_then k (execute_from p c objects label all) _ (keeps_from label all (rest (value_calls e) (statements_calls all) h)) (λ f. keeps_after_switch k f)))))
    keeps_execute (typed.while e a) h =
        keeps_tick k _ (keeps_loop k (evaluate p c e) (execute p c objects a) _ (keeps_value_of e (first (value_calls e) (statement_calls a) h)) (keeps_execute a (rest (value_calls e) (statement_calls a) h)) (keeps_option None tt))
    keeps_execute (typed.do_while a e) h =
        let body = keeps_execute a (first (statement_calls a) (value_calls e) h) in
        keeps_tick k _ (keeps_then k (execute p c objects a) _ body (λ f.
        keeps_after_body k f _ (keeps_loop k (evaluate p c e) (execute p c objects a) _ (keeps_value_of e (rest (statement_calls a) (value_calls e) h)) body (keeps_option None tt))))
    keeps_execute (typed.for all start test step a) h =
        let of_body = statement_calls a in
        let of_step = option_calls step ++ of_body in
        let of_test = option_calls test ++ of_step in
        let of_start = option_calls start ++ of_test in
        let h1 = rest (statements_calls all) of_start h in
        let h2 = rest (option_calls start) of_test h1 in
        let h3 = rest (option_calls test) of_step h2 in
        keeps_tick k _ (keeps_then k (execute_all p c objects all) _ (keeps_all all (first (statements_calls all) of_start h)) (λ f.
        keeps_then k (evaluate_or p c start) _ (keeps_option start (first (option_calls start) of_test h1)) (λ v.
        keeps_loop k (evaluate_or p c test) (execute p c objects a) (evaluate_or p c step) (keeps_option test (first (option_calls test) of_step h2)) (keeps_execute a (rest (option_calls step) of_body h3)) (keeps_option step (first (option_calls step) of_body h3)))))
    keeps_execute (typed.case v) h = keeps_tick k _ (keeps_stay k Normal)
    keeps_execute typed.default h = keeps_tick k _ (keeps_stay k Normal)
    keeps_execute typed.break h = keeps_tick k _ (keeps_stay k Broken)
    keeps_execute typed.continue h = keeps_tick k _ (keeps_stay k Continued)
    keeps_execute typed.return_nothing h = keeps_tick k _ (keeps_stay k (Returned None))
    keeps_execute (typed.return_value t e) h = keeps_tick k _ (keeps_then k (evaluate p c e) _ (keeps_value_of e h) (λ v. keeps_stay k (Returned (Some (converted t v)))))

    keeps_all : (all : Statements) → EachKept k c (statements_calls all) → Keeps k (execute_all p c objects all)
    keeps_all typed.no_statements h = keeps_stay k Normal
    keeps_all (typed.and_statement a more) h =
        keeps_then k (execute p c objects a) _ (keeps_execute a (first (statement_calls a) (statements_calls more) h)) (λ f.
        keeps_next k f (execute_all p c objects more) (keeps_all more (rest (statement_calls a) (statements_calls more) h)))

    keeps_from : (label : Option ℕ) (all : Statements) → EachKept k c (statements_calls all) → Keeps k (execute_from p c objects label all)
    keeps_from label typed.no_statements h = keeps_stay k Normal
    keeps_from None (typed.and_statement a more) h = keeps_stay k Normal
    keeps_from (Some n) (typed.and_statement a more) h =
        keeps_choose k (nat_lt n (length (labels_at a))) _ _
        (keeps_then k (execute p c objects a) _ (keeps_execute a (first (statement_calls a) (statements_calls more) h)) (λ f.
        keeps_next k f (execute_all p c objects more) (keeps_all more (rest (statement_calls a) (statements_calls more) h))))
        (keeps_from (Some (n - length (labels_at a))) more (rest (statement_calls a) (statements_calls more) h))

  -- the body of a function, which is executed in a call
  pub keeps_body : (a : Statement) → EachKept k c (statement_calls a) → Keeps k (execute p c objects a)
  keeps_body a h = keeps_execute a h
