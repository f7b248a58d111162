-- The counts of nested calls and of turns do not matter, where they are enough for the ticks.
use Rattle.std.proofs.Common.{◌≡◌, ℕ, zero, suc, ◌-◌, ◌*◌, ◌<◌, ◌≤◌, List, [], ◌∷◌, Option, Some, None, Bool, true, false, ℤ, pos, negsuc, refl, sym, ap, ◌∙◌, subst, length, arith}
use Rattle.std.specs.Prelude.{slice_get, nat_lt, nat_eq, Result, Ok, Err}
use Rattle.srcset.specs.declared.refusal.Pos.{Pos}
use Rattle.ctypes.specs.declared.types.IntType.{IntType}
use Rattle.ctypes.specs.declared.operators.Undef.{Undef}
use Rattle.ctypes.specs.declared.operators.Undef.TheVariants.{U5}
use Rattle.ctypes.specs.Types.{truth, of_truth, modulo, converted}
use Rattle.typing_spec.specs.Types.{ObjectType, elements_in}
use Rattle.typing_spec.specs.Operators.{operated, sign_of}
use Rattle.typing_spec.specs.Program as typed
use Rattle.typing_spec.specs.Program.{Storage, Callee, Place, Value, Arguments, Initialiser, Initialisers, Statement, Statements, Function, Program}
use Rattle.csem.specs.Store.{Reference, into, length_of, tree_at, value_at}
use Rattle.csem.specs.Machine.{State, Run, Goes, Stops, Ended, TicksUsed, then_do, choose, tick_of, tick, ticks, undefined, computed_at, designated, subscripted, value_or_undefined, read, stored, write}
use Rattle.csem.specs.Expressions.{Passed, Number, Referred, Calling, call_value, get_byte, put_byte, first_number, call_of, position_of, step_operation, step_value, converted_or_none, find, evaluate, pass, evaluate_or}
use Rattle.csem.specs.Statements.{zeros, clear, characters, first_length, inner_lengths, text_or_none, initialise, initialise_all, own, renewed, all_renewed, Flow, Normal, Broken, Continued, Returned, next_after, after_body, after_switch, turns, labels_at, labels_of, same_value, label_for, define_object, execute, execute_all, execute_from}
use Rattle.csem.specs.Meaning.{enter, leave, value_left, body_of, call_defined, calling}
use Rattle.interp_store.specs.layer.Presents.{Real, call_in}
use Rattle.interp_store.proofs.Resumes.{tick_then_of}

-- no more ticks left than n
abbrev Falls : {A : Type 0} → ℕ → Run A → Type 0
Falls n (Goes a s) = s.clock ≤ n
Falls n (Stops e s) = Unit {0}

le_self : (n : ℕ) → n ≤ n
le_self n = omega arith

falls_more : {A : Type 0} (r : Run A) (m n : ℕ) → m ≤ n → Falls m r → Falls n r
falls_more (Goes a s) m n le h = omega (arith, h)
falls_more (Stops e s) m n le h = tt

falls_then : {A B : Type 0} (r : Run A) (g : A → State → Run B) (n : ℕ) → Falls n r → ((a : A) (s : State) → Falls s.clock (g a s)) → Falls n (then_do r g)
falls_then (Goes a s) g n h k = falls_more (g a s) s.clock n h (k a s)
falls_then (Stops e s) g n h k = tt

falls_tick : {A : Type 0} (f : State → Run A) → ((s : State) → Falls s.clock (f s)) → (n : ℕ) (s : State) → Falls (n - 1) (tick_of n s f)
falls_tick f h zero s = tt
falls_tick f h (suc n) s = falls_more (f (record s { clock = n })) n (suc n - 1) (omega arith) (h (record s { clock = n }))

same_then : {A B : Type 0} (r : Run A) (g h : A → State → Run B) (n : ℕ) → Falls n r → ((a : A) (s : State) → s.clock ≤ n → g a s ≡ h a s) → then_do r g ≡ then_do r h
same_then (Goes a s) g h n f k = k a s f
same_then (Stops e s) g h n f k = refl

-- the same below d ticks; and f leaves no more ticks than it had
record Alike {A : Type 0} (d : ℕ) (f f' : State → Run A) : Type 0 where
  same : (s : State) → s.clock < d → f s ≡ f' s
  falls : (s : State) → Falls s.clock (f s)

same_tick : {A : Type 0} (d : ℕ) (f f' : State → Run A) → ((s : State) → s.clock < d → f s ≡ f' s) → (n : ℕ) (s : State) → n < suc d → tick_of n s f ≡ tick_of n s f'
same_tick d f f' h zero s lt = refl
same_tick d f f' h (suc n) s lt = h (record s { clock = n }) (omega arith)

alike_enter : {A : Type 0} (d : ℕ) (f f' : State → Run A) → Alike d f f' → Alike (suc d) (λ s. tick s f) (λ s. tick s f')
alike_enter d f f' h = record { same = λ s lt. same_tick d f f' h.same s.clock s lt; falls = λ s. falls_more (tick s f) (s.clock - 1) s.clock (omega arith) (falls_tick f h.falls s.clock s) }

alike_less : {A : Type 0} (d : ℕ) (f f' : State → Run A) → Alike (suc d) f f' → Alike d f f'
alike_less d f f' h = record { same = λ s lt. h.same s (omega arith); falls = h.falls }

-- a change of the state that leaves the clock
record Plain (g : State → State) : Type 0 where
  same : (s : State) → (g s).clock ≡ s.clock

plain_stored : (r : Reference) (v : ℤ) → Plain (stored r v)
plain_stored r v = record { same = λ s. refl }

plain_self : Plain (λ s. s)
plain_self = record { same = λ s. refl }

plain_chain : (g h : State → State) → Plain g → Plain h → Plain (λ s. h (g s))
plain_chain g h pg ph = record { same = λ s. ph.same (g s) ∙ pg.same s }

plain_renewed : (objects : List ObjectType) (x : ℕ) → Plain (renewed objects x)
plain_renewed objects x = record { same = λ s. refl }

plain_all_renewed : (objects : List ObjectType) (x n : ℕ) → Plain (all_renewed objects x n)
plain_all_renewed objects x zero = plain_self
plain_all_renewed objects x (suc n) = plain_chain (renewed objects x) (all_renewed objects (suc x) n) (plain_renewed objects x) (plain_all_renewed objects (suc x) n)

plain_zeros : (k i : ℕ) (r : Reference) → Plain (zeros k i r)
plain_zeros zero i r = plain_self
plain_zeros (suc k) i r = plain_chain _ (zeros k (suc i) r) (record { same = λ s. refl }) (plain_zeros k (suc i) r)

plain_characters : (t : IntType) (k i : ℕ) (text : List ℕ) (r : Reference) → Plain (characters t k i text r)
plain_characters t zero i text r = plain_self
plain_characters t (suc k) i [] r = plain_chain (stored (into r i) (pos 0)) (characters t k (suc i) [] r) (plain_stored (into r i) (pos 0)) (plain_characters t k (suc i) [] r)
plain_characters t (suc k) i (ch ∷ text) r = plain_chain (stored (into r i) (converted t (pos ch))) (characters t k (suc i) text r) (plain_stored (into r i) (converted t (pos ch))) (plain_characters t k (suc i) text r)

alike_self : {A : Type 0} (d : ℕ) (f : State → Run A) → ((s : State) → Falls s.clock (f s)) → Alike d f f
alike_self d f h = record { same = λ s lt. refl; falls = h }

alike_then_at : {A B : Type 0} (d : ℕ) (f f' : State → Run A) (g g' : A → State → Run B) → Alike d f f' → ((a : A) → Alike d (g a) (g' a)) → Alike d (λ s. then_do (f s) g) (λ s. then_do (f' s) g')
alike_then_at d f f' g g' h k = record {
  same = λ s lt. same_then (f s) g g' s.clock (h.falls s) (λ a t le. (k a).same t (omega arith)) ∙ ap (λ r. then_do r g') (h.same s lt);
  falls = λ s. falls_then (f s) g s.clock (h.falls s) (λ a t. (k a).falls t);
}

abbrev AlikeCalls : ℕ → Calling → Calling → Type 0
AlikeCalls d c c' = (f : ℕ) (vs : List Passed) → Alike d (c f vs) (c' f vs)

module _ (d : ℕ) where
  falls_of : {A : Type 0} (f f' : State → Run A) → Alike d f f' → (s : State) → Falls s.clock (f s)
  falls_of f f' h = h.falls

  alike_tick : {A : Type 0} (f f' : State → Run A) → Alike d f f' → Alike d (λ s. tick s f) (λ s. tick s f')
  alike_tick f f' h = alike_less d _ _ (alike_enter d f f' h)

  alike_then : {A B : Type 0} (f f' : State → Run A) (g g' : A → State → Run B) → Alike d f f' → ((a : A) → Alike d (g a) (g' a)) → Alike d (λ s. then_do (f s) g) (λ s. then_do (f' s) g')
  alike_then f f' g g' h k = alike_then_at d f f' g g' h k

  alike_choose : {A : Type 0} (b : Bool) (f f' g g' : State → Run A) → Alike d f f' → Alike d g g' → Alike d (λ s. choose b (f s) (g s)) (λ s. choose b (f' s) (g' s))
  alike_choose true f f' g g' h k = h
  alike_choose false f f' g g' h k = k

  alike_after : {A : Type 0} (g : State → State) → Plain g → (f f' : State → Run A) → Alike d f f' → Alike d (λ s. f (g s)) (λ s. f' (g s))
  alike_after g pl f f' h = record { same = λ s lt. h.same (g s) (omega (arith, pl.same s)); falls = λ s. falls_more (f (g s)) (g s).clock s.clock (omega (arith, pl.same s)) (h.falls (g s)) }

  alike_stay : {A : Type 0} (a : A) → Alike d (λ s. Goes a s) (λ s. Goes a s)
  alike_stay a = alike_self d (λ s. Goes a s) (λ s. le_self s.clock)

  alike_change : {A : Type 0} (a : A) (g : State → State) → Plain g → Alike d (λ s. Goes a (g s)) (λ s. Goes a (g s))
  alike_change a g pl = alike_after g pl (λ s. Goes a s) (λ s. Goes a s) (alike_stay a)

  alike_stop : {A : Type 0} (status : ℕ) → Alike {A = A} d (λ s. Stops (Ended status) s) (λ s. Stops (Ended status) s)
  alike_stop status = alike_self d (λ s. Stops (Ended status) s) (λ s. tt)

  alike_undefined : {A : Type 0} (u : Undef) (at : Pos) → Alike {A = A} d (undefined u at) (undefined u at)
  alike_undefined u at = alike_self d (undefined u at) (λ s. tt)

  alike_computed : (at : Pos) (c : Result ℤ Undef) → Alike d (computed_at at c) (computed_at at c)
  alike_computed at (Ok v) = alike_stay v
  alike_computed at (Err u) = alike_undefined u at

  alike_value : (at : Pos) (o : Option ℤ) → Alike d (value_or_undefined at o) (value_or_undefined at o)
  alike_value at None = alike_undefined _ at
  alike_value at (Some v) = alike_stay v

  alike_read : (at : Pos) (r : Reference) → Alike d (read at r) (read at r)
  alike_read at r = alike_self d (read at r) (λ s. (alike_value at (value_at s.store r)).falls s)

  alike_designated : (p : Program) (what : Storage) → Alike d (λ s. Goes (designated p what s) s) (λ s. Goes (designated p what s) s)
  alike_designated p what = alike_self d (λ s. Goes (designated p what s) s) (λ s. le_self s.clock)

  alike_within : (b : Bool) (at : Pos) (r : Reference) (u : Undef) → Alike d (λ s. choose b (Goes r s) (undefined u at s)) (λ s. choose b (Goes r s) (undefined u at s))
  alike_within true at r u = alike_stay r
  alike_within false at r u = alike_undefined u at

  alike_subscripted : (at : Pos) (r : Reference) (v : ℤ) → Alike d (subscripted at r v) (subscripted at r v)
  alike_subscripted at r (pos i) = alike_self d (subscripted at r (pos i)) (λ s. (alike_within (nat_lt i (length_of (tree_at s.store r))) at (into r i) U5).falls s)
  alike_subscripted at r (negsuc i) = alike_undefined _ at

  alike_write : (p : Program) (at : Pos) (r : Reference) (v : ℤ) → Alike d (write p at r v) (write p at r v)
  alike_write p at r v = alike_choose (nat_lt r.object (length p.literals)) _ _ _ _ (alike_undefined _ at) (alike_change v (stored r v) (plain_stored r v))

  alike_call_value : (used : Bool) (at : Pos) (o : Option ℤ) → Alike d (call_value used at o) (call_value used at o)
  alike_call_value used at (Some v) = alike_stay v
  alike_call_value true at None = alike_undefined _ at
  alike_call_value false at None = alike_stay (pos 0)

  get_falls : (i : List ℕ) (s : State) → Falls s.clock (get_byte i s)
  get_falls [] s = le_self s.clock
  get_falls (b ∷ bs) s = le_self s.clock

  alike_get : Alike d (λ s. get_byte s.input s) (λ s. get_byte s.input s)
  alike_get = alike_self d (λ s. get_byte s.input s) (λ s. get_falls s.input s)

  alike_put : (v : ℤ) → Alike d (put_byte v) (put_byte v)
  alike_put v = alike_self d (put_byte v) (λ s. le_self s.clock)

  alike_ticks : (n : ℕ) → Alike d (ticks n) (ticks n)
  alike_ticks zero = alike_stay tt
  alike_ticks (suc n) = alike_tick _ _ (alike_ticks n)

  module _ (p : Program) (c c' : Calling) (ok : AlikeCalls d c c') where
    alike_call_of : (at : Pos) (callee : Callee) (used : Bool) (vs : List Passed) → Alike d (call_of c at callee used vs) (call_of c' at callee used vs)
    alike_call_of at (typed.function f) used vs = alike_then (c f vs) (c' f vs) _ _ (ok f vs) (λ v. alike_call_value used at v)
    alike_call_of at typed.get_byte used vs = alike_get
    alike_call_of at typed.put_byte used vs = alike_put (first_number vs)
    alike_call_of at typed.exit used vs = alike_stop (modulo 8 (first_number vs))
    alike_call_of at (typed.missing n) used vs = alike_stay (pos 0)

    mutual
      alike_find : (a : Place) → Alike d (find p c a) (find p c' a)
      alike_find (typed.named at what) = alike_tick _ _ (alike_designated p what)
      alike_find (typed.element at a i) = alike_tick _ _ (alike_then (find p c a) (find p c' a) _ _ (alike_find a) (λ r. alike_then (evaluate p c i) (evaluate p c' i) _ _ (alike_evaluate i) (λ v. alike_subscripted at r v)))

      alike_evaluate : (e : Value) → Alike d (evaluate p c e) (evaluate p c' e)
      alike_evaluate (typed.constant t v) = alike_tick _ _ (alike_stay v)
      alike_evaluate (typed.read t a) = alike_then (find p c a) (find p c' a) _ _ (alike_find a) (λ r. alike_read (position_of a) r)
      alike_evaluate (typed.assigned at t a e) = alike_tick _ _ (alike_then (find p c a) (find p c' a) _ _ (alike_find a) (λ r. alike_then (evaluate p c e) (evaluate p c' e) _ _ (alike_evaluate e) (λ v. alike_write p at r (converted t v))))
      alike_evaluate (typed.compound at op t of a e) = alike_tick _ _ (alike_then (find p c a) (find p c' a) _ _ (alike_find a) (λ r. alike_then (evaluate p c e) (evaluate p c' e) _ _ (alike_evaluate e) (λ v. alike_then (read (position_of a) r) (read (position_of a) r) _ _ (alike_read (position_of a) r) (λ old. alike_then (computed_at at (operated op of old v)) (computed_at at (operated op of old v)) _ _ (alike_computed at (operated op of old v)) (λ w. alike_write p at r (converted t w))))))
      alike_evaluate (typed.stepped at m op t of a) = alike_tick _ _ (alike_then (find p c a) (find p c' a) _ _ (alike_find a) (λ r. alike_then (read (position_of a) r) (read (position_of a) r) _ _ (alike_read (position_of a) r) (λ old. alike_then (computed_at at (operated (step_operation op) of old (pos 1))) (computed_at at (operated (step_operation op) of old (pos 1))) _ _ (alike_computed at (operated (step_operation op) of old (pos 1))) (λ w. alike_then (write p at r (converted t w)) (write p at r (converted t w)) _ _ (alike_write p at r (converted t w)) (λ new. alike_stay (step_value m old new))))))
      alike_evaluate (typed.unary at op t e) = alike_tick _ _ (alike_then (evaluate p c e) (evaluate p c' e) _ _ (alike_evaluate e) (λ v. alike_computed at (sign_of op t v)))
      alike_evaluate (typed.binary at op t a b) = alike_tick _ _ (alike_then (evaluate p c a) (evaluate p c' a) _ _ (alike_evaluate a) (λ v. alike_then (evaluate p c b) (evaluate p c' b) _ _ (alike_evaluate b) (λ w. alike_computed at (operated op t v w))))
      alike_evaluate (typed.both_true a b) = alike_tick _ _ (alike_then (evaluate p c a) (evaluate p c' a) _ _ (alike_evaluate a) (λ v. alike_choose (truth v) _ _ _ _ (alike_then (evaluate p c b) (evaluate p c' b) _ _ (alike_evaluate b) (λ w. alike_stay (of_truth (truth w)))) (alike_stay (pos 0))))
      alike_evaluate (typed.one_true a b) = alike_tick _ _ (alike_then (evaluate p c a) (evaluate p c' a) _ _ (alike_evaluate a) (λ v. alike_choose (truth v) _ _ _ _ (alike_stay (pos 1)) (alike_then (evaluate p c b) (evaluate p c' b) _ _ (alike_evaluate b) (λ w. alike_stay (of_truth (truth w))))))
      alike_evaluate (typed.chosen t d a b) = alike_tick _ _ (alike_then (evaluate p c d) (evaluate p c' d) _ _ (alike_evaluate d) (λ v. alike_then (λ s. choose (truth v) (evaluate p c a s) (evaluate p c b s)) (λ s. choose (truth v) (evaluate p c' a s) (evaluate p c' b s)) _ _ (alike_choose (truth v) _ _ _ _ (alike_evaluate a) (alike_evaluate b)) (λ w. alike_stay (converted_or_none t w))))
      alike_evaluate (typed.sequence a b) = alike_tick _ _ (alike_then (evaluate p c a) (evaluate p c' a) _ _ (alike_evaluate a) (λ v. alike_evaluate b))
      alike_evaluate (typed.cast t e) = alike_tick _ _ (alike_then (evaluate p c e) (evaluate p c' e) _ _ (alike_evaluate e) (λ v. alike_stay (converted t v)))
      alike_evaluate (typed.discarded e) = alike_tick _ _ (alike_then (evaluate p c e) (evaluate p c' e) _ _ (alike_evaluate e) (λ v. alike_stay (pos 0)))
      alike_evaluate (typed.call at callee result used arguments) = alike_tick _ _ (alike_then (pass p c arguments) (pass p c' arguments) _ _ (alike_pass arguments) (λ vs. alike_call_of at callee used vs))

      alike_pass : (es : Arguments) → Alike d (pass p c es) (pass p c' es)
      alike_pass typed.no_arguments = alike_stay []
      alike_pass (typed.and_number t e rest) = alike_then (evaluate p c e) (evaluate p c' e) _ _ (alike_evaluate e) (λ v. alike_then (pass p c rest) (pass p c' rest) _ _ (alike_pass rest) (λ vs. alike_stay (Number (converted t v) ∷ vs)))
      alike_pass (typed.and_array a rest) = alike_then (find p c a) (find p c' a) _ _ (alike_find a) (λ r. alike_then (pass p c rest) (pass p c' rest) _ _ (alike_pass rest) (λ vs. alike_stay (Referred r ∷ vs)))

    alike_or : (o : Option Value) → Alike d (evaluate_or p c o) (evaluate_or p c' o)
    alike_or None = alike_stay (pos 1)
    alike_or (Some e) = alike_evaluate e

  alike_next : (f : Flow) (go go' : State → Run Flow) → Alike d go go' → Alike d (λ s. next_after f s go) (λ s. next_after f s go')
  alike_next Normal go go' h = h
  alike_next Broken go go' h = alike_stay Broken
  alike_next Continued go go' h = alike_stay Continued
  alike_next (Returned v) go go' h = alike_stay (Returned v)

  alike_after_body : (f : Flow) (go go' : State → Run Flow) → Alike d go go' → Alike d (λ s. after_body f s go) (λ s. after_body f s go')
  alike_after_body Normal go go' h = h
  alike_after_body Continued go go' h = h
  alike_after_body Broken go go' h = alike_stay Normal
  alike_after_body (Returned v) go go' h = alike_stay (Returned v)

  alike_after_switch : (f : Flow) → Alike d (after_switch f) (after_switch f)
  alike_after_switch Normal = alike_stay Normal
  alike_after_switch Broken = alike_stay Normal
  alike_after_switch Continued = alike_stay Continued
  alike_after_switch (Returned v) = alike_stay (Returned v)

  module _ (t t' : State → Run ℤ) (b b' : State → Run Flow) (u u' : State → Run ℤ) (ht : Alike d t t') (hb : Alike d b b') (hu : Alike d u u') where
    alike_turns : (n : ℕ) → Alike d (turns n t b u) (turns n t' b' u')
    alike_turns zero = alike_self d (λ s. Stops TicksUsed s) (λ s. tt)
    alike_turns (suc n) = alike_then t t' _ _ ht (λ v. alike_choose (truth v) _ _ _ _ (alike_then b b' _ _ hb (λ f. alike_after_body f _ _ (alike_then u u' _ _ hu (λ w. alike_turns n)))) (alike_stay Normal))

    alike_loop : Alike d (λ s. turns s.clock t b u s) (λ s. turns s.clock t' b' u' s)
    alike_loop = record { same = λ s lt. (alike_turns s.clock).same s lt; falls = λ s. (alike_turns s.clock).falls s }

  alike_label_for : (v : ℤ) (labels : List (Option ℤ)) (n : ℕ) (o : Option ℕ) → Alike d (label_for v labels n o) (label_for v labels n o)
  alike_label_for v [] n o = alike_stay o
  alike_label_for v (None ∷ labels) n o = alike_label_for v labels (suc n) (Some n)
  alike_label_for v (Some c ∷ labels) n o = alike_tick _ _ (alike_choose (same_value c v) _ _ _ _ (alike_stay (Some n)) (alike_label_for v labels (suc n) o))

  alike_clear : (k i : ℕ) (lengths : List ℕ) (r : Reference) → Alike d (clear k i lengths r) (clear k i lengths r)
  alike_clear k i lengths r = alike_then (ticks (k * elements_in lengths)) (ticks (k * elements_in lengths)) _ _ (alike_ticks (k * elements_in lengths)) (λ u. alike_change tt (zeros k i r) (plain_zeros k i r))

  alike_own : {A : Type 0} (x : ℕ) (f f' : Reference → State → Run A) → ((r : Reference) → Alike d (f r) (f' r)) → Alike d (λ s. f (own x s) s) (λ s. f' (own x s) s)
  alike_own x f f' h = record { same = λ s lt. (h (own x s)).same s lt; falls = λ s. (h (own x s)).falls s }

  module _ (p : Program) (c c' : Calling) (ok : AlikeCalls d c c') where
    mutual
      alike_initialise : (i : Initialiser) (t : IntType) (lengths : List ℕ) (r : Reference) → Alike d (initialise p c i t lengths r) (initialise p c' i t lengths r)
      alike_initialise (typed.one_value u e) t lengths r = alike_then (evaluate p c e) (evaluate p c' e) _ _ (alike_evaluate p c c' ok e) (λ v. alike_tick _ _ (alike_change tt (stored r (converted u v)) (plain_stored r (converted u v))))
      alike_initialise (typed.text n) t lengths r = alike_tick _ _ (alike_then (ticks (first_length lengths)) (ticks (first_length lengths)) _ _ (alike_ticks (first_length lengths)) (λ u. alike_change tt (characters t (first_length lengths) 0 (text_or_none (slice_get p.literals n)) r) (plain_characters t (first_length lengths) 0 (text_or_none (slice_get p.literals n)) r)))
      alike_initialise (typed.in_braces i) t lengths r = alike_tick _ _ (alike_initialise i t lengths r)
      alike_initialise (typed.list all) t lengths r = alike_tick _ _ (alike_initialise_all all t (first_length lengths) 0 (inner_lengths lengths) r)

      alike_initialise_all : (all : Initialisers) (t : IntType) (k i : ℕ) (lengths : List ℕ) (r : Reference) → Alike d (initialise_all p c all t k i lengths r) (initialise_all p c' all t k i lengths r)
      alike_initialise_all typed.no_initialisers t k i lengths r = alike_clear k i lengths r
      alike_initialise_all (typed.and_initialiser x rest) t k i lengths r = alike_then (initialise p c x t lengths (into r i)) (initialise p c' x t lengths (into r i)) _ _ (alike_initialise x t lengths (into r i)) (λ u. alike_initialise_all rest t (k - 1) (suc i) lengths r)

  module _ (p : Program) (c c' : Calling) (ok : AlikeCalls d c c') (objects : List ObjectType) where
    alike_define : (o : Option ObjectType) (x : ℕ) (i : Initialiser) → Alike d (define_object p c objects o x i) (define_object p c' objects o x i)
    alike_define None x i = alike_stay Normal
    alike_define (Some t) x i = alike_then _ _ _ _ (alike_own x (initialise p c i t.element t.lengths) (initialise p c' i t.element t.lengths) (λ r. alike_initialise p c c' ok i t.element t.lengths r)) (λ u. alike_stay Normal)

    mutual
      alike_execute : (a : Statement) → Alike d (execute p c objects a) (execute p c' objects a)
      alike_execute typed.empty = alike_tick _ _ (alike_stay Normal)
      alike_execute (typed.evaluate e) = alike_tick _ _ (alike_then (evaluate p c e) (evaluate p c' e) _ _ (alike_evaluate p c c' ok e) (λ v. alike_stay Normal))
      alike_execute (typed.declare x) = alike_tick _ _ (alike_change Normal (renewed objects x) (plain_renewed objects x))
      alike_execute (typed.define x i) = alike_tick _ _ (alike_after (renewed objects x) (plain_renewed objects x) _ _ (alike_define (slice_get objects x) x i))
      alike_execute (typed.block x n all) = alike_tick _ _ (alike_after (all_renewed objects x n) (plain_all_renewed objects x n) _ _ (alike_all all))
      alike_execute (typed.branch e a) = alike_tick _ _ (alike_then (evaluate p c e) (evaluate p c' e) _ _ (alike_evaluate p c c' ok e) (λ v. alike_choose (truth v) _ _ _ _ (alike_execute a) (alike_stay Normal)))
      alike_execute (typed.branches e a b) = alike_tick _ _ (alike_then (evaluate p c e) (evaluate p c' e) _ _ (alike_evaluate p c c' ok e) (λ v. alike_choose (truth v) _ _ _ _ (alike_execute a) (alike_execute b)))
      alike_execute (typed.switch t e x n all) = alike_tick _ _ (alike_then (evaluate p c e) (evaluate p c' e) _ _ (alike_evaluate p c c' ok e) (λ v. alike_tick _ _ (alike_then _ _ _ _ (alike_after (all_renewed objects x n) (plain_all_renewed objects x n) (label_for (converted t v) (labels_of all) 0 None) (label_for (converted t v) (labels_of all) 0 None) (alike_label_for (converted t v) (labels_of all) 0 None)) (λ k. alike_then (execute_from p c objects k all) (execute_from p c' objects k all) _ _ (alike_from k all) alike_after_switch))))
      alike_execute (typed.while e a) = alike_tick _ _ (alike_loop (evaluate p c e) (evaluate p c' e) (execute p c objects a) (execute p c' objects a) _ _ (alike_evaluate p c c' ok e) (alike_execute a) (alike_or p c c' ok None))
      alike_execute (typed.do_while a e) = alike_tick _ _ (alike_then (execute p c objects a) (execute p c' objects a) _ _ (alike_execute a) (λ f. alike_after_body f _ _ (alike_loop (evaluate p c e) (evaluate p c' e) (execute p c objects a) (execute p c' objects a) _ _ (alike_evaluate p c c' ok e) (alike_execute a) (alike_or p c c' ok None))))
      alike_execute (typed.for all first test last a) = alike_tick _ _ (alike_then (execute_all p c objects all) (execute_all p c' objects all) _ _ (alike_all all) (λ f. alike_then (evaluate_or p c first) (evaluate_or p c' first) _ _ (alike_or p c c' ok first) (λ v. alike_loop (evaluate_or p c test) (evaluate_or p c' test) (execute p c objects a) (execute p c' objects a) (evaluate_or p c last) (evaluate_or p c' last) (alike_or p c c' ok test) (alike_execute a) (alike_or p c c' ok last))))
      alike_execute (typed.case v) = alike_tick _ _ (alike_stay Normal)
      alike_execute typed.default = alike_tick _ _ (alike_stay Normal)
      alike_execute typed.break = alike_tick _ _ (alike_stay Broken)
      alike_execute typed.continue = alike_tick _ _ (alike_stay Continued)
      alike_execute typed.return_nothing = alike_tick _ _ (alike_stay (Returned None))
      alike_execute (typed.return_value t e) = alike_tick _ _ (alike_then (evaluate p c e) (evaluate p c' e) _ _ (alike_evaluate p c c' ok e) (λ v. alike_stay (Returned (Some (converted t v)))))

      alike_all : (all : Statements) → Alike d (execute_all p c objects all) (execute_all p c' objects all)
      alike_all typed.no_statements = alike_stay Normal
      alike_all (typed.and_statement a rest) = alike_then (execute p c objects a) (execute p c' objects a) _ _ (alike_execute a) (λ f. alike_next f (execute_all p c objects rest) (execute_all p c' objects rest) (alike_all rest))

      alike_from : (k : Option ℕ) (all : Statements) → Alike d (execute_from p c objects k all) (execute_from p c' objects k all)
      alike_from k typed.no_statements = alike_stay Normal
      alike_from None (typed.and_statement a rest) = alike_stay Normal
      alike_from (Some k) (typed.and_statement a rest) = alike_choose (nat_lt k (length (labels_at a))) _ _ _ _ (alike_then (execute p c objects a) (execute p c' objects a) _ _ (alike_execute a) (λ f. alike_next f (execute_all p c objects rest) (execute_all p c' objects rest) (alike_all rest))) (alike_from (Some (k - length (labels_at a))) rest)

    -- a statement takes a tick at least
    falls_execute : (a : Statement) (s : State) → Falls (s.clock - 1) (execute p c objects a s)
    falls_execute typed.empty s = falls_tick _ (falls_of _ _ (alike_stay Normal)) s.clock s
    falls_execute (typed.evaluate e) s = falls_tick _ (falls_of _ _ (alike_then (evaluate p c e) (evaluate p c' e) _ _ (alike_evaluate p c c' ok e) (λ v. alike_stay Normal))) s.clock s
    falls_execute (typed.declare x) s = falls_tick _ (falls_of _ _ (alike_change Normal (renewed objects x) (plain_renewed objects x))) s.clock s
    falls_execute (typed.define x i) s = falls_tick _ (falls_of _ _ (alike_after (renewed objects x) (plain_renewed objects x) _ _ (alike_define (slice_get objects x) x i))) s.clock s
    falls_execute (typed.block x n all) s = falls_tick _ (falls_of _ _ (alike_after (all_renewed objects x n) (plain_all_renewed objects x n) _ _ (alike_all all))) s.clock s
    falls_execute (typed.branch e a) s = falls_tick _ (falls_of _ _ (alike_then (evaluate p c e) (evaluate p c' e) _ _ (alike_evaluate p c c' ok e) (λ v. alike_choose (truth v) _ _ _ _ (alike_execute a) (alike_stay Normal)))) s.clock s
    falls_execute (typed.branches e a b) s = falls_tick _ (falls_of _ _ (alike_then (evaluate p c e) (evaluate p c' e) _ _ (alike_evaluate p c c' ok e) (λ v. alike_choose (truth v) _ _ _ _ (alike_execute a) (alike_execute b)))) s.clock s
    falls_execute (typed.switch t e x n all) s = falls_tick _ (falls_of _ _ (alike_then (evaluate p c e) (evaluate p c' e) _ _ (alike_evaluate p c c' ok e) (λ v. alike_tick _ _ (alike_then _ _ _ _ (alike_after (all_renewed objects x n) (plain_all_renewed objects x n) (label_for (converted t v) (labels_of all) 0 None) (label_for (converted t v) (labels_of all) 0 None) (alike_label_for (converted t v) (labels_of all) 0 None)) (λ k. alike_then (execute_from p c objects k all) (execute_from p c' objects k all) _ _ (alike_from k all) alike_after_switch))))) s.clock s
    falls_execute (typed.while e a) s = falls_tick _ (falls_of _ _ (alike_loop (evaluate p c e) (evaluate p c' e) (execute p c objects a) (execute p c' objects a) _ _ (alike_evaluate p c c' ok e) (alike_execute a) (alike_or p c c' ok None))) s.clock s
    falls_execute (typed.do_while a e) s = falls_tick _ (falls_of _ _ (alike_then (execute p c objects a) (execute p c' objects a) _ _ (alike_execute a) (λ f. alike_after_body f _ _ (alike_loop (evaluate p c e) (evaluate p c' e) (execute p c objects a) (execute p c' objects a) _ _ (alike_evaluate p c c' ok e) (alike_execute a) (alike_or p c c' ok None))))) s.clock s
    falls_execute (typed.for all first test last a) s = falls_tick _ (falls_of _ _ (alike_then (execute_all p c objects all) (execute_all p c' objects all) _ _ (alike_all all) (λ f. alike_then (evaluate_or p c first) (evaluate_or p c' first) _ _ (alike_or p c c' ok first) (λ v. alike_loop (evaluate_or p c test) (evaluate_or p c' test) (execute p c objects a) (execute p c' objects a) (evaluate_or p c last) (evaluate_or p c' last) (alike_or p c c' ok test) (alike_execute a) (alike_or p c c' ok last))))) s.clock s
    falls_execute (typed.case v) s = falls_tick _ (falls_of _ _ (alike_stay Normal)) s.clock s
    falls_execute typed.default s = falls_tick _ (falls_of _ _ (alike_stay Normal)) s.clock s
    falls_execute typed.break s = falls_tick _ (falls_of _ _ (alike_stay Broken)) s.clock s
    falls_execute typed.continue s = falls_tick _ (falls_of _ _ (alike_stay Continued)) s.clock s
    falls_execute typed.return_nothing s = falls_tick _ (falls_of _ _ (alike_stay (Returned None))) s.clock s
    falls_execute (typed.return_value t e) s = falls_tick _ (falls_of _ _ (alike_then (evaluate p c e) (evaluate p c' e) _ _ (alike_evaluate p c c' ok e) (λ v. alike_stay (Returned (Some (converted t v)))))) s.clock s

at_zero : {A : Type 0} (s : State) (go : State → Run A) → s.clock ≡ 0 → tick s go ≡ Stops TicksUsed s
at_zero s go e = ap (λ n. tick_of n s go) e

module _ (p : Program) where
  -- ---- calls

  body_as_tick : (c : Calling) (g : Function) (s : State) →
      body_of p c g s ≡ tick s (λ s. then_do (ticks (length g.type.parameters) s) (λ u s. execute p c g.objects g.body s))
  body_as_tick c g s = tick_then_of s.clock s (ticks (length g.type.parameters)) (λ u s. execute p c g.objects g.body s)

  alike_body : (d : ℕ) (c c' : Calling) → AlikeCalls d c c' → (g : Function) → Alike (suc d) (body_of p c g) (body_of p c' g)
  alike_body d c c' ok g =
      let n : ℕ = length g.type.parameters in
      let h : Alike (suc d) (λ s. tick s (λ s. then_do (ticks n s) (λ u s. execute p c g.objects g.body s))) (λ s. tick s (λ s. then_do (ticks n s) (λ u s. execute p c' g.objects g.body s))) =
      alike_enter d _ _ (alike_then d (ticks n) (ticks n) _ _ (alike_ticks d n) (λ u. alike_execute d p c c' ok g.objects g.body)) in
      record {
        same = λ s lt. body_as_tick c g s ∙ h.same s lt ∙ sym (body_as_tick c' g s);
        falls = λ s. let P : Run Flow → Type 0 = λ r. Falls s.clock r in subst P (sym (body_as_tick c g s)) (h.falls s);
      }

  alike_defined : (d : ℕ) (c c' : Calling) → AlikeCalls d c c' → (o : Option Function) (f : ℕ) (vs : List Passed) → Alike (suc d) (call_defined p c o f vs) (call_defined p c' o f vs)
  alike_defined d c c' ok None f vs = alike_self (suc d) (λ s. Goes None s) (λ s. le_self s.clock)
  alike_defined d c c' ok (Some g) f vs =
      let h = alike_body d c c' ok g in
      record {
        same = λ s lt. ap (λ r. then_do r (λ flow s2. Goes (value_left (nat_eq f p.main) flow) (leave s (value_left (nat_eq f p.main) flow) s2))) (h.same (enter f g vs s) lt);
        falls = λ s. falls_then (body_of p c g (enter f g vs s)) (λ flow s2. Goes (value_left (nat_eq f p.main) flow) (leave s (value_left (nat_eq f p.main) flow) s2)) s.clock (h.falls (enter f g vs s)) (λ flow s2. le_self s2.clock);
      }

  calling_enough : (d e : ℕ) → d ≤ e → AlikeCalls d (calling p d) (calling p e)
  calling_enough zero e le f vs = record { same = λ s lt. absurd (omega arith); falls = λ s. tt }
  calling_enough (suc d) zero le f vs = absurd (omega arith)
  calling_enough (suc d) (suc e) le f vs = alike_defined d (calling p d) (calling p e) (calling_enough d e (omega arith)) (slice_get p.functions f) f vs

  -- a call by its own ticks is one with any count that is enough
  call_enough : (d : ℕ) → AlikeCalls d (calling p d) (call_in p)
  call_enough d f vs = record {
    same = λ s lt. sym ((calling_enough (suc s.clock) d (omega arith) f vs).same s (omega arith));
    falls = (calling_enough d d (le_self d) f vs).falls;
  }

  call_begins : (f : ℕ) (vs : List Passed) (s : State) → call_in p f vs s ≡ call_defined p (call_in p) (slice_get p.functions f) f vs s
  call_begins f vs s = (alike_defined s.clock (calling p s.clock) (call_in p) (call_enough s.clock) (slice_get p.functions f) f vs).same s (omega arith)

  call_falls : (f : ℕ) (vs : List Passed) (s : State) → Falls s.clock (call_in p f vs s)
  call_falls f vs s = (calling_enough (suc s.clock) (suc s.clock) (le_self (suc s.clock)) f vs).falls s

  itself : AlikeCalls 0 (call_in p) (call_in p)
  itself f vs = record { same = λ s lt. absurd (omega arith); falls = call_falls f vs }

  -- ---- loops

  no_place : (c : Calling) (a : Place) (s : State) → s.clock ≡ 0 → find p c a s ≡ Stops TicksUsed s
  no_place c (typed.named at what) s e = at_zero s _ e
  no_place c (typed.element at a i) s e = at_zero s _ e

  no_value : (c : Calling) (x : Value) (s : State) → s.clock ≡ 0 → evaluate p c x s ≡ Stops TicksUsed s
  no_value c (typed.constant t v) s e = at_zero s _ e
  no_value c (typed.read t a) s e = ap (λ x. then_do x (read (position_of a))) (no_place c a s e)
  no_value c (typed.assigned at t a x) s e = at_zero s _ e
  no_value c (typed.compound at op t of a x) s e = at_zero s _ e
  no_value c (typed.stepped at m op t of a) s e = at_zero s _ e
  no_value c (typed.unary at op t x) s e = at_zero s _ e
  no_value c (typed.binary at op t a b) s e = at_zero s _ e
  no_value c (typed.both_true a b) s e = at_zero s _ e
  no_value c (typed.one_true a b) s e = at_zero s _ e
  no_value c (typed.chosen t x a b) s e = at_zero s _ e
  no_value c (typed.sequence a b) s e = at_zero s _ e
  no_value c (typed.cast t x) s e = at_zero s _ e
  no_value c (typed.discarded x) s e = at_zero s _ e
  no_value c (typed.call at f t used args) s e = at_zero s _ e

  no_statement : (c : Calling) (objects : List ObjectType) (a : Statement) (s : State) → s.clock ≡ 0 → execute p c objects a s ≡ Stops TicksUsed s
  no_statement c objects typed.empty s z = at_zero s _ z
  no_statement c objects (typed.evaluate e) s z = at_zero s _ z
  no_statement c objects (typed.declare x) s z = at_zero s _ z
  no_statement c objects (typed.define x i) s z = at_zero s _ z
  no_statement c objects (typed.block x n all) s z = at_zero s _ z
  no_statement c objects (typed.branch e a) s z = at_zero s _ z
  no_statement c objects (typed.branches e a b) s z = at_zero s _ z
  no_statement c objects (typed.switch t e x n all) s z = at_zero s _ z
  no_statement c objects (typed.while e a) s z = at_zero s _ z
  no_statement c objects (typed.do_while a e) s z = at_zero s _ z
  no_statement c objects (typed.for all first test last a) s z = at_zero s _ z
  no_statement c objects (typed.case v) s z = at_zero s _ z
  no_statement c objects typed.default s z = at_zero s _ z
  no_statement c objects typed.break s z = at_zero s _ z
  no_statement c objects typed.continue s z = at_zero s _ z
  no_statement c objects typed.return_nothing s z = at_zero s _ z
  no_statement c objects (typed.return_value t e) s z = at_zero s _ z

  after_same : (f : Flow) (s : State) (g h : State → Run Flow) → g s ≡ h s → after_body f s g ≡ after_body f s h
  after_same Normal s g h e = e
  after_same Continued s g h e = e
  after_same Broken s g h e = refl
  after_same (Returned v) s g h e = refl

  module _ (objects : List ObjectType) (test : Option Value) (a : Statement) (step : Option Value) where
    abbrev c : Calling
    c = call_in p

    abbrev t : State → Run ℤ
    t s = evaluate_or p c test s

    abbrev b : State → Run Flow
    b s = execute p c objects a s

    abbrev u : State → Run ℤ
    u s = evaluate_or p c step s

    abbrev turn : (State → Run Flow) → State → Run Flow
    turn g s = then_do (t s) (λ v s. choose (truth v) (then_do (b s) (λ f s. after_body f s (λ s. then_do (u s) (λ w s. g s)))) (Goes Normal s))

    turn_same : (g h : State → Run Flow) (n : ℕ) (s : State) → ((s : State) → s.clock ≤ n → g s ≡ h s) → s.clock - 1 ≤ n → turn g s ≡ turn h s
    turn_same g h n s k le =
        same_then (t s) _ _ s.clock ((alike_or 0 p c c itself test).falls s)
        (λ v s1 le1. ap (λ r. choose (truth v) r (Goes Normal s1)) (same_then (b s1) _ _ (s1.clock - 1) (falls_execute 0 p c c itself objects a s1)
        (λ f s2 le2. after_same f s2 (λ s. then_do (u s) (λ w s. g s)) (λ s. then_do (u s) (λ w s. h s)) (same_then (u s2) _ _ s2.clock ((alike_or 0 p c c itself step).falls s2) (λ w s3 le3. k s3 (omega arith))))))

    no_turn_by : (o : Option Value) (g : State → Run Flow) (s : State) → s.clock ≡ 0 →
        then_do (evaluate_or p c o s) (λ v s. choose (truth v) (then_do (b s) (λ f s. after_body f s (λ s. then_do (u s) (λ w s. g s)))) (Goes Normal s)) ≡ Stops TicksUsed s
    no_turn_by None g s e = ap (λ r. then_do r (λ f s. after_body f s (λ s. then_do (u s) (λ w s. g s)))) (no_statement c objects a s e)
    no_turn_by (Some x) g s e = ap (λ r. then_do r (λ v s. choose (truth v) (then_do (b s) (λ f s. after_body f s (λ s. then_do (u s) (λ w s. g s)))) (Goes Normal s))) (no_value c x s e)

    turns_enough : (n m : ℕ) (s : State) → s.clock ≤ n → s.clock ≤ m → turns n t b u s ≡ turns m t b u s
    turns_enough zero zero s le1 le2 = refl
    turns_enough zero (suc m) s le1 le2 = sym (no_turn_by test (turns m t b u) s (omega arith))
    turns_enough (suc n) zero s le1 le2 = no_turn_by test (turns n t b u) s (omega arith)
    turns_enough (suc n) (suc m) s le1 le2 = turn_same (turns n t b u) (turns m t b u) (s.clock - 1) s (λ s1 le. turns_enough n m s1 (omega arith) (omega arith)) (le_self (s.clock - 1))

    again_at : (n : ℕ) (s : State) → s.clock ≡ n → turns n t b u s ≡ turn (λ s. turns s.clock t b u s) s
    again_at zero s e = sym (no_turn_by test (λ s. turns s.clock t b u s) s e)
    again_at (suc n) s e = turn_same (turns n t b u) (λ s. turns s.clock t b u s) n s (λ s1 le. turns_enough n s1.clock s1 le (le_self s1.clock)) (omega arith)

  -- a call with as many calls nested in it as its ticks allow is its function's body, and its loops' turns follow one another
  pub real : Real p (call_in p)
  real = record { begins = call_begins; again = λ objects test a step s. again_at objects test a step s.clock s refl }
