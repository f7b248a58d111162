-- One more tick: the same run, or more of it.
use Rattle.std.proofs.Common.{◌≡◌, ℕ, zero, suc, ◌-◌, ◌*◌, List, [], ◌∷◌, ◌++◌, Option, Some, None, Bool, true, false, ℤ, pos, negsuc, refl, sym, ap, ◌∙◌, subst, append_assoc, length}
use Rattle.std.specs.Prelude.{option_map, slice_get, nat_lt, nat_eq, Result, Ok, Err}
use Rattle.srcset.specs.declared.refusal.Pos.{Pos}
use Rattle.ctypes.specs.declared.types.IntType.{IntType}
use Rattle.ctypes.specs.declared.operators.Undef.{Undef}
use Rattle.ctypes.specs.declared.operators.Undef.TheVariants.{U5}
use Rattle.ctypes.specs.Types.{truth, of_truth, modulo, converted}
use Rattle.csem_events.specs.Events.{Got, GotEnd, Put}
use Rattle.typing_spec.specs.Types.{ObjectType, elements_in}
use Rattle.typing_spec.specs.Operators.{operated, sign_of}
use Rattle.typing_spec.specs.Program as typed
use Rattle.typing_spec.specs.Program.{Storage, Callee, Place, Value, Arguments, Initialiser, Initialisers, Statement, Statements, Function, Program}
use Rattle.csem.specs.Store.{Reference, into, length_of, tree_at, value_at}
use Rattle.csem.specs.History.{Entry, Did, Entered, Left}
use Rattle.csem.specs.Machine.{State, Run, Goes, Stops, Ended, Undefined, TicksUsed, then_do, choose, tick_of, tick, ticks, undefined, computed_at, designated, subscripted, value_or_undefined, read, stored, write}
use Rattle.csem.specs.Expressions.{Passed, Number, Referred, Calling, call_value, get_byte, put_byte, first_number, call_of, position_of, step_operation, step_value, converted_or_none, find, evaluate, pass, evaluate_or}
use Rattle.csem.specs.Statements.{zeros, clear, characters, first_length, inner_lengths, text_or_none, initialise, initialise_all, own, renewed, all_renewed, Flow, Normal, Broken, Continued, Returned, next_after, after_body, after_switch, turns, labels_at, labels_of, same_value, label_for, define_object, execute, execute_all, execute_from}
use Rattle.csem.specs.Meaning.{enter, leave, word_of, words_of, value_left, body_of, call_defined, calling, start, status_of, end_with, cstep, last_of}
use Rattle.csem.specs.Laws.{Grows}

pub grows_on : (h h2 h3 : List Entry) → Grows h h2 → Grows h2 h3 → Grows h h3
grows_on h h2 h3 g g2 = (g2.0 ++ g.0, g2.1 ∙ ap (λ x. g2.0 ++ x) g.1 ∙ sym (append_assoc g2.0 g.0 h))

-- the same state with one more tick
abbrev pub more : State → State
more s = record s { clock = suc s.clock }

-- the history of a run
abbrev pub done : {A : Type 0} → Run A → List Entry
done r = (last_of r).history

-- the relation of a run to that with one more tick: the same outcome, or where the ticks are used, a history that is no shorter
abbrev pub Longer : {A : Type 0} → Run A → Run A → Type 0
Longer (Goes a s) r' = r' ≡ Goes a (more s)
Longer (Stops (Ended status) s) r' = r' ≡ Stops (Ended status) (more s)
Longer (Stops (Undefined u at) s) r' = r' ≡ Stops (Undefined u at) (more s)
Longer (Stops TicksUsed s) r' = Grows s.history (done r')

-- f undoes nothing, and f' does the same with one more tick, or more
pub record Steady {A : Type 0} (f f' : State → Run A) : Type 0 where
  pub grows : (s : State) → Grows s.history (done (f s))
  pub grows' : (s : State) → Grows s.history (done (f' s))
  pub longer : (s : State) → Longer (f s) (f' (more s))

-- a change of the state that neither adds to the history nor reads the clock
record Plain (g : State → State) : Type 0 where
  same : (s : State) → (g s).history ≡ s.history
  moves : (s : State) → g (more s) ≡ more (g s)

tick_grows : {A : Type 0} (go : State → Run A) → ((s : State) → Grows s.history (done (go s))) → (n : ℕ) (s : State) → Grows s.history (done (tick_of n s go))
tick_grows go h zero s = ([], refl)
tick_grows go h (suc n) s = h (record s { clock = n })

tick_longer : {A : Type 0} (go go' : State → Run A) → Steady go go' → (n : ℕ) (s : State) → Longer (tick_of n s go) (tick_of (suc n) (more s) go')
tick_longer go go' h zero s = h.grows' (record s { clock = 0 })
tick_longer go go' h (suc n) s = h.longer (record s { clock = n })

steady_tick : {A : Type 0} (go go' : State → Run A) → Steady go go' → Steady (λ s. tick s go) (λ s. tick s go')
steady_tick go go' h = record { grows = λ s. tick_grows go h.grows s.clock s; grows' = λ s. tick_grows go' h.grows' s.clock s; longer = λ s. tick_longer go go' h s.clock s }

then_grows : {A B : Type 0} (r : Run A) (g : A → State → Run B) (h : List Entry) → ((a : A) (s : State) → Grows s.history (done (g a s))) → Grows h (done r) → Grows h (done (then_do r g))
then_grows (Goes a s) g h gg gr = grows_on h s.history (done (g a s)) gr (gg a s)
then_grows (Stops e s) g h gg gr = gr

then_longer : {A B : Type 0} (r r' : Run A) (g g' : A → State → Run B) → ((a : A) → Steady (g a) (g' a)) → Longer r r' → Longer (then_do r g) (then_do r' g')
then_longer (Goes a s) r' g g' h l = subst (λ x. Longer (g a s) (then_do x g')) (sym l) ((h a).longer s)
then_longer (Stops (Ended status) s) r' g g' h l = ap (λ x. then_do x g') l
then_longer (Stops (Undefined u at) s) r' g g' h l = ap (λ x. then_do x g') l
then_longer (Stops TicksUsed s) r' g g' h l = then_grows r' g' s.history (λ a s2. (h a).grows' s2) l

steady_then : {A B : Type 0} (f f' : State → Run A) (g g' : A → State → Run B) → Steady f f' → ((a : A) → Steady (g a) (g' a)) → Steady (λ s. then_do (f s) g) (λ s. then_do (f' s) g')
steady_then f f' g g' h k = record {
  grows = λ s. then_grows (f s) g s.history (λ a. (k a).grows) (h.grows s);
  grows' = λ s. then_grows (f' s) g' s.history (λ a. (k a).grows') (h.grows' s);
  longer = λ s. then_longer (f s) (f' (more s)) g g' k (h.longer s);
}

steady_choose : {A : Type 0} (b : Bool) (f f' g g' : State → Run A) → Steady f f' → Steady g g' → Steady (λ s. choose b (f s) (g s)) (λ s. choose b (f' s) (g' s))
steady_choose true f f' g g' h k = h
steady_choose false f f' g g' h k = k

-- an act that takes no tick
steady_goes : {A : Type 0} (a : A) (g : State → State) → ((s : State) → Grows s.history (g s).history) → ((s : State) → g (more s) ≡ more (g s)) → Steady (λ s. Goes a (g s)) (λ s. Goes a (g s))
steady_goes a g h c = record { grows = h; grows' = h; longer = λ s. ap (Goes a) (c s) }

steady_stay : {A : Type 0} (a : A) → Steady (λ s. Goes a s) (λ s. Goes a s)
steady_stay a = steady_goes a (λ s. s) (λ s. ([], refl)) (λ s. refl)

-- a change of state, and the run after it
steady_after : {A : Type 0} (g : State → State) → Plain g → (f f' : State → Run A) → Steady f f' → Steady (λ s. f (g s)) (λ s. f' (g s))
steady_after g pl f f' h = record {
  grows = λ s. subst (λ x. Grows x (done (f (g s)))) (pl.same s) (h.grows (g s));
  grows' = λ s. subst (λ x. Grows x (done (f' (g s)))) (pl.same s) (h.grows' (g s));
  longer = λ s. subst (λ x. Longer (f (g s)) (f' x)) (sym (pl.moves s)) (h.longer (g s));
}

steady_change : {A : Type 0} (a : A) (g : State → State) → Plain g → Steady (λ s. Goes a (g s)) (λ s. Goes a (g s))
steady_change a g pl = steady_after g pl (λ s. Goes a s) (λ s. Goes a s) (steady_stay a)

steady_stop : {A : Type 0} (status : ℕ) → Steady {A = A} (λ s. Stops (Ended status) s) (λ s. Stops (Ended status) s)
steady_stop status = record { grows = λ s. ([], refl); grows' = λ s. ([], refl); longer = λ s. refl }

steady_undefined : {A : Type 0} (u : Undef) (at : Pos) → Steady {A = A} (undefined u at) (undefined u at)
steady_undefined u at = record { grows = λ s. ([], refl); grows' = λ s. ([], refl); longer = λ s. refl }

steady_computed : (at : Pos) (c : Result ℤ Undef) → Steady (computed_at at c) (computed_at at c)
steady_computed at (Ok v) = steady_stay v
steady_computed at (Err u) = steady_undefined u at

steady_value : (at : Pos) (o : Option ℤ) → Steady (value_or_undefined at o) (value_or_undefined at o)
steady_value at None = steady_undefined _ at
steady_value at (Some v) = steady_stay v

steady_read : (at : Pos) (r : Reference) → Steady (read at r) (read at r)
steady_read at r = record { grows = λ s. (steady_value at (value_at s.store r)).grows s; grows' = λ s. (steady_value at (value_at s.store r)).grows' s; longer = λ s. (steady_value at (value_at s.store r)).longer s }

steady_designated : (p : Program) (what : Storage) → Steady (λ s. Goes (designated p what s) s) (λ s. Goes (designated p what s) s)
steady_designated p (typed.literal x) = record { grows = λ s. ([], refl); grows' = λ s. ([], refl); longer = λ s. refl }
steady_designated p (typed.static x) = record { grows = λ s. ([], refl); grows' = λ s. ([], refl); longer = λ s. refl }
steady_designated p (typed.automatic x) = record { grows = λ s. ([], refl); grows' = λ s. ([], refl); longer = λ s. refl }
steady_designated p (typed.parameter x) = record { grows = λ s. ([], refl); grows' = λ s. ([], refl); longer = λ s. refl }

steady_within : (b : Bool) (at : Pos) (r : Reference) (u : Undef) → Steady (λ s. choose b (Goes r s) (undefined u at s)) (λ s. choose b (Goes r s) (undefined u at s))
steady_within true at r u = steady_stay r
steady_within false at r u = steady_undefined u at

steady_subscripted : (at : Pos) (r : Reference) (v : ℤ) → Steady (subscripted at r v) (subscripted at r v)
steady_subscripted at r (pos i) = record { grows = λ s. (steady_within (nat_lt i (length_of (tree_at s.store r))) at (into r i) U5).grows s; grows' = λ s. (steady_within (nat_lt i (length_of (tree_at s.store r))) at (into r i) U5).grows' s; longer = λ s. (steady_within (nat_lt i (length_of (tree_at s.store r))) at (into r i) U5).longer s }
steady_subscripted at r (negsuc i) = steady_undefined _ at

plain_stored : (r : Reference) (v : ℤ) → Plain (stored r v)
plain_stored r v = record { same = λ s. refl; moves = λ s. refl }

steady_write : (p : Program) (at : Pos) (r : Reference) (v : ℤ) → Steady (write p at r v) (write p at r v)
steady_write p at r v = steady_choose (nat_lt r.object (length p.literals)) _ _ _ _ (steady_undefined _ at) (steady_change v (stored r v) (plain_stored r v))

steady_call_value : (used : Bool) (at : Pos) (o : Option ℤ) → Steady (call_value used at o) (call_value used at o)
steady_call_value used at (Some v) = steady_stay v
steady_call_value true at None = steady_undefined _ at
steady_call_value false at None = steady_stay (pos 0)

get_grows : (i : List ℕ) (s : State) → Grows s.history (done (get_byte i s))
get_grows [] s = (Did GotEnd ∷ [], refl)
get_grows (b ∷ bs) s = (Did (Got b) ∷ [], refl)

get_longer : (i : List ℕ) (s : State) → Longer (get_byte i s) (get_byte i (more s))
get_longer [] s = refl
get_longer (b ∷ bs) s = refl

steady_get : Steady (λ s. get_byte s.input s) (λ s. get_byte s.input s)
steady_get = record { grows = λ s. get_grows s.input s; grows' = λ s. get_grows s.input s; longer = λ s. get_longer s.input s }

steady_put : (v : ℤ) → Steady (put_byte v) (put_byte v)
steady_put v = steady_goes (pos 0) (λ s. record s { history = Did (Put (modulo 8 v)) ∷ s.history }) (λ s. (Did (Put (modulo 8 v)) ∷ [], refl)) (λ s. refl)

steady_ticks : (n : ℕ) → Steady (ticks n) (ticks n)
steady_ticks zero = steady_stay tt
steady_ticks (suc n) = steady_tick _ _ (steady_ticks n)

abbrev SteadyCalls : Calling → Calling → Type 0
SteadyCalls c c' = (f : ℕ) (vs : List Passed) → Steady (c f vs) (c' f vs)

module _ (p : Program) (c c' : Calling) (ok : SteadyCalls c c') where
  steady_call_of : (at : Pos) (callee : Callee) (used : Bool) (vs : List Passed) → Steady (call_of c at callee used vs) (call_of c' at callee used vs)
  steady_call_of at (typed.function f) used vs = steady_then (c f vs) (c' f vs) _ _ (ok f vs) (λ v. steady_call_value used at v)
  steady_call_of at typed.get_byte used vs = steady_get
  steady_call_of at typed.put_byte used vs = steady_put (first_number vs)
  steady_call_of at typed.exit used vs = steady_stop (modulo 8 (first_number vs))
  steady_call_of at (typed.missing n) used vs = steady_stay (pos 0)

  mutual
    steady_find : (a : Place) → Steady (find p c a) (find p c' a)
    steady_find (typed.named at what) = steady_tick _ _ (steady_designated p what)
    steady_find (typed.element at a i) = steady_tick _ _ (steady_then (find p c a) (find p c' a) _ _ (steady_find a) (λ r. steady_then (evaluate p c i) (evaluate p c' i) _ _ (steady_evaluate i) (λ v. steady_subscripted at r v)))

    steady_evaluate : (e : Value) → Steady (evaluate p c e) (evaluate p c' e)
    steady_evaluate (typed.constant t v) = steady_tick _ _ (steady_stay v)
    steady_evaluate (typed.read t a) = steady_then (find p c a) (find p c' a) _ _ (steady_find a) (λ r. steady_read (position_of a) r)
    steady_evaluate (typed.assigned at t a e) = steady_tick _ _ (steady_then (find p c a) (find p c' a) _ _ (steady_find a) (λ r. steady_then (evaluate p c e) (evaluate p c' e) _ _ (steady_evaluate e) (λ v. steady_write p at r (converted t v))))
    steady_evaluate (typed.compound at op t of a e) = steady_tick _ _ (steady_then (find p c a) (find p c' a) _ _ (steady_find a) (λ r. steady_then (evaluate p c e) (evaluate p c' e) _ _ (steady_evaluate e) (λ v. steady_then (read (position_of a) r) (read (position_of a) r) _ _ (steady_read (position_of a) r) (λ old. steady_then (computed_at at (operated op of old v)) (computed_at at (operated op of old v)) _ _ (steady_computed at (operated op of old v)) (λ w. steady_write p at r (converted t w))))))
    steady_evaluate (typed.stepped at m op t of a) = steady_tick _ _ (steady_then (find p c a) (find p c' a) _ _ (steady_find a) (λ r. steady_then (read (position_of a) r) (read (position_of a) r) _ _ (steady_read (position_of a) r) (λ old. steady_then (computed_at at (operated (step_operation op) of old (pos 1))) (computed_at at (operated (step_operation op) of old (pos 1))) _ _ (steady_computed at (operated (step_operation op) of old (pos 1))) (λ w. steady_then (write p at r (converted t w)) (write p at r (converted t w)) _ _ (steady_write p at r (converted t w)) (λ new. steady_stay (step_value m old new))))))
    steady_evaluate (typed.unary at op t e) = steady_tick _ _ (steady_then (evaluate p c e) (evaluate p c' e) _ _ (steady_evaluate e) (λ v. steady_computed at (sign_of op t v)))
    steady_evaluate (typed.binary at op t a b) = steady_tick _ _ (steady_then (evaluate p c a) (evaluate p c' a) _ _ (steady_evaluate a) (λ v. steady_then (evaluate p c b) (evaluate p c' b) _ _ (steady_evaluate b) (λ w. steady_computed at (operated op t v w))))
    steady_evaluate (typed.both_true a b) = steady_tick _ _ (steady_then (evaluate p c a) (evaluate p c' a) _ _ (steady_evaluate a) (λ v. steady_choose (truth v) _ _ _ _ (steady_then (evaluate p c b) (evaluate p c' b) _ _ (steady_evaluate b) (λ w. steady_stay (of_truth (truth w)))) (steady_stay (pos 0))))
    steady_evaluate (typed.one_true a b) = steady_tick _ _ (steady_then (evaluate p c a) (evaluate p c' a) _ _ (steady_evaluate a) (λ v. steady_choose (truth v) _ _ _ _ (steady_stay (pos 1)) (steady_then (evaluate p c b) (evaluate p c' b) _ _ (steady_evaluate b) (λ w. steady_stay (of_truth (truth w))))))
    steady_evaluate (typed.chosen t d a b) = steady_tick _ _ (steady_then (evaluate p c d) (evaluate p c' d) _ _ (steady_evaluate d) (λ v. steady_then (λ s. choose (truth v) (evaluate p c a s) (evaluate p c b s)) (λ s. choose (truth v) (evaluate p c' a s) (evaluate p c' b s)) _ _ (steady_choose (truth v) _ _ _ _ (steady_evaluate a) (steady_evaluate b)) (λ w. steady_stay (converted_or_none t w))))
    steady_evaluate (typed.sequence a b) = steady_tick _ _ (steady_then (evaluate p c a) (evaluate p c' a) _ _ (steady_evaluate a) (λ v. steady_evaluate b))
    steady_evaluate (typed.cast t e) = steady_tick _ _ (steady_then (evaluate p c e) (evaluate p c' e) _ _ (steady_evaluate e) (λ v. steady_stay (converted t v)))
    steady_evaluate (typed.discarded e) = steady_tick _ _ (steady_then (evaluate p c e) (evaluate p c' e) _ _ (steady_evaluate e) (λ v. steady_stay (pos 0)))
    steady_evaluate (typed.call at callee result used arguments) = steady_tick _ _ (steady_then (pass p c arguments) (pass p c' arguments) _ _ (steady_pass arguments) (λ vs. steady_call_of at callee used vs))

    steady_pass : (es : Arguments) → Steady (pass p c es) (pass p c' es)
    steady_pass typed.no_arguments = steady_stay []
    steady_pass (typed.and_number t e rest) = steady_then (evaluate p c e) (evaluate p c' e) _ _ (steady_evaluate e) (λ v. steady_then (pass p c rest) (pass p c' rest) _ _ (steady_pass rest) (λ vs. steady_stay (Number (converted t v) ∷ vs)))
    steady_pass (typed.and_array a rest) = steady_then (find p c a) (find p c' a) _ _ (steady_find a) (λ r. steady_then (pass p c rest) (pass p c' rest) _ _ (steady_pass rest) (λ vs. steady_stay (Referred r ∷ vs)))

  steady_or : (o : Option Value) → Steady (evaluate_or p c o) (evaluate_or p c' o)
  steady_or None = steady_stay (pos 1)
  steady_or (Some e) = steady_evaluate e

steady_next : (f : Flow) (go go' : State → Run Flow) → Steady go go' → Steady (λ s. next_after f s go) (λ s. next_after f s go')
steady_next Normal go go' h = h
steady_next Broken go go' h = steady_stay Broken
steady_next Continued go go' h = steady_stay Continued
steady_next (Returned v) go go' h = steady_stay (Returned v)

steady_after_body : (f : Flow) (go go' : State → Run Flow) → Steady go go' → Steady (λ s. after_body f s go) (λ s. after_body f s go')
steady_after_body Normal go go' h = h
steady_after_body Continued go go' h = h
steady_after_body Broken go go' h = steady_stay Normal
steady_after_body (Returned v) go go' h = steady_stay (Returned v)

steady_after_switch : (f : Flow) → Steady (after_switch f) (after_switch f)
steady_after_switch Normal = steady_stay Normal
steady_after_switch Broken = steady_stay Normal
steady_after_switch Continued = steady_stay Continued
steady_after_switch (Returned v) = steady_stay (Returned v)

module _ (t t' : State → Run ℤ) (b b' : State → Run Flow) (u u' : State → Run ℤ) (ht : Steady t t') (hb : Steady b b') (hu : Steady u u') where
  -- one turn, and the run after it
  steady_turn : (go go' : State → Run Flow) → Steady go go' → Steady (λ s. then_do (t s) (λ v s. choose (truth v) (then_do (b s) (λ f s. after_body f s (λ s. then_do (u s) (λ w s. go s)))) (Goes Normal s))) (λ s. then_do (t' s) (λ v s. choose (truth v) (then_do (b' s) (λ f s. after_body f s (λ s. then_do (u' s) (λ w s. go' s)))) (Goes Normal s)))
  steady_turn go go' h = steady_then t t' _ _ ht (λ v. steady_choose (truth v) _ _ _ _ (steady_then b b' _ _ hb (λ f. steady_after_body f _ _ (steady_then u u' _ _ hu (λ w. h)))) (steady_stay Normal))

  stops_steady : (go' : State → Run Flow) → ((s : State) → Grows s.history (done (go' s))) → Steady (λ s. Stops TicksUsed s) go'
  stops_steady go' h = record { grows = λ s. ([], refl); grows' = h; longer = λ s. h (more s) }

  none_steady : Steady {A = Flow} (λ s. Stops TicksUsed s) (λ s. Stops TicksUsed s)
  none_steady = record { grows = λ s. ([], refl); grows' = λ s. ([], refl); longer = λ s. ([], refl) }

  steady_turns : (n : ℕ) → Steady (turns n t b u) (turns (suc n) t' b' u')
  steady_turns zero = stops_steady (turns 1 t' b' u') (steady_turn (λ s. Stops TicksUsed s) (λ s. Stops TicksUsed s) none_steady).grows'
  steady_turns (suc n) = steady_turn (turns n t b u) (turns (suc n) t' b' u') (steady_turns n)

  turns_grow' : (n : ℕ) (s : State) → Grows s.history (done (turns n t' b' u' s))
  turns_grow' zero s = ([], refl)
  turns_grow' (suc n) s = (steady_turns n).grows' s

  steady_loop : Steady (λ s. turns s.clock t b u s) (λ s. turns s.clock t' b' u' s)
  steady_loop = record { grows = λ s. (steady_turns s.clock).grows s; grows' = λ s. turns_grow' s.clock s; longer = λ s. (steady_turns s.clock).longer s }

steady_label_for : (v : ℤ) (labels : List (Option ℤ)) (n : ℕ) (d : Option ℕ) → Steady (label_for v labels n d) (label_for v labels n d)
steady_label_for v [] n d = steady_stay d
steady_label_for v (None ∷ labels) n d = steady_label_for v labels (suc n) (Some n)
steady_label_for v (Some c ∷ labels) n d = steady_tick _ _ (steady_choose (same_value c v) _ _ _ _ (steady_stay (Some n)) (steady_label_for v labels (suc n) d))

plain_self : Plain (λ s. s)
plain_self = record { same = λ s. refl; moves = λ s. refl }

plain_chain : (g h : State → State) → Plain g → Plain h → Plain (λ s. h (g s))
plain_chain g h pg ph = record { same = λ s. ph.same (g s) ∙ pg.same s; moves = λ s. ap h (pg.moves s) ∙ ph.moves (g s) }

plain_renewed : (objects : List ObjectType) (x : ℕ) → Plain (renewed objects x)
plain_renewed objects x = record { same = λ s. refl; moves = λ s. refl }

plain_all_renewed : (objects : List ObjectType) (x n : ℕ) → Plain (all_renewed objects x n)
plain_all_renewed objects x zero = plain_self
plain_all_renewed objects x (suc n) = plain_chain (renewed objects x) (all_renewed objects (suc x) n) (plain_renewed objects x) (plain_all_renewed objects (suc x) n)

plain_zeros : (k i : ℕ) (r : Reference) → Plain (zeros k i r)
plain_zeros zero i r = plain_self
plain_zeros (suc k) i r = plain_chain _ (zeros k (suc i) r) (record { same = λ s. refl; moves = λ s. refl }) (plain_zeros k (suc i) r)

plain_characters : (t : IntType) (k i : ℕ) (text : List ℕ) (r : Reference) → Plain (characters t k i text r)
plain_characters t zero i text r = plain_self
plain_characters t (suc k) i [] r = plain_chain (stored (into r i) (pos 0)) (characters t k (suc i) [] r) (plain_stored (into r i) (pos 0)) (plain_characters t k (suc i) [] r)
plain_characters t (suc k) i (ch ∷ text) r = plain_chain (stored (into r i) (converted t (pos ch))) (characters t k (suc i) text r) (plain_stored (into r i) (converted t (pos ch))) (plain_characters t k (suc i) text r)

steady_clear : (k i : ℕ) (lengths : List ℕ) (r : Reference) → Steady (clear k i lengths r) (clear k i lengths r)
steady_clear k i lengths r = steady_then (ticks (k * elements_in lengths)) (ticks (k * elements_in lengths)) _ _ (steady_ticks (k * elements_in lengths)) (λ u. steady_change tt (zeros k i r) (plain_zeros k i r))

-- the reference to an object of the present call does not depend on the clock
steady_own : {A : Type 0} (x : ℕ) (f f' : Reference → State → Run A) → ((r : Reference) → Steady (f r) (f' r)) → Steady (λ s. f (own x s) s) (λ s. f' (own x s) s)
steady_own x f f' h = record { grows = λ s. (h (own x s)).grows s; grows' = λ s. (h (own x s)).grows' s; longer = λ s. (h (own x s)).longer s }

module _ (p : Program) (c c' : Calling) (ok : SteadyCalls c c') where
  mutual
    steady_initialise : (i : Initialiser) (t : IntType) (lengths : List ℕ) (r : Reference) → Steady (initialise p c i t lengths r) (initialise p c' i t lengths r)
    steady_initialise (typed.one_value u e) t lengths r = steady_then (evaluate p c e) (evaluate p c' e) _ _ (steady_evaluate p c c' ok e) (λ v. steady_tick _ _ (steady_change tt (stored r (converted u v)) (plain_stored r (converted u v))))
    steady_initialise (typed.text n) t lengths r = steady_tick _ _ (steady_then (ticks (first_length lengths)) (ticks (first_length lengths)) _ _ (steady_ticks (first_length lengths)) (λ u. steady_change tt (characters t (first_length lengths) 0 (text_or_none (slice_get p.literals n)) r) (plain_characters t (first_length lengths) 0 (text_or_none (slice_get p.literals n)) r)))
    steady_initialise (typed.in_braces i) t lengths r = steady_tick _ _ (steady_initialise i t lengths r)
    steady_initialise (typed.list all) t lengths r = steady_tick _ _ (steady_initialise_all all t (first_length lengths) 0 (inner_lengths lengths) r)

    steady_initialise_all : (all : Initialisers) (t : IntType) (k i : ℕ) (lengths : List ℕ) (r : Reference) → Steady (initialise_all p c all t k i lengths r) (initialise_all p c' all t k i lengths r)
    steady_initialise_all typed.no_initialisers t k i lengths r = steady_clear k i lengths r
    steady_initialise_all (typed.and_initialiser x rest) t k i lengths r = steady_then (initialise p c x t lengths (into r i)) (initialise p c' x t lengths (into r i)) _ _ (steady_initialise x t lengths (into r i)) (λ u. steady_initialise_all rest t (k - 1) (suc i) lengths r)

module _ (p : Program) (c c' : Calling) (ok : SteadyCalls c c') (objects : List ObjectType) where
  steady_define : (o : Option ObjectType) (x : ℕ) (i : Initialiser) → Steady (define_object p c objects o x i) (define_object p c' objects o x i)
  steady_define None x i = steady_stay Normal
  steady_define (Some t) x i = steady_then _ _ _ _ (steady_own x (initialise p c i t.element t.lengths) (initialise p c' i t.element t.lengths) (λ r. steady_initialise p c c' ok i t.element t.lengths r)) (λ u. steady_stay Normal)

  mutual
    steady_execute : (a : Statement) → Steady (execute p c objects a) (execute p c' objects a)
    steady_execute typed.empty = steady_tick _ _ (steady_stay Normal)
    steady_execute (typed.evaluate e) = steady_tick _ _ (steady_then (evaluate p c e) (evaluate p c' e) _ _ (steady_evaluate p c c' ok e) (λ v. steady_stay Normal))
    steady_execute (typed.declare x) = steady_tick _ _ (steady_change Normal (renewed objects x) (plain_renewed objects x))
    steady_execute (typed.define x i) = steady_tick _ _ (steady_after (renewed objects x) (plain_renewed objects x) _ _ (steady_define (slice_get objects x) x i))
    steady_execute (typed.block x n all) = steady_tick _ _ (steady_after (all_renewed objects x n) (plain_all_renewed objects x n) _ _ (steady_all all))
    steady_execute (typed.branch e a) = steady_tick _ _ (steady_then (evaluate p c e) (evaluate p c' e) _ _ (steady_evaluate p c c' ok e) (λ v. steady_choose (truth v) _ _ _ _ (steady_execute a) (steady_stay Normal)))
    steady_execute (typed.branches e a b) = steady_tick _ _ (steady_then (evaluate p c e) (evaluate p c' e) _ _ (steady_evaluate p c c' ok e) (λ v. steady_choose (truth v) _ _ _ _ (steady_execute a) (steady_execute b)))
    steady_execute (typed.switch t e x n all) = steady_tick _ _ (steady_then (evaluate p c e) (evaluate p c' e) _ _ (steady_evaluate p c c' ok e) (λ v. steady_tick _ _ (steady_then _ _ _ _ (steady_after (all_renewed objects x n) (plain_all_renewed objects x n) (label_for (converted t v) (labels_of all) 0 None) (label_for (converted t v) (labels_of all) 0 None) (steady_label_for (converted t v) (labels_of all) 0 None)) (λ k. steady_then (execute_from p c objects k all) (execute_from p c' objects k all) _ _ (steady_from k all) steady_after_switch))))
    steady_execute (typed.while e a) = steady_tick _ _ (steady_loop (evaluate p c e) (evaluate p c' e) (execute p c objects a) (execute p c' objects a) _ _ (steady_evaluate p c c' ok e) (steady_execute a) (steady_or p c c' ok None))
    steady_execute (typed.do_while a e) = steady_tick _ _ (steady_then (execute p c objects a) (execute p c' objects a) _ _ (steady_execute a) (λ f. steady_after_body f _ _ (steady_loop (evaluate p c e) (evaluate p c' e) (execute p c objects a) (execute p c' objects a) _ _ (steady_evaluate p c c' ok e) (steady_execute a) (steady_or p c c' ok None))))
    steady_execute (typed.for all first test last a) = steady_tick _ _ (steady_then (execute_all p c objects all) (execute_all p c' objects all) _ _ (steady_all all) (λ f. steady_then (evaluate_or p c first) (evaluate_or p c' first) _ _ (steady_or p c c' ok first) (λ v. steady_loop (evaluate_or p c test) (evaluate_or p c' test) (execute p c objects a) (execute p c' objects a) (evaluate_or p c last) (evaluate_or p c' last) (steady_or p c c' ok test) (steady_execute a) (steady_or p c c' ok last))))
    steady_execute (typed.case v) = steady_tick _ _ (steady_stay Normal)
    steady_execute typed.default = steady_tick _ _ (steady_stay Normal)
    steady_execute typed.break = steady_tick _ _ (steady_stay Broken)
    steady_execute typed.continue = steady_tick _ _ (steady_stay Continued)
    steady_execute typed.return_nothing = steady_tick _ _ (steady_stay (Returned None))
    steady_execute (typed.return_value t e) = steady_tick _ _ (steady_then (evaluate p c e) (evaluate p c' e) _ _ (steady_evaluate p c c' ok e) (λ v. steady_stay (Returned (Some (converted t v)))))

    steady_all : (all : Statements) → Steady (execute_all p c objects all) (execute_all p c' objects all)
    steady_all typed.no_statements = steady_stay Normal
    steady_all (typed.and_statement a rest) = steady_then (execute p c objects a) (execute p c' objects a) _ _ (steady_execute a) (λ f. steady_next f (execute_all p c objects rest) (execute_all p c' objects rest) (steady_all rest))

    steady_from : (k : Option ℕ) (all : Statements) → Steady (execute_from p c objects k all) (execute_from p c' objects k all)
    steady_from k typed.no_statements = steady_stay Normal
    steady_from None (typed.and_statement a rest) = steady_stay Normal
    steady_from (Some k) (typed.and_statement a rest) = steady_choose (nat_lt k (length (labels_at a))) _ _ _ _ (steady_then (execute p c objects a) (execute p c' objects a) _ _ (steady_execute a) (λ f. steady_next f (execute_all p c objects rest) (execute_all p c' objects rest) (steady_all rest))) (steady_from (Some (k - length (labels_at a))) rest)

module _ (p : Program) (c c' : Calling) (ok : SteadyCalls c c') where
  -- the body of a call, and the return from it, from the state that the call makes
  steady_body : (g : Function) (is_main : Bool) (caller : State) → Steady (λ s. then_do (body_of p c g s) (λ flow s. Goes (value_left is_main flow) (leave caller (value_left is_main flow) s))) (λ s. then_do (body_of p c' g s) (λ flow s. Goes (value_left is_main flow) (leave caller (value_left is_main flow) s)))
  steady_body g is_main caller = steady_then (body_of p c g) (body_of p c' g) _ _ (steady_then (ticks (suc (length g.type.parameters))) (ticks (suc (length g.type.parameters))) _ _ (steady_ticks (suc (length g.type.parameters))) (λ u. steady_execute p c c' ok g.objects g.body)) (λ flow. steady_goes (value_left is_main flow) (leave caller (value_left is_main flow)) (λ s. (Left (option_map word_of (value_left is_main flow)) ∷ [], refl)) (λ s. refl))

  steady_defined : (o : Option Function) (f : ℕ) (vs : List Passed) → Steady (call_defined p c o f vs) (call_defined p c' o f vs)
  steady_defined None f vs = steady_stay None
  steady_defined (Some g) f vs = record {
    grows = λ s. grows_on s.history (enter f g vs s).history _ (Entered f (words_of vs) ∷ [], refl) ((steady_body g (nat_eq f p.main) s).grows (enter f g vs s));
    grows' = λ s. grows_on s.history (enter f g vs s).history _ (Entered f (words_of vs) ∷ [], refl) ((steady_body g (nat_eq f p.main) s).grows' (enter f g vs s));
    longer = λ s. (steady_body g (nat_eq f p.main) s).longer (enter f g vs s);
  }

steady_calling : (p : Program) (d : ℕ) → SteadyCalls (calling p d) (calling p (suc d))
steady_calling p zero f vs = record { grows = λ s. ([], refl); grows' = first_grows; longer = λ s. first_grows (more s) }
  where
    none : SteadyCalls (calling p 0) (calling p 0)
    none f vs = record { grows = λ s. ([], refl); grows' = λ s. ([], refl); longer = λ s. ([], refl) }

    first_grows : (s : State) → Grows s.history (done (calling p 1 f vs s))
    first_grows s = (steady_defined p (calling p 0) (calling p 0) none (slice_get p.functions f) f vs).grows s
steady_calling p (suc d) f vs = steady_defined p (calling p d) (calling p (suc d)) (steady_calling p d) (slice_get p.functions f) f vs

-- the program with one more tick
pub one_more_tick : (n : ℕ) (p : Program) (input : List ℕ) → Longer (cstep n p input) (cstep (suc n) p input)
one_more_tick n p input =
    (steady_then (calling p (suc n) p.main []) (calling p (suc (suc n)) p.main []) end_with end_with (steady_calling p (suc n) p.main []) (λ v. steady_stop (status_of v))).longer (start n p input)
