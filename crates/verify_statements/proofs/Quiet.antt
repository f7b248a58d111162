-- Expressions without side effects leave the state as it is, except for the clock.
use Rattle.std.proofs.Common.{◌≡◌, ℕ, zero, suc, ℤ, pos, negsuc, refl, ◌∙◌}
use Rattle.std.specs.Prelude.{Bool, true, false, ◌&&◌, Option, Some, None, Result, Ok, Err, nat_lt}
use Rattle.srcset.specs.declared.refusal.Pos.{Pos}
use Rattle.ctypes.specs.declared.operators.Undef.{Undef}
use Rattle.ctypes.specs.Types.{truth}
use Rattle.typing_spec.specs.Program as typed
use Rattle.typing_spec.specs.Program.{Value, Place, Program}
use Rattle.csem.specs.Store.{Reference, value_at, length_of, tree_at}
use Rattle.csem.specs.Machine.{State, Run, Goes, Stops, then_do, choose, tick, tick_of, computed_at, value_or_undefined, subscripted}
use Rattle.csem.specs.Expressions.{Calling, find, evaluate}
use Rattle.verify_statements.specs.Quiet.{quiet, quiet_place}

pub record Same (s s2 : State) : Type 0 where
  pub store : s2.store ≡ s.store
  pub base : s2.base ≡ s.base
  pub arrays : s2.arrays ≡ s.arrays
  pub input : s2.input ≡ s.input

same_self : (s : State) → Same s s
same_self s = record { store = refl; base = refl; arrays = refl; input = refl }

abbrev pub Stays : {A : Type 0} → State → Run A → Type 0
Stays s (Goes a s2) = Same s s2
Stays s (Stops e s2) = Unit {0}

same_then : (s s2 s3 : State) → Same s s2 → Same s2 s3 → Same s s3
same_then s s2 s3 h k = record { store = k.store ∙ h.store; base = k.base ∙ h.base; arrays = k.arrays ∙ h.arrays; input = k.input ∙ h.input }

stays_from : {A : Type 0} (s s2 : State) (r : Run A) → Same s s2 → Stays s2 r → Stays s r
stays_from s s2 (Goes a s3) h k = same_then s s2 s3 h k
stays_from s s2 (Stops e s3) h k = tt

then_stays : {A B : Type 0} (s : State) (r : Run A) (go : A → State → Run B) → Stays s r → ((a : A) (s2 : State) → Stays s2 (go a s2)) → Stays s (then_do r go)
then_stays s (Goes a s2) go h k = stays_from s s2 (go a s2) h (k a s2)
then_stays s (Stops e s2) go h k = tt

tick_of_stays : {A : Type 0} (n : ℕ) (s : State) (go : State → Run A) → ((s2 : State) → Stays s2 (go s2)) → Stays s (tick_of n s go)
tick_of_stays zero s go h = tt
tick_of_stays (suc n) s go h = stays_from s (record s { clock = n }) (go (record s { clock = n })) (record { store = refl; base = refl; arrays = refl; input = refl }) (h (record s { clock = n }))

tick_stays : {A : Type 0} (s : State) (go : State → Run A) → ((s2 : State) → Stays s2 (go s2)) → Stays s (tick s go)
tick_stays s go h = tick_of_stays s.clock s go h

choose_stays : {A : Type 0} (s : State) (b : Bool) (x y : Run A) → Stays s x → Stays s y → Stays s (choose b x y)
choose_stays s true x y h k = h
choose_stays s false x y h k = k

computed_stays : (at : Pos) (r : Result ℤ Undef) (s : State) → Stays s (computed_at at r s)
computed_stays at (Ok v) s = same_self s
computed_stays at (Err act) s = tt

read_stays : (at : Pos) (v : Option ℤ) (s : State) → Stays s (value_or_undefined at v s)
read_stays at None s = tt
read_stays at (Some v) s = same_self s

subscripted_stays : (at : Pos) (r : Reference) (v : ℤ) (s : State) → Stays s (subscripted at r v s)
subscripted_stays at r (pos i) s = choose_stays s (nat_lt i (length_of (tree_at s.store r))) _ _ (same_self s) tt
subscripted_stays at r (negsuc i) s = tt

both_are : (a b : Bool) → (a && b) ≡ true → (a ≡ true) × (b ≡ true)
both_are true true e = (refl, refl)
both_are true false e = absurd (let q : false ≡ true = e in cc q)
both_are false b e = absurd (let q : false ≡ true = e in cc q)

module _ (p : Program) (call : Calling) where
  mutual
    pub find_stays : (place : Place) (s : State) → quiet_place place ≡ true → Stays s (find p call place s)
    find_stays (typed.named at what) s e = tick_stays s _ (λ s2. same_self s2)
    find_stays (typed.element at array index) s e =
        let q = both_are (quiet_place array) (quiet index) e in
        tick_stays s _ (λ s2. then_stays s2 (find p call array s2) _ (find_stays array s2 q.0) (λ r s3. then_stays s3 (evaluate p call index s3) _ (evaluate_stays index s3 q.1) (λ v s4. subscripted_stays at r v s4)))

    pub evaluate_stays : (e : Value) (s : State) → quiet e ≡ true → Stays s (evaluate p call e s)
    evaluate_stays (typed.constant t v) s e = tick_stays s _ (λ s2. same_self s2)
    evaluate_stays (typed.read t place) s e = then_stays s (find p call place s) _ (find_stays place s e) (λ r s2. read_stays _ (value_at s2.store r) s2)
    evaluate_stays (typed.assigned at t place x) s e = absurd (cc e)
    evaluate_stays (typed.compound at op t of place x) s e = absurd (cc e)
    evaluate_stays (typed.stepped at moment op t of place) s e = absurd (cc e)
    evaluate_stays (typed.unary at op t x) s e = tick_stays s _ (λ s2. then_stays s2 (evaluate p call x s2) _ (evaluate_stays x s2 e) (λ v s3. computed_stays at _ s3))
    evaluate_stays (typed.binary at op t a b) s e =
        let q = both_are (quiet a) (quiet b) e in
        tick_stays s _ (λ s2. then_stays s2 (evaluate p call a s2) _ (evaluate_stays a s2 q.0) (λ v s3. then_stays s3 (evaluate p call b s3) _ (evaluate_stays b s3 q.1) (λ w s4. computed_stays at _ s4)))
    evaluate_stays (typed.both_true a b) s e =
        let q = both_are (quiet a) (quiet b) e in
        tick_stays s _ (λ s2. then_stays s2 (evaluate p call a s2) _ (evaluate_stays a s2 q.0) (λ v s3. choose_stays s3 (truth v) _ _
        (then_stays s3 (evaluate p call b s3) _ (evaluate_stays b s3 q.1) (λ w s4. same_self s4)) (same_self s3)))
    evaluate_stays (typed.one_true a b) s e =
        let q = both_are (quiet a) (quiet b) e in
        tick_stays s _ (λ s2. then_stays s2 (evaluate p call a s2) _ (evaluate_stays a s2 q.0) (λ v s3. choose_stays s3 (truth v) _ _
        (same_self s3) (then_stays s3 (evaluate p call b s3) _ (evaluate_stays b s3 q.1) (λ w s4. same_self s4))))
    evaluate_stays (typed.chosen t c a b) s e =
        let q = both_are (quiet c) (quiet a && quiet b) e in
        let q2 = both_are (quiet a) (quiet b) q.1 in
        tick_stays s _ (λ s2. then_stays s2 (evaluate p call c s2) _ (evaluate_stays c s2 q.0) (λ v s3.
        then_stays s3 (choose (truth v) (evaluate p call a s3) (evaluate p call b s3)) _ (choose_stays s3 (truth v) (evaluate p call a s3) (evaluate p call b s3) (evaluate_stays a s3 q2.0) (evaluate_stays b s3 q2.1)) (λ w s4. same_self s4)))
    evaluate_stays (typed.sequence a b) s e =
        let q = both_are (quiet a) (quiet b) e in
        tick_stays s _ (λ s2. then_stays s2 (evaluate p call a s2) _ (evaluate_stays a s2 q.0) (λ v s3. evaluate_stays b s3 q.1))
    evaluate_stays (typed.cast t x) s e = tick_stays s _ (λ s2. then_stays s2 (evaluate p call x s2) _ (evaluate_stays x s2 e) (λ v s3. same_self s3))
    evaluate_stays (typed.discarded x) s e = tick_stays s _ (λ s2. then_stays s2 (evaluate p call x s2) _ (evaluate_stays x s2 e) (λ v s3. same_self s3))
    evaluate_stays (typed.call at callee result used passed) s e = absurd (cc e)
