-- A run that goes on keeps its past events; one that has ended or trapped stays so.
use Rattle.std.proofs.Common.{◌≡◌, ℕ, zero, suc, ◌+◌, ◌%◌, ◌^◌, List, [], ◌∷◌, ◌++◌, Bool, true, false, ◌&&◌, refl, sym, ap, ◌∙◌, subst, arith}
use Rattle.std.specs.Prelude.{◌==◌, if◌then◌else◌}
use Rattle.std.proofs.lemmas.List.{append_assoc}
use Rattle.csem_events.specs.Events.{Event, Got, GotEnd, Put}
use Rattle.rv32.specs.declared.state.Cause.TheVariants as cause
use Rattle.rv32.specs.declared.state.StepResult.{StepResult}
use Rattle.rv32.specs.declared.state.StepResult.TheVariants.{Went, Call, Trap}
use Rattle.rv32.specs.Step.{Machine, step_of, register}
use Rattle.sim.specs.Runs.{World, Progress, Running, Ended, Trapped, gets, puts, call_of, result_of, tick_of, goes_on, rvrun}
use Rattle.select_exec.specs.Laws.{trace_of, IsEndOf, RunsKeep}

goes_on_twice : (p : Progress) (f g : World → Progress) → goes_on (goes_on p f) g ≡ goes_on p (λ w. goes_on (f w) g)
goes_on_twice (Running w) f g = refl
goes_on_twice (Ended s w) f g = refl
goes_on_twice (Trapped c w) f g = refl

-- k + j steps are k steps and then j
run_on : (k j : ℕ) (w : World) → rvrun (k + j) w ≡ goes_on (rvrun k w) (rvrun j)
run_on zero j w = let e : 0 + j ≡ j = omega arith in ap (λ n. rvrun n w) e
run_on (suc k) j w =
    let e : suc k + j ≡ suc (k + j) = omega arith in
    let each : (v : World) → rvrun (k + j) v ≡ goes_on (rvrun k v) (rvrun j) = λ v. run_on k j v in
    ap (λ n. rvrun n w) e ∙ (ap (goes_on (tick_of w)) (λ i v. each v i) ∙ sym (goes_on_twice (tick_of w) (rvrun k) (rvrun j)))

abbrev Since : List Event → Progress → Type 0
Since h p = IsEndOf h (trace_of p)

same : (h : List Event) → IsEndOf h h
same h = ([], refl)

one_more : (x : Event) (h : List Event) → IsEndOf h (x ∷ h)
one_more x h = (x ∷ [], refl)

if_since : (h : List Event) (t : Bool) (p q : Progress) → Since h p → Since h q → Since h (if t then p else q)
if_since h true p q a b = a
if_since h false p q a b = b

gets_since : (w : World) (xs : List ℕ) (a : ℕ) → Since w.trace (gets w xs a)
gets_since w [] a = one_more GotEnd w.trace
gets_since w (x ∷ xs) a = one_more (Got x) w.trace

call_since : (w : World) → Since w.trace (call_of w)
call_since w =
    let m = w.machine in
    let a = register m 11 in
    let reads = if m.space.can_write a then gets w w.input a else Trapped cause.StoreFault w in
    let writes = if m.space.can_read a then puts w a else Trapped cause.LoadFault w in
    let is_read = register m 17 == 63 && (register m 10 == 0 && register m 12 == 1) in
    let is_write = register m 17 == 64 && (register m 10 == 1 && register m 12 == 1) in
    if_since w.trace (register m 17 == 93) (Ended (register m 10 % 2 ^ 8) w) (if is_read then reads else if is_write then writes else Trapped cause.BadCall w) (same w.trace)
    (if_since w.trace is_read reads (if is_write then writes else Trapped cause.BadCall w)
    (if_since w.trace (m.space.can_write a) (gets w w.input a) (Trapped cause.StoreFault w) (gets_since w w.input a) (same w.trace))
    (if_since w.trace is_write writes (Trapped cause.BadCall w)
    (if_since w.trace (m.space.can_read a) (puts w a) (Trapped cause.LoadFault w) (one_more (Put (m.space.byte a)) w.trace) (same w.trace))
    (same w.trace)))

result_since : (w : World) (m : Machine) (r : StepResult) → Since w.trace (result_of w m r)
result_since w m Went = same w.trace
result_since w m Call = call_since w
result_since w m (Trap c) = same w.trace

tick_since : (w : World) → Since w.trace (tick_of w)
unfolding tick_of
tick_since w = let s = step_of w.machine in result_since w s.machine s.result

further : (a b c : List Event) → IsEndOf a b → IsEndOf b c → IsEndOf a c
further a b c p q = (q.0 ++ p.0, q.1 ∙ (ap (λ x. q.0 ++ x) p.1 ∙ sym (append_assoc q.0 p.0 a)))

run_since_of : (p : Progress) (f : World → Progress) → ((w : World) → Since w.trace (f w)) → Since (trace_of p) (goes_on p f)
run_since_of (Running w) f each = each w
run_since_of (Ended s w) f each = same w.trace
run_since_of (Trapped c w) f each = same w.trace

run_since : (k : ℕ) (w : World) → Since w.trace (rvrun k w)
run_since zero w = same w.trace
run_since (suc k) w = further w.trace (trace_of (tick_of w)) (trace_of (rvrun (suc k) w)) (tick_since w) (run_since_of (tick_of w) (rvrun k) (λ v. run_since k v))

pub runs_keep : RunsKeep
runs_keep k j w = (
  subst (λ p. IsEndOf (trace_of (rvrun k w)) (trace_of p)) (sym (run_on k j w)) (run_since_of (rvrun k w) (rvrun j) (λ v. run_since j v)),
  λ s v e. run_on k j w ∙ ap (λ p. goes_on p (rvrun j)) e,
  λ c v e. run_on k j w ∙ ap (λ p. goes_on p (rvrun j)) e,
)
