-- More ticks: the history is kept, and so is the outcome of a run that has ended.
use Rattle.std.proofs.Common.{◌≡◌, ℕ, zero, suc, ◌+◌, [], true, refl, ap, ◌∙◌, subst, arith}
use Rattle.csem.specs.Machine.{State, Ending, Run, Goes, Stops, Ended, Undefined, TicksUsed}
use Rattle.csem.specs.Meaning.{cstep}
use Rattle.csem.specs.Laws.{Grows, HistoryGrows, is_final, with_more_ticks, EndedStays}
use Rattle.csem.proofs.Clock.{grows_on, done, Longer, more, one_more_tick}

longer_grows : {A : Type 0} (r r' : Run A) → Longer r r' → Grows (done r) (done r')
longer_grows (Goes a s) r' l = ([], ap done l)
longer_grows (Stops (Ended status) s) r' l = ([], ap done l)
longer_grows (Stops (Undefined u at) s) r' l = ([], ap done l)
longer_grows (Stops TicksUsed s) r' l = l

zero_plus : (n : ℕ) → n ≡ zero + n
zero_plus n = omega arith

suc_plus : (k n : ℕ) → suc (k + n) ≡ suc k + n
suc_plus k n = omega arith

pub history_grows : HistoryGrows
history_grows n zero p input = subst (λ m. Grows (done (cstep n p input)) (done (cstep m p input))) (zero_plus n) ([], refl)
history_grows n (suc k) p input = subst (λ m. Grows (done (cstep n p input)) (done (cstep m p input))) (suc_plus k n) (grows_on _ _ _ (history_grows n k p input) (longer_grows (cstep (k + n) p input) (cstep (suc (k + n)) p input) (one_more_tick (k + n) p input)))

longer_final : {A : Type 0} (r' : Run A) (e : Ending) (s : State) → is_final e ≡ true → Longer (Stops e s) r' → r' ≡ Stops e (more s)
longer_final r' (Ended status) s h l = l
longer_final r' (Undefined u at) s h l = l
longer_final r' TicksUsed s h l = absurd (cc h)

no_more_ticks : (s : State) → s ≡ with_more_ticks zero s
no_more_ticks s = ap (λ n. record s { clock = n }) (zero_plus s.clock)

one_tick_more : (k : ℕ) (s : State) → more (with_more_ticks k s) ≡ with_more_ticks (suc k) s
one_tick_more k s = ap (λ n. record s { clock = n }) (suc_plus k s.clock)

pub ended_stays : EndedStays
ended_stays n zero p input e s h r = subst (λ m. cstep m p input ≡ Stops e (with_more_ticks zero s)) (zero_plus n) (r ∙ ap (λ x. Stops e x) (no_more_ticks s))
ended_stays n (suc k) p input e s h r = subst (λ m. cstep m p input ≡ Stops e (with_more_ticks (suc k) s)) (suc_plus k n) (longer_final (cstep (suc (k + n)) p input) e (with_more_ticks k s) h (subst (λ x. Longer x (cstep (suc (k + n)) p input)) (ended_stays n k p input e s h r) (one_more_tick (k + n) p input)) ∙ ap (λ x. Stops e x) (one_tick_more k s))
