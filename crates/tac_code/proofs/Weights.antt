-- The weights of open calls and the greatest sum in the history.
use Rattle.std.proofs.Common.{◌≡◌, ◌≤◌, ℕ, ◌+◌, List, [], ◌∷◌, ◌++◌, subst, sym, arith}
use Rattle.std.proofs.Math.Nat.{le-max_left, le-max_right}
use Rattle.csem.specs.History.{Entry, active, sum_of, greatest_sum}
use Rattle.csem.specs.Laws.{Grows}
use Rattle.tac_code.specs.Run.{State, Progress, running, ended, stuck, open_calls, run, start}
use Rattle.tac_code.specs.Laws.{ComesOf, HasCalls, IsSeen, WeightsAreSeen}
use Rattle.tac_code.proofs.Growing.{run_grows, calls_are_active}

no_more : (a b c : ℕ) → a ≤ b → b ≤ c → a ≤ c
no_more a b c first second = omega (arith, first, second)

nothing : 0 ≤ 0
nothing = omega arith

same : (n : ℕ) → n ≤ n
same n = omega arith

now : (weight : ℕ → ℕ) (h : List Entry) → sum_of weight (active h) ≤ greatest_sum weight h
now weight [] = nothing
now weight (e ∷ h) = le-max_left (sum_of weight (active (e ∷ h))) (greatest_sum weight h)

later : (weight : ℕ → ℕ) (new h : List Entry) → greatest_sum weight h ≤ greatest_sum weight (new ++ h)
later weight [] h = same (greatest_sum weight h)
later weight (e ∷ new) h = no_more (greatest_sum weight h) (greatest_sum weight (new ++ h)) (greatest_sum weight (e ∷ (new ++ h)))
    (later weight new h) (le-max_right (sum_of weight (active (e ∷ (new ++ h)))) (greatest_sum weight (new ++ h)))

grown : (weight : ℕ → ℕ) (h h2 : List Entry) → Grows h h2 → sum_of weight (active h) ≤ greatest_sum weight h2
grown weight h h2 grows = subst (λ x. sum_of weight (active h) ≤ greatest_sum weight x) (sym grows.1)
    (no_more (sum_of weight (active h)) (greatest_sum weight h) (greatest_sum weight (grows.0 ++ h)) (now weight h) (later weight grows.0 h))

seen_in : (weight : ℕ → ℕ) (s : State) (r : Progress) → open_calls s ≡ active s.history → ComesOf (running s) r →
    IsSeen weight (sum_of weight (open_calls s)) r
seen_in weight s (running t) calls grows = subst (λ fs. sum_of weight fs ≤ greatest_sum weight t.history) (sym calls) (grown weight s.history t.history grows)
seen_in weight s (ended status input history) calls grows = subst (λ fs. sum_of weight fs ≤ greatest_sum weight history) (sym calls) (grown weight s.history history grows)
seen_in weight s stuck calls grows = tt

pub weights_are_seen : WeightsAreSeen
weights_are_seen weight p n k input s e = seen_in weight s (run p (n + k) (start p input))
    (subst HasCalls e (calls_are_active p n input))
    (subst (λ r. ComesOf r (run p (n + k) (start p input))) e (run_grows p n k (start p input)))
