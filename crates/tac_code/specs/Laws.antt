-- Laws of runs, which the layers on both sides use.
use Rattle.std.specs.Prelude.{◌≡◌, ◌≤◌, ℕ, ◌+◌, List}
use Rattle.csem.specs.History.{active, sum_of, greatest_sum}
use Rattle.csem.specs.Laws.{Grows}
use Rattle.tac_code.specs.Code.{Program}
use Rattle.tac_code.specs.Run.{State, Progress, running, ended, stuck, open_calls, run, start}

-- the second is the first, or follows it: its history is no shorter, and an outcome stays
abbrev pub ComesOf : Progress → Progress → Type 0
ComesOf (running s) (running t) = Grows s.history t.history
ComesOf (running s) (ended status input history) = Grows s.history history
ComesOf (running s) stuck = Unit {0}
ComesOf (ended status input history) r = r ≡ ended status input history
ComesOf stuck r = r ≡ stuck

abbrev pub RunGrows : Type 0
RunGrows = (p : Program) (n k : ℕ) (s : State) → ComesOf (run p n s) (run p (n + k) s)

-- the open calls are those of the history
abbrev pub HasCalls : Progress → Type 0
HasCalls (running s) = open_calls s ≡ active s.history
HasCalls (ended status input history) = Unit {0}
HasCalls stuck = Unit {0}

abbrev pub CallsAreActive : Type 0
CallsAreActive = (p : Program) (n : ℕ) (input : List ℕ) → HasCalls (run p n (start p input))

-- a number is no more than the greatest sum of weights in the history
abbrev pub IsSeen : (ℕ → ℕ) → ℕ → Progress → Type 0
IsSeen weight n (running s) = n ≤ greatest_sum weight s.history
IsSeen weight n (ended status input history) = n ≤ greatest_sum weight history
IsSeen weight n stuck = Unit {0}

-- the weights of the calls that are open at a step are never more than the greatest sum in the history of a later step
abbrev pub WeightsAreSeen : Type 0
WeightsAreSeen = (weight : ℕ → ℕ) (p : Program) (n k : ℕ) (input : List ℕ) (s : State) → run p n (start p input) ≡ running s →
    IsSeen weight (sum_of weight (open_calls s)) (run p (n + k) (start p input))
