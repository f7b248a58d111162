-- The history of a run: bytes got and put, calls entered and left. A history has the newest first.
use Rattle.std.specs.Prelude.{ℕ, ◌+◌, List, [], ◌∷◌, max, Option, Some, None, slice_get}
use Rattle.csem_events.specs.Events.{Event}
use Rattle.typing_spec.specs.Program.{Function, Program}

-- Something was done to the outside; or a call of the function with this number began, with an argument for each parameter, of a number the word to which its
-- type extends it, of an array none; or the innermost call ended, and returned the word of a number or nothing.
pub data Entry : Type 0 where
  Did : (event : Event) → Entry
  Entered : (f : ℕ) (arguments : List (Option ℕ)) → Entry
  Left : (result : Option ℕ) → Entry

-- the input and output events, the newest first
abbrev pub trace_of : List Entry → List Event
trace_of [] = []
trace_of (Did e ∷ earlier) = e ∷ trace_of earlier
trace_of (Entered f arguments ∷ earlier) = trace_of earlier
trace_of (Left result ∷ earlier) = trace_of earlier

-- ---- active calls

abbrev pub without_innermost : List ℕ → List ℕ
without_innermost [] = []
without_innermost (f ∷ fs) = fs

-- the functions of the calls that have begun and not ended, the innermost first; a call begins before the tick of its definition
abbrev pub active : List Entry → List ℕ
active [] = []
active (Did e ∷ earlier) = active earlier
active (Entered f arguments ∷ earlier) = f ∷ active earlier
active (Left result ∷ earlier) = without_innermost (active earlier)

-- the weight of a function by its number
abbrev pub weight_or_none : Option Function → ℕ
weight_or_none None = 0
weight_or_none (Some f) = f.weight

abbrev pub weight_in : Program → ℕ → ℕ
weight_in p f = weight_or_none (slice_get p.functions f)

abbrev pub sum_of : (ℕ → ℕ) → List ℕ → ℕ
sum_of weight [] = 0
sum_of weight (f ∷ fs) = weight f + sum_of weight fs

-- the greatest sum of the weights of the calls active at one time
abbrev pub greatest_sum : (ℕ → ℕ) → List Entry → ℕ
greatest_sum weight [] = 0
greatest_sum weight (e ∷ earlier) = max (sum_of weight (active (e ∷ earlier))) (greatest_sum weight earlier)
