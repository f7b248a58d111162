-- The relation of a tally of the active calls to a history.
use Rattle.std.specs.Prelude.{◌≡◌, List, map, reverse}
use Rattle.typing_spec.specs.Program as typed
use Rattle.csem.specs.History.{Entry, active, weight_in, sum_of, greatest_sum}
use Rattle.interp_transitions.specs.declared.tally.Tally.{Tally}

abbrev pub Tells : typed.Program → List Entry → Tally → Type 0
Tells p h t = (t.weights.items ≡ reverse (map (weight_in p) (active h))) × (t.sum ≡ sum_of (weight_in p) (active h)) × (t.greatest ≡ greatest_sum (weight_in p) h)
