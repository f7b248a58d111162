-- Weights that 32 bits hold.
use Rattle.std.specs.Prelude.{◌≡◌, ◌<◌, ◌^◌, ℕ, List, Some, slice_get}
use Rattle.typing_spec.specs.Program.{Function}

abbrev pub AreLight : List Function → Type 0
AreLight fs = (k : ℕ) (f : Function) → slice_get fs k ≡ Some f → f.weight < 2 ^ 32
