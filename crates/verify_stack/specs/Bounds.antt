-- The meaning of a bound on the stack that a program takes.
use Rattle.std.specs.Prelude.{ℕ, ◌≤◌, List, Option, Some, None, slice_get}
use Rattle.typing_spec.specs.Program.{Program}
use Rattle.csem.specs.History.{weight_in, greatest_sum}
use Rattle.csem.specs.Meaning.{cstep, last_of}
use Rattle.verify_stack.specs.Recursions.{Recurses}
use Rattle.verify_stack.specs.declared.bounds.Bound.{Bound}
use Rattle.verify_stack.specs.declared.bounds.Bound.TheVariants.{AtMost, Recursive, Unknown}

-- on every input and with any number of ticks, the sizes of the calls that are active at one time never sum to more
abbrev pub SumsWithin : (size : ℕ → ℕ) (most : ℕ) → Program → Type 0
SumsWithin size most p = (n : ℕ) (input : List ℕ) → greatest_sum size (last_of (cstep n p input)).history ≤ most

-- by the weights that the source gives
abbrev pub StaysWithin : (most : ℕ) → Program → Type 0
StaysWithin most p = SumsWithin (weight_in p) most p

abbrev pub size_or_none : Option ℕ → ℕ
size_or_none None = 0
size_or_none (Some n) = n

-- the size of a function by its number
abbrev pub size_in : (sizes : List ℕ) → ℕ → ℕ
size_in sizes f = size_or_none (slice_get sizes f)

abbrev pub Says : (size : ℕ → ℕ) → Program → Bound → Type 0
Says size p (AtMost most) = SumsWithin size most p
Says size p (Recursive r) = Recurses p r
Says size p Unknown = Unit {0}
