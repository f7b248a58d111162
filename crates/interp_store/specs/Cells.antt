-- Arrays as the cells of their elements, in order.
use Rattle.std.specs.Prelude.{ℕ, zero, suc, ◌+◌, ◌*◌, List, [], ◌∷◌, Option, Some, None, Bool, false, ℤ, nat_lt, slice_get, slice_index_or}
use Rattle.typing_spec.specs.Types.{elements_in}
use Rattle.csem.specs.Machine.{choose}
use Rattle.csem.specs.Store as machine

-- the value of element k: that of cell k, if there is one and `unset` has not true there
abbrev pub cell : List ℤ → List Bool → ℕ → Option ℤ
cell cells unset k = choose (slice_index_or unset k false) None (slice_get cells k)

-- n parts of `size` elements each, from element k on
abbrev pub rows : ℕ → ℕ → (ℕ → machine.Tree) → ℕ → machine.Row
rows zero size part k = machine.no_parts
rows (suc n) size part k = machine.and_part (part k) (rows n size part (k + size))

-- the object or the part of these lengths whose first element is number k, by the value of each element
abbrev pub shaped : List ℕ → (ℕ → Option ℤ) → ℕ → machine.Tree
shaped [] values k = machine.Element (values k)
shaped (n ∷ lengths) values k = machine.Array (rows n (elements_in lengths) (shaped lengths values) k)

-- the lengths of the part at these subscripts, if there is one
abbrev pub behind : List ℕ → List ℕ → Option (List ℕ)
behind [] lengths = Some lengths
behind (i ∷ path) [] = None
behind (i ∷ path) (n ∷ lengths) = choose (nat_lt i n) (behind path lengths) None

-- the number of parts of its lengths that precede it, where k parts of all lengths precede the whole
abbrev pub number : List ℕ → List ℕ → ℕ → ℕ
number [] lengths k = k
number (i ∷ path) [] k = k
number (i ∷ path) (n ∷ lengths) k = number path lengths (k * n + i)
