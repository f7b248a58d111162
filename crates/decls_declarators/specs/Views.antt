-- The definition's values that the code's types of declarators represent.
use Rattle.std.specs.Prelude.{ℕ, ◌<◌, Bool, true, false, List, [], ◌∷◌, Option, Some, None}
use Rattle.decls_declarators.specs.declared.sizes.Sizes.{Sizes}
use Rattle.typing_spec.specs.Declarators as typed

-- the lengths from the outermost, or an unknown size and the others
abbrev pub sizes_with : Bool → List ℕ → typed.Sizes
sizes_with true ns = typed.outermost None ns
sizes_with false [] = typed.no_sizes
sizes_with false (n ∷ ns) = typed.outermost (Some n) ns

abbrev pub sizes_of : Sizes → typed.Sizes
sizes_of x = sizes_with x.unknown x.lengths.items

abbrev pub known_size : Option ℕ → List ℕ
known_size None = []
known_size (Some n) = n ∷ []

-- each is greater than zero
abbrev pub Positive : List ℕ → Type 0
Positive [] = Unit {0}
Positive (n ∷ ns) = (0 < n) × Positive ns
