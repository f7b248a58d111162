-- Arrays of unknown size, whose elements are objects.
use Rattle.std.specs.Prelude.{Bool, true, nat_lt}
use Rattle.std.specs.List.{list_all}
use Rattle.typing_spec.specs.Types.{DeclaredType, complete, unknown_size}

-- where the size of an array is unknown, each length of its elements is greater than zero (6.7.6.2p1)
abbrev pub has_elements : DeclaredType → Bool
has_elements (complete t) = true
has_elements (unknown_size t) = list_all (nat_lt 0) t.lengths
