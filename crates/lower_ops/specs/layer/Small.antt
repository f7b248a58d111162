-- The elements and rows that the places of a function name are small.
use Rattle.std.specs.Prelude.{◌<◌, ◌^◌}
use Rattle.typing_spec.specs.Program.{Program, Function, Place}
use Rattle.typing_spec.specs.Nodes.{row_type, type_of_place}
use Rattle.lower_correct.specs.Places.{size_of_type}

abbrev pub RowsAreSmall : Program → Function → Type 0
RowsAreSmall p f = (array : Place) → size_of_type (row_type (type_of_place p f array)) < 2 ^ 32
