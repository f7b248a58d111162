-- The store of the abstract machine that the code's values hold, apart from vectors.
use Rattle.std.specs.Prelude.{ℕ, ◌+◌, List, [], map}
use Rattle.interp_store.specs.declared.grid.Grid.{Grid}
use Rattle.interp_store.specs.declared.element_tree.Tree.{Tree}
use Rattle.interp_store.specs.declared.element_tree.Tree.TheVariants.{Element, Array}
use Rattle.interp_store.specs.declared.path.Path.{Path}
use Rattle.interp_store.specs.declared.path.Path.TheVariants.{Whole, One, Two, More}
use Rattle.interp_store.specs.declared.reference.Reference.{Reference}
use Rattle.interp_store.specs.declared.store.Store.{Store}
use Rattle.csem.specs.Store as machine
use Rattle.interp_store.specs.Cells.{cell, shaped}

-- an array by its cells
abbrev pub grid_of : Grid → machine.Tree
grid_of grid = shaped grid.lengths.items (cell grid.cells.items grid.unset.items) 0

abbrev pub tree_of : Tree → machine.Tree
tree_of (Element v) = machine.Element v
tree_of (Array grid) = grid_of grid.value

abbrev pub path_of : Path → List ℕ
path_of Whole = []
path_of (One subscripts) = subscripts
path_of (Two subscripts) = subscripts
path_of (More subscripts) = subscripts.items

abbrev pub reference_of : Reference → machine.Reference
reference_of r = record { object = r.first + r.offset; path = path_of r.path }

abbrev pub store_of : Store → machine.Store
store_of s = map tree_of s.objects.items
