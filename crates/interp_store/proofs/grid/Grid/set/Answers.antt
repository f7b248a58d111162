use Rattle.std.proofs.Common.{◌<◌, ◌^◌, length, ap, arith}
use Rattle.std.proofs.Math.Facts.{to_z-of_z}
use Rattle.interp_store.specs.Cells.{cell}
use Rattle.interp_store.specs.View.{grid_of}
use Rattle.interp_store.proofs.Shapes.{no_element_set}
use Rattle.interp_store.proofs.Grids.{value_set}
use Rattle.interp_store.proofs.grid.Grid.set.Goals as goal

pub returns-in_default : goal.returns-in_default
returns-in_default c = no_element_set c.args.path.now (grid_of c.args.self.now) c.args.v c.in_default.ensures.none

pub returns : goal.returns
returns c =
    let g = c.args.self.now in
    let new = c.put.new.self in
    let fits : length new.cells.items < 2 ^ 63 = omega (arith, new.cells.ok, new.cells.small) in
    value_set c.args.path.now g.lengths.items new.lengths.items (cell g.cells.items g.unset.items) (cell new.cells.items new.unset.items) (length new.cells.items) fits
    (ap (λ v. v.items) c.put.ensures.lengths) c.put.result c.in-Some.k c.args.v _ (to_z-of_z c.ranges.v) c.in-Some.ensures.stands c.in-Some.ensures.number
    c.put.ensures.held c.put.ensures.here c.put.ensures.others
