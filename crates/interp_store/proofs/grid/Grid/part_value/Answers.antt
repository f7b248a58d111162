use Rattle.std.proofs.Common.{◌≡◌, ◌∷◌, length, rules}
use Rattle.interp_store.specs.Cells as cells
use Rattle.interp_store.proofs.Shapes.{part_there}
use Rattle.interp_store.proofs.grid.Grid.part_value.Goals as goal

pub returns-then-i-n : goal.returns-then-i-n
returns-then-i-n c =
    let more : c.args.self.now.lengths.items ≡ c.in-Some.n.now ∷ c.in-Some.inner.now = search rules in
    let none : length c.in-Some.inner.now ≡ 0 = search rules in
    part_there c.args.self.now.lengths.items c.in-Some.inner.now (cells.cell c.args.self.now.cells.items c.args.self.now.unset.items) c.args.i c.in-Some.n.now c.cell.result more none c.if-i-n.true c.cell.ensures
