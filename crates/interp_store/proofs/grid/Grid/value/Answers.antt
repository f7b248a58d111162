use Rattle.std.proofs.Common.{◌∙◌, ap, arith, rules}
use Rattle.interp_store.specs.Cells as cells
use Rattle.interp_store.proofs.Shapes.{no_value_there, value_there, row_there}
use Rattle.interp_store.proofs.grid.Grid.value.Goals as goal

pub returns-in-None : goal.returns-in-None
returns-in-None c = no_value_there c.args.path.now _ (cells.cell c.args.self.now.cells.items c.args.self.now.unset.items) (c.in-None.ensures ∙ ap (cells.behind c.args.path.now) c.as_slice.ensures.value)

pub returns-then-is_empty : goal.returns-then-is_empty
returns-then-is_empty c = value_there c.args.path.now c.args.self.now.lengths.items c.in-Some.rest.now (cells.cell c.args.self.now.cells.items c.args.self.now.unset.items) _
    (c.in-Some.ensures ∙ ap (cells.behind c.args.path.now) c.as_slice.ensures.value) (search rules) c.element.ensures

pub returns-else-is_empty : goal.returns-else-is_empty
returns-else-is_empty c = row_there c.args.path.now _ c.in-Some.rest.now (cells.cell c.args.self.now.cells.items c.args.self.now.unset.items) (c.in-Some.ensures ∙ ap (cells.behind c.args.path.now) c.as_slice.ensures.value) (grind arith)
