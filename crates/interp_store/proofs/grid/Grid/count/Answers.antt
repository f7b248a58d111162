use Rattle.std.proofs.Common.{◌∙◌, ap}
use Rattle.interp_store.specs.Cells as cells
use Rattle.interp_store.proofs.Shapes.{no_length_there, element_there, length_there}
use Rattle.interp_store.proofs.grid.Grid.count.Goals as goal

pub returns-in-None : goal.returns-in-None
returns-in-None c = no_length_there c.args.path.now _ (cells.cell c.args.self.now.cells.items c.args.self.now.unset.items) (c.in-None.ensures ∙ ap (cells.behind c.args.path.now) c.as_slice.ensures.value)

pub returns-in-None-first : goal.returns-in-None-first
returns-in-None-first c = element_there c.args.path.now _ c.in-Some.rest.now (cells.cell c.args.self.now.cells.items c.args.self.now.unset.items)
    (c.in-Some.ensures ∙ ap (cells.behind c.args.path.now) c.as_slice.ensures.value) c.in-None-first.ensures.value

pub returns-in-Some-first : goal.returns-in-Some-first
returns-in-Some-first c = length_there c.args.path.now _ c.in-Some.rest.now (cells.cell c.args.self.now.cells.items c.args.self.now.unset.items) c.in-Some-first.n.now
    (c.in-Some.ensures ∙ ap (cells.behind c.args.path.now) c.as_slice.ensures.value) c.in-Some-first.ensures.value
