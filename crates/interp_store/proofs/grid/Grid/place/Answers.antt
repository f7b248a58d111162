use Rattle.std.proofs.Common.{◌∙◌, ap, arith}
use Rattle.interp_store.specs.Cells as cells
use Rattle.interp_store.proofs.Shapes.{no_element_behind, row_is_no_element}
use Rattle.interp_store.proofs.grid.Grid.place.Goals as goal

pub returns-in-None-clause-none : goal.returns-in-None-clause-none
returns-in-None-clause-none c = λ w. no_element_behind c.args.path.now _ _ w (c.in-None.ensures ∙ ap (cells.behind c.args.path.now) c.as_slice.ensures.value)

pub returns-else-is_empty-clause-none : goal.returns-else-is_empty-clause-none
returns-else-is_empty-clause-none c = λ w. row_is_no_element c.args.path.now _ c.in-Some.rest.now _ w (c.in-Some.ensures ∙ ap (cells.behind c.args.path.now) c.as_slice.ensures.value) (grind arith)
