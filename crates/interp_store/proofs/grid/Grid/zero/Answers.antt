use Rattle.std.proofs.Common.{◌≡◌, ◌∙◌, ◌<◌, ◌-◌, ◌*◌, ◌^◌, length, ap, arith}
use Rattle.std.specs.Prelude.{min}
use Rattle.interp_store.specs.Cells as cells
use Rattle.interp_store.proofs.Shapes.{no_part_zeroed}
use Rattle.interp_store.proofs.Grids.{zeros_set}
use Rattle.interp_store.proofs.grid.Grid.zero.Goals as goal

pub returns-in_default : goal.returns-in_default
returns-in_default c = no_part_zeroed c.args.path.now _ _ (c.in_default.ensures ∙ ap (cells.behind c.args.path.now) c.as_slice.ensures.value)

pub returns : goal.returns
returns c =
    let g = c.args.self.now in
    let new = c.clear.new.self in
    let fits : length new.cells.items < 2 ^ 63 = omega (arith, new.cells.ok, new.cells.small) in
    let parts : c.number.result ≡ min (cells.number c.args.path.now g.lengths.items 0) (2 ^ 64 - 1) =
    c.number.ensures ∙ ap (λ ls. min (cells.number c.args.path.now ls 0) (2 ^ 64 - 1)) c.as_slice-2.ensures.value in
    let first : c.saturating_mul-first.result ≡ min (min (cells.number c.args.path.now g.lengths.items 0) (2 ^ 64 - 1) * c.element_count-count.result) (2 ^ 64 - 1) =
    c.saturating_mul-first.ensures ∙ ap (λ n. min (n * c.element_count-count.result) (2 ^ 64 - 1)) parts in
    zeros_set c.args.path.now g.lengths.items new.lengths.items (cells.cell g.cells.items g.unset.items) (cells.cell new.cells.items new.unset.items) (length new.cells.items) fits
    (ap (λ v. v.items) c.clear.ensures.lengths) c.clear.result c.in-Some.rest.now _ c.element_count-count.result
    (c.in-Some.ensures ∙ ap (cells.behind c.args.path.now) c.as_slice.ensures.value) c.element_count-count.ensures first
    c.clear.ensures.held c.clear.ensures.inside c.clear.ensures.outside
