use Rattle.std.proofs.Common.{◌≡◌, ◌≤◌, length, ap, ◌∙◌, List, Bool, ℤ, true, false, arith}
use Rattle.interp_store.specs.Cells.{cell}
use Rattle.interp_store.proofs.Cells.{Resized, resized_by, marks_cut, marks_more, cells_more}
use Rattle.interp_store.proofs.grid.Grid.reach.Goals as goal

pub returns-in_err-resize-2-clause-same : goal.returns-in_err-resize-2-clause-same
returns-in_err-resize-2-clause-same c = λ j.
    let g = c.args.self.now in
    let size : c.len-2.result ≡ length g.cells.items = omega (arith, c.len-2.ensures, g.cells.ok) in
    let first : Resized g.unset.items c.resize.new.self.items _ false =
    resized_by _ _ _ _ _ false g.unset.ok.0 c.resize.new.self.ok.0 c.in_ok-resize.ensures.len c.in_ok-resize.ensures.by_index.0 c.in_ok-resize.ensures.by_index.1 in
    ap (λ (us : List Bool). cell g.cells.items us j) c.in_err-resize-2.ensures.items ∙ marks_cut g.cells.items g.unset.items c.resize.new.self.items _ j size first

pub returns-in_err-resize-3-clause-same : goal.returns-in_err-resize-3-clause-same
returns-in_err-resize-3-clause-same c = λ j.
    let g = c.args.self.now in
    let long : length g.cells.items ≤ c.args.end = omega (arith, c.if-end-len.false, c.len.ensures, g.cells.ok) in
    let size : c.len-2.result ≡ length g.cells.items = omega (arith, c.len-2.ensures, g.cells.ok) in
    let first : Resized g.unset.items c.resize.new.self.items _ false =
    resized_by _ _ _ _ _ false g.unset.ok.0 c.resize.new.self.ok.0 c.in_ok-resize.ensures.len c.in_ok-resize.ensures.by_index.0 c.in_ok-resize.ensures.by_index.1 in
    let second : Resized c.resize.new.self.items c.resize-2.new.self.items c.args.end true =
    resized_by _ _ _ _ _ true c.resize.new.self.ok.0 c.resize-2.new.self.ok.0 c.in_ok-resize-2.ensures.len c.in_ok-resize-2.ensures.by_index.0 c.in_ok-resize-2.ensures.by_index.1 in
    ap (λ (cs : List ℤ). cell cs c.resize-2.new.self.items j) c.in_err-resize-3.ensures.items
    ∙ marks_more g.cells.items g.unset.items c.resize.new.self.items c.resize-2.new.self.items _ c.args.end j size long first second

pub returns-clause-same : goal.returns-clause-same
returns-clause-same c = λ j.
    let g = c.args.self.now in
    let long : length g.cells.items ≤ c.args.end = omega (arith, c.if-end-len.false, c.len.ensures, g.cells.ok) in
    let size : c.len-2.result ≡ length g.cells.items = omega (arith, c.len-2.ensures, g.cells.ok) in
    let first : Resized g.unset.items c.resize.new.self.items _ false =
    resized_by _ _ _ _ _ false g.unset.ok.0 c.resize.new.self.ok.0 c.in_ok-resize.ensures.len c.in_ok-resize.ensures.by_index.0 c.in_ok-resize.ensures.by_index.1 in
    let second : Resized c.resize.new.self.items c.resize-2.new.self.items c.args.end true =
    resized_by _ _ _ _ _ true c.resize.new.self.ok.0 c.resize-2.new.self.ok.0 c.in_ok-resize-2.ensures.len c.in_ok-resize-2.ensures.by_index.0 c.in_ok-resize-2.ensures.by_index.1 in
    let third : Resized g.cells.items c.resize-3.new.self.items c.args.end _ =
    resized_by _ _ _ _ _ _ g.cells.ok.0 c.resize-3.new.self.ok.0 c.in_ok-resize-3.ensures.len c.in_ok-resize-3.ensures.by_index.0 c.in_ok-resize-3.ensures.by_index.1 in
    cells_more g.cells.items c.resize-3.new.self.items g.unset.items c.resize.new.self.items c.resize-2.new.self.items _ c.args.end j _ size long first second third
