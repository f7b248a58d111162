use Rattle.std.proofs.Common.{◌≡◌, drop}
use Rattle.interp_store.specs.Cells as cells
use Rattle.interp_store.proofs.grid.behind.Given as goal

abbrev pub invariant-loop-i : goal.invariant-loop-i
invariant-loop-i l = cells.behind (drop l.i-index l.path) l.rest ≡ cells.behind l.path l.lengths
