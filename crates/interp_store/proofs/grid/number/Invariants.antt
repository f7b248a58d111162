use Rattle.std.proofs.Common.{◌≡◌, ◌-◌, ◌^◌, ◌≤◌, drop}
use Rattle.std.specs.Prelude.{min}
use Rattle.interp_store.specs.Cells as cells
use Rattle.interp_store.proofs.grid.number.Given as goal

abbrev pub invariant-loop-i : goal.invariant-loop-i
invariant-loop-i l = record {
  is : min (cells.number (drop l.i-index l.path) l.rest l.k) (2 ^ 64 - 1) ≡ min (cells.number l.path l.lengths 0) (2 ^ 64 - 1);
  fits : l.k ≤ 2 ^ 64 - 1;
}
