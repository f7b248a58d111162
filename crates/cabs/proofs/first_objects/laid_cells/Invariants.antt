use Rattle.std.proofs.Common.{◌≡◌, ◌<◌, ℕ, length, drop, Some}
use Rattle.csem.specs.Store as machine
use Rattle.std.specs.Prelude.{slice_get}
use Rattle.cabs.proofs.first_objects.laid_cells.Given as goal

abbrev pub invariant-loop-k : goal.invariant-loop-k
invariant-loop-k l = record {
  size : length l.cells.items ≡ l.k;
  each : (j : ℕ) → j < l.k → slice_get l.cells.items j ≡ Some (machine.first_or_zero (drop j l.values));
}
