use Rattle.std.proofs.Common.{◌≡◌, ℕ, ◌<◌, length, Some, slice_get}
use Rattle.macros_substitution.proofs.ReadingLaws.{use_held}
use Rattle.macros_substitution.proofs.reading.uses.Given as goal

abbrev pub invariant-loop-index : goal.invariant-loop-index
invariant-loop-index l = record {
  count : length l.found.items ≡ l.index;
  each : (i : ℕ) → i < l.index → slice_get l.found.items i ≡ Some (use_held i l.pieces);
}
