use Rattle.std.proofs.Common.{◌≡◌, ◌+◌, ◌<◌, ◌≤◌, ◌⊎◌, ℕ, length, Some, pos}
use Rattle.std.specs.Prelude.{slice_get}
use Rattle.interp_store.proofs.grid.clear_numbers.Given as goal

abbrev pub invariant-loop-j : goal.invariant-loop-j
invariant-loop-j l = record {
  size : length l.numbers.items ≡ length l.initial.numbers.items;
  inside : (i : ℕ) → i < l.j → slice_get l.numbers.items (l.first + i) ≡ Some (pos 0);
  outside : (i : ℕ) → (i < l.first) ⊎ (l.first + l.count ≤ i) → slice_get l.numbers.items i ≡ slice_get l.initial.numbers.items i;
}
