use Rattle.std.proofs.Common.{◌≡◌, ◌+◌, ◌<◌, ◌≤◌, ◌⊎◌, ℕ, length, false}
use Rattle.std.specs.Prelude.{slice_index_or}
use Rattle.interp_store.proofs.grid.clear_marks.Given as goal

abbrev pub invariant-loop-j : goal.invariant-loop-j
invariant-loop-j l = record {
  size : length l.marks.items ≡ length l.initial.marks.items;
  inside : (i : ℕ) → l.first ≤ i → i < l.j → slice_index_or l.marks.items i false ≡ false;
  outside : (i : ℕ) → (i < l.first) ⊎ (l.first + l.count ≤ i) → slice_index_or l.marks.items i false ≡ slice_index_or l.initial.marks.items i false;
}
