use Rattle.std.proofs.Common.{◌≡◌, ◌<◌, ◌+◌, ℕ, length}
use Rattle.std.specs.Prelude.{slice_index}
use Rattle.rv32.specs.Space.{space_of}
use Rattle.machine_kept.specs.Standing.{shown_byte}
use Rattle.machine_kept.proofs.stepping.show.Given as goal

abbrev pub invariant-loop-i : goal.invariant-loop-i
invariant-loop-i l = record {
  same : length l.window ≡ length l.initial.window;
  shown : (k : ℕ) → k < l.i → slice_index l.window k ≡ shown_byte (space_of l.memory.segments.items) (l.from + k);
}
