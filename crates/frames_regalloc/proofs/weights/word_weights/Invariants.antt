use Rattle.std.proofs.Common.{◌≡◌, length}
use Rattle.frames_regalloc.proofs.weights.word_weights.Given as goal

abbrev pub invariant-loop-instruction : goal.invariant-loop-instruction
invariant-loop-instruction l = length l.weights.items ≡ l.function.cells
