use Rattle.std.proofs.Common.{◌≡◌, length}
use Rattle.frames_regalloc.proofs.functions.word_numbers.Given as goal

abbrev pub invariant-loop-word : goal.invariant-loop-word
invariant-loop-word l = record {
  counted : length l.numbers.items ≡ l.word;
}
