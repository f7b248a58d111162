use Rattle.std.proofs.Common.{◌≡◌, length}
use Rattle.frames_leaf.proofs.functions.homes_in.Given as goal

abbrev pub invariant-loop-word : goal.invariant-loop-word
invariant-loop-word l = record {
  counted : length l.homes.items ≡ l.word;
}
