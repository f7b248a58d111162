use Rattle.std.proofs.Common.{◌≡◌, ◌&&◌, drop}
use Rattle.phases.specs.Grammar.{all_word}
use Rattle.phases.proofs.kinds.all_word.Given as goal

abbrev pub invariant-loop-byte : goal.invariant-loop-byte
invariant-loop-byte l = all_word l.bytes ≡ l.all && all_word (drop l.byte-index l.bytes)
