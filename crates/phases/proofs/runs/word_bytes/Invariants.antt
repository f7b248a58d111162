use Rattle.std.proofs.Common.{◌≡◌, ◌+◌, drop}
use Rattle.phases.specs.inside.Lexical.{word_len}
use Rattle.phases.proofs.runs.word_bytes.Given as goal

abbrev pub invariant-loop-byte : goal.invariant-loop-byte
invariant-loop-byte l =
    (l.count ≡ l.byte-index) × (word_len l.bytes ≡ l.count + word_len (drop l.byte-index l.bytes))
