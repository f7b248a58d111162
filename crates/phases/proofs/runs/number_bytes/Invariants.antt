use Rattle.std.proofs.Common.{◌≡◌, ◌+◌, drop}
use Rattle.phases.specs.inside.Lexical.{number_more}
use Rattle.phases.proofs.runs.number_bytes.Given as goal

abbrev pub invariant-loop-byte : goal.invariant-loop-byte
invariant-loop-byte l =
    (l.count ≡ l.byte-index) × (number_more l.first l.bytes ≡ l.count + number_more l.last (drop l.byte-index l.bytes))
