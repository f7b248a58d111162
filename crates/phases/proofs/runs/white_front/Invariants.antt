use Rattle.std.proofs.Common.{◌≡◌, ◌+◌, drop}
use Rattle.phases.specs.inside.Runs.{white_len}
use Rattle.phases.proofs.runs.white_front.Given as goal

abbrev pub invariant-loop-byte : goal.invariant-loop-byte
invariant-loop-byte l =
    (l.count ≡ l.byte-index) × (white_len l.bytes ≡ l.count + white_len (drop l.byte-index l.bytes))
