use Rattle.std.proofs.Common.{◌≡◌, ◌+◌, drop}
use Rattle.phases.specs.inside.Runs.{ordinary_len}
use Rattle.phases.proofs.runs.ordinary_front.Given as goal

abbrev pub invariant-loop-byte : goal.invariant-loop-byte
invariant-loop-byte l =
    (l.count ≡ l.byte-index) × (ordinary_len l.stop l.bytes ≡ l.count + ordinary_len l.stop (drop l.byte-index l.bytes))
