use Rattle.std.proofs.Common.{◌≡◌, ◌&&◌, drop}
use Rattle.phases.specs.Grammar.{continues}
use Rattle.phases.proofs.kinds.continues.Given as goal

abbrev pub invariant-loop-byte : goal.invariant-loop-byte
invariant-loop-byte l = continues l.first l.bytes ≡ l.all && continues l.last (drop l.byte-index l.bytes)
