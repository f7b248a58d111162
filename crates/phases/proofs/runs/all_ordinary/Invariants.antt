use Rattle.std.proofs.Common.{◌≡◌, ◌&&◌, drop}
use Rattle.phases.specs.inside.Runs.{all_ordinary}
use Rattle.phases.proofs.runs.all_ordinary.Given as goal

abbrev pub invariant-loop-byte : goal.invariant-loop-byte
invariant-loop-byte l = all_ordinary l.stop l.bytes ≡ l.all && all_ordinary l.stop (drop l.byte-index l.bytes)
