use Rattle.std.proofs.Common.{◌≡◌, ◌≤◌, ◌+◌, drop}
use Rattle.phases.specs.Text.{line_after}
use Rattle.phases.proofs.lines.line_behind.Given as goal

abbrev pub invariant-loop-byte : goal.invariant-loop-byte
invariant-loop-byte l =
    (l.line ≤ l.byte-index + 1) × (line_after l.line (drop l.byte-index l.bytes) ≡ line_after 1 l.bytes)
