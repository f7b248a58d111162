use Rattle.std.proofs.Common.{◌≡◌, ◌++◌, take, map}
use Rattle.pp.specs.Phase4.{printable}
use Rattle.pp.proofs.error_directive.put_printable.Given as goal

abbrev pub invariant-loop-byte : goal.invariant-loop-byte
invariant-loop-byte l = l.text.items ≡ l.initial.text.items ++ map printable (take l.byte-index l.bytes)
