use Rattle.std.proofs.Common.{◌≡◌, ◌++◌, drop}
use Rattle.std.specs.List.{flat_map}
use Rattle.macros.specs.Operators.{escaped}
use Rattle.macros.proofs.operators.push_literal.Given as goal

abbrev pub invariant-loop-byte : goal.invariant-loop-byte
invariant-loop-byte l = l.text.items ++ flat_map escaped (drop l.byte-index l.literal) ≡ l.fn.text.items ++ flat_map escaped l.literal
