use Rattle.std.proofs.Common.{◌≡◌, ◌++◌, drop}
use Rattle.frames.specs.Data.{bytes_of_values}
use Rattle.frames.proofs.statics.put_values.Given as goal

abbrev pub invariant-loop-value : goal.invariant-loop-value
invariant-loop-value l = l.bytes.items ++ bytes_of_values l.element (drop l.value-index l.values) ≡ l.initial.bytes.items ++ bytes_of_values l.element l.values
