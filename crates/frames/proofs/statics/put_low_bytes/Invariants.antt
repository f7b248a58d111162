use Rattle.std.proofs.Common.{◌≡◌, ◌-◌, ◌++◌}
use Rattle.frames.specs.Data.{low_bytes}
use Rattle.frames.proofs.statics.put_low_bytes.Given as goal

abbrev pub invariant-loop : goal.invariant-loop
invariant-loop l = l.bytes.items ++ low_bytes (l.count - l.counter) l.rest ≡ l.initial.bytes.items ++ low_bytes l.count l.word
