use Rattle.std.proofs.Common.{◌≡◌, ◌+◌, ◌++◌, drop, length, map}
use Rattle.typed_ast.specs.View.{static_of}
use Rattle.frames.specs.Data.{bytes_of_statics}
use Rattle.frames.specs.Sizes.{statics_bytes}
use Rattle.frames.proofs.statics.put_statics.Given as goal

abbrev pub invariant-loop-object : goal.invariant-loop-object
invariant-loop-object l = record {
  counted : length l.bytes.items + statics_bytes (map static_of (drop l.object-index l.statics)) ≡ length l.initial.bytes.items + statics_bytes (map static_of l.statics);
  done : l.bytes.items ++ bytes_of_statics (map static_of (drop l.object-index l.statics)) ≡ l.initial.bytes.items ++ bytes_of_statics (map static_of l.statics);
}
