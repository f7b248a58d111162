use Rattle.std.proofs.Common.{◌≡◌, ◌+◌, ◌++◌, drop, map}
use Rattle.typed_ast.specs.View.{static_of}
use Rattle.frames.specs.Layout.{starts_from}
use Rattle.frames.specs.Sizes.{statics_bytes, static_sizes}
use Rattle.frames.proofs.starts.put_static_starts.Given as goal

abbrev pub invariant-loop-object : goal.invariant-loop-object
invariant-loop-object l = record {
  counted : l.start + statics_bytes (map static_of (drop l.object-index l.statics)) ≡ l.first + statics_bytes (map static_of l.statics);
  done : l.starts.items ++ starts_from l.start (static_sizes (map static_of (drop l.object-index l.statics))) ≡ l.initial.starts.items ++ starts_from l.first (static_sizes (map static_of l.statics));
}
