use Rattle.std.proofs.Common.{◌≡◌, map, take}
use Rattle.tree.specs.Capped.{capped32}
use Rattle.typing_scopes.specs.Scopes.{static_of}
use Rattle.typing_spec.specs.Units.{bytes_of_statics}
use Rattle.typing_units.proofs.limits.bytes_of_statics.Given as goal

abbrev pub invariant-loop-object : goal.invariant-loop-object
invariant-loop-object l = l.total ≡ capped32 (bytes_of_statics (map static_of (take l.object-index l.statics)))
