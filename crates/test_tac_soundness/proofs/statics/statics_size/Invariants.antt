use Rattle.std.proofs.Common.{◌≡◌, ◌≤◌, ◌+◌, drop, map, min}
use Rattle.typed_ast.specs.View.{static_of}
use Rattle.frames.specs.Sizes.{statics_bytes}
use Rattle.test_tac_soundness.proofs.statics.statics_size.Given as goal

abbrev pub invariant-loop-object : goal.invariant-loop-object
invariant-loop-object l = record {
  counted : min (l.total + statics_bytes (map static_of (drop l.object-index l.statics))) 16777217 ≡ min (statics_bytes (map static_of l.statics)) 16777217;
  few : l.total ≤ 16777217;
}
