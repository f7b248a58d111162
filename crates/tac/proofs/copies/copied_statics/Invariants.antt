use Rattle.std.proofs.Common.{◌≡◌, ◌++◌, map, drop}
use Rattle.typed_ast.specs.View.{static_of}
use Rattle.tac.proofs.copies.copied_statics.Given as goal

abbrev pub invariant-loop-object : goal.invariant-loop-object
invariant-loop-object l = map static_of l.copies.items ++ map static_of (drop l.object-index l.statics) ≡ map static_of l.statics
