use Rattle.std.proofs.Common.{take, map, ◌++◌}
use Rattle.typed_ast.specs.View.{static_of}
use Rattle.csem.specs.Store.{literal_object, static_object}
use Rattle.verify.specs.Says.{FirstAre, texts_of}
use Rattle.verify.proofs.first_objects.statics.Given as goal

abbrev pub invariant-loop-n : goal.invariant-loop-n
invariant-loop-n l = FirstAre l.current (map literal_object (texts_of l.texts) ++ map static_object (map static_of (take l.n l.objects)))
