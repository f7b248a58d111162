use Rattle.std.proofs.Common.{take, map}
use Rattle.csem.specs.Store.{literal_object}
use Rattle.verify.specs.Says.{FirstAre, texts_of}
use Rattle.verify.proofs.first_objects.literals.Given as goal

abbrev pub invariant-loop-n : goal.invariant-loop-n
invariant-loop-n l = FirstAre l.current (map literal_object (texts_of (take l.n l.texts)))
