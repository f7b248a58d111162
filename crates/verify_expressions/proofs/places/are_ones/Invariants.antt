use Rattle.std.proofs.Common.{take}
use Rattle.verify_expressions.specs.Parts.{OneElement}
use Rattle.verify_expressions.proofs.places.are_ones.Given as goal

abbrev pub invariant-loop-n : goal.invariant-loop-n
invariant-loop-n l = OneElement (take l.n l.lengths)
