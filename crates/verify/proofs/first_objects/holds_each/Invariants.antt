use Rattle.std.proofs.Common.{take}
use Rattle.verify_logic.specs.Calls.{EachIn}
use Rattle.verify.proofs.first_objects.holds_each.Given as goal

abbrev pub invariant-loop-n : goal.invariant-loop-n
invariant-loop-n l = EachIn l.i (take l.n l.values)
