use Rattle.std.proofs.Common.{take}
use Rattle.verify_logic.specs.States.{EachEntails}
use Rattle.verify_expressions.proofs.objects.each_entails.Given as goal

abbrev pub invariant-loop-i : goal.invariant-loop-i
invariant-loop-i l = EachEntails (take l.i l.xs) (take l.i l.ys)
