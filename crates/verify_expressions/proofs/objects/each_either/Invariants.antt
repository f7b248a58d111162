use Rattle.std.proofs.Common.{take}
use Rattle.verify_logic.specs.States.{EachEntails}
use Rattle.verify_expressions.proofs.objects.each_either.Given as goal

abbrev pub invariant-loop-i : goal.invariant-loop-i
invariant-loop-i l = record { first : EachEntails (take l.i l.xs) l.out.items; second : EachEntails (take l.i l.ys) l.out.items }
