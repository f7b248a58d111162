use Rattle.std.proofs.Common.{length}
use Rattle.verify_stack.specs.Usages.{EachFits}
use Rattle.verify_stack.proofs.usages.each_fits.Given as goal

abbrev pub invariant-loop-f : goal.invariant-loop-f
invariant-loop-f l = EachFits l.usages l.room l.rest → EachFits l.usages l.room l.initial.rest

abbrev pub decreases-loop-f : goal.decreases-loop-f
decreases-loop-f l = length l.rest
