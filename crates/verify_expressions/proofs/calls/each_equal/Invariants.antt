use Rattle.std.proofs.Common.{◌≡◌, take}
use Rattle.verify_expressions.proofs.calls.each_equal.Given as goal

abbrev pub invariant-loop-n : goal.invariant-loop-n
invariant-loop-n l = take l.n l.xs ≡ take l.n l.ys
