use Rattle.std.proofs.Common.{◌≡◌, take}
use Rattle.verify_expressions.specs.Views.{shapes_at, shapes_in}
use Rattle.verify_expressions.proofs.calls.each_same.Given as goal

abbrev pub invariant-loop-n : goal.invariant-loop-n
invariant-loop-n l = take l.n (shapes_in l.xs) ≡ take l.n (shapes_at l.outer l.objects)
