use Rattle.std.proofs.Common.{◌≡◌}
use Rattle.cc_backend.proofs.passes.functions_after.Given as goal

abbrev pub invariant-loop-function : goal.invariant-loop-function
invariant-loop-function l = l.number ≡ l.function-index
