use Rattle.std.proofs.Common.{◌≡◌}
use Rattle.cc_backend.proofs.homes.program_homes.Given as goal

abbrev pub invariant-loop-function : goal.invariant-loop-function
invariant-loop-function l = record {
  at : l.number ≡ l.function-index;
}
