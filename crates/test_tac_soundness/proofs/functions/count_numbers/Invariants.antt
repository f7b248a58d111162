use Rattle.std.proofs.Common.{◌≡◌, ◌+◌, ◌≤◌, drop}
use Rattle.tac_code.specs.Sound.{number_parameters}
use Rattle.test_tac_soundness.proofs.functions.count_numbers.Given as goal

abbrev pub invariant-loop-parameter : goal.invariant-loop-parameter
invariant-loop-parameter l = record {
  counted : l.count + number_parameters (drop l.parameter-index l.parameters) ≡ number_parameters l.parameters;
  few : l.count ≤ l.parameter-index;
}
