use Rattle.std.proofs.Common.{◌≡◌, ◌+◌, ◌≤◌, drop}
use Rattle.tac_code.specs.Costs.{array_parameters}
use Rattle.test_tac_soundness.proofs.instructions.count_arrays.Given as goal

abbrev pub invariant-loop-parameter : goal.invariant-loop-parameter
invariant-loop-parameter l = record {
  counted : l.count + array_parameters (drop l.parameter-index l.parameters) ≡ array_parameters l.parameters;
  few : l.count ≤ l.parameter-index;
}
