use Rattle.std.proofs.Common.{◌≡◌, drop}
use Rattle.typing_spec.specs.WellTyped.{values_fit}
use Rattle.test_tac_soundness.proofs.statics.are_values.Given as goal

abbrev pub invariant-loop-value : goal.invariant-loop-value
invariant-loop-value l = values_fit l.element (drop l.value-index l.values) ≡ values_fit l.element l.values
