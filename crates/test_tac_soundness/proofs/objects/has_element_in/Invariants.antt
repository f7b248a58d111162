use Rattle.std.proofs.Common.{◌<◌, drop}
use Rattle.std.specs.Prelude.{◌↔◌}
use Rattle.typing_spec.specs.Types.{elements_in}
use Rattle.test_tac_soundness.proofs.objects.has_element_in.Given as goal

abbrev pub invariant-loop-length : goal.invariant-loop-length
invariant-loop-length l = (l.number < elements_in l.lengths) ↔ (l.rest < elements_in (drop l.length-index l.lengths))
