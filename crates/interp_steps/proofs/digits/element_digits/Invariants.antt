use Rattle.std.proofs.Common.{◌≡◌, ◌*◌, drop}
use Rattle.typing_spec.specs.Types.{elements_in}
use Rattle.interp_store.specs.layer.Digits.{number_of}
use Rattle.interp_steps.proofs.digits.element_digits.Given as goal

abbrev pub invariant-loop-n : goal.invariant-loop-n
invariant-loop-n l = number_of l.digits.items * elements_in (drop l.n-index l.lengths) ≡ l.fn.count * elements_in l.lengths
