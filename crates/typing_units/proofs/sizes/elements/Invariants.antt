use Rattle.std.proofs.Common.{◌≡◌, take}
use Rattle.tree.specs.Capped.{capped32}
use Rattle.typing_spec.specs.Types.{elements_in}
use Rattle.typing_units.proofs.sizes.elements.Given as goal

abbrev pub invariant-loop-length : goal.invariant-loop-length
invariant-loop-length l = l.count ≡ capped32 (elements_in (take l.length-index l.lengths))
