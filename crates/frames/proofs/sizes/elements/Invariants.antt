use Rattle.std.proofs.Common.{◌≡◌, ◌-◌, ◌^◌, take}
use Rattle.std.specs.Prelude.{min}
use Rattle.typing_spec.specs.Types.{elements_in}
use Rattle.frames.proofs.sizes.elements.Given as goal

abbrev pub invariant-loop-length : goal.invariant-loop-length
invariant-loop-length l = l.count ≡ min (elements_in (take l.length-index l.lengths)) (2 ^ 64 - 1)
