use Rattle.std.proofs.Common.{◌≡◌, drop}
use Rattle.std.specs.List.{list_all}
use Rattle.frames_hoist.specs.layer.Hoisting as hoisting
use Rattle.frames_hoist.proofs.tests.all_fine.Given as goal

abbrev pub invariant-loop-instruction : goal.invariant-loop-instruction
invariant-loop-instruction l = list_all (hoisting.is_fine l.home l.start) (drop l.instruction-index l.code) ≡ list_all (hoisting.is_fine l.home l.start) l.code
