use Rattle.std.proofs.Common.{◌≡◌, ◌++◌, length, map}
use Rattle.csem.specs.Meaning.{arrays_of}
use Rattle.interp_store.specs.View.{reference_of}
use Rattle.interp_store.specs.layer.Views.{passed_of}
use Rattle.interp_transitions.proofs.calls.arrays_of.Given as goal

abbrev pub decreases-loop-one : goal.decreases-loop-one
decreases-loop-one l = length l.rest

abbrev pub invariant-loop-one : goal.invariant-loop-one
invariant-loop-one l = map reference_of l.arrays.items ++ arrays_of (map passed_of l.rest) ≡ arrays_of (map passed_of l.passed)
