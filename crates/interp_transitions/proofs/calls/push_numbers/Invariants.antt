use Rattle.std.proofs.Common.{◌≡◌, ◌++◌, length, map}
use Rattle.csem.specs.Meaning.{numbers_of}
use Rattle.interp_store.specs.View.{store_of}
use Rattle.interp_store.specs.layer.Views.{passed_of}
use Rattle.interp_transitions.proofs.calls.push_numbers.Given as goal

abbrev pub decreases-loop-one : goal.decreases-loop-one
decreases-loop-one l = length l.rest

abbrev pub invariant-loop-one : goal.invariant-loop-one
invariant-loop-one l = store_of l.store ++ numbers_of (map passed_of l.rest) ≡ store_of l.initial.store ++ numbers_of (map passed_of l.passed)
