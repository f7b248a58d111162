use Rattle.std.proofs.Common.{◌≡◌, ◌++◌, length, map}
use Rattle.typed_ast.specs.View.{static_of}
use Rattle.csem.specs.Store as machine
use Rattle.interp_store.specs.View.{store_of}
use Rattle.cabs.proofs.first_objects.push_statics.Given as goal

abbrev pub decreases-loop-of : goal.decreases-loop-of
decreases-loop-of l = length l.rest

abbrev pub invariant-loop-of : goal.invariant-loop-of
invariant-loop-of l = store_of l.store ++ map machine.static_object (map static_of l.rest) ≡ store_of l.initial.store ++ map machine.static_object (map static_of l.statics)
