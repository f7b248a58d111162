use Rattle.std.proofs.Common.{◌≡◌, ◌++◌, length, map}
use Rattle.typed_ast.specs.View.{object_type_of}
use Rattle.csem.specs.Store.{indeterminate}
use Rattle.interp_store.specs.View.{store_of}
use Rattle.interp_transitions.proofs.calls.push_objects.Given as goal

abbrev pub decreases-loop-ty : goal.decreases-loop-ty
decreases-loop-ty l = length l.rest

abbrev pub invariant-loop-ty : goal.invariant-loop-ty
invariant-loop-ty l = store_of l.store ++ map indeterminate (map object_type_of l.rest) ≡ store_of l.initial.store ++ map indeterminate (map object_type_of l.types)
