use Rattle.std.proofs.Common.{◌≡◌, ◌++◌, length, map, ℕ, Vec, Global}
use Rattle.csem.specs.Store as machine
use Rattle.interp_store.specs.View.{store_of}
use Rattle.cabs.proofs.first_objects.push_literals.Given as goal

abbrev pub decreases-loop-text : goal.decreases-loop-text
decreases-loop-text l = length l.rest

abbrev pub invariant-loop-text : goal.invariant-loop-text
invariant-loop-text l = store_of l.store ++ map machine.literal_object (map (λ (text : Vec ℕ Global). text.items) l.rest) ≡ store_of l.initial.store ++ map machine.literal_object (map (λ (text : Vec ℕ Global). text.items) l.literals)
