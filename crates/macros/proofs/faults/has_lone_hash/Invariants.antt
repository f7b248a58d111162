use Rattle.std.proofs.Common.{◌≡◌, ◌||◌, drop, false}
use Rattle.macros.specs.inside.Faults.{lone_hash_after}
use Rattle.macros.proofs.faults.has_lone_hash.Given as goal

abbrev pub invariant-loop-x : goal.invariant-loop-x
invariant-loop-x l = lone_hash_after false l.body ≡ l.wrong || lone_hash_after l.pending (drop l.x-index l.body)
