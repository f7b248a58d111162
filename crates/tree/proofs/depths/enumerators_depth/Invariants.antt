use Rattle.std.proofs.Common.{◌≡◌, map, take}
use Rattle.tree.specs.Capped.{capped32}
use Rattle.tree.specs.Counts.{enumerators_depth}
use Rattle.tree.specs.View.{enumerator_of}
use Rattle.tree.proofs.depths.enumerators_depth.Given as goal

abbrev pub invariant-loop-enumerator : goal.invariant-loop-enumerator
invariant-loop-enumerator l = l.deepest ≡ capped32 (enumerators_depth (map enumerator_of (take l.enumerator-index l.enumerators)))
