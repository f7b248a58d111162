use Rattle.std.proofs.Common.{◌≡◌, map, take}
use Rattle.tree.specs.Capped.{capped}
use Rattle.tree.specs.Counts.{enumerators_nodes}
use Rattle.tree.specs.View.{enumerator_of}
use Rattle.tree.proofs.node_counts.enumerators_nodes.Given as goal

abbrev pub invariant-loop-enumerator : goal.invariant-loop-enumerator
invariant-loop-enumerator l = l.total ≡ capped (enumerators_nodes (map enumerator_of (take l.enumerator-index l.enumerators)))
