use Rattle.std.proofs.Common.{◌≡◌, map, take}
use Rattle.tree.specs.Capped.{capped}
use Rattle.tree.specs.Counts.{inits_nodes}
use Rattle.tree.specs.View.{inits_of, init_of}
use Rattle.tree.proofs.+initialiser_nodes.Given as goal

abbrev pub invariant-node_counts::initialisers_nodes-loop-initialiser : goal.invariant-node_counts::initialisers_nodes-loop-initialiser
invariant-node_counts::initialisers_nodes-loop-initialiser l = l.total ≡ capped (inits_nodes (inits_of (map init_of (take l.initialiser-index l.initialisers))))
