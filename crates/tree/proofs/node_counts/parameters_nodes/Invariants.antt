use Rattle.std.proofs.Common.{◌≡◌, map, take}
use Rattle.tree.specs.Capped.{capped}
use Rattle.tree.specs.Counts.{parameters_nodes}
use Rattle.tree.specs.View.{parameter_of}
use Rattle.tree.proofs.node_counts.parameters_nodes.Given as goal

abbrev pub invariant-loop-parameter : goal.invariant-loop-parameter
invariant-loop-parameter l = l.total ≡ capped (parameters_nodes (map parameter_of (take l.parameter-index l.parameters)))
