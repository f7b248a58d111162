use Rattle.std.proofs.Common.{◌≡◌, map, take}
use Rattle.tree.specs.Capped.{capped}
use Rattle.tree.specs.Counts.{unit_nodes}
use Rattle.tree.specs.View.{external_of}
use Rattle.tree.proofs.node_counts.externals_nodes.Given as goal

abbrev pub invariant-loop-external : goal.invariant-loop-external
invariant-loop-external l = l.total ≡ capped (unit_nodes (map external_of (take l.external-index l.externals)))
