use Rattle.std.proofs.Common.{◌≡◌, map, take}
use Rattle.tree.specs.Capped.{capped}
use Rattle.tree.specs.Counts.{specifiers_nodes}
use Rattle.tree.specs.View.{specifier_of}
use Rattle.tree.proofs.node_counts.specifiers_nodes.Given as goal

abbrev pub invariant-loop-specifier : goal.invariant-loop-specifier
invariant-loop-specifier l = l.total ≡ capped (specifiers_nodes (map specifier_of (take l.specifier-index l.specifiers)))
