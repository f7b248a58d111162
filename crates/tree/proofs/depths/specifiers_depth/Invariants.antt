use Rattle.std.proofs.Common.{◌≡◌, map, take}
use Rattle.tree.specs.Capped.{capped32}
use Rattle.tree.specs.Counts.{specifiers_depth}
use Rattle.tree.specs.View.{specifier_of}
use Rattle.tree.proofs.depths.specifiers_depth.Given as goal

abbrev pub invariant-loop-specifier : goal.invariant-loop-specifier
invariant-loop-specifier l = l.deepest ≡ capped32 (specifiers_depth (map specifier_of (take l.specifier-index l.specifiers)))
