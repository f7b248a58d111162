use Rattle.std.proofs.Common.{◌≡◌, map, take}
use Rattle.tree.specs.Capped.{capped32}
use Rattle.tree.specs.Counts.{unit_depth}
use Rattle.tree.specs.View.{external_of}
use Rattle.tree.proofs.depths.externals_depth.Given as goal

abbrev pub invariant-loop-external : goal.invariant-loop-external
invariant-loop-external l = l.deepest ≡ capped32 (unit_depth (map external_of (take l.external-index l.externals)))
