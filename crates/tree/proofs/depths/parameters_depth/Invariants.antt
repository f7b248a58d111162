use Rattle.std.proofs.Common.{◌≡◌, map, take}
use Rattle.tree.specs.Capped.{capped32}
use Rattle.tree.specs.Counts.{parameters_depth}
use Rattle.tree.specs.View.{parameter_of}
use Rattle.tree.proofs.depths.parameters_depth.Given as goal

abbrev pub invariant-loop-parameter : goal.invariant-loop-parameter
invariant-loop-parameter l = l.deepest ≡ capped32 (parameters_depth (map parameter_of (take l.parameter-index l.parameters)))
