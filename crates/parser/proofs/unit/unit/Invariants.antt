use Rattle.std.proofs.Common.{map, length}
use Rattle.tree.specs.View.{external_of}
use Rattle.parser.proofs.UnitLoop.{Going}
use Rattle.parser.proofs.unit.unit.Given as goal

abbrev pub invariant-loop-rest : goal.invariant-loop-rest
invariant-loop-rest l = Going l.tokens (map external_of l.externals.items) l.nodes l.rest

abbrev pub decreases-loop-rest : goal.decreases-loop-rest
decreases-loop-rest l = length l.rest
