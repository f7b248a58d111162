use Rattle.pp.specs.inside.Stepping.{Resolves}
use Rattle.pp.proofs.conditions.resolved.Given as goal

abbrev pub invariant-loop-index : goal.invariant-loop-index
invariant-loop-index l = Resolves l.names l.state l.tokens l.list.items l.skip l.index
