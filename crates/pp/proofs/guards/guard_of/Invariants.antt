use Rattle.pp.specs.inside.Guards.{PassesTo}
use Rattle.pp.proofs.guards.guard_of.Given as goal

abbrev pub invariant-loop-index : goal.invariant-loop-index
invariant-loop-index l = PassesTo l.guard l.lines l.index l.conditionals
