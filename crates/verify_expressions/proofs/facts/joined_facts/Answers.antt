use Rattle.std.proofs.Common.{pos}
use Rattle.verify_expressions.proofs.Elements.{implied_begin, first_joined, second_joined}
use Rattle.verify_expressions.proofs.facts.joined_facts.Goals as goal

pub loop-n-init : goal.loop-n-init
loop-n-init c = record { first = implied_begin _ _ c.new-out.ensures.items; second = implied_begin _ _ c.new-out.ensures.items }

pub loop-n-preserved : goal.loop-n-preserved
loop-n-preserved c = record { first = first_joined _ _ _ _ _ _ c.loop-n-test.true c.hull-interval.ensures.first c.loop-n.invariant.first c.in-Ok.ensures.items; second = second_joined c.args.xs.now _ _ _ c.loop-n.n (record { object = 0; index = 0; interval = record { low = pos 0; high = pos 0 } }) _ _ c.in-Some.ensures c.hull-interval.ensures.second c.loop-n.invariant.second c.in-Ok.ensures.items }
