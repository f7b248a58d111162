use Rattle.std.proofs.Common.{arith}
use Rattle.decls_initialisers.proofs.Strings.{one_less, none_left}
use Rattle.decls_initialisers.proofs.literals.+literals.Goals as goal

pub all_past-loop-part-preserved : goal.all_past-loop-part-preserved
all_past-loop-part-preserved t c =
    one_less c.args.scope.now c.loop-part.scope c.past_init.new.scope c.args.parts.now c.loop-part.part-index c.part-item.result c.loop-part-test.true c.part-item.is c.loop-part.invariant c.in-Ok.ensures.ok

pub all_past-returns-clause-ok : goal.all_past-returns-clause-ok
all_past-returns-clause-ok t c = none_left c.args.scope.now c.loop-part.scope c.args.parts.now c.loop-part.part-index (omega (arith, c.loop-part-test.false)) c.loop-part.invariant
