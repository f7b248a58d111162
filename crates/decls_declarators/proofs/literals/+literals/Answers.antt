use Rattle.std.proofs.Common.{arith}
use Rattle.decls_declarators.proofs.Strings.{one_less, none_left}
use Rattle.decls_declarators.proofs.literals.+literals.Goals as goal

pub all_past-loop-e-preserved : goal.all_past-loop-e-preserved
all_past-loop-e-preserved t c =
    one_less c.args.scope.now c.loop-e.scope c.past.new.scope c.args.es.now c.loop-e.e-index c.e-item.result c.loop-e-test.true c.e-item.is c.loop-e.invariant c.in-Ok.ensures.ok

pub all_past-returns-clause-ok : goal.all_past-returns-clause-ok
all_past-returns-clause-ok t c = none_left c.args.scope.now c.loop-e.scope c.args.es.now c.loop-e.e-index (omega (arith, c.loop-e-test.false)) c.loop-e.invariant
