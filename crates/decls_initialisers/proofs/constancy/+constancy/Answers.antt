use Rattle.std.proofs.Common.{arith}
use Rattle.decls_initialisers.specs.Views.{wanted_of}
use Rattle.decls_initialisers.proofs.ConstantParts.{one_less, none_left}
use Rattle.decls_initialisers.proofs.constancy.+constancy.Goals as goal

pub all_constant-loop-part-preserved : goal.all_constant-loop-part-preserved
all_constant-loop-part-preserved t c = one_less c.args.scope.now c.args.element (wanted_of c.args.wanted) c.args.parts.now c.loop-part.part-index c.part-item.result c.loop-part-test.true c.part-item.is c.loop-part.invariant c.in-Ok.ensures.ok

pub all_constant-returns-clause-ok : goal.all_constant-returns-clause-ok
all_constant-returns-clause-ok t c = none_left c.args.scope.now c.args.element (wanted_of c.args.wanted) c.args.parts.now c.loop-part.part-index (omega (arith, c.loop-part-test.false)) c.loop-part.invariant
