use Rattle.std.proofs.Common.{arith}
use Rattle.const_expr.proofs.Listed.{known_next, known_stops, known_all}
use Rattle.const_expr.proofs.specifiers.tags_known.Goals as goal

pub loop-specifier-preserved : goal.loop-specifier-preserved
loop-specifier-preserved c = known_next c.args.scope.now c.args.pos c.args.specifiers.now c.loop-specifier.specifier-index _ c.loop-specifier-test.true c.loop-specifier.invariant c.in-Ok.ensures.ok

pub returns-in-Err-clause-err : goal.returns-in-Err-clause-err
returns-in-Err-clause-err c = known_stops c.in-Err.refusal c.args.scope.now c.args.pos c.args.specifiers.now c.loop-specifier.specifier-index _ c.loop-specifier-test.true c.loop-specifier.invariant c.in-Err.ensures.err

pub returns-clause-ok : goal.returns-clause-ok
returns-clause-ok c = known_all c.args.scope.now c.args.pos c.args.specifiers.now c.loop-specifier.specifier-index (omega (arith, c.loop-specifier-test.false)) c.loop-specifier.invariant
