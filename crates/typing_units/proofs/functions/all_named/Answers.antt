use Rattle.std.proofs.Common.{map, arith}
use Rattle.tree.specs.View.{parameter_of}
use Rattle.typing_units.proofs.Readings.{naming_begun, naming_more, naming_stops, naming_ended}
use Rattle.typing_units.proofs.functions.all_named.Goals as goal

pub loop-parameter-init : goal.loop-parameter-init
loop-parameter-init c = naming_begun (map parameter_of c.args.parameters.now)

pub loop-parameter-preserved : goal.loop-parameter-preserved
loop-parameter-preserved c =
    naming_more (map parameter_of c.args.parameters.now) c.args.parameters.now c.loop-parameter.parameter-index c.parameter-item.result c.loop-parameter-test.true c.parameter-item.is c.loop-parameter.invariant c.in-Ok.ensures.ok

pub returns-in-Err-clause-err : goal.returns-in-Err-clause-err
returns-in-Err-clause-err c =
    naming_stops (map parameter_of c.args.parameters.now) c.args.parameters.now c.loop-parameter.parameter-index c.parameter-item.result c.in-Err.refusal c.loop-parameter-test.true c.parameter-item.is c.loop-parameter.invariant c.in-Err.ensures.err

pub returns-clause-ok : goal.returns-clause-ok
returns-clause-ok c = naming_ended (map parameter_of c.args.parameters.now) c.args.parameters.now c.loop-parameter.parameter-index (omega (arith, c.loop-parameter-test.false)) c.loop-parameter.invariant
