use Rattle.std.proofs.Common.{arith, refl}
use Rattle.typing.proofs.Names.{begun, next, ended, ended_early}
use Rattle.typing.proofs.parameter_names.parameters_again.Goals as goal

pub loop-parameter-init : goal.loop-parameter-init
loop-parameter-init c = begun c.args.scope.now c.args.parameters.now c.args.types.now c.args.own.now

pub loop-parameter-preserved : goal.loop-parameter-preserved
loop-parameter-preserved c =
    next c.args.scope.now c.loop-parameter.scope c.parameter_again.new.scope c.args.parameters.now c.args.types.now c.args.own.now c.loop-parameter.parameter-index c.loop-parameter.place _ c.loop-parameter.references c.parameter_again.new.references
    c.loop-parameter.numbers c.parameter_again.new.numbers c.parameter-item.result _ c.loop-parameter-test.true c.parameter-item.is (omega (arith, c.if-place-types.false)) c.index-types-place.is c.in-Ok.ensures.ok c.in-Ok.ensures.references c.in-Ok.ensures.numbers refl c.loop-parameter.invariant

pub returns-clause-ok : goal.returns-clause-ok
returns-clause-ok c =
    ended c.args.scope.now c.loop-parameter.scope c.args.parameters.now c.args.types.now c.args.own.now c.loop-parameter.parameter-index c.loop-parameter.place c.loop-parameter.references c.loop-parameter.numbers (omega (arith, c.loop-parameter-test.false)) c.loop-parameter.invariant

pub returns-then-place-types-clause-ok : goal.returns-then-place-types-clause-ok
returns-then-place-types-clause-ok c =
    ended_early c.args.scope.now c.loop-parameter.scope c.args.parameters.now c.args.types.now c.args.own.now c.loop-parameter.parameter-index c.loop-parameter.place c.loop-parameter.references c.loop-parameter.numbers (omega (arith, c.if-place-types.true)) c.loop-parameter.invariant
