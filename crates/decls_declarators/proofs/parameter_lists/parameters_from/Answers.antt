use Rattle.std.proofs.Common.{arith}
use Rattle.decls_declarators.proofs.Parameters.{begun, step, few, stops, ended}
use Rattle.decls_declarators.proofs.parameter_lists.parameters_from.Goals as goal

pub loop-parameter-init : goal.loop-parameter-init
loop-parameter-init c = record {
  few = omega arith;
  left = begun c.args.names.now c.args.scope.now c.args.parameters.now c.new-types.result.items c.new-types.ensures.items;
}

pub loop-parameter-preserved : goal.loop-parameter-preserved
loop-parameter-preserved c = record {
  few = few c.loop-parameter.references c.enter.new.references c.loop-parameter.parameter-index c.in-Ok.ensures.ok.0 c.loop-parameter.invariant.few c.in-Ok.ensures.ok.3;
  left =
      step c.args.names.now c.args.scope.now c.loop-parameter.scope c.enter.new.scope c.args.parameters.now c.loop-parameter.parameter-index c.parameter-item.result c.loop-parameter.types.items c.enter.new.types.items
      c.loop-parameter.references c.enter.new.references c.in-Ok.ensures.ok.0 c.loop-parameter-test.true c.parameter-item.is c.loop-parameter.invariant.left c.in-Ok.ensures.ok.1 c.in-Ok.ensures.ok.2 c.in-Ok.ensures.ok.3 c.in-Ok.ensures.ok.4;
}

pub returns-in-Err-clause-err : goal.returns-in-Err-clause-err
returns-in-Err-clause-err c =
    stops c.args.names.now c.args.scope.now c.loop-parameter.scope c.args.parameters.now c.loop-parameter.parameter-index c.parameter-item.result c.loop-parameter.types.items c.loop-parameter.references c.in-Err.refusal
    c.loop-parameter-test.true c.parameter-item.is c.loop-parameter.invariant.left c.in-Err.ensures.err

pub returns-clause-ok : goal.returns-clause-ok
returns-clause-ok c =
    ended c.args.names.now c.args.scope.now c.loop-parameter.scope c.args.parameters.now c.loop-parameter.parameter-index c.loop-parameter.types.items c.loop-parameter.references (omega (arith, c.loop-parameter-test.false)) c.loop-parameter.invariant.left
