use Rattle.tree.specs.View.{parameter_of}
use Rattle.decls_declarators.proofs.ParameterRules.{object_base}
use Rattle.decls_declarators.proofs.parameter_objects.parameter_object.Goals as goal

pub returns-in-Err-clause-err : goal.returns-in-Err-clause-err
returns-in-Err-clause-err c = object_base c.args.names.now c.args.scope.now (parameter_of c.args.parameter.now) c.in-Err.refusal c.in-Err.ensures.err
