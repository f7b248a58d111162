use Rattle.std.proofs.Common.{refl, map}
use Rattle.tree.specs.View.{parameter_of}
use Rattle.typed_ast.specs.View.{parameter_type_of}
use Rattle.decls_declarators.proofs.parameter_lists.function_type.Goals as goal

pub returns-in-Ok-clause-ok : goal.returns-in-Ok-clause-ok
returns-in-Ok-clause-ok c = (
  _,
  c.in-Ok.ensures.ok,
  refl,
  c.behind_parameters.ensures c.args.names.now c.args.scope.now (map parameter_of c.args.parameters.now) (map parameter_type_of c.in-Ok.entered.types.items) c.in-Ok.ensures.ok c.in-Ok.ensures.before.0 c.in-Ok.ensures.before.1,
)
