use Rattle.const_expr.specs.Typings.{base_type_of}
use Rattle.decls_specifiers.proofs.Lists.{plain_fine}
use Rattle.decls_specifiers.proofs.plain_specifiers.plain_type.Goals as goal

pub returns-in-Ok-clause-ok : goal.returns-in-Ok-clause-ok
returns-in-Ok-clause-ok c = λ t. plain_fine t c.args.scope.now c.args.specifiers.now.pos c.args.specifiers.now.list.items (base_type_of c.in-Ok.base) c.in-Ok.ensures.ok
