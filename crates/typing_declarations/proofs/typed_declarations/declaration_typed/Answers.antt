use Rattle.std.proofs.Common.{ap}
use Rattle.tree.specs.View.{tree_of, declaration_of}
use Rattle.typing_scopes.specs.Scopes.{with_texts}
use Rattle.typing_declarations.proofs.Items.{assertion_left}
use Rattle.typing_declarations.proofs.typed_declarations.declaration_typed.Goals as goal

pub returns-in-Ok-clause-ok : goal.returns-in-Ok-clause-ok
returns-in-Ok-clause-ok c =
    assertion_left (with_texts c.args.names.now c.args.scope.now) (with_texts c.args.names.now c.asserted.new.scope) (declaration_of c.args.declaration.now) c.in-Assertion.pos (tree_of c.in-Assertion.condition)
    c.in-Assertion.field-2 c.args.statements.now.items c.args.initial.now.items (ap declaration_of c.in-Assertion.is) c.in-Ok.ensures.ok
