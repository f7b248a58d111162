use Rattle.std.proofs.Common.{ap, map}
use Rattle.tree.specs.View.{parameter_of, item_of}
use Rattle.const_expr.specs.Typings.{base_type_of}
use Rattle.typing_scopes.specs.Scopes.{with_texts}
use Rattle.decls_linkage.specs.Views.{class_of}
use Rattle.typing_declarations.proofs.Items.{function_left, function_refused}
use Rattle.typing_declarations.proofs.typed_items.item_declared.Goals as goal

pub returns-in-Ok-clause-ok : goal.returns-in-Ok-clause-ok
returns-in-Ok-clause-ok c =
    function_left (with_texts c.args.names.now c.args.scope.now) (with_texts c.args.names.now c.function_at.new.scope) (class_of c.args.class) (base_type_of c.args.base) (item_of c.args.item.now) c.in-Function.declarator.pos
    c.in-Function.declarator.name (map parameter_of c.in-Function.declarator.parameters.items) c.args.statements.now.items c.args.firsts.now.items (ap item_of c.in-Function.is) c.in-Ok.ensures.ok

pub returns-in-Err-clause-err : goal.returns-in-Err-clause-err
returns-in-Err-clause-err c =
    function_refused c.in-Err.refusal (with_texts c.args.names.now c.args.scope.now) (class_of c.args.class) (base_type_of c.args.base) (item_of c.args.item.now) c.in-Function.declarator.pos c.in-Function.declarator.name
    (map parameter_of c.in-Function.declarator.parameters.items) (ap item_of c.in-Function.is) c.in-Err.ensures.err
