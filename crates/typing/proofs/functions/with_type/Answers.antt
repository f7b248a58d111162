use Rattle.std.proofs.Common.{refl, map}
use Rattle.tree.specs.View as tree_view
use Rattle.tree.specs.View.{parameter_of}
use Rattle.typed_ast.specs.View.{object_type_of, parameter_type_of}
use Rattle.decls_specifiers.specs.Views.{specified_of}
use Rattle.typing_scopes.specs.Scopes.{with_texts}
use Rattle.decls_declarators.proofs.Verdicts.{told}
use Rattle.typing.proofs.Units.{with_fine, with_told, with_body_told}
use Rattle.typing.proofs.functions.with_type.Goals as goal

pub returns-in-Ok-function_body-clause-ok : goal.returns-in-Ok-function_body-clause-ok
returns-in-Ok-function_body-clause-ok c = λ outer p e o.
    let left = c.leave_parameters-own.ensures c.args.names.now outer (map parameter_of c.args.function.now.declarator.parameters.items) (map parameter_type_of c.args.entered.types.items) p e o in
    let body = c.in-Ok-function_body.ensures.ok in (
      body.0,
      body.1,
      λ b k. with_fine b (tree_view.function_of c.args.function.now) (specified_of c.args.said (with_texts c.args.names.now outer)) c.args.names.now outer c.args.scope.now c.leave_parameters-own.new.scope c.declare_function.new.scope (map parameter_type_of c.args.entered.types.items) (map object_type_of c.leave_parameters-own.result.items) _ refl p left.1 left.0 c.in-Ok.ensures.ok (body.2 b k),
    )

pub returns-in-Err-clause-err : goal.returns-in-Err-clause-err
returns-in-Err-clause-err c = λ outer p e o b k.
    let left = c.leave_parameters-own.ensures c.args.names.now outer (map parameter_of c.args.function.now.declarator.parameters.items) (map parameter_type_of c.args.entered.types.items) p e o in
    with_told b (tree_view.function_of c.args.function.now) (specified_of c.args.said (with_texts c.args.names.now outer)) c.args.names.now outer c.args.scope.now c.leave_parameters-own.new.scope (map parameter_type_of c.args.entered.types.items) c.in-Err.refusal refl left.0 c.in-Err.ensures.err

pub returns-in-Err-function_body-clause-err : goal.returns-in-Err-function_body-clause-err
returns-in-Err-function_body-clause-err c = λ outer p e o b k.
    let left = c.leave_parameters-own.ensures c.args.names.now outer (map parameter_of c.args.function.now.declarator.parameters.items) (map parameter_type_of c.args.entered.types.items) p e o in
    with_body_told b (tree_view.function_of c.args.function.now) (specified_of c.args.said (with_texts c.args.names.now outer)) c.args.names.now outer c.args.scope.now c.leave_parameters-own.new.scope c.declare_function.new.scope (map parameter_type_of c.args.entered.types.items) (map object_type_of c.leave_parameters-own.result.items) c.in-Err-function_body.refusal refl p left.1 left.0 c.in-Ok.ensures.ok (c.in-Err-function_body.ensures.err b k)
