use Rattle.std.proofs.Common.{◌≡◌, map, sym, ap, subst, ◌∙◌, refl, None}
use Rattle.tree.specs.View as tree_view
use Rattle.tree.specs.View.{parameter_of, piece_of, pieces_of}
use Rattle.typed_ast.specs.View.{object_type_of, parameter_type_of, function_type_of}
use Rattle.typing_spec.specs.Verdict.{fine}
use Rattle.typing_spec.specs.Statements.{pieces}
use Rattle.typing_spec.specs.Units.{around_of}
use Rattle.typing_expressions.specs.Refused.{Tells}
use Rattle.typing_scopes.specs.Scopes.{with_texts}
use Rattle.typing_statements.specs.Views.{all_done_of}
use Rattle.typing.specs.inside.Names.{names_of}
use Rattle.typing.specs.inside.Bodies.{entered}
use Rattle.typing.proofs.BodyScopes.{body_left, body_fine, body_told, weight_told}
use Rattle.typing.proofs.bodies.function_body.Goals as goal

pub returns-in-Err-body_statements-clause-err : goal.returns-in-Err-body_statements-clause-err
returns-in-Err-body_statements-clause-err c = λ b k.
    let e : c.enter_body.new.scope ≡ (entered (names_of (map parameter_of c.args.function.now.declarator.parameters.items)) (map parameter_type_of c.args.function_type.parameters.items) (map object_type_of c.args.own.items) c.args.scope.now)
    = c.in-Ok.ensures.ok.1 ∙ ap (λ l. entered (names_of (map parameter_of l)) (map parameter_type_of c.deref-2.result.now) (map object_type_of c.args.own.items) c.args.scope.now) c.deref.ensures.value ∙ ap (λ l. entered (names_of (map parameter_of c.args.function.now.declarator.parameters.items)) (map parameter_type_of l) (map object_type_of c.args.own.items) c.args.scope.now) c.deref-2.ensures.value in
    body_told b (tree_view.function_of c.args.function.now) (function_type_of c.args.function_type) c.args.names.now c.args.scope.now c.enter_body.new.scope (entered (names_of (map parameter_of c.args.function.now.declarator.parameters.items)) (map parameter_type_of c.args.function_type.parameters.items) (map object_type_of c.args.own.items) c.args.scope.now) c.in-Err-body_statements.refusal e
    (subst (λ l. Tells c.in-Err-body_statements.refusal (pieces (around_of (function_type_of c.args.function_type)) None (with_texts c.args.names.now c.enter_body.new.scope) (pieces_of (map piece_of l)))) c.deref-3.ensures.value c.in-Err-body_statements.ensures.err)

pub returns-in-Err-function_of-clause-err : goal.returns-in-Err-function_of-clause-err
returns-in-Err-function_of-clause-err c = λ b k.
    let e : c.enter_body.new.scope ≡ (entered (names_of (map parameter_of c.args.function.now.declarator.parameters.items)) (map parameter_type_of c.args.function_type.parameters.items) (map object_type_of c.args.own.items) c.args.scope.now)
    = c.in-Ok.ensures.ok.1 ∙ ap (λ l. entered (names_of (map parameter_of l)) (map parameter_type_of c.deref-2.result.now) (map object_type_of c.args.own.items) c.args.scope.now) c.deref.ensures.value ∙ ap (λ l. entered (names_of (map parameter_of c.args.function.now.declarator.parameters.items)) (map parameter_type_of l) (map object_type_of c.args.own.items) c.args.scope.now) c.deref-2.ensures.value in
    let s = c.in-Ok-body_statements.ensures.ok in
    let xs = c.in-Ok-body_statements.statements.items in
    let p : pieces (around_of (function_type_of c.args.function_type)) None (with_texts c.args.names.now c.enter_body.new.scope) (pieces_of (map piece_of c.args.function.now.body.items)) ≡ fine (all_done_of (with_texts c.args.names.now c.body_statements.new.scope) s.0 s.1 xs)
    = ap (λ l. pieces (around_of (function_type_of c.args.function_type)) None (with_texts c.args.names.now c.enter_body.new.scope) (pieces_of (map piece_of l))) (sym c.deref-3.ensures.value) ∙ s.3 in
    let left = body_left c.in-Ok.block c.args.names.now (tree_view.function_of c.args.function.now) (function_type_of c.args.function_type) (names_of (map parameter_of c.args.function.now.declarator.parameters.items)) (map parameter_type_of c.args.function_type.parameters.items) (map object_type_of c.args.own.items) c.args.scope.now c.enter_body.new.scope c.body_statements.new.scope c.outside.new.self s.0 s.1 xs c.in-Ok.ensures.ok.0 e p c.outside.ensures in
    weight_told c.args.stack b (tree_view.function_of c.args.function.now) (function_type_of c.args.function_type) c.args.names.now c.args.scope.now c.enter_body.new.scope (entered (names_of (map parameter_of c.args.function.now.declarator.parameters.items)) (map parameter_type_of c.args.function_type.parameters.items) (map object_type_of c.args.own.items) c.args.scope.now) c.body_statements.new.scope c.outside.new.self s.0 s.1 xs (map object_type_of c.change_objects-objects.result.items) c.in-Err-function_of.refusal k e p left.0 c.change_objects-objects.ensures.old c.in-Err-function_of.ensures.err

pub returns-in-Ok-function_of-clause-ok : goal.returns-in-Ok-function_of-clause-ok
returns-in-Ok-function_of-clause-ok c =
    let e : c.enter_body.new.scope ≡ (entered (names_of (map parameter_of c.args.function.now.declarator.parameters.items)) (map parameter_type_of c.args.function_type.parameters.items) (map object_type_of c.args.own.items) c.args.scope.now)
    = c.in-Ok.ensures.ok.1 ∙ ap (λ l. entered (names_of (map parameter_of l)) (map parameter_type_of c.deref-2.result.now) (map object_type_of c.args.own.items) c.args.scope.now) c.deref.ensures.value ∙ ap (λ l. entered (names_of (map parameter_of c.args.function.now.declarator.parameters.items)) (map parameter_type_of l) (map object_type_of c.args.own.items) c.args.scope.now) c.deref-2.ensures.value in
    let s = c.in-Ok-body_statements.ensures.ok in
    let xs = c.in-Ok-body_statements.statements.items in
    let p : pieces (around_of (function_type_of c.args.function_type)) None (with_texts c.args.names.now c.enter_body.new.scope) (pieces_of (map piece_of c.args.function.now.body.items)) ≡ fine (all_done_of (with_texts c.args.names.now c.body_statements.new.scope) s.0 s.1 xs)
    = ap (λ l. pieces (around_of (function_type_of c.args.function_type)) None (with_texts c.args.names.now c.enter_body.new.scope) (pieces_of (map piece_of l))) (sym c.deref-3.ensures.value) ∙ s.3 in
    let left = body_left c.in-Ok.block c.args.names.now (tree_view.function_of c.args.function.now) (function_type_of c.args.function_type) (names_of (map parameter_of c.args.function.now.declarator.parameters.items)) (map parameter_type_of c.args.function_type.parameters.items) (map object_type_of c.args.own.items) c.args.scope.now c.enter_body.new.scope c.body_statements.new.scope c.outside.new.self s.0 s.1 xs c.in-Ok.ensures.ok.0 e p c.outside.ensures in (
      s.1,
      s.2,
      λ b k. body_fine c.args.stack b (tree_view.function_of c.args.function.now) (function_type_of c.args.function_type) c.args.names.now c.args.scope.now c.enter_body.new.scope (entered (names_of (map parameter_of c.args.function.now.declarator.parameters.items)) (map parameter_type_of c.args.function_type.parameters.items) (map object_type_of c.args.own.items) c.args.scope.now) c.body_statements.new.scope c.outside.new.self c.change_objects-objects.new.self c.in-Ok-function_of.done s.0 s.1 xs (map object_type_of c.change_objects-objects.result.items) k e p left.0
          (c.change_objects-objects.ensures.new ∙ ap (λ l. record c.outside.new.self { objects = map object_type_of l }) c.new.ensures.items) c.change_objects-objects.ensures.old left.1 c.in-Ok-function_of.ensures.within
          (c.in-Ok-function_of.ensures.ok (all_done_of (with_texts c.args.names.now c.body_statements.new.scope) s.0 s.1 xs) (sym (c.change_objects-objects.ensures.old ∙ ap (λ x. x.objects) left.0)) refl),
    )
