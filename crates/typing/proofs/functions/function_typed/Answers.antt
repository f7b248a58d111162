use Rattle.std.proofs.Common.{◌≡◌, refl, sym, subst, ap, ◌∙◌, map}
use Rattle.tree.specs.View as tree_view
use Rattle.typed_ast.specs.View.{parameter_type_of}
use Rattle.typing_spec.specs.Verdict.{fine, provided}
use Rattle.typing_spec.specs.Declarators.{parameters_in}
use Rattle.typing_spec.specs.Units.{all_named}
use Rattle.tree.specs.View.{parameter_of}
use Rattle.typing_expressions.specs.Refused.{Tells}
use Rattle.decls_specifiers.specs.Views.{specified_of}
use Rattle.typing_scopes.specs.Scopes.{with_texts}
use Rattle.typing_units.specs.Views.{built_of}
use Rattle.typing.proofs.Units.{within, built_more, function_fine, function_told, specifiers_told, parameters_told}
use Rattle.typing.proofs.functions.function_typed.Goals as goal

pub returns-in-Err-clause-err : goal.returns-in-Err-clause-err
returns-in-Err-clause-err c =
    specifiers_told (built_of c.args.stack (with_texts c.args.names.now c.args.scope.now) c.args.functions.now.items c.args.initial.now.items) (tree_view.function_of c.args.function.now) c.in-Err.refusal c.in-Err.ensures.err

pub returns-in-Err-named_parameters-clause-err : goal.returns-in-Err-named_parameters-clause-err
returns-in-Err-named_parameters-clause-err c =
    parameters_told (built_of c.args.stack (with_texts c.args.names.now c.args.scope.now) c.args.functions.now.items c.args.initial.now.items) (tree_view.function_of c.args.function.now) (specified_of c.in-Ok.said (with_texts c.args.names.now c.specified.new.scope))
    c.in-Err-named_parameters.refusal c.in-Ok.ensures.ok
    (subst (λ l. Tells c.in-Err-named_parameters.refusal (provided (all_named (map parameter_of l)) (parameters_in (with_texts c.args.names.now c.specified.new.scope) (map parameter_of l)))) c.deref.ensures.value c.in-Err-named_parameters.ensures.err)

pub returns-in-Err-with_type-clause-err : goal.returns-in-Err-with_type-clause-err
returns-in-Err-with_type-clause-err c =
    let par : parameters_in (with_texts c.args.names.now c.specified.new.scope) (map parameter_of c.args.function.now.declarator.parameters.items) ≡ fine (within c.args.names.now (map parameter_type_of c.in-Ok-named_parameters.entered.types.items) c.named_parameters.new.scope)
    = subst (λ l. parameters_in (with_texts c.args.names.now c.specified.new.scope) (map parameter_of l) ≡ fine (within c.args.names.now (map parameter_type_of c.in-Ok-named_parameters.entered.types.items) c.named_parameters.new.scope)) c.deref.ensures.value c.in-Ok-named_parameters.ensures.ok in
    let named : all_named (map parameter_of c.args.function.now.declarator.parameters.items) ≡ fine tt = subst (λ l. all_named (map parameter_of l) ≡ fine tt) c.deref.ensures.value c.in-Ok-named_parameters.ensures.named in
    let b = built_of c.args.stack (with_texts c.args.names.now c.args.scope.now) c.args.functions.now.items c.args.initial.now.items in
    function_told b (tree_view.function_of c.args.function.now) (specified_of c.in-Ok.said (with_texts c.args.names.now c.specified.new.scope))
    (within c.args.names.now (map parameter_type_of c.in-Ok-named_parameters.entered.types.items) c.named_parameters.new.scope) c.in-Err-with_type.refusal c.in-Ok.ensures.ok named par
    (c.in-Err-with_type.ensures.err c.specified.new.scope par c.in-Ok-named_parameters.ensures.before.0 c.in-Ok-named_parameters.ensures.before.1 b refl)

pub returns-clause-ok : goal.returns-clause-ok
returns-clause-ok c =
    let par : parameters_in (with_texts c.args.names.now c.specified.new.scope) (map parameter_of c.args.function.now.declarator.parameters.items) ≡ fine (within c.args.names.now (map parameter_type_of c.in-Ok-named_parameters.entered.types.items) c.named_parameters.new.scope)
    = subst (λ l. parameters_in (with_texts c.args.names.now c.specified.new.scope) (map parameter_of l) ≡ fine (within c.args.names.now (map parameter_type_of c.in-Ok-named_parameters.entered.types.items) c.named_parameters.new.scope)) c.deref.ensures.value c.in-Ok-named_parameters.ensures.ok in
    let named : all_named (map parameter_of c.args.function.now.declarator.parameters.items) ≡ fine tt = subst (λ l. all_named (map parameter_of l) ≡ fine tt) c.deref.ensures.value c.in-Ok-named_parameters.ensures.named in
    let b = built_of c.args.stack (with_texts c.args.names.now c.args.scope.now) c.args.functions.now.items c.args.initial.now.items in
    let done = c.in-Ok-with_type.ensures.ok c.specified.new.scope par c.in-Ok-named_parameters.ensures.before.0 c.in-Ok-named_parameters.ensures.before.1 in
    function_fine b (tree_view.function_of c.args.function.now) (specified_of c.in-Ok.said (with_texts c.args.names.now c.specified.new.scope))
    (within c.args.names.now (map parameter_type_of c.in-Ok-named_parameters.entered.types.items) c.named_parameters.new.scope) _ c.in-Ok.ensures.ok named par
    (done.2 b refl ∙ ap fine (built_more c.args.stack (with_texts c.args.names.now c.with_type.new.scope) c.args.functions.now.items c.push.new.self.items c.args.initial.now.items c.with_type.new.initial.items done.0 (with_texts c.args.names.now c.args.scope.now) c.in-Ok-with_type.done c.in-Ok-push.ensures.items done.1))
