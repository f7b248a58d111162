use Rattle.std.proofs.Common.{sym, ap, ◌∙◌, map}
use Rattle.tree.specs.View.{option_tree, option_init}
use Rattle.typed_ast.specs.View.{declared_type_of}
use Rattle.typing_spec.specs.Verdict.{fine}
use Rattle.const_expr.specs.Typings.{base_type_of}
use Rattle.decls_linkage.specs.Views.{class_of}
use Rattle.typing_scopes.specs.Scopes.{with_texts, option_binding}
use Rattle.decls.proofs.Lengths.{has_begun}
use Rattle.decls.proofs.Objects.{begun_object, initialised}
use Rattle.decls.proofs.begun_objects.begun.Goals as goal

pub returns-in-Err-object_at-clause-err : goal.returns-in-Err-object_at-clause-err
returns-in-Err-object_at-clause-err c =
    begun_object c.args.names.now c.args.scope.now c.declared_type.new.scope (class_of c.args.class) (base_type_of c.args.base) c.args.declarator.now.pos c.args.declarator.now.name
    (map option_tree c.args.declarator.now.sizes.items) (option_init c.args.declarator.now.initialiser) (declared_type_of c.in-Ok-copied_type.copy) c.is_some-initialised.result c.in-Err-object_at.refusal
    (rw c.deref.ensures.value at c.in-Ok.ensures.ok ∙ ap fine (sym c.in-Ok-copied_type.ensures.ok)) (rw c.deref.ensures.value at c.in-Ok.ensures.scope)
    (c.is_some-initialised.ensures ∙ initialised c.args.declarator.now.initialiser) c.in-Err-object_at.ensures.err

pub invariant_of-result : goal.invariant_of-result
invariant_of-result c = record {
  sized = has_begun (with_texts c.args.names.now c.args.scope.now) (with_texts c.args.names.now c.declared_type.new.scope) (with_texts c.args.names.now c.object_at.new.scope) (class_of c.args.class) (base_type_of c.args.base)
      c.args.declarator.now.pos c.args.declarator.now.name c.declared_type.new.scope.level (map option_tree c.deref.result.now) c.is_some-initialised.result
      (declared_type_of c.in-Ok.declared) (declared_type_of c.in-Ok-copied_type.copy) (declared_type_of c.in-Ok-type_of_binding.declared) (option_binding c.lookup-2.result)
      c.in-Ok.ensures.ok c.in-Ok-copied_type.ensures.ok c.in-Ok-object_at.ensures.ok c.lookup-2.ensures c.in-Ok-type_of_binding.ensures.ok;
}
