use Rattle.std.proofs.Common.{sym, ap, ◌∙◌, subst}
use Rattle.tree.specs.View.{init_of}
use Rattle.typed_ast.specs.View.{object_type_of}
use Rattle.typing_spec.specs.Declarations as typed
use Rattle.typing_expressions.specs.Refused.{Tells}
use Rattle.typing_scopes.specs.Scopes.{with_texts}
use Rattle.decls.proofs.Objects.{size_fine, size_refused}
use Rattle.decls.proofs.finished_objects.sized_by.Goals as goal

pub returns-in-Ok-sized-clause-ok : goal.returns-in-Ok-sized-clause-ok
returns-in-Ok-sized-clause-ok c =
    size_fine (with_texts c.args.names.now c.args.scope.now) (with_texts c.args.names.now c.sized.new.scope) c.args.pos c.args.name (object_type_of c.args.element.now) (init_of c.args.initialiser.now) c.in-Ok.length
    (c.in-Ok.ensures.ok c.args.scope.now)
    (ap (λ k. typed.sized (with_texts c.args.names.now k) c.args.pos c.args.name (object_type_of c.args.element.now) c.in-Ok.length) (sym c.in-Ok-past_init.ensures.ok) ∙ c.in-Ok-sized.ensures.ok c.args.names.now)

pub returns-in-Err-sized-clause-err : goal.returns-in-Err-sized-clause-err
returns-in-Err-sized-clause-err c =
    size_refused (with_texts c.args.names.now c.args.scope.now) c.args.pos c.args.name (object_type_of c.args.element.now) (init_of c.args.initialiser.now) c.in-Ok.length c.in-Err-sized.refusal (c.in-Ok.ensures.ok c.args.scope.now)
    (subst (λ k. Tells c.in-Err-sized.refusal (typed.sized (with_texts c.args.names.now k) c.args.pos c.args.name (object_type_of c.args.element.now) c.in-Ok.length)) c.in-Ok-past_init.ensures.ok
    (c.in-Err-sized.ensures.err c.args.names.now))
