use Rattle.std.proofs.Common.{◌∷◌, ap, ◌∙◌, arith}
use Rattle.typed_ast.specs.View.{object_type_of}
use Rattle.typing_spec.specs.Types as type
use Rattle.decls_declarators.proofs.Limits.{over_limit, within_limit}
use Rattle.decls.proofs.Lengths.{length_fits}
use Rattle.decls.proofs.Objects.{sized_bytes}
use Rattle.decls.proofs.finished_objects.array_within.Goals as goal

pub returns-then-bytes_in-gt-OBJECT_LIMIT-clause-err : goal.returns-then-bytes_in-gt-OBJECT_LIMIT-clause-err
returns-then-bytes_in-gt-OBJECT_LIMIT-clause-err c =
    over_limit c.args.pos (type.array_of c.args.length (object_type_of c.args.element.now)) c.bytes_in.result c.broken.result
    (sized_bytes c.args.length (object_type_of c.args.element.now) c.deref-2.result.now c.bytes_in.result (c.deref-2.ensures.value ∙ c.in-Ok.ensures.ok ∙ ap (λ l. c.args.length ∷ l) c.deref.ensures.value)
    (c.bytes_in.ensures c.args.element.now.constant)) (omega (arith, c.if-bytes_in-gt-OBJECT_LIMIT.true)) c.broken.ensures

pub returns-in-Ok-array_of-clause-fits : goal.returns-in-Ok-array_of-clause-fits
returns-in-Ok-array_of-clause-fits c =
    within_limit c.args.pos (type.array_of c.args.length (object_type_of c.args.element.now)) c.bytes_in.result
    (sized_bytes c.args.length (object_type_of c.args.element.now) c.deref-2.result.now c.bytes_in.result (c.deref-2.ensures.value ∙ c.in-Ok.ensures.ok ∙ ap (λ l. c.args.length ∷ l) c.deref.ensures.value)
    (c.bytes_in.ensures c.args.element.now.constant)) (omega (arith, c.if-bytes_in-gt-OBJECT_LIMIT.false))

pub overflow_cast-length : goal.overflow_cast-length
overflow_cast-length c =
    let few = length_fits c.args.length (object_type_of c.args.element.now) c.bytes_in.result c.requires
    (sized_bytes c.args.length (object_type_of c.args.element.now) c.deref-2.result.now c.bytes_in.result (c.deref-2.ensures.value ∙ c.in-Ok.ensures.ok ∙ ap (λ l. c.args.length ∷ l) c.deref.ensures.value)
    (c.bytes_in.ensures c.args.element.now.constant)) (omega (arith, c.if-bytes_in-gt-OBJECT_LIMIT.false)) in omega (arith, few)
