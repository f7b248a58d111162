use Rattle.std.proofs.Common.{refl}
use Rattle.typing_scopes.specs.Scopes.{with_texts}
use Rattle.decls.specs.Views.{begun_of}
use Rattle.typing_declarations.proofs.Objects.{object_left, finished_told, put_told}
use Rattle.typing_declarations.proofs.typed_items.begun_typed.Goals as goal

pub returns-in-Err-finished-clause-err : goal.returns-in-Err-finished-clause-err
returns-in-Err-finished-clause-err c =
    finished_told (begun_of c.args.object.now c.args.class c.args.declarator.now (with_texts c.args.names.now c.args.scope.now)) c.in-Err-finished.refusal c.in-Err-finished.ensures.err

pub returns-in-Ok-put_effect-clause-ok : goal.returns-in-Ok-put_effect-clause-ok
returns-in-Ok-put_effect-clause-ok c =
    object_left c.args.names.now c.args.scope.now c.finished.new.scope (begun_of c.args.object.now c.args.class c.args.declarator.now (with_texts c.args.names.now c.args.scope.now)) c.in-Ok.effect c.literals-literals.result.now
    c.args.statements.now.items c.put_effect.new.statements.items c.args.firsts.now.items c.put_effect.new.firsts.items refl c.in-Ok.ensures.ok c.in-Ok-finished.ensures.ok c.literals-literals.ensures
    (c.in-Ok-put_effect.ensures.ok c.args.scope.now)

pub returns-in-Err-put_effect-clause-err : goal.returns-in-Err-put_effect-clause-err
returns-in-Err-put_effect-clause-err c =
    put_told c.args.names.now c.args.scope.now c.finished.new.scope (begun_of c.args.object.now c.args.class c.args.declarator.now (with_texts c.args.names.now c.args.scope.now)) c.in-Ok.effect c.literals-literals.result.now
    c.in-Err-put_effect.refusal refl c.in-Ok.ensures.ok c.in-Ok-finished.ensures.ok c.literals-literals.ensures (c.in-Err-put_effect.ensures.err c.args.scope.now)
