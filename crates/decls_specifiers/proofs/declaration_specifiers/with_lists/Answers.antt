use Rattle.std.proofs.Common.{arith}
use Rattle.tree.specs.View.{specifier_of}
use Rattle.typing_spec.specs.Declarations as typed
use Rattle.typing_scopes.specs.Scopes.{with_texts}
use Rattle.decls_specifiers.proofs.Enumerators.{list_fine, list_told}
use Rattle.decls_specifiers.proofs.Walks.{one_read, one_told, all_read}
use Rattle.decls_specifiers.proofs.declaration_specifiers.with_lists.Goals as goal

pub loop-specifier-preserved : goal.loop-specifier-preserved
loop-specifier-preserved c =
    one_read specifier_of (typed.with_lists (with_texts c.args.names.now c.loop-specifier.scope) c.args.pos) (typed.with_lists (with_texts c.args.names.now c.with_list.new.scope) c.args.pos) c.args.specifiers.now
    c.loop-specifier.specifier-index c.specifier-item.result _ c.loop-specifier-test.true c.specifier-item.is
    (λ ss. list_fine (with_texts c.args.names.now c.loop-specifier.scope) (with_texts c.args.names.now c.with_list.new.scope) c.args.pos (specifier_of c.specifier-item.result) ss c.in-Ok.ensures.ok) c.loop-specifier.invariant

pub returns-in-Err-clause-err : goal.returns-in-Err-clause-err
returns-in-Err-clause-err c =
    one_told specifier_of (typed.with_lists (with_texts c.args.names.now c.loop-specifier.scope) c.args.pos) c.args.specifiers.now c.loop-specifier.specifier-index c.specifier-item.result _ c.in-Err.refusal c.loop-specifier-test.true
    c.specifier-item.is (λ ss. list_told (with_texts c.args.names.now c.loop-specifier.scope) c.args.pos (specifier_of c.specifier-item.result) ss c.in-Err.refusal c.in-Err.ensures.err) c.loop-specifier.invariant

pub returns-clause-ok : goal.returns-clause-ok
returns-clause-ok c =
    all_read specifier_of (typed.with_lists (with_texts c.args.names.now c.loop-specifier.scope) c.args.pos) c.args.specifiers.now c.loop-specifier.specifier-index _ (omega (arith, c.loop-specifier-test.false)) c.loop-specifier.invariant
