use Rattle.std.proofs.Common.{◌≡◌, arith, rules, to_z, of_z, w64, ◌∙◌}
use Rattle.std.proofs.Math.Facts.{to_z-of_z}
use Rattle.tree.specs.View.{enumerator_of}
use Rattle.typing_spec.specs.Declarations as typed
use Rattle.typing_scopes.specs.Scopes.{with_texts}
use Rattle.decls_specifiers.proofs.Enumerators.{enumerator_fine, enumerator_told}
use Rattle.decls_specifiers.proofs.Walks.{one_read, one_told, all_read}
use Rattle.decls_specifiers.proofs.enumerator_lists.enumerators.Goals as goal

pub loop-enumerator-preserved : goal.loop-enumerator-preserved
loop-enumerator-preserved c =
    let same : to_z w64 (of_z w64 c.in-Ok.next) ≡ c.in-Ok.next = search (rules, to_z-of_z) in
    one_read enumerator_of (typed.enumerators (with_texts c.args.names.now c.loop-enumerator.scope) (to_z w64 c.loop-enumerator.next-bits)) (typed.enumerators (with_texts c.args.names.now c.enumerate.new.scope) (to_z w64 (of_z w64 c.in-Ok.next))) c.args.list.now
    c.loop-enumerator.enumerator-index c.enumerator-item.result _ c.loop-enumerator-test.true c.enumerator-item.is
    (λ es. enumerator_fine c.args.names.now c.loop-enumerator.scope c.enumerate.new.scope (to_z w64 c.loop-enumerator.next-bits) c.in-Ok.ensures.ok.0 (to_z w64 (of_z w64 c.in-Ok.next)) (enumerator_of c.enumerator-item.result) es c.in-Ok.ensures.ok.1
    c.in-Ok.ensures.ok.2 (same ∙ c.in-Ok.ensures.ok.3)) c.loop-enumerator.invariant

pub returns-in-Err-clause-err : goal.returns-in-Err-clause-err
returns-in-Err-clause-err c =
    one_told enumerator_of (typed.enumerators (with_texts c.args.names.now c.loop-enumerator.scope) (to_z w64 c.loop-enumerator.next-bits)) c.args.list.now c.loop-enumerator.enumerator-index c.enumerator-item.result _ c.in-Err.refusal
    c.loop-enumerator-test.true c.enumerator-item.is
    (λ es. enumerator_told c.args.names.now c.loop-enumerator.scope (to_z w64 c.loop-enumerator.next-bits) (enumerator_of c.enumerator-item.result) es c.in-Err.refusal c.in-Err.ensures.err) c.loop-enumerator.invariant

pub returns-clause-ok : goal.returns-clause-ok
returns-clause-ok c =
    all_read enumerator_of (typed.enumerators (with_texts c.args.names.now c.loop-enumerator.scope) (to_z w64 c.loop-enumerator.next-bits)) c.args.list.now c.loop-enumerator.enumerator-index _ (omega (arith, c.loop-enumerator-test.false))
    c.loop-enumerator.invariant
