use Rattle.std.proofs.Common.{◌++◌, arith, sym, ◌∙◌, append-nil}
use Rattle.tree.specs.View.{specifier_of}
use Rattle.typing_spec.specs.Declarations as typed
use Rattle.decls_specifiers.proofs.Walks.{one_read, all_read}
use Rattle.decls_specifiers.proofs.plain_specifiers.plain_of.Goals as goal

pub loop-specifier-preserved : goal.loop-specifier-preserved
loop-specifier-preserved c =
    one_read specifier_of (λ ss. c.loop-specifier.plain.items ++ typed.plain_of ss) (λ ss. c.push_plain.new.plain.items ++ typed.plain_of ss) c.args.specifiers.now c.loop-specifier.specifier-index c.specifier-item.result _
    c.loop-specifier-test.true c.specifier-item.is (λ ss. sym (c.in-Ok.ensures.ok ss)) c.loop-specifier.invariant

pub returns-clause-ok : goal.returns-clause-ok
returns-clause-ok c =
    sym (all_read specifier_of (λ ss. c.loop-specifier.plain.items ++ typed.plain_of ss) c.args.specifiers.now c.loop-specifier.specifier-index _ (omega (arith, c.loop-specifier-test.false)) c.loop-specifier.invariant
    ∙ append-nil c.loop-specifier.plain.items)
