use Rattle.std.proofs.Common.{◌++◌, arith, ◌∙◌}
use Rattle.tree.specs.View.{specifier_of}
use Rattle.decls_linkage.specs.Views as view
use Rattle.typing_spec.specs.Declarations as typed
use Rattle.decls_specifiers.specs.inside.Lists.{class_before}
use Rattle.decls_specifiers.proofs.Lists.{class_alone}
use Rattle.decls_specifiers.proofs.Walks.{one_read, one_told, all_read}
use Rattle.decls_specifiers.proofs.classes.class_of.Goals as goal

pub loop-specifier-preserved : goal.loop-specifier-preserved
loop-specifier-preserved c =
    one_read specifier_of (λ ss. typed.class_of c.args.pos (class_before (view.class_of c.loop-specifier.class) ++ typed.classes_of ss)) (λ ss. typed.class_of c.args.pos (class_before (view.class_of c.in-Ok.next) ++ typed.classes_of ss))
    c.args.specifiers.now c.loop-specifier.specifier-index c.specifier-item.result _ c.loop-specifier-test.true c.specifier-item.is c.in-Ok.ensures.ok c.loop-specifier.invariant

pub returns-in-Err-clause-err : goal.returns-in-Err-clause-err
returns-in-Err-clause-err c =
    one_told specifier_of (λ ss. typed.class_of c.args.pos (class_before (view.class_of c.loop-specifier.class) ++ typed.classes_of ss)) c.args.specifiers.now c.loop-specifier.specifier-index c.specifier-item.result _ c.in-Err.refusal
    c.loop-specifier-test.true c.specifier-item.is c.in-Err.ensures.err c.loop-specifier.invariant

pub returns-clause-ok : goal.returns-clause-ok
returns-clause-ok c =
    all_read specifier_of (λ ss. typed.class_of c.args.pos (class_before (view.class_of c.loop-specifier.class) ++ typed.classes_of ss)) c.args.specifiers.now c.loop-specifier.specifier-index _
    (omega (arith, c.loop-specifier-test.false)) c.loop-specifier.invariant ∙ class_alone c.args.pos (view.class_of c.loop-specifier.class)
