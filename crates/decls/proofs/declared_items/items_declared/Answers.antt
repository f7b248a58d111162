use Rattle.std.proofs.Common.{arith}
use Rattle.tree.specs.View.{item_of}
use Rattle.typing_spec.specs.Declarations as typed
use Rattle.const_expr.specs.Typings.{base_type_of}
use Rattle.typing_scopes.specs.Scopes.{with_texts}
use Rattle.decls_linkage.specs.Views.{class_of}
use Rattle.decls_specifiers.proofs.Walks.{one_read, one_told, all_read}
use Rattle.decls.proofs.Items.{item_fine, item_told}
use Rattle.decls.proofs.declared_items.items_declared.Goals as goal

pub loop-item-preserved : goal.loop-item-preserved
loop-item-preserved c =
    one_read item_of (typed.items_declared (with_texts c.args.names.now c.loop-item.scope) (class_of c.args.class) (base_type_of c.args.base))
    (typed.items_declared (with_texts c.args.names.now c.item_declared.new.scope) (class_of c.args.class) (base_type_of c.args.base)) c.args.items.now c.loop-item.item-index c.item-item.result _ c.loop-item-test.true c.item-item.is
    (λ is. item_fine (with_texts c.args.names.now c.loop-item.scope) (with_texts c.args.names.now c.item_declared.new.scope) (class_of c.args.class) (base_type_of c.args.base) (item_of c.item-item.result) is c.in-Ok.ensures.ok)
    c.loop-item.invariant

pub returns-in-Err-clause-err : goal.returns-in-Err-clause-err
returns-in-Err-clause-err c =
    one_told item_of (typed.items_declared (with_texts c.args.names.now c.loop-item.scope) (class_of c.args.class) (base_type_of c.args.base)) c.args.items.now c.loop-item.item-index c.item-item.result _ c.in-Err.refusal
    c.loop-item-test.true c.item-item.is
    (λ is. item_told (with_texts c.args.names.now c.loop-item.scope) (class_of c.args.class) (base_type_of c.args.base) (item_of c.item-item.result) is c.in-Err.refusal c.in-Err.ensures.err) c.loop-item.invariant

pub returns-clause-ok : goal.returns-clause-ok
returns-clause-ok c =
    all_read item_of (typed.items_declared (with_texts c.args.names.now c.loop-item.scope) (class_of c.args.class) (base_type_of c.args.base)) c.args.items.now c.loop-item.item-index _ (omega (arith, c.loop-item-test.false)) c.loop-item.invariant
