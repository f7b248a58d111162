use Rattle.std.proofs.Common.{map}
use Rattle.tree.specs.View.{item_of}
use Rattle.typing_spec.specs.Declarations as typed
use Rattle.const_expr.specs.Typings.{base_type_of}
use Rattle.typing_scopes.specs.Scopes.{with_texts}
use Rattle.decls_linkage.specs.Views.{class_of}
use Rattle.typing_declarations.proofs.Items.{goes_first, goes_on, goes_told}
use Rattle.typing_declarations.proofs.typed_items.items_typed.Goals as goal

pub loop-item-init : goal.loop-item-init
loop-item-init c =
    goes_first (typed.items_typed (with_texts c.args.names.now c.args.scope.now) (class_of c.args.class) (base_type_of c.args.base) (map item_of c.args.items.now)) c.args.statements.now.items c.args.firsts.now.items

pub loop-item-preserved : goal.loop-item-preserved
loop-item-preserved c =
    goes_on (typed.items_typed (with_texts c.args.names.now c.args.scope.now) (class_of c.args.class) (base_type_of c.args.base) (map item_of c.args.items.now)) (with_texts c.args.names.now c.loop-item.scope)
    (with_texts c.args.names.now c.item_declared.new.scope) (class_of c.args.class) (base_type_of c.args.base) c.args.items.now c.loop-item.item-index c.item-item.result c.args.statements.now.items
    c.loop-item.statements.items c.item_declared.new.statements.items c.args.firsts.now.items c.loop-item.firsts.items c.item_declared.new.firsts.items c.loop-item-test.true c.item-item.is c.loop-item.invariant
    c.in-Ok.ensures.ok

pub returns-in-Err-clause-err : goal.returns-in-Err-clause-err
returns-in-Err-clause-err c =
    goes_told (typed.items_typed (with_texts c.args.names.now c.args.scope.now) (class_of c.args.class) (base_type_of c.args.base) (map item_of c.args.items.now)) (with_texts c.args.names.now c.loop-item.scope)
    (class_of c.args.class) (base_type_of c.args.base) c.args.items.now c.loop-item.item-index c.item-item.result c.in-Err.refusal c.args.statements.now.items c.loop-item.statements.items c.args.firsts.now.items
    c.loop-item.firsts.items c.loop-item-test.true c.item-item.is c.loop-item.invariant c.in-Err.ensures.err
