use Rattle.std.proofs.Common.{map, drop}
use Rattle.tree.specs.View.{item_of}
use Rattle.typing_spec.specs.Declarations as typed
use Rattle.const_expr.specs.Typings.{base_type_of}
use Rattle.typing_scopes.specs.Scopes.{with_texts}
use Rattle.decls_linkage.specs.Views.{class_of}
use Rattle.typing_declarations.specs.inside.Effects.{Goes}
use Rattle.typing_declarations.proofs.typed_items.items_typed.Given as goal

abbrev pub invariant-loop-item : goal.invariant-loop-item
invariant-loop-item l =
    Goes (typed.items_typed (with_texts l.names l.initial.scope) (class_of l.class) (base_type_of l.base) (map item_of l.items))
    (typed.items_typed (with_texts l.names l.scope) (class_of l.class) (base_type_of l.base) (map item_of (drop l.item-index l.items))) l.initial.statements.items l.statements.items l.initial.firsts.items l.firsts.items
