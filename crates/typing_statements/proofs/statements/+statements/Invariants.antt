use Rattle.std.proofs.Common.{map, drop}
use Rattle.tree.specs.View.{piece_of, pieces_of}
use Rattle.typing_statements.specs.Views.{around_of}
use Rattle.typing_statements.proofs.BlockRules.{Reading}
use Rattle.typing_statements.proofs.statements.+statements.Given as goal

abbrev pub invariant-pieces-loop-item : goal.invariant-pieces-loop-item
invariant-pieces-loop-item l =
    Reading (around_of l.around) l.direct l.names l.initial.scope l.scope (pieces_of (map piece_of l.items)) (pieces_of (map piece_of (drop l.item-index l.items))) l.initial.labels.items l.labels.items l.initial.initial'.items l.initial'.items
    l.initial.all.items l.all.items
