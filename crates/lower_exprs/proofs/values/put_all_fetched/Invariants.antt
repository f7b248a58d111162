use Rattle.std.proofs.Common.{◌≡◌, ◌++◌, List, map, drop, length}
use Rattle.typed_ast.specs.View.{argument_of}
use Rattle.lower_exprs.specs.declared.places.Free.{Free}
use Rattle.lower_exprs.specs.inside.Waiting.{AllFetched}
use Rattle.lower_exprs.proofs.values.put_all_fetched.Given as goal

abbrev pub decreases-loop-free : goal.decreases-loop-free
decreases-loop-free l = length l.left.items

abbrev pub invariant-loop-free : goal.invariant-loop-free
invariant-loop-free l =
    (fs : List Free) × (l.left.items ++ fs ≡ l.fn.frees.items) × AllFetched (drop (length l.left.items) (map argument_of l.arguments)) fs l.initial.code.list.items l.code.list.items
