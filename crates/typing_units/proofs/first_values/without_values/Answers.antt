use Rattle.std.proofs.Common.{map, ap, ◌∙◌, arith}
use Rattle.std.proofs.lemmas.Iterator.Adapters.{YieldsList-from_vec}
use Rattle.std.proofs.lemmas.Iterator.Consumers.{YieldsList-end}
use Rattle.typing_units.proofs.Values.{empty_of, empties, same_items}
use Rattle.typing_units.proofs.first_values.without_values.Goals as goal

pub returns-clause-ok : goal.returns-clause-ok
returns-clause-ok c =
    let gives = c.into_iter-object-iterator.ensures.into_iter_gives in
    let t = YieldsList-end (YieldsList-from_vec {s = c.into_iter-object-iterator.result} c.args.statics.items gives.0 (omega (arith, gives.1, c.args.statics.ok.0))) c.loop-object.yielded c.loop-object.object-iterator c.loop-object.yielded_by c.next.result c.next.new.self c.in-None.is c.next.ensures.steps in
    c.loop-object.invariant ∙ ap (λ l. map empty_of l) (same_items c.loop-object.yielded c.args.statics.items t.0) ∙ empties 0 c.args.statics.items
