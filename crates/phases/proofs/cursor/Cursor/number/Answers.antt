use Rattle.std.proofs.Common.{sym}
use Rattle.phases.proofs.LexicalLemmas.{some_after, number_first}
use Rattle.phases.proofs.cursor.Cursor.number.Goals as goal

pub returns : goal.returns
returns c =
    some_after c.args.self c.in-Some.first _ _ c.number_tail-tail.result c.in-Some.ensures (sym c.number_tail-tail.ensures.count_is) c.number_tail-tail.ensures.spans (number_first c.args.self c.in-Some.first c.in-Some.ensures (cc))
