use Rattle.std.proofs.Common.{sym}
use Rattle.phases.proofs.LexicalLemmas.{some_after, name_step}
use Rattle.phases.proofs.cursor.Cursor.name.Goals as goal

pub returns : goal.returns
returns c =
    some_after c.args.self c.in-Some.first _ _ c.word-tail.result c.in-Some.ensures (sym c.word-tail.ensures.count_is) c.word-tail.ensures.spans (name_step c.args.self c.in-Some.first c.in-Some.ensures (cc))
