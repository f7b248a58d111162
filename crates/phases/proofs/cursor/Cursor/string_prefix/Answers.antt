use Rattle.phases.proofs.LexicalLemmas.{u8_prefix}
use Rattle.phases.proofs.cursor.Cursor.string_prefix.Goals as goal

pub returns-then-second-eq56 : goal.returns-then-second-eq56
returns-then-second-eq56 c =
    u8_prefix c.args.self c.in-Some.first c.ahead-second.result c.in-Some.ensures c.ahead-second.ensures c.if-first-eq117.true c.if-second-eq56.true
