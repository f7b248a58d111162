use Rattle.std.proofs.Common.{arith}
use Rattle.phases.proofs.RunLemmas.{word_most}
use Rattle.phases.proofs.QuickLemmas.{name_piece}
use Rattle.phases.proofs.cursor.Cursor.quick_name.Goals as goal

pub past-after-requires : goal.past-after-requires
past-after-requires c = omega (arith, c.word_bytes-count.ensures, word_most c.args.first.next.rest.now)

pub returns : goal.returns
returns c =
    λ place. name_piece place c.args.self c.past-after.result c.args.first c.in_ok-end.end c.word_bytes-count.result c.requires.step c.requires.letter c.word_bytes-count.ensures c.past-after.ensures.rest c.past-after.ensures.line c.in_ok-end.ensures (cc)
