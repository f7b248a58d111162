use Rattle.std.proofs.Common.{arith}
use Rattle.phases.proofs.RunLemmas.{number_more_most}
use Rattle.phases.proofs.QuickLemmas.{number_piece}
use Rattle.phases.proofs.cursor.Cursor.quick_number.Goals as goal

pub past-after-requires : goal.past-after-requires
past-after-requires c =
    omega (arith, c.number_bytes-count.ensures, number_more_most c.args.first.byte c.args.first.next.rest.now)

pub returns : goal.returns
returns c =
    λ place. number_piece place c.args.self c.past-after.result c.args.first c.in_ok-_end._end c.number_bytes-count.result c.requires.step c.requires.digit c.number_bytes-count.ensures c.past-after.ensures.rest c.past-after.ensures.line c.in_ok-_end.ensures
