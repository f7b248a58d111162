use Rattle.std.proofs.Common.{nat_lt, refl}
use Rattle.tac.proofs.Stretches.{copies_wrote}
use Rattle.tac.proofs.elements.put_copies.Goals as goal

pub returns : goal.returns
returns c =
    copies_wrote c.args.start c.args.literal c.args.count c.args.characters c.min-copied.result (nat_lt c.args.characters c.args.count) c.min-copied.ensures c.in_ok-put.ensures c.in_ok-put_begins.ensures
    c.in_ok-put-2.ensures c.in_ok-put_copies_first.ensures c.in_ok-put_clears_rest.ensures refl
