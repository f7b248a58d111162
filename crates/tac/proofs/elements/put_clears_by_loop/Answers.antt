use Rattle.std.proofs.Common.{refl}
use Rattle.tac.proofs.Stretches.{clears_by_loop}
use Rattle.tac.proofs.elements.put_clears_by_loop.Goals as goal

pub returns : goal.returns
returns c = clears_by_loop c.args.start c.args.count c.args.count c.requires.more refl c.in_ok-put_begins.ensures c.in_ok-put_clears_to.ensures
