use Rattle.std.proofs.Common.{arith}
use Rattle.tac.proofs.Stretches.{none_copied, some_copied}
use Rattle.tac.proofs.elements.put_copies_first.Goals as goal

pub returns-then-limit-eq0 : goal.returns-then-limit-eq0
returns-then-limit-eq0 c = none_copied c.args.element c.args.limit c.args.code.now.list.items c.if-limit-eq0.true c.args.code.now.short

pub returns : goal.returns
returns c = some_copied c.args.element c.args.limit (omega (arith, c.if-limit-eq0.false)) c.in_ok-put_copies_to.ensures
