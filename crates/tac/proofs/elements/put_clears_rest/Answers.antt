use Rattle.tac.proofs.Stretches.{rest_cleared, no_rest}
use Rattle.tac.proofs.elements.put_clears_rest.Goals as goal

pub returns-in_ok-put_clears_to : goal.returns-in_ok-put_clears_to
returns-in_ok-put_clears_to c = rest_cleared c.args.less c.args.element c.args.limit c.if-less.true c.in_ok-put_clears_to.ensures

pub returns-else-less : goal.returns-else-less
returns-else-less c = no_rest c.args.less c.args.element c.args.limit c.args.code.now.list.items c.if-less.false c.args.code.now.short
