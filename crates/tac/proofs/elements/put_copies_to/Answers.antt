use Rattle.tac.proofs.Stretches.{copies_to_wrote}
use Rattle.tac.proofs.elements.put_copies_to.Goals as goal

pub returns : goal.returns
returns c =
    copies_to_wrote c.args.element c.args.limit c.ahead-top.result c.ahead-top.ensures c.args.code.now.short
    c.in_ok-put.ensures c.in_ok-put-2.ensures c.in_ok-put-3.ensures c.in_ok-put-4.ensures c.in_ok-put_goes_on.ensures
