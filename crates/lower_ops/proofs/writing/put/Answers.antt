use Rattle.std.proofs.Common.{◌∷◌, [], length, ap, ◌∙◌, length-append, arith}
use Rattle.lower_ops.proofs.Parts.{one_wrote}
use Rattle.lower_ops.proofs.writing.put.Goals as goal

pub returns : goal.returns
returns c =
    let c0 = c.args.code.now.list.items in
    let grows = ap length c.in_ok-push.ensures.items ∙ length-append c0 (c.args.instruction ∷ []) in
    one_wrote c.args.instruction c0 _ c.in_ok-push.ensures.items (omega (arith, grows, c.if-prove.false))
