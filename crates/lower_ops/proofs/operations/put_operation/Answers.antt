use Rattle.std.proofs.Common.{sym, ◌∙◌}
use Rattle.lower_ops.proofs.operations.put_operation.Goals as goal

pub returns-in_ok-put_twofold : goal.returns-in_ok-put_twofold
returns-in_ok-put_twofold c = c.in_ok-put_twofold.ensures (sym c.is_twofold.ensures ∙ c.if-is_twofold.true)

pub returns-in_ok-put_onefold : goal.returns-in_ok-put_onefold
returns-in_ok-put_onefold c = c.in_ok-put_onefold.ensures (sym c.is_twofold.ensures ∙ c.if-is_twofold.false)
