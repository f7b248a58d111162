use Rattle.std.proofs.Common.{rules, append_assoc, ◌∙◌}
use Rattle.std.proofs.lemmas.Result.{IfOk-weaker}
use Rattle.asm.proofs.text.number_text.Goals as goal

pub returns : goal.returns
returns c = IfOk-weaker c.format.result _ _ (λ t e. e ∙ search (rules, append_assoc)) c.format.ensures.ok
