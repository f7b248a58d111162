use Rattle.std.proofs.Common.{rules, append_assoc, ◌∙◌}
use Rattle.std.proofs.lemmas.Result.{IfOk-weaker}
use Rattle.asm.proofs.TextLemmas.{last_part}
use Rattle.asm.proofs.text.upper_text.Goals as goal

pub returns : goal.returns
returns c = IfOk-weaker c.format.result _ _ (λ t e. last_part t.bytes.items _ _ _ _ c.in_radix.ensures e ∙ search (rules, append_assoc)) c.format.ensures.ok
