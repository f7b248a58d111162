use Rattle.std.proofs.Common.{sym, ◌∙◌}
use Rattle.phases.proofs.PunctuatorTable.{punctuator_law}
use Rattle.phases.proofs.kinds.is_punctuator.Goals as goal

pub returns : goal.returns
returns c = c.is_of_signs.ensures ∙ sym (punctuator_law c.args.text.now)
