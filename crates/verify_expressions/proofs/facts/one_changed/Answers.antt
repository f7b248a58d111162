use Rattle.verify_logic.proofs.Facts.{other_changes}
use Rattle.verify_expressions.proofs.facts.one_changed.Goals as goal

pub returns : goal.returns
returns c = other_changes _ _ _ _ (c.is_same-own.ensures.no c.if-own.false)
