use Rattle.verify_logic.proofs.Facts.{new_changes, same_changes}
use Rattle.verify_expressions.proofs.facts.new_known.Goals as goal

pub returns : goal.returns
returns c = let h = c.is_only-only.ensures c.if-not-only.false in same_changes _ _ _ _ _ _ c.in_ok-all.ensures (new_changes _ _ _ _ _ _ h.0 h.1 c.requires)
