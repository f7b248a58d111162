use Rattle.verify_logic.proofs.Facts.{apart_changes, only_changes, either_changes}
use Rattle.verify_expressions.proofs.facts.own_changed.Goals as goal

pub returns-then-not-touched : goal.returns-then-not-touched
returns-then-not-touched c = apart_changes _ _ _ _ c.requires (c.may_be-touched.ensures c.if-not-touched.true)

pub returns-then-only : goal.returns-then-only
returns-then-only c = let h = c.is_only-only.ensures c.if-only.true in only_changes _ _ _ _ _ h.0 h.1

pub returns : goal.returns
returns c = either_changes _ _ _ _ _ c.requires c.hull-interval.ensures.first c.hull-interval.ensures.second
