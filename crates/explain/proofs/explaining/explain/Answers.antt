use Rattle.std.proofs.Common.{inl, inr, sym, ◌∙◌}
use Rattle.explain.proofs.explaining.explain.Goals as goal

pub returns-in-Ok-clause-passed : goal.returns-in-Ok-clause-passed
returns-in-Ok-clause-passed c = inl (record { built = c.in-Ok.field-0; made = c.in-Ok.ensures.made })

pub returns-then-not-is_met-clause-passed : goal.returns-then-not-is_met-clause-passed
returns-then-not-is_met-clause-passed c = inr (record { fault = c.in-Err.fault; refused = c.in-Err.ensures.refused; later = sym c.is_met.ensures ∙ c.if-not-is_met.true })
