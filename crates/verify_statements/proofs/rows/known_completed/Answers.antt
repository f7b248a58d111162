use Rattle.verify_statements.proofs.RowRules.{same_becomes, becomes_at}
use Rattle.verify_statements.proofs.rows.known_completed.Goals as goal

pub returns-in_default : goal.returns-in_default
returns-in_default c = same_becomes _ _ _ _

pub returns-in_default-value_in : goal.returns-in_default-value_in
returns-in_default-value_in c = same_becomes _ _ _ _

pub returns : goal.returns
returns c = becomes_at _ _ _ _ _ _ _ _ _ _ _ c.deref-2.ensures.value c.in-Some-value_in.ensures c.whole_row-j.ensures.low c.whole_row-j.ensures.high c.deref.ensures.value c.in-Some.ensures c.initialised-new.ensures c.with_value-objects.ensures
