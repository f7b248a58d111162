use Rattle.std.proofs.Common.{sym, ◌∙◌}
use Rattle.verify_statements.proofs.begun.object_defined.Goals as goal

pub row_begun-requires-clause-row : goal.row_begun-requires-clause-row
row_begun-requires-clause-row c = sym c.deref.ensures.value ∙ c.in-Some.ensures
