use Rattle.std.proofs.Common.{sym, ◌∙◌}
use Rattle.verify_expressions.proofs.calls.same_arrays.Goals as goal

pub returns : goal.returns
returns c = λ t. sym c.deref.ensures.value ∙ c.are_same.ensures t
