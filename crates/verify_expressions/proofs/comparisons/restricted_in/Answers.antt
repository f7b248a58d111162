use Rattle.std.proofs.Common.{refl}
use Rattle.verify_expressions.proofs.Steps.{set_restricted}
use Rattle.verify_expressions.proofs.comparisons.restricted_in.Goals as goal

pub returns-then-x-len : goal.returns-then-x-len
returns-then-x-len c = set_restricted _ _ _ _ _ c.initialised-k.ensures c.with_value-objects.ensures refl
