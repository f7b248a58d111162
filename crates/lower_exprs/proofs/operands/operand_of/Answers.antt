use Rattle.std.proofs.Common.{◌≡◌, ℕ, false, Option, Some, None, refl}
use Rattle.typed_ast.specs.View.{value_of}
use Rattle.lower_correct.specs.Values as values
use Rattle.lower_ops.specs.layer.Parts.{is_written}
use Rattle.lower_exprs.proofs.operands.operand_of.Goals as goal

none_written : (o : Option ℕ) → false ≡ is_written o values.writes_none
none_written None = refl
none_written (Some x) = refl

pub returns : goal.returns
returns c = c.waits.ensures values.writes_none (none_written (values.rests_in (value_of c.args.e.now)))
