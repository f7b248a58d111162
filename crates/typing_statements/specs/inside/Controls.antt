-- The controlling parts of a `for`.
use Rattle.typed_ast.specs.View.{option_value}
use Rattle.typing_statements.specs.declared.loop_controls.Control.{Control}
use Rattle.typing_spec.specs.Statements as typed

abbrev pub control_of : Control → typed.Control
control_of c = record { test = option_value c.test; step = option_value c.step }
