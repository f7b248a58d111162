-- The meaning of the code's calls.
use Rattle.typed_ast.specs.View as view
use Rattle.typing_expressions.specs.declared.callees.Called.{Called}
use Rattle.typing_spec.specs.Expressions as typed

abbrev pub called_of : Called → typed.Called
called_of c = record { callee = view.callee_of c.callee; type = view.function_type_of c.function.now }
