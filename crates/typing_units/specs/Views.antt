-- The models of the code's parts of a unit.
use Rattle.std.specs.Prelude.{ℕ, List, map}
use Rattle.typed_ast.specs.declared.units.Function.{Function}
use Rattle.typed_ast.specs.View.{function_of}
use Rattle.typing_scopes.specs.declared.bindings.StaticObject.{StaticObject}
use Rattle.typing_scopes.specs.Scopes.{static_of}
use Rattle.typing_units.specs.declared.first_values.Initial.{Initial}
use Rattle.typing_spec.specs.Scope.{Scope}
use Rattle.typing_spec.specs.Declarations as declarations
use Rattle.typing_spec.specs.Units as typed

abbrev pub initial_of : Initial → declarations.Initial
initial_of i = record { static = i.static_number; values = i.values.items }

-- the scope of a unit with these texts, string literals and objects with static storage
abbrev pub unit_scope : List (List ℕ) → List ℕ → List StaticObject → Scope → Scope
unit_scope texts literals statics s = record s { texts = texts; literals = literals; statics = map static_of statics }

-- the result so far, where the stack has `stack` bytes
abbrev pub built_of : (stack : ℕ) → Scope → List Function → List Initial → typed.Built
built_of stack s functions initial = record { stack = stack; scope = s; functions = map function_of functions; initial = map initial_of initial }
