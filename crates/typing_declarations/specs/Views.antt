-- The meaning of the code's declarations.
use Rattle.std.specs.Prelude.{List, map}
use Rattle.typed_ast.specs.declared.statements.Statement.{Statement}
use Rattle.typed_ast.specs.View.{statement_of}
use Rattle.typing_units.specs.declared.first_values.Initial.{Initial}
use Rattle.typing_units.specs.Views.{initial_of}
use Rattle.typing_spec.specs.Scope.{Scope}
use Rattle.typing_spec.specs.Declarations as typed

-- statements, and the first values of objects with static storage
abbrev pub effects_of : List Statement → List Initial → typed.Effects
effects_of xs js = record { statements = map statement_of xs; initial = map initial_of js }

-- the result of a declaration: the scope after it, and its effects
abbrev pub declared_of : Scope → List Statement → List Initial → typed.Declared
declared_of s xs js = record { scope = s; effects = effects_of xs js }
