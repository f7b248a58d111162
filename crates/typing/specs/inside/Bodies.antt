-- Bodies of functions, whose parameters are in scope again.
use Rattle.std.specs.Prelude.{ℕ, ◌+◌, List, [], ◌∷◌, ◌++◌, Option, None, map}
use Rattle.typed_ast.specs.declared.units.Function as held
use Rattle.typed_ast.specs.View as view
use Rattle.typing_units.specs.declared.first_values.Initial.{Initial}
use Rattle.typing_units.specs.Views.{initial_of}
use Rattle.tree.specs.Tree.{FunctionTree}
use Rattle.typing_spec.specs.Types.{ObjectType, ParameterType, FunctionType}
use Rattle.typing_spec.specs.Verdict.{Verdict, then_check}
use Rattle.typing_spec.specs.Scope.{Scope}
use Rattle.typing_spec.specs.Statements.{pieces}
use Rattle.typing_spec.specs.Declarations.{Specified}
use Rattle.typing_spec.specs.Declarators.{Parameters, function_type}
use Rattle.typing_spec.specs.Units.{Built, around_of, with_function, with_type}
use Rattle.typing.specs.inside.Names.{bound}

-- the scope of a body, where parameters of these names and types and with these objects are in scope again
abbrev pub entered : List (Option ℕ) → List ParameterType → List ObjectType → Scope → Scope
entered ns ts own s = record s { bindings = bound (s.level + 1) 0 0 ns ts own s.bindings; level = s.level + 1; objects = own }

-- a function whose body is typed in a scope, after the scope of its unit
abbrev pub body_read : Built → FunctionTree → FunctionType → (file inside : Scope) → Verdict Built
body_read b f t file inside = then_check (pieces (around_of t) None inside f.body) (with_function b file f t)

-- the result so far, and one more function
abbrev pub one_more : Built → Scope → held.Function → List Initial → Built
one_more b s f js = record { stack = b.stack; scope = s; functions = b.functions ++ view.function_of f ∷ []; initial = b.initial ++ map initial_of js }

-- a function whose specifiers and parameters have been typed
abbrev pub with_parameters : Built → FunctionTree → Specified → Parameters → Verdict Built
with_parameters b f d ps = with_type b f d ps (function_type d.base ps.types)
