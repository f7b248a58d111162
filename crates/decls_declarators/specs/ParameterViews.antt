-- The definition's values that the code's parameters represent.
use Rattle.std.specs.Prelude.{ℕ, []}
use Rattle.decls_declarators.specs.declared.parameter_objects.ParameterObject.{ParameterObject}
use Rattle.decls_declarators.specs.declared.parameter_objects.ParameterObject.TheVariants.{Number, Reference}
use Rattle.typed_ast.specs.View.{object_type_of}
use Rattle.tree.specs.Tree.{ParameterTree}
use Rattle.typing_spec.specs.Verdict.{Verdict, provided}
use Rattle.typing_spec.specs.Scope.{Scope, with_literals}
use Rattle.typing_spec.specs.Declarators as typed

abbrev pub parameter_object_of : ParameterObject → typed.ParameterObject
parameter_object_of (Number t k) = typed.a_number (typed.object_type t k [])
parameter_object_of (Reference t) = typed.a_reference (object_type_of t)

-- a parameter whose name is fresh, and the scope after it
abbrev pub checked_parameter : Scope → ParameterTree → Verdict typed.ParameterObject
checked_parameter s p = provided (typed.fresh_if_named s p.at p.name) (typed.parameter_object s p)

abbrev pub behind_parameter : ℕ → Scope → ParameterTree → typed.ParameterObject → Scope
behind_parameter references s p o = typed.with_object (typed.with_parameter (with_literals s (typed.strings_in_sizes p.sizes)) references p.name o) o
