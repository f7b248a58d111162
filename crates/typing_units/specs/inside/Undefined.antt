-- The first use, in the order of the source, of an object or function without a definition.
use Rattle.std.specs.Prelude.{Bool, true, false, List, [], ◌∷◌, Option, Some, None, slice_get}
use Rattle.srcset.specs.declared.refusal.Pos.{Pos}
use Rattle.typed_ast.specs.View.{Given, number_given, array_given}
use Rattle.typing_spec.specs.Scope.{StaticObject}
use Rattle.typing_spec.specs.Uses.{Used, an_object, a_function, Use, is_undefined_object, uses, uses_in_place}

abbrev pub has_no_definition : List StaticObject → Used → Bool
has_no_definition os (an_object n) = is_undefined_object (slice_get os n)
has_no_definition os (a_function name) = true

abbrev pub here_or : Bool → Pos → Option Pos → Option Pos
here_or true at later = Some at
here_or false at later = later

abbrev pub undefined_in : List StaticObject → List Use → Option Pos
undefined_in os [] = None
undefined_in os (u ∷ us) = here_or (has_no_definition os u.what) u.at (undefined_in os us)

-- the uses in one argument
abbrev pub uses_in_given : Given → List Use
uses_in_given (number_given ty e) = uses e
uses_in_given (array_given p) = uses_in_place p
