-- The place that a value of the code holds.
use Rattle.std.proofs.Common.{◌≡◌, rules, ap, ◌∙◌, Global}
use Rattle.std.specs.Prelude.{Box}
use Rattle.srcset.specs.declared.refusal.Pos.{Pos}
use Rattle.typed_ast.specs.declared.storage_places.Storage.{Storage}
use Rattle.typed_ast.specs.declared.expressions.Place.{Place}
use Rattle.typed_ast.specs.declared.expressions.Place as P
use Rattle.typed_ast.specs.declared.expressions.Value.{Value, the_lemmas}
use Rattle.typed_ast.specs.View.{value_of, place_of, storage_of}
use Rattle.typing_spec.specs.Program as typed

named_is : (at : Pos) (what : Storage) → place_of (P.Named at what) ≡ typed.named at (storage_of what)
named_is at what = search (rules, the_lemmas)

pub sees_named : (x : Place) (at : Pos) (what : Storage) → x ≡ P.Named at what → place_of x ≡ typed.named at (storage_of what)
sees_named x at what e = ap place_of e ∙ named_is at what

element_is : (at : Pos) (array : Box Place Global) (index : Box Value Global) → place_of (P.Element at array index) ≡ typed.element at (place_of array.value) (value_of index.value)
element_is at array index = search (rules, the_lemmas)

pub sees_element : (x : Place) (at : Pos) (array : Box Place Global) (index : Box Value Global) → x ≡ P.Element at array index → place_of x ≡ typed.element at (place_of array.value) (value_of index.value)
sees_element x at array index e = ap place_of e ∙ element_is at array index
