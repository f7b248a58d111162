-- The typed program that a value of the code holds, level by level.
use Rattle.std.proofs.Common.{◌≡◌, map, rules, ap, ◌∙◌, Global}
use Rattle.std.specs.Prelude.{Option, Box, Vec, Bool}
use Rattle.srcset.specs.declared.refusal.Pos.{Pos}
use Rattle.ctypes.specs.declared.types.IntType.{IntType}
use Rattle.typed_ast.specs.declared.storage_places.Storage.{Storage}
use Rattle.typed_ast.specs.declared.storage_places.Callee.{Callee}
use Rattle.typed_ast.specs.declared.expressions.Place.{Place}
use Rattle.typed_ast.specs.declared.expressions.Place as P
use Rattle.typed_ast.specs.declared.expressions.Argument.{Argument}
use Rattle.typed_ast.specs.declared.expressions.Value.{Value, the_lemmas}
use Rattle.typed_ast.specs.declared.expressions.Value as V
use Rattle.typed_ast.specs.View.{value_of, place_of, storage_of, callee_of, argument_of, arguments_of}
use Rattle.typing_spec.specs.Program as typed

named_is : (at : Pos) (what : Storage) → place_of (P.Named at what) ≡ typed.named at (storage_of what)
named_is at what = search (rules, the_lemmas)

pub sees_named : (x : Place) (at : Pos) (what : Storage) → x ≡ P.Named at what → place_of x ≡ typed.named at (storage_of what)
sees_named x at what e = ap place_of e ∙ named_is at what

read_is : (t : IntType) (a : Box Place Global) → value_of (V.Read t a) ≡ typed.read t (place_of a.value)
read_is t a = search (rules, the_lemmas)

pub sees_read : (x : Value) (t : IntType) (a : Box Place Global) → x ≡ V.Read t a → value_of x ≡ typed.read t (place_of a.value)
sees_read x t a e = ap value_of e ∙ read_is t a

call_is : (at : Pos) (f : Callee) (result : Option IntType) (used : Bool) (arguments : Vec Argument Global) →
    value_of (V.Call at f result used arguments) ≡ typed.call at (callee_of f) result used (arguments_of (map argument_of arguments.items))
call_is at f result used arguments = search (rules, the_lemmas)

pub sees_call : (x : Value) (at : Pos) (f : Callee) (result : Option IntType) (used : Bool) (arguments : Vec Argument Global) → x ≡ V.Call at f result used arguments →
    value_of x ≡ typed.call at (callee_of f) result used (arguments_of (map argument_of arguments.items))
sees_call x at f result used arguments e = ap value_of e ∙ call_is at f result used arguments
