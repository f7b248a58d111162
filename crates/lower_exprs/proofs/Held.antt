-- The typed program that a value of the code holds, level by level.
use Rattle.std.proofs.Common.{◌≡◌, map, rules, ap, ◌∙◌, ℤ, Global}
use Rattle.std.specs.Prelude.{Option, Box, Vec, Bool}
use Rattle.srcset.specs.declared.refusal.Pos.{Pos}
use Rattle.ctypes.specs.declared.types.IntType.{IntType}
use Rattle.ctypes.specs.declared.operators.BinOp.{BinOp}
use Rattle.tree.specs.declared.expression.PrefixOp.{PrefixOp}
use Rattle.tree.specs.declared.expression.StepOp.{StepOp}
use Rattle.typed_ast.specs.declared.storage_places.Callee.{Callee}
use Rattle.typed_ast.specs.declared.storage_places.Moment.{Moment}
use Rattle.typed_ast.specs.declared.expressions.Place.{Place}
use Rattle.typed_ast.specs.declared.expressions.Argument.{Argument}
use Rattle.typed_ast.specs.declared.expressions.Argument as A
use Rattle.typed_ast.specs.declared.expressions.Value.{Value, the_lemmas}
use Rattle.typed_ast.specs.declared.expressions.Value as V
use Rattle.typed_ast.specs.View.{value_of, place_of, callee_of, moment_of, argument_of, arguments_of, number_given, array_given}
use Rattle.typing_spec.specs.Program as typed

constant_is : (u : IntType) (v : ℤ) → value_of (V.Constant u v) ≡ typed.constant u v
constant_is u v = search (rules, the_lemmas)

pub sees_constant : (x : Value) (u : IntType) (v : ℤ) → x ≡ V.Constant u v → value_of x ≡ typed.constant u v
sees_constant x u v h = ap value_of h ∙ constant_is u v

read_is : (u : IntType) (p : Box Place Global) → value_of (V.Read u p) ≡ typed.read u (place_of p.value)
read_is u p = search (rules, the_lemmas)

pub sees_read : (x : Value) (u : IntType) (p : Box Place Global) → x ≡ V.Read u p → value_of x ≡ typed.read u (place_of p.value)
sees_read x u p h = ap value_of h ∙ read_is u p

assigned_is : (at : Pos) (u : IntType) (p : Box Place Global) (e : Box Value Global) → value_of (V.Assigned at u p e) ≡ typed.assigned at u (place_of p.value) (value_of e.value)
assigned_is at u p e = search (rules, the_lemmas)

pub sees_assigned : (x : Value) (at : Pos) (u : IntType) (p : Box Place Global) (e : Box Value Global) → x ≡ V.Assigned at u p e → value_of x ≡ typed.assigned at u (place_of p.value) (value_of e.value)
sees_assigned x at u p e h = ap value_of h ∙ assigned_is at u p e

compound_is : (at : Pos) (o : BinOp) (u of : IntType) (p : Box Place Global) (e : Box Value Global) → value_of (V.Compound at o u of p e) ≡ typed.compound at o u of (place_of p.value) (value_of e.value)
compound_is at o u of p e = search (rules, the_lemmas)

pub sees_compound : (x : Value) (at : Pos) (o : BinOp) (u of : IntType) (p : Box Place Global) (e : Box Value Global) → x ≡ V.Compound at o u of p e → value_of x ≡ typed.compound at o u of (place_of p.value) (value_of e.value)
sees_compound x at o u of p e h = ap value_of h ∙ compound_is at o u of p e

stepped_is : (at : Pos) (m : Moment) (o : StepOp) (u of : IntType) (p : Box Place Global) → value_of (V.Stepped at m o u of p) ≡ typed.stepped at (moment_of m) o u of (place_of p.value)
stepped_is at m o u of p = search (rules, the_lemmas)

pub sees_stepped : (x : Value) (at : Pos) (m : Moment) (o : StepOp) (u of : IntType) (p : Box Place Global) → x ≡ V.Stepped at m o u of p → value_of x ≡ typed.stepped at (moment_of m) o u of (place_of p.value)
sees_stepped x at m o u of p h = ap value_of h ∙ stepped_is at m o u of p

unary_is : (at : Pos) (o : PrefixOp) (u : IntType) (e : Box Value Global) → value_of (V.Unary at o u e) ≡ typed.unary at o u (value_of e.value)
unary_is at o u e = search (rules, the_lemmas)

pub sees_unary : (x : Value) (at : Pos) (o : PrefixOp) (u : IntType) (e : Box Value Global) → x ≡ V.Unary at o u e → value_of x ≡ typed.unary at o u (value_of e.value)
sees_unary x at o u e h = ap value_of h ∙ unary_is at o u e

binary_is : (at : Pos) (o : BinOp) (u : IntType) (a b : Box Value Global) → value_of (V.Binary at o u a b) ≡ typed.binary at o u (value_of a.value) (value_of b.value)
binary_is at o u a b = search (rules, the_lemmas)

pub sees_binary : (x : Value) (at : Pos) (o : BinOp) (u : IntType) (a b : Box Value Global) → x ≡ V.Binary at o u a b → value_of x ≡ typed.binary at o u (value_of a.value) (value_of b.value)
sees_binary x at o u a b h = ap value_of h ∙ binary_is at o u a b

bothtrue_is : (a b : Box Value Global) → value_of (V.BothTrue a b) ≡ typed.both_true (value_of a.value) (value_of b.value)
bothtrue_is a b = search (rules, the_lemmas)

pub sees_bothtrue : (x : Value) (a b : Box Value Global) → x ≡ V.BothTrue a b → value_of x ≡ typed.both_true (value_of a.value) (value_of b.value)
sees_bothtrue x a b h = ap value_of h ∙ bothtrue_is a b

onetrue_is : (a b : Box Value Global) → value_of (V.OneTrue a b) ≡ typed.one_true (value_of a.value) (value_of b.value)
onetrue_is a b = search (rules, the_lemmas)

pub sees_onetrue : (x : Value) (a b : Box Value Global) → x ≡ V.OneTrue a b → value_of x ≡ typed.one_true (value_of a.value) (value_of b.value)
sees_onetrue x a b h = ap value_of h ∙ onetrue_is a b

chosen_is : (u : Option IntType) (c a b : Box Value Global) → value_of (V.Chosen u c a b) ≡ typed.chosen u (value_of c.value) (value_of a.value) (value_of b.value)
chosen_is u c a b = search (rules, the_lemmas)

pub sees_chosen : (x : Value) (u : Option IntType) (c a b : Box Value Global) → x ≡ V.Chosen u c a b → value_of x ≡ typed.chosen u (value_of c.value) (value_of a.value) (value_of b.value)
sees_chosen x u c a b h = ap value_of h ∙ chosen_is u c a b

sequence_is : (a b : Box Value Global) → value_of (V.Sequence a b) ≡ typed.sequence (value_of a.value) (value_of b.value)
sequence_is a b = search (rules, the_lemmas)

pub sees_sequence : (x : Value) (a b : Box Value Global) → x ≡ V.Sequence a b → value_of x ≡ typed.sequence (value_of a.value) (value_of b.value)
sees_sequence x a b h = ap value_of h ∙ sequence_is a b

cast_is : (u : IntType) (e : Box Value Global) → value_of (V.Cast u e) ≡ typed.cast u (value_of e.value)
cast_is u e = search (rules, the_lemmas)

pub sees_cast : (x : Value) (u : IntType) (e : Box Value Global) → x ≡ V.Cast u e → value_of x ≡ typed.cast u (value_of e.value)
sees_cast x u e h = ap value_of h ∙ cast_is u e

discarded_is : (e : Box Value Global) → value_of (V.Discarded e) ≡ typed.discarded (value_of e.value)
discarded_is e = search (rules, the_lemmas)

pub sees_discarded : (x : Value) (e : Box Value Global) → x ≡ V.Discarded e → value_of x ≡ typed.discarded (value_of e.value)
sees_discarded x e h = ap value_of h ∙ discarded_is e

call_is : (at : Pos) (f : Callee) (result : Option IntType) (used : Bool) (arguments : Vec Argument Global) → value_of (V.Call at f result used arguments) ≡ typed.call at (callee_of f) result used (arguments_of (map argument_of arguments.items))
call_is at f result used arguments = search (rules, the_lemmas)

pub sees_call : (x : Value) (at : Pos) (f : Callee) (result : Option IntType) (used : Bool) (arguments : Vec Argument Global) → x ≡ V.Call at f result used arguments → value_of x ≡ typed.call at (callee_of f) result used (arguments_of (map argument_of arguments.items))
sees_call x at f result used arguments h = ap value_of h ∙ call_is at f result used arguments

-- ---- an argument

number_is : (u : IntType) (e : Value) → argument_of (A.Number u e) ≡ number_given u (value_of e)
number_is u e = search (rules, the_lemmas)

pub sees_number : (x : Argument) (u : IntType) (e : Value) → x ≡ A.Number u e → argument_of x ≡ number_given u (value_of e)
sees_number x u e h = ap argument_of h ∙ number_is u e

array_is : (a : Place) → argument_of (A.Array a) ≡ array_given (place_of a)
array_is a = search (rules, the_lemmas)

pub sees_array : (x : Argument) (a : Place) → x ≡ A.Array a → argument_of x ≡ array_given (place_of a)
sees_array x a h = ap argument_of h ∙ array_is a
