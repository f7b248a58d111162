-- The typed program that a value of the code holds, level by level.
use Rattle.std.proofs.Common.{◌≡◌, ℕ, map, rules, ap, ◌∙◌, Global}
use Rattle.std.specs.Prelude.{Option, Box, Vec}
use Rattle.srcset.specs.declared.refusal.Pos.{Pos}
use Rattle.ctypes.specs.declared.types.IntType.{IntType}
use Rattle.ctypes.specs.declared.operators.BinOp.{BinOp}
use Rattle.tree.specs.declared.expression.PrefixOp.{PrefixOp}
use Rattle.typed_ast.specs.declared.expressions.Place.{Place}
use Rattle.typed_ast.specs.declared.expressions.Argument.{Argument}
use Rattle.typed_ast.specs.declared.expressions.Argument as A
use Rattle.typed_ast.specs.declared.expressions.Value.{Value, the_lemmas}
use Rattle.typed_ast.specs.declared.expressions.Value as V
use Rattle.typed_ast.specs.declared.statements.Statement.{Statement, the_lemmas as statement_lemmas}
use Rattle.typed_ast.specs.declared.statements.Statement as S
use Rattle.typed_ast.specs.View.{value_of, place_of, argument_of, number_given, array_given, statement_of, statements_of}
use Rattle.typing_spec.specs.Program as typed

number_is : (t : IntType) (e : Value) → argument_of (A.Number t e) ≡ number_given t (value_of e)
number_is t e = search (rules, the_lemmas)

pub sees_number : (x : Argument) (t : IntType) (e : Value) → x ≡ A.Number t e → argument_of x ≡ number_given t (value_of e)
sees_number x t e h = ap argument_of h ∙ number_is t e

array_is : (a : Place) → argument_of (A.Array a) ≡ array_given (place_of a)
array_is a = search (rules, the_lemmas)

pub sees_array : (x : Argument) (a : Place) → x ≡ A.Array a → argument_of x ≡ array_given (place_of a)
sees_array x a h = ap argument_of h ∙ array_is a

unary_is : (at : Pos) (op : PrefixOp) (t : IntType) (e : Box Value Global) → value_of (V.Unary at op t e) ≡ typed.unary at op t (value_of e.value)
unary_is at op t e = search (rules, the_lemmas)

pub sees_unary : (x : Value) (at : Pos) (op : PrefixOp) (t : IntType) (e : Box Value Global) → x ≡ V.Unary at op t e → value_of x ≡ typed.unary at op t (value_of e.value)
sees_unary x at op t e h = ap value_of h ∙ unary_is at op t e

binary_is : (at : Pos) (op : BinOp) (t : IntType) (a b : Box Value Global) → value_of (V.Binary at op t a b) ≡ typed.binary at op t (value_of a.value) (value_of b.value)
binary_is at op t a b = search (rules, the_lemmas)

pub sees_binary : (x : Value) (at : Pos) (op : BinOp) (t : IntType) (a b : Box Value Global) → x ≡ V.Binary at op t a b → value_of x ≡ typed.binary at op t (value_of a.value) (value_of b.value)
sees_binary x at op t a b h = ap value_of h ∙ binary_is at op t a b

assigned_is : (at : Pos) (t : IntType) (a : Box Place Global) (e : Box Value Global) → value_of (V.Assigned at t a e) ≡ typed.assigned at t (place_of a.value) (value_of e.value)
assigned_is at t a e = search (rules, the_lemmas)

pub sees_assigned : (x : Value) (at : Pos) (t : IntType) (a : Box Place Global) (e : Box Value Global) → x ≡ V.Assigned at t a e → value_of x ≡ typed.assigned at t (place_of a.value) (value_of e.value)
sees_assigned x at t a e h = ap value_of h ∙ assigned_is at t a e

compound_is : (at : Pos) (op : BinOp) (t of : IntType) (a : Box Place Global) (e : Box Value Global) → value_of (V.Compound at op t of a e) ≡ typed.compound at op t of (place_of a.value) (value_of e.value)
compound_is at op t of a e = search (rules, the_lemmas)

pub sees_compound : (x : Value) (at : Pos) (op : BinOp) (t of : IntType) (a : Box Place Global) (e : Box Value Global) → x ≡ V.Compound at op t of a e →
    value_of x ≡ typed.compound at op t of (place_of a.value) (value_of e.value)
sees_compound x at op t of a e h = ap value_of h ∙ compound_is at op t of a e

both_is : (a b : Box Value Global) → value_of (V.BothTrue a b) ≡ typed.both_true (value_of a.value) (value_of b.value)
both_is a b = search (rules, the_lemmas)

pub sees_both : (x : Value) (a b : Box Value Global) → x ≡ V.BothTrue a b → value_of x ≡ typed.both_true (value_of a.value) (value_of b.value)
sees_both x a b h = ap value_of h ∙ both_is a b

one_is : (a b : Box Value Global) → value_of (V.OneTrue a b) ≡ typed.one_true (value_of a.value) (value_of b.value)
one_is a b = search (rules, the_lemmas)

pub sees_one : (x : Value) (a b : Box Value Global) → x ≡ V.OneTrue a b → value_of x ≡ typed.one_true (value_of a.value) (value_of b.value)
sees_one x a b h = ap value_of h ∙ one_is a b

chosen_is : (t : Option IntType) (d a b : Box Value Global) → value_of (V.Chosen t d a b) ≡ typed.chosen t (value_of d.value) (value_of a.value) (value_of b.value)
chosen_is t d a b = search (rules, the_lemmas)

pub sees_chosen : (x : Value) (t : Option IntType) (d a b : Box Value Global) → x ≡ V.Chosen t d a b → value_of x ≡ typed.chosen t (value_of d.value) (value_of a.value) (value_of b.value)
sees_chosen x t d a b h = ap value_of h ∙ chosen_is t d a b

sequence_is : (a b : Box Value Global) → value_of (V.Sequence a b) ≡ typed.sequence (value_of a.value) (value_of b.value)
sequence_is a b = search (rules, the_lemmas)

pub sees_sequence : (x : Value) (a b : Box Value Global) → x ≡ V.Sequence a b → value_of x ≡ typed.sequence (value_of a.value) (value_of b.value)
sees_sequence x a b h = ap value_of h ∙ sequence_is a b

cast_is : (t : IntType) (e : Box Value Global) → value_of (V.Cast t e) ≡ typed.cast t (value_of e.value)
cast_is t e = search (rules, the_lemmas)

pub sees_cast : (x : Value) (t : IntType) (e : Box Value Global) → x ≡ V.Cast t e → value_of x ≡ typed.cast t (value_of e.value)
sees_cast x t e h = ap value_of h ∙ cast_is t e

discarded_is : (e : Box Value Global) → value_of (V.Discarded e) ≡ typed.discarded (value_of e.value)
discarded_is e = search (rules, the_lemmas)

pub sees_discarded : (x : Value) (e : Box Value Global) → x ≡ V.Discarded e → value_of x ≡ typed.discarded (value_of e.value)
sees_discarded x e h = ap value_of h ∙ discarded_is e

-- ---- statements

evaluate_is : (at : Pos) (e : Value) → statement_of (S.Evaluate at e) ≡ typed.evaluate (value_of e)
evaluate_is at e = search (rules, statement_lemmas)

pub sees_evaluate : (x : Statement) (at : Pos) (e : Value) → x ≡ S.Evaluate at e → statement_of x ≡ typed.evaluate (value_of e)
sees_evaluate x at e h = ap statement_of h ∙ evaluate_is at e

return_is : (at : Pos) (t : IntType) (e : Value) → statement_of (S.ReturnValue at t e) ≡ typed.return_value t (value_of e)
return_is at t e = search (rules, statement_lemmas)

pub sees_return : (x : Statement) (at : Pos) (t : IntType) (e : Value) → x ≡ S.ReturnValue at t e → statement_of x ≡ typed.return_value t (value_of e)
sees_return x at t e h = ap statement_of h ∙ return_is at t e

if_is : (at : Pos) (e : Value) (a : Box Statement Global) → statement_of (S.If at e a) ≡ typed.branch (value_of e) (statement_of a.value)
if_is at e a = search (rules, statement_lemmas)

pub sees_if : (x : Statement) (at : Pos) (e : Value) (a : Box Statement Global) → x ≡ S.If at e a → statement_of x ≡ typed.branch (value_of e) (statement_of a.value)
sees_if x at e a h = ap statement_of h ∙ if_is at e a

if_else_is : (at : Pos) (e : Value) (a b : Box Statement Global) → statement_of (S.IfElse at e a b) ≡ typed.branches (value_of e) (statement_of a.value) (statement_of b.value)
if_else_is at e a b = search (rules, statement_lemmas)

pub sees_if_else : (x : Statement) (at : Pos) (e : Value) (a b : Box Statement Global) → x ≡ S.IfElse at e a b → statement_of x ≡ typed.branches (value_of e) (statement_of a.value) (statement_of b.value)
sees_if_else x at e a b h = ap statement_of h ∙ if_else_is at e a b

block_is : (at : Pos) (first count : ℕ) (all : Vec Statement Global) → statement_of (S.Block at first count all) ≡ typed.block first count (statements_of (map statement_of all.items))
block_is at first count all = search (rules, statement_lemmas)

pub sees_block : (x : Statement) (at : Pos) (first count : ℕ) (all : Vec Statement Global) → x ≡ S.Block at first count all → statement_of x ≡ typed.block first count (statements_of (map statement_of all.items))
sees_block x at first count all h = ap statement_of h ∙ block_is at first count all
