-- The statements that a value of the code holds, level by level.
use Rattle.std.proofs.Common.{◌≡◌, ℕ, ℤ, map, rules, ap, ◌∙◌, Global}
use Rattle.std.specs.Prelude.{Box, Vec}
use Rattle.srcset.specs.declared.refusal.Pos.{Pos}
use Rattle.ctypes.specs.declared.types.IntType.{IntType}
use Rattle.typed_ast.specs.declared.expressions.Value.{Value}
use Rattle.typed_ast.specs.declared.initialisers.Initialiser.{Initialiser, the_lemmas as initialiser_lemmas}
use Rattle.typed_ast.specs.declared.initialisers.Initialiser as I
use Rattle.typed_ast.specs.declared.statements.ForControl.{ForControl}
use Rattle.typed_ast.specs.declared.statements.Statement.{Statement, the_lemmas}
use Rattle.typed_ast.specs.declared.statements.Statement as S
use Rattle.typed_ast.specs.View.{value_of, option_value, initialiser_of, initialisers_of, statement_of, statements_of}
use Rattle.typing_spec.specs.Program as typed

empty_is : (at : Pos) → statement_of (S.Empty at) ≡ typed.empty
empty_is at = search (rules, the_lemmas)

pub sees_empty : (x : Statement) (at : Pos) → x ≡ S.Empty at → statement_of x ≡ typed.empty
sees_empty x at h = ap statement_of h ∙ empty_is at

evaluate_is : (at : Pos) (e : Value) → statement_of (S.Evaluate at e) ≡ typed.evaluate (value_of e)
evaluate_is at e = search (rules, the_lemmas)

pub sees_evaluate : (x : Statement) (at : Pos) (e : Value) → x ≡ S.Evaluate at e → statement_of x ≡ typed.evaluate (value_of e)
sees_evaluate x at e h = ap statement_of h ∙ evaluate_is at e

declare_is : (at : Pos) (n : ℕ) → statement_of (S.Declare at n) ≡ typed.declare n
declare_is at n = search (rules, the_lemmas)

pub sees_declare : (x : Statement) (at : Pos) (n : ℕ) → x ≡ S.Declare at n → statement_of x ≡ typed.declare n
sees_declare x at n h = ap statement_of h ∙ declare_is at n

define_is : (at : Pos) (n : ℕ) (i : Initialiser) → statement_of (S.Define at n i) ≡ typed.define n (initialiser_of i)
define_is at n i = search (rules, the_lemmas)

pub sees_define : (x : Statement) (at : Pos) (n : ℕ) (i : Initialiser) → x ≡ S.Define at n i → statement_of x ≡ typed.define n (initialiser_of i)
sees_define x at n i h = ap statement_of h ∙ define_is at n i

block_is : (at : Pos) (first count : ℕ) (all : Vec Statement Global) → statement_of (S.Block at first count all) ≡ typed.block first count (statements_of (map statement_of all.items))
block_is at first count all = search (rules, the_lemmas)

pub sees_block : (x : Statement) (at : Pos) (first count : ℕ) (all : Vec Statement Global) → x ≡ S.Block at first count all → statement_of x ≡ typed.block first count (statements_of (map statement_of all.items))
sees_block x at first count all h = ap statement_of h ∙ block_is at first count all

if_is : (at : Pos) (e : Value) (a : Box Statement Global) → statement_of (S.If at e a) ≡ typed.branch (value_of e) (statement_of a.value)
if_is at e a = search (rules, the_lemmas)

pub sees_if : (x : Statement) (at : Pos) (e : Value) (a : Box Statement Global) → x ≡ S.If at e a → statement_of x ≡ typed.branch (value_of e) (statement_of a.value)
sees_if x at e a h = ap statement_of h ∙ if_is at e a

ifelse_is : (at : Pos) (e : Value) (a b : Box Statement Global) → statement_of (S.IfElse at e a b) ≡ typed.branches (value_of e) (statement_of a.value) (statement_of b.value)
ifelse_is at e a b = search (rules, the_lemmas)

pub sees_ifelse : (x : Statement) (at : Pos) (e : Value) (a b : Box Statement Global) → x ≡ S.IfElse at e a b → statement_of x ≡ typed.branches (value_of e) (statement_of a.value) (statement_of b.value)
sees_ifelse x at e a b h = ap statement_of h ∙ ifelse_is at e a b

switch_is : (at : Pos) (u : IntType) (e : Value) (first count : ℕ) (all : Vec Statement Global) → statement_of (S.Switch at u e first count all) ≡ typed.switch u (value_of e) first count (statements_of (map statement_of all.items))
switch_is at u e first count all = search (rules, the_lemmas)

pub sees_switch : (x : Statement) (at : Pos) (u : IntType) (e : Value) (first count : ℕ) (all : Vec Statement Global) → x ≡ S.Switch at u e first count all → statement_of x ≡ typed.switch u (value_of e) first count (statements_of (map statement_of all.items))
sees_switch x at u e first count all h = ap statement_of h ∙ switch_is at u e first count all

case_is : (at : Pos) (v : ℤ) → statement_of (S.Case at v) ≡ typed.case v
case_is at v = search (rules, the_lemmas)

pub sees_case : (x : Statement) (at : Pos) (v : ℤ) → x ≡ S.Case at v → statement_of x ≡ typed.case v
sees_case x at v h = ap statement_of h ∙ case_is at v

default_is : (at : Pos) → statement_of (S.Default at) ≡ typed.default
default_is at = search (rules, the_lemmas)

pub sees_default : (x : Statement) (at : Pos) → x ≡ S.Default at → statement_of x ≡ typed.default
sees_default x at h = ap statement_of h ∙ default_is at

while_is : (at : Pos) (e : Value) (a : Box Statement Global) → statement_of (S.While at e a) ≡ typed.while (value_of e) (statement_of a.value)
while_is at e a = search (rules, the_lemmas)

pub sees_while : (x : Statement) (at : Pos) (e : Value) (a : Box Statement Global) → x ≡ S.While at e a → statement_of x ≡ typed.while (value_of e) (statement_of a.value)
sees_while x at e a h = ap statement_of h ∙ while_is at e a

dowhile_is : (at : Pos) (a : Box Statement Global) (e : Value) → statement_of (S.DoWhile at a e) ≡ typed.do_while (statement_of a.value) (value_of e)
dowhile_is at a e = search (rules, the_lemmas)

pub sees_dowhile : (x : Statement) (at : Pos) (a : Box Statement Global) (e : Value) → x ≡ S.DoWhile at a e → statement_of x ≡ typed.do_while (statement_of a.value) (value_of e)
sees_dowhile x at a e h = ap statement_of h ∙ dowhile_is at a e

for_is : (at : Pos) (declared : Vec Statement Global) (control : Box ForControl Global) (a : Box Statement Global) → statement_of (S.For at declared control a) ≡ typed.for (statements_of (map statement_of declared.items)) (option_value control.value.start) (option_value control.value.test) (option_value control.value.step) (statement_of a.value)
for_is at declared control a = search (rules, the_lemmas)

pub sees_for : (x : Statement) (at : Pos) (declared : Vec Statement Global) (control : Box ForControl Global) (a : Box Statement Global) → x ≡ S.For at declared control a → statement_of x ≡ typed.for (statements_of (map statement_of declared.items)) (option_value control.value.start) (option_value control.value.test) (option_value control.value.step) (statement_of a.value)
sees_for x at declared control a h = ap statement_of h ∙ for_is at declared control a

break_is : (at : Pos) → statement_of (S.Break at) ≡ typed.break
break_is at = search (rules, the_lemmas)

pub sees_break : (x : Statement) (at : Pos) → x ≡ S.Break at → statement_of x ≡ typed.break
sees_break x at h = ap statement_of h ∙ break_is at

continue_is : (at : Pos) → statement_of (S.Continue at) ≡ typed.continue
continue_is at = search (rules, the_lemmas)

pub sees_continue : (x : Statement) (at : Pos) → x ≡ S.Continue at → statement_of x ≡ typed.continue
sees_continue x at h = ap statement_of h ∙ continue_is at

returnnothing_is : (at : Pos) → statement_of (S.ReturnNothing at) ≡ typed.return_nothing
returnnothing_is at = search (rules, the_lemmas)

pub sees_returnnothing : (x : Statement) (at : Pos) → x ≡ S.ReturnNothing at → statement_of x ≡ typed.return_nothing
sees_returnnothing x at h = ap statement_of h ∙ returnnothing_is at

returnvalue_is : (at : Pos) (u : IntType) (e : Value) → statement_of (S.ReturnValue at u e) ≡ typed.return_value u (value_of e)
returnvalue_is at u e = search (rules, the_lemmas)

pub sees_returnvalue : (x : Statement) (at : Pos) (u : IntType) (e : Value) → x ≡ S.ReturnValue at u e → statement_of x ≡ typed.return_value u (value_of e)
sees_returnvalue x at u e h = ap statement_of h ∙ returnvalue_is at u e

-- ---- initialisers

one_is : (u : IntType) (e : Value) → initialiser_of (I.One u e) ≡ typed.one_value u (value_of e)
one_is u e = search (rules, initialiser_lemmas)

pub sees_one : (x : Initialiser) (u : IntType) (e : Value) → x ≡ I.One u e → initialiser_of x ≡ typed.one_value u (value_of e)
sees_one x u e h = ap initialiser_of h ∙ one_is u e

inbraces_is : (i : Box Initialiser Global) → initialiser_of (I.InBraces i) ≡ typed.in_braces (initialiser_of i.value)
inbraces_is i = search (rules, initialiser_lemmas)

pub sees_inbraces : (x : Initialiser) (i : Box Initialiser Global) → x ≡ I.InBraces i → initialiser_of x ≡ typed.in_braces (initialiser_of i.value)
sees_inbraces x i h = ap initialiser_of h ∙ inbraces_is i

text_is : (m : ℕ) → initialiser_of (I.Text m) ≡ typed.text m
text_is m = search (rules, initialiser_lemmas)

pub sees_text : (x : Initialiser) (m : ℕ) → x ≡ I.Text m → initialiser_of x ≡ typed.text m
sees_text x m h = ap initialiser_of h ∙ text_is m

list_is : (all : Vec Initialiser Global) → initialiser_of (I.List all) ≡ typed.list (initialisers_of (map initialiser_of all.items))
list_is all = search (rules, initialiser_lemmas)

pub sees_list : (x : Initialiser) (all : Vec Initialiser Global) → x ≡ I.List all → initialiser_of x ≡ typed.list (initialisers_of (map initialiser_of all.items))
sees_list x all h = ap initialiser_of h ∙ list_is all
