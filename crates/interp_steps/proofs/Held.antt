-- The statements that values of the code hold.
use Rattle.std.proofs.Common.{Bor, refl, sym, ◌≡◌, ℕ, List, map, rules, ap, ◌∙◌, Global}
use Rattle.std.specs.Option.{option_copied}
use Rattle.std.specs.Prelude.{option_map, Some, None, Option, Box, Vec}
use Rattle.srcset.specs.declared.refusal.Pos.{Pos}
use Rattle.ctypes.specs.declared.types.IntType.{IntType}
use Rattle.typed_ast.specs.declared.expressions.Value.{Value}
use Rattle.typed_ast.specs.declared.initialisers.Initialiser.{Initialiser}
use Rattle.typed_ast.specs.declared.statements.ForControl.{ForControl}
use Rattle.typed_ast.specs.declared.statements.Statement.{Statement, the_lemmas}
use Rattle.typed_ast.specs.declared.statements.Statement as S
use Rattle.typed_ast.specs.View.{value_of, option_value, initialiser_of, statement_of, statements_of}
use Rattle.typing_spec.specs.Program as typed

define_is : (at : Pos) (n : ℕ) (i : Initialiser) → statement_of (S.Define at n i) ≡ typed.define n (initialiser_of i)
define_is at n i = search (rules, the_lemmas)

pub sees_define : (x : Statement) (at : Pos) (n : ℕ) (i : Initialiser) → x ≡ S.Define at n i → statement_of x ≡ typed.define n (initialiser_of i)
sees_define x at n i e = ap statement_of e ∙ define_is at n i

block_is : (at : Pos) (first count : ℕ) (all : Vec Statement Global) → statement_of (S.Block at first count all) ≡ typed.block first count (statements_of (map statement_of all.items))
block_is at first count all = search (rules, the_lemmas)

pub sees_block : (x : Statement) (at : Pos) (first count : ℕ) (all : Vec Statement Global) → x ≡ S.Block at first count all →
    statement_of x ≡ typed.block first count (statements_of (map statement_of all.items))
sees_block x at first count all e = ap statement_of e ∙ block_is at first count all

switch_is : (at : Pos) (t : IntType) (v : Value) (first count : ℕ) (all : Vec Statement Global) →
    statement_of (S.Switch at t v first count all) ≡ typed.switch t (value_of v) first count (statements_of (map statement_of all.items))
switch_is at t v first count all = search (rules, the_lemmas)

pub sees_switch : (x : Statement) (at : Pos) (t : IntType) (v : Value) (first count : ℕ) (all : Vec Statement Global) → x ≡ S.Switch at t v first count all →
    statement_of x ≡ typed.switch t (value_of v) first count (statements_of (map statement_of all.items))
sees_switch x at t v first count all e = ap statement_of e ∙ switch_is at t v first count all

for_is : (at : Pos) (declared : Vec Statement Global) (control : Box ForControl Global) (a : Box Statement Global) →
    statement_of (S.For at declared control a) ≡
    typed.for (statements_of (map statement_of declared.items)) (option_value control.value.start) (option_value control.value.test) (option_value control.value.step) (statement_of a.value)
for_is at declared control a = search (rules, the_lemmas)

pub sees_for : (x : Statement) (at : Pos) (declared : Vec Statement Global) (control : Box ForControl Global) (a : Box Statement Global) → x ≡ S.For at declared control a →
    statement_of x ≡ typed.for (statements_of (map statement_of declared.items)) (option_value control.value.start) (option_value control.value.test) (option_value control.value.step) (statement_of a.value)
sees_for x at declared control a e = ap statement_of e ∙ for_is at declared control a

lent_value : (o : Option (Bor Value)) → option_value (option_copied o) ≡ option_map (λ (e : Bor Value). value_of e.now) o
lent_value None = refl
lent_value (Some e) = refl

lent : (o : Option (Bor Value)) (v : Option Value) → option_copied o ≡ v → option_value v ≡ option_map (λ (e : Bor Value). value_of e.now) o
lent o v e = ap option_value (sym e) ∙ lent_value o

-- the borrowed parts of a `for`
pub lends_for : (x : Statement) (at : Pos) (declared : Vec Statement Global) (control : Box ForControl Global) (a : Box Statement Global) (all : List Statement) (o p q : Option (Bor Value)) →
    x ≡ S.For at declared control a → all ≡ declared.items → option_copied o ≡ control.value.start → option_copied p ≡ control.value.test → option_copied q ≡ control.value.step →
    statement_of x ≡ typed.for (statements_of (map statement_of all)) (option_map (λ (e : Bor Value). value_of e.now) o) (option_map (λ (e : Bor Value). value_of e.now) p)
    (option_map (λ (e : Bor Value). value_of e.now) q) (statement_of a.value)
lends_for x at declared control a all o p q e f g h i =
    let start = control.value.start in
    let test = control.value.test in
    let step = control.value.step in
    sees_for x at declared control a e
    ∙ ap (λ all. typed.for (statements_of (map statement_of all)) (option_value start) (option_value test) (option_value step) (statement_of a.value)) (sym f)
    ∙ ap (λ start. typed.for (statements_of (map statement_of all)) start (option_value test) (option_value step) (statement_of a.value)) (lent o start g)
    ∙ ap (λ test. typed.for (statements_of (map statement_of all)) (option_map (λ (e : Bor Value). value_of e.now) o) test (option_value step) (statement_of a.value)) (lent p test h)
    ∙ ap (λ step. typed.for (statements_of (map statement_of all)) (option_map (λ (e : Bor Value). value_of e.now) o) (option_map (λ (e : Bor Value). value_of e.now) p) step (statement_of a.value)) (lent q step i)
