-- Constant expressions (ISO/IEC 9899:2011 6.6): which operators and operands one may contain, and its value.
use Rattle.std.specs.Prelude.{ℤ, pos, Bool, true, false, Option, Some, None, Result, Ok, Err}
use Rattle.srcset.specs.declared.refusal.Pos.{Pos}
use Rattle.srcset.specs.declared.code.Code.TheVariants as code
use Rattle.ctypes.specs.declared.types.IntType.{IntType}
use Rattle.ctypes.specs.declared.operators.Undef.{Undef}
use Rattle.ctypes.specs.declared.operators.Undef.TheVariants.{U2}
use Rattle.ctypes.specs.Types.{truth, of_truth, converted}
use Rattle.tree.specs.declared.expression.BinaryOp.{BinaryOp}
use Rattle.tree.specs.declared.expression.BinaryOp.TheVariants as operator
use Rattle.tree.specs.Tree.{Tree, hole, identifier, constant, string, paren, call, subscript, after, before, prefix, size_of, size_of_type, cast, binary, conditional, assign}
use Rattle.typing_spec.specs.Verdict.{Verdict, fine, breaks, then_check, each}
use Rattle.typing_spec.specs.Operators.{operated, sign_of}
use Rattle.typing_spec.specs.Program as typed
use Rattle.typing_spec.specs.Program.{Value, Place}
use Rattle.typing_spec.specs.Scope.{Scope, Binding, Meaning, an_object, an_array_parameter, a_function, an_enumerator, lookup}

abbrev pub unfit_at : Pos → Verdict (Unit {0})
unfit_at at = breaks code.NotConstantExpression at

-- 6.6p3: no comma
abbrev pub no_comma : Pos → BinaryOp → Verdict (Unit {0})
no_comma at operator.Comma = unfit_at at
no_comma at op = fine tt

-- 6.6p3, p6: no assignment, increment, decrement, call or comma; here also where it is not evaluated, as in the operand of sizeof
abbrev pub measurable : Tree → Verdict (Unit {0})
measurable hole = fine tt
measurable (identifier at n) = fine tt
measurable (constant at t v) = fine tt
measurable (string at n) = fine tt
measurable (paren e) = measurable e
measurable (call at f args) = unfit_at at
measurable (subscript at a i) = each (measurable a) (measurable i)
measurable (after at op a) = unfit_at at
measurable (before at op a) = unfit_at at
measurable (prefix at op a) = measurable a
measurable (size_of at a) = measurable a
measurable (size_of_type at t) = fine tt
measurable (cast at t a) = measurable a
measurable (binary at op a b) = each (no_comma at op) (each (measurable a) (measurable b))
measurable (conditional at c a b) = each (measurable c) (each (measurable a) (measurable b))
measurable (assign at op a b) = unfit_at at

-- 6.6p6: of names only enumerators; an undeclared name has another fault
abbrev pub enumerator_alone : Pos → Meaning → Verdict (Unit {0})
enumerator_alone at (an_object what t) = unfit_at at
enumerator_alone at (an_array_parameter n t) = unfit_at at
enumerator_alone at (a_function t) = unfit_at at
enumerator_alone at (an_enumerator v) = fine tt

abbrev pub constant_name : Pos → Option Binding → Verdict (Unit {0})
constant_name at None = fine tt
constant_name at (Some b) = enumerator_alone at b.meaning

-- the permitted form of a constant expression; names of objects, string literals and subscripts appear under sizeof alone
abbrev pub constant_form : Scope → Tree → Verdict (Unit {0})
constant_form s hole = fine tt
constant_form s (identifier at n) = constant_name at (lookup s n)
constant_form s (constant at t v) = fine tt
constant_form s (string at n) = unfit_at at
constant_form s (paren e) = constant_form s e
constant_form s (call at f args) = unfit_at at
constant_form s (subscript at a i) = unfit_at at
constant_form s (after at op a) = unfit_at at
constant_form s (before at op a) = unfit_at at
constant_form s (prefix at op a) = constant_form s a
constant_form s (size_of at a) = measurable a
constant_form s (size_of_type at t) = fine tt
constant_form s (cast at t a) = constant_form s a
constant_form s (binary at op a b) = each (no_comma at op) (each (constant_form s a) (constant_form s b))
constant_form s (conditional at c a b) = each (constant_form s c) (each (constant_form s a) (constant_form s b))
constant_form s (assign at op a b) = unfit_at at

-- 6.6p4: an operation that is evaluated has a value; a zero divisor has a code of its own
abbrev pub absent : Pos → Undef → Verdict ℤ
absent at U2 = breaks code.ConstantDivisionByZero at
absent at act = breaks code.ConstantExpressionOutOfRange at

abbrev pub present : Pos → Result ℤ Undef → Verdict ℤ
present at (Ok v) = fine v
present at (Err act) = absent at act

-- the position of a place
abbrev pub place_position : Place → Pos
place_position (typed.named at what) = at
place_position (typed.element at a i) = at

-- the verdict that a truth value selects: only one of the two is evaluated
abbrev pub by_truth : Bool → Verdict ℤ → Verdict ℤ → Verdict ℤ
by_truth true a b = a
by_truth false a b = b

abbrev pub truth_of : Verdict ℤ → Verdict ℤ
truth_of v = then_check v (λ w. fine (of_truth (truth w)))

abbrev pub to_arm : Option IntType → Verdict ℤ → Verdict ℤ
to_arm None v = v
to_arm (Some t) v = then_check v (λ w. fine (converted t w))

-- the value of a typed expression, operands from the left, as far as it is evaluated
abbrev pub folded : Value → Verdict ℤ
folded (typed.constant t v) = fine v
folded (typed.read t p) = breaks code.NotConstantExpression (place_position p)
folded (typed.assigned at t p e) = breaks code.NotConstantExpression at
folded (typed.compound at op t of p e) = breaks code.NotConstantExpression at
folded (typed.stepped at m op t of p) = breaks code.NotConstantExpression at
folded (typed.unary at op t e) = then_check (folded e) (λ v. present at (sign_of op t v))
folded (typed.binary at op t a b) = then_check (folded a) (λ v. then_check (folded b) (λ w. present at (operated op t v w)))
folded (typed.both_true a b) = then_check (folded a) (λ v. by_truth (truth v) (truth_of (folded b)) (fine (pos 0)))
folded (typed.one_true a b) = then_check (folded a) (λ v. by_truth (truth v) (fine (pos 1)) (truth_of (folded b)))
folded (typed.chosen t c a b) = then_check (folded c) (λ v. by_truth (truth v) (to_arm t (folded a)) (to_arm t (folded b)))
folded (typed.sequence a b) = then_check (folded a) (λ v. folded b)
folded (typed.cast t e) = then_check (folded e) (λ v. fine (converted t v))
folded (typed.discarded e) = folded e
folded (typed.call at f t used args) = breaks code.NotConstantExpression at
