-- The fault of a part of a typed expression is that of the whole.
use Rattle.std.proofs.Common.{◌≡◌, true, false, ℤ, pos, sym, subst, rules, Global}
use Rattle.std.specs.Prelude.{Option, Some, None, Box}
use Rattle.srcset.specs.declared.refusal.Refusal.{Refusal}
use Rattle.srcset.specs.declared.refusal.Pos.{Pos}
use Rattle.ctypes.specs.declared.types.IntType.{IntType}
use Rattle.ctypes.specs.declared.operators.BinOp.{BinOp}
use Rattle.ctypes.specs.Types.{truth}
use Rattle.tree.specs.declared.expression.PrefixOp.{PrefixOp}
use Rattle.typed_ast.specs.declared.expressions.Value.{Value, the_lemmas}
use Rattle.typed_ast.specs.declared.expressions.Value as V
use Rattle.typed_ast.specs.View.{value_of}
use Rattle.typing_spec.specs.Verdict.{Verdict, fine}
use Rattle.typing_spec.specs.Program as typed
use Rattle.typing_spec.specs.Constants.{folded, by_truth, truth_of, to_arm}
use Rattle.typing_expressions.specs.Refused.{IsOf}
use Rattle.typing_expressions.proofs.Verdicts.{then_left, then_right}

right_of_binary : (r : Refusal) (at : Pos) (op : BinOp) (t : IntType) (a b : typed.Value) (v : ℤ) → folded a ≡ fine v → IsOf r (folded b) → IsOf r (folded (typed.binary at op t a b))
right_of_binary r at op t a b v e h = then_right r (folded a) v _ e (then_left r (folded b) _ h)

right_of_both : (r : Refusal) (a b : typed.Value) (v : ℤ) → folded a ≡ fine v → truth v ≡ true → IsOf r (folded b) → IsOf r (folded (typed.both_true a b))
right_of_both r a b v e t h = then_right r (folded a) v _ e (subst (λ k. IsOf r (by_truth k (truth_of (folded b)) (fine (pos 0)))) (sym t) (then_left r (folded b) _ h))

right_of_one : (r : Refusal) (a b : typed.Value) (v : ℤ) → folded a ≡ fine v → truth v ≡ false → IsOf r (folded b) → IsOf r (folded (typed.one_true a b))
right_of_one r a b v e t h = then_right r (folded a) v _ e (subst (λ k. IsOf r (by_truth k (fine (pos 1)) (truth_of (folded b)))) (sym t) (then_left r (folded b) _ h))

arm : (r : Refusal) (t : Option IntType) (v : Verdict ℤ) → IsOf r v → IsOf r (to_arm t v)
arm r None v h = h
arm r (Some t) v h = then_left r v _ h

first_arm : (r : Refusal) (t : Option IntType) (c a b : typed.Value) (v : ℤ) → folded c ≡ fine v → truth v ≡ true → IsOf r (folded a) → IsOf r (folded (typed.chosen t c a b))
first_arm r t c a b v e k h = then_right r (folded c) v _ e (subst (λ k. IsOf r (by_truth k (to_arm t (folded a)) (to_arm t (folded b)))) (sym k) (arm r t (folded a) h))

second_arm : (r : Refusal) (t : Option IntType) (c a b : typed.Value) (v : ℤ) → folded c ≡ fine v → truth v ≡ false → IsOf r (folded b) → IsOf r (folded (typed.chosen t c a b))
second_arm r t c a b v e k h = then_right r (folded c) v _ e (subst (λ k. IsOf r (by_truth k (to_arm t (folded a)) (to_arm t (folded b)))) (sym k) (arm r t (folded b) h))

-- ---- of the code's representation

sees_cast : (t : IntType) (e : Box Value Global) → value_of (V.Cast t e) ≡ typed.cast t (value_of e.value)
sees_cast t e = search (rules, the_lemmas)

pub left_of_cast : (r : Refusal) (t : IntType) (e : Box Value Global) → IsOf r (folded (value_of e.value)) → IsOf r (folded (value_of (V.Cast t e)))
left_of_cast r t e h = subst (λ w. IsOf r (folded w)) (sym (sees_cast t e)) (then_left r (folded (value_of e.value)) _ h)

sees_unary : (at : Pos) (op : PrefixOp) (t : IntType) (e : Box Value Global) → value_of (V.Unary at op t e) ≡ typed.unary at op t (value_of e.value)
sees_unary at op t e = search (rules, the_lemmas)

pub left_of_unary : (r : Refusal) (at : Pos) (op : PrefixOp) (t : IntType) (e : Box Value Global) → IsOf r (folded (value_of e.value)) → IsOf r (folded (value_of (V.Unary at op t e)))
left_of_unary r at op t e h = subst (λ w. IsOf r (folded w)) (sym (sees_unary at op t e)) (then_left r (folded (value_of e.value)) _ h)

sees_binary : (at : Pos) (op : BinOp) (t : IntType) (a b : Box Value Global) → value_of (V.Binary at op t a b) ≡ typed.binary at op t (value_of a.value) (value_of b.value)
sees_binary at op t a b = search (rules, the_lemmas)

pub left_of_binary : (r : Refusal) (at : Pos) (op : BinOp) (t : IntType) (a b : Box Value Global) → IsOf r (folded (value_of a.value)) → IsOf r (folded (value_of (V.Binary at op t a b)))
left_of_binary r at op t a b h = subst (λ w. IsOf r (folded w)) (sym (sees_binary at op t a b)) (then_left r (folded (value_of a.value)) _ h)

sees_bothtrue : (a b : Box Value Global) → value_of (V.BothTrue a b) ≡ typed.both_true (value_of a.value) (value_of b.value)
sees_bothtrue a b = search (rules, the_lemmas)

pub left_of_bothtrue : (r : Refusal) (a b : Box Value Global) → IsOf r (folded (value_of a.value)) → IsOf r (folded (value_of (V.BothTrue a b)))
left_of_bothtrue r a b h = subst (λ w. IsOf r (folded w)) (sym (sees_bothtrue a b)) (then_left r (folded (value_of a.value)) _ h)

sees_onetrue : (a b : Box Value Global) → value_of (V.OneTrue a b) ≡ typed.one_true (value_of a.value) (value_of b.value)
sees_onetrue a b = search (rules, the_lemmas)

pub left_of_onetrue : (r : Refusal) (a b : Box Value Global) → IsOf r (folded (value_of a.value)) → IsOf r (folded (value_of (V.OneTrue a b)))
left_of_onetrue r a b h = subst (λ w. IsOf r (folded w)) (sym (sees_onetrue a b)) (then_left r (folded (value_of a.value)) _ h)

sees_chosen : (t : Option IntType) (c a b : Box Value Global) → value_of (V.Chosen t c a b) ≡ typed.chosen t (value_of c.value) (value_of a.value) (value_of b.value)
sees_chosen t c a b = search (rules, the_lemmas)

pub left_of_chosen : (r : Refusal) (t : Option IntType) (c a b : Box Value Global) → IsOf r (folded (value_of c.value)) → IsOf r (folded (value_of (V.Chosen t c a b)))
left_of_chosen r t c a b h = subst (λ w. IsOf r (folded w)) (sym (sees_chosen t c a b)) (then_left r (folded (value_of c.value)) _ h)

sees_sequence : (a b : Box Value Global) → value_of (V.Sequence a b) ≡ typed.sequence (value_of a.value) (value_of b.value)
sees_sequence a b = search (rules, the_lemmas)

pub left_of_sequence : (r : Refusal) (a b : Box Value Global) → IsOf r (folded (value_of a.value)) → IsOf r (folded (value_of (V.Sequence a b)))
left_of_sequence r a b h = subst (λ w. IsOf r (folded w)) (sym (sees_sequence a b)) (then_left r (folded (value_of a.value)) _ h)

pub right_in_binary : (r : Refusal) (at : Pos) (op : BinOp) (t : IntType) (a b : Box Value Global) (v : ℤ) → folded (value_of a.value) ≡ fine v → IsOf r (folded (value_of b.value)) → IsOf r (folded (value_of (V.Binary at op t a b)))
right_in_binary r at op t a b v e h = subst (λ w. IsOf r (folded w)) (sym (sees_binary at op t a b)) (right_of_binary r at op t (value_of a.value) (value_of b.value) v e h)

pub right_in_both : (r : Refusal) (a b : Box Value Global) (v : ℤ) → folded (value_of a.value) ≡ fine v → truth v ≡ true → IsOf r (folded (value_of b.value)) → IsOf r (folded (value_of (V.BothTrue a b)))
right_in_both r a b v e k h = subst (λ w. IsOf r (folded w)) (sym (sees_bothtrue a b)) (right_of_both r (value_of a.value) (value_of b.value) v e k h)

pub right_in_one : (r : Refusal) (a b : Box Value Global) (v : ℤ) → folded (value_of a.value) ≡ fine v → truth v ≡ false → IsOf r (folded (value_of b.value)) → IsOf r (folded (value_of (V.OneTrue a b)))
right_in_one r a b v e k h = subst (λ w. IsOf r (folded w)) (sym (sees_onetrue a b)) (right_of_one r (value_of a.value) (value_of b.value) v e k h)

pub first_in_chosen : (r : Refusal) (t : Option IntType) (c a b : Box Value Global) (v : ℤ) → folded (value_of c.value) ≡ fine v → truth v ≡ true → IsOf r (folded (value_of a.value)) → IsOf r (folded (value_of (V.Chosen t c a b)))
first_in_chosen r t c a b v e k h = subst (λ w. IsOf r (folded w)) (sym (sees_chosen t c a b)) (first_arm r t (value_of c.value) (value_of a.value) (value_of b.value) v e k h)

pub second_in_chosen : (r : Refusal) (t : Option IntType) (c a b : Box Value Global) (v : ℤ) → folded (value_of c.value) ≡ fine v → truth v ≡ false → IsOf r (folded (value_of b.value)) → IsOf r (folded (value_of (V.Chosen t c a b)))
second_in_chosen r t c a b v e k h = subst (λ w. IsOf r (folded w)) (sym (sees_chosen t c a b)) (second_arm r t (value_of c.value) (value_of a.value) (value_of b.value) v e k h)
