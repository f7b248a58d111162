use Rattle.std.proofs.Common.{◌≡◌, subst, arith}
use Rattle.typing_spec.specs.Verdict.{fine}
use Rattle.typing_spec.specs.Constants as typed
use Rattle.typed_ast.specs.View.{value_of}
use Rattle.typing_expressions.specs.Refused.{IsOf}
use Rattle.typing_expressions.proofs.Verdicts.{err_passed_on}
use Rattle.const_expr.proofs.Foldings.{left_of_cast, left_of_unary, left_of_binary, left_of_bothtrue, left_of_onetrue, left_of_chosen, left_of_sequence, right_in_binary, right_in_both, right_in_one, first_in_chosen, second_in_chosen}
use Rattle.const_expr.proofs.folding.+folded.Goals as goal

pub returns-in_err-folded-in-Cast-clause-err : goal.returns-in_err-folded-in-Cast-clause-err
returns-in_err-folded-in-Cast-clause-err t c = err_passed_on (λ r. IsOf r (typed.folded (value_of c.args.e.now))) _ c.in_err-folded-in-Cast.field-0.0 c.from_residual.ensures.1 (rw c.in-Cast.is (left_of_cast c.in_err-folded-in-Cast.field-0.0 c.in-Cast.ty c.in-Cast.e (subst (λ x. IsOf c.in_err-folded-in-Cast.field-0.0 (typed.folded (value_of x))) c.deref.ensures c.in_err-folded-in-Cast.ensures.err)))

pub returns-in_err-value-in-Unary-clause-err : goal.returns-in_err-value-in-Unary-clause-err
returns-in_err-value-in-Unary-clause-err t c = err_passed_on (λ r. IsOf r (typed.folded (value_of c.args.e.now))) _ c.in_err-value-in-Unary.field-0.0 c.from_residual-in_err-value-in-Unary.ensures.1 (rw c.in-Unary.is (left_of_unary c.in_err-value-in-Unary.field-0.0 c.in-Unary.pos c.in-Unary.op c.in-Unary.ty c.in-Unary.e (subst (λ x. IsOf c.in_err-value-in-Unary.field-0.0 (typed.folded (value_of x))) c.deref-in-Unary.ensures c.in_err-value-in-Unary.ensures.err)))

pub returns-in_err-a-in-Binary-clause-err : goal.returns-in_err-a-in-Binary-clause-err
returns-in_err-a-in-Binary-clause-err t c = err_passed_on (λ r. IsOf r (typed.folded (value_of c.args.e.now))) _ c.in_err-a-in-Binary.field-0.0 c.from_residual-in_err-a-in-Binary.ensures.1 (rw c.in-Binary.is (left_of_binary c.in_err-a-in-Binary.field-0.0 c.in-Binary.pos c.in-Binary.op c.in-Binary.ty c.in-Binary.a c.in-Binary.b (subst (λ x. IsOf c.in_err-a-in-Binary.field-0.0 (typed.folded (value_of x))) c.deref-in-Binary.ensures c.in_err-a-in-Binary.ensures.err)))

pub returns-in_err-folded-in-BothTrue-clause-err : goal.returns-in_err-folded-in-BothTrue-clause-err
returns-in_err-folded-in-BothTrue-clause-err t c = err_passed_on (λ r. IsOf r (typed.folded (value_of c.args.e.now))) _ c.in_err-folded-in-BothTrue.field-0.0 c.from_residual-in_err-folded-in-BothTrue.ensures.1 (rw c.in-BothTrue.is (left_of_bothtrue c.in_err-folded-in-BothTrue.field-0.0 c.in-BothTrue.a c.in-BothTrue.b (subst (λ x. IsOf c.in_err-folded-in-BothTrue.field-0.0 (typed.folded (value_of x))) c.deref-in-BothTrue.ensures c.in_err-folded-in-BothTrue.ensures.err)))

pub returns-in_err-folded-in-OneTrue-clause-err : goal.returns-in_err-folded-in-OneTrue-clause-err
returns-in_err-folded-in-OneTrue-clause-err t c = err_passed_on (λ r. IsOf r (typed.folded (value_of c.args.e.now))) _ c.in_err-folded-in-OneTrue.field-0.0 c.from_residual-in_err-folded-in-OneTrue.ensures.1 (rw c.in-OneTrue.is (left_of_onetrue c.in_err-folded-in-OneTrue.field-0.0 c.in-OneTrue.a c.in-OneTrue.b (subst (λ x. IsOf c.in_err-folded-in-OneTrue.field-0.0 (typed.folded (value_of x))) c.deref-in-OneTrue.ensures c.in_err-folded-in-OneTrue.ensures.err)))

pub returns-in_err-folded-in-Chosen-clause-err : goal.returns-in_err-folded-in-Chosen-clause-err
returns-in_err-folded-in-Chosen-clause-err t c = err_passed_on (λ r. IsOf r (typed.folded (value_of c.args.e.now))) _ c.in_err-folded-in-Chosen.field-0.0 c.from_residual-in_err-folded-in-Chosen.ensures.1 (rw c.in-Chosen.is (left_of_chosen c.in_err-folded-in-Chosen.field-0.0 c.in-Chosen.ty c.in-Chosen.c c.in-Chosen.a c.in-Chosen.b (subst (λ x. IsOf c.in_err-folded-in-Chosen.field-0.0 (typed.folded (value_of x))) c.deref-in-Chosen.ensures c.in_err-folded-in-Chosen.ensures.err)))

pub returns-in_err-folded-in-Sequence-clause-err : goal.returns-in_err-folded-in-Sequence-clause-err
returns-in_err-folded-in-Sequence-clause-err t c = err_passed_on (λ r. IsOf r (typed.folded (value_of c.args.e.now))) _ c.in_err-folded-in-Sequence.field-0.0 c.from_residual-in_err-folded-in-Sequence.ensures.1 (rw c.in-Sequence.is (left_of_sequence c.in_err-folded-in-Sequence.field-0.0 c.in-Sequence.a c.in-Sequence.b (subst (λ x. IsOf c.in_err-folded-in-Sequence.field-0.0 (typed.folded (value_of x))) c.deref-in-Sequence.ensures c.in_err-folded-in-Sequence.ensures.err)))

pub returns-in_err-b-in-Binary-clause-err : goal.returns-in_err-b-in-Binary-clause-err
returns-in_err-b-in-Binary-clause-err t c = err_passed_on (λ r. IsOf r (typed.folded (value_of c.args.e.now))) _ c.in_err-b-in-Binary.field-0.0 c.from_residual-in_err-b-in-Binary.ensures.1 (rw c.in-Binary.is (right_in_binary c.in_err-b-in-Binary.field-0.0 c.in-Binary.pos c.in-Binary.op c.in-Binary.ty c.in-Binary.a c.in-Binary.b c.in_ok-a-in-Binary.a (subst (λ x. typed.folded (value_of x) ≡ fine c.in_ok-a-in-Binary.a) c.deref-in-Binary.ensures c.in_ok-a-in-Binary.ensures.ok) (subst (λ x. IsOf c.in_err-b-in-Binary.field-0.0 (typed.folded (value_of x))) c.deref-in-Binary-2.ensures c.in_err-b-in-Binary.ensures.err)))

pub returns-in_err-folded-in-BothTrue-2-clause-err : goal.returns-in_err-folded-in-BothTrue-2-clause-err
returns-in_err-folded-in-BothTrue-2-clause-err t c = err_passed_on (λ r. IsOf r (typed.folded (value_of c.args.e.now))) _ c.in_err-folded-in-BothTrue-2.field-0.0 c.from_residual-in_err-folded-in-BothTrue-2.ensures.1 (rw c.in-BothTrue.is (right_in_both c.in_err-folded-in-BothTrue-2.field-0.0 c.in-BothTrue.a c.in-BothTrue.b c.in_ok-folded-in-BothTrue.field-0 (subst (λ x. typed.folded (value_of x) ≡ fine c.in_ok-folded-in-BothTrue.field-0) c.deref-in-BothTrue.ensures c.in_ok-folded-in-BothTrue.ensures.ok) (grind arith) (subst (λ x. IsOf c.in_err-folded-in-BothTrue-2.field-0.0 (typed.folded (value_of x))) c.deref-in-BothTrue-2.ensures c.in_err-folded-in-BothTrue-2.ensures.err)))

pub returns-in_err-folded-in-OneTrue-2-clause-err : goal.returns-in_err-folded-in-OneTrue-2-clause-err
returns-in_err-folded-in-OneTrue-2-clause-err t c = err_passed_on (λ r. IsOf r (typed.folded (value_of c.args.e.now))) _ c.in_err-folded-in-OneTrue-2.field-0.0 c.from_residual-in_err-folded-in-OneTrue-2.ensures.1 (rw c.in-OneTrue.is (right_in_one c.in_err-folded-in-OneTrue-2.field-0.0 c.in-OneTrue.a c.in-OneTrue.b c.in_ok-folded-in-OneTrue.field-0 (subst (λ x. typed.folded (value_of x) ≡ fine c.in_ok-folded-in-OneTrue.field-0) c.deref-in-OneTrue.ensures c.in_ok-folded-in-OneTrue.ensures.ok) (grind arith) (subst (λ x. IsOf c.in_err-folded-in-OneTrue-2.field-0.0 (typed.folded (value_of x))) c.deref-in-OneTrue-2.ensures c.in_err-folded-in-OneTrue-2.ensures.err)))

pub returns-in_err-folded-in-Chosen-2-clause-err : goal.returns-in_err-folded-in-Chosen-2-clause-err
returns-in_err-folded-in-Chosen-2-clause-err t c = err_passed_on (λ r. IsOf r (typed.folded (value_of c.args.e.now))) _ c.in_err-folded-in-Chosen-2.field-0.0 c.from_residual-in_err-folded-in-Chosen-2.ensures.1 (rw c.in-Chosen.is (first_in_chosen c.in_err-folded-in-Chosen-2.field-0.0 c.in-Chosen.ty c.in-Chosen.c c.in-Chosen.a c.in-Chosen.b c.in_ok-folded-in-Chosen.field-0 (subst (λ x. typed.folded (value_of x) ≡ fine c.in_ok-folded-in-Chosen.field-0) c.deref-in-Chosen.ensures c.in_ok-folded-in-Chosen.ensures.ok) (grind arith) (subst (λ x. IsOf c.in_err-folded-in-Chosen-2.field-0.0 (typed.folded (value_of x))) c.deref-then-is_true-2.ensures c.in_err-folded-in-Chosen-2.ensures.err)))

pub returns-in_err-folded-in-Chosen-3-clause-err : goal.returns-in_err-folded-in-Chosen-3-clause-err
returns-in_err-folded-in-Chosen-3-clause-err t c = err_passed_on (λ r. IsOf r (typed.folded (value_of c.args.e.now))) _ c.in_err-folded-in-Chosen-3.field-0.0 c.from_residual-in_err-folded-in-Chosen-3.ensures.1 (rw c.in-Chosen.is (second_in_chosen c.in_err-folded-in-Chosen-3.field-0.0 c.in-Chosen.ty c.in-Chosen.c c.in-Chosen.a c.in-Chosen.b c.in_ok-folded-in-Chosen.field-0 (subst (λ x. typed.folded (value_of x) ≡ fine c.in_ok-folded-in-Chosen.field-0) c.deref-in-Chosen.ensures c.in_ok-folded-in-Chosen.ensures.ok) (grind arith) (subst (λ x. IsOf c.in_err-folded-in-Chosen-3.field-0.0 (typed.folded (value_of x))) c.deref-in-Chosen-2.ensures c.in_err-folded-in-Chosen-3.ensures.err)))
