-- The type and value of an operand while a condition is read, so that no tree of the condition is kept.
use Rattle.std.specs.Prelude.{ℕ, Bool, true, false, ◌||◌, not, ℤ, pos, Option, Some, None, if◌then◌else◌}
use Rattle.ctypes.specs.declared.operators.BinOp.{BinOp}
use Rattle.ctypes.specs.Types.{truth, of_truth}
use Rattle.pp_cond.specs.declared.operators.Operator.{Operator}
use Rattle.pp_cond.specs.declared.operators.Operator.TheVariants.{OrElse, AndThen, Two}
use Rattle.pp_cond.specs.declared.operators.PrefixOperator.{PrefixOperator}
use Rattle.pp_cond.specs.declared.operators.PrefixOperator.TheVariants.{Negation}
use Rattle.pp_cond.specs.declared.operand.Operand.{Operand}
use Rattle.pp_cond.specs.declared.operand.Operand.TheVariants.{Signed, Unsigned}
use Rattle.pp_cond.specs.Values.{Value, Condition, is_unsigned, value_of, is_comparison, is_shift, is_count, converted, computed, right_converted, prefixed, then_value, if_value}

-- whether its type is unsigned; its value, absent where evaluating it gives none
pub record Known : Type 0 where
  pub unsigned : Bool
  pub value : Option ℤ

abbrev pub known : Condition → Known
known c = record { unsigned = is_unsigned c; value = value_of c }

abbrev pub known_value : Value → Known
known_value v = record { unsigned = v.unsigned; value = Some v.number }

abbrev pub natural : Option ℕ → Option ℤ
natural None = None
natural (Some n) = Some (pos n)

abbrev pub known_of : Operand → Known
known_of (Signed v) = record { unsigned = false; value = v }
known_of (Unsigned v) = record { unsigned = true; value = natural v }

-- ---- the operations on types and values

abbrev pub prefix_unsigned : PrefixOperator → Bool → Bool
prefix_unsigned Negation u = false
prefix_unsigned op u = u

abbrev pub known_prefix : PrefixOperator → Known → Known
known_prefix op a = record { unsigned = prefix_unsigned op a.unsigned; value = then_value a.value (λ v. prefixed op a.unsigned v) }

abbrev pub binary_unsigned : BinOp → Bool → Bool → Bool
binary_unsigned op a b = if is_comparison op then false else if is_shift op then a else a || b

abbrev pub works : BinOp → Bool → Bool → Bool
works op a b = if is_shift op then a else a || b

abbrev pub binary_value : BinOp → Bool → Option ℤ → Option ℤ → Option ℤ
binary_value op u a b = then_value a (λ v. then_value b (λ w. computed op u (converted u v) (right_converted op u w)))

abbrev pub known_binary : BinOp → Known → Known → Known
known_binary op a b =
    record { unsigned = binary_unsigned op a.unsigned b.unsigned; value = binary_value op (works op a.unsigned b.unsigned) a.value b.value }

abbrev pub known_both : Known → Known → Known
known_both a b = record {
  unsigned = false;
  value = then_value a.value (λ v. if_value (truth v) (λ _. then_value b.value (λ w. Some (of_truth (truth w)))) (λ _. Some (pos 0)));
}

abbrev pub known_either : Known → Known → Known
known_either a b = record {
  unsigned = false;
  value = then_value a.value (λ v. if_value (truth v) (λ _. Some (pos 1)) (λ _. then_value b.value (λ w. Some (of_truth (truth w)))));
}

abbrev pub known_choice : Known → Known → Known → Known
known_choice c a b = record {
  unsigned = a.unsigned || b.unsigned;
  value = then_value c.value (λ v. then_value (if_value (truth v) (λ _. a.value) (λ _. b.value)) (λ w.
      Some (converted (a.unsigned || b.unsigned) w)));
}

abbrev pub known_joined : Operator → Known → Known → Known
known_joined OrElse a b = known_either a b
known_joined AndThen a b = known_both a b
known_joined (Two op) a b = known_binary op a b

-- ---- the parts of the operations

-- whether a value is not 0
abbrev pub truth_value : Option ℤ → Option Bool
truth_value None = None
truth_value (Some v) = Some (truth v)

abbrev pub truth_number : Option Bool → Option ℤ
truth_number None = None
truth_number (Some t) = Some (of_truth t)

abbrev pub negated : Option Bool → Option Bool
negated None = None
negated (Some t) = Some (not t)

abbrev pub converted_value : Bool → Option ℤ → Option ℤ
converted_value u o = then_value o (λ w. Some (converted u w))

-- a count of a bit, or 64 for one that is none
abbrev pub count_of : ℤ → ℤ
count_of b = if is_count b then b else pos 64

abbrev pub count_value : Option ℤ → Option ℤ
count_value o = then_value o (λ w. Some (count_of w))

abbrev pub known_converted : Bool → Known → Known
known_converted u a = record { unsigned = u; value = converted_value u a.value }

abbrev pub computed_value : BinOp → Bool → Option ℤ → Option ℤ → Option ℤ
computed_value op u a b = then_value a (λ v. then_value b (λ w. computed op u v w))

abbrev pub known_shifted : BinOp → Known → Option ℤ → Known
known_shifted op a count = record { unsigned = a.unsigned; value = computed_value op a.unsigned a.value count }

-- a constant as an operand
abbrev pub known_option : Option Operand → Option Known
known_option None = None
known_option (Some a) = Some (known_of a)

abbrev pub known_constant : Option Value → Option Known
known_constant None = None
known_constant (Some v) = Some (known_value v)
