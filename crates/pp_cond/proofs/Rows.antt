-- Conditions worked out by the definition.
use Rattle.std.proofs.Common.{◌≡◌, ℕ, true, false, List, [], ◌∷◌, refl}
use Rattle.std.specs.Prelude.{Ok, Err, codes}
use Rattle.srcset.specs.declared.code.Code.TheVariants as code
use Rattle.phases.specs.declared.token.Kind.{Kind}
use Rattle.phases.specs.declared.token.Kind.TheVariants as kind
use Rattle.phases.specs.Token.{Token}
use Rattle.lexer.specs.Numbers.{suffix_of}
use Rattle.pp_cond.specs.Values.{value_of}
use Rattle.pp_cond.specs.Condition.{read, holds}

abbrev token : Kind → List ℕ → Token
token kind spelling = record { kind = kind; spelling = spelling; space_before = true; pos = record { file = 0; line = 1 } }

abbrev number : List ℕ → Token
number s = token kind.Number s

abbrev word : List ℕ → Token
word s = token kind.Identifier s

abbrev character : List ℕ → Token
character s = token kind.CharacterConstant s

abbrev mark : List ℕ → Token
mark s = token kind.Punctuator s

-- #if - 1 > 0u
a_negative_number_becomes_unsigned : holds (mark (codes "-") ∷ number (codes "1") ∷ mark (codes ">") ∷ number (codes "0u") ∷ []) ≡ Ok true
unfolding holds read value_of suffix_of
a_negative_number_becomes_unsigned = refl

-- #if 0 && 1 / 0
a_skipped_operand_divides_by_zero : holds (number (codes "0") ∷ mark (codes "&&") ∷ number (codes "1") ∷ mark (codes "/") ∷ number (codes "0") ∷ []) ≡ Ok false
unfolding holds read value_of suffix_of
a_skipped_operand_divides_by_zero = refl

-- #if 1 || 1 / 0
a_skipped_operand_of_or_divides_by_zero : holds (number (codes "1") ∷ mark (codes "||") ∷ number (codes "1") ∷ mark (codes "/") ∷ number (codes "0") ∷ []) ≡ Ok true
unfolding holds read value_of suffix_of
a_skipped_operand_of_or_divides_by_zero = refl

-- #if 1 ? 2 : ( 1 / 0 )
an_arm_not_chosen_divides_by_zero : holds (number (codes "1") ∷ mark (codes "?") ∷ number (codes "2") ∷ mark (codes ":") ∷ mark (codes "(") ∷ number (codes "1") ∷ mark (codes "/") ∷ number (codes "0") ∷ mark (codes ")") ∷ []) ≡ Ok true
unfolding holds read value_of suffix_of
an_arm_not_chosen_divides_by_zero = refl

-- #if 1 / 0
division_by_zero : holds (number (codes "1") ∷ mark (codes "/") ∷ number (codes "0") ∷ []) ≡ Err code.ConditionOutOfRange
unfolding holds read value_of suffix_of
division_by_zero = refl

-- #if 0x7fffffffffffffff + 1
a_signed_sum_overflows : holds (number (codes "0x7fffffffffffffff") ∷ mark (codes "+") ∷ number (codes "1") ∷ []) ≡ Err code.ConditionOutOfRange
unfolding holds read value_of suffix_of
a_signed_sum_overflows = refl

-- #if 18446744073709551615u + 1 == 0
an_unsigned_sum_goes_modulo : holds (number (codes "18446744073709551615u") ∷ mark (codes "+") ∷ number (codes "1") ∷ mark (codes "==") ∷ number (codes "0") ∷ []) ≡ Ok true
unfolding holds read value_of suffix_of
an_unsigned_sum_goes_modulo = refl

-- #if 9223372036854775808
a_decimal_constant_without_u : holds (number (codes "9223372036854775808") ∷ []) ≡ Err code.NotConstantCondition
unfolding holds read value_of suffix_of
a_decimal_constant_without_u = refl

-- #if 9223372036854775808u > 0
a_decimal_constant_with_u : holds (number (codes "9223372036854775808u") ∷ mark (codes ">") ∷ number (codes "0") ∷ []) ≡ Ok true
unfolding holds read value_of suffix_of
a_decimal_constant_with_u = refl

-- #if - 0x8000000000000000 > 0
a_hexadecimal_constant_is_unsigned : holds (mark (codes "-") ∷ number (codes "0x8000000000000000") ∷ mark (codes ">") ∷ number (codes "0") ∷ []) ≡ Ok true
unfolding holds read value_of suffix_of
a_hexadecimal_constant_is_unsigned = refl

-- #if - 01000000000000000000000 > 0
an_octal_constant_is_unsigned : holds (mark (codes "-") ∷ number (codes "01000000000000000000000") ∷ mark (codes ">") ∷ number (codes "0") ∷ []) ≡ Ok true
unfolding holds read value_of suffix_of
an_octal_constant_is_unsigned = refl

-- #if 0x10000000000000000
a_constant_of_65_bits : holds (number (codes "0x10000000000000000") ∷ []) ≡ Err code.NotConstantCondition
unfolding holds read value_of suffix_of
a_constant_of_65_bits = refl

-- #if ( - 9223372036854775807 - 1 ) / - 1
the_least_quotient : holds (mark (codes "(") ∷ mark (codes "-") ∷ number (codes "9223372036854775807") ∷ mark (codes "-") ∷ number (codes "1") ∷ mark (codes ")") ∷ mark (codes "/") ∷ mark (codes "-") ∷ number (codes "1") ∷ []) ≡ Err code.ConditionOutOfRange
unfolding holds read value_of suffix_of
the_least_quotient = refl

-- #if ( - 9223372036854775807 - 1 ) % - 1
the_least_remainder : holds (mark (codes "(") ∷ mark (codes "-") ∷ number (codes "9223372036854775807") ∷ mark (codes "-") ∷ number (codes "1") ∷ mark (codes ")") ∷ mark (codes "%") ∷ mark (codes "-") ∷ number (codes "1") ∷ []) ≡ Err code.ConditionOutOfRange
unfolding holds read value_of suffix_of
the_least_remainder = refl

-- #if - ( - 9223372036854775807 - 1 )
the_least_number_negated : holds (mark (codes "-") ∷ mark (codes "(") ∷ mark (codes "-") ∷ number (codes "9223372036854775807") ∷ mark (codes "-") ∷ number (codes "1") ∷ mark (codes ")") ∷ []) ≡ Err code.ConditionOutOfRange
unfolding holds read value_of suffix_of
the_least_number_negated = refl

-- #if 1 , 2
a_comma : holds (number (codes "1") ∷ mark (codes ",") ∷ number (codes "2") ∷ []) ≡ Err code.NotConstantCondition
unfolding holds read value_of suffix_of
a_comma = refl

-- #if 0 && ( 1 , 2 )
a_skipped_comma : holds (number (codes "0") ∷ mark (codes "&&") ∷ mark (codes "(") ∷ number (codes "1") ∷ mark (codes ",") ∷ number (codes "2") ∷ mark (codes ")") ∷ []) ≡ Err code.NotConstantCondition
unfolding holds read value_of suffix_of
a_skipped_comma = refl

-- #if - 1 << 1u
a_negative_number_shifted_left : holds (mark (codes "-") ∷ number (codes "1") ∷ mark (codes "<<") ∷ number (codes "1u") ∷ []) ≡ Err code.ConditionOutOfRange
unfolding holds read value_of suffix_of
a_negative_number_shifted_left = refl

-- #if ( - 8 >> 1u ) == - 4 && ( - 8 >> 1u ) < 0
a_shift_has_the_type_of_its_left_operand : holds (mark (codes "(") ∷ mark (codes "-") ∷ number (codes "8") ∷ mark (codes ">>") ∷ number (codes "1u") ∷ mark (codes ")") ∷ mark (codes "==") ∷ mark (codes "-") ∷ number (codes "4") ∷ mark (codes "&&") ∷ mark (codes "(") ∷ mark (codes "-") ∷ number (codes "8") ∷ mark (codes ">>") ∷ number (codes "1u") ∷ mark (codes ")") ∷ mark (codes "<") ∷ number (codes "0") ∷ []) ≡ Ok true
unfolding holds read value_of suffix_of
a_shift_has_the_type_of_its_left_operand = refl

-- #if 1u << 64
a_shift_by_64 : holds (number (codes "1u") ∷ mark (codes "<<") ∷ number (codes "64") ∷ []) ≡ Err code.ConditionOutOfRange
unfolding holds read value_of suffix_of
a_shift_by_64 = refl

-- #if 1 << 63
a_shift_into_the_sign : holds (number (codes "1") ∷ mark (codes "<<") ∷ number (codes "63") ∷ []) ≡ Err code.ConditionOutOfRange
unfolding holds read value_of suffix_of
a_shift_into_the_sign = refl

-- #if ( 3u << 63 ) == 0x8000000000000000
an_unsigned_shift : holds (mark (codes "(") ∷ number (codes "3u") ∷ mark (codes "<<") ∷ number (codes "63") ∷ mark (codes ")") ∷ mark (codes "==") ∷ number (codes "0x8000000000000000") ∷ []) ≡ Ok true
unfolding holds read value_of suffix_of
an_unsigned_shift = refl

-- #if ( 1 ? - 1 : 0u ) > 0
a_choice_has_the_type_of_both_arms : holds (mark (codes "(") ∷ number (codes "1") ∷ mark (codes "?") ∷ mark (codes "-") ∷ number (codes "1") ∷ mark (codes ":") ∷ number (codes "0u") ∷ mark (codes ")") ∷ mark (codes ">") ∷ number (codes "0") ∷ []) ≡ Ok true
unfolding holds read value_of suffix_of
a_choice_has_the_type_of_both_arms = refl

-- #if 1 ? 0 : 1 ? 1 : 1
the_last_choice_binds_first : holds (number (codes "1") ∷ mark (codes "?") ∷ number (codes "0") ∷ mark (codes ":") ∷ number (codes "1") ∷ mark (codes "?") ∷ number (codes "1") ∷ mark (codes ":") ∷ number (codes "1") ∷ []) ≡ Ok false
unfolding holds read value_of suffix_of
the_last_choice_binds_first = refl

-- #if ( 5 - 2 - 1 ) == 2
minus_binds_from_the_left : holds (mark (codes "(") ∷ number (codes "5") ∷ mark (codes "-") ∷ number (codes "2") ∷ mark (codes "-") ∷ number (codes "1") ∷ mark (codes ")") ∷ mark (codes "==") ∷ number (codes "2") ∷ []) ≡ Ok true
unfolding holds read value_of suffix_of
minus_binds_from_the_left = refl

-- #if 1 + 2 * 3 == 7 && ( 1 | 2 ^ 3 & 2 ) == 1
levels : holds (number (codes "1") ∷ mark (codes "+") ∷ number (codes "2") ∷ mark (codes "*") ∷ number (codes "3") ∷ mark (codes "==") ∷ number (codes "7") ∷ mark (codes "&&") ∷ mark (codes "(") ∷ number (codes "1") ∷ mark (codes "|") ∷ number (codes "2") ∷ mark (codes "^") ∷ number (codes "3") ∷ mark (codes "&") ∷ number (codes "2") ∷ mark (codes ")") ∷ mark (codes "==") ∷ number (codes "1") ∷ []) ≡ Ok true
unfolding holds read value_of suffix_of
levels = refl

-- #if x
an_identifier_is_zero : holds (word (codes "x") ∷ []) ≡ Ok false
unfolding holds read value_of suffix_of
an_identifier_is_zero = refl

-- #if 'a' == 97
a_character_constant : holds (character (codes "'a'") ∷ mark (codes "==") ∷ number (codes "97") ∷ []) ≡ Ok true
unfolding holds read value_of suffix_of
a_character_constant = refl

-- #if 08
no_octal_digit : holds (number (codes "08") ∷ []) ≡ Err code.NotConstantCondition
unfolding holds read value_of suffix_of
no_octal_digit = refl

-- #if
nothing : holds ([]) ≡ Err code.NotConstantCondition
unfolding holds read value_of suffix_of
nothing = refl

-- #if ( 1
an_open_parenthesis : holds (mark (codes "(") ∷ number (codes "1") ∷ []) ≡ Err code.NotConstantCondition
unfolding holds read value_of suffix_of
an_open_parenthesis = refl

-- #if 1 ? 2
a_question_without_colon : holds (number (codes "1") ∷ mark (codes "?") ∷ number (codes "2") ∷ []) ≡ Err code.NotConstantCondition
unfolding holds read value_of suffix_of
a_question_without_colon = refl

-- #if 1 / 0 )
no_constant_comes_before_out_of_range : holds (number (codes "1") ∷ mark (codes "/") ∷ number (codes "0") ∷ mark (codes ")") ∷ []) ≡ Err code.NotConstantCondition
unfolding holds read value_of suffix_of
no_constant_comes_before_out_of_range = refl

-- #if ( defined
defined_comes_first : holds (mark (codes "(") ∷ word (codes "defined") ∷ []) ≡ Err code.DefinedMadeByMacro
unfolding holds read value_of suffix_of
defined_comes_first = refl
