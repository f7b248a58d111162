-- Programs, computed: how each ends, the ticks that its clock has left, what it writes, the input left, and the greatest sum of the weights of active calls.
-- The source is above each; each clock has exactly the ticks that the run takes.
use Rattle.std.proofs.Common.{◌≡◌, ℕ, List, [], ◌∷◌, pos, refl, Some, None, Bool, true, false}
use Rattle.srcset.specs.declared.refusal.Pos.{Pos}
use Rattle.ctypes.specs.declared.types.IntType.{IntType}
use Rattle.ctypes.specs.declared.types.IntType.TheVariants as ty
use Rattle.ctypes.specs.declared.operators.BinOp.TheVariants as op
use Rattle.ctypes.specs.declared.operators.Undef.TheVariants as act
use Rattle.tree.specs.declared.expression.PrefixOp.TheVariants as prefix
use Rattle.tree.specs.declared.expression.StepOp.TheVariants as step
use Rattle.typing_spec.specs.Types.{ObjectType, elements}
use Rattle.typing_spec.specs.Program as typed
use Rattle.typing_spec.specs.Program.{Program}
use Rattle.typing_spec.specs.WellTyped.{is_typed}
use Rattle.csem.specs.Machine.{Ending, Ended, Undefined}
use Rattle.csem.specs.Meaning.{Answer, answer_of, cstep, last_of}

abbrev at : ℕ → Pos
at n = record { file = 0; line = n }

abbrev object : IntType → Bool → List ℕ → ObjectType
object t constant lengths = record { element = t; constant = constant; lengths = lengths }

-- the result of a row
pub record Seen : Type 0 where
  pub ending : Ending
  pub ticks_left : ℕ
  pub output : List ℕ
  pub input_left : List ℕ
  pub greatest : ℕ

abbrev seen_of : (ticks_left : ℕ) → Answer → Seen
seen_of n a = record { ending = a.ending; ticks_left = n; output = a.output; input_left = a.input_left; greatest = a.greatest }

abbrev seen : ℕ → Program → List ℕ → Seen
seen n p input = seen_of (last_of (cstep n p input)).clock (answer_of p (cstep n p input))

abbrev row : Ending → (output input_left : List ℕ) → (greatest : ℕ) → Seen
row ending output input_left greatest = record { ending = ending; ticks_left = 0; output = output; input_left = input_left; greatest = greatest }

-- int main(void) { return 42; }
abbrev forty_two : Program
forty_two = record { literals = ([]); statics = ([]); functions = (record { name = 0; type = record { result = (Some ty.Int); constant = false; parameters = ([]) }; objects = ([]); body = (typed.block 0 0 (typed.and_statement (typed.return_value ty.Int (typed.constant ty.Int (pos 42))) typed.no_statements)); nodes = 4; weight = 128 } ∷ []); main = 0 }

forty_two_runs : seen 4 forty_two ([]) ≡ row (Ended 42) ([]) ([]) 128
forty_two_runs = refl

forty_two_typed : is_typed forty_two ≡ true
forty_two_typed = refl

-- int main(void) { return 300; }
abbrev low_eight_bits : Program
low_eight_bits = record { literals = ([]); statics = ([]); functions = (record { name = 0; type = record { result = (Some ty.Int); constant = false; parameters = ([]) }; objects = ([]); body = (typed.block 0 0 (typed.and_statement (typed.return_value ty.Int (typed.constant ty.Int (pos 300))) typed.no_statements)); nodes = 4; weight = 128 } ∷ []); main = 0 }

low_eight_bits_runs : seen 4 low_eight_bits ([]) ≡ row (Ended 44) ([]) ([]) 128
low_eight_bits_runs = refl

low_eight_bits_typed : is_typed low_eight_bits ≡ true
low_eight_bits_typed = refl

-- int main(void) { return -1; }
abbrev minus_one : Program
minus_one = record { literals = ([]); statics = ([]); functions = (record { name = 0; type = record { result = (Some ty.Int); constant = false; parameters = ([]) }; objects = ([]); body = (typed.block 0 0 (typed.and_statement (typed.return_value ty.Int (typed.unary (at 1) prefix.Minus ty.Int (typed.constant ty.Int (pos 1)))) typed.no_statements)); nodes = 5; weight = 144 } ∷ []); main = 0 }

minus_one_runs : seen 5 minus_one ([]) ≡ row (Ended 255) ([]) ([]) 144
minus_one_runs = refl

minus_one_typed : is_typed minus_one ≡ true
minus_one_typed = refl

-- int main(void) {  }
abbrev end_of_main : Program
end_of_main = record { literals = ([]); statics = ([]); functions = (record { name = 0; type = record { result = (Some ty.Int); constant = false; parameters = ([]) }; objects = ([]); body = (typed.block 0 0 typed.no_statements); nodes = 2; weight = 96 } ∷ []); main = 0 }

end_of_main_runs : seen 2 end_of_main ([]) ≡ row (Ended 0) ([]) ([]) 96
end_of_main_runs = refl

end_of_main_typed : is_typed end_of_main ≡ true
end_of_main_typed = refl

-- int main(void) { return -1 < 1u; }
abbrev mixed_comparison : Program
mixed_comparison = record { literals = ([]); statics = ([]); functions = (record { name = 0; type = record { result = (Some ty.Int); constant = false; parameters = ([]) }; objects = ([]); body = (typed.block 0 0 (typed.and_statement (typed.return_value ty.Int (typed.binary (at 1) op.Less ty.UInt (typed.unary (at 1) prefix.Minus ty.Int (typed.constant ty.Int (pos 1))) (typed.constant ty.UInt (pos 1)))) typed.no_statements)); nodes = 7; weight = 176 } ∷ []); main = 0 }

mixed_comparison_runs : seen 7 mixed_comparison ([]) ≡ row (Ended 0) ([]) ([]) 176
mixed_comparison_runs = refl

mixed_comparison_typed : is_typed mixed_comparison ≡ true
mixed_comparison_typed = refl

-- int main(void) { char c; return (int)sizeof(c+c); }
abbrev size_is_constant : Program
size_is_constant = record { literals = ([]); statics = ([]); functions = (record { name = 0; type = record { result = (Some ty.Int); constant = false; parameters = ([]) }; objects = ((object ty.Char false ([])) ∷ []); body = (typed.block 0 1 (typed.and_statement (typed.declare 0) (typed.and_statement (typed.return_value ty.Int (typed.cast ty.Int (typed.constant ty.UInt (pos 4)))) typed.no_statements))); nodes = 9; weight = 224 } ∷ []); main = 0 }

size_is_constant_runs : seen 6 size_is_constant ([]) ≡ row (Ended 4) ([]) ([]) 224
size_is_constant_runs = refl

size_is_constant_typed : is_typed size_is_constant ≡ true
size_is_constant_typed = refl

-- int main(void) { _Bool b = 256; return b; }
abbrev truth_of_256 : Program
truth_of_256 = record { literals = ([]); statics = ([]); functions = (record { name = 0; type = record { result = (Some ty.Int); constant = false; parameters = ([]) }; objects = ((object ty.Bool false ([])) ∷ []); body = (typed.block 0 1 (typed.and_statement (typed.define 0 (typed.one_value ty.Bool (typed.constant ty.Int (pos 256)))) (typed.and_statement (typed.return_value ty.Int (typed.read ty.Bool (typed.named (at 1) (typed.automatic 0)))) typed.no_statements))); nodes = 6; weight = 176 } ∷ []); main = 0 }

truth_of_256_runs : seen 7 truth_of_256 ([]) ≡ row (Ended 1) ([]) ([]) 176
truth_of_256_runs = refl

truth_of_256_typed : is_typed truth_of_256 ≡ true
truth_of_256_typed = refl

-- int main(void) { signed char c = 200; return c < 0; }
abbrev signed_char_200 : Program
signed_char_200 = record { literals = ([]); statics = ([]); functions = (record { name = 0; type = record { result = (Some ty.Int); constant = false; parameters = ([]) }; objects = ((object ty.SChar false ([])) ∷ []); body = (typed.block 0 1 (typed.and_statement (typed.define 0 (typed.one_value ty.SChar (typed.constant ty.Int (pos 200)))) (typed.and_statement (typed.return_value ty.Int (typed.binary (at 1) op.Less ty.Int (typed.read ty.SChar (typed.named (at 1) (typed.automatic 0))) (typed.constant ty.Int (pos 0)))) typed.no_statements))); nodes = 8; weight = 208 } ∷ []); main = 0 }

signed_char_200_runs : seen 9 signed_char_200 ([]) ≡ row (Ended 1) ([]) ([]) 208
signed_char_200_runs = refl

signed_char_200_typed : is_typed signed_char_200 ≡ true
signed_char_200_typed = refl

-- int main(void) { return '\377' == 255; }
abbrev character_377 : Program
character_377 = record { literals = ([]); statics = ([]); functions = (record { name = 0; type = record { result = (Some ty.Int); constant = false; parameters = ([]) }; objects = ([]); body = (typed.block 0 0 (typed.and_statement (typed.return_value ty.Int (typed.binary (at 1) op.Equal ty.Int (typed.constant ty.Int (pos 255)) (typed.constant ty.Int (pos 255)))) typed.no_statements)); nodes = 6; weight = 160 } ∷ []); main = 0 }

character_377_runs : seen 6 character_377 ([]) ≡ row (Ended 1) ([]) ([]) 160
character_377_runs = refl

character_377_typed : is_typed character_377 ≡ true
character_377_typed = refl

-- int main(void) { return -7 / 2 + 10; }
abbrev quotient_towards_zero : Program
quotient_towards_zero = record { literals = ([]); statics = ([]); functions = (record { name = 0; type = record { result = (Some ty.Int); constant = false; parameters = ([]) }; objects = ([]); body = (typed.block 0 0 (typed.and_statement (typed.return_value ty.Int (typed.binary (at 1) op.Add ty.Int (typed.binary (at 1) op.Div ty.Int (typed.unary (at 1) prefix.Minus ty.Int (typed.constant ty.Int (pos 7))) (typed.constant ty.Int (pos 2))) (typed.constant ty.Int (pos 10)))) typed.no_statements)); nodes = 9; weight = 208 } ∷ []); main = 0 }

quotient_towards_zero_runs : seen 9 quotient_towards_zero ([]) ≡ row (Ended 7) ([]) ([]) 208
quotient_towards_zero_runs = refl

quotient_towards_zero_typed : is_typed quotient_towards_zero ≡ true
quotient_towards_zero_typed = refl

-- int main(void) { return (-8 >> 1) + 8; }
abbrev arithmetic_shift : Program
arithmetic_shift = record { literals = ([]); statics = ([]); functions = (record { name = 0; type = record { result = (Some ty.Int); constant = false; parameters = ([]) }; objects = ([]); body = (typed.block 0 0 (typed.and_statement (typed.return_value ty.Int (typed.binary (at 1) op.Add ty.Int (typed.binary (at 1) op.Shr ty.Int (typed.unary (at 1) prefix.Minus ty.Int (typed.constant ty.Int (pos 8))) (typed.constant ty.Int (pos 1))) (typed.constant ty.Int (pos 8)))) typed.no_statements)); nodes = 9; weight = 208 } ∷ []); main = 0 }

arithmetic_shift_runs : seen 9 arithmetic_shift ([]) ≡ row (Ended 4) ([]) ([]) 208
arithmetic_shift_runs = refl

arithmetic_shift_typed : is_typed arithmetic_shift ≡ true
arithmetic_shift_typed = refl

-- int main(void) { return -2147483647-1 < 0; }
abbrev least_int : Program
least_int = record { literals = ([]); statics = ([]); functions = (record { name = 0; type = record { result = (Some ty.Int); constant = false; parameters = ([]) }; objects = ([]); body = (typed.block 0 0 (typed.and_statement (typed.return_value ty.Int (typed.binary (at 1) op.Less ty.Int (typed.binary (at 1) op.Sub ty.Int (typed.unary (at 1) prefix.Minus ty.Int (typed.constant ty.Int (pos 2147483647))) (typed.constant ty.Int (pos 1))) (typed.constant ty.Int (pos 0)))) typed.no_statements)); nodes = 9; weight = 208 } ∷ []); main = 0 }

least_int_runs : seen 9 least_int ([]) ≡ row (Ended 1) ([]) ([]) 208
least_int_runs = refl

least_int_typed : is_typed least_int ≡ true
least_int_typed = refl

-- int main(void) { char c = 255; c++; return c; }
abbrev char_wraps : Program
char_wraps = record { literals = ([]); statics = ([]); functions = (record { name = 0; type = record { result = (Some ty.Int); constant = false; parameters = ([]) }; objects = ((object ty.Char false ([])) ∷ []); body = (typed.block 0 1 (typed.and_statement (typed.define 0 (typed.one_value ty.Char (typed.constant ty.Int (pos 255)))) (typed.and_statement (typed.evaluate (typed.stepped (at 1) typed.after step.Increment ty.Char ty.Int (typed.named (at 1) (typed.automatic 0)))) (typed.and_statement (typed.return_value ty.Int (typed.read ty.Char (typed.named (at 1) (typed.automatic 0)))) typed.no_statements)))); nodes = 9; weight = 224 } ∷ []); main = 0 }

char_wraps_runs : seen 10 char_wraps ([]) ≡ row (Ended 0) ([]) ([]) 224
char_wraps_runs = refl

char_wraps_typed : is_typed char_wraps ≡ true
char_wraps_typed = refl

-- int main(void) { unsigned char c = 200; c += 100; return c; }
abbrev compound_converts : Program
compound_converts = record { literals = ([]); statics = ([]); functions = (record { name = 0; type = record { result = (Some ty.Int); constant = false; parameters = ([]) }; objects = ((object ty.UChar false ([])) ∷ []); body = (typed.block 0 1 (typed.and_statement (typed.define 0 (typed.one_value ty.UChar (typed.constant ty.Int (pos 200)))) (typed.and_statement (typed.evaluate (typed.compound (at 1) op.Add ty.UChar ty.Int (typed.named (at 1) (typed.automatic 0)) (typed.constant ty.Int (pos 100)))) (typed.and_statement (typed.return_value ty.Int (typed.read ty.UChar (typed.named (at 1) (typed.automatic 0)))) typed.no_statements)))); nodes = 10; weight = 240 } ∷ []); main = 0 }

compound_converts_runs : seen 11 compound_converts ([]) ≡ row (Ended 44) ([]) ([]) 240
compound_converts_runs = refl

compound_converts_typed : is_typed compound_converts ≡ true
compound_converts_typed = refl

-- int main(void) { unsigned a = 0; a--; return a == 4294967295u; }
abbrev unsigned_wraps : Program
unsigned_wraps = record { literals = ([]); statics = ([]); functions = (record { name = 0; type = record { result = (Some ty.Int); constant = false; parameters = ([]) }; objects = ((object ty.UInt false ([])) ∷ []); body = (typed.block 0 1 (typed.and_statement (typed.define 0 (typed.one_value ty.UInt (typed.constant ty.Int (pos 0)))) (typed.and_statement (typed.evaluate (typed.stepped (at 1) typed.after step.Decrement ty.UInt ty.UInt (typed.named (at 1) (typed.automatic 0)))) (typed.and_statement (typed.return_value ty.Int (typed.binary (at 1) op.Equal ty.UInt (typed.read ty.UInt (typed.named (at 1) (typed.automatic 0))) (typed.constant ty.UInt (pos 4294967295)))) typed.no_statements)))); nodes = 11; weight = 256 } ∷ []); main = 0 }

unsigned_wraps_runs : seen 12 unsigned_wraps ([]) ≡ row (Ended 1) ([]) ([]) 256
unsigned_wraps_runs = refl

unsigned_wraps_typed : is_typed unsigned_wraps ≡ true
unsigned_wraps_typed = refl

-- int main(void) { return -7 % 3 + 5; }
abbrev remainder_sign : Program
remainder_sign = record { literals = ([]); statics = ([]); functions = (record { name = 0; type = record { result = (Some ty.Int); constant = false; parameters = ([]) }; objects = ([]); body = (typed.block 0 0 (typed.and_statement (typed.return_value ty.Int (typed.binary (at 1) op.Add ty.Int (typed.binary (at 1) op.Rem ty.Int (typed.unary (at 1) prefix.Minus ty.Int (typed.constant ty.Int (pos 7))) (typed.constant ty.Int (pos 3))) (typed.constant ty.Int (pos 5)))) typed.no_statements)); nodes = 9; weight = 208 } ∷ []); main = 0 }

remainder_sign_runs : seen 9 remainder_sign ([]) ≡ row (Ended 4) ([]) ([]) 208
remainder_sign_runs = refl

remainder_sign_typed : is_typed remainder_sign ≡ true
remainder_sign_typed = refl

-- int main(void) { int x = 5; return ~x + !x + +x + 20 - -x; }
abbrev signs : Program
signs = record { literals = ([]); statics = ([]); functions = (record { name = 0; type = record { result = (Some ty.Int); constant = false; parameters = ([]) }; objects = ((object ty.Int false ([])) ∷ []); body = (typed.block 0 1 (typed.and_statement (typed.define 0 (typed.one_value ty.Int (typed.constant ty.Int (pos 5)))) (typed.and_statement (typed.return_value ty.Int (typed.binary (at 1) op.Sub ty.Int (typed.binary (at 1) op.Add ty.Int (typed.binary (at 1) op.Add ty.Int (typed.binary (at 1) op.Add ty.Int (typed.unary (at 1) prefix.Complement ty.Int (typed.read ty.Int (typed.named (at 1) (typed.automatic 0)))) (typed.unary (at 1) prefix.Not ty.Int (typed.read ty.Int (typed.named (at 1) (typed.automatic 0))))) (typed.unary (at 1) prefix.Plus ty.Int (typed.read ty.Int (typed.named (at 1) (typed.automatic 0))))) (typed.constant ty.Int (pos 20))) (typed.unary (at 1) prefix.Minus ty.Int (typed.read ty.Int (typed.named (at 1) (typed.automatic 0)))))) typed.no_statements))); nodes = 18; weight = 368 } ∷ []); main = 0 }

signs_runs : seen 19 signs ([]) ≡ row (Ended 24) ([]) ([]) 368
signs_runs = refl

signs_typed : is_typed signs ≡ true
signs_typed = refl

-- int main(void) { return (12 & 10) + (12 ^ 10) + (12 | 10); }
abbrev bits : Program
bits = record { literals = ([]); statics = ([]); functions = (record { name = 0; type = record { result = (Some ty.Int); constant = false; parameters = ([]) }; objects = ([]); body = (typed.block 0 0 (typed.and_statement (typed.return_value ty.Int (typed.binary (at 1) op.Add ty.Int (typed.binary (at 1) op.Add ty.Int (typed.binary (at 1) op.BitAnd ty.Int (typed.constant ty.Int (pos 12)) (typed.constant ty.Int (pos 10))) (typed.binary (at 1) op.BitXor ty.Int (typed.constant ty.Int (pos 12)) (typed.constant ty.Int (pos 10)))) (typed.binary (at 1) op.BitOr ty.Int (typed.constant ty.Int (pos 12)) (typed.constant ty.Int (pos 10))))) typed.no_statements)); nodes = 14; weight = 288 } ∷ []); main = 0 }

bits_runs : seen 14 bits ([]) ≡ row (Ended 28) ([]) ([]) 288
bits_runs = refl

bits_typed : is_typed bits ≡ true
bits_typed = refl

-- int main(void) { return (signed char)300; }
abbrev cast_to_signed_char : Program
cast_to_signed_char = record { literals = ([]); statics = ([]); functions = (record { name = 0; type = record { result = (Some ty.Int); constant = false; parameters = ([]) }; objects = ([]); body = (typed.block 0 0 (typed.and_statement (typed.return_value ty.Int (typed.cast ty.SChar (typed.constant ty.Int (pos 300)))) typed.no_statements)); nodes = 5; weight = 144 } ∷ []); main = 0 }

cast_to_signed_char_runs : seen 5 cast_to_signed_char ([]) ≡ row (Ended 44) ([]) ([]) 144
cast_to_signed_char_runs = refl

cast_to_signed_char_typed : is_typed cast_to_signed_char ≡ true
cast_to_signed_char_typed = refl

-- int main(void) { int i = 3; int a = i++; int b = ++i; return a * 10 + b + i--; }
abbrev step_values : Program
step_values = record { literals = ([]); statics = ([]); functions = (record { name = 0; type = record { result = (Some ty.Int); constant = false; parameters = ([]) }; objects = ((object ty.Int false ([])) ∷ (object ty.Int false ([])) ∷ (object ty.Int false ([])) ∷ []); body = (typed.block 0 3 (typed.and_statement (typed.define 0 (typed.one_value ty.Int (typed.constant ty.Int (pos 3)))) (typed.and_statement (typed.define 1 (typed.one_value ty.Int (typed.stepped (at 1) typed.after step.Increment ty.Int ty.Int (typed.named (at 1) (typed.automatic 0))))) (typed.and_statement (typed.define 2 (typed.one_value ty.Int (typed.stepped (at 1) typed.before step.Increment ty.Int ty.Int (typed.named (at 1) (typed.automatic 0))))) (typed.and_statement (typed.return_value ty.Int (typed.binary (at 1) op.Add ty.Int (typed.binary (at 1) op.Add ty.Int (typed.binary (at 1) op.Mul ty.Int (typed.read ty.Int (typed.named (at 1) (typed.automatic 1))) (typed.constant ty.Int (pos 10))) (typed.read ty.Int (typed.named (at 1) (typed.automatic 2)))) (typed.stepped (at 1) typed.after step.Decrement ty.Int ty.Int (typed.named (at 1) (typed.automatic 0))))) typed.no_statements))))); nodes = 19; weight = 384 } ∷ []); main = 0 }

step_values_runs : seen 22 step_values ([]) ≡ row (Ended 40) ([]) ([]) 384
step_values_runs = refl

step_values_typed : is_typed step_values ≡ true
step_values_typed = refl

-- int main(void) { long a = -1; return a > 1u; }
abbrev long_mixes : Program
long_mixes = record { literals = ([]); statics = ([]); functions = (record { name = 0; type = record { result = (Some ty.Int); constant = false; parameters = ([]) }; objects = ((object ty.Long false ([])) ∷ []); body = (typed.block 0 1 (typed.and_statement (typed.define 0 (typed.one_value ty.Long (typed.unary (at 1) prefix.Minus ty.Int (typed.constant ty.Int (pos 1))))) (typed.and_statement (typed.return_value ty.Int (typed.binary (at 1) op.Greater ty.ULong (typed.read ty.Long (typed.named (at 1) (typed.automatic 0))) (typed.constant ty.UInt (pos 1)))) typed.no_statements))); nodes = 9; weight = 224 } ∷ []); main = 0 }

long_mixes_runs : seen 10 long_mixes ([]) ≡ row (Ended 1) ([]) ([]) 224
long_mixes_runs = refl

long_mixes_typed : is_typed long_mixes ≡ true
long_mixes_typed = refl

-- int main(void) { unsigned short a = 65535; return a * a; }
abbrev product_overflows : Program
product_overflows = record { literals = ([]); statics = ([]); functions = (record { name = 0; type = record { result = (Some ty.Int); constant = false; parameters = ([]) }; objects = ((object ty.UShort false ([])) ∷ []); body = (typed.block 0 1 (typed.and_statement (typed.define 0 (typed.one_value ty.UShort (typed.constant ty.Int (pos 65535)))) (typed.and_statement (typed.return_value ty.Int (typed.binary (at 1) op.Mul ty.Int (typed.read ty.UShort (typed.named (at 1) (typed.automatic 0))) (typed.read ty.UShort (typed.named (at 1) (typed.automatic 0))))) typed.no_statements))); nodes = 8; weight = 208 } ∷ []); main = 0 }

product_overflows_runs : seen 9 product_overflows ([]) ≡ row (Undefined act.U1 (at 1)) ([]) ([]) 208
product_overflows_runs = refl

product_overflows_typed : is_typed product_overflows ≡ true
product_overflows_typed = refl

-- int main(void) { int a = -2147483647 - 1; return a % -1; }
abbrev least_remainder : Program
least_remainder = record { literals = ([]); statics = ([]); functions = (record { name = 0; type = record { result = (Some ty.Int); constant = false; parameters = ([]) }; objects = ((object ty.Int false ([])) ∷ []); body = (typed.block 0 1 (typed.and_statement (typed.define 0 (typed.one_value ty.Int (typed.binary (at 1) op.Sub ty.Int (typed.unary (at 1) prefix.Minus ty.Int (typed.constant ty.Int (pos 2147483647))) (typed.constant ty.Int (pos 1))))) (typed.and_statement (typed.return_value ty.Int (typed.binary (at 1) op.Rem ty.Int (typed.read ty.Int (typed.named (at 1) (typed.automatic 0))) (typed.unary (at 1) prefix.Minus ty.Int (typed.constant ty.Int (pos 1))))) typed.no_statements))); nodes = 12; weight = 272 } ∷ []); main = 0 }

least_remainder_runs : seen 13 least_remainder ([]) ≡ row (Undefined act.U1 (at 1)) ([]) ([]) 272
least_remainder_runs = refl

least_remainder_typed : is_typed least_remainder ≡ true
least_remainder_typed = refl

-- int main(void) { int x = x; return x; }
abbrev own_initialiser : Program
own_initialiser = record { literals = ([]); statics = ([]); functions = (record { name = 0; type = record { result = (Some ty.Int); constant = false; parameters = ([]) }; objects = ((object ty.Int false ([])) ∷ []); body = (typed.block 0 1 (typed.and_statement (typed.define 0 (typed.one_value ty.Int (typed.read ty.Int (typed.named (at 1) (typed.automatic 0))))) (typed.and_statement (typed.return_value ty.Int (typed.read ty.Int (typed.named (at 1) (typed.automatic 0)))) typed.no_statements))); nodes = 6; weight = 176 } ∷ []); main = 0 }

own_initialiser_runs : seen 4 own_initialiser ([]) ≡ row (Undefined act.U6 (at 1)) ([]) ([]) 176
own_initialiser_runs = refl

own_initialiser_typed : is_typed own_initialiser ≡ true
own_initialiser_typed = refl

-- int main(void) { int a = -2147483647 - 1; return a / -1; }
abbrev least_quotient : Program
least_quotient = record { literals = ([]); statics = ([]); functions = (record { name = 0; type = record { result = (Some ty.Int); constant = false; parameters = ([]) }; objects = ((object ty.Int false ([])) ∷ []); body = (typed.block 0 1 (typed.and_statement (typed.define 0 (typed.one_value ty.Int (typed.binary (at 1) op.Sub ty.Int (typed.unary (at 1) prefix.Minus ty.Int (typed.constant ty.Int (pos 2147483647))) (typed.constant ty.Int (pos 1))))) (typed.and_statement (typed.return_value ty.Int (typed.binary (at 1) op.Div ty.Int (typed.read ty.Int (typed.named (at 1) (typed.automatic 0))) (typed.unary (at 1) prefix.Minus ty.Int (typed.constant ty.Int (pos 1))))) typed.no_statements))); nodes = 12; weight = 272 } ∷ []); main = 0 }

least_quotient_runs : seen 13 least_quotient ([]) ≡ row (Undefined act.U1 (at 1)) ([]) ([]) 272
least_quotient_runs = refl

least_quotient_typed : is_typed least_quotient ≡ true
least_quotient_typed = refl

-- int main(void) { int a = -2147483647 - 1;
-- return -a; }
abbrev negation_overflows : Program
negation_overflows = record { literals = ([]); statics = ([]); functions = (record { name = 0; type = record { result = (Some ty.Int); constant = false; parameters = ([]) }; objects = ((object ty.Int false ([])) ∷ []); body = (typed.block 0 1 (typed.and_statement (typed.define 0 (typed.one_value ty.Int (typed.binary (at 1) op.Sub ty.Int (typed.unary (at 1) prefix.Minus ty.Int (typed.constant ty.Int (pos 2147483647))) (typed.constant ty.Int (pos 1))))) (typed.and_statement (typed.return_value ty.Int (typed.unary (at 2) prefix.Minus ty.Int (typed.read ty.Int (typed.named (at 2) (typed.automatic 0))))) typed.no_statements))); nodes = 10; weight = 240 } ∷ []); main = 0 }

negation_overflows_runs : seen 11 negation_overflows ([]) ≡ row (Undefined act.U1 (at 2)) ([]) ([]) 240
negation_overflows_runs = refl

negation_overflows_typed : is_typed negation_overflows ≡ true
negation_overflows_typed = refl

-- int main(void) { int a = 2147483647;
-- a++; return 0; }
abbrev increment_overflows : Program
increment_overflows = record { literals = ([]); statics = ([]); functions = (record { name = 0; type = record { result = (Some ty.Int); constant = false; parameters = ([]) }; objects = ((object ty.Int false ([])) ∷ []); body = (typed.block 0 1 (typed.and_statement (typed.define 0 (typed.one_value ty.Int (typed.constant ty.Int (pos 2147483647)))) (typed.and_statement (typed.evaluate (typed.stepped (at 2) typed.after step.Increment ty.Int ty.Int (typed.named (at 2) (typed.automatic 0)))) (typed.and_statement (typed.return_value ty.Int (typed.constant ty.Int (pos 0))) typed.no_statements)))); nodes = 9; weight = 224 } ∷ []); main = 0 }

increment_overflows_runs : seen 8 increment_overflows ([]) ≡ row (Undefined act.U1 (at 2)) ([]) ([]) 224
increment_overflows_runs = refl

increment_overflows_typed : is_typed increment_overflows ≡ true
increment_overflows_typed = refl

-- int main(void) { int a = 2147483647;
--
-- a += 1; return 0; }
abbrev compound_overflows : Program
compound_overflows = record { literals = ([]); statics = ([]); functions = (record { name = 0; type = record { result = (Some ty.Int); constant = false; parameters = ([]) }; objects = ((object ty.Int false ([])) ∷ []); body = (typed.block 0 1 (typed.and_statement (typed.define 0 (typed.one_value ty.Int (typed.constant ty.Int (pos 2147483647)))) (typed.and_statement (typed.evaluate (typed.compound (at 3) op.Add ty.Int ty.Int (typed.named (at 3) (typed.automatic 0)) (typed.constant ty.Int (pos 1)))) (typed.and_statement (typed.return_value ty.Int (typed.constant ty.Int (pos 0))) typed.no_statements)))); nodes = 10; weight = 240 } ∷ []); main = 0 }

compound_overflows_runs : seen 9 compound_overflows ([]) ≡ row (Undefined act.U1 (at 3)) ([]) ([]) 240
compound_overflows_runs = refl

compound_overflows_typed : is_typed compound_overflows ≡ true
compound_overflows_typed = refl

-- int main(void) { int a = 0; return 1 / a; }
abbrev zero_divisor : Program
zero_divisor = record { literals = ([]); statics = ([]); functions = (record { name = 0; type = record { result = (Some ty.Int); constant = false; parameters = ([]) }; objects = ((object ty.Int false ([])) ∷ []); body = (typed.block 0 1 (typed.and_statement (typed.define 0 (typed.one_value ty.Int (typed.constant ty.Int (pos 0)))) (typed.and_statement (typed.return_value ty.Int (typed.binary (at 1) op.Div ty.Int (typed.constant ty.Int (pos 1)) (typed.read ty.Int (typed.named (at 1) (typed.automatic 0))))) typed.no_statements))); nodes = 8; weight = 208 } ∷ []); main = 0 }

zero_divisor_runs : seen 9 zero_divisor ([]) ≡ row (Undefined act.U2 (at 1)) ([]) ([]) 208
zero_divisor_runs = refl

zero_divisor_typed : is_typed zero_divisor ≡ true
zero_divisor_typed = refl

-- int main(void) { int a = 0; return 1 % a; }
abbrev zero_remainder : Program
zero_remainder = record { literals = ([]); statics = ([]); functions = (record { name = 0; type = record { result = (Some ty.Int); constant = false; parameters = ([]) }; objects = ((object ty.Int false ([])) ∷ []); body = (typed.block 0 1 (typed.and_statement (typed.define 0 (typed.one_value ty.Int (typed.constant ty.Int (pos 0)))) (typed.and_statement (typed.return_value ty.Int (typed.binary (at 1) op.Rem ty.Int (typed.constant ty.Int (pos 1)) (typed.read ty.Int (typed.named (at 1) (typed.automatic 0))))) typed.no_statements))); nodes = 8; weight = 208 } ∷ []); main = 0 }

zero_remainder_runs : seen 9 zero_remainder ([]) ≡ row (Undefined act.U2 (at 1)) ([]) ([]) 208
zero_remainder_runs = refl

zero_remainder_typed : is_typed zero_remainder ≡ true
zero_remainder_typed = refl

-- int main(void) { int a = -1; return 1 << a; }
abbrev shift_count_negative : Program
shift_count_negative = record { literals = ([]); statics = ([]); functions = (record { name = 0; type = record { result = (Some ty.Int); constant = false; parameters = ([]) }; objects = ((object ty.Int false ([])) ∷ []); body = (typed.block 0 1 (typed.and_statement (typed.define 0 (typed.one_value ty.Int (typed.unary (at 1) prefix.Minus ty.Int (typed.constant ty.Int (pos 1))))) (typed.and_statement (typed.return_value ty.Int (typed.binary (at 1) op.Shl ty.Int (typed.constant ty.Int (pos 1)) (typed.read ty.Int (typed.named (at 1) (typed.automatic 0))))) typed.no_statements))); nodes = 9; weight = 224 } ∷ []); main = 0 }

shift_count_negative_runs : seen 10 shift_count_negative ([]) ≡ row (Undefined act.U3 (at 1)) ([]) ([]) 224
shift_count_negative_runs = refl

shift_count_negative_typed : is_typed shift_count_negative ≡ true
shift_count_negative_typed = refl

-- int main(void) { int a = 32; return 1u << a; }
abbrev shift_count_width : Program
shift_count_width = record { literals = ([]); statics = ([]); functions = (record { name = 0; type = record { result = (Some ty.Int); constant = false; parameters = ([]) }; objects = ((object ty.Int false ([])) ∷ []); body = (typed.block 0 1 (typed.and_statement (typed.define 0 (typed.one_value ty.Int (typed.constant ty.Int (pos 32)))) (typed.and_statement (typed.return_value ty.Int (typed.binary (at 1) op.Shl ty.UInt (typed.constant ty.UInt (pos 1)) (typed.read ty.Int (typed.named (at 1) (typed.automatic 0))))) typed.no_statements))); nodes = 8; weight = 208 } ∷ []); main = 0 }

shift_count_width_runs : seen 9 shift_count_width ([]) ≡ row (Undefined act.U3 (at 1)) ([]) ([]) 208
shift_count_width_runs = refl

shift_count_width_typed : is_typed shift_count_width ≡ true
shift_count_width_typed = refl

-- int main(void) { int a = -1; return a << 32; }
abbrev count_before_operand : Program
count_before_operand = record { literals = ([]); statics = ([]); functions = (record { name = 0; type = record { result = (Some ty.Int); constant = false; parameters = ([]) }; objects = ((object ty.Int false ([])) ∷ []); body = (typed.block 0 1 (typed.and_statement (typed.define 0 (typed.one_value ty.Int (typed.unary (at 1) prefix.Minus ty.Int (typed.constant ty.Int (pos 1))))) (typed.and_statement (typed.return_value ty.Int (typed.binary (at 1) op.Shl ty.Int (typed.read ty.Int (typed.named (at 1) (typed.automatic 0))) (typed.constant ty.Int (pos 32)))) typed.no_statements))); nodes = 9; weight = 224 } ∷ []); main = 0 }

count_before_operand_runs : seen 10 count_before_operand ([]) ≡ row (Undefined act.U3 (at 1)) ([]) ([]) 224
count_before_operand_runs = refl

count_before_operand_typed : is_typed count_before_operand ≡ true
count_before_operand_typed = refl

-- int main(void) { int a = -1; return a << 1; }
abbrev shifts_negative : Program
shifts_negative = record { literals = ([]); statics = ([]); functions = (record { name = 0; type = record { result = (Some ty.Int); constant = false; parameters = ([]) }; objects = ((object ty.Int false ([])) ∷ []); body = (typed.block 0 1 (typed.and_statement (typed.define 0 (typed.one_value ty.Int (typed.unary (at 1) prefix.Minus ty.Int (typed.constant ty.Int (pos 1))))) (typed.and_statement (typed.return_value ty.Int (typed.binary (at 1) op.Shl ty.Int (typed.read ty.Int (typed.named (at 1) (typed.automatic 0))) (typed.constant ty.Int (pos 1)))) typed.no_statements))); nodes = 9; weight = 224 } ∷ []); main = 0 }

shifts_negative_runs : seen 10 shifts_negative ([]) ≡ row (Undefined act.U4 (at 1)) ([]) ([]) 224
shifts_negative_runs = refl

shifts_negative_typed : is_typed shifts_negative ≡ true
shifts_negative_typed = refl

-- int main(void) { int a = 1; return a << 31; }
abbrev shift_overflows : Program
shift_overflows = record { literals = ([]); statics = ([]); functions = (record { name = 0; type = record { result = (Some ty.Int); constant = false; parameters = ([]) }; objects = ((object ty.Int false ([])) ∷ []); body = (typed.block 0 1 (typed.and_statement (typed.define 0 (typed.one_value ty.Int (typed.constant ty.Int (pos 1)))) (typed.and_statement (typed.return_value ty.Int (typed.binary (at 1) op.Shl ty.Int (typed.read ty.Int (typed.named (at 1) (typed.automatic 0))) (typed.constant ty.Int (pos 31)))) typed.no_statements))); nodes = 8; weight = 208 } ∷ []); main = 0 }

shift_overflows_runs : seen 9 shift_overflows ([]) ≡ row (Undefined act.U4 (at 1)) ([]) ([]) 208
shift_overflows_runs = refl

shift_overflows_typed : is_typed shift_overflows ≡ true
shift_overflows_typed = refl

-- int main(void) { unsigned a = 3; return (a << 31) == 2147483648u; }
abbrev unsigned_shift : Program
unsigned_shift = record { literals = ([]); statics = ([]); functions = (record { name = 0; type = record { result = (Some ty.Int); constant = false; parameters = ([]) }; objects = ((object ty.UInt false ([])) ∷ []); body = (typed.block 0 1 (typed.and_statement (typed.define 0 (typed.one_value ty.UInt (typed.constant ty.Int (pos 3)))) (typed.and_statement (typed.return_value ty.Int (typed.binary (at 1) op.Equal ty.UInt (typed.binary (at 1) op.Shl ty.UInt (typed.read ty.UInt (typed.named (at 1) (typed.automatic 0))) (typed.constant ty.Int (pos 31))) (typed.constant ty.UInt (pos 2147483648)))) typed.no_statements))); nodes = 10; weight = 240 } ∷ []); main = 0 }

unsigned_shift_runs : seen 11 unsigned_shift ([]) ≡ row (Ended 1) ([]) ([]) 240
unsigned_shift_runs = refl

unsigned_shift_typed : is_typed unsigned_shift ≡ true
unsigned_shift_typed = refl

-- int main(void) { int a = 1; return a >> 32; }
abbrev right_shift_of_width : Program
right_shift_of_width = record { literals = ([]); statics = ([]); functions = (record { name = 0; type = record { result = (Some ty.Int); constant = false; parameters = ([]) }; objects = ((object ty.Int false ([])) ∷ []); body = (typed.block 0 1 (typed.and_statement (typed.define 0 (typed.one_value ty.Int (typed.constant ty.Int (pos 1)))) (typed.and_statement (typed.return_value ty.Int (typed.binary (at 1) op.Shr ty.Int (typed.read ty.Int (typed.named (at 1) (typed.automatic 0))) (typed.constant ty.Int (pos 32)))) typed.no_statements))); nodes = 8; weight = 208 } ∷ []); main = 0 }

right_shift_of_width_runs : seen 9 right_shift_of_width ([]) ≡ row (Undefined act.U3 (at 1)) ([]) ([]) 208
right_shift_of_width_runs = refl

right_shift_of_width_typed : is_typed right_shift_of_width ≡ true
right_shift_of_width_typed = refl

-- int f(int p[]) { return p[3]; }
-- int main(void) { static int m[5][3]; return f(m[2]); }
abbrev row_is_bound : Program
row_is_bound = record { literals = ([]); statics = (record { type = (object ty.Int false (5 ∷ 3 ∷ [])); defined = true; values = ([]) } ∷ []); functions = (record { name = 0; type = record { result = (Some ty.Int); constant = false; parameters = (elements (object ty.Int false ([])) ∷ []) }; objects = ([]); body = (typed.block 0 0 (typed.and_statement (typed.return_value ty.Int (typed.read ty.Int (typed.element (at 1) (typed.named (at 1) (typed.parameter 0)) (typed.constant ty.Int (pos 3))))) typed.no_statements)); nodes = 7; weight = 192 } ∷ record { name = 1; type = record { result = (Some ty.Int); constant = false; parameters = ([]) }; objects = ([]); body = (typed.block 0 0 (typed.and_statement (typed.return_value ty.Int (typed.call (at 2) (typed.function 0) (Some ty.Int) true (typed.and_array (typed.element (at 2) (typed.named (at 2) (typed.static 0)) (typed.constant ty.Int (pos 2))) typed.no_arguments))) typed.no_statements)); nodes = 10; weight = 224 } ∷ []); main = 1 }

row_is_bound_runs : seen 14 row_is_bound ([]) ≡ row (Undefined act.U5 (at 1)) ([]) ([]) 416
row_is_bound_runs = refl

row_is_bound_typed : is_typed row_is_bound ≡ true
row_is_bound_typed = refl

-- int main(void) { int a[2] = {1, 2}; return a[2]; }
abbrev past_the_end : Program
past_the_end = record { literals = ([]); statics = ([]); functions = (record { name = 0; type = record { result = (Some ty.Int); constant = false; parameters = ([]) }; objects = ((object ty.Int false (2 ∷ [])) ∷ []); body = (typed.block 0 1 (typed.and_statement (typed.define 0 (typed.list (typed.and_initialiser (typed.one_value ty.Int (typed.constant ty.Int (pos 1))) (typed.and_initialiser (typed.one_value ty.Int (typed.constant ty.Int (pos 2))) typed.no_initialisers)))) (typed.and_statement (typed.return_value ty.Int (typed.read ty.Int (typed.element (at 1) (typed.named (at 1) (typed.automatic 0)) (typed.constant ty.Int (pos 2))))) typed.no_statements))); nodes = 11; weight = 256 } ∷ []); main = 0 }

past_the_end_runs : seen 12 past_the_end ([]) ≡ row (Undefined act.U5 (at 1)) ([]) ([]) 256
past_the_end_runs = refl

past_the_end_typed : is_typed past_the_end ≡ true
past_the_end_typed = refl

-- int main(void) { int a[2] = {1, 2}; return a[-1]; }
abbrev negative_subscript : Program
negative_subscript = record { literals = ([]); statics = ([]); functions = (record { name = 0; type = record { result = (Some ty.Int); constant = false; parameters = ([]) }; objects = ((object ty.Int false (2 ∷ [])) ∷ []); body = (typed.block 0 1 (typed.and_statement (typed.define 0 (typed.list (typed.and_initialiser (typed.one_value ty.Int (typed.constant ty.Int (pos 1))) (typed.and_initialiser (typed.one_value ty.Int (typed.constant ty.Int (pos 2))) typed.no_initialisers)))) (typed.and_statement (typed.return_value ty.Int (typed.read ty.Int (typed.element (at 1) (typed.named (at 1) (typed.automatic 0)) (typed.unary (at 1) prefix.Minus ty.Int (typed.constant ty.Int (pos 1)))))) typed.no_statements))); nodes = 12; weight = 272 } ∷ []); main = 0 }

negative_subscript_runs : seen 13 negative_subscript ([]) ≡ row (Undefined act.U5 (at 1)) ([]) ([]) 272
negative_subscript_runs = refl

negative_subscript_typed : is_typed negative_subscript ≡ true
negative_subscript_typed = refl

-- void rv_putbyte(int c); int f(void) { rv_putbyte(65); return 1; }
-- int main(void) { int a[2]; a[2] = f(); return 0; }
abbrev element_before_right_side : Program
element_before_right_side = record { literals = ([]); statics = ([]); functions = (record { name = 0; type = record { result = (Some ty.Int); constant = false; parameters = ([]) }; objects = ([]); body = (typed.block 0 0 (typed.and_statement (typed.evaluate (typed.call (at 1) typed.put_byte None false (typed.and_number ty.Int (typed.constant ty.Int (pos 65)) typed.no_arguments))) (typed.and_statement (typed.return_value ty.Int (typed.constant ty.Int (pos 1))) typed.no_statements))); nodes = 7; weight = 176 } ∷ record { name = 1; type = record { result = (Some ty.Int); constant = false; parameters = ([]) }; objects = ((object ty.Int false (2 ∷ [])) ∷ []); body = (typed.block 0 1 (typed.and_statement (typed.declare 0) (typed.and_statement (typed.evaluate (typed.assigned (at 2) ty.Int (typed.element (at 2) (typed.named (at 2) (typed.automatic 0)) (typed.constant ty.Int (pos 2))) (typed.call (at 2) (typed.function 0) (Some ty.Int) true typed.no_arguments))) (typed.and_statement (typed.return_value ty.Int (typed.constant ty.Int (pos 0))) typed.no_statements)))); nodes = 12; weight = 272 } ∷ []); main = 1 }

element_before_right_side_runs : seen 8 element_before_right_side ([]) ≡ row (Undefined act.U5 (at 2)) ([]) ([]) 272
element_before_right_side_runs = refl

element_before_right_side_typed : is_typed element_before_right_side ≡ true
element_before_right_side_typed = refl

-- int main(void) { int a[2]; a[0] = 1;
-- return a[1]; }
abbrev element_indeterminate : Program
element_indeterminate = record { literals = ([]); statics = ([]); functions = (record { name = 0; type = record { result = (Some ty.Int); constant = false; parameters = ([]) }; objects = ((object ty.Int false (2 ∷ [])) ∷ []); body = (typed.block 0 1 (typed.and_statement (typed.declare 0) (typed.and_statement (typed.evaluate (typed.assigned (at 1) ty.Int (typed.element (at 1) (typed.named (at 1) (typed.automatic 0)) (typed.constant ty.Int (pos 0))) (typed.constant ty.Int (pos 1)))) (typed.and_statement (typed.return_value ty.Int (typed.read ty.Int (typed.element (at 2) (typed.named (at 2) (typed.automatic 0)) (typed.constant ty.Int (pos 1))))) typed.no_statements)))); nodes = 14; weight = 304 } ∷ []); main = 0 }

element_indeterminate_runs : seen 13 element_indeterminate ([]) ≡ row (Undefined act.U6 (at 2)) ([]) ([]) 304
element_indeterminate_runs = refl

element_indeterminate_typed : is_typed element_indeterminate ≡ true
element_indeterminate_typed = refl

-- void f(char s[]) { s[0] = 1; }
-- int main(void) { f("a"); return 0; }
abbrev writes_literal : Program
writes_literal = record { literals = ((97 ∷ 0 ∷ []) ∷ []); statics = ([]); functions = (record { name = 0; type = record { result = None; constant = false; parameters = (elements (object ty.Char false ([])) ∷ []) }; objects = ([]); body = (typed.block 0 0 (typed.and_statement (typed.evaluate (typed.assigned (at 1) ty.Char (typed.element (at 1) (typed.named (at 1) (typed.parameter 0)) (typed.constant ty.Int (pos 0))) (typed.constant ty.Int (pos 1)))) typed.no_statements)); nodes = 9; weight = 224 } ∷ record { name = 1; type = record { result = (Some ty.Int); constant = false; parameters = ([]) }; objects = ([]); body = (typed.block 0 0 (typed.and_statement (typed.evaluate (typed.call (at 2) (typed.function 0) None false (typed.and_array (typed.named (at 2) (typed.literal 0)) typed.no_arguments))) (typed.and_statement (typed.return_value ty.Int (typed.constant ty.Int (pos 0))) typed.no_statements))); nodes = 7; weight = 176 } ∷ []); main = 1 }

writes_literal_runs : seen 14 writes_literal ([]) ≡ row (Undefined act.U7 (at 1)) ([]) ([]) 400
writes_literal_runs = refl

writes_literal_typed : is_typed writes_literal ≡ true
writes_literal_typed = refl

-- int main(void) { "abc"[1] = 2; return 0; }
abbrev writes_literal_here : Program
writes_literal_here = record { literals = ((97 ∷ 98 ∷ 99 ∷ 0 ∷ []) ∷ []); statics = ([]); functions = (record { name = 0; type = record { result = (Some ty.Int); constant = false; parameters = ([]) }; objects = ([]); body = (typed.block 0 0 (typed.and_statement (typed.evaluate (typed.assigned (at 1) ty.Char (typed.element (at 1) (typed.named (at 1) (typed.literal 0)) (typed.constant ty.Int (pos 1))) (typed.constant ty.Int (pos 2)))) (typed.and_statement (typed.return_value ty.Int (typed.constant ty.Int (pos 0))) typed.no_statements))); nodes = 10; weight = 224 } ∷ []); main = 0 }

writes_literal_here_runs : seen 8 writes_literal_here ([]) ≡ row (Undefined act.U7 (at 1)) ([]) ([]) 224
writes_literal_here_runs = refl

writes_literal_here_typed : is_typed writes_literal_here ≡ true
writes_literal_here_typed = refl

-- int f(void) { }
-- int main(void) { return f(); }
abbrev no_value : Program
no_value = record { literals = ([]); statics = ([]); functions = (record { name = 0; type = record { result = (Some ty.Int); constant = false; parameters = ([]) }; objects = ([]); body = (typed.block 0 0 typed.no_statements); nodes = 2; weight = 96 } ∷ record { name = 1; type = record { result = (Some ty.Int); constant = false; parameters = ([]) }; objects = ([]); body = (typed.block 0 0 (typed.and_statement (typed.return_value ty.Int (typed.call (at 2) (typed.function 0) (Some ty.Int) true typed.no_arguments)) typed.no_statements)); nodes = 4; weight = 128 } ∷ []); main = 1 }

no_value_runs : seen 6 no_value ([]) ≡ row (Undefined act.U8 (at 2)) ([]) ([]) 224
no_value_runs = refl

no_value_typed : is_typed no_value ≡ true
no_value_typed = refl
