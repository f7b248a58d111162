-- Programs, computed: how each ends, the ticks that its clock has left, what it writes, the input left, and the greatest sum of the weights of active calls.
-- The source is above each; each clock has exactly the ticks that the run takes.
use Rattle.std.proofs.Common.{◌≡◌, ℕ, List, [], ◌∷◌, pos, refl, Some, None, Bool, true, false}
use Rattle.srcset.specs.declared.refusal.Pos.{Pos}
use Rattle.ctypes.specs.declared.types.IntType.{IntType}
use Rattle.ctypes.specs.declared.types.IntType.TheVariants as ty
use Rattle.ctypes.specs.declared.operators.BinOp.TheVariants as op
use Rattle.ctypes.specs.declared.operators.Undef.TheVariants as act
use Rattle.tree.specs.declared.expression.PrefixOp.TheVariants as prefix
use Rattle.tree.specs.declared.expression.StepOp.TheVariants as step
use Rattle.typing_spec.specs.Types.{ObjectType, number}
use Rattle.typing_spec.specs.Program as typed
use Rattle.typing_spec.specs.Program.{Program}
use Rattle.typing_spec.specs.WellTyped.{is_typed}
use Rattle.csem.specs.Machine.{Ending, Ended, Undefined, TicksUsed}
use Rattle.csem.specs.Meaning.{Answer, answer_of, cstep, last_of}

abbrev at : ℕ → Pos
at n = record { file = 0; line = n }

abbrev object : IntType → Bool → List ℕ → ObjectType
object t constant lengths = record { element = t; constant = constant; lengths = lengths }

-- the result of a row
pub record Seen : Type 0 where
  pub ending : Ending
  pub ticks_left : ℕ
  pub output : List ℕ
  pub input_left : List ℕ
  pub greatest : ℕ

abbrev seen_of : (ticks_left : ℕ) → Answer → Seen
seen_of n a = record { ending = a.ending; ticks_left = n; output = a.output; input_left = a.input_left; greatest = a.greatest }

abbrev seen : ℕ → Program → List ℕ → Seen
seen n p input = seen_of (last_of (cstep n p input)).clock (answer_of p (cstep n p input))

abbrev row : Ending → (output input_left : List ℕ) → (greatest : ℕ) → Seen
row ending output input_left greatest = record { ending = ending; ticks_left = 0; output = output; input_left = input_left; greatest = greatest }

-- int main(void) { int i; for (i = 0; i < 2; i++) switch (i) { int x; case 0: x = 1; break; case 1: return x; } return 0; }
abbrev switch_block_begins_anew : Program
switch_block_begins_anew = record { literals = ([]); statics = ([]); functions = (record { name = 0; type = record { result = (Some ty.Int); constant = false; parameters = ([]) }; objects = ((object ty.Int false ([])) ∷ (object ty.Int false ([])) ∷ []); body = (typed.block 0 2 (typed.and_statement (typed.declare 0) (typed.and_statement (typed.for typed.no_statements (Some (typed.assigned (at 1) ty.Int (typed.named (at 1) (typed.automatic 0)) (typed.constant ty.Int (pos 0)))) (Some (typed.binary (at 1) op.Less ty.Int (typed.read ty.Int (typed.named (at 1) (typed.automatic 0))) (typed.constant ty.Int (pos 2)))) (Some (typed.stepped (at 1) typed.after step.Increment ty.Int ty.Int (typed.named (at 1) (typed.automatic 0)))) (typed.switch ty.Int (typed.read ty.Int (typed.named (at 1) (typed.automatic 0))) 1 1 (typed.and_statement (typed.declare 1) (typed.and_statement (typed.case (pos 0)) (typed.and_statement (typed.evaluate (typed.assigned (at 1) ty.Int (typed.named (at 1) (typed.automatic 1)) (typed.constant ty.Int (pos 1)))) (typed.and_statement typed.break (typed.and_statement (typed.case (pos 1)) (typed.and_statement (typed.return_value ty.Int (typed.read ty.Int (typed.named (at 1) (typed.automatic 1)))) typed.no_statements)))))))) (typed.and_statement (typed.return_value ty.Int (typed.constant ty.Int (pos 0))) typed.no_statements)))); nodes = 29; weight = 544 } ∷ []); main = 0 }

switch_block_begins_anew_runs : seen 33 switch_block_begins_anew ([]) ≡ row (Undefined act.U6 (at 1)) ([]) ([]) 544
switch_block_begins_anew_runs = refl

switch_block_begins_anew_typed : is_typed switch_block_begins_anew ≡ true
switch_block_begins_anew_typed = refl

-- int main(void) { char s[3] = "abc"; return s[2]; }
abbrev text_is_cut : Program
text_is_cut = record { literals = ((97 ∷ 98 ∷ 99 ∷ 0 ∷ []) ∷ []); statics = ([]); functions = (record { name = 0; type = record { result = (Some ty.Int); constant = false; parameters = ([]) }; objects = ((object ty.Char false (3 ∷ [])) ∷ []); body = (typed.block 0 1 (typed.and_statement (typed.define 0 (typed.text 0)) (typed.and_statement (typed.return_value ty.Int (typed.read ty.Char (typed.element (at 1) (typed.named (at 1) (typed.automatic 0)) (typed.constant ty.Int (pos 2))))) typed.no_statements))); nodes = 9; weight = 224 } ∷ []); main = 0 }

text_is_cut_runs : seen 11 text_is_cut ([]) ≡ row (Ended 99) ([]) ([]) 224
text_is_cut_runs = refl

text_is_cut_typed : is_typed text_is_cut ≡ true
text_is_cut_typed = refl

-- int main(void) { char s[5] = "ab"; return s[2] + s[4]; }
abbrev text_is_filled : Program
text_is_filled = record { literals = ((97 ∷ 98 ∷ 0 ∷ []) ∷ []); statics = ([]); functions = (record { name = 0; type = record { result = (Some ty.Int); constant = false; parameters = ([]) }; objects = ((object ty.Char false (5 ∷ [])) ∷ []); body = (typed.block 0 1 (typed.and_statement (typed.define 0 (typed.text 0)) (typed.and_statement (typed.return_value ty.Int (typed.binary (at 1) op.Add ty.Int (typed.read ty.Char (typed.element (at 1) (typed.named (at 1) (typed.automatic 0)) (typed.constant ty.Int (pos 2)))) (typed.read ty.Char (typed.element (at 1) (typed.named (at 1) (typed.automatic 0)) (typed.constant ty.Int (pos 4)))))) typed.no_statements))); nodes = 13; weight = 288 } ∷ []); main = 0 }

text_is_filled_runs : seen 17 text_is_filled ([]) ≡ row (Ended 0) ([]) ([]) 288
text_is_filled_runs = refl

text_is_filled_typed : is_typed text_is_filled ≡ true
text_is_filled_typed = refl

-- int main(void) { char s[] = {"ab"}; return (int)sizeof s + s[1]; }
abbrev text_in_braces : Program
text_in_braces = record { literals = ((97 ∷ 98 ∷ 0 ∷ []) ∷ []); statics = ([]); functions = (record { name = 0; type = record { result = (Some ty.Int); constant = false; parameters = ([]) }; objects = ((object ty.Char false (3 ∷ [])) ∷ []); body = (typed.block 0 1 (typed.and_statement (typed.define 0 (typed.in_braces (typed.text 0))) (typed.and_statement (typed.return_value ty.Int (typed.binary (at 1) op.Add ty.Int (typed.cast ty.Int (typed.constant ty.UInt (pos 3))) (typed.read ty.Char (typed.element (at 1) (typed.named (at 1) (typed.automatic 0)) (typed.constant ty.Int (pos 1)))))) typed.no_statements))); nodes = 13; weight = 288 } ∷ []); main = 0 }

text_in_braces_runs : seen 15 text_in_braces ([]) ≡ row (Ended 101) ([]) ([]) 288
text_in_braces_runs = refl

text_in_braces_typed : is_typed text_in_braces ≡ true
text_in_braces_typed = refl

-- int main(void) { char s[2][3] = {"ab", "c"}; return s[1][0] + s[1][2]; }
abbrev rows_of_text : Program
rows_of_text = record { literals = ((97 ∷ 98 ∷ 0 ∷ []) ∷ (99 ∷ 0 ∷ []) ∷ []); statics = ([]); functions = (record { name = 0; type = record { result = (Some ty.Int); constant = false; parameters = ([]) }; objects = ((object ty.Char false (2 ∷ 3 ∷ [])) ∷ []); body = (typed.block 0 1 (typed.and_statement (typed.define 0 (typed.list (typed.and_initialiser (typed.text 0) (typed.and_initialiser (typed.text 1) typed.no_initialisers)))) (typed.and_statement (typed.return_value ty.Int (typed.binary (at 1) op.Add ty.Int (typed.read ty.Char (typed.element (at 1) (typed.element (at 1) (typed.named (at 1) (typed.automatic 0)) (typed.constant ty.Int (pos 1))) (typed.constant ty.Int (pos 0)))) (typed.read ty.Char (typed.element (at 1) (typed.element (at 1) (typed.named (at 1) (typed.automatic 0)) (typed.constant ty.Int (pos 1))) (typed.constant ty.Int (pos 2)))))) typed.no_statements))); nodes = 20; weight = 400 } ∷ []); main = 0 }

rows_of_text_runs : seen 24 rows_of_text ([]) ≡ row (Ended 99) ([]) ([]) 400
rows_of_text_runs = refl

rows_of_text_typed : is_typed rows_of_text ≡ true
rows_of_text_typed = refl

-- int main(void) { signed char s[2] = "\377"; return s[0] < 0; }
abbrev signed_text : Program
signed_text = record { literals = ((255 ∷ 0 ∷ []) ∷ []); statics = ([]); functions = (record { name = 0; type = record { result = (Some ty.Int); constant = false; parameters = ([]) }; objects = ((object ty.SChar false (2 ∷ [])) ∷ []); body = (typed.block 0 1 (typed.and_statement (typed.define 0 (typed.text 0)) (typed.and_statement (typed.return_value ty.Int (typed.binary (at 1) op.Less ty.Int (typed.read ty.SChar (typed.element (at 1) (typed.named (at 1) (typed.automatic 0)) (typed.constant ty.Int (pos 0)))) (typed.constant ty.Int (pos 0)))) typed.no_statements))); nodes = 11; weight = 256 } ∷ []); main = 0 }

signed_text_runs : seen 12 signed_text ([]) ≡ row (Ended 1) ([]) ([]) 256
signed_text_runs = refl

signed_text_typed : is_typed signed_text ≡ true
signed_text_typed = refl

-- int main(void) { int a[4] = {1, 2}; return a[0] + a[1] + a[2] + a[3]; }
abbrev unlisted_are_zero : Program
unlisted_are_zero = record { literals = ([]); statics = ([]); functions = (record { name = 0; type = record { result = (Some ty.Int); constant = false; parameters = ([]) }; objects = ((object ty.Int false (4 ∷ [])) ∷ []); body = (typed.block 0 1 (typed.and_statement (typed.define 0 (typed.list (typed.and_initialiser (typed.one_value ty.Int (typed.constant ty.Int (pos 1))) (typed.and_initialiser (typed.one_value ty.Int (typed.constant ty.Int (pos 2))) typed.no_initialisers)))) (typed.and_statement (typed.return_value ty.Int (typed.binary (at 1) op.Add ty.Int (typed.binary (at 1) op.Add ty.Int (typed.binary (at 1) op.Add ty.Int (typed.read ty.Int (typed.element (at 1) (typed.named (at 1) (typed.automatic 0)) (typed.constant ty.Int (pos 0)))) (typed.read ty.Int (typed.element (at 1) (typed.named (at 1) (typed.automatic 0)) (typed.constant ty.Int (pos 1))))) (typed.read ty.Int (typed.element (at 1) (typed.named (at 1) (typed.automatic 0)) (typed.constant ty.Int (pos 2))))) (typed.read ty.Int (typed.element (at 1) (typed.named (at 1) (typed.automatic 0)) (typed.constant ty.Int (pos 3)))))) typed.no_statements))); nodes = 23; weight = 448 } ∷ []); main = 0 }

unlisted_are_zero_runs : seen 26 unlisted_are_zero ([]) ≡ row (Ended 3) ([]) ([]) 448
unlisted_are_zero_runs = refl

unlisted_are_zero_typed : is_typed unlisted_are_zero ≡ true
unlisted_are_zero_typed = refl

-- int main(void) { int m[2][2] = {{1}}; return m[0][0] * 10 + m[1][1]; }
abbrev rows_unlisted : Program
rows_unlisted = record { literals = ([]); statics = ([]); functions = (record { name = 0; type = record { result = (Some ty.Int); constant = false; parameters = ([]) }; objects = ((object ty.Int false (2 ∷ 2 ∷ [])) ∷ []); body = (typed.block 0 1 (typed.and_statement (typed.define 0 (typed.list (typed.and_initialiser (typed.list (typed.and_initialiser (typed.one_value ty.Int (typed.constant ty.Int (pos 1))) typed.no_initialisers)) typed.no_initialisers))) (typed.and_statement (typed.return_value ty.Int (typed.binary (at 1) op.Add ty.Int (typed.binary (at 1) op.Mul ty.Int (typed.read ty.Int (typed.element (at 1) (typed.element (at 1) (typed.named (at 1) (typed.automatic 0)) (typed.constant ty.Int (pos 0))) (typed.constant ty.Int (pos 0)))) (typed.constant ty.Int (pos 10))) (typed.read ty.Int (typed.element (at 1) (typed.element (at 1) (typed.named (at 1) (typed.automatic 0)) (typed.constant ty.Int (pos 1))) (typed.constant ty.Int (pos 1)))))) typed.no_statements))); nodes = 22; weight = 432 } ∷ []); main = 0 }

rows_unlisted_runs : seen 24 rows_unlisted ([]) ≡ row (Ended 10) ([]) ([]) 432
rows_unlisted_runs = refl

rows_unlisted_typed : is_typed rows_unlisted ≡ true
rows_unlisted_typed = refl

-- int main(void) { int x = {6}; return x; }
abbrev braced_scalar : Program
braced_scalar = record { literals = ([]); statics = ([]); functions = (record { name = 0; type = record { result = (Some ty.Int); constant = false; parameters = ([]) }; objects = ((object ty.Int false ([])) ∷ []); body = (typed.block 0 1 (typed.and_statement (typed.define 0 (typed.in_braces (typed.one_value ty.Int (typed.constant ty.Int (pos 6))))) (typed.and_statement (typed.return_value ty.Int (typed.read ty.Int (typed.named (at 1) (typed.automatic 0)))) typed.no_statements))); nodes = 7; weight = 192 } ∷ []); main = 0 }

braced_scalar_runs : seen 8 braced_scalar ([]) ≡ row (Ended 6) ([]) ([]) 192
braced_scalar_runs = refl

braced_scalar_typed : is_typed braced_scalar ≡ true
braced_scalar_typed = refl

-- int main(void) { int a[3] = {1, 2, 3}; int b[2] = {a[2], a[0]}; return b[0] * 10 + b[1]; }
abbrev initialiser_sees_earlier : Program
initialiser_sees_earlier = record { literals = ([]); statics = ([]); functions = (record { name = 0; type = record { result = (Some ty.Int); constant = false; parameters = ([]) }; objects = ((object ty.Int false (3 ∷ [])) ∷ (object ty.Int false (2 ∷ [])) ∷ []); body = (typed.block 0 2 (typed.and_statement (typed.define 0 (typed.list (typed.and_initialiser (typed.one_value ty.Int (typed.constant ty.Int (pos 1))) (typed.and_initialiser (typed.one_value ty.Int (typed.constant ty.Int (pos 2))) (typed.and_initialiser (typed.one_value ty.Int (typed.constant ty.Int (pos 3))) typed.no_initialisers))))) (typed.and_statement (typed.define 1 (typed.list (typed.and_initialiser (typed.one_value ty.Int (typed.read ty.Int (typed.element (at 1) (typed.named (at 1) (typed.automatic 0)) (typed.constant ty.Int (pos 2))))) (typed.and_initialiser (typed.one_value ty.Int (typed.read ty.Int (typed.element (at 1) (typed.named (at 1) (typed.automatic 0)) (typed.constant ty.Int (pos 0))))) typed.no_initialisers)))) (typed.and_statement (typed.return_value ty.Int (typed.binary (at 1) op.Add ty.Int (typed.binary (at 1) op.Mul ty.Int (typed.read ty.Int (typed.element (at 1) (typed.named (at 1) (typed.automatic 1)) (typed.constant ty.Int (pos 0)))) (typed.constant ty.Int (pos 10))) (typed.read ty.Int (typed.element (at 1) (typed.named (at 1) (typed.automatic 1)) (typed.constant ty.Int (pos 1)))))) typed.no_statements)))); nodes = 27; weight = 528 } ∷ []); main = 0 }

initialiser_sees_earlier_runs : seen 30 initialiser_sees_earlier ([]) ≡ row (Ended 31) ([]) ([]) 528
initialiser_sees_earlier_runs = refl

initialiser_sees_earlier_typed : is_typed initialiser_sees_earlier ≡ true
initialiser_sees_earlier_typed = refl

-- int f(void) { static int n = 3; n++; return n; }
-- int main(void) { f(); return f(); }
abbrev statics_keep : Program
statics_keep = record { literals = ([]); statics = (record { type = (object ty.Int false ([])); defined = true; values = (pos 3 ∷ []) } ∷ []); functions = (record { name = 0; type = record { result = (Some ty.Int); constant = false; parameters = ([]) }; objects = ([]); body = (typed.block 0 0 (typed.and_statement (typed.evaluate (typed.stepped (at 1) typed.after step.Increment ty.Int ty.Int (typed.named (at 1) (typed.static 0)))) (typed.and_statement (typed.return_value ty.Int (typed.read ty.Int (typed.named (at 1) (typed.static 0)))) typed.no_statements))); nodes = 9; weight = 208 } ∷ record { name = 1; type = record { result = (Some ty.Int); constant = false; parameters = ([]) }; objects = ([]); body = (typed.block 0 0 (typed.and_statement (typed.evaluate (typed.call (at 2) (typed.function 0) (Some ty.Int) false typed.no_arguments)) (typed.and_statement (typed.return_value ty.Int (typed.call (at 2) (typed.function 0) (Some ty.Int) true typed.no_arguments)) typed.no_statements))); nodes = 6; weight = 160 } ∷ []); main = 1 }

statics_keep_runs : seen 20 statics_keep ([]) ≡ row (Ended 5) ([]) ([]) 368
statics_keep_runs = refl

statics_keep_typed : is_typed statics_keep ≡ true
statics_keep_typed = refl

-- int x; int m[2][2] = {{1, 2}, {3}};
-- int main(void) { return x + m[1][0] * 10 + m[1][1]; }
abbrev statics_are_zero : Program
statics_are_zero = record { literals = ([]); statics = (record { type = (object ty.Int false ([])); defined = true; values = ([]) } ∷ record { type = (object ty.Int false (2 ∷ 2 ∷ [])); defined = true; values = (pos 1 ∷ pos 2 ∷ pos 3 ∷ pos 0 ∷ []) } ∷ []); functions = (record { name = 0; type = record { result = (Some ty.Int); constant = false; parameters = ([]) }; objects = ([]); body = (typed.block 0 0 (typed.and_statement (typed.return_value ty.Int (typed.binary (at 2) op.Add ty.Int (typed.binary (at 2) op.Add ty.Int (typed.read ty.Int (typed.named (at 2) (typed.static 0))) (typed.binary (at 2) op.Mul ty.Int (typed.read ty.Int (typed.element (at 2) (typed.element (at 2) (typed.named (at 2) (typed.static 1)) (typed.constant ty.Int (pos 1))) (typed.constant ty.Int (pos 0)))) (typed.constant ty.Int (pos 10)))) (typed.read ty.Int (typed.element (at 2) (typed.element (at 2) (typed.named (at 2) (typed.static 1)) (typed.constant ty.Int (pos 1))) (typed.constant ty.Int (pos 1)))))) typed.no_statements)); nodes = 18; weight = 352 } ∷ []); main = 0 }

statics_are_zero_runs : seen 18 statics_are_zero ([]) ≡ row (Ended 30) ([]) ([]) 352
statics_are_zero_runs = refl

statics_are_zero_typed : is_typed statics_are_zero ≡ true
statics_are_zero_typed = refl

-- int x; int x = 5; int x;
-- int main(void) { return x; }
abbrev tentative : Program
tentative = record { literals = ([]); statics = (record { type = (object ty.Int false ([])); defined = true; values = (pos 5 ∷ []) } ∷ []); functions = (record { name = 0; type = record { result = (Some ty.Int); constant = false; parameters = ([]) }; objects = ([]); body = (typed.block 0 0 (typed.and_statement (typed.return_value ty.Int (typed.read ty.Int (typed.named (at 2) (typed.static 0)))) typed.no_statements)); nodes = 4; weight = 128 } ∷ []); main = 0 }

tentative_runs : seen 4 tentative ([]) ≡ row (Ended 5) ([]) ([]) 128
tentative_runs = refl

tentative_typed : is_typed tentative ≡ true
tentative_typed = refl

-- int main(void) { return "abc"[1] + (int)sizeof("abc"); }
abbrev literal_is_array : Program
literal_is_array = record { literals = ((97 ∷ 98 ∷ 99 ∷ 0 ∷ []) ∷ (97 ∷ 98 ∷ 99 ∷ 0 ∷ []) ∷ []); statics = ([]); functions = (record { name = 0; type = record { result = (Some ty.Int); constant = false; parameters = ([]) }; objects = ([]); body = (typed.block 0 0 (typed.and_statement (typed.return_value ty.Int (typed.binary (at 1) op.Add ty.Int (typed.read ty.Char (typed.element (at 1) (typed.named (at 1) (typed.literal 0)) (typed.constant ty.Int (pos 1)))) (typed.cast ty.Int (typed.constant ty.UInt (pos 4))))) typed.no_statements)); nodes = 10; weight = 224 } ∷ []); main = 0 }

literal_is_array_runs : seen 9 literal_is_array ([]) ≡ row (Ended 102) ([]) ([]) 224
literal_is_array_runs = refl

literal_is_array_typed : is_typed literal_is_array ≡ true
literal_is_array_typed = refl

-- int main(void) { enum { A = 3, B }; return A * 10 + B; }
abbrev enumerators : Program
enumerators = record { literals = ([]); statics = ([]); functions = (record { name = 0; type = record { result = (Some ty.Int); constant = false; parameters = ([]) }; objects = ([]); body = (typed.block 0 0 (typed.and_statement (typed.return_value ty.Int (typed.binary (at 1) op.Add ty.Int (typed.binary (at 1) op.Mul ty.Int (typed.constant ty.Int (pos 3)) (typed.constant ty.Int (pos 10))) (typed.constant ty.Int (pos 4)))) typed.no_statements)); nodes = 11; weight = 240 } ∷ []); main = 0 }

enumerators_runs : seen 8 enumerators ([]) ≡ row (Ended 34) ([]) ([]) 240
enumerators_runs = refl

enumerators_typed : is_typed enumerators ≡ true
enumerators_typed = refl

-- void rv_putbyte(int c); int p(int c) { rv_putbyte(c); return c; }
-- int main(void) { p(0) && p(66); p(65) || p(67); return p(0) ? p(68) : p(69); }
abbrev not_evaluated : Program
not_evaluated = record { literals = ([]); statics = ([]); functions = (record { name = 0; type = record { result = (Some ty.Int); constant = false; parameters = (number ty.Int ∷ []) }; objects = ((object ty.Int false ([])) ∷ []); body = (typed.block 1 0 (typed.and_statement (typed.evaluate (typed.call (at 1) typed.put_byte None false (typed.and_number ty.Int (typed.read ty.Int (typed.named (at 1) (typed.automatic 0))) typed.no_arguments))) (typed.and_statement (typed.return_value ty.Int (typed.read ty.Int (typed.named (at 1) (typed.automatic 0)))) typed.no_statements))); nodes = 8; weight = 208 } ∷ record { name = 1; type = record { result = (Some ty.Int); constant = false; parameters = ([]) }; objects = ([]); body = (typed.block 0 0 (typed.and_statement (typed.evaluate (typed.both_true (typed.call (at 2) (typed.function 0) (Some ty.Int) true (typed.and_number ty.Int (typed.constant ty.Int (pos 0)) typed.no_arguments)) (typed.call (at 2) (typed.function 0) (Some ty.Int) true (typed.and_number ty.Int (typed.constant ty.Int (pos 66)) typed.no_arguments)))) (typed.and_statement (typed.evaluate (typed.one_true (typed.call (at 2) (typed.function 0) (Some ty.Int) true (typed.and_number ty.Int (typed.constant ty.Int (pos 65)) typed.no_arguments)) (typed.call (at 2) (typed.function 0) (Some ty.Int) true (typed.and_number ty.Int (typed.constant ty.Int (pos 67)) typed.no_arguments)))) (typed.and_statement (typed.return_value ty.Int (typed.chosen (Some ty.Int) (typed.call (at 2) (typed.function 0) (Some ty.Int) true (typed.and_number ty.Int (typed.constant ty.Int (pos 0)) typed.no_arguments)) (typed.call (at 2) (typed.function 0) (Some ty.Int) true (typed.and_number ty.Int (typed.constant ty.Int (pos 68)) typed.no_arguments)) (typed.call (at 2) (typed.function 0) (Some ty.Int) true (typed.and_number ty.Int (typed.constant ty.Int (pos 69)) typed.no_arguments)))) typed.no_statements)))); nodes = 22; weight = 416 } ∷ []); main = 1 }

not_evaluated_runs : seen 48 not_evaluated ([]) ≡ row (Ended 69) (0 ∷ 65 ∷ 0 ∷ 69 ∷ []) ([]) 624
not_evaluated_runs = refl

not_evaluated_typed : is_typed not_evaluated ≡ true
not_evaluated_typed = refl

-- int main(void) { return (1 ? -1 : 1u) > 0; }
abbrev arms_are_converted : Program
arms_are_converted = record { literals = ([]); statics = ([]); functions = (record { name = 0; type = record { result = (Some ty.Int); constant = false; parameters = ([]) }; objects = ([]); body = (typed.block 0 0 (typed.and_statement (typed.return_value ty.Int (typed.binary (at 1) op.Greater ty.UInt (typed.chosen (Some ty.UInt) (typed.constant ty.Int (pos 1)) (typed.unary (at 1) prefix.Minus ty.Int (typed.constant ty.Int (pos 1))) (typed.constant ty.UInt (pos 1))) (typed.constant ty.Int (pos 0)))) typed.no_statements)); nodes = 10; weight = 224 } ∷ []); main = 0 }

arms_are_converted_runs : seen 9 arms_are_converted ([]) ≡ row (Ended 1) ([]) ([]) 224
arms_are_converted_runs = refl

arms_are_converted_typed : is_typed arms_are_converted ≡ true
arms_are_converted_typed = refl

-- int main(void) { int x; return x = 4, x + 1; }
abbrev comma : Program
comma = record { literals = ([]); statics = ([]); functions = (record { name = 0; type = record { result = (Some ty.Int); constant = false; parameters = ([]) }; objects = ((object ty.Int false ([])) ∷ []); body = (typed.block 0 1 (typed.and_statement (typed.declare 0) (typed.and_statement (typed.return_value ty.Int (typed.sequence (typed.assigned (at 1) ty.Int (typed.named (at 1) (typed.automatic 0)) (typed.constant ty.Int (pos 4))) (typed.binary (at 1) op.Add ty.Int (typed.read ty.Int (typed.named (at 1) (typed.automatic 0))) (typed.constant ty.Int (pos 1))))) typed.no_statements))); nodes = 11; weight = 256 } ∷ []); main = 0 }

comma_runs : seen 11 comma ([]) ≡ row (Ended 5) ([]) ([]) 256
comma_runs = refl

comma_typed : is_typed comma ≡ true
comma_typed = refl

-- int main(void) { int x = 1; x += x++; return x; }
abbrev reads_left_side_after : Program
reads_left_side_after = record { literals = ([]); statics = ([]); functions = (record { name = 0; type = record { result = (Some ty.Int); constant = false; parameters = ([]) }; objects = ((object ty.Int false ([])) ∷ []); body = (typed.block 0 1 (typed.and_statement (typed.define 0 (typed.one_value ty.Int (typed.constant ty.Int (pos 1)))) (typed.and_statement (typed.evaluate (typed.compound (at 1) op.Add ty.Int ty.Int (typed.named (at 1) (typed.automatic 0)) (typed.stepped (at 1) typed.after step.Increment ty.Int ty.Int (typed.named (at 1) (typed.automatic 0))))) (typed.and_statement (typed.return_value ty.Int (typed.read ty.Int (typed.named (at 1) (typed.automatic 0)))) typed.no_statements)))); nodes = 11; weight = 256 } ∷ []); main = 0 }

reads_left_side_after_runs : seen 12 reads_left_side_after ([]) ≡ row (Ended 3) ([]) ([]) 256
reads_left_side_after_runs = refl

reads_left_side_after_typed : is_typed reads_left_side_after ≡ true
reads_left_side_after_typed = refl

-- int main(void) { int x; x += (x = 3); return x; }
abbrev compound_reads_later : Program
compound_reads_later = record { literals = ([]); statics = ([]); functions = (record { name = 0; type = record { result = (Some ty.Int); constant = false; parameters = ([]) }; objects = ((object ty.Int false ([])) ∷ []); body = (typed.block 0 1 (typed.and_statement (typed.declare 0) (typed.and_statement (typed.evaluate (typed.compound (at 1) op.Add ty.Int ty.Int (typed.named (at 1) (typed.automatic 0)) (typed.assigned (at 1) ty.Int (typed.named (at 1) (typed.automatic 0)) (typed.constant ty.Int (pos 3))))) (typed.and_statement (typed.return_value ty.Int (typed.read ty.Int (typed.named (at 1) (typed.automatic 0)))) typed.no_statements)))); nodes = 11; weight = 256 } ∷ []); main = 0 }

compound_reads_later_runs : seen 11 compound_reads_later ([]) ≡ row (Ended 6) ([]) ([]) 256
compound_reads_later_runs = refl

compound_reads_later_typed : is_typed compound_reads_later ≡ true
compound_reads_later_typed = refl

-- int main(void) { int i = 0; int a[2] = {5, 6}; a[i++] += 10; return a[0] + i; }
abbrev element_once : Program
element_once = record { literals = ([]); statics = ([]); functions = (record { name = 0; type = record { result = (Some ty.Int); constant = false; parameters = ([]) }; objects = ((object ty.Int false ([])) ∷ (object ty.Int false (2 ∷ [])) ∷ []); body = (typed.block 0 2 (typed.and_statement (typed.define 0 (typed.one_value ty.Int (typed.constant ty.Int (pos 0)))) (typed.and_statement (typed.define 1 (typed.list (typed.and_initialiser (typed.one_value ty.Int (typed.constant ty.Int (pos 5))) (typed.and_initialiser (typed.one_value ty.Int (typed.constant ty.Int (pos 6))) typed.no_initialisers)))) (typed.and_statement (typed.evaluate (typed.compound (at 1) op.Add ty.Int ty.Int (typed.element (at 1) (typed.named (at 1) (typed.automatic 1)) (typed.stepped (at 1) typed.after step.Increment ty.Int ty.Int (typed.named (at 1) (typed.automatic 0)))) (typed.constant ty.Int (pos 10)))) (typed.and_statement (typed.return_value ty.Int (typed.binary (at 1) op.Add ty.Int (typed.read ty.Int (typed.element (at 1) (typed.named (at 1) (typed.automatic 1)) (typed.constant ty.Int (pos 0)))) (typed.read ty.Int (typed.named (at 1) (typed.automatic 0))))) typed.no_statements))))); nodes = 22; weight = 432 } ∷ []); main = 0 }

element_once_runs : seen 24 element_once ([]) ≡ row (Ended 16) ([]) ([]) 432
element_once_runs = refl

element_once_typed : is_typed element_once ≡ true
element_once_typed = refl

-- int main(void) { char c; return c = 300; }
abbrev assignment_value : Program
assignment_value = record { literals = ([]); statics = ([]); functions = (record { name = 0; type = record { result = (Some ty.Int); constant = false; parameters = ([]) }; objects = ((object ty.Char false ([])) ∷ []); body = (typed.block 0 1 (typed.and_statement (typed.declare 0) (typed.and_statement (typed.return_value ty.Int (typed.assigned (at 1) ty.Char (typed.named (at 1) (typed.automatic 0)) (typed.constant ty.Int (pos 300)))) typed.no_statements))); nodes = 7; weight = 192 } ∷ []); main = 0 }

assignment_value_runs : seen 7 assignment_value ([]) ≡ row (Ended 44) ([]) ([]) 192
assignment_value_runs = refl

assignment_value_typed : is_typed assignment_value ≡ true
assignment_value_typed = refl

-- int rv_getbyte(void); void rv_putbyte(int c); int main(void) { int c; while ((c = rv_getbyte()) != -1) rv_putbyte(c); return 0; }
abbrev copies_input : Program
copies_input = record { literals = ([]); statics = ([]); functions = (record { name = 0; type = record { result = (Some ty.Int); constant = false; parameters = ([]) }; objects = ((object ty.Int false ([])) ∷ []); body = (typed.block 0 1 (typed.and_statement (typed.declare 0) (typed.and_statement (typed.while (typed.binary (at 1) op.NotEqual ty.Int (typed.assigned (at 1) ty.Int (typed.named (at 1) (typed.automatic 0)) (typed.call (at 1) typed.get_byte (Some ty.Int) true typed.no_arguments)) (typed.unary (at 1) prefix.Minus ty.Int (typed.constant ty.Int (pos 1)))) (typed.evaluate (typed.call (at 1) typed.put_byte None false (typed.and_number ty.Int (typed.read ty.Int (typed.named (at 1) (typed.automatic 0))) typed.no_arguments)))) (typed.and_statement (typed.return_value ty.Int (typed.constant ty.Int (pos 0))) typed.no_statements)))); nodes = 15; weight = 320 } ∷ []); main = 0 }

copies_input_runs : seen 48 copies_input (0 ∷ 97 ∷ 98 ∷ 255 ∷ []) ≡ row (Ended 0) (0 ∷ 97 ∷ 98 ∷ 255 ∷ []) ([]) 320
copies_input_runs = refl

copies_input_typed : is_typed copies_input ≡ true
copies_input_typed = refl

-- int rv_getbyte(void); void rv_putbyte(int c); int main(void) { int c; while ((c = rv_getbyte()) != -1) rv_putbyte(c); return 0; }
abbrev copies_nothing : Program
copies_nothing = record { literals = ([]); statics = ([]); functions = (record { name = 0; type = record { result = (Some ty.Int); constant = false; parameters = ([]) }; objects = ((object ty.Int false ([])) ∷ []); body = (typed.block 0 1 (typed.and_statement (typed.declare 0) (typed.and_statement (typed.while (typed.binary (at 1) op.NotEqual ty.Int (typed.assigned (at 1) ty.Int (typed.named (at 1) (typed.automatic 0)) (typed.call (at 1) typed.get_byte (Some ty.Int) true typed.no_arguments)) (typed.unary (at 1) prefix.Minus ty.Int (typed.constant ty.Int (pos 1)))) (typed.evaluate (typed.call (at 1) typed.put_byte None false (typed.and_number ty.Int (typed.read ty.Int (typed.named (at 1) (typed.automatic 0))) typed.no_arguments)))) (typed.and_statement (typed.return_value ty.Int (typed.constant ty.Int (pos 0))) typed.no_statements)))); nodes = 15; weight = 320 } ∷ []); main = 0 }

copies_nothing_runs : seen 12 copies_nothing ([]) ≡ row (Ended 0) ([]) ([]) 320
copies_nothing_runs = refl

copies_nothing_typed : is_typed copies_nothing ≡ true
copies_nothing_typed = refl

-- int rv_getbyte(void); int main(void) { return rv_getbyte(); }
abbrev leaves_input : Program
leaves_input = record { literals = ([]); statics = ([]); functions = (record { name = 0; type = record { result = (Some ty.Int); constant = false; parameters = ([]) }; objects = ([]); body = (typed.block 0 0 (typed.and_statement (typed.return_value ty.Int (typed.call (at 1) typed.get_byte (Some ty.Int) true typed.no_arguments)) typed.no_statements)); nodes = 4; weight = 128 } ∷ []); main = 0 }

leaves_input_runs : seen 4 leaves_input (120 ∷ 121 ∷ 122 ∷ []) ≡ row (Ended 120) ([]) (121 ∷ 122 ∷ []) 128
leaves_input_runs = refl

leaves_input_typed : is_typed leaves_input ≡ true
leaves_input_typed = refl

-- int rv_getbyte(void); int main(void) { rv_getbyte(); return rv_getbyte() + rv_getbyte() + 2; }
abbrev end_again : Program
end_again = record { literals = ([]); statics = ([]); functions = (record { name = 0; type = record { result = (Some ty.Int); constant = false; parameters = ([]) }; objects = ([]); body = (typed.block 0 0 (typed.and_statement (typed.evaluate (typed.call (at 1) typed.get_byte (Some ty.Int) false typed.no_arguments)) (typed.and_statement (typed.return_value ty.Int (typed.binary (at 1) op.Add ty.Int (typed.binary (at 1) op.Add ty.Int (typed.call (at 1) typed.get_byte (Some ty.Int) true typed.no_arguments) (typed.call (at 1) typed.get_byte (Some ty.Int) true typed.no_arguments)) (typed.constant ty.Int (pos 2)))) typed.no_statements))); nodes = 10; weight = 224 } ∷ []); main = 0 }

end_again_runs : seen 10 end_again (120 ∷ []) ≡ row (Ended 0) ([]) ([]) 224
end_again_runs = refl

end_again_typed : is_typed end_again ≡ true
end_again_typed = refl

-- void rv_putbyte(int c); int main(void) { rv_putbyte(321); rv_putbyte(-1); return 0; }
abbrev low_byte_is_put : Program
low_byte_is_put = record { literals = ([]); statics = ([]); functions = (record { name = 0; type = record { result = (Some ty.Int); constant = false; parameters = ([]) }; objects = ([]); body = (typed.block 0 0 (typed.and_statement (typed.evaluate (typed.call (at 1) typed.put_byte None false (typed.and_number ty.Int (typed.constant ty.Int (pos 321)) typed.no_arguments))) (typed.and_statement (typed.evaluate (typed.call (at 1) typed.put_byte None false (typed.and_number ty.Int (typed.unary (at 1) prefix.Minus ty.Int (typed.constant ty.Int (pos 1))) typed.no_arguments))) (typed.and_statement (typed.return_value ty.Int (typed.constant ty.Int (pos 0))) typed.no_statements)))); nodes = 11; weight = 240 } ∷ []); main = 0 }

low_byte_is_put_runs : seen 11 low_byte_is_put ([]) ≡ row (Ended 0) (65 ∷ 255 ∷ []) ([]) 240
low_byte_is_put_runs = refl

low_byte_is_put_typed : is_typed low_byte_is_put ≡ true
low_byte_is_put_typed = refl

-- void rv_putbyte(int c); int main(void) { for (;;) rv_putbyte(65); }
abbrev endless : Program
endless = record { literals = ([]); statics = ([]); functions = (record { name = 0; type = record { result = (Some ty.Int); constant = false; parameters = ([]) }; objects = ([]); body = (typed.block 0 0 (typed.and_statement (typed.for typed.no_statements None None None (typed.evaluate (typed.call (at 1) typed.put_byte None false (typed.and_number ty.Int (typed.constant ty.Int (pos 65)) typed.no_arguments)))) typed.no_statements)); nodes = 6; weight = 160 } ∷ []); main = 0 }

endless_runs : seen 60 endless ([]) ≡ row TicksUsed (65 ∷ 65 ∷ 65 ∷ 65 ∷ 65 ∷ 65 ∷ 65 ∷ 65 ∷ 65 ∷ 65 ∷ 65 ∷ 65 ∷ 65 ∷ 65 ∷ 65 ∷ 65 ∷ 65 ∷ 65 ∷ 65 ∷ []) ([]) 160
endless_runs = refl

endless_typed : is_typed endless ≡ true
endless_typed = refl

-- int main(void) { return 42; }
abbrev too_few_ticks : Program
too_few_ticks = record { literals = ([]); statics = ([]); functions = (record { name = 0; type = record { result = (Some ty.Int); constant = false; parameters = ([]) }; objects = ([]); body = (typed.block 0 0 (typed.and_statement (typed.return_value ty.Int (typed.constant ty.Int (pos 42))) typed.no_statements)); nodes = 4; weight = 128 } ∷ []); main = 0 }

too_few_ticks_runs : seen 3 too_few_ticks ([]) ≡ row TicksUsed ([]) ([]) 128
too_few_ticks_runs = refl

too_few_ticks_typed : is_typed too_few_ticks ≡ true
too_few_ticks_typed = refl

-- int main(void) { int i; for (i = 0; i < 2; i++) ; return i; }
abbrev too_few_for_loop : Program
too_few_for_loop = record { literals = ([]); statics = ([]); functions = (record { name = 0; type = record { result = (Some ty.Int); constant = false; parameters = ([]) }; objects = ((object ty.Int false ([])) ∷ []); body = (typed.block 0 1 (typed.and_statement (typed.declare 0) (typed.and_statement (typed.for typed.no_statements (Some (typed.assigned (at 1) ty.Int (typed.named (at 1) (typed.automatic 0)) (typed.constant ty.Int (pos 0)))) (Some (typed.binary (at 1) op.Less ty.Int (typed.read ty.Int (typed.named (at 1) (typed.automatic 0))) (typed.constant ty.Int (pos 2)))) (Some (typed.stepped (at 1) typed.after step.Increment ty.Int ty.Int (typed.named (at 1) (typed.automatic 0)))) typed.empty) (typed.and_statement (typed.return_value ty.Int (typed.read ty.Int (typed.named (at 1) (typed.automatic 0)))) typed.no_statements)))); nodes = 15; weight = 320 } ∷ []); main = 0 }

too_few_for_loop_runs : seen 23 too_few_for_loop ([]) ≡ row TicksUsed ([]) ([]) 320
too_few_for_loop_runs = refl

too_few_for_loop_typed : is_typed too_few_for_loop ≡ true
too_few_for_loop_typed = refl

-- void rv_putbyte(int c); int main(void) { int x; rv_putbyte(65); return x; }
abbrev output_before_undefined : Program
output_before_undefined = record { literals = ([]); statics = ([]); functions = (record { name = 0; type = record { result = (Some ty.Int); constant = false; parameters = ([]) }; objects = ((object ty.Int false ([])) ∷ []); body = (typed.block 0 1 (typed.and_statement (typed.declare 0) (typed.and_statement (typed.evaluate (typed.call (at 1) typed.put_byte None false (typed.and_number ty.Int (typed.constant ty.Int (pos 65)) typed.no_arguments))) (typed.and_statement (typed.return_value ty.Int (typed.read ty.Int (typed.named (at 1) (typed.automatic 0)))) typed.no_statements)))); nodes = 8; weight = 208 } ∷ []); main = 0 }

output_before_undefined_runs : seen 8 output_before_undefined ([]) ≡ row (Undefined act.U6 (at 1)) (65 ∷ []) ([]) 208
output_before_undefined_runs = refl

output_before_undefined_typed : is_typed output_before_undefined ≡ true
output_before_undefined_typed = refl
