-- Programs, computed: how each ends, the ticks that its clock has left, what it writes, the input left, and the greatest sum of the weights of active calls.
-- The source is above each; each clock has exactly the ticks that the run takes.
use Rattle.std.proofs.Common.{◌≡◌, ℕ, List, [], ◌∷◌, pos, refl, Some, None, Bool, true, false}
use Rattle.srcset.specs.declared.refusal.Pos.{Pos}
use Rattle.ctypes.specs.declared.types.IntType.{IntType}
use Rattle.ctypes.specs.declared.types.IntType.TheVariants as ty
use Rattle.ctypes.specs.declared.operators.BinOp.TheVariants as op
use Rattle.ctypes.specs.declared.operators.Undef.TheVariants as act
use Rattle.tree.specs.declared.expression.PrefixOp.TheVariants as prefix
use Rattle.tree.specs.declared.expression.StepOp.TheVariants as step
use Rattle.typing_spec.specs.Types.{ObjectType, number, elements}
use Rattle.typing_spec.specs.Program as typed
use Rattle.typing_spec.specs.Program.{Program}
use Rattle.typing_spec.specs.WellTyped.{is_typed}
use Rattle.csem.specs.Machine.{Ending, Ended, Undefined}
use Rattle.csem.specs.Meaning.{Answer, answer_of, cstep, last_of}

abbrev at : ℕ → Pos
at n = record { file = 0; line = n }

abbrev object : IntType → Bool → List ℕ → ObjectType
object t constant lengths = record { element = t; constant = constant; lengths = lengths }

-- the result of a row
pub record Seen : Type 0 where
  pub ending : Ending
  pub ticks_left : ℕ
  pub output : List ℕ
  pub input_left : List ℕ
  pub greatest : ℕ

abbrev seen_of : (ticks_left : ℕ) → Answer → Seen
seen_of n a = record { ending = a.ending; ticks_left = n; output = a.output; input_left = a.input_left; greatest = a.greatest }

abbrev seen : ℕ → Program → List ℕ → Seen
seen n p input = seen_of (last_of (cstep n p input)).clock (answer_of p (cstep n p input))

abbrev row : Ending → (output input_left : List ℕ) → (greatest : ℕ) → Seen
row ending output input_left greatest = record { ending = ending; ticks_left = 0; output = output; input_left = input_left; greatest = greatest }

-- int f(void) { }
-- int main(void) { f(); return 3; }
abbrev no_value_unused : Program
no_value_unused = record { literals = ([]); statics = ([]); functions = (record { name = 0; type = record { result = (Some ty.Int); constant = false; parameters = ([]) }; objects = ([]); body = (typed.block 0 0 typed.no_statements); nodes = 2; weight = 96 } ∷ record { name = 1; type = record { result = (Some ty.Int); constant = false; parameters = ([]) }; objects = ([]); body = (typed.block 0 0 (typed.and_statement (typed.evaluate (typed.call (at 2) (typed.function 0) (Some ty.Int) false typed.no_arguments)) (typed.and_statement (typed.return_value ty.Int (typed.constant ty.Int (pos 3))) typed.no_statements))); nodes = 6; weight = 160 } ∷ []); main = 1 }

no_value_unused_runs : seen 8 no_value_unused ([]) ≡ row (Ended 3) ([]) ([]) 256
no_value_unused_runs = refl

no_value_unused_typed : is_typed no_value_unused ≡ true
no_value_unused_typed = refl

-- int f(void) { }
-- int main(void) { (void)f(); 1 ? f() : 2; f(), f(); (void)(1, f()); for (f(); 0; f()) ; return 4; }
abbrev unused_places : Program
unused_places = record { literals = ([]); statics = ([]); functions = (record { name = 0; type = record { result = (Some ty.Int); constant = false; parameters = ([]) }; objects = ([]); body = (typed.block 0 0 typed.no_statements); nodes = 2; weight = 96 } ∷ record { name = 1; type = record { result = (Some ty.Int); constant = false; parameters = ([]) }; objects = ([]); body = (typed.block 0 0 (typed.and_statement (typed.evaluate (typed.discarded (typed.call (at 2) (typed.function 0) (Some ty.Int) false typed.no_arguments))) (typed.and_statement (typed.evaluate (typed.chosen (Some ty.Int) (typed.constant ty.Int (pos 1)) (typed.call (at 2) (typed.function 0) (Some ty.Int) false typed.no_arguments) (typed.constant ty.Int (pos 2)))) (typed.and_statement (typed.evaluate (typed.sequence (typed.call (at 2) (typed.function 0) (Some ty.Int) false typed.no_arguments) (typed.call (at 2) (typed.function 0) (Some ty.Int) false typed.no_arguments))) (typed.and_statement (typed.evaluate (typed.discarded (typed.sequence (typed.constant ty.Int (pos 1)) (typed.call (at 2) (typed.function 0) (Some ty.Int) false typed.no_arguments)))) (typed.and_statement (typed.for typed.no_statements (Some (typed.call (at 2) (typed.function 0) (Some ty.Int) false typed.no_arguments)) (Some (typed.constant ty.Int (pos 0))) (Some (typed.call (at 2) (typed.function 0) (Some ty.Int) false typed.no_arguments)) typed.empty) (typed.and_statement (typed.return_value ty.Int (typed.constant ty.Int (pos 4))) typed.no_statements))))))); nodes = 26; weight = 480 } ∷ []); main = 1 }

unused_places_runs : seen 35 unused_places ([]) ≡ row (Ended 4) ([]) ([]) 576
unused_places_runs = refl

unused_places_typed : is_typed unused_places ≡ true
unused_places_typed = refl

-- int f(void) { }
-- int main(void) {
-- int x; x = (1, f()); return 4; }
abbrev used_in_comma : Program
used_in_comma = record { literals = ([]); statics = ([]); functions = (record { name = 0; type = record { result = (Some ty.Int); constant = false; parameters = ([]) }; objects = ([]); body = (typed.block 0 0 typed.no_statements); nodes = 2; weight = 96 } ∷ record { name = 1; type = record { result = (Some ty.Int); constant = false; parameters = ([]) }; objects = ((object ty.Int false ([])) ∷ []); body = (typed.block 0 1 (typed.and_statement (typed.declare 0) (typed.and_statement (typed.evaluate (typed.assigned (at 3) ty.Int (typed.named (at 3) (typed.automatic 0)) (typed.sequence (typed.constant ty.Int (pos 1)) (typed.call (at 3) (typed.function 0) (Some ty.Int) true typed.no_arguments)))) (typed.and_statement (typed.return_value ty.Int (typed.constant ty.Int (pos 4))) typed.no_statements)))); nodes = 11; weight = 256 } ∷ []); main = 1 }

used_in_comma_runs : seen 11 used_in_comma ([]) ≡ row (Undefined act.U8 (at 3)) ([]) ([]) 352
used_in_comma_runs = refl

used_in_comma_typed : is_typed used_in_comma ≡ true
used_in_comma_typed = refl

-- int f(void) { }
-- int g(int x) { return 1; }
-- int main(void) { g(f()); return 4; }
abbrev used_as_argument : Program
used_as_argument = record { literals = ([]); statics = ([]); functions = (record { name = 0; type = record { result = (Some ty.Int); constant = false; parameters = ([]) }; objects = ([]); body = (typed.block 0 0 typed.no_statements); nodes = 2; weight = 96 } ∷ record { name = 1; type = record { result = (Some ty.Int); constant = false; parameters = (number ty.Int ∷ []) }; objects = ((object ty.Int false ([])) ∷ []); body = (typed.block 1 0 (typed.and_statement (typed.return_value ty.Int (typed.constant ty.Int (pos 1))) typed.no_statements)); nodes = 5; weight = 160 } ∷ record { name = 2; type = record { result = (Some ty.Int); constant = false; parameters = ([]) }; objects = ([]); body = (typed.block 0 0 (typed.and_statement (typed.evaluate (typed.call (at 3) (typed.function 1) (Some ty.Int) false (typed.and_number ty.Int (typed.call (at 3) (typed.function 0) (Some ty.Int) true typed.no_arguments) typed.no_arguments))) (typed.and_statement (typed.return_value ty.Int (typed.constant ty.Int (pos 4))) typed.no_statements))); nodes = 7; weight = 176 } ∷ []); main = 2 }

used_as_argument_runs : seen 7 used_as_argument ([]) ≡ row (Undefined act.U8 (at 3)) ([]) ([]) 272
used_as_argument_runs = refl

used_as_argument_typed : is_typed used_as_argument ≡ true
used_as_argument_typed = refl

-- int f(int x) { if (x) return 1; }
-- int main(void) { f(0); return f(0); }
abbrev return_without_value : Program
return_without_value = record { literals = ([]); statics = ([]); functions = (record { name = 0; type = record { result = (Some ty.Int); constant = false; parameters = (number ty.Int ∷ []) }; objects = ((object ty.Int false ([])) ∷ []); body = (typed.block 1 0 (typed.and_statement (typed.branch (typed.read ty.Int (typed.named (at 1) (typed.automatic 0))) (typed.return_value ty.Int (typed.constant ty.Int (pos 1)))) typed.no_statements)); nodes = 7; weight = 192 } ∷ record { name = 1; type = record { result = (Some ty.Int); constant = false; parameters = ([]) }; objects = ([]); body = (typed.block 0 0 (typed.and_statement (typed.evaluate (typed.call (at 2) (typed.function 0) (Some ty.Int) false (typed.and_number ty.Int (typed.constant ty.Int (pos 0)) typed.no_arguments))) (typed.and_statement (typed.return_value ty.Int (typed.call (at 2) (typed.function 0) (Some ty.Int) true (typed.and_number ty.Int (typed.constant ty.Int (pos 0)) typed.no_arguments))) typed.no_statements))); nodes = 8; weight = 192 } ∷ []); main = 1 }

return_without_value_runs : seen 18 return_without_value ([]) ≡ row (Undefined act.U8 (at 2)) ([]) ([]) 384
return_without_value_runs = refl

return_without_value_typed : is_typed return_without_value ≡ true
return_without_value_typed = refl

-- void rv_putbyte(int c); int p(int c) { rv_putbyte(c); return c; }
-- int main(void) { return p(65) - p(66) + 2; }
abbrev left_to_right : Program
left_to_right = record { literals = ([]); statics = ([]); functions = (record { name = 0; type = record { result = (Some ty.Int); constant = false; parameters = (number ty.Int ∷ []) }; objects = ((object ty.Int false ([])) ∷ []); body = (typed.block 1 0 (typed.and_statement (typed.evaluate (typed.call (at 1) typed.put_byte None false (typed.and_number ty.Int (typed.read ty.Int (typed.named (at 1) (typed.automatic 0))) typed.no_arguments))) (typed.and_statement (typed.return_value ty.Int (typed.read ty.Int (typed.named (at 1) (typed.automatic 0)))) typed.no_statements))); nodes = 8; weight = 208 } ∷ record { name = 1; type = record { result = (Some ty.Int); constant = false; parameters = ([]) }; objects = ([]); body = (typed.block 0 0 (typed.and_statement (typed.return_value ty.Int (typed.binary (at 2) op.Add ty.Int (typed.binary (at 2) op.Sub ty.Int (typed.call (at 2) (typed.function 0) (Some ty.Int) true (typed.and_number ty.Int (typed.constant ty.Int (pos 65)) typed.no_arguments)) (typed.call (at 2) (typed.function 0) (Some ty.Int) true (typed.and_number ty.Int (typed.constant ty.Int (pos 66)) typed.no_arguments))) (typed.constant ty.Int (pos 2)))) typed.no_statements)); nodes = 10; weight = 224 } ∷ []); main = 1 }

left_to_right_runs : seen 26 left_to_right ([]) ≡ row (Ended 1) (65 ∷ 66 ∷ []) ([]) 432
left_to_right_runs = refl

left_to_right_typed : is_typed left_to_right ≡ true
left_to_right_typed = refl

-- void rv_putbyte(int c); void f(int a, int b, int c, int d, int e, int g, int h, int i, int j, int k) { rv_putbyte(j); rv_putbyte(k); }
-- int main(void) { f(65, 66, 67, 68, 69, 70, 71, 72, 73, 74); return 0; }
abbrev ten_arguments : Program
ten_arguments = record { literals = ([]); statics = ([]); functions = (record { name = 0; type = record { result = None; constant = false; parameters = (number ty.Int ∷ number ty.Int ∷ number ty.Int ∷ number ty.Int ∷ number ty.Int ∷ number ty.Int ∷ number ty.Int ∷ number ty.Int ∷ number ty.Int ∷ number ty.Int ∷ []) }; objects = ((object ty.Int false ([])) ∷ (object ty.Int false ([])) ∷ (object ty.Int false ([])) ∷ (object ty.Int false ([])) ∷ (object ty.Int false ([])) ∷ (object ty.Int false ([])) ∷ (object ty.Int false ([])) ∷ (object ty.Int false ([])) ∷ (object ty.Int false ([])) ∷ (object ty.Int false ([])) ∷ []); body = (typed.block 10 0 (typed.and_statement (typed.evaluate (typed.call (at 1) typed.put_byte None false (typed.and_number ty.Int (typed.read ty.Int (typed.named (at 1) (typed.automatic 8))) typed.no_arguments))) (typed.and_statement (typed.evaluate (typed.call (at 1) typed.put_byte None false (typed.and_number ty.Int (typed.read ty.Int (typed.named (at 1) (typed.automatic 9))) typed.no_arguments))) typed.no_statements))); nodes = 18; weight = 400 } ∷ record { name = 1; type = record { result = (Some ty.Int); constant = false; parameters = ([]) }; objects = ([]); body = (typed.block 0 0 (typed.and_statement (typed.evaluate (typed.call (at 2) (typed.function 0) None false (typed.and_number ty.Int (typed.constant ty.Int (pos 65)) (typed.and_number ty.Int (typed.constant ty.Int (pos 66)) (typed.and_number ty.Int (typed.constant ty.Int (pos 67)) (typed.and_number ty.Int (typed.constant ty.Int (pos 68)) (typed.and_number ty.Int (typed.constant ty.Int (pos 69)) (typed.and_number ty.Int (typed.constant ty.Int (pos 70)) (typed.and_number ty.Int (typed.constant ty.Int (pos 71)) (typed.and_number ty.Int (typed.constant ty.Int (pos 72)) (typed.and_number ty.Int (typed.constant ty.Int (pos 73)) (typed.and_number ty.Int (typed.constant ty.Int (pos 74)) typed.no_arguments)))))))))))) (typed.and_statement (typed.return_value ty.Int (typed.constant ty.Int (pos 0))) typed.no_statements))); nodes = 16; weight = 320 } ∷ []); main = 1 }

ten_arguments_runs : seen 34 ten_arguments ([]) ≡ row (Ended 0) (73 ∷ 74 ∷ []) ([]) 720
ten_arguments_runs = refl

ten_arguments_typed : is_typed ten_arguments ≡ true
ten_arguments_typed = refl

-- void rv_putbyte(int c); int p(int c) { rv_putbyte(c); return c; }
-- int f(int a, int b) { return a - b; }
-- int main(void) { return f(p(67), p(66)); }
abbrev arguments_in_order : Program
arguments_in_order = record { literals = ([]); statics = ([]); functions = (record { name = 0; type = record { result = (Some ty.Int); constant = false; parameters = (number ty.Int ∷ []) }; objects = ((object ty.Int false ([])) ∷ []); body = (typed.block 1 0 (typed.and_statement (typed.evaluate (typed.call (at 1) typed.put_byte None false (typed.and_number ty.Int (typed.read ty.Int (typed.named (at 1) (typed.automatic 0))) typed.no_arguments))) (typed.and_statement (typed.return_value ty.Int (typed.read ty.Int (typed.named (at 1) (typed.automatic 0)))) typed.no_statements))); nodes = 8; weight = 208 } ∷ record { name = 1; type = record { result = (Some ty.Int); constant = false; parameters = (number ty.Int ∷ number ty.Int ∷ []) }; objects = ((object ty.Int false ([])) ∷ (object ty.Int false ([])) ∷ []); body = (typed.block 2 0 (typed.and_statement (typed.return_value ty.Int (typed.binary (at 2) op.Sub ty.Int (typed.read ty.Int (typed.named (at 2) (typed.automatic 0))) (typed.read ty.Int (typed.named (at 2) (typed.automatic 1))))) typed.no_statements)); nodes = 8; weight = 208 } ∷ record { name = 2; type = record { result = (Some ty.Int); constant = false; parameters = ([]) }; objects = ([]); body = (typed.block 0 0 (typed.and_statement (typed.return_value ty.Int (typed.call (at 3) (typed.function 1) (Some ty.Int) true (typed.and_number ty.Int (typed.call (at 3) (typed.function 0) (Some ty.Int) true (typed.and_number ty.Int (typed.constant ty.Int (pos 67)) typed.no_arguments)) (typed.and_number ty.Int (typed.call (at 3) (typed.function 0) (Some ty.Int) true (typed.and_number ty.Int (typed.constant ty.Int (pos 66)) typed.no_arguments)) typed.no_arguments)))) typed.no_statements)); nodes = 8; weight = 192 } ∷ []); main = 2 }

arguments_in_order_runs : seen 32 arguments_in_order ([]) ≡ row (Ended 1) (67 ∷ 66 ∷ []) ([]) 400
arguments_in_order_runs = refl

arguments_in_order_typed : is_typed arguments_in_order ≡ true
arguments_in_order_typed = refl

-- int f(int n) { if (n == 0) return 0; return f(n - 1); }
-- int main(void) { return f(5); }
abbrev recursion : Program
recursion = record { literals = ([]); statics = ([]); functions = (record { name = 0; type = record { result = (Some ty.Int); constant = false; parameters = (number ty.Int ∷ []) }; objects = ((object ty.Int false ([])) ∷ []); body = (typed.block 1 0 (typed.and_statement (typed.branch (typed.binary (at 1) op.Equal ty.Int (typed.read ty.Int (typed.named (at 1) (typed.automatic 0))) (typed.constant ty.Int (pos 0))) (typed.return_value ty.Int (typed.constant ty.Int (pos 0)))) (typed.and_statement (typed.return_value ty.Int (typed.call (at 1) (typed.function 0) (Some ty.Int) true (typed.and_number ty.Int (typed.binary (at 1) op.Sub ty.Int (typed.read ty.Int (typed.named (at 1) (typed.automatic 0))) (typed.constant ty.Int (pos 1))) typed.no_arguments))) typed.no_statements))); nodes = 14; weight = 304 } ∷ record { name = 1; type = record { result = (Some ty.Int); constant = false; parameters = ([]) }; objects = ([]); body = (typed.block 0 0 (typed.and_statement (typed.return_value ty.Int (typed.call (at 2) (typed.function 0) (Some ty.Int) true (typed.and_number ty.Int (typed.constant ty.Int (pos 5)) typed.no_arguments))) typed.no_statements)); nodes = 5; weight = 144 } ∷ []); main = 1 }

recursion_runs : seen 74 recursion ([]) ≡ row (Ended 0) ([]) ([]) 1968
recursion_runs = refl

recursion_typed : is_typed recursion ≡ true
recursion_typed = refl

-- int f(int n) { if (n == 0) return 0; return f(n - 1); }
-- int main(void) { return f(100); }
abbrev recursion_100 : Program
recursion_100 = record { literals = ([]); statics = ([]); functions = (record { name = 0; type = record { result = (Some ty.Int); constant = false; parameters = (number ty.Int ∷ []) }; objects = ((object ty.Int false ([])) ∷ []); body = (typed.block 1 0 (typed.and_statement (typed.branch (typed.binary (at 1) op.Equal ty.Int (typed.read ty.Int (typed.named (at 1) (typed.automatic 0))) (typed.constant ty.Int (pos 0))) (typed.return_value ty.Int (typed.constant ty.Int (pos 0)))) (typed.and_statement (typed.return_value ty.Int (typed.call (at 1) (typed.function 0) (Some ty.Int) true (typed.and_number ty.Int (typed.binary (at 1) op.Sub ty.Int (typed.read ty.Int (typed.named (at 1) (typed.automatic 0))) (typed.constant ty.Int (pos 1))) typed.no_arguments))) typed.no_statements))); nodes = 14; weight = 304 } ∷ record { name = 1; type = record { result = (Some ty.Int); constant = false; parameters = ([]) }; objects = ([]); body = (typed.block 0 0 (typed.and_statement (typed.return_value ty.Int (typed.call (at 2) (typed.function 0) (Some ty.Int) true (typed.and_number ty.Int (typed.constant ty.Int (pos 100)) typed.no_arguments))) typed.no_statements)); nodes = 5; weight = 144 } ∷ []); main = 1 }

recursion_100_runs : seen 1214 recursion_100 ([]) ≡ row (Ended 0) ([]) ([]) 30848
recursion_100_runs = refl

recursion_100_typed : is_typed recursion_100 ≡ true
recursion_100_typed = refl

-- void rv_exit(int s); void g(void) { rv_exit(9); }
-- int main(void) { g(); return 1; }
abbrev exits : Program
exits = record { literals = ([]); statics = ([]); functions = (record { name = 0; type = record { result = None; constant = false; parameters = ([]) }; objects = ([]); body = (typed.block 0 0 (typed.and_statement (typed.evaluate (typed.call (at 1) typed.exit None false (typed.and_number ty.Int (typed.constant ty.Int (pos 9)) typed.no_arguments))) typed.no_statements)); nodes = 5; weight = 144 } ∷ record { name = 1; type = record { result = (Some ty.Int); constant = false; parameters = ([]) }; objects = ([]); body = (typed.block 0 0 (typed.and_statement (typed.evaluate (typed.call (at 2) (typed.function 0) None false typed.no_arguments)) (typed.and_statement (typed.return_value ty.Int (typed.constant ty.Int (pos 1))) typed.no_statements))); nodes = 6; weight = 160 } ∷ []); main = 1 }

exits_runs : seen 9 exits ([]) ≡ row (Ended 9) ([]) ([]) 304
exits_runs = refl

exits_typed : is_typed exits ≡ true
exits_typed = refl

-- void rv_exit(int s); int main(void) { rv_exit(-1); return 1; }
abbrev exit_low_bits : Program
exit_low_bits = record { literals = ([]); statics = ([]); functions = (record { name = 0; type = record { result = (Some ty.Int); constant = false; parameters = ([]) }; objects = ([]); body = (typed.block 0 0 (typed.and_statement (typed.evaluate (typed.call (at 1) typed.exit None false (typed.and_number ty.Int (typed.unary (at 1) prefix.Minus ty.Int (typed.constant ty.Int (pos 1))) typed.no_arguments))) (typed.and_statement (typed.return_value ty.Int (typed.constant ty.Int (pos 1))) typed.no_statements))); nodes = 8; weight = 192 } ∷ []); main = 0 }

exit_low_bits_runs : seen 6 exit_low_bits ([]) ≡ row (Ended 255) ([]) ([]) 192
exit_low_bits_runs = refl

exit_low_bits_typed : is_typed exit_low_bits ≡ true
exit_low_bits_typed = refl

-- int n;
-- int main(void) { if (n) { n = 2; } else { n = 1; n = n + main() * 10; return n; } }
abbrev main_called_again : Program
main_called_again = record { literals = ([]); statics = (record { type = (object ty.Int false ([])); defined = true; values = ([]) } ∷ []); functions = (record { name = 0; type = record { result = (Some ty.Int); constant = false; parameters = ([]) }; objects = ([]); body = (typed.block 0 0 (typed.and_statement (typed.branches (typed.read ty.Int (typed.named (at 2) (typed.static 0))) (typed.block 0 0 (typed.and_statement (typed.evaluate (typed.assigned (at 2) ty.Int (typed.named (at 2) (typed.static 0)) (typed.constant ty.Int (pos 2)))) typed.no_statements)) (typed.block 0 0 (typed.and_statement (typed.evaluate (typed.assigned (at 2) ty.Int (typed.named (at 2) (typed.static 0)) (typed.constant ty.Int (pos 1)))) (typed.and_statement (typed.evaluate (typed.assigned (at 2) ty.Int (typed.named (at 2) (typed.static 0)) (typed.binary (at 2) op.Add ty.Int (typed.read ty.Int (typed.named (at 2) (typed.static 0))) (typed.binary (at 2) op.Mul ty.Int (typed.call (at 2) (typed.function 0) (Some ty.Int) true typed.no_arguments) (typed.constant ty.Int (pos 10)))))) (typed.and_statement (typed.return_value ty.Int (typed.read ty.Int (typed.named (at 2) (typed.static 0)))) typed.no_statements))))) typed.no_statements)); nodes = 24; weight = 448 } ∷ []); main = 0 }

main_called_again_runs : seen 28 main_called_again ([]) ≡ row (Ended 1) ([]) ([]) 896
main_called_again_runs = refl

main_called_again_typed : is_typed main_called_again ≡ true
main_called_again_typed = refl

-- int f(unsigned char c) { return c; }
-- int main(void) { return f(300); }
abbrev argument_is_converted : Program
argument_is_converted = record { literals = ([]); statics = ([]); functions = (record { name = 0; type = record { result = (Some ty.Int); constant = false; parameters = (number ty.UChar ∷ []) }; objects = ((object ty.UChar false ([])) ∷ []); body = (typed.block 1 0 (typed.and_statement (typed.return_value ty.Int (typed.read ty.UChar (typed.named (at 1) (typed.automatic 0)))) typed.no_statements)); nodes = 5; weight = 160 } ∷ record { name = 1; type = record { result = (Some ty.Int); constant = false; parameters = ([]) }; objects = ([]); body = (typed.block 0 0 (typed.and_statement (typed.return_value ty.Int (typed.call (at 2) (typed.function 0) (Some ty.Int) true (typed.and_number ty.UChar (typed.constant ty.Int (pos 300)) typed.no_arguments))) typed.no_statements)); nodes = 5; weight = 144 } ∷ []); main = 1 }

argument_is_converted_runs : seen 10 argument_is_converted ([]) ≡ row (Ended 44) ([]) ([]) 304
argument_is_converted_runs = refl

argument_is_converted_typed : is_typed argument_is_converted ≡ true
argument_is_converted_typed = refl

-- _Bool f(int x) { return x; }
-- int main(void) { return f(7); }
abbrev result_is_converted : Program
result_is_converted = record { literals = ([]); statics = ([]); functions = (record { name = 0; type = record { result = (Some ty.Bool); constant = false; parameters = (number ty.Int ∷ []) }; objects = ((object ty.Int false ([])) ∷ []); body = (typed.block 1 0 (typed.and_statement (typed.return_value ty.Bool (typed.read ty.Int (typed.named (at 1) (typed.automatic 0)))) typed.no_statements)); nodes = 5; weight = 160 } ∷ record { name = 1; type = record { result = (Some ty.Int); constant = false; parameters = ([]) }; objects = ([]); body = (typed.block 0 0 (typed.and_statement (typed.return_value ty.Int (typed.call (at 2) (typed.function 0) (Some ty.Bool) true (typed.and_number ty.Int (typed.constant ty.Int (pos 7)) typed.no_arguments))) typed.no_statements)); nodes = 5; weight = 144 } ∷ []); main = 1 }

result_is_converted_runs : seen 10 result_is_converted ([]) ≡ row (Ended 1) ([]) ([]) 304
result_is_converted_runs = refl

result_is_converted_typed : is_typed result_is_converted ≡ true
result_is_converted_typed = refl

-- int g(int n) { char pad[100]; return n; }
-- int f(int n) { return g(n) + n; }
-- int main(void) { f(1); return f(2); }
abbrev greatest_of_two : Program
greatest_of_two = record { literals = ([]); statics = ([]); functions = (record { name = 0; type = record { result = (Some ty.Int); constant = false; parameters = (number ty.Int ∷ []) }; objects = ((object ty.Int false ([])) ∷ (object ty.Char false (100 ∷ [])) ∷ []); body = (typed.block 1 1 (typed.and_statement (typed.declare 1) (typed.and_statement (typed.return_value ty.Int (typed.read ty.Int (typed.named (at 1) (typed.automatic 0)))) typed.no_statements))); nodes = 7; weight = 288 } ∷ record { name = 1; type = record { result = (Some ty.Int); constant = false; parameters = (number ty.Int ∷ []) }; objects = ((object ty.Int false ([])) ∷ []); body = (typed.block 1 0 (typed.and_statement (typed.return_value ty.Int (typed.binary (at 2) op.Add ty.Int (typed.call (at 2) (typed.function 0) (Some ty.Int) true (typed.and_number ty.Int (typed.read ty.Int (typed.named (at 2) (typed.automatic 0))) typed.no_arguments)) (typed.read ty.Int (typed.named (at 2) (typed.automatic 0))))) typed.no_statements)); nodes = 8; weight = 208 } ∷ record { name = 2; type = record { result = (Some ty.Int); constant = false; parameters = ([]) }; objects = ([]); body = (typed.block 0 0 (typed.and_statement (typed.evaluate (typed.call (at 3) (typed.function 1) (Some ty.Int) false (typed.and_number ty.Int (typed.constant ty.Int (pos 1)) typed.no_arguments))) (typed.and_statement (typed.return_value ty.Int (typed.call (at 3) (typed.function 1) (Some ty.Int) true (typed.and_number ty.Int (typed.constant ty.Int (pos 2)) typed.no_arguments))) typed.no_statements))); nodes = 8; weight = 192 } ∷ []); main = 2 }

greatest_of_two_runs : seen 36 greatest_of_two ([]) ≡ row (Ended 4) ([]) ([]) 688
greatest_of_two_runs = refl

greatest_of_two_typed : is_typed greatest_of_two ≡ true
greatest_of_two_typed = refl

-- void set(int a[], int i, int v) { a[i] = v; }
-- int main(void) { int a[3] = {1, 2, 3}; set(a, 1, 7); return a[0] + a[1] + a[2]; }
abbrev array_parameter : Program
array_parameter = record { literals = ([]); statics = ([]); functions = (record { name = 0; type = record { result = None; constant = false; parameters = (elements (object ty.Int false ([])) ∷ number ty.Int ∷ number ty.Int ∷ []) }; objects = ((object ty.Int false ([])) ∷ (object ty.Int false ([])) ∷ []); body = (typed.block 2 0 (typed.and_statement (typed.evaluate (typed.assigned (at 1) ty.Int (typed.element (at 1) (typed.named (at 1) (typed.parameter 0)) (typed.read ty.Int (typed.named (at 1) (typed.automatic 0)))) (typed.read ty.Int (typed.named (at 1) (typed.automatic 1))))) typed.no_statements)); nodes = 11; weight = 256 } ∷ record { name = 1; type = record { result = (Some ty.Int); constant = false; parameters = ([]) }; objects = ((object ty.Int false (3 ∷ [])) ∷ []); body = (typed.block 0 1 (typed.and_statement (typed.define 0 (typed.list (typed.and_initialiser (typed.one_value ty.Int (typed.constant ty.Int (pos 1))) (typed.and_initialiser (typed.one_value ty.Int (typed.constant ty.Int (pos 2))) (typed.and_initialiser (typed.one_value ty.Int (typed.constant ty.Int (pos 3))) typed.no_initialisers))))) (typed.and_statement (typed.evaluate (typed.call (at 2) (typed.function 0) None false (typed.and_array (typed.named (at 2) (typed.automatic 0)) (typed.and_number ty.Int (typed.constant ty.Int (pos 1)) (typed.and_number ty.Int (typed.constant ty.Int (pos 7)) typed.no_arguments))))) (typed.and_statement (typed.return_value ty.Int (typed.binary (at 2) op.Add ty.Int (typed.binary (at 2) op.Add ty.Int (typed.read ty.Int (typed.element (at 2) (typed.named (at 2) (typed.automatic 0)) (typed.constant ty.Int (pos 0)))) (typed.read ty.Int (typed.element (at 2) (typed.named (at 2) (typed.automatic 0)) (typed.constant ty.Int (pos 1))))) (typed.read ty.Int (typed.element (at 2) (typed.named (at 2) (typed.automatic 0)) (typed.constant ty.Int (pos 2)))))) typed.no_statements)))); nodes = 25; weight = 480 } ∷ []); main = 1 }

array_parameter_runs : seen 38 array_parameter ([]) ≡ row (Ended 11) ([]) ([]) 736
array_parameter_runs = refl

array_parameter_typed : is_typed array_parameter ≡ true
array_parameter_typed = refl

-- int sum(int m[][3], int n) { int s = 0; for (int i = 0; i < n; i++) for (int j = 0; j < 3; j++) s += m[i][j]; return s; }
-- int main(void) { int m[2][3] = {{1, 2, 3}, {4, 5, 6}}; return sum(m, 2); }
abbrev matrix_parameter : Program
matrix_parameter = record { literals = ([]); statics = ([]); functions = (record { name = 0; type = record { result = (Some ty.Int); constant = false; parameters = (elements (object ty.Int false (3 ∷ [])) ∷ number ty.Int ∷ []) }; objects = ((object ty.Int false ([])) ∷ (object ty.Int false ([])) ∷ (object ty.Int false ([])) ∷ (object ty.Int false ([])) ∷ []); body = (typed.block 1 3 (typed.and_statement (typed.define 1 (typed.one_value ty.Int (typed.constant ty.Int (pos 0)))) (typed.and_statement (typed.for (typed.and_statement (typed.define 2 (typed.one_value ty.Int (typed.constant ty.Int (pos 0)))) typed.no_statements) None (Some (typed.binary (at 1) op.Less ty.Int (typed.read ty.Int (typed.named (at 1) (typed.automatic 2))) (typed.read ty.Int (typed.named (at 1) (typed.automatic 0))))) (Some (typed.stepped (at 1) typed.after step.Increment ty.Int ty.Int (typed.named (at 1) (typed.automatic 2)))) (typed.for (typed.and_statement (typed.define 3 (typed.one_value ty.Int (typed.constant ty.Int (pos 0)))) typed.no_statements) None (Some (typed.binary (at 1) op.Less ty.Int (typed.read ty.Int (typed.named (at 1) (typed.automatic 3))) (typed.constant ty.Int (pos 3)))) (Some (typed.stepped (at 1) typed.after step.Increment ty.Int ty.Int (typed.named (at 1) (typed.automatic 3)))) (typed.evaluate (typed.compound (at 1) op.Add ty.Int ty.Int (typed.named (at 1) (typed.automatic 1)) (typed.read ty.Int (typed.element (at 1) (typed.element (at 1) (typed.named (at 1) (typed.parameter 0)) (typed.read ty.Int (typed.named (at 1) (typed.automatic 2)))) (typed.read ty.Int (typed.named (at 1) (typed.automatic 3))))))))) (typed.and_statement (typed.return_value ty.Int (typed.read ty.Int (typed.named (at 1) (typed.automatic 1)))) typed.no_statements)))); nodes = 33; weight = 624 } ∷ record { name = 1; type = record { result = (Some ty.Int); constant = false; parameters = ([]) }; objects = ((object ty.Int false (2 ∷ 3 ∷ [])) ∷ []); body = (typed.block 0 1 (typed.and_statement (typed.define 0 (typed.list (typed.and_initialiser (typed.list (typed.and_initialiser (typed.one_value ty.Int (typed.constant ty.Int (pos 1))) (typed.and_initialiser (typed.one_value ty.Int (typed.constant ty.Int (pos 2))) (typed.and_initialiser (typed.one_value ty.Int (typed.constant ty.Int (pos 3))) typed.no_initialisers)))) (typed.and_initialiser (typed.list (typed.and_initialiser (typed.one_value ty.Int (typed.constant ty.Int (pos 4))) (typed.and_initialiser (typed.one_value ty.Int (typed.constant ty.Int (pos 5))) (typed.and_initialiser (typed.one_value ty.Int (typed.constant ty.Int (pos 6))) typed.no_initialisers)))) typed.no_initialisers)))) (typed.and_statement (typed.return_value ty.Int (typed.call (at 2) (typed.function 0) (Some ty.Int) true (typed.and_array (typed.named (at 2) (typed.automatic 0)) (typed.and_number ty.Int (typed.constant ty.Int (pos 2)) typed.no_arguments)))) typed.no_statements))); nodes = 18; weight = 384 } ∷ []); main = 1 }

matrix_parameter_runs : seen 140 matrix_parameter ([]) ≡ row (Ended 21) ([]) ([]) 1008
matrix_parameter_runs = refl

matrix_parameter_typed : is_typed matrix_parameter ≡ true
matrix_parameter_typed = refl

-- void copy(char to[], const char from[]) { int i = 0; while (to[i] = from[i]) i++; }
-- int main(void) { char s[4]; copy(s, s); return 0; }
abbrev two_array_parameters : Program
two_array_parameters = record { literals = ([]); statics = ([]); functions = (record { name = 0; type = record { result = None; constant = false; parameters = (elements (object ty.Char false ([])) ∷ elements (object ty.Char true ([])) ∷ []) }; objects = ((object ty.Int false ([])) ∷ []); body = (typed.block 0 1 (typed.and_statement (typed.define 0 (typed.one_value ty.Int (typed.constant ty.Int (pos 0)))) (typed.and_statement (typed.while (typed.assigned (at 1) ty.Char (typed.element (at 1) (typed.named (at 1) (typed.parameter 0)) (typed.read ty.Int (typed.named (at 1) (typed.automatic 0)))) (typed.read ty.Char (typed.element (at 1) (typed.named (at 1) (typed.parameter 1)) (typed.read ty.Int (typed.named (at 1) (typed.automatic 0)))))) (typed.evaluate (typed.stepped (at 1) typed.after step.Increment ty.Int ty.Int (typed.named (at 1) (typed.automatic 0))))) typed.no_statements))); nodes = 17; weight = 352 } ∷ record { name = 1; type = record { result = (Some ty.Int); constant = false; parameters = ([]) }; objects = ((object ty.Char false (4 ∷ [])) ∷ []); body = (typed.block 0 1 (typed.and_statement (typed.declare 0) (typed.and_statement (typed.evaluate (typed.call (at 2) (typed.function 0) None false (typed.and_array (typed.named (at 2) (typed.automatic 0)) (typed.and_array (typed.named (at 2) (typed.automatic 0)) typed.no_arguments)))) (typed.and_statement (typed.return_value ty.Int (typed.constant ty.Int (pos 0))) typed.no_statements)))); nodes = 10; weight = 240 } ∷ []); main = 1 }

two_array_parameters_runs : seen 22 two_array_parameters ([]) ≡ row (Undefined act.U6 (at 1)) ([]) ([]) 592
two_array_parameters_runs = refl

two_array_parameters_typed : is_typed two_array_parameters ≡ true
two_array_parameters_typed = refl

-- void copy(char to[], char from[]) { int i = 0; while (to[i] = from[i]) i++; }
-- int main(void) { char s[4]; copy(s, "abc"); return s[2]; }
abbrev copies_text : Program
copies_text = record { literals = ((97 ∷ 98 ∷ 99 ∷ 0 ∷ []) ∷ []); statics = ([]); functions = (record { name = 0; type = record { result = None; constant = false; parameters = (elements (object ty.Char false ([])) ∷ elements (object ty.Char false ([])) ∷ []) }; objects = ((object ty.Int false ([])) ∷ []); body = (typed.block 0 1 (typed.and_statement (typed.define 0 (typed.one_value ty.Int (typed.constant ty.Int (pos 0)))) (typed.and_statement (typed.while (typed.assigned (at 1) ty.Char (typed.element (at 1) (typed.named (at 1) (typed.parameter 0)) (typed.read ty.Int (typed.named (at 1) (typed.automatic 0)))) (typed.read ty.Char (typed.element (at 1) (typed.named (at 1) (typed.parameter 1)) (typed.read ty.Int (typed.named (at 1) (typed.automatic 0)))))) (typed.evaluate (typed.stepped (at 1) typed.after step.Increment ty.Int ty.Int (typed.named (at 1) (typed.automatic 0))))) typed.no_statements))); nodes = 17; weight = 352 } ∷ record { name = 1; type = record { result = (Some ty.Int); constant = false; parameters = ([]) }; objects = ((object ty.Char false (4 ∷ [])) ∷ []); body = (typed.block 0 1 (typed.and_statement (typed.declare 0) (typed.and_statement (typed.evaluate (typed.call (at 2) (typed.function 0) None false (typed.and_array (typed.named (at 2) (typed.automatic 0)) (typed.and_array (typed.named (at 2) (typed.literal 0)) typed.no_arguments)))) (typed.and_statement (typed.return_value ty.Int (typed.read ty.Char (typed.element (at 2) (typed.named (at 2) (typed.automatic 0)) (typed.constant ty.Int (pos 2))))) typed.no_statements)))); nodes = 12; weight = 272 } ∷ []); main = 1 }

copies_text_runs : seen 56 copies_text ([]) ≡ row (Ended 99) ([]) ([]) 624
copies_text_runs = refl

copies_text_typed : is_typed copies_text ≡ true
copies_text_typed = refl

-- int f(int x) { int y = x; y++; return y; }
-- int main(void) { int y = 5; f(9); return y; }
abbrev caller_keeps_objects : Program
caller_keeps_objects = record { literals = ([]); statics = ([]); functions = (record { name = 0; type = record { result = (Some ty.Int); constant = false; parameters = (number ty.Int ∷ []) }; objects = ((object ty.Int false ([])) ∷ (object ty.Int false ([])) ∷ []); body = (typed.block 1 1 (typed.and_statement (typed.define 1 (typed.one_value ty.Int (typed.read ty.Int (typed.named (at 1) (typed.automatic 0))))) (typed.and_statement (typed.evaluate (typed.stepped (at 1) typed.after step.Increment ty.Int ty.Int (typed.named (at 1) (typed.automatic 1)))) (typed.and_statement (typed.return_value ty.Int (typed.read ty.Int (typed.named (at 1) (typed.automatic 1)))) typed.no_statements)))); nodes = 10; weight = 240 } ∷ record { name = 1; type = record { result = (Some ty.Int); constant = false; parameters = ([]) }; objects = ((object ty.Int false ([])) ∷ []); body = (typed.block 0 1 (typed.and_statement (typed.define 0 (typed.one_value ty.Int (typed.constant ty.Int (pos 5)))) (typed.and_statement (typed.evaluate (typed.call (at 2) (typed.function 0) (Some ty.Int) false (typed.and_number ty.Int (typed.constant ty.Int (pos 9)) typed.no_arguments))) (typed.and_statement (typed.return_value ty.Int (typed.read ty.Int (typed.named (at 2) (typed.automatic 0)))) typed.no_statements)))); nodes = 9; weight = 224 } ∷ []); main = 1 }

caller_keeps_objects_runs : seen 21 caller_keeps_objects ([]) ≡ row (Ended 5) ([]) ([]) 464
caller_keeps_objects_runs = refl

caller_keeps_objects_typed : is_typed caller_keeps_objects ≡ true
caller_keeps_objects_typed = refl

-- int main(void) { int i; for (i = 0; i < 2; i++) ; return i; }
abbrev counts_to_two : Program
counts_to_two = record { literals = ([]); statics = ([]); functions = (record { name = 0; type = record { result = (Some ty.Int); constant = false; parameters = ([]) }; objects = ((object ty.Int false ([])) ∷ []); body = (typed.block 0 1 (typed.and_statement (typed.declare 0) (typed.and_statement (typed.for typed.no_statements (Some (typed.assigned (at 1) ty.Int (typed.named (at 1) (typed.automatic 0)) (typed.constant ty.Int (pos 0)))) (Some (typed.binary (at 1) op.Less ty.Int (typed.read ty.Int (typed.named (at 1) (typed.automatic 0))) (typed.constant ty.Int (pos 2)))) (Some (typed.stepped (at 1) typed.after step.Increment ty.Int ty.Int (typed.named (at 1) (typed.automatic 0)))) typed.empty) (typed.and_statement (typed.return_value ty.Int (typed.read ty.Int (typed.named (at 1) (typed.automatic 0)))) typed.no_statements)))); nodes = 15; weight = 320 } ∷ []); main = 0 }

counts_to_two_runs : seen 24 counts_to_two ([]) ≡ row (Ended 2) ([]) ([]) 320
counts_to_two_runs = refl

counts_to_two_typed : is_typed counts_to_two ≡ true
counts_to_two_typed = refl

-- int main(void) { int i = 0; int s = 0; while (i < 5) { i++; if (i == 3) continue; s += i; } return s; }
abbrev while_and_continue : Program
while_and_continue = record { literals = ([]); statics = ([]); functions = (record { name = 0; type = record { result = (Some ty.Int); constant = false; parameters = ([]) }; objects = ((object ty.Int false ([])) ∷ (object ty.Int false ([])) ∷ []); body = (typed.block 0 2 (typed.and_statement (typed.define 0 (typed.one_value ty.Int (typed.constant ty.Int (pos 0)))) (typed.and_statement (typed.define 1 (typed.one_value ty.Int (typed.constant ty.Int (pos 0)))) (typed.and_statement (typed.while (typed.binary (at 1) op.Less ty.Int (typed.read ty.Int (typed.named (at 1) (typed.automatic 0))) (typed.constant ty.Int (pos 5))) (typed.block 2 0 (typed.and_statement (typed.evaluate (typed.stepped (at 1) typed.after step.Increment ty.Int ty.Int (typed.named (at 1) (typed.automatic 0)))) (typed.and_statement (typed.branch (typed.binary (at 1) op.Equal ty.Int (typed.read ty.Int (typed.named (at 1) (typed.automatic 0))) (typed.constant ty.Int (pos 3))) typed.continue) (typed.and_statement (typed.evaluate (typed.compound (at 1) op.Add ty.Int ty.Int (typed.named (at 1) (typed.automatic 1)) (typed.read ty.Int (typed.named (at 1) (typed.automatic 0))))) typed.no_statements))))) (typed.and_statement (typed.return_value ty.Int (typed.read ty.Int (typed.named (at 1) (typed.automatic 1)))) typed.no_statements))))); nodes = 25; weight = 480 } ∷ []); main = 0 }

while_and_continue_runs : seen 86 while_and_continue ([]) ≡ row (Ended 12) ([]) ([]) 480
while_and_continue_runs = refl

while_and_continue_typed : is_typed while_and_continue ≡ true
while_and_continue_typed = refl

-- int main(void) { int i = 9; do i++; while (i < 5); return i; }
abbrev do_once : Program
do_once = record { literals = ([]); statics = ([]); functions = (record { name = 0; type = record { result = (Some ty.Int); constant = false; parameters = ([]) }; objects = ((object ty.Int false ([])) ∷ []); body = (typed.block 0 1 (typed.and_statement (typed.define 0 (typed.one_value ty.Int (typed.constant ty.Int (pos 9)))) (typed.and_statement (typed.do_while (typed.evaluate (typed.stepped (at 1) typed.after step.Increment ty.Int ty.Int (typed.named (at 1) (typed.automatic 0)))) (typed.binary (at 1) op.Less ty.Int (typed.read ty.Int (typed.named (at 1) (typed.automatic 0))) (typed.constant ty.Int (pos 5)))) (typed.and_statement (typed.return_value ty.Int (typed.read ty.Int (typed.named (at 1) (typed.automatic 0)))) typed.no_statements)))); nodes = 13; weight = 288 } ∷ []); main = 0 }

do_once_runs : seen 14 do_once ([]) ≡ row (Ended 10) ([]) ([]) 288
do_once_runs = refl

do_once_typed : is_typed do_once ≡ true
do_once_typed = refl

-- int main(void) { int i = 0; do { i++; if (i < 3) continue; break; } while (i < 9); return i; }
abbrev do_continues : Program
do_continues = record { literals = ([]); statics = ([]); functions = (record { name = 0; type = record { result = (Some ty.Int); constant = false; parameters = ([]) }; objects = ((object ty.Int false ([])) ∷ []); body = (typed.block 0 1 (typed.and_statement (typed.define 0 (typed.one_value ty.Int (typed.constant ty.Int (pos 0)))) (typed.and_statement (typed.do_while (typed.block 1 0 (typed.and_statement (typed.evaluate (typed.stepped (at 1) typed.after step.Increment ty.Int ty.Int (typed.named (at 1) (typed.automatic 0)))) (typed.and_statement (typed.branch (typed.binary (at 1) op.Less ty.Int (typed.read ty.Int (typed.named (at 1) (typed.automatic 0))) (typed.constant ty.Int (pos 3))) typed.continue) (typed.and_statement typed.break typed.no_statements)))) (typed.binary (at 1) op.Less ty.Int (typed.read ty.Int (typed.named (at 1) (typed.automatic 0))) (typed.constant ty.Int (pos 9)))) (typed.and_statement (typed.return_value ty.Int (typed.read ty.Int (typed.named (at 1) (typed.automatic 0)))) typed.no_statements)))); nodes = 20; weight = 400 } ∷ []); main = 0 }

do_continues_runs : seen 41 do_continues ([]) ≡ row (Ended 3) ([]) ([]) 400
do_continues_runs = refl

do_continues_typed : is_typed do_continues ≡ true
do_continues_typed = refl

-- int main(void) { int n = 0; for (int i = 0; i < 3; i++) for (;;) { n++; break; } return n; }
abbrev breaks_inner_loop : Program
breaks_inner_loop = record { literals = ([]); statics = ([]); functions = (record { name = 0; type = record { result = (Some ty.Int); constant = false; parameters = ([]) }; objects = ((object ty.Int false ([])) ∷ (object ty.Int false ([])) ∷ []); body = (typed.block 0 2 (typed.and_statement (typed.define 0 (typed.one_value ty.Int (typed.constant ty.Int (pos 0)))) (typed.and_statement (typed.for (typed.and_statement (typed.define 1 (typed.one_value ty.Int (typed.constant ty.Int (pos 0)))) typed.no_statements) None (Some (typed.binary (at 1) op.Less ty.Int (typed.read ty.Int (typed.named (at 1) (typed.automatic 1))) (typed.constant ty.Int (pos 3)))) (Some (typed.stepped (at 1) typed.after step.Increment ty.Int ty.Int (typed.named (at 1) (typed.automatic 1)))) (typed.for typed.no_statements None None None (typed.block 2 0 (typed.and_statement (typed.evaluate (typed.stepped (at 1) typed.after step.Increment ty.Int ty.Int (typed.named (at 1) (typed.automatic 0)))) (typed.and_statement typed.break typed.no_statements))))) (typed.and_statement (typed.return_value ty.Int (typed.read ty.Int (typed.named (at 1) (typed.automatic 0)))) typed.no_statements)))); nodes = 20; weight = 400 } ∷ []); main = 0 }

breaks_inner_loop_runs : seen 47 breaks_inner_loop ([]) ≡ row (Ended 3) ([]) ([]) 400
breaks_inner_loop_runs = refl

breaks_inner_loop_typed : is_typed breaks_inner_loop ≡ true
breaks_inner_loop_typed = refl

-- int main(void) { int s = 0; for (int i = 0; i < 4; i++) { if (i == 1) continue; s += i; } return s; }
abbrev continue_steps : Program
continue_steps = record { literals = ([]); statics = ([]); functions = (record { name = 0; type = record { result = (Some ty.Int); constant = false; parameters = ([]) }; objects = ((object ty.Int false ([])) ∷ (object ty.Int false ([])) ∷ []); body = (typed.block 0 2 (typed.and_statement (typed.define 0 (typed.one_value ty.Int (typed.constant ty.Int (pos 0)))) (typed.and_statement (typed.for (typed.and_statement (typed.define 1 (typed.one_value ty.Int (typed.constant ty.Int (pos 0)))) typed.no_statements) None (Some (typed.binary (at 1) op.Less ty.Int (typed.read ty.Int (typed.named (at 1) (typed.automatic 1))) (typed.constant ty.Int (pos 4)))) (Some (typed.stepped (at 1) typed.after step.Increment ty.Int ty.Int (typed.named (at 1) (typed.automatic 1)))) (typed.block 2 0 (typed.and_statement (typed.branch (typed.binary (at 1) op.Equal ty.Int (typed.read ty.Int (typed.named (at 1) (typed.automatic 1))) (typed.constant ty.Int (pos 1))) typed.continue) (typed.and_statement (typed.evaluate (typed.compound (at 1) op.Add ty.Int ty.Int (typed.named (at 1) (typed.automatic 0)) (typed.read ty.Int (typed.named (at 1) (typed.automatic 1))))) typed.no_statements)))) (typed.and_statement (typed.return_value ty.Int (typed.read ty.Int (typed.named (at 1) (typed.automatic 0)))) typed.no_statements)))); nodes = 24; weight = 464 } ∷ []); main = 0 }

continue_steps_runs : seen 67 continue_steps ([]) ≡ row (Ended 5) ([]) ([]) 464
continue_steps_runs = refl

continue_steps_typed : is_typed continue_steps ≡ true
continue_steps_typed = refl

-- int main(void) { for (;;) { for (int i = 0; ; i++) if (i == 2) return i; } }
abbrev returns_from_loop : Program
returns_from_loop = record { literals = ([]); statics = ([]); functions = (record { name = 0; type = record { result = (Some ty.Int); constant = false; parameters = ([]) }; objects = ((object ty.Int false ([])) ∷ []); body = (typed.block 0 1 (typed.and_statement (typed.for typed.no_statements None None None (typed.block 0 1 (typed.and_statement (typed.for (typed.and_statement (typed.define 0 (typed.one_value ty.Int (typed.constant ty.Int (pos 0)))) typed.no_statements) None None (Some (typed.stepped (at 1) typed.after step.Increment ty.Int ty.Int (typed.named (at 1) (typed.automatic 0)))) (typed.branch (typed.binary (at 1) op.Equal ty.Int (typed.read ty.Int (typed.named (at 1) (typed.automatic 0))) (typed.constant ty.Int (pos 2))) (typed.return_value ty.Int (typed.read ty.Int (typed.named (at 1) (typed.automatic 0)))))) typed.no_statements))) typed.no_statements)); nodes = 15; weight = 320 } ∷ []); main = 0 }

returns_from_loop_runs : seen 26 returns_from_loop ([]) ≡ row (Ended 2) ([]) ([]) 320
returns_from_loop_runs = refl

returns_from_loop_typed : is_typed returns_from_loop ≡ true
returns_from_loop_typed = refl

-- int main(void) { int i = 7; for (int i = 0, j = 5; i < j; i++) j--; return i; }
abbrev declared_in_for : Program
declared_in_for = record { literals = ([]); statics = ([]); functions = (record { name = 0; type = record { result = (Some ty.Int); constant = false; parameters = ([]) }; objects = ((object ty.Int false ([])) ∷ (object ty.Int false ([])) ∷ (object ty.Int false ([])) ∷ []); body = (typed.block 0 3 (typed.and_statement (typed.define 0 (typed.one_value ty.Int (typed.constant ty.Int (pos 7)))) (typed.and_statement (typed.for (typed.and_statement (typed.define 1 (typed.one_value ty.Int (typed.constant ty.Int (pos 0)))) (typed.and_statement (typed.define 2 (typed.one_value ty.Int (typed.constant ty.Int (pos 5)))) typed.no_statements)) None (Some (typed.binary (at 1) op.Less ty.Int (typed.read ty.Int (typed.named (at 1) (typed.automatic 1))) (typed.read ty.Int (typed.named (at 1) (typed.automatic 2))))) (Some (typed.stepped (at 1) typed.after step.Increment ty.Int ty.Int (typed.named (at 1) (typed.automatic 1)))) (typed.evaluate (typed.stepped (at 1) typed.after step.Decrement ty.Int ty.Int (typed.named (at 1) (typed.automatic 2))))) (typed.and_statement (typed.return_value ty.Int (typed.read ty.Int (typed.named (at 1) (typed.automatic 0)))) typed.no_statements)))); nodes = 19; weight = 384 } ∷ []); main = 0 }

declared_in_for_runs : seen 41 declared_in_for ([]) ≡ row (Ended 7) ([]) ([]) 384
declared_in_for_runs = refl

declared_in_for_typed : is_typed declared_in_for ≡ true
declared_in_for_typed = refl

-- int main(void) { switch (1) { int x = 1; case 1: return x; } }
abbrev jumps_over_declaration : Program
jumps_over_declaration = record { literals = ([]); statics = ([]); functions = (record { name = 0; type = record { result = (Some ty.Int); constant = false; parameters = ([]) }; objects = ((object ty.Int false ([])) ∷ []); body = (typed.block 0 1 (typed.and_statement (typed.switch ty.Int (typed.constant ty.Int (pos 1)) 0 1 (typed.and_statement (typed.define 0 (typed.one_value ty.Int (typed.constant ty.Int (pos 1)))) (typed.and_statement (typed.case (pos 1)) (typed.and_statement (typed.return_value ty.Int (typed.read ty.Int (typed.named (at 1) (typed.automatic 0)))) typed.no_statements)))) typed.no_statements)); nodes = 11; weight = 256 } ∷ []); main = 0 }

jumps_over_declaration_runs : seen 9 jumps_over_declaration ([]) ≡ row (Undefined act.U6 (at 1)) ([]) ([]) 256
jumps_over_declaration_runs = refl

jumps_over_declaration_typed : is_typed jumps_over_declaration ≡ true
jumps_over_declaration_typed = refl

-- int main(void) { int x = 0; switch (2) { case 1: x = 1; case 2: x += 5; case 3: x += 10; break; case 4: x = 99; } return x; }
abbrev skips_first_label : Program
skips_first_label = record { literals = ([]); statics = ([]); functions = (record { name = 0; type = record { result = (Some ty.Int); constant = false; parameters = ([]) }; objects = ((object ty.Int false ([])) ∷ []); body = (typed.block 0 1 (typed.and_statement (typed.define 0 (typed.one_value ty.Int (typed.constant ty.Int (pos 0)))) (typed.and_statement (typed.switch ty.Int (typed.constant ty.Int (pos 2)) 1 0 (typed.and_statement (typed.case (pos 1)) (typed.and_statement (typed.evaluate (typed.assigned (at 1) ty.Int (typed.named (at 1) (typed.automatic 0)) (typed.constant ty.Int (pos 1)))) (typed.and_statement (typed.case (pos 2)) (typed.and_statement (typed.evaluate (typed.compound (at 1) op.Add ty.Int ty.Int (typed.named (at 1) (typed.automatic 0)) (typed.constant ty.Int (pos 5)))) (typed.and_statement (typed.case (pos 3)) (typed.and_statement (typed.evaluate (typed.compound (at 1) op.Add ty.Int ty.Int (typed.named (at 1) (typed.automatic 0)) (typed.constant ty.Int (pos 10)))) (typed.and_statement typed.break (typed.and_statement (typed.case (pos 4)) (typed.and_statement (typed.evaluate (typed.assigned (at 1) ty.Int (typed.named (at 1) (typed.automatic 0)) (typed.constant ty.Int (pos 99)))) typed.no_statements)))))))))) (typed.and_statement (typed.return_value ty.Int (typed.read ty.Int (typed.named (at 1) (typed.automatic 0)))) typed.no_statements)))); nodes = 34; weight = 624 } ∷ []); main = 0 }

skips_first_label_runs : seen 23 skips_first_label ([]) ≡ row (Ended 15) ([]) ([]) 624
skips_first_label_runs = refl

skips_first_label_typed : is_typed skips_first_label ≡ true
skips_first_label_typed = refl

-- int main(void) { int x = 0; switch (9) { case 1: x = 1; default: x += 2; case 2: x += 4; } return x; }
abbrev default_in_the_middle : Program
default_in_the_middle = record { literals = ([]); statics = ([]); functions = (record { name = 0; type = record { result = (Some ty.Int); constant = false; parameters = ([]) }; objects = ((object ty.Int false ([])) ∷ []); body = (typed.block 0 1 (typed.and_statement (typed.define 0 (typed.one_value ty.Int (typed.constant ty.Int (pos 0)))) (typed.and_statement (typed.switch ty.Int (typed.constant ty.Int (pos 9)) 1 0 (typed.and_statement (typed.case (pos 1)) (typed.and_statement (typed.evaluate (typed.assigned (at 1) ty.Int (typed.named (at 1) (typed.automatic 0)) (typed.constant ty.Int (pos 1)))) (typed.and_statement typed.default (typed.and_statement (typed.evaluate (typed.compound (at 1) op.Add ty.Int ty.Int (typed.named (at 1) (typed.automatic 0)) (typed.constant ty.Int (pos 2)))) (typed.and_statement (typed.case (pos 2)) (typed.and_statement (typed.evaluate (typed.compound (at 1) op.Add ty.Int ty.Int (typed.named (at 1) (typed.automatic 0)) (typed.constant ty.Int (pos 4)))) typed.no_statements))))))) (typed.and_statement (typed.return_value ty.Int (typed.read ty.Int (typed.named (at 1) (typed.automatic 0)))) typed.no_statements)))); nodes = 26; weight = 496 } ∷ []); main = 0 }

default_in_the_middle_runs : seen 22 default_in_the_middle ([]) ≡ row (Ended 6) ([]) ([]) 496
default_in_the_middle_runs = refl

default_in_the_middle_typed : is_typed default_in_the_middle ≡ true
default_in_the_middle_typed = refl

-- int main(void) { int x = 3; switch (9) { case 1: x = 1; case 2: x = 2; } return x; }
abbrev no_label_fits : Program
no_label_fits = record { literals = ([]); statics = ([]); functions = (record { name = 0; type = record { result = (Some ty.Int); constant = false; parameters = ([]) }; objects = ((object ty.Int false ([])) ∷ []); body = (typed.block 0 1 (typed.and_statement (typed.define 0 (typed.one_value ty.Int (typed.constant ty.Int (pos 3)))) (typed.and_statement (typed.switch ty.Int (typed.constant ty.Int (pos 9)) 1 0 (typed.and_statement (typed.case (pos 1)) (typed.and_statement (typed.evaluate (typed.assigned (at 1) ty.Int (typed.named (at 1) (typed.automatic 0)) (typed.constant ty.Int (pos 1)))) (typed.and_statement (typed.case (pos 2)) (typed.and_statement (typed.evaluate (typed.assigned (at 1) ty.Int (typed.named (at 1) (typed.automatic 0)) (typed.constant ty.Int (pos 2)))) typed.no_statements))))) (typed.and_statement (typed.return_value ty.Int (typed.read ty.Int (typed.named (at 1) (typed.automatic 0)))) typed.no_statements)))); nodes = 21; weight = 416 } ∷ []); main = 0 }

no_label_fits_runs : seen 12 no_label_fits ([]) ≡ row (Ended 3) ([]) ([]) 416
no_label_fits_runs = refl

no_label_fits_typed : is_typed no_label_fits ≡ true
no_label_fits_typed = refl

-- int main(void) { int x = 0; switch (2) { case 1: case 2: x = 6; } return x; }
abbrev two_labels : Program
two_labels = record { literals = ([]); statics = ([]); functions = (record { name = 0; type = record { result = (Some ty.Int); constant = false; parameters = ([]) }; objects = ((object ty.Int false ([])) ∷ []); body = (typed.block 0 1 (typed.and_statement (typed.define 0 (typed.one_value ty.Int (typed.constant ty.Int (pos 0)))) (typed.and_statement (typed.switch ty.Int (typed.constant ty.Int (pos 2)) 1 0 (typed.and_statement (typed.case (pos 1)) (typed.and_statement (typed.case (pos 2)) (typed.and_statement (typed.evaluate (typed.assigned (at 1) ty.Int (typed.named (at 1) (typed.automatic 0)) (typed.constant ty.Int (pos 6)))) typed.no_statements)))) (typed.and_statement (typed.return_value ty.Int (typed.read ty.Int (typed.named (at 1) (typed.automatic 0)))) typed.no_statements)))); nodes = 17; weight = 352 } ∷ []); main = 0 }

two_labels_runs : seen 17 two_labels ([]) ≡ row (Ended 6) ([]) ([]) 352
two_labels_runs = refl

two_labels_typed : is_typed two_labels ≡ true
two_labels_typed = refl

-- int main(void) { unsigned u = 4294967295u; switch (u) { case -1: return 8; } return 9; }
abbrev case_is_converted : Program
case_is_converted = record { literals = ([]); statics = ([]); functions = (record { name = 0; type = record { result = (Some ty.Int); constant = false; parameters = ([]) }; objects = ((object ty.UInt false ([])) ∷ []); body = (typed.block 0 1 (typed.and_statement (typed.define 0 (typed.one_value ty.UInt (typed.constant ty.UInt (pos 4294967295)))) (typed.and_statement (typed.switch ty.UInt (typed.read ty.UInt (typed.named (at 1) (typed.automatic 0))) 1 0 (typed.and_statement (typed.case (pos 4294967295)) (typed.and_statement (typed.return_value ty.Int (typed.constant ty.Int (pos 8))) typed.no_statements))) (typed.and_statement (typed.return_value ty.Int (typed.constant ty.Int (pos 9))) typed.no_statements)))); nodes = 14; weight = 304 } ∷ []); main = 0 }

case_is_converted_runs : seen 12 case_is_converted ([]) ≡ row (Ended 8) ([]) ([]) 304
case_is_converted_runs = refl

case_is_converted_typed : is_typed case_is_converted ≡ true
case_is_converted_typed = refl

-- int main(void) { char c = 97; switch (c) { case 'a': return 8; default: return 7; } }
abbrev char_is_promoted : Program
char_is_promoted = record { literals = ([]); statics = ([]); functions = (record { name = 0; type = record { result = (Some ty.Int); constant = false; parameters = ([]) }; objects = ((object ty.Char false ([])) ∷ []); body = (typed.block 0 1 (typed.and_statement (typed.define 0 (typed.one_value ty.Char (typed.constant ty.Int (pos 97)))) (typed.and_statement (typed.switch ty.Int (typed.read ty.Char (typed.named (at 1) (typed.automatic 0))) 1 0 (typed.and_statement (typed.case (pos 97)) (typed.and_statement (typed.return_value ty.Int (typed.constant ty.Int (pos 8))) (typed.and_statement typed.default (typed.and_statement (typed.return_value ty.Int (typed.constant ty.Int (pos 7))) typed.no_statements))))) typed.no_statements))); nodes = 14; weight = 304 } ∷ []); main = 0 }

char_is_promoted_runs : seen 12 char_is_promoted ([]) ≡ row (Ended 8) ([]) ([]) 304
char_is_promoted_runs = refl

char_is_promoted_typed : is_typed char_is_promoted ≡ true
char_is_promoted_typed = refl

-- int main(void) { int s = 0; for (int i = 0; i < 3; i++) { switch (i) { case 1: continue; } s += 10; } return s; }
abbrev continue_in_switch : Program
continue_in_switch = record { literals = ([]); statics = ([]); functions = (record { name = 0; type = record { result = (Some ty.Int); constant = false; parameters = ([]) }; objects = ((object ty.Int false ([])) ∷ (object ty.Int false ([])) ∷ []); body = (typed.block 0 2 (typed.and_statement (typed.define 0 (typed.one_value ty.Int (typed.constant ty.Int (pos 0)))) (typed.and_statement (typed.for (typed.and_statement (typed.define 1 (typed.one_value ty.Int (typed.constant ty.Int (pos 0)))) typed.no_statements) None (Some (typed.binary (at 1) op.Less ty.Int (typed.read ty.Int (typed.named (at 1) (typed.automatic 1))) (typed.constant ty.Int (pos 3)))) (Some (typed.stepped (at 1) typed.after step.Increment ty.Int ty.Int (typed.named (at 1) (typed.automatic 1)))) (typed.block 2 0 (typed.and_statement (typed.switch ty.Int (typed.read ty.Int (typed.named (at 1) (typed.automatic 1))) 2 0 (typed.and_statement (typed.case (pos 1)) (typed.and_statement typed.continue typed.no_statements))) (typed.and_statement (typed.evaluate (typed.compound (at 1) op.Add ty.Int ty.Int (typed.named (at 1) (typed.automatic 0)) (typed.constant ty.Int (pos 10)))) typed.no_statements)))) (typed.and_statement (typed.return_value ty.Int (typed.read ty.Int (typed.named (at 1) (typed.automatic 0)))) typed.no_statements)))); nodes = 25; weight = 480 } ∷ []); main = 0 }

continue_in_switch_runs : seen 54 continue_in_switch ([]) ≡ row (Ended 20) ([]) ([]) 480
continue_in_switch_runs = refl

continue_in_switch_typed : is_typed continue_in_switch ≡ true
continue_in_switch_typed = refl

-- int main(void) { int x = 0; switch (1) { case 1: switch (2) { case 2: x = 4; break; case 1: x = 9; } x++; } return x; }
abbrev switch_in_switch : Program
switch_in_switch = record { literals = ([]); statics = ([]); functions = (record { name = 0; type = record { result = (Some ty.Int); constant = false; parameters = ([]) }; objects = ((object ty.Int false ([])) ∷ []); body = (typed.block 0 1 (typed.and_statement (typed.define 0 (typed.one_value ty.Int (typed.constant ty.Int (pos 0)))) (typed.and_statement (typed.switch ty.Int (typed.constant ty.Int (pos 1)) 1 0 (typed.and_statement (typed.case (pos 1)) (typed.and_statement (typed.switch ty.Int (typed.constant ty.Int (pos 2)) 1 0 (typed.and_statement (typed.case (pos 2)) (typed.and_statement (typed.evaluate (typed.assigned (at 1) ty.Int (typed.named (at 1) (typed.automatic 0)) (typed.constant ty.Int (pos 4)))) (typed.and_statement typed.break (typed.and_statement (typed.case (pos 1)) (typed.and_statement (typed.evaluate (typed.assigned (at 1) ty.Int (typed.named (at 1) (typed.automatic 0)) (typed.constant ty.Int (pos 9)))) typed.no_statements)))))) (typed.and_statement (typed.evaluate (typed.stepped (at 1) typed.after step.Increment ty.Int ty.Int (typed.named (at 1) (typed.automatic 0)))) typed.no_statements)))) (typed.and_statement (typed.return_value ty.Int (typed.read ty.Int (typed.named (at 1) (typed.automatic 0)))) typed.no_statements)))); nodes = 30; weight = 560 } ∷ []); main = 0 }

switch_in_switch_runs : seen 25 switch_in_switch ([]) ≡ row (Ended 5) ([]) ([]) 560
switch_in_switch_runs = refl

switch_in_switch_typed : is_typed switch_in_switch ≡ true
switch_in_switch_typed = refl

-- int main(void) { int s = 0; for (int i = 0; i < 2; i++) { int x; if (i == 1) s = x; x = 5; } return s; }
abbrev redeclared : Program
redeclared = record { literals = ([]); statics = ([]); functions = (record { name = 0; type = record { result = (Some ty.Int); constant = false; parameters = ([]) }; objects = ((object ty.Int false ([])) ∷ (object ty.Int false ([])) ∷ (object ty.Int false ([])) ∷ []); body = (typed.block 0 3 (typed.and_statement (typed.define 0 (typed.one_value ty.Int (typed.constant ty.Int (pos 0)))) (typed.and_statement (typed.for (typed.and_statement (typed.define 1 (typed.one_value ty.Int (typed.constant ty.Int (pos 0)))) typed.no_statements) None (Some (typed.binary (at 1) op.Less ty.Int (typed.read ty.Int (typed.named (at 1) (typed.automatic 1))) (typed.constant ty.Int (pos 2)))) (Some (typed.stepped (at 1) typed.after step.Increment ty.Int ty.Int (typed.named (at 1) (typed.automatic 1)))) (typed.block 2 1 (typed.and_statement (typed.declare 2) (typed.and_statement (typed.branch (typed.binary (at 1) op.Equal ty.Int (typed.read ty.Int (typed.named (at 1) (typed.automatic 1))) (typed.constant ty.Int (pos 1))) (typed.evaluate (typed.assigned (at 1) ty.Int (typed.named (at 1) (typed.automatic 0)) (typed.read ty.Int (typed.named (at 1) (typed.automatic 2)))))) (typed.and_statement (typed.evaluate (typed.assigned (at 1) ty.Int (typed.named (at 1) (typed.automatic 2)) (typed.constant ty.Int (pos 5)))) typed.no_statements))))) (typed.and_statement (typed.return_value ty.Int (typed.read ty.Int (typed.named (at 1) (typed.automatic 0)))) typed.no_statements)))); nodes = 28; weight = 528 } ∷ []); main = 0 }

redeclared_runs : seen 37 redeclared ([]) ≡ row (Undefined act.U6 (at 1)) ([]) ([]) 528
redeclared_runs = refl

redeclared_typed : is_typed redeclared ≡ true
redeclared_typed = refl

-- int main(void) { int s = 0; for (int i = 0; i < 2; i++) for (int x; i < 9; ) { if (i == 1) s = x; x = 5; break; } return s; }
abbrev redeclared_in_for : Program
redeclared_in_for = record { literals = ([]); statics = ([]); functions = (record { name = 0; type = record { result = (Some ty.Int); constant = false; parameters = ([]) }; objects = ((object ty.Int false ([])) ∷ (object ty.Int false ([])) ∷ (object ty.Int false ([])) ∷ []); body = (typed.block 0 3 (typed.and_statement (typed.define 0 (typed.one_value ty.Int (typed.constant ty.Int (pos 0)))) (typed.and_statement (typed.for (typed.and_statement (typed.define 1 (typed.one_value ty.Int (typed.constant ty.Int (pos 0)))) typed.no_statements) None (Some (typed.binary (at 1) op.Less ty.Int (typed.read ty.Int (typed.named (at 1) (typed.automatic 1))) (typed.constant ty.Int (pos 2)))) (Some (typed.stepped (at 1) typed.after step.Increment ty.Int ty.Int (typed.named (at 1) (typed.automatic 1)))) (typed.for (typed.and_statement (typed.declare 2) typed.no_statements) None (Some (typed.binary (at 1) op.Less ty.Int (typed.read ty.Int (typed.named (at 1) (typed.automatic 1))) (typed.constant ty.Int (pos 9)))) None (typed.block 3 0 (typed.and_statement (typed.branch (typed.binary (at 1) op.Equal ty.Int (typed.read ty.Int (typed.named (at 1) (typed.automatic 1))) (typed.constant ty.Int (pos 1))) (typed.evaluate (typed.assigned (at 1) ty.Int (typed.named (at 1) (typed.automatic 0)) (typed.read ty.Int (typed.named (at 1) (typed.automatic 2)))))) (typed.and_statement (typed.evaluate (typed.assigned (at 1) ty.Int (typed.named (at 1) (typed.automatic 2)) (typed.constant ty.Int (pos 5)))) (typed.and_statement typed.break typed.no_statements)))))) (typed.and_statement (typed.return_value ty.Int (typed.read ty.Int (typed.named (at 1) (typed.automatic 0)))) typed.no_statements)))); nodes = 33; weight = 608 } ∷ []); main = 0 }

redeclared_in_for_runs : seen 46 redeclared_in_for ([]) ≡ row (Undefined act.U6 (at 1)) ([]) ([]) 608
redeclared_in_for_runs = refl

redeclared_in_for_typed : is_typed redeclared_in_for ≡ true
redeclared_in_for_typed = refl

-- int main(void) { char a[2 + 2]; return (int)sizeof(a[1] + 1) + (int)sizeof a; }
abbrev size_costs_nothing : Program
size_costs_nothing = record { literals = ([]); statics = ([]); functions = (record { name = 0; type = record { result = (Some ty.Int); constant = false; parameters = ([]) }; objects = ((object ty.Char false (4 ∷ [])) ∷ []); body = (typed.block 0 1 (typed.and_statement (typed.declare 0) (typed.and_statement (typed.return_value ty.Int (typed.binary (at 1) op.Add ty.Int (typed.cast ty.Int (typed.constant ty.UInt (pos 4))) (typed.cast ty.Int (typed.constant ty.UInt (pos 4))))) typed.no_statements))); nodes = 18; weight = 368 } ∷ []); main = 0 }

size_costs_nothing_runs : seen 9 size_costs_nothing ([]) ≡ row (Ended 8) ([]) ([]) 368
size_costs_nothing_runs = refl

size_costs_nothing_typed : is_typed size_costs_nothing ≡ true
size_costs_nothing_typed = refl

-- int main(void) { int x = (((3))); return ((x) + (2)); }
abbrev parentheses_cost_nothing : Program
parentheses_cost_nothing = record { literals = ([]); statics = ([]); functions = (record { name = 0; type = record { result = (Some ty.Int); constant = false; parameters = ([]) }; objects = ((object ty.Int false ([])) ∷ []); body = (typed.block 0 1 (typed.and_statement (typed.define 0 (typed.one_value ty.Int (typed.constant ty.Int (pos 3)))) (typed.and_statement (typed.return_value ty.Int (typed.binary (at 1) op.Add ty.Int (typed.read ty.Int (typed.named (at 1) (typed.automatic 0))) (typed.constant ty.Int (pos 2)))) typed.no_statements))); nodes = 8; weight = 208 } ∷ []); main = 0 }

parentheses_cost_nothing_runs : seen 9 parentheses_cost_nothing ([]) ≡ row (Ended 5) ([]) ([]) 208
parentheses_cost_nothing_runs = refl

parentheses_cost_nothing_typed : is_typed parentheses_cost_nothing ≡ true
parentheses_cost_nothing_typed = refl

-- int main(void) { int x = (char)(unsigned)3; return (short)x; }
abbrev cast_costs_a_tick : Program
cast_costs_a_tick = record { literals = ([]); statics = ([]); functions = (record { name = 0; type = record { result = (Some ty.Int); constant = false; parameters = ([]) }; objects = ((object ty.Int false ([])) ∷ []); body = (typed.block 0 1 (typed.and_statement (typed.define 0 (typed.one_value ty.Int (typed.cast ty.Char (typed.cast ty.UInt (typed.constant ty.Int (pos 3)))))) (typed.and_statement (typed.return_value ty.Int (typed.cast ty.Short (typed.read ty.Int (typed.named (at 1) (typed.automatic 0))))) typed.no_statements))); nodes = 9; weight = 224 } ∷ []); main = 0 }

cast_costs_a_tick_runs : seen 10 cast_costs_a_tick ([]) ≡ row (Ended 3) ([]) ([]) 224
cast_costs_a_tick_runs = refl

cast_costs_a_tick_typed : is_typed cast_costs_a_tick ≡ true
cast_costs_a_tick_typed = refl

-- int f(void) { }
-- int main(void) {
-- return 1 ? f() : 2; }
abbrev arm_is_used : Program
arm_is_used = record { literals = ([]); statics = ([]); functions = (record { name = 0; type = record { result = (Some ty.Int); constant = false; parameters = ([]) }; objects = ([]); body = (typed.block 0 0 typed.no_statements); nodes = 2; weight = 96 } ∷ record { name = 1; type = record { result = (Some ty.Int); constant = false; parameters = ([]) }; objects = ([]); body = (typed.block 0 0 (typed.and_statement (typed.return_value ty.Int (typed.chosen (Some ty.Int) (typed.constant ty.Int (pos 1)) (typed.call (at 3) (typed.function 0) (Some ty.Int) true typed.no_arguments) (typed.constant ty.Int (pos 2)))) typed.no_statements)); nodes = 7; weight = 176 } ∷ []); main = 1 }

arm_is_used_runs : seen 8 arm_is_used ([]) ≡ row (Undefined act.U8 (at 3)) ([]) ([]) 272
arm_is_used_runs = refl

arm_is_used_typed : is_typed arm_is_used ≡ true
arm_is_used_typed = refl

-- int main(void) { int i = 0; int s = 0; while (i < 2) { int x = i; s += x; i++; } return s; }
abbrev block_begins_anew : Program
block_begins_anew = record { literals = ([]); statics = ([]); functions = (record { name = 0; type = record { result = (Some ty.Int); constant = false; parameters = ([]) }; objects = ((object ty.Int false ([])) ∷ (object ty.Int false ([])) ∷ (object ty.Int false ([])) ∷ []); body = (typed.block 0 3 (typed.and_statement (typed.define 0 (typed.one_value ty.Int (typed.constant ty.Int (pos 0)))) (typed.and_statement (typed.define 1 (typed.one_value ty.Int (typed.constant ty.Int (pos 0)))) (typed.and_statement (typed.while (typed.binary (at 1) op.Less ty.Int (typed.read ty.Int (typed.named (at 1) (typed.automatic 0))) (typed.constant ty.Int (pos 2))) (typed.block 2 1 (typed.and_statement (typed.define 2 (typed.one_value ty.Int (typed.read ty.Int (typed.named (at 1) (typed.automatic 0))))) (typed.and_statement (typed.evaluate (typed.compound (at 1) op.Add ty.Int ty.Int (typed.named (at 1) (typed.automatic 1)) (typed.read ty.Int (typed.named (at 1) (typed.automatic 2))))) (typed.and_statement (typed.evaluate (typed.stepped (at 1) typed.after step.Increment ty.Int ty.Int (typed.named (at 1) (typed.automatic 0)))) typed.no_statements))))) (typed.and_statement (typed.return_value ty.Int (typed.read ty.Int (typed.named (at 1) (typed.automatic 1)))) typed.no_statements))))); nodes = 22; weight = 432 } ∷ []); main = 0 }

block_begins_anew_runs : seen 42 block_begins_anew ([]) ≡ row (Ended 1) ([]) ([]) 432
block_begins_anew_runs = refl

block_begins_anew_typed : is_typed block_begins_anew ≡ true
block_begins_anew_typed = refl
