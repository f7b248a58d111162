-- Rows: the table's entries are attained, and a program whose items are laid ends as the laws say.
use Rattle.std.proofs.Common.{◌≡◌, ℕ, zero, suc, ◌+◌, ◌*◌, ◌-◌, ◌/◌, ◌≤◌, List, [], ◌∷◌, Some, true, refl, sym, subst, arith}
use Rattle.std.specs.Prelude.{slice_get, slice_index_or}
use Rattle.std.specs.Int.Count.{count_trailing_zeros}
use Rattle.rv32.specs.declared.instr.Instr.{Instr}
use Rattle.rv32.specs.declared.instr.Instr.TheVariants as instr
use Rattle.rv32.specs.declared.instr.ImmediateOp.TheVariants as immediate_op
use Rattle.rv32.specs.declared.instr.RegisterOp.TheVariants as register_op
use Rattle.rv32.specs.declared.instr.LoadKind.TheVariants as load_kind
use Rattle.rv32.specs.declared.instr.StoreKind.TheVariants as store_kind
use Rattle.rv32.specs.declared.instr.Test.TheVariants as test
use Rattle.asm.specs.Layout.{longest}
use Rattle.frames_code.specs.declared.code.Operand.{Operand}
use Rattle.frames_code.specs.declared.code.Operand.TheVariants as operand
use Rattle.frames_code.specs.declared.code.Target.{Target}
use Rattle.frames_code.specs.declared.code.Target.TheVariants as target
use Rattle.frames_code.specs.declared.code.Location.TheVariants as location
use Rattle.frames_code.specs.declared.code.Width.TheVariants as width
use Rattle.frames_code.specs.declared.code.Operation.TheVariants as operation
use Rattle.frames_code.specs.declared.code.Conversion.TheVariants as conversion
use Rattle.frames_code.specs.declared.code.Instruction.{Instruction}
use Rattle.frames_code.specs.declared.code.Instruction.TheVariants as instruction
use Rattle.frames_code.specs.Code.{Function, Program}
use Rattle.frames_code.specs.Sound.{InstructionFits, FunctionFits, IsSoundProgram}
use Rattle.frames_code.specs.Run.{State, running, ended, word, with_at, unset, below_eight, entered, step, run, start}
use Rattle.select_exec.specs.Light.{Fixed, Go, Done, light_run, Comes}
use Rattle.select.specs.Selected.{entry, items_of}
use Rattle.select_correct.specs.Matches.{Ground, Matched, HasRoom, address}
use Rattle.frames_code.specs.Costs.{cost}
use Rattle.select_correct.specs.Laws.{Anything}
use Rattle.select_correct.specs.Runs.{Laid, IsWithin, IsBack, ground_at}
use Rattle.select_correct.proofs.Laying.{is_ready}
use Rattle.select_correct.proofs.Watching.{each_call_keeps}
use Rattle.select_correct.proofs.Whole.{ends}

-- ---- the table's entries are attained: items but a branch in its long form have no way round, so a run takes a quarter of their bytes

-- all words past the reach of 12 bits, in a function that calls
abbrev far : Function
far = record { code = instruction.Call 0 ∷ []; cells = 700; resident = 12; area = 16; outgoing = 600; gives = true }

abbrev far_operand : Operand
far_operand = operand.Temporary 600

abbrev far_target : Target
far_target = target.Temporary 601

abbrev bytes_of : Instruction → ℕ
bytes_of x = longest (items_of far 0 x)

moves_six : bytes_of (instruction.Move far_target far_operand) ≡ 4 * cost (instruction.Move far_target far_operand)
moves_six = refl

operations_eleven : bytes_of (instruction.Compute operation.Equal far_target far_operand far_operand) ≡ 4 * cost (instruction.Compute operation.Equal far_target far_operand far_operand)
operations_eleven = refl

conversions_eight : bytes_of (instruction.Convert conversion.ToSignedHalf far_target far_operand) ≡ 4 * cost (instruction.Convert conversion.ToSignedHalf far_target far_operand)
conversions_eight = refl

loads_seven : bytes_of (instruction.Load width.Word far_target (location.At far_operand)) ≡ 4 * cost (instruction.Load width.Word far_target (location.At far_operand))
loads_seven = refl

stores_seven : bytes_of (instruction.Store width.Byte far_operand (location.At far_operand)) ≡ 4 * cost (instruction.Store width.Byte far_operand (location.At far_operand))
stores_seven = refl

addresses_six : bytes_of (instruction.Address far_target (location.Frame 3)) ≡ 4 * cost (instruction.Address far_target (location.Frame 3))
addresses_six = refl

elements_thirteen : bytes_of (instruction.Element far_target far_operand far_operand 5000) ≡ 4 * cost (instruction.Element far_target far_operand far_operand 5000)
unfolding count_trailing_zeros
elements_thirteen = refl

branches_eight : bytes_of (instruction.Branch test.Less far_operand far_operand 0) ≡ 4 * cost (instruction.Branch test.Less far_operand far_operand 0)
branches_eight = refl

-- after the call the three that end the program are skipped
puts_ten : bytes_of instruction.PutByte ≡ 4 * (cost instruction.PutByte + 3)
puts_ten = refl

gets_twelve : bytes_of instruction.GetByte ≡ 4 * cost instruction.GetByte
gets_twelve = refl

exits_two : bytes_of instruction.Exit ≡ 4 * cost instruction.Exit
exits_two = refl

calls_two_and_entry : bytes_of (instruction.Call 0) + longest (entry far) ≡ 4 * cost (instruction.Call 0)
calls_two_and_entry = refl

returns_forty_three : bytes_of instruction.Return ≡ 4 * cost instruction.Return
returns_forty_three = refl

-- ---- int plus_two(int n) { return n + 2; } int main(void) { return plus_two(5); } with n in s0

abbrev main_code : List Instruction
main_code = instruction.Move (target.Temporary 0) (operand.Constant 5) ∷ instruction.Call 1 ∷ instruction.Return ∷ []

abbrev plus_code : List Instruction
plus_code =
    instruction.Move (target.Cell 0) (operand.Temporary 0) ∷
    instruction.Compute (operation.Machine register_op.Add) (target.Temporary 0) (operand.Cell 0) (operand.Constant 2) ∷
    instruction.Return ∷ []

abbrev program : Program
program = record {
  functions = record { code = main_code; cells = 0; resident = 0; area = 0; outgoing = 0; gives = true } ∷ record { code = plus_code; cells = 1; resident = 1; area = 0; outgoing = 0; gives = true } ∷ [];
  statics = [];
  main = 0;
}

abbrev words : List Instr
words = instr.Lui 2 2147483648 ∷ instr.Immediate immediate_op.Add 2 2 0 ∷ instr.Lui 3 135168 ∷ instr.Immediate immediate_op.Add 3 3 4294965248 ∷ instr.Auipc 1 16 ∷ instr.Jalr 1 1 0 ∷ instr.Immediate immediate_op.Add 17 0 93 ∷ instr.Ecall ∷ instr.Immediate immediate_op.Add 2 2 4294967280 ∷ instr.Store store_kind.Word 1 2 12 ∷ instr.Immediate immediate_op.Add 10 0 5 ∷ instr.Jal 1 16 ∷ instr.Load load_kind.Word 1 2 12 ∷ instr.Immediate immediate_op.Add 2 2 16 ∷ instr.Jalr 0 1 0 ∷ instr.Immediate immediate_op.Add 2 2 4294967280 ∷ instr.Store store_kind.Word 8 2 4 ∷ instr.Immediate immediate_op.Add 8 10 0 ∷ instr.Immediate immediate_op.Add 10 8 2 ∷ instr.Load load_kind.Word 8 2 4 ∷ instr.Immediate immediate_op.Add 2 2 16 ∷ instr.Jalr 0 1 0 ∷ []

abbrev labels : List ℕ
labels = 69664 ∷ 69692 ∷ 69672 ∷ 69676 ∷ 69680 ∷ 69692 ∷ 69700 ∷ 69704 ∷ 69708 ∷ 69720 ∷ []

abbrev F : Fixed
F = record { text = λ a. slice_get words ((a - 69632) / 4); can_read = λ a. true; can_write = λ a. true }

abbrev env : ℕ → ℕ
env l = slice_index_or labels l 0

abbrev none : ℕ → ℕ
none k = 0

-- each instruction of a list fits
abbrev AllFit : Function → List Instruction → Type 0
AllFit f [] = Unit {0}
AllFit f (x ∷ xs) = InstructionFits 2 f x × AllFit f xs

each_fits : (f : Function) (xs : List Instruction) → AllFit f xs → (k : ℕ) (x : Instruction) → slice_get xs k ≡ Some x → InstructionFits 2 f x
each_fits f [] q k x e = cc
each_fits f (y ∷ ys) q zero x e = let same : y ≡ x = cc in subst (InstructionFits 2 f) same q.0
each_fits f (y ∷ ys) q (suc k) x e = each_fits f ys q.1 k x e

abbrev main_function : Function
main_function = record { code = main_code; cells = 0; resident = 0; area = 0; outgoing = 0; gives = true }

abbrev plus_function : Function
plus_function = record { code = plus_code; cells = 1; resident = 1; area = 0; outgoing = 0; gives = true }

main_fits : FunctionFits 2 main_function
main_fits = record { small = omega arith; few = omega arith; all = omega arith; each = each_fits main_function main_code ((omega arith, omega arith), (omega arith, (tt, tt))) }

plus_fits : FunctionFits 2 plus_function
plus_fits = record { small = omega arith; few = omega arith; all = omega arith; each = each_fits plus_function plus_code ((omega arith, omega arith), ((omega arith, omega arith, omega arith), (tt, tt))) }

functions_fit : (k : ℕ) (f : Function) → slice_get program.functions k ≡ Some f → FunctionFits 2 f
functions_fit zero f e = let same : main_function ≡ f = cc in subst (FunctionFits 2) same main_fits
functions_fit (suc zero) f e = let same : plus_function ≡ f = cc in subst (FunctionFits 2) same plus_fits
functions_fit (suc (suc k)) f e = cc

sound : IsSoundProgram program
sound = record { has_main = omega arith; each = functions_fit; statics = omega arith; countable = omega arith }

laid : Laid program F env 0x7FF00000 0x20000 69632 69720 none none
laid = record {
  sound = sound;
  stands = (69640, record { high = 2147483648; low = 0; first = refl; second = refl; value = refl; next_is = refl }, (69648, record { high = 135168; low = 4294965248; first = refl; second = refl; value = refl; next_is = refl }, (69656, record { high = 16; low = 0; first = refl; second = refl; target = refl; next_is = refl }, (69660, (refl, refl), (69664, (refl, refl), (69664, (refl, refl), (69668, (refl, refl), (69672, (refl, refl), (69672, (refl, refl), (69676, (refl, refl), (69676, (refl, refl), (69680, record { v = 16; at = refl; target = refl; next_is = refl }, (69680, (refl, refl), (69684, (refl, refl), (69688, (refl, refl), (69692, (refl, refl), (69692, (refl, refl), (69692, (refl, refl), (69696, (refl, refl), (69700, (refl, refl), (69700, (refl, refl), (69704, (refl, refl), (69704, (refl, refl), (69708, (refl, refl), (69708, (refl, refl), (69712, (refl, refl), (69716, (refl, refl), (69720, (refl, refl), (69720, (refl, refl), refl)))))))))))))))))))))))))))));
  aligned = refl;
  low = omega arith;
  stack_read = λ a lo hi. refl;
  stack_written = λ a lo hi. refl;
  data_read = λ a lo hi. refl;
  data_written = λ a lo hi. refl;
  data_aligned = refl;
  data_below = omega arith;
  floor_below = omega arith;
  small = λ j. omega arith;
  bytes = λ k. omega arith;
  statics = λ k c e. cc;
}

abbrev G : Ground
G = ground_at program F env 0x7FF00000 0x20000 69632 none none

rooms : (k : ℕ) → k ≤ 6 → HasRoom (ground_at program F env 0x7FF00000 0x20000 69632 none none) (run program k (start program []))
unfolding step
rooms zero le = omega arith
rooms (suc zero) le = omega arith
rooms (suc (suc zero)) le = omega arith
rooms (suc (suc (suc zero))) le = omega arith
rooms (suc (suc (suc (suc zero)))) le = omega arith
rooms (suc (suc (suc (suc (suc zero))))) le = omega arith
rooms (suc (suc (suc (suc (suc (suc k)))))) le = let z : k ≡ 0 = omega (arith, le) in subst (λ n. HasRoom (ground_at program F env 0x7FF00000 0x20000 69632 none none) (run program (suc (suc (suc (suc (suc (suc n)))))) (start program []))) (sym z) tt

over : run program 6 (start program []) ≡ ended 7 [] []
unfolding step
over = refl

-- the laws say that it ends with 7 ..
by_the_laws : Comes F Anything 1 (8 + (1 + 3 + 1 + 1 + 3 + 3) + 2) (Go none 69632 none [] []) (λ m. m ≡ Done 7 [])
unfolding step
by_the_laws = ends program F env 0x7FF00000 0x20000 69632 69720 none none [] laid (λ k c e. cc) 6 7 [] [] over rooms

-- .. and so it does
by_running : light_run F 22 (Go none 69632 none [] []) ≡ Done 7 []
by_running = refl

-- ---- the call within it: from where main calls to where plus_two returns

abbrev at_call : State
at_call = record {
  frame = record { function = 0; at = 1; cells = unset; area = unset };
  temporaries = with_at unset 0 (word 5);
  arguments = unset;
  waiting = [];
  statics = slice_get [];
  input = [];
  trace = [];
}

abbrev at_return : State
at_return = record {
  frame = record { function = 1; at = 2; cells = with_at unset 0 (word 5); area = unset };
  temporaries = with_at (below_eight (with_at unset 0 (word 5))) 0 (word 7);
  arguments = unset;
  waiting = record at_call.frame { at = 2 } ∷ [];
  statics = slice_get [];
  input = [];
  trace = [];
}

comes_to_call : run program 1 (start program []) ≡ running at_call
unfolding step
comes_to_call = refl

comes_to_return : run program 2 (entered at_call 1) ≡ running at_return
unfolding step
comes_to_return = refl

inner_rooms : (k : ℕ) → k ≤ 2 → HasRoom G (run program k (entered at_call 1))
unfolding step
inner_rooms zero le = omega arith
inner_rooms (suc zero) le = omega arith
inner_rooms (suc (suc k)) le = let z : k ≡ 0 = omega (arith, le) in subst (λ n. HasRoom G (run program (suc (suc n)) (entered at_call 1))) (sym z) (omega arith)

stays_within : (k : ℕ) → k ≤ 2 → IsWithin program at_call (run program k (entered at_call 1))
unfolding step
stays_within zero le = omega arith
stays_within (suc zero) le = omega arith
stays_within (suc (suc k)) le = let z : k ≡ 0 = omega (arith, le) in subst (λ n. IsWithin program at_call (run program (suc (suc n)) (entered at_call 1))) (sym z) (omega arith)

-- so s0, in which plus_two has n, is main's again
call_keeps : (r b : ℕ → ℕ) → Matched G at_call r (address G 0 1) b → Comes F Anything 1 (3 + (1 + 1) + 3) (Go r (address G 0 1) b [] []) (IsBack G r at_return (address G 0 2))
unfolding step
call_keeps r b m =
    each_call_keeps G at_call at_return 1 2 r b (is_ready program F env 0x7FF00000 0x20000 69632 69720 none none laid) m (λ k c e. cc) refl comes_to_return refl refl inner_rooms stays_within
