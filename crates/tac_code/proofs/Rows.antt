-- Programs and their three-address code, both computed: they end in the same way, with the same trace; where the program meets undefined behaviour its code is
-- stuck. The source is above each; each clock has exactly the ticks that the run takes.
use Rattle.std.proofs.Common.{◌≡◌, ℕ, ◌+◌, ◌*◌, List, [], ◌∷◌, ℤ, pos, negsuc, refl, Some, None, Option, Bool, true, false}
use Rattle.std.specs.Prelude.{zero, suc, ◌&&◌, ◌-◌, ◌^◌, nat_le, nat_eq}
use Rattle.srcset.specs.declared.refusal.Pos.{Pos}
use Rattle.ctypes.specs.declared.types.IntType.{IntType}
use Rattle.ctypes.specs.declared.types.IntType.TheVariants as ty
use Rattle.ctypes.specs.declared.operators.BinOp.{BinOp}
use Rattle.ctypes.specs.declared.operators.BinOp.TheVariants as op
use Rattle.ctypes.specs.declared.operators.Undef.TheVariants.{U1, U2, U3}
use Rattle.tree.specs.declared.expression.PrefixOp.TheVariants as prefix
use Rattle.tree.specs.Counts.{weight_of}
use Rattle.csem_events.specs.Events.{Got, GotEnd, Put}
use Rattle.typing_spec.specs.Types.{ObjectType, ParameterType, elements, number}
use Rattle.typing_spec.specs.Program as typed
use Rattle.typing_spec.specs.WellTyped.{is_typed}
use Rattle.csem.specs.History.{Entry, Did, Entered, Left}
use Rattle.csem.specs.Machine as machine
use Rattle.csem.specs.Machine.{Goes, Stops, Ended, Undefined, TicksUsed, Ending}
use Rattle.csem.specs.Meaning.{cstep, ending_of, last_of}
use Rattle.tac_code.specs.declared.code.Operand.{Operand}
use Rattle.tac_code.specs.declared.code.Operand.TheVariants as operand
use Rattle.tac_code.specs.declared.code.Target.{Target}
use Rattle.tac_code.specs.declared.code.Target.TheVariants as target
use Rattle.tac_code.specs.declared.code.Place.TheVariants as place
use Rattle.tac_code.specs.declared.code.Reading.TheVariants.{Signed as signed}
use Rattle.tac_code.specs.declared.code.Operation.{Operation}
use Rattle.tac_code.specs.declared.code.Operation.TheVariants as operation
use Rattle.tac_code.specs.declared.code.Comparison.{Comparison}
use Rattle.tac_code.specs.declared.code.Comparison.TheVariants as comparison
use Rattle.tac_code.specs.declared.code.Parameter.{Parameter}
use Rattle.tac_code.specs.declared.code.Parameter.TheVariants as parameter
use Rattle.tac_code.specs.declared.code.Instruction.{Instruction}
use Rattle.tac_code.specs.declared.code.Instruction.TheVariants.{Nothing as nothing, Move as move, Compute as compute, Convert as convert, Load as load, Store as store, Address as address, Part as part_of, Forget as forget, Jump as jump, Branch as branch_where, Call as call, PutByte as put_byte, GetByte as get_byte, Return as return}
use Rattle.tac_code.specs.Code.{Function, Program}
use Rattle.tac_code.specs.Run.{Progress, running, ended, stuck, step, run, start}
use Rattle.tac_code.specs.Spans.{span, own_bytes}
use Rattle.tac_code.specs.Designated.{in_function}
use Rattle.tac_code.specs.Costs.{spent_in_all, function_bytes, call_bytes}

-- ---- the result of a row

-- a run that ended with a status, and used all its ticks
abbrev ended_with : ℕ → machine.State → Progress
ended_with status s = if_zero s.clock
  where
    if_zero : ℕ → Progress
    if_zero zero = ended status s.input s.history
    if_zero (suc n) = stuck

abbrev ended_at : Ending → machine.State → Progress
ended_at (Ended status) s = ended_with status s
ended_at (Undefined act at) s = stuck
ended_at TicksUsed s = stuck

abbrev outcome : machine.Run (Option ℤ) → Progress
outcome (Goes v s) = stuck
outcome (Stops e s) = ended_at e s

abbrev all_fit : List typed.Function → List Function → Bool
all_fit [] [] = true
all_fit [] (g ∷ gs) = false
all_fit (f ∷ fs) [] = false
all_fit (f ∷ fs) (g ∷ gs) = nat_le (call_bytes g) f.weight && (nat_le (call_bytes g) (span f) && (nat_le (function_bytes g) (128 * f.nodes + 1024) && all_fit fs gs))

-- the premises of lowering, where they can be computed
abbrev all_checked : typed.Program → List typed.Function → Bool
all_checked p [] = true
all_checked p (f ∷ fs) = nat_eq f.weight (weight_of f.nodes (own_bytes f)) && (in_function p f && all_checked p fs)

-- the code ends within m steps just as the program within n ticks, and costs, frames and code are within their bounds
abbrev Agree : typed.Program → Program → List ℕ → (n m : ℕ) → Progress → Type 0
Agree p q input n m r =
    (outcome (cstep n p input) ≡ r) × (run q m (start q input) ≡ r) × (nat_le (spent_in_all q m (start q input)) (60 * n + 60) ≡ true) ×
    (all_fit p.functions q.functions ≡ true) × (is_typed p ≡ true) × (all_checked p p.functions ≡ true)

abbrev Meets : typed.Program → Program → Ending → Type 0
Meets p q e = (ending_of (cstep 100 p []) ≡ e) × (run q 100 (start q []) ≡ stuck) × (is_typed p ≡ true)

-- ---- parts of programs

abbrev here : Pos
here = record { file = 0; line = 1 }

abbrev object : IntType → List ℕ → ObjectType
object t lengths = record { element = t; constant = false; lengths = lengths }

abbrev int : ObjectType
int = object ty.Int []

abbrev pub function : List ParameterType → List ObjectType → (nodes bytes : ℕ) → typed.Statement → typed.Function
function parameters objects nodes bytes body = record {
  name = 0;
  type = record { result = Some ty.Int; constant = false; parameters = parameters };
  objects = objects;
  body = body;
  nodes = nodes;
  weight = weight_of nodes bytes;
}

abbrev pub program : List typed.Function → typed.Program
program functions = record { literals = []; statics = []; functions = functions; main = 0 }

abbrev own : ℕ → typed.Place
own n = typed.named here (typed.automatic n)

abbrev get : ℕ → typed.Value
get n = typed.read ty.Int (own n)

abbrev pub value : ℕ → typed.Value
value v = typed.constant ty.Int (pos v)

abbrev binary : BinOp → typed.Value → typed.Value → typed.Value
binary o a b = typed.binary here o ty.Int a b

abbrev set : ℕ → typed.Value → typed.Value
set n e = typed.assigned here ty.Int (own n) e

abbrev one : typed.Value → typed.Arguments
one e = typed.and_number ty.Int e typed.no_arguments

abbrev calls : ℕ → typed.Value → typed.Value
calls f e = typed.call here (typed.function f) (Some ty.Int) true (one e)

abbrev puts : typed.Value → typed.Value
puts e = typed.call here typed.put_byte None false (one e)

abbrev first_value : ℕ → typed.Value → typed.Statement
first_value n e = typed.define n (typed.one_value ty.Int e)

abbrev statements : List typed.Statement → typed.Statements
statements [] = typed.no_statements
statements (x ∷ more) = typed.and_statement x (statements more)

abbrev pub block : ℕ → ℕ → List typed.Statement → typed.Statement
block first count all = typed.block first count (statements all)

abbrev pub gives_back : typed.Value → typed.Statement
gives_back e = typed.return_value ty.Int e

-- ---- parts of code

abbrev pub coded : List Parameter → List ObjectType → List Instruction → Function
coded parameters objects code = record { code = code; parameters = parameters; objects = objects; result = Some ty.Int; temporaries = 2; kept = 0 }

abbrev pub code_of : List Function → Program
code_of functions = record { functions = functions; literals = []; statics = []; main = 0 }

abbrev t0 : Operand
t0 = operand.Temporary 0

abbrev t1 : Operand
t1 = operand.Temporary 1

abbrev x0 : Operand
x0 = operand.Object 0

abbrev x1 : Operand
x1 = operand.Object 1

abbrev the : ℕ → Operand
the v = operand.Constant v

abbrev to_t0 : Target
to_t0 = target.Temporary 0

abbrev to_t1 : Target
to_t1 = target.Temporary 1

abbrev to_x0 : Target
to_x0 = target.Object 0

abbrev to_x1 : Target
to_x1 = target.Object 1

abbrev makes : Target → Operation → Operand → Operand → Instruction
makes d o x y = compute o signed d x y

abbrev branch : Comparison → Operand → Operand → ℕ → Instruction
branch c x y to = branch_where c signed x y to

-- ---- int main(void) { int i = 0, s = 0; while (i < 4) { i = i + 1; s = s + i; } return s; }

abbrev sum : typed.Program
sum = program (function [] (int ∷ int ∷ []) 25 8 (block 0 2 (
    first_value 0 (value 0) ∷ first_value 1 (value 0) ∷
    typed.while (binary op.Less (get 0) (value 4)) (block 2 0 (
    typed.evaluate (set 0 (binary op.Add (get 0) (value 1))) ∷ typed.evaluate (set 1 (binary op.Add (get 1) (get 0))) ∷ [])) ∷
    gives_back (get 1) ∷ [])) ∷ [])

abbrev sum_code : Program
sum_code = code_of (coded [] (int ∷ int ∷ []) (
    move to_x0 (the 0) ∷ move to_x1 (the 0) ∷ jump 5 ∷
    makes to_x0 operation.Add x0 (the 1) ∷ makes to_x1 operation.Add x1 x0 ∷
    branch comparison.Less x0 (the 4) 3 ∷ move to_t0 x1 ∷ return ∷ []) ∷ [])

sums : Agree sum sum_code [] 78 18 (ended 10 [] (Left (Some 10) ∷ Entered 0 [] ∷ []))
unfolding step
sums = (refl, refl, refl, refl, refl, refl)

-- ---- int f(int n) { return n == 0 ? 1 : n * f(n - 1); }  int main(void) { return f(4); }

abbrev factorial : typed.Program
factorial = program (
    function [] [] 5 0 (block 0 0 (gives_back (calls 1 (value 4)) ∷ [])) ∷
    function (number ty.Int ∷ []) (int ∷ []) 15 4 (block 1 0 (
    gives_back (typed.chosen (Some ty.Int) (binary op.Equal (get 0) (value 0)) (value 1)
    (binary op.Mul (get 0) (calls 1 (binary op.Sub (get 0) (value 1))))) ∷ [])) ∷ [])

abbrev factorial_code : Program
factorial_code = code_of (
    coded [] [] (move to_t0 (the 4) ∷ call 1 ∷ return ∷ []) ∷
    coded (parameter.Number ∷ []) (int ∷ []) (
    branch comparison.NotEqual x0 (the 0) 3 ∷ move to_t0 (the 1) ∷ return ∷
    makes to_t0 operation.Subtract x0 (the 1) ∷ call 1 ∷ makes to_t0 operation.Multiply x0 t0 ∷ return ∷ []) ∷ [])

recursion : Agree factorial factorial_code [] 70 26
    (ended 24 [] (
    Left (Some 24) ∷ Left (Some 24) ∷ Left (Some 6) ∷ Left (Some 2) ∷ Left (Some 1) ∷ Left (Some 1) ∷
    Entered 1 (Some 0 ∷ []) ∷ Entered 1 (Some 1 ∷ []) ∷ Entered 1 (Some 2 ∷ []) ∷ Entered 1 (Some 3 ∷ []) ∷ Entered 1 (Some 4 ∷ []) ∷ Entered 0 [] ∷ []))
unfolding step
recursion = (refl, refl, refl, refl, refl, refl)

-- ---- int p(int c) { rv_putbyte(c); return c; }
-- int main(void) { int x = 0; if (x && p(65)) p(66); return p(67) || p(68); }

abbrev skipped : typed.Program
skipped = program (
    function [] (int ∷ []) 18 4 (block 0 1 (
    first_value 0 (value 0) ∷ typed.branch (typed.both_true (get 0) (calls 1 (value 65))) (typed.evaluate (calls 1 (value 66))) ∷
    gives_back (typed.one_true (calls 1 (value 67)) (calls 1 (value 68))) ∷ [])) ∷
    function (number ty.Int ∷ []) (int ∷ []) 8 4 (block 1 0 (typed.evaluate (puts (get 0)) ∷ gives_back (get 0) ∷ [])) ∷ [])

abbrev skipped_code : Program
skipped_code = code_of (
    coded [] (int ∷ []) (
    move to_x0 (the 0) ∷ branch comparison.Equal x0 (the 0) 7 ∷ move to_t0 (the 65) ∷ call 1 ∷ branch comparison.Equal t0 (the 0) 7 ∷
    move to_t0 (the 66) ∷ call 1 ∷
    move to_t0 (the 67) ∷ call 1 ∷ branch comparison.NotEqual t0 (the 0) 15 ∷ move to_t0 (the 68) ∷ call 1 ∷ branch comparison.NotEqual t0 (the 0) 15 ∷
    move to_t0 (the 0) ∷ return ∷ move to_t0 (the 1) ∷ return ∷ []) ∷
    coded (parameter.Number ∷ []) (int ∷ []) (move to_t0 x0 ∷ put_byte ∷ move to_t0 x0 ∷ return ∷ []) ∷ [])

short_circuit : Agree skipped skipped_code [] 20 11 (ended 1 [] (Left (Some 1) ∷ Left (Some 67) ∷ Did (Put 67) ∷ Entered 1 (Some 67 ∷ []) ∷ Entered 0 [] ∷ []))
unfolding step
short_circuit = (refl, refl, refl, refl, refl, refl)

-- ---- int main(void) { int c; while ((c = rv_getbyte()) != -1) rv_putbyte(c); return 0; }

abbrev echo : typed.Program
echo = program (function [] (int ∷ []) 16 4 (block 0 1 (
    typed.declare 0 ∷
    typed.while (binary op.NotEqual (set 0 (typed.call here typed.get_byte (Some ty.Int) true typed.no_arguments)) (typed.unary here prefix.Minus ty.Int (value 1)))
    (typed.evaluate (puts (get 0))) ∷
    gives_back (value 0) ∷ [])) ∷ [])

abbrev echo_code : Program
echo_code = code_of (coded [] (int ∷ []) (
    forget 0 1 ∷ jump 4 ∷ move to_t0 x0 ∷ put_byte ∷ get_byte ∷ move to_x0 t0 ∷ branch comparison.NotEqual x0 (the (2 ^ 32 - 1)) 2 ∷
    move to_t0 (the 0) ∷ return ∷ []) ∷ [])

echoes : Agree echo echo_code (7 ∷ 9 ∷ []) 30 17
    (ended 0 [] (Left (Some 0) ∷ Did GotEnd ∷ Did (Put 9) ∷ Did (Got 9) ∷ Did (Put 7) ∷ Did (Got 7) ∷ Entered 0 [] ∷ []))
unfolding step
echoes = (refl, refl, refl, refl, refl, refl)

-- ---- static short s[3] = { 1, -2 };  int g(int a[], int i) { return a[i]; }
-- int main(void) { int a[2]; signed char c; a[1] = s[1]; c = 200; return g(a, 1) + c + 100 + "hi"[1]; }

abbrev part : typed.Place → typed.Value → typed.Place
part array index = typed.element here array index

abbrev arrays : typed.Program
arrays = record {
  literals = (104 ∷ 105 ∷ 0 ∷ []) ∷ [];
  statics = record { type = object ty.Short (3 ∷ []); defined = true; values = pos 1 ∷ negsuc 1 ∷ [] } ∷ [];
  functions =
      function [] (object ty.Int (2 ∷ []) ∷ object ty.SChar [] ∷ []) 32 12 (block 0 2 (
      typed.declare 0 ∷ typed.declare 1 ∷
      typed.evaluate (typed.assigned here ty.Int (part (own 0) (value 1)) (typed.read ty.Short (part (typed.named here (typed.static 0)) (value 1)))) ∷
      typed.evaluate (typed.assigned here ty.SChar (own 1) (value 200)) ∷
      gives_back (binary op.Add (binary op.Add (binary op.Add
      (typed.call here (typed.function 1) (Some ty.Int) true (typed.and_array (own 0) (one (value 1))))
      (typed.read ty.SChar (own 1))) (value 100)) (typed.read ty.Char (part (typed.named here (typed.literal 0)) (value 1)))) ∷ [])) ∷
      function (elements int ∷ number ty.Int ∷ []) (int ∷ []) 8 8 (block 1 0 (
      gives_back (typed.read ty.Int (part (typed.named here (typed.parameter 0)) (get 0))) ∷ [])) ∷ [];
  main = 0;
}

abbrev pub arrays_code : Program
arrays_code = record {
  literals = (104 ∷ 105 ∷ 0 ∷ []) ∷ [];
  statics = record { type = object ty.Short (3 ∷ []); defined = true; values = pos 1 ∷ negsuc 1 ∷ [] } ∷ [];
  functions =
      coded [] (object ty.Int (2 ∷ []) ∷ object ty.SChar [] ∷ []) (
      forget 0 2 ∷ address to_t0 (place.Array 0) ∷ part_of to_t0 t0 (the 1) 4 ∷
      address to_t1 (place.Static 0) ∷ part_of to_t1 t1 (the 1) 2 ∷ load ty.Short to_t1 (place.At t1) ∷ store ty.Int t1 (place.At t0) ∷
      convert ty.SChar to_x1 (the 200) ∷
      address to_t0 (place.Array 0) ∷ move to_t1 (the 1) ∷ call 1 ∷
      makes to_t0 operation.Add t0 x1 ∷ makes to_t0 operation.Add t0 (the 100) ∷
      address to_t1 (place.Literal 0) ∷ part_of to_t1 t1 (the 1) 1 ∷ load ty.Char to_t1 (place.At t1) ∷
      makes to_t0 operation.Add t0 t1 ∷ return ∷ []) ∷
      coded (parameter.Array ∷ parameter.Number ∷ []) (int ∷ []) (
      part_of to_t0 (operand.Parameter 0) x0 4 ∷ load ty.Int to_t0 (place.At t0) ∷ return ∷ []) ∷ [];
  main = 0;
}

elements_and_references : Agree arrays arrays_code [] 36 21 (ended 147 [] (Left (Some 147) ∷ Left (Some (2 ^ 32 - 2)) ∷ Entered 1 (None ∷ Some 1 ∷ []) ∷ Entered 0 [] ∷ []))
unfolding step
elements_and_references = (refl, refl, refl, refl, refl, refl)

-- ---- undefined behaviour: int main(void) { int x = X; return A x; }

abbrev computes : ℕ → (typed.Value → typed.Value) → typed.Program
computes v e = program (function [] (int ∷ []) 8 4 (block 0 1 (first_value 0 (value v) ∷ gives_back (e (get 0)) ∷ [])) ∷ [])

abbrev computed_code : ℕ → Instruction → Program
computed_code v i = code_of (coded [] (int ∷ []) (move to_x0 (the v) ∷ i ∷ return ∷ []) ∷ [])

-- 2147483647 + 1
sum_out_of_range : Meets (computes 2147483647 (λ x. binary op.Add x (value 1))) (computed_code 2147483647 (makes to_t0 operation.Add x0 (the 1))) (Undefined U1 here)
unfolding step
sum_out_of_range = (refl, refl, refl)

-- 1 / 0
division_by_zero : Meets (computes 0 (λ x. binary op.Div (value 1) x)) (computed_code 0 (makes to_t0 operation.Divide (the 1) x0)) (Undefined U2 here)
unfolding step
division_by_zero = (refl, refl, refl)

-- 1 << 32, and by a count whose word is that of a negative number
shift_too_far : Meets (computes 32 (λ x. binary op.Shl (value 1) x)) (computed_code 32 (makes to_t0 operation.ShiftLeft (the 1) x0)) (Undefined U3 here)
unfolding step
shift_too_far = (refl, refl, refl)

shift_by_a_negative_count : run (computed_code (2 ^ 32 - 1) (makes to_t0 operation.ShiftRight (the 1) x0)) 100 (start (computed_code (2 ^ 32 - 1) (makes to_t0 operation.ShiftRight (the 1) x0)) []) ≡ stuck
unfolding step
shift_by_a_negative_count = refl

-- ---- int main(void) { for (;;) rv_putbyte(65); }: after 9 ticks two bytes are put, and after 12 steps, one for each tick at least

abbrev endless : typed.Program
endless = program (function [] [] 7 0 (block 0 0 (typed.for typed.no_statements None None None (typed.evaluate (puts (value 65))) ∷ [])) ∷ [])

abbrev endless_code : Program
endless_code = code_of (coded [] [] (nothing ∷ nothing ∷ nothing ∷ nothing ∷ nothing ∷ move to_t0 (the 65) ∷ put_byte ∷ jump 3 ∷ []) ∷ [])

-- none where it does not run
abbrev history_of : Progress → Option (List Entry)
history_of (running s) = Some s.history
history_of (ended status input history) = None
history_of stuck = None

goes_on : (ending_of (cstep 9 endless []) ≡ TicksUsed) × (history_of (run endless_code 12 (start endless_code [])) ≡ Some (last_of (cstep 9 endless [])).history)
unfolding step
goes_on = (refl, refl)

two_bytes : history_of (run endless_code 12 (start endless_code [])) ≡ Some (Did (Put 65) ∷ Did (Put 65) ∷ Entered 0 [] ∷ [])
unfolding step
two_bytes = refl

-- ---- extern int x;  int main(void) { return x; }: refused by the checker, and not to be lowered

abbrev only_declared : typed.Program
only_declared = record {
  literals = [];
  statics = record { type = int; defined = false; values = [] } ∷ [];
  functions = function [] [] 4 0 (block 0 0 (gives_back (typed.read ty.Int (typed.named here (typed.static 0))) ∷ [])) ∷ [];
  main = 0;
}

not_checked : all_checked only_declared only_declared.functions ≡ false
not_checked = refl
