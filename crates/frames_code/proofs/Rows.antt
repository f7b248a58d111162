-- Flat programs, and the results of their runs. Each was written from the C text above it; status and output are what such a
-- program gives by ISO/IEC 9899:2011, where it is one.
use Rattle.std.proofs.Common.{◌≡◌, true, false, refl}
use Rattle.std.specs.Prelude.{ℕ, List, [], ◌∷◌}
use Rattle.rv32.specs.declared.instr.RegisterOp.TheVariants as op
use Rattle.rv32.specs.declared.instr.Test.TheVariants as test
use Rattle.csem_events.specs.Events.{Got, GotEnd, Put}
use Rattle.frames_code.specs.declared.code.Operand.TheVariants.{Temporary as temporary, Cell as cell, Constant as constant, Argument as argument}
use Rattle.frames_code.specs.declared.code.Target.TheVariants.{Temporary as to_temporary, Cell as to_cell}
use Rattle.frames_code.specs.declared.code.Width.TheVariants.{Byte as byte, SignedByte as signed_byte, Half as half, SignedHalf as signed_half, Word as word}
use Rattle.frames_code.specs.declared.code.Base.TheVariants.{Statics as from_statics, Frame as from_frame}
use Rattle.frames_code.specs.declared.code.Location.TheVariants.{Statics as in_statics, Frame as in_frame, At as at, Indexed as indexed}
use Rattle.frames_code.specs.declared.code.Operation.TheVariants.{Machine as machine, Equal as equal, NotEqual as not_equal}
use Rattle.frames_code.specs.declared.code.Conversion.TheVariants.{ToSignedByte as to_signed_byte, ToTruth as to_truth}
use Rattle.frames_code.specs.declared.code.Instruction.TheVariants.{Nothing as nothing, Move as move, Compute as compute, Convert as convert, Load as load, Store as store, Address as address, Element as element, Jump as jump, Branch as branch, Call as call, PutByte as put_byte, GetByte as get_byte, Exit as exit, Return as return}
use Rattle.frames_code.specs.declared.code.Operand.{Operand}
use Rattle.frames_code.specs.declared.code.Target.{Target}
use Rattle.frames_code.specs.declared.code.Instruction.{Instruction}
use Rattle.frames_code.specs.Code.{Function, Program, frame_bytes}
use Rattle.frames_code.specs.Run.{Progress, step, running, ended, stuck, start, run, active}

abbrev plain : List Instruction → Function
plain code = record { code = code; cells = 0; resident = 0; area = 0; outgoing = 0; gives = true }

abbrev with_cells : ℕ → List Instruction → Function
with_cells n code = record { code = code; cells = n; resident = 0; area = 0; outgoing = 0; gives = true }

abbrev with_area : ℕ → ℕ → List Instruction → Function
with_area n bytes code = record { code = code; cells = n; resident = 0; area = bytes; outgoing = 0; gives = true }

abbrev whole : List Function → Program
whole functions = record { functions = functions; statics = []; main = 0 }

abbrev run_of : Program → ℕ → Progress
run_of p n = run p n (start p [])

abbrev t0 : Target
t0 = to_temporary 0

abbrev add : Target → Operand → Operand → Instruction
add d x y = compute (machine op.Add) d x y

-- int main(void) { return 300; }
status_is_cut : run_of (whole (plain (move t0 (constant 300) ∷ return ∷ []) ∷ [])) 2 ≡ ended 44 [] []
unfolding step
status_is_cut = refl

-- and a step earlier it runs
runs_before : run_of (whole (plain (nothing ∷ move t0 (constant 300) ∷ return ∷ []) ∷ [])) 3 ≡ ended 44 [] []
unfolding step
runs_before = refl

-- rv_putbyte(321); return 0;
low_byte_is_put : run_of (whole (plain (move t0 (constant 321) ∷ put_byte ∷ move t0 (constant 0) ∷ return ∷ []) ∷ [])) 4 ≡ ended 0 [] (Put 65 ∷ [])
unfolding step
low_byte_is_put = refl

-- return rv_getbyte() + rv_getbyte();
bytes_are_got :
    let p = whole (with_cells 1 (get_byte ∷ move (to_cell 0) (temporary 0) ∷ get_byte ∷ add t0 (cell 0) (temporary 0) ∷ return ∷ []) ∷ []) in
    run p 5 (start p (7 ∷ [])) ≡ ended 6 [] (GotEnd ∷ Got 7 ∷ [])
unfolding step
bytes_are_got = refl

-- temporary 0, or a word of the frame, was never set
temporary_unset : run_of (whole (plain (return ∷ []) ∷ [])) 1 ≡ stuck
unfolding step
temporary_unset = refl

cell_unset : run_of (whole (with_cells 1 (move t0 (cell 0) ∷ return ∷ []) ∷ [])) 2 ≡ stuck
unfolding step
cell_unset = refl

-- `PutByte` loses the temporaries
temporary_lost : run_of (whole (plain (move t0 (constant 65) ∷ put_byte ∷ return ∷ []) ∷ [])) 3 ≡ stuck
unfolding step
temporary_lost = refl

-- int i = 0, s = 0; while (i < 4) { i = i + 1; s = s + i; } return s;
sum_of_four :
    run_of (whole (with_cells 2 (
    move (to_cell 0) (constant 0) ∷ move (to_cell 1) (constant 0) ∷ branch test.GreaterEqual (cell 0) (constant 4) 6 ∷
    add (to_cell 0) (cell 0) (constant 1) ∷ add (to_cell 1) (cell 1) (cell 0) ∷ jump 2 ∷
    move t0 (cell 1) ∷ return ∷ []) ∷ [])) 21 ≡ ended 10 [] []
unfolding step
sum_of_four = refl

-- int f(int n) { return n == 0 ? 1 : n * f(n - 1); }  return f(4);
abbrev factorial : Program
factorial = whole (
    plain (move t0 (constant 4) ∷ call 1 ∷ return ∷ []) ∷
    with_cells 1 (
    move (to_cell 0) (temporary 0) ∷ branch test.NotEqual (cell 0) (constant 0) 4 ∷ move t0 (constant 1) ∷ return ∷
    compute (machine op.Sub) t0 (cell 0) (constant 1) ∷ call 1 ∷ compute (machine op.Mul) t0 (cell 0) (temporary 0) ∷ return ∷ []) ∷ [])

recursion : run_of factorial 31 ≡ ended 24 [] []
unfolding step
recursion = refl

abbrev active_calls : Progress → List ℕ
active_calls (running s) = active s
active_calls (ended status input trace) = []
active_calls stuck = []

calls_are_active : active_calls (run_of factorial 6) ≡ 1 ∷ 1 ∷ 0 ∷ []
unfolding step
calls_are_active = refl

-- temporaries from 0 on are the first eight arguments, the others are taken from the caller's frame
ten_arguments :
    run_of (whole (
    record { code = (move (to_temporary 8) (constant 8) ∷ move (to_temporary 9) (constant 9) ∷ move t0 (constant 1) ∷ call 1 ∷ return ∷ []); cells = 0; resident = 0; area = 0; outgoing = 2; gives = true } ∷
    with_cells 2 (move (to_cell 0) (argument 8) ∷ move (to_cell 1) (argument 9) ∷ compute (machine op.Mul) (to_cell 0) (cell 0) (cell 1) ∷ add t0 (cell 0) (temporary 0) ∷ return ∷ []) ∷ [])) 10 ≡ ended 73 [] []
unfolding step
ten_arguments = refl

-- they are lost after the moves that a function begins with
argument_too_late :
    run_of (whole (
    record { code = (move (to_temporary 8) (constant 8) ∷ call 1 ∷ return ∷ []); cells = 0; resident = 0; area = 0; outgoing = 1; gives = true } ∷
    plain (add t0 (constant 1) (constant 1) ∷ move t0 (argument 8) ∷ return ∷ []) ∷ [])) 5 ≡ stuck
unfolding step
argument_too_late = refl

-- signed char a[2]; a[1] = 200; return a[1] + 100;
signed_element :
    run_of (whole (with_area 0 4 (store signed_byte (constant 200) (in_frame 1) ∷ load signed_byte t0 (in_frame 1) ∷ add t0 (temporary 0) (constant 100) ∷ return ∷ []) ∷ [])) 4 ≡ ended 44 [] []
unfolding step
signed_element = refl

unsigned_element :
    run_of (whole (with_area 0 4 (store byte (constant 200) (in_frame 1) ∷ load byte t0 (in_frame 1) ∷ return ∷ []) ∷ [])) 3 ≡ ended 200 [] []
unfolding step
unsigned_element = refl

-- short a[2] = { .., 0x8001 }; its sign, as a truth value
signed_half_is_negative :
    run_of (whole (with_area 0 4 (store half (constant 0x8001) (in_frame 2) ∷ load signed_half t0 (in_frame 2) ∷ compute (machine op.Less) t0 (temporary 0) (constant 0) ∷ return ∷ []) ∷ [])) 4 ≡ ended 1 [] []
unfolding step
signed_half_is_negative = refl

-- the lowest byte of a word lies first
lowest_byte_first :
    run_of (whole (with_area 0 4 (store word (constant 0x01020304) (in_frame 0) ∷ load byte t0 (in_frame 0) ∷ return ∷ []) ∷ [])) 3 ≡ ended 4 [] []
unfolding step
lowest_byte_first = refl

-- past the array's bytes, and not at a multiple of the element's size
past_the_end : run_of (whole (with_area 0 4 (store byte (constant 1) (in_frame 4) ∷ return ∷ []) ∷ [])) 2 ≡ stuck
unfolding step
past_the_end = refl

not_aligned : run_of (whole (with_area 0 4 (store half (constant 1) (in_frame 1) ∷ return ∷ []) ∷ [])) 2 ≡ stuck
unfolding step
not_aligned = refl

-- void set(int p[], int i) { p[i] = 9; }  int a[2]; set(a, 1); return a[1];
reference_into_a_frame_that_waits :
    run_of (whole (
    with_area 0 8 (address t0 (in_frame 0) ∷ move (to_temporary 1) (constant 1) ∷ call 1 ∷ load word t0 (in_frame 4) ∷ return ∷ []) ∷
    with_cells 1 (element (to_cell 0) (temporary 0) (temporary 1) 4 ∷ store word (constant 9) (at (cell 0)) ∷ move t0 (constant 0) ∷ return ∷ []) ∷ [])) 9 ≡ ended 9 [] []
unfolding step
reference_into_a_frame_that_waits = refl

-- A reference has the same target whichever call is active: here the word in front of the arrays of a later call, whose frame
-- is where that of an earlier one was. There are no arrays.
reference_to_a_frame_that_is_gone :
    run_of (whole (
    plain (call 1 ∷ call 2 ∷ return ∷ []) ∷
    with_area 0 4 (address t0 (in_frame 0) ∷ return ∷ []) ∷
    with_area 1 4 (move (to_cell 0) (temporary 0) ∷ store word (constant 5) (in_frame 0) ∷ load word t0 (at (cell 0)) ∷ return ∷ []) ∷ [])) 7 ≡ stuck
unfolding step
reference_to_a_frame_that_is_gone = refl

-- static unsigned char s[] = { 1, 2 }; s[0] = 5; return s[0] + s[1];
statics_begin_with_their_bytes :
    let p : Program = record { functions = with_cells 1 (store byte (constant 5) (in_statics 0) ∷ load byte (to_cell 0) (in_statics 1) ∷ load byte t0 (in_statics 0) ∷ add t0 (temporary 0) (cell 0) ∷ return ∷ []) ∷ []; statics = 1 ∷ 2 ∷ []; main = 0 } in
    run p 5 (start p []) ≡ ended 7 [] []
unfolding step
statics_begin_with_their_bytes = refl

-- static unsigned char s[] = { 9, 1, 2 }; int i = 1; s[i + 1] = 5; return s[i] + s[i + 1];
indexed_static :
    let p : Program = record { functions = with_cells 2 (move (to_cell 0) (constant 1) ∷ store byte (constant 5) (indexed (from_statics 1) (cell 0) 1) ∷ load byte (to_cell 1) (indexed (from_statics 0) (cell 0) 1) ∷ load byte t0 (in_statics 2) ∷ add t0 (temporary 0) (cell 1) ∷ return ∷ []) ∷ []; statics = 9 ∷ 1 ∷ 2 ∷ []; main = 0 } in
    run p 6 (start p []) ≡ ended 6 [] []
unfolding step
indexed_static = refl

-- short a[3]; int i = 1; a[i + 1] = 7; return a[2];
indexed_in_the_frame :
    run_of (whole (with_area 0 6 (move (to_temporary 1) (constant 1) ∷ store half (constant 7) (indexed (from_frame 2) (temporary 1) 2) ∷ load half t0 (in_frame 4) ∷ return ∷ []) ∷ [])) 4 ≡ ended 7 [] []
unfolding step
indexed_in_the_frame = refl

-- an index that was never set
index_unset : run_of (whole (with_area 1 4 (store byte (constant 1) (indexed (from_frame 0) (cell 0) 1) ∷ return ∷ []) ∷ [])) 2 ≡ stuck
unfolding step
index_unset = refl

-- a call of rv_exit ends all calls
exit_ends_all :
    run_of (whole (plain (call 1 ∷ move t0 (constant 1) ∷ return ∷ []) ∷ plain (move t0 (constant 300) ∷ exit ∷ []) ∷ [])) 3 ≡ ended 44 [] []
unfolding step
exit_ends_all = refl

-- (signed char)200, (_Bool)256, 3 == 3, 3 != 3
conversions :
    run_of (whole (with_cells 3 (
    convert to_signed_byte t0 (constant 200) ∷ compute (machine op.Less) (to_cell 0) (temporary 0) (constant 0) ∷
    convert to_truth (to_cell 1) (constant 256) ∷ compute equal (to_cell 2) (constant 3) (constant 3) ∷ compute not_equal t0 (constant 3) (constant 3) ∷
    add t0 (temporary 0) (cell 0) ∷ add t0 (temporary 0) (cell 1) ∷ add t0 (temporary 0) (cell 2) ∷ return ∷ []) ∷ [])) 9 ≡ ended 3 [] []
unfolding step
conversions = refl

-- a reference is no word
reference_is_no_word : run_of (whole (with_area 0 4 (address t0 (in_frame 0) ∷ return ∷ []) ∷ [])) 2 ≡ stuck
unfolding step
reference_is_no_word = refl

-- void f(void) { }  the caller finds no result, whatever temporary 0 held
no_result :
    run_of (whole (
    plain (call 1 ∷ return ∷ []) ∷
    record { code = (move t0 (constant 7) ∷ return ∷ []); cells = 0; resident = 0; area = 0; outgoing = 0; gives = false } ∷ [])) 4 ≡ stuck
unfolding step
no_result = refl

-- after the last instruction
past_the_code : run_of (whole (plain (nothing ∷ []) ∷ [])) 2 ≡ stuck
unfolding step
past_the_code = refl

-- the frame's bytes: a word to put bytes from and one for the return address, in a multiple of 16
frame_of_nothing : frame_bytes (plain []) ≡ 16
frame_of_nothing = refl

frame_of_some : frame_bytes (record { code = []; cells = 3; resident = 3; area = 5; outgoing = 2; gives = true }) ≡ 48
frame_of_some = refl
