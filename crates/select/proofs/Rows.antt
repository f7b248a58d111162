-- Flat programs, and the execution of their items on the symbolic machine. Status and output are those of the C text above each by ISO/IEC 9899:2011. Branches
-- are short here, and the address of a label or of the data is put into one instruction whole.
use Rattle.std.proofs.Common.{◌≡◌, refl}
use Rattle.std.specs.Prelude.{ℕ, ◌+◌, ◌-◌, ◌/◌, ◌^◌, ◌==◌, nat_lt, true, if◌then◌else◌, List, [], ◌∷◌, ◌++◌, slice_get, slice_index_or, Option}
use Rattle.std.specs.Int.Count.{count_trailing_zeros}
use Rattle.rv32.specs.declared.instr.Instr.{Instr}
use Rattle.rv32.specs.declared.instr.Instr.TheVariants as instr
use Rattle.rv32.specs.declared.instr.ImmediateOp.TheVariants as immediate_op
use Rattle.rv32.specs.declared.instr.RegisterOp.TheVariants as op
use Rattle.rv32.specs.declared.instr.ShiftOp.TheVariants as shift_op
use Rattle.rv32.specs.declared.instr.LoadKind.TheVariants as load_kind
use Rattle.rv32.specs.declared.instr.StoreKind.TheVariants as store_kind
use Rattle.rv32.specs.declared.instr.Test.TheVariants as test
use Rattle.csem_events.specs.Events.{Got, GotEnd, Put}
use Rattle.asm.specs.declared.item.Item.{Item}
use Rattle.asm.specs.declared.item.Item.TheVariants as item
use Rattle.frames_code.specs.declared.code.Operand.TheVariants.{Temporary as temporary, Cell as cell, Constant as constant, Argument as argument}
use Rattle.frames_code.specs.declared.code.Target.TheVariants.{Temporary as to_temporary, Cell as to_cell}
use Rattle.frames_code.specs.declared.code.Width.TheVariants.{Byte as byte, SignedByte as signed_byte, Half as half, SignedHalf as signed_half, Word as word}
use Rattle.frames_code.specs.declared.code.Base.TheVariants.{Statics as from_statics, Frame as from_frame}
use Rattle.frames_code.specs.declared.code.Location.TheVariants.{Statics as in_statics, Frame as in_frame, At as at, Indexed as indexed}
use Rattle.frames_code.specs.declared.code.Operation.TheVariants.{Machine as machine, Equal as equal, NotEqual as not_equal}
use Rattle.frames_code.specs.declared.code.Conversion.TheVariants.{ToByte as to_byte, ToSignedByte as to_signed_byte, ToHalf as to_half, ToSignedHalf as to_signed_half, ToTruth as to_truth}
use Rattle.frames_code.specs.declared.code.Instruction.TheVariants.{Move as move, Compute as compute, Convert as convert, Load as load, Store as store, Address as address, Element as element, Jump as jump, Branch as branch, Call as call, PutByte as put_byte, GetByte as get_byte, Exit as exit, Return as return}
use Rattle.frames_code.specs.declared.code.Operand.{Operand}
use Rattle.frames_code.specs.declared.code.Target.{Target}
use Rattle.frames_code.specs.declared.code.Instruction.{Instruction}
use Rattle.frames_code.specs.Code.{Function, Program}
use Rattle.select_exec.specs.Light.{Light, Go, Done, light_run, sum32}
use Rattle.select.specs.Selected.{entry, items_of}
use Rattle.select.specs.Program.{code_items, program_items}

-- ---- items as words

abbrev size : Item → ℕ
size (item.Mark l) = 0
size (item.Plain i) = 4
size (item.Branch t l r to) = 4
size (item.Jump to) = 4
size (item.Call to) = 8
size (item.NearCall to) = 4
size (item.Constant rd v) = 8
size (item.LabelAddress rd l) = 8
size (item.DataAddress rd o) = 8

abbrev mark_else : ℕ → ℕ → Item → ℕ → ℕ
mark_else l a (item.Mark m) other = if l == m then a else other
mark_else l a (item.Plain i) other = other
mark_else l a (item.Branch t x y to) other = other
mark_else l a (item.Jump to) other = other
mark_else l a (item.Call to) other = other
mark_else l a (item.NearCall to) other = other
mark_else l a (item.Constant rd v) other = other
mark_else l a (item.LabelAddress rd m) other = other
mark_else l a (item.DataAddress rd o) other = other

-- where a label is marked
abbrev home_of : List Item → ℕ → ℕ → ℕ
home_of [] a l = 0
home_of (x ∷ xs) a l = mark_else l a x (home_of xs (a + size x) l)

abbrev from_to : ℕ → ℕ → ℕ
from_to a to = sum32 to (2 ^ 32 - a)

abbrev words_of : (ℕ → ℕ) → ℕ → Item → List Instr
words_of env a (item.Mark l) = []
words_of env a (item.Plain i) = i ∷ []
words_of env a (item.Branch t l r to) = instr.Branch t l r (from_to a (env to)) ∷ []
words_of env a (item.Jump to) = instr.Jal 0 (from_to a (env to)) ∷ []
words_of env a (item.Call to) = instr.Auipc 1 (from_to a (env to)) ∷ instr.Jalr 1 1 0 ∷ []
words_of env a (item.NearCall to) = instr.Jal 1 (from_to a (env to)) ∷ []
words_of env a (item.Constant rd v) = instr.Lui rd v ∷ instr.Immediate immediate_op.Add rd rd 0 ∷ []
words_of env a (item.LabelAddress rd l) = instr.Lui rd (env l) ∷ instr.Immediate immediate_op.Add rd rd 0 ∷ []
words_of env a (item.DataAddress rd o) = instr.Lui rd (0x20000 + o) ∷ instr.Immediate immediate_op.Add rd rd 0 ∷ []

abbrev all_words : (ℕ → ℕ) → ℕ → List Item → List Instr
all_words env a [] = []
all_words env a (x ∷ xs) = words_of env a x ++ all_words env (a + size x) xs

abbrev text : List Item → ℕ → Option Instr
text xs pc = slice_get (all_words (home_of xs 0x11000) 0x11000 xs) ((pc - 0x11000) / 4)

-- k instructions of a program
abbrev after : ℕ → List ℕ → Program → Light
after k input p =
    light_run (record { text = text (program_items p); can_read = λ a. true; can_write = λ a. true }) k
    (Go (λ x. 0) 0x11000 (λ a. if nat_lt a 0x20000 then 0 else slice_index_or p.statics (a - 0x20000) 0) input [])

abbrev function : (cells resident area outgoing : ℕ) → List Instruction → Function
function cells resident area outgoing code = record { code = code; cells = cells; resident = resident; area = area; outgoing = outgoing; gives = true }

abbrev whole : List Function → Program
whole functions = record { functions = functions; statics = []; main = 0 }

abbrev t0 : Target
t0 = to_temporary 0

abbrev add : Target → Operand → Operand → Instruction
add d x y = compute (machine op.Add) d x y

-- int main(void) { return 300; }
status_is_cut : after 20 [] (whole (function 0 0 0 0 (move t0 (constant 300) ∷ return ∷ []) ∷ [])) ≡ Done 44 []
status_is_cut = refl

-- rv_putbyte(321); return 0;
low_byte_is_put : after 30 [] (whole (function 0 0 0 0 (move t0 (constant 321) ∷ put_byte ∷ move t0 (constant 0) ∷ return ∷ []) ∷ [])) ≡ Done 0 (Put 65 ∷ [])
low_byte_is_put = refl

-- return rv_getbyte() + rv_getbyte();
bytes_are_got :
    after 40 (7 ∷ []) (whole (function 1 1 0 0 (get_byte ∷ move (to_cell 0) (temporary 0) ∷ get_byte ∷ add t0 (cell 0) (temporary 0) ∷ return ∷ []) ∷ [])) ≡ Done 6 (GotEnd ∷ Got 7 ∷ [])
bytes_are_got = refl

-- int i = 0, s = 0; while (i < 4) { i = i + 1; s = s + i; } return s; with i in a register, and s in the frame
sum_of_four :
    after 80 [] (whole (function 2 1 0 0 (
    move (to_cell 0) (constant 0) ∷ move (to_cell 1) (constant 0) ∷ branch test.GreaterEqual (cell 0) (constant 4) 6 ∷
    add (to_cell 0) (cell 0) (constant 1) ∷ add (to_cell 1) (cell 1) (cell 0) ∷ jump 2 ∷
    move t0 (cell 1) ∷ return ∷ []) ∷ [])) ≡ Done 10 []
sum_of_four = refl

-- int f(int n) { return n == 0 ? 1 : n * f(n - 1); }  return f(3); each call keeps n in s0
recursion :
    after 120 [] (whole (
    function 0 0 0 0 (move t0 (constant 3) ∷ call 1 ∷ return ∷ []) ∷
    function 1 1 0 0 (
    move (to_cell 0) (temporary 0) ∷ branch test.NotEqual (cell 0) (constant 0) 4 ∷ move t0 (constant 1) ∷ return ∷
    compute (machine op.Sub) t0 (cell 0) (constant 1) ∷ call 1 ∷ compute (machine op.Mul) t0 (cell 0) (temporary 0) ∷ return ∷ []) ∷ [])) ≡ Done 6 []
recursion = refl

-- a function that uses s0 to s2 between two uses of them
registers_are_kept :
    after 80 [] (whole (
    function 3 3 0 0 (move (to_cell 0) (constant 1) ∷ move (to_cell 1) (constant 20) ∷ move (to_cell 2) (constant 300) ∷ call 1 ∷ add t0 (cell 0) (cell 1) ∷ add t0 (temporary 0) (cell 2) ∷ convert to_byte t0 (temporary 0) ∷ return ∷ []) ∷
    function 3 3 0 0 (move (to_cell 0) (constant 7) ∷ move (to_cell 1) (constant 7) ∷ move (to_cell 2) (constant 7) ∷ move t0 (constant 0) ∷ return ∷ []) ∷ [])) ≡ Done 65 []
registers_are_kept = refl

-- ten arguments, the last two on the stack, taken into a register and into the frame
ten_arguments :
    after 80 [] (whole (
    function 0 0 0 2 (move (to_temporary 8) (constant 8) ∷ move (to_temporary 9) (constant 9) ∷ move t0 (constant 1) ∷ call 1 ∷ return ∷ []) ∷
    function 2 1 0 0 (move (to_cell 0) (argument 8) ∷ move (to_cell 1) (argument 9) ∷ compute (machine op.Mul) (to_cell 0) (cell 0) (cell 1) ∷ add t0 (cell 0) (temporary 0) ∷ return ∷ []) ∷ [])) ≡ Done 73 []
ten_arguments = refl

-- the same from a frame of 100,000 bytes, into one of as many
ten_arguments_far :
    after 100 [] (whole (
    function 0 0 100000 2 (move (to_temporary 8) (constant 8) ∷ move (to_temporary 9) (constant 9) ∷ move t0 (constant 1) ∷ call 1 ∷ return ∷ []) ∷
    function 2 1 100000 0 (move (to_cell 0) (argument 8) ∷ move (to_cell 1) (argument 9) ∷ compute (machine op.Mul) (to_cell 0) (cell 0) (cell 1) ∷ add t0 (cell 0) (temporary 0) ∷ return ∷ []) ∷ [])) ≡ Done 73 []
ten_arguments_far = refl

-- signed char a[3000]; a[2999] = 200; unsigned char u; both read
bytes_far :
    after 60 [] (whole (function 1 0 3000 0 (
    store signed_byte (constant 200) (in_frame 2999) ∷ load signed_byte (to_cell 0) (in_frame 2999) ∷ load byte t0 (in_frame 2999) ∷
    add t0 (temporary 0) (cell 0) ∷ return ∷ []) ∷ [])) ≡ Done 144 []
bytes_far = refl

-- short s = 0x8001; the sign of s, and of its unsigned value
halves :
    after 60 [] (whole (function 1 1 4 0 (
    store half (constant 0x8001) (in_frame 2) ∷ load signed_half (to_cell 0) (in_frame 2) ∷ compute (machine op.Less) (to_cell 0) (cell 0) (constant 0) ∷
    load half t0 (in_frame 2) ∷ compute (machine op.Less) t0 (temporary 0) (constant 0) ∷ add t0 (temporary 0) (cell 0) ∷ return ∷ []) ∷ [])) ≡ Done 1 []
halves = refl

-- void set(int p[], int i) { p[i] = 9; }  int a[2]; set(a, 1); return a[1];
reference_into_a_frame_that_waits :
    after 80 [] (whole (
    function 0 0 8 0 (address t0 (in_frame 0) ∷ move (to_temporary 1) (constant 1) ∷ call 1 ∷ load word t0 (in_frame 4) ∷ return ∷ []) ∷
    function 1 1 0 0 (element (to_cell 0) (temporary 0) (temporary 1) 4 ∷ store word (constant 9) (at (cell 0)) ∷ move t0 (constant 0) ∷ return ∷ []) ∷ [])) ≡ Done 9 []
unfolding count_trailing_zeros
reference_into_a_frame_that_waits = refl

-- int a[2][3]; a[1][2] = 9; return a[1][2]; by rows of 12 bytes
rows_of_twelve :
    after 80 [] (whole (function 2 0 24 0 (
    address (to_cell 0) (in_frame 0) ∷ move (to_cell 1) (constant 1) ∷ element (to_cell 0) (cell 0) (cell 1) 12 ∷ element t0 (cell 0) (constant 2) 4 ∷
    store word (constant 9) (at (temporary 0)) ∷ load word t0 (in_frame 20) ∷ return ∷ []) ∷ [])) ≡ Done 9 []
unfolding count_trailing_zeros
rows_of_twelve = refl

-- the same by rows of 32 bytes, int a[2][8]
rows_of_thirty_two :
    after 80 [] (whole (function 2 0 64 0 (
    address (to_cell 0) (in_frame 0) ∷ move (to_cell 1) (constant 1) ∷ element (to_cell 0) (cell 0) (cell 1) 32 ∷ element t0 (cell 0) (constant 2) 4 ∷
    store word (constant 9) (at (temporary 0)) ∷ load word t0 (in_frame 40) ∷ return ∷ []) ∷ [])) ≡ Done 9 []
unfolding count_trailing_zeros
rows_of_thirty_two = refl

-- by rows of 4 KiB: a shift by 12 bits; by rows of 12 KiB: LUI alone, and a product
rows_of_pages : items_of (function 0 0 0 0 []) 0 (element t0 (temporary 0) (temporary 1) 0x1000) ≡ item.Plain (instr.Shift shift_op.Left 6 11 12) ∷ item.Plain (instr.Op op.Add 10 10 6) ∷ []
unfolding count_trailing_zeros
rows_of_pages = refl

rows_of_three_pages :
    items_of (function 0 0 0 0 []) 0 (element t0 (temporary 0) (temporary 1) 0x3000) ≡ item.Plain (instr.Lui 7 0x3000) ∷ item.Plain (instr.Op op.Mul 6 11 7) ∷ item.Plain (instr.Op op.Add 10 10 6) ∷ []
unfolding count_trailing_zeros
rows_of_three_pages = refl

-- a subscript that is a constant: with zero a move, within 12 bits one sum, past them a constant and a sum
no_element : items_of (function 0 0 0 0 []) 0 (element t0 (temporary 1) (constant 0) 4) ≡ item.Plain (instr.Immediate immediate_op.Add 10 11 0) ∷ []
no_element = refl

third_element : items_of (function 0 0 0 0 []) 0 (element t0 (temporary 1) (constant 3) 4) ≡ item.Plain (instr.Immediate immediate_op.Add 10 11 12) ∷ []
third_element = refl

far_element :
    items_of (function 0 0 0 0 []) 0 (element t0 (temporary 1) (constant 300) 12) ≡ item.Constant 6 3600 ∷ item.Plain (instr.Op op.Add 10 11 6) ∷ []
far_element = refl

-- static unsigned char s[] = { 1, 2 }; s[0] = 5; return s[0] + s[1];
statics :
    after 60 [] (record {
      functions = function 1 1 0 0 (store byte (constant 5) (in_statics 0) ∷ load byte (to_cell 0) (in_statics 1) ∷ load byte t0 (in_statics 0) ∷ add t0 (temporary 0) (cell 0) ∷ return ∷ []) ∷ [];
      statics = 1 ∷ 2 ∷ [];
      main = 0;
    }) ≡ Done 7 []
statics = refl

-- static unsigned char s[] = { 9, 1, 2 }; int i = 1; s[i + 1] = 5; return s[i] + s[i + 1];
indexed_static :
    after 60 [] (record {
      functions = function 2 1 0 0 (move (to_cell 0) (constant 1) ∷ store byte (constant 5) (indexed (from_statics 1) (cell 0) 1) ∷ load byte (to_cell 1) (indexed (from_statics 0) (cell 0) 1) ∷ load byte t0 (in_statics 2) ∷ add t0 (temporary 0) (cell 1) ∷ return ∷ []) ∷ [];
      statics = 9 ∷ 1 ∷ 2 ∷ [];
      main = 0;
    }) ≡ Done 6 []
indexed_static = refl

-- short a[3]; int i = 1; a[i + 1] = 7; short *p = &a[i + 1]; return *p + a[2];
indexed_in_the_frame :
    after 60 [] (whole (function 2 0 6 0 (
    move (to_cell 0) (constant 1) ∷ store half (constant 7) (indexed (from_frame 2) (cell 0) 2) ∷ address (to_cell 1) (indexed (from_frame 2) (cell 0) 2) ∷
    load half (to_temporary 1) (at (cell 1)) ∷ load half t0 (in_frame 4) ∷ add t0 (temporary 0) (temporary 1) ∷ return ∷ []) ∷ [])) ≡ Done 14 []
unfolding count_trailing_zeros
indexed_in_the_frame = refl

-- s[i] of words, a[i] of bytes, and &a[i + 1]: a shift, a sum with gp or sp, and the rest in the access
word_by_an_index :
    items_of (function 0 0 0 0 []) 0 (load word t0 (indexed (from_statics 100) (temporary 1) 4)) ≡
    item.Plain (instr.Shift shift_op.Left 6 11 2) ∷ item.Plain (instr.Op op.Add 6 3 6) ∷ item.Plain (instr.Load load_kind.Word 10 6 (2 ^ 32 - 1948)) ∷ []
unfolding count_trailing_zeros
word_by_an_index = refl

byte_by_an_index :
    items_of (function 0 0 16 0 []) 0 (store byte (temporary 0) (indexed (from_frame 0) (temporary 1) 1)) ≡ item.Plain (instr.Op op.Add 6 2 11) ∷ item.Plain (instr.Store store_kind.Byte 10 6 4) ∷ []
byte_by_an_index = refl

address_by_an_index :
    items_of (function 0 0 16 0 []) 0 (address t0 (indexed (from_frame 4) (temporary 1) 4)) ≡
    item.Plain (instr.Shift shift_op.Left 6 11 2) ∷ item.Plain (instr.Op op.Add 6 2 6) ∷ item.Plain (instr.Immediate immediate_op.Add 10 6 8) ∷ []
unfolding count_trailing_zeros
address_by_an_index = refl

-- rv_exit(300) within a call
exit_ends_all :
    after 40 [] (whole (function 0 0 0 0 (call 1 ∷ move t0 (constant 1) ∷ return ∷ []) ∷ function 0 0 0 0 (move t0 (constant 300) ∷ exit ∷ []) ∷ [])) ≡ Done 44 []
exit_ends_all = refl

-- (signed char)200 < 0, (_Bool)256, 3 == 3, 3 != 3, (short)0x18001 < 0, (unsigned short)0x10002: 1 + 1 + 1 + 0 + 1 + 2
conversions :
    after 90 [] (whole (function 5 2 0 0 (
    convert to_signed_byte t0 (constant 200) ∷ compute (machine op.Less) (to_cell 0) (temporary 0) (constant 0) ∷
    convert to_truth (to_cell 1) (constant 256) ∷ compute equal (to_cell 2) (constant 3) (constant 3) ∷
    convert to_signed_half (to_cell 3) (constant 0x18001) ∷ compute (machine op.Less) (to_cell 3) (cell 3) (constant 0) ∷
    convert to_half (to_cell 4) (constant 0x10002) ∷ compute not_equal t0 (constant 3) (constant 3) ∷
    add t0 (temporary 0) (cell 0) ∷ add t0 (temporary 0) (cell 1) ∷ add t0 (temporary 0) (cell 2) ∷ add t0 (temporary 0) (cell 3) ∷ add t0 (temporary 0) (cell 4) ∷ return ∷ []) ∷ [])) ≡ Done 6 []
conversions = refl

-- int x = 5 - 7; each operation with a constant of 12 bits, and two with one of 13: (x < -1) + (x < 2047u), ((x ^ -1) << 3 | 3) & 9, x >> 1, + 2048, == 2057, != 57
constants :
    after 90 [] (whole (function 2 1 0 0 (
    move (to_cell 0) (constant 5) ∷ compute (machine op.Sub) (to_cell 0) (cell 0) (constant 7) ∷
    compute (machine op.Less) (to_cell 1) (cell 0) (constant (2 ^ 32 - 1)) ∷ compute (machine op.LessUnsigned) t0 (cell 0) (constant 2047) ∷ add (to_cell 1) (cell 1) (temporary 0) ∷
    compute (machine op.Xor) t0 (cell 0) (constant (2 ^ 32 - 1)) ∷ compute (machine op.ShiftLeft) t0 (temporary 0) (constant 3) ∷
    compute (machine op.Or) t0 (temporary 0) (constant 3) ∷ compute (machine op.And) t0 (temporary 0) (constant 9) ∷ add t0 (temporary 0) (cell 1) ∷
    compute (machine op.ShiftRightArithmetic) (to_cell 0) (cell 0) (constant 1) ∷ add t0 (temporary 0) (cell 0) ∷ add t0 (temporary 0) (constant 2048) ∷
    compute equal (to_cell 1) (temporary 0) (constant 2057) ∷ compute not_equal (to_cell 0) (temporary 0) (constant 57) ∷
    add t0 (temporary 0) (cell 1) ∷ add t0 (temporary 0) (cell 0) ∷ return ∷ []) ∷ [])) ≡ Done 11 []
constants = refl

-- x + 1, x - 1, x >> 31 of an unsigned x in a0: one instruction each
one_more : items_of (function 0 0 0 0 []) 0 (add t0 (temporary 0) (constant 1)) ≡ item.Plain (instr.Immediate immediate_op.Add 10 10 1) ∷ []
one_more = refl

one_less : items_of (function 0 0 0 0 []) 0 (compute (machine op.Sub) t0 (temporary 0) (constant 1)) ≡ item.Plain (instr.Immediate immediate_op.Add 10 10 (2 ^ 32 - 1)) ∷ []
one_less = refl

one_shift : items_of (function 0 0 0 0 []) 0 (compute (machine op.ShiftRight) t0 (temporary 0) (constant 31)) ≡ item.Plain (instr.Shift shift_op.Right 10 10 31) ∷ []
one_shift = refl

-- a constant: ADDI alone from -2048 to 2047, LUI alone where the low 12 bits are zero
lowest_of_twelve : items_of (function 0 0 0 0 []) 0 (move t0 (constant (2 ^ 32 - 2048))) ≡ item.Plain (instr.Immediate immediate_op.Add 10 0 (2 ^ 32 - 2048)) ∷ []
lowest_of_twelve = refl

least_above_twelve : items_of (function 0 0 0 0 []) 0 (move t0 (constant 2048)) ≡ item.Constant 10 2048 ∷ []
least_above_twelve = refl

minus_a_page : items_of (function 0 0 0 0 []) 0 (move t0 (constant (2 ^ 32 - 4096))) ≡ item.Plain (instr.Lui 10 (2 ^ 32 - 4096)) ∷ []
minus_a_page = refl

least_int : items_of (function 0 0 0 0 []) 0 (move t0 (constant 0x80000000)) ≡ item.Plain (instr.Lui 10 0x80000000) ∷ []
least_int = refl

-- a jump to the next instruction, and a0 into itself, have no items; a jump to itself has
nothing_left : code_items (function 0 0 0 0 []) 7 2 (jump 3 ∷ move t0 (temporary 0) ∷ []) ≡ item.Mark 9 ∷ item.Mark 10 ∷ item.Mark 11 ∷ []
nothing_left = refl

jump_back : code_items (function 0 0 0 0 []) 7 2 (jump 2 ∷ []) ≡ item.Mark 9 ∷ item.Jump 9 ∷ item.Mark 10 ∷ []
jump_back = refl

-- a function that calls none leaves the address to return to in ra; one that calls has it in its frame
leaf : entry (function 0 0 0 0 (return ∷ [])) ≡ item.Plain (instr.Immediate immediate_op.Add 2 2 (2 ^ 32 - 16)) ∷ []
leaf = refl

leaf_returns : items_of (function 0 0 0 0 (return ∷ [])) 0 return ≡ item.Plain (instr.Immediate immediate_op.Add 2 2 16) ∷ item.Plain (instr.Jalr 0 1 0) ∷ []
leaf_returns = refl

caller : entry (function 0 0 0 0 (call 0 ∷ return ∷ [])) ≡ item.Plain (instr.Immediate immediate_op.Add 2 2 (2 ^ 32 - 16)) ∷ item.Plain (instr.Store store_kind.Word 1 2 12) ∷ []
caller = refl
