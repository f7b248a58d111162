-- The items of each flat instruction.
use Rattle.std.specs.Prelude.{ℕ, zero, suc, ◌+◌, ◌*◌, ◌-◌, ◌/◌, ◌%◌, ◌^◌, ◌==◌, ◌&&◌, nat_lt, if◌then◌else◌, List, [], ◌∷◌, ◌++◌, slice_get, Option, Some, None, Bool, true, false}
use Rattle.std.specs.Int.{w32, trailing_zeros}
use Rattle.std.specs.List.{list_any}
use Rattle.rv32.specs.declared.instr.Instr.{Instr}
use Rattle.rv32.specs.declared.instr.Instr.TheVariants as instr
use Rattle.rv32.specs.declared.instr.ImmediateOp.{ImmediateOp}
use Rattle.rv32.specs.declared.instr.ImmediateOp.TheVariants as immediate_op
use Rattle.rv32.specs.declared.instr.RegisterOp.{RegisterOp}
use Rattle.rv32.specs.declared.instr.RegisterOp.TheVariants as register_op
use Rattle.rv32.specs.declared.instr.Test.{Test}
use Rattle.rv32.specs.declared.instr.Test.TheVariants as test
use Rattle.rv32.specs.declared.instr.ShiftOp.{ShiftOp}
use Rattle.rv32.specs.declared.instr.ShiftOp.TheVariants as shift_op
use Rattle.rv32.specs.declared.instr.LoadKind.{LoadKind}
use Rattle.rv32.specs.declared.instr.LoadKind.TheVariants as load_kind
use Rattle.rv32.specs.declared.instr.StoreKind.{StoreKind}
use Rattle.rv32.specs.declared.instr.StoreKind.TheVariants as store_kind
use Rattle.asm.specs.declared.item.Item.{Item}
use Rattle.asm.specs.declared.item.Item.TheVariants as item
use Rattle.frames_code.specs.declared.code.Operand.{Operand}
use Rattle.frames_code.specs.declared.code.Operand.TheVariants as operand
use Rattle.frames_code.specs.declared.code.Target.{Target}
use Rattle.frames_code.specs.declared.code.Target.TheVariants as target
use Rattle.frames_code.specs.declared.code.Width.{Width}
use Rattle.frames_code.specs.declared.code.Width.TheVariants as width
use Rattle.frames_code.specs.declared.code.Base.{Base}
use Rattle.frames_code.specs.declared.code.Base.TheVariants as base
use Rattle.frames_code.specs.declared.code.Location.{Location}
use Rattle.frames_code.specs.declared.code.Location.TheVariants as location
use Rattle.frames_code.specs.declared.code.Operation.{Operation}
use Rattle.frames_code.specs.declared.code.Operation.TheVariants as operation
use Rattle.frames_code.specs.declared.code.Conversion.{Conversion}
use Rattle.frames_code.specs.declared.code.Conversion.TheVariants as conversion
use Rattle.frames_code.specs.declared.code.Instruction.{Instruction}
use Rattle.frames_code.specs.declared.code.Instruction.TheVariants as instruction
use Rattle.frames_code.specs.Code.{Function, cell_home, area_home, frame_bytes}
use Rattle.select.specs.declared.places.Source.{Source}
use Rattle.select.specs.declared.places.Source.TheVariants as source
use Rattle.select.specs.declared.places.Home.{Home}
use Rattle.select.specs.declared.places.Home.TheVariants as home

-- ---- single instructions

-- rd = left + value
abbrev pub add_to : ℕ → ℕ → ℕ → Item
add_to rd left value = item.Plain (instr.Immediate immediate_op.Add rd left value)

abbrev pub operate_on : RegisterOp → ℕ → ℕ → ℕ → Item
operate_on o rd left right = item.Plain (instr.Op o rd left right)

abbrev pub shifted : ShiftOp → ℕ → ℕ → ℕ → Item
shifted o rd left amount = item.Plain (instr.Shift o rd left amount)

-- rd = a constant of more than 12 bits: by LUI alone where the low 12 are zero, else by LUI and ADDI
abbrev pub load_constant : ℕ → ℕ → Item
load_constant rd v = if v % 0x1000 == 0 then item.Plain (instr.Lui rd v) else item.Constant rd v

-- ---- registers (RISC-V ELF psABI, "Integer Register Convention")

-- s0 to s11 are x8, x9, and x18 to x27
abbrev pub kept : ℕ → ℕ
kept j = if nat_lt j 2 then 8 + j else 16 + j

-- temporaries 0 to 7 are in a0 to a7, which are x10 to x17
abbrev pub argument : ℕ → ℕ
argument k = 10 + k

-- ---- places of the frame, by their offset in bytes above sp

-- an offset in two parts: a multiple of 4096, and one of 12 bits with a sign
abbrev pub upper_of : ℕ → ℕ
upper_of o = (o + 0x800) / 0x1000 * 0x1000

abbrev pub lower_of : ℕ → ℕ
lower_of o = (o + (2 ^ 32 - upper_of o)) % 2 ^ 32

-- the items before an access to a place past the reach of 12 bits, where register x is free; and the base register of the access
abbrev pub far : ℕ → ℕ → List Item
far x o = if nat_lt o 0x800 then [] else item.Plain (instr.Lui x (upper_of o)) ∷ operate_on register_op.Add x x 2 ∷ []

abbrev pub base_of : ℕ → ℕ → ℕ
base_of x o = if nat_lt o 0x800 then 2 else x

-- x7 is free wherever a word is stored
abbrev pub load_word : ℕ → ℕ → List Item
load_word rd o = far rd o ++ (item.Plain (instr.Load load_kind.Word rd (base_of rd o) (lower_of o)) ∷ [])

abbrev pub store_word : ℕ → ℕ → List Item
store_word s o = far 7 o ++ (item.Plain (instr.Store store_kind.Word s (base_of 7 o) (lower_of o)) ∷ [])

abbrev pub address_of : ℕ → ℕ → List Item
address_of rd o = if nat_lt o 0x800 then add_to rd 2 o ∷ [] else load_constant rd o ∷ operate_on register_op.Add rd rd 2 ∷ []

-- ---- statics

-- gp (x3) points 2048 bytes past the begin of the statics, so that 12 bits with a sign reach the first 4096 of them
abbrev pub gp_offset : ℕ
gp_offset = 0x800

abbrev pub is_near_gp : ℕ → Bool
is_near_gp o = nat_lt o 0x1000

abbrev pub from_gp : ℕ → ℕ
from_gp o = (o + (2 ^ 32 - gp_offset)) % 2 ^ 32

abbrev pub static_address : ℕ → ℕ → Item
static_address rd o = if is_near_gp o then add_to rd 3 (from_gp o) else item.DataAddress rd o

-- ---- operands and targets

-- where an operand's value is; zero is in x0
abbrev pub source_of : Function → Operand → Source
source_of f (operand.Temporary k) = if nat_lt k 8 then source.Register (argument k) else source.Frame (4 * (k - 8))
source_of f (operand.Cell c) = if nat_lt c f.resident then source.Register (kept c) else source.Frame (cell_home f c)
source_of f (operand.Constant v) = if v == 0 then source.Register 0 else source.Constant v
source_of f (operand.Argument k) = source.Frame (frame_bytes f + 4 * (k - 8))

-- where a result goes
abbrev pub home_of : Function → Target → Home
home_of f (target.Temporary k) = if nat_lt k 8 then home.Register (argument k) else home.Frame (4 * (k - 8))
home_of f (target.Cell c) = if nat_lt c f.resident then home.Register (kept c) else home.Frame (cell_home f c)

abbrev pub set_to : ℕ → ℕ → Item
set_to rd v = if nat_lt ((v + 0x800) % 2 ^ 32) 0x1000 then add_to rd 0 v else load_constant rd v

-- the items that load a value into the register that it is then read from; x is free
abbrev pub fetch : ℕ → Source → List Item
fetch x (source.Register r) = []
fetch x (source.Frame o) = load_word x o
fetch x (source.Constant v) = set_to x v ∷ []

abbrev pub register_of : ℕ → Source → ℕ
register_of x (source.Register r) = r
register_of x (source.Frame o) = x
register_of x (source.Constant v) = x

-- a value into register rd
abbrev pub into : ℕ → Source → List Item
into rd (source.Register r) = add_to rd r 0 ∷ []
into rd (source.Frame o) = load_word rd o
into rd (source.Constant v) = set_to rd v ∷ []

-- the register that a result is computed in, and the items that move it to its home
abbrev pub made_in : Home → ℕ
made_in (home.Register r) = r
made_in (home.Frame o) = 5

abbrev pub keep : Home → List Item
keep (home.Register r) = []
keep (home.Frame o) = store_word 5 o

-- ---- forms of instructions

abbrev pub move : Home → Source → List Item
move (home.Register r) x = into r x
move (home.Frame o) x = fetch 5 x ++ store_word (register_of 5 x) o

-- the machine's operation, and the items that turn its result into whether words are equal
abbrev pub machine_of : Operation → RegisterOp
machine_of (operation.Machine o) = o
machine_of operation.Equal = register_op.Xor
machine_of operation.NotEqual = register_op.Xor

abbrev pub ending : Operation → ℕ → List Item
ending (operation.Machine o) rd = []
ending operation.Equal rd = item.Plain (instr.Immediate immediate_op.LessUnsigned rd rd 1) ∷ []
ending operation.NotEqual rd = operate_on register_op.LessUnsigned rd 0 rd ∷ []

abbrev pub operate : Operation → ℕ → ℕ → ℕ → List Item
operate o rd a b = operate_on (machine_of o) rd a b ∷ ending o rd

-- the instruction that has the second of an operation's two words in itself, where there is one for it (unprivileged ISA manual, 2.4.1)
abbrev pub short_form : ImmediateOp → ℕ → ℕ → ℕ → Option Instr
short_form o rd a v = if nat_lt ((v + 0x800) % 2 ^ 32) 0x1000 then Some (instr.Immediate o rd a v) else None

abbrev pub shift_form : ShiftOp → ℕ → ℕ → ℕ → Option Instr
shift_form o rd a v = Some (instr.Shift o rd a (v % 2 ^ 5))

abbrev pub constant_form : RegisterOp → ℕ → ℕ → ℕ → Option Instr
constant_form register_op.Add rd a v = short_form immediate_op.Add rd a v
constant_form register_op.Sub rd a v = short_form immediate_op.Add rd a ((2 ^ 32 - v) % 2 ^ 32)
constant_form register_op.ShiftLeft rd a v = shift_form shift_op.Left rd a v
constant_form register_op.Less rd a v = short_form immediate_op.Less rd a v
constant_form register_op.LessUnsigned rd a v = short_form immediate_op.LessUnsigned rd a v
constant_form register_op.Xor rd a v = short_form immediate_op.Xor rd a v
constant_form register_op.ShiftRight rd a v = shift_form shift_op.Right rd a v
constant_form register_op.ShiftRightArithmetic rd a v = shift_form shift_op.RightArithmetic rd a v
constant_form register_op.Or rd a v = short_form immediate_op.Or rd a v
constant_form register_op.And rd a v = short_form immediate_op.And rd a v
constant_form register_op.Mul rd a v = None
constant_form register_op.MulHigh rd a v = None
constant_form register_op.MulHighSignedUnsigned rd a v = None
constant_form register_op.MulHighUnsigned rd a v = None
constant_form register_op.Div rd a v = None
constant_form register_op.DivUnsigned rd a v = None
constant_form register_op.Rem rd a v = None
constant_form register_op.RemUnsigned rd a v = None

abbrev pub form_or : Option Instr → List Item → List Item → List Item
form_or (Some i) more other = item.Plain i ∷ more
form_or None more other = other

-- register a and a second operand; x6 is free
abbrev pub with_constant : Operation → ℕ → ℕ → ℕ → List Item
with_constant o rd a v = form_or (constant_form (machine_of o) rd a v) (ending o rd) (set_to 6 v ∷ operate o rd a 6)

abbrev pub combine : Operation → ℕ → ℕ → Source → List Item
combine o rd a (source.Register r) = operate o rd a r
combine o rd a (source.Frame p) = load_word 6 p ++ operate o rd a 6
combine o rd a (source.Constant v) = with_constant o rd a v

abbrev pub compute : Operation → Home → Source → Source → List Item
compute o d x y = fetch 5 x ++ (combine o (made_in d) (register_of 5 x) y ++ keep d)

abbrev pub narrow : Conversion → ℕ → ℕ → List Item
narrow conversion.ToByte rd a = item.Plain (instr.Immediate immediate_op.And rd a 255) ∷ []
narrow conversion.ToSignedByte rd a = shifted shift_op.Left rd a 24 ∷ shifted shift_op.RightArithmetic rd rd 24 ∷ []
narrow conversion.ToHalf rd a = shifted shift_op.Left rd a 16 ∷ shifted shift_op.Right rd rd 16 ∷ []
narrow conversion.ToSignedHalf rd a = shifted shift_op.Left rd a 16 ∷ shifted shift_op.RightArithmetic rd rd 16 ∷ []
narrow conversion.ToTruth rd a = operate_on register_op.LessUnsigned rd 0 a ∷ []

abbrev pub convert : Conversion → Home → Source → List Item
convert c d x = fetch 5 x ++ (narrow c (made_in d) (register_of 5 x) ++ keep d)

-- k, where it is below 32 and the size is 2 to the power of it
abbrev pub power_or_none : ℕ → ℕ → Option ℕ
power_or_none k size = if nat_lt k 32 && (2 ^ k == size) then Some k else None

-- the power that a size is of two, where it is one: as many as the zeros that its digits end with
abbrev pub log2_of : ℕ → Option ℕ
log2_of size = power_or_none (trailing_zeros w32 size) size

-- register a times a size, in x6: by a shift where the size is a power of two, else by a product; x7 is free
abbrev pub shift_or_multiply : Option ℕ → ℕ → ℕ → List Item
shift_or_multiply (Some k) a size = shifted shift_op.Left 6 a k ∷ []
shift_or_multiply None a size = set_to 7 size ∷ operate_on register_op.Mul 6 a 7 ∷ []

-- register a times a size, in x6 or in a itself; x6 and x7 are free, but that a may be x6
abbrev pub scale : ℕ → ℕ → List Item
scale a size = if size == 1 then [] else shift_or_multiply (log2_of size) a size

abbrev pub scaled_in : ℕ → ℕ → ℕ
scaled_in a size = if size == 1 then a else 6

-- the register that a base counts from, and the bytes from there
abbrev pub base_register : Base → ℕ
base_register (base.Statics o) = 3
base_register (base.Frame o) = 2

abbrev pub base_offset : Function → Base → ℕ
base_offset f (base.Statics o) = from_gp o
base_offset f (base.Frame o) = lower_of (area_home f + o)

-- an index in bytes further than that register, in x6
abbrev pub indexed : Base → Source → ℕ → List Item
indexed b y size = fetch 6 y ++ (scale (register_of 6 y) size ++ (operate_on register_op.Add 6 (base_register b) (scaled_in (register_of 6 y) size) ∷ []))

-- the items before an access to an element, its base register, and its offset in bytes; x6 is free, and x7 where an index is multiplied
abbrev pub reach : Function → Location → List Item
reach f (location.Statics o) = if is_near_gp o then [] else item.DataAddress 6 o ∷ []
reach f (location.Frame o) = far 6 (area_home f + o)
reach f (location.At x) = fetch 6 (source_of f x)
reach f (location.Indexed b y size) = indexed b (source_of f y) size

abbrev pub reach_base : Function → Location → ℕ
reach_base f (location.Statics o) = if is_near_gp o then 3 else 6
reach_base f (location.Frame o) = base_of 6 (area_home f + o)
reach_base f (location.At x) = register_of 6 (source_of f x)
reach_base f (location.Indexed b y size) = 6

abbrev pub reach_offset : Function → Location → ℕ
reach_offset f (location.Statics o) = if is_near_gp o then from_gp o else 0
reach_offset f (location.Frame o) = lower_of (area_home f + o)
reach_offset f (location.At x) = 0
reach_offset f (location.Indexed b y size) = base_offset f b

abbrev pub load_of : Width → LoadKind
load_of width.Byte = load_kind.ByteUnsigned
load_of width.SignedByte = load_kind.Byte
load_of width.Half = load_kind.HalfUnsigned
load_of width.SignedHalf = load_kind.Half
load_of width.Word = load_kind.Word

abbrev pub store_of : Width → StoreKind
store_of width.Byte = store_kind.Byte
store_of width.SignedByte = store_kind.Byte
store_of width.Half = store_kind.Half
store_of width.SignedHalf = store_kind.Half
store_of width.Word = store_kind.Word

abbrev pub load : Function → Width → Home → Location → List Item
load f w d l = reach f l ++ (item.Plain (instr.Load (load_of w) (made_in d) (reach_base f l) (reach_offset f l)) ∷ keep d)

abbrev pub store : Function → Width → Source → Location → List Item
store f w x l = fetch 5 x ++ (reach f l ++ (item.Plain (instr.Store (store_of w) (register_of 5 x) (reach_base f l) (reach_offset f l)) ∷ []))

abbrev pub reference : Function → Home → Location → List Item
reference f d (location.Statics o) = static_address (made_in d) o ∷ keep d
reference f d (location.Frame o) = address_of (made_in d) (area_home f + o) ++ keep d
reference f d (location.At x) = move d (source_of f x)
reference f d (location.Indexed b y size) = indexed b (source_of f y) size ++ (add_to (made_in d) 6 (base_offset f b) ∷ keep d)

-- by a number of elements that is in a register or in the frame
abbrev pub counted : Home → Source → Source → ℕ → List Item
counted d x y size =
    fetch 5 x ++ (fetch 6 y ++ (scale (register_of 6 y) size ++ (operate_on register_op.Add (made_in d) (register_of 5 x) (scaled_in (register_of 6 y) size) ∷ keep d)))

-- a number that is a constant is a sum with its bytes, modulo 2^32; no element, which x0 counts, is a move
abbrev pub element : Home → Source → Source → ℕ → List Item
element d x (source.Register q) size = if q == 0 then move d x else counted d x (source.Register q) size
element d x (source.Frame o) size = counted d x (source.Frame o) size
element d x (source.Constant n) size = compute (operation.Machine register_op.Add) d x (source.Constant (n * size % 2 ^ 32))

abbrev pub branch : Test → Source → Source → ℕ → List Item
branch t x y to = fetch 5 x ++ (fetch 6 y ++ (item.Branch t (register_of 5 x) (register_of 6 y) to ∷ []))

-- ---- environment calls

-- the word of the frame for a byte that is put or got
abbrev pub byte_home : Function → ℕ
byte_home f = 4 * f.outgoing

-- a0 is then 1; with any other result, which the machine never gives, the program ends with the status 126
abbrev pub put_byte : Function → List Item
put_byte f =
    address_of 11 (byte_home f) ++ (
    item.Plain (instr.Store store_kind.Byte 10 11 0) ∷ add_to 10 0 1 ∷ add_to 12 0 1 ∷ add_to 17 0 64 ∷ item.Plain instr.Ecall ∷
    add_to 10 10 (2 ^ 32 - 1) ∷ item.Plain (instr.Branch test.Equal 10 0 16) ∷ add_to 10 0 126 ∷ add_to 17 0 93 ∷ item.Plain instr.Ecall ∷ [])

-- a0 is then 1 and a byte was read, or 0 at the input's end, or another result, which the machine never gives. With 1 subtracted, a0 is 0 or not; whether it is
-- 0, minus 1, is 0, or has all bits set
abbrev pub get_byte : Function → List Item
get_byte f =
    address_of 11 (byte_home f) ++ (
    add_to 10 0 0 ∷ add_to 12 0 1 ∷ add_to 17 0 63 ∷ item.Plain instr.Ecall ∷
    item.Plain (instr.Load load_kind.ByteUnsigned 11 11 0) ∷ add_to 10 10 (2 ^ 32 - 1) ∷ item.Plain (instr.Immediate immediate_op.LessUnsigned 10 10 1) ∷
    add_to 10 10 (2 ^ 32 - 1) ∷ operate_on register_op.Or 10 10 11 ∷ [])

-- with the status in a0
abbrev pub exit : List Item
exit = add_to 17 0 93 ∷ item.Plain instr.Ecall ∷ []

-- ---- calls

-- sp changes by a multiple of 16, modulo 2^32; x7 is free
abbrev pub change_sp : ℕ → List Item
change_sp by =
    if nat_lt ((by + 0x800) % 2 ^ 32) 0x1000 then add_to 2 2 by ∷ [] else load_constant 7 by ∷ operate_on register_op.Add 2 2 7 ∷ []

-- the last word of a frame, for the address to return to
abbrev pub return_home : Function → ℕ
return_home f = frame_bytes f - 4

-- the homes of the first n cells take the caller's registers, in which the cells live meanwhile, and give them back
abbrev pub saves : Function → ℕ → List Item
saves f zero = []
saves f (suc n) = saves f n ++ store_word (kept n) (cell_home f n)

abbrev pub restores : Function → ℕ → List Item
restores f zero = []
restores f (suc n) = restores f n ++ load_word (kept n) (cell_home f n)

abbrev pub is_call : Instruction → Bool
is_call instruction.Nothing = false
is_call (instruction.Move d x) = false
is_call (instruction.Compute o d x y) = false
is_call (instruction.Convert c d x) = false
is_call (instruction.Load w d l) = false
is_call (instruction.Store w x l) = false
is_call (instruction.Address d l) = false
is_call (instruction.Element d x y size) = false
is_call (instruction.Jump to) = false
is_call (instruction.Branch t x y to) = false
is_call (instruction.Call g) = true
is_call instruction.PutByte = false
is_call instruction.GetByte = false
is_call instruction.Exit = false
is_call instruction.Return = false

abbrev pub calls : List Instruction → Bool
calls code = list_any is_call code

-- ra is not preserved across calls (RISC-V ELF psABI, "Integer Register Convention"), and nothing else writes it: a function that calls none
-- leaves it as it is
abbrev pub keep_return : Function → List Item
keep_return f = if calls f.code then store_word 1 (return_home f) else []

abbrev pub take_return : Function → List Item
take_return f = if calls f.code then load_word 1 (return_home f) else []

abbrev pub entry : Function → List Item
entry f = change_sp (2 ^ 32 - frame_bytes f) ++ (keep_return f ++ saves f f.resident)

abbrev pub leave : Function → List Item
leave f = restores f f.resident ++ (take_return f ++ (change_sp (frame_bytes f) ++ (item.Plain (instr.Jalr 0 1 0) ∷ [])))

-- ---- an instruction

-- in function f, whose instructions are marked by the labels from first on; the label of a function is its number
abbrev pub items_of : Function → ℕ → Instruction → List Item
items_of f first instruction.Nothing = []
items_of f first (instruction.Move d x) = move (home_of f d) (source_of f x)
items_of f first (instruction.Compute o d x y) = compute o (home_of f d) (source_of f x) (source_of f y)
items_of f first (instruction.Convert c d x) = convert c (home_of f d) (source_of f x)
items_of f first (instruction.Load w d l) = load f w (home_of f d) l
items_of f first (instruction.Store w x l) = store f w (source_of f x) l
items_of f first (instruction.Address d l) = reference f (home_of f d) l
items_of f first (instruction.Element d x y size) = element (home_of f d) (source_of f x) (source_of f y) size
items_of f first (instruction.Jump to) = item.Jump (first + to) ∷ []
items_of f first (instruction.Branch t x y to) = branch t (source_of f x) (source_of f y) (first + to)
items_of f first (instruction.Call g) = item.Call g ∷ []
items_of f first instruction.PutByte = put_byte f
items_of f first instruction.GetByte = get_byte f
items_of f first instruction.Exit = exit
items_of f first instruction.Return = leave f

-- ---- instructions that need no code

-- a register into itself
abbrev pub is_same : Target → Operand → Bool
is_same (target.Temporary k) (operand.Temporary j) = if nat_lt k 8 then j == k else false
is_same (target.Temporary k) (operand.Cell c) = false
is_same (target.Temporary k) (operand.Constant v) = false
is_same (target.Temporary k) (operand.Argument j) = false
is_same (target.Cell c) x = false

abbrev pub shortened_move : Target → Operand → Instruction
shortened_move d x = if is_same d x then instruction.Nothing else instruction.Move d x

abbrev pub is_nothing : Instruction → Bool
is_nothing instruction.Nothing = true
is_nothing (instruction.Move d x) = is_same d x
is_nothing (instruction.Compute o d x y) = false
is_nothing (instruction.Convert c d x) = false
is_nothing (instruction.Load w d l) = false
is_nothing (instruction.Store w x l) = false
is_nothing (instruction.Address d l) = false
is_nothing (instruction.Element d x y size) = false
is_nothing (instruction.Jump to) = false
is_nothing (instruction.Branch t x y to) = false
is_nothing (instruction.Call g) = false
is_nothing instruction.PutByte = false
is_nothing instruction.GetByte = false
is_nothing instruction.Exit = false
is_nothing instruction.Return = false

abbrev pub is_nothing_if : Option Instruction → Bool
is_nothing_if None = false
is_nothing_if (Some x) = is_nothing x

-- so many instructions from number k on need no code
abbrev pub are_nothing : List Instruction → ℕ → ℕ → Bool
are_nothing code k zero = true
are_nothing code k (suc n) = is_nothing_if (slice_get code k) && are_nothing code (k + 1) n

-- from instruction number k forward, over none that needs code
abbrev pub skips_nothing : List Instruction → ℕ → ℕ → Bool
skips_nothing code k to = nat_lt k to && are_nothing code (k + 1) (to - (k + 1))

abbrev pub shortened_jump : List Instruction → ℕ → ℕ → Instruction
shortened_jump code k to = if skips_nothing code k to then instruction.Nothing else instruction.Jump to

-- instruction number k of a function's code, or Nothing where it only goes on to the next one that needs code
abbrev pub shortened : List Instruction → ℕ → Instruction → Instruction
shortened code k instruction.Nothing = instruction.Nothing
shortened code k (instruction.Move d x) = shortened_move d x
shortened code k (instruction.Compute o d x y) = instruction.Compute o d x y
shortened code k (instruction.Convert c d x) = instruction.Convert c d x
shortened code k (instruction.Load w d l) = instruction.Load w d l
shortened code k (instruction.Store w x l) = instruction.Store w x l
shortened code k (instruction.Address d l) = instruction.Address d l
shortened code k (instruction.Element d x y size) = instruction.Element d x y size
shortened code k (instruction.Jump to) = shortened_jump code k to
shortened code k (instruction.Branch t x y to) = instruction.Branch t x y to
shortened code k (instruction.Call g) = instruction.Call g
shortened code k instruction.PutByte = instruction.PutByte
shortened code k instruction.GetByte = instruction.GetByte
shortened code k instruction.Exit = instruction.Exit
shortened code k instruction.Return = instruction.Return
