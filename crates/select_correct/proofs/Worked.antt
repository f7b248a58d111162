-- Rows: the table of costs on worked examples. Items but a branch in its long form have no way round, so a run takes a quarter of their bytes.
use Rattle.std.proofs.Common.{◌≡◌, ℕ, ◌+◌, ◌*◌, true, false, [], ◌∷◌, refl}
use Rattle.std.specs.Int.Count.{count_trailing_zeros}
use Rattle.rv32.specs.declared.instr.RegisterOp.TheVariants as register_op
use Rattle.rv32.specs.declared.instr.Test.TheVariants as test
use Rattle.asm.specs.Layout.{longest}
use Rattle.frames_code.specs.declared.code.Operand.TheVariants as operand
use Rattle.frames_code.specs.declared.code.Target.TheVariants as target
use Rattle.frames_code.specs.declared.code.Base.TheVariants as base
use Rattle.frames_code.specs.declared.code.Location.TheVariants as location
use Rattle.frames_code.specs.declared.code.Width.TheVariants as width
use Rattle.frames_code.specs.declared.code.Operation.TheVariants as operation
use Rattle.frames_code.specs.declared.code.Conversion.TheVariants as conversion
use Rattle.frames_code.specs.declared.code.Instruction.{Instruction}
use Rattle.frames_code.specs.declared.code.Instruction.TheVariants as instruction
use Rattle.frames_code.specs.Code.{Function, Program}
use Rattle.select.specs.Program.{shorten_calls}
use Rattle.select.specs.Selected.{entry, items_of}
use Rattle.select_correct.specs.Costs.{opening_cost, row, step_cost, most_at, most_start}

-- three resident words, and calls
abbrev near : Function
near = record { code = instruction.Call 1 ∷ instruction.Return ∷ []; cells = 5; resident = 3; area = 16; outgoing = 2; gives = true }

-- none
abbrev plain : Function
plain = record { code = instruction.Call 0 ∷ instruction.Return ∷ []; cells = 0; resident = 0; area = 0; outgoing = 0; gives = true }

-- words on both sides of the reach of 12 bits
abbrev wide : Function
wide = record { code = instruction.Call 0 ∷ instruction.Return ∷ []; cells = 700; resident = 2; area = 16; outgoing = 600; gives = true }

abbrev program : Program
program = record { functions = plain ∷ near ∷ wide ∷ []; statics = []; main = 0 }

abbrev items : Function → Instruction → ℕ
items f x = longest (items_of f 0 x)

-- ---- near places

element_by_a_shift : row near (instruction.Element (target.Temporary 0) (operand.Temporary 1) (operand.Cell 2) 256) ≡ 2
unfolding count_trailing_zeros
element_by_a_shift = refl

-- 2^31 bytes, the largest size by a shift
element_by_the_longest_shift : row near (instruction.Element (target.Temporary 0) (operand.Temporary 1) (operand.Cell 2) 0x80000000) ≡ 2
unfolding count_trailing_zeros
element_by_the_longest_shift = refl

-- by sizes of 12 bits, of more with zeros below, and of more
element_by_a_product : row near (instruction.Element (target.Cell 4) (operand.Cell 3) (operand.Cell 4) 12) ≡ 6
unfolding count_trailing_zeros
element_by_a_product = refl

element_of_pages : row near (instruction.Element (target.Cell 4) (operand.Cell 3) (operand.Cell 4) 0x3000) ≡ 6
unfolding count_trailing_zeros
element_of_pages = refl

element_by_a_long_product : row near (instruction.Element (target.Cell 4) (operand.Cell 3) (operand.Cell 4) 5000) ≡ 7
unfolding count_trailing_zeros
element_by_a_long_product = refl

-- by a constant: none, of 12 bits, and past them
no_element : row near (instruction.Element (target.Temporary 0) (operand.Temporary 1) (operand.Constant 0) 12) ≡ 1
no_element = refl

third_element : row near (instruction.Element (target.Temporary 0) (operand.Temporary 1) (operand.Constant 3) 4) ≡ 1
third_element = refl

far_element : row near (instruction.Element (target.Temporary 0) (operand.Temporary 1) (operand.Constant 300) 12) ≡ 3
far_element = refl

element_attained : items near (instruction.Element (target.Cell 4) (operand.Cell 3) (operand.Cell 4) 12) ≡ 4 * 6
unfolding count_trailing_zeros
element_attained = refl

sum_of_registers : row near (instruction.Compute (operation.Machine register_op.Add) (target.Cell 0) (operand.Cell 1) (operand.Temporary 7)) ≡ 1
sum_of_registers = refl

sum_with_a_constant : row near (instruction.Compute (operation.Machine register_op.Add) (target.Cell 0) (operand.Cell 1) (operand.Constant 2047)) ≡ 1
sum_with_a_constant = refl

product_with_a_constant : row near (instruction.Compute (operation.Machine register_op.Mul) (target.Cell 0) (operand.Cell 1) (operand.Constant 4000)) ≡ 3
product_with_a_constant = refl

product_with_pages : row near (instruction.Compute (operation.Machine register_op.Mul) (target.Cell 0) (operand.Cell 1) (operand.Constant 0x3000)) ≡ 2
product_with_pages = refl

constant_with_zeros_below : row near (instruction.Move (target.Temporary 0) (operand.Constant 0x12345000)) ≡ 1
constant_with_zeros_below = refl

constant_of_words : row near (instruction.Move (target.Temporary 0) (operand.Constant 0x12345001)) ≡ 2
constant_of_words = refl

equality_of_words : row near (instruction.Compute operation.Equal (target.Cell 4) (operand.Cell 3) (operand.Cell 4)) ≡ 5
equality_of_words = refl

equality_attained : items near (instruction.Compute operation.Equal (target.Cell 4) (operand.Cell 3) (operand.Cell 4)) ≡ 4 * 5
equality_attained = refl

byte_of_a_word : row near (instruction.Convert conversion.ToByte (target.Cell 0) (operand.Cell 0)) ≡ 1
byte_of_a_word = refl

load_by_a_register : row near (instruction.Load width.Word (target.Cell 0) (location.At (operand.Cell 1))) ≡ 1
load_by_a_register = refl

store_in_the_first_statics : row near (instruction.Store width.Word (operand.Cell 0) (location.Statics 4095)) ≡ 1
store_in_the_first_statics = refl

store_in_further_statics : row near (instruction.Store width.Word (operand.Cell 0) (location.Statics 4096)) ≡ 3
store_in_further_statics = refl

address_of_the_first_statics : row near (instruction.Address (target.Cell 0) (location.Statics 0)) ≡ 1
address_of_the_first_statics = refl

address_of_further_statics : items near (instruction.Address (target.Cell 0) (location.Statics 4096)) ≡ 4 * 2
address_of_further_statics = refl

store_in_the_frame : row near (instruction.Store width.Byte (operand.Constant 7) (location.Frame 3)) ≡ 2
store_in_the_frame = refl

-- by an index: a sum and the access, a shift where the size is not 1, and one each for an index and for a target in the frame
byte_by_an_index : row near (instruction.Store width.Byte (operand.Cell 0) (location.Indexed (base.Statics 4095) (operand.Cell 1) 1)) ≡ 2
byte_by_an_index = refl

half_by_an_index : row near (instruction.Load width.Half (target.Cell 0) (location.Indexed (base.Frame 4) (operand.Cell 1) 2)) ≡ 3
unfolding count_trailing_zeros
half_by_an_index = refl

word_by_an_index_in_the_frame : row near (instruction.Load width.Word (target.Cell 4) (location.Indexed (base.Frame 4) (operand.Cell 3) 4)) ≡ 5
unfolding count_trailing_zeros
word_by_an_index_in_the_frame = refl

load_by_an_index_attained : items near (instruction.Load width.Word (target.Cell 4) (location.Indexed (base.Frame 4) (operand.Cell 3) 4)) ≡ 4 * 5
unfolding count_trailing_zeros
load_by_an_index_attained = refl

address_by_an_index : row near (instruction.Address (target.Cell 4) (location.Indexed (base.Statics 8) (operand.Cell 3) 4)) ≡ 5
unfolding count_trailing_zeros
address_by_an_index = refl

address_by_an_index_attained : items near (instruction.Address (target.Cell 4) (location.Indexed (base.Statics 8) (operand.Cell 3) 4)) ≡ 4 * 5
unfolding count_trailing_zeros
address_by_an_index_attained = refl

-- ---- calls: 3 and the residents, and returns: 3 and the residents

call_with_three : step_cost program plain (instruction.Call 1) ≡ 6
call_with_three = refl

call_attained : longest (shorten_calls true (items_of plain 0 (instruction.Call 1))) + longest (entry near) ≡ 4 * 6
call_attained = refl

-- where a program is too long for near calls, one more
far_call_attained : longest (shorten_calls false (items_of plain 0 (instruction.Call 1))) + longest (entry near) ≡ 4 * (6 + 1)
far_call_attained = refl

return_with_three : row near instruction.Return ≡ 6
return_with_three = refl

return_attained : items near instruction.Return ≡ 4 * 6
return_attained = refl

call_with_none : step_cost program near (instruction.Call 0) ≡ 3
call_with_none = refl

return_with_none : row plain instruction.Return ≡ 3
return_with_none = refl

starts_with_none : most_start program ≡ 8
starts_with_none = refl

-- one less where the function calls none
abbrev leaf : Function
leaf = record { code = instruction.Return ∷ []; cells = 1; resident = 1; area = 0; outgoing = 0; gives = true }

leaf_opens : opening_cost leaf ≡ 2
leaf_opens = refl

leaf_entry_attained : longest (entry leaf) ≡ 4 * 2
leaf_entry_attained = refl

leaf_returns : row leaf instruction.Return ≡ 3
leaf_returns = refl

leaf_return_attained : items leaf instruction.Return ≡ 4 * 3
leaf_return_attained = refl

-- one less where a frame of more than 12 bits is of whole pages, and where the place of an array is
abbrev paged : Function
paged = record { code = instruction.Return ∷ []; cells = 0; resident = 0; area = 8176; outgoing = 0; gives = true }

paged_opens : opening_cost paged ≡ 2
paged_opens = refl

paged_entry_attained : longest (entry paged) ≡ 4 * 2
paged_entry_attained = refl

paged_returns : row paged instruction.Return ≡ 3
paged_returns = refl

address_of_a_page : row paged (instruction.Address (target.Temporary 0) (location.Frame 4092)) ≡ 2
address_of_a_page = refl

address_attained : items paged (instruction.Address (target.Temporary 0) (location.Frame 4092)) ≡ 4 * 2
address_attained = refl

address_past_a_page : row paged (instruction.Address (target.Temporary 0) (location.Frame 4096)) ≡ 3
address_past_a_page = refl

-- ---- two more for each operand that is far

far_target : row wide (instruction.Move (target.Temporary 600) (operand.Temporary 0)) ≡ row wide (instruction.Move (target.Temporary 8) (operand.Temporary 0)) + 2
far_target = refl

far_operands : row wide (instruction.Branch test.Less (operand.Cell 5) (operand.Cell 6) 0) ≡ 2 + (1 + 2) + (1 + 2)
far_operands = refl

-- both residents, the address to return to, and the frame
far_entry : opening_cost wide ≡ 2 + 2 + 4 * 2
far_entry = refl

far_return : row wide instruction.Return ≡ 3 + 2 + 4 * 2
far_return = refl

-- ---- instructions that only go on to the next one

jump_to_the_next : most_at program near 4 (instruction.Jump 5) ≡ 0
jump_to_the_next = refl

abbrev gapped : Function
gapped = record {
  code = instruction.Jump 3 ∷ instruction.Nothing ∷ instruction.Move (target.Temporary 3) (operand.Temporary 3) ∷ instruction.Jump 1 ∷ instruction.Return ∷ [];
  cells = 0;
  resident = 0;
  area = 0;
  outgoing = 0;
  gives = true;
}

jump_over_none : most_at program gapped 0 (instruction.Jump 3) ≡ 0
jump_over_none = refl

jump_over_a_jump : most_at program gapped 0 (instruction.Jump 4) ≡ 1
jump_over_a_jump = refl

jump_back_over_none : most_at program gapped 3 (instruction.Jump 1) ≡ 1
jump_back_over_none = refl

jump_elsewhere : most_at program near 4 (instruction.Jump 6) ≡ 1
jump_elsewhere = refl

move_to_itself : most_at program near 4 (instruction.Move (target.Temporary 3) (operand.Temporary 3)) ≡ 0
move_to_itself = refl
