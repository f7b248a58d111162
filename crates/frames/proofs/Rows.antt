-- Data, computed; and a program as three-address code and as flat code, whose runs end alike.
use Rattle.std.proofs.Common.{◌≡◌, List, [], ◌∷◌, pos, negsuc, refl, true, false}
use Rattle.std.specs.Prelude.{nat_le, Bool, ◌&&◌}
use Rattle.ctypes.specs.declared.types.IntType.TheVariants as ty
use Rattle.rv32.specs.declared.instr.RegisterOp.TheVariants as op
use Rattle.frames_code.specs.declared.code.Operand.{Operand}
use Rattle.frames_code.specs.declared.code.Operand.TheVariants.{Temporary as temporary, Cell as cell, Constant as constant}
use Rattle.frames_code.specs.declared.code.Target.{Target}
use Rattle.frames_code.specs.declared.code.Target.TheVariants.{Temporary as to_temporary, Cell as to_cell}
use Rattle.frames_code.specs.declared.code.Width.TheVariants.{Byte as byte, SignedHalf as signed_half, Word as word}
use Rattle.frames_code.specs.declared.code.Location.TheVariants.{Statics as in_statics, Frame as in_frame, At as at}
use Rattle.frames_code.specs.declared.code.Operation.TheVariants.{Machine as machine}
use Rattle.frames_code.specs.declared.code.Conversion.TheVariants.{ToSignedByte as to_signed_byte}
use Rattle.frames_code.specs.declared.code.Instruction.{Instruction}
use Rattle.frames_code.specs.declared.code.Instruction.TheVariants.{Nothing as nothing, Move as move, Compute as compute, Convert as convert, Load as load, Store as store, Address as address, Element as element, Call as call, Return as return}
use Rattle.frames_code.specs.Code as flat
use Rattle.frames_code.specs.Run as flat_run
use Rattle.tac_code.specs.Code as tac
use Rattle.tac_code.specs.Run as tac_run
use Rattle.tac_code.specs.Costs as tac_costs
use Rattle.tac_code.proofs.Rows.{arrays_code}
use Rattle.frames.specs.Data.{bytes_of_static, bytes_of_literals, data_of}
use Rattle.frames.specs.Translated.{flat_program}
use Rattle.frames.specs.Costs as flat_costs

-- ---- data

-- static short s[3] = { 1, -2 };
halves : bytes_of_static (record { type = record { element = ty.Short; constant = false; lengths = 3 ∷ [] }; defined = true; values = pos 1 ∷ negsuc 1 ∷ [] }) ≡ 1 ∷ 0 ∷ 254 ∷ 255 ∷ 0 ∷ 0 ∷ 0 ∷ 0 ∷ []
halves = refl

-- static int x = 0x01020304;
lowest_byte_first : bytes_of_static (record { type = record { element = ty.Int; constant = false; lengths = [] }; defined = true; values = pos 0x01020304 ∷ [] }) ≡ 4 ∷ 3 ∷ 2 ∷ 1 ∷ []
lowest_byte_first = refl

-- static _Bool b[5] = { 1 };
truths : bytes_of_static (record { type = record { element = ty.Bool; constant = false; lengths = 5 ∷ [] }; defined = true; values = pos 1 ∷ [] }) ≡ 1 ∷ 0 ∷ 0 ∷ 0 ∷ 0 ∷ 0 ∷ 0 ∷ 0 ∷ []
truths = refl

-- extern int x;
only_declared : bytes_of_static (record { type = record { element = ty.Int; constant = false; lengths = [] }; defined = false; values = [] }) ≡ []
only_declared = refl

-- "hi", "abc"
texts : bytes_of_literals ((104 ∷ 105 ∷ 0 ∷ []) ∷ (97 ∷ 98 ∷ 99 ∷ 0 ∷ []) ∷ []) ≡ 104 ∷ 105 ∷ 0 ∷ 0 ∷ 97 ∷ 98 ∷ 99 ∷ 0 ∷ []
texts = refl

-- ---- static short s[3] = { 1, -2 };  int g(int a[], int i) { return a[i]; }
-- int main(void) { int a[2]; signed char c; a[1] = s[1]; c = 200; return g(a, 1) + c + 100 + "hi"[1]; }

abbrev t0 : Operand
t0 = temporary 0

abbrev t1 : Operand
t1 = temporary 1

abbrev to_t0 : Target
to_t0 = to_temporary 0

abbrev to_t1 : Target
to_t1 = to_temporary 1

abbrev add : Operand → Operand → Instruction
add x y = compute (machine op.Add) to_t0 x y

abbrev arrays_flat : flat.Program
arrays_flat = record {
  functions =
      record {
        cells = 1;
        resident = 1;
        area = 8;
        outgoing = 0;
        gives = true;
        code = (
            nothing ∷ address to_t0 (in_frame 0) ∷ element to_t0 t0 (constant 1) 4 ∷
            address to_t1 (in_statics 20) ∷ element to_t1 t1 (constant 1) 2 ∷ load signed_half to_t1 (at t1) ∷ store word t1 (at t0) ∷
            convert to_signed_byte (to_cell 0) (constant 200) ∷
            address to_t0 (in_frame 0) ∷ move to_t1 (constant 1) ∷ call 1 ∷
            add t0 (cell 0) ∷ add t0 (constant 100) ∷
            address to_t1 (in_statics 16) ∷ element to_t1 t1 (constant 1) 1 ∷ load byte to_t1 (at t1) ∷ add t0 t1 ∷ return ∷ []);
      } ∷
      record {
        cells = 2;
        resident = 2;
        area = 0;
        outgoing = 0;
        gives = true;
        code = (
            move (to_cell 1) t0 ∷ move (to_cell 0) t1 ∷ element to_t0 (cell 1) (cell 0) 4 ∷ load word to_t0 (at t0) ∷ return ∷ []);
      } ∷ [];
  statics = data_of arrays_code;
  main = 0;
}

-- it is the translation of the first one
is_its_code : flat_program arrays_code ≡ arrays_flat
is_its_code = refl

ends_alike : flat_run.run arrays_flat 23 (flat_run.start arrays_flat []) ≡ flat_run.ended 147 [] []
unfolding flat_run.step
ends_alike = refl

costs_no_more : nat_le (flat_costs.spent_in_all arrays_flat 23 (flat_run.start arrays_flat [])) (tac_costs.spent_in_all arrays_code 21 (tac_run.start arrays_code [])) ≡ true
unfolding flat_run.step tac_run.step
costs_no_more = refl

abbrev all_fit : List tac.Function → List flat.Function → Bool
all_fit [] [] = true
all_fit [] (h ∷ hs) = false
all_fit (g ∷ gs) [] = false
all_fit (g ∷ gs) (h ∷ hs) =
    nat_le (flat.frame_bytes h) (tac_costs.call_bytes g) && (nat_le (flat_costs.function_bytes h) (tac_costs.function_bytes g) && all_fit gs hs)

within_bounds : all_fit arrays_code.functions arrays_flat.functions ≡ true
within_bounds = refl
