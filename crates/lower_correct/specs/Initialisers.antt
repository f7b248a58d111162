-- The code of initialisers of arrays (ISO/IEC 9899:2011 6.7.9): each element is written in a tick of its own, so that elements that
-- become zero, and characters, are written by loops. Elements are counted in memory order, across all rows of the array.
--
-- Nothing is evaluated meanwhile: temporary 0 counts, temporary 1 is the reference of the first element, 2 that of the literal.
use Rattle.std.specs.Prelude.{◌≡◌, ℕ, zero, suc, ◌+◌, ◌*◌, min, nat_lt, Bool, true, false, ◌||◌, List, length, slice_get}
use Rattle.ctypes.specs.declared.types.IntType.{IntType}
use Rattle.ctypes.specs.declared.types.IntType.TheVariants as ty
use Rattle.typing_spec.specs.Types.{elements_in}
use Rattle.typing_spec.specs.Program as typed
use Rattle.typing_spec.specs.Program.{Place, Value, Initialiser, Initialisers}
use Rattle.csem.specs.Statements.{first_length, inner_lengths, text_or_none}
use Rattle.tac_code.specs.declared.code.Operand.TheVariants as operand
use Rattle.tac_code.specs.declared.code.Target.TheVariants as target
use Rattle.tac_code.specs.declared.code.Place.TheVariants as place
use Rattle.tac_code.specs.declared.code.Reading.TheVariants as reading
use Rattle.tac_code.specs.declared.code.Operation.TheVariants as operation
use Rattle.tac_code.specs.declared.code.Comparison.TheVariants as comparison
use Rattle.tac_code.specs.declared.code.Instruction.{Instruction}
use Rattle.tac_code.specs.declared.code.Instruction.TheVariants as instruction
use Rattle.lower_correct.specs.Values.{keeps, operand_of, Nowhere, mode_of}
use Rattle.lower_correct.specs.Places.{cuts}
use Rattle.lower_correct.specs.Code.{zero_word, One, Puts, Into}

module _ (code : List Instruction) where
  -- ---- loops: a turn for each element

  -- the count goes on, and back to `top` while it is less than c
  abbrev pub GoesOn : (c top : ℕ) → ℕ → ℕ → Type 0
  GoesOn c top pc pc2 =
      (p1 : ℕ)
      × One code (instruction.Compute operation.Add reading.Unsigned (target.Temporary 0) (operand.Temporary 0) (operand.Constant 1)) pc p1
      × One code (instruction.Branch comparison.Less reading.Unsigned (operand.Temporary 0) (operand.Constant c) top) p1 pc2

  -- the elements from the count up to c become zero (6.7.9p10, p21)
  abbrev pub ClearsTo : IntType → (c : ℕ) → ℕ → ℕ → Type 0
  ClearsTo t c top pc2 =
      (p1 p2 : ℕ) × One code (instruction.Element t (target.Temporary 2) (operand.Temporary 1) (operand.Temporary 0)) top p1
      × One code (instruction.Store t zero_word (place.At (operand.Temporary 2))) p1 p2 × GoesOn c top p2 pc2

  -- those up to c become the characters of the literal (6.7.9p14); a store takes the low byte, which is the conversion
  abbrev pub CopiesTo : IntType → (c : ℕ) → ℕ → ℕ → Type 0
  CopiesTo t c top pc2 =
      (p1 p2 p3 p4 : ℕ) × One code (instruction.Element ty.Char (target.Temporary 3) (operand.Temporary 2) (operand.Temporary 0)) top p1
      × One code (instruction.Load ty.Char (target.Temporary 3) (place.At (operand.Temporary 3))) p1 p2
      × One code (instruction.Element t (target.Temporary 4) (operand.Temporary 1) (operand.Temporary 0)) p2 p3
      × One code (instruction.Store t (operand.Temporary 3) (place.At (operand.Temporary 4))) p3 p4 × GoesOn c top p4 pc2

  -- ---- stretches of elements

  -- c elements of array n from number i on become zero
  abbrev pub Clears : IntType → (n i c : ℕ) → ℕ → ℕ → Type 0
  Clears t n i zero pc pc2 = pc ≡ pc2
  Clears t n i (suc zero) pc pc2 = One code (instruction.Store t zero_word (place.Element n i t)) pc pc2
  Clears t n i (suc (suc c)) pc pc2 =
      (p1 top : ℕ) × One code (instruction.Move (target.Temporary 0) zero_word) pc p1
      × One code (instruction.Address (target.Temporary 1) (place.Element n i t)) p1 top × ClearsTo t (suc (suc c)) top pc2

  -- the first c elements become characters of the literal
  abbrev pub CopiesFirst : IntType → (c : ℕ) → ℕ → ℕ → Type 0
  CopiesFirst t zero pc pc2 = pc ≡ pc2
  CopiesFirst t (suc c) pc pc2 = CopiesTo t (suc c) pc pc2

  -- those past the characters become zero (6.7.9p21)
  abbrev pub ClearsRest : Bool → IntType → (count : ℕ) → ℕ → ℕ → Type 0
  ClearsRest true t count pc pc2 = ClearsTo t count pc pc2
  ClearsRest false t count pc pc2 = pc ≡ pc2

  -- `count` elements become literal m, which has `characters` characters with its zero
  abbrev pub Copies : IntType → (n i m count characters : ℕ) → ℕ → ℕ → Type 0
  Copies t n i m count characters pc pc2 =
      (p1 p2 p3 top rest : ℕ) × One code instruction.Nothing pc p1 × One code (instruction.Move (target.Temporary 0) zero_word) p1 p2
      × One code (instruction.Address (target.Temporary 1) (place.Element n i t)) p2 p3
      × One code (instruction.Address (target.Temporary 2) (place.Literal m)) p3 top
      × CopiesFirst t (min count characters) top rest × ClearsRest (nat_lt characters count) t count rest pc2

  -- ---- initialisers. `texts` are the program's literals, `size` has the bytes of each element and row
  module _ (texts : List (List ℕ)) (size : Place → ℕ) where
    -- one value, converted (6.7.9p11)
    abbrev pub Sets : IntType → Value → (n i : ℕ) → ℕ → ℕ → Type 0
    Sets u e n i pc pc2 =
        (p1 : ℕ) × Into code size e (mode_of (operand_of e 0 0)) 0 0 pc p1
        × Puts code (cuts u Nowhere || keeps u e) u (operand_of e 0 0) (place.Element n i u) Nowhere 0 p1 pc2

    abbrev mutual
      -- an initialiser that begins at element i of array n, whose elements have type t, and has these lengths
      pub Fills : Initialiser → IntType → List ℕ → (n i : ℕ) → ℕ → ℕ → Type 0
      Fills (typed.one_value u e) t lengths n i pc pc2 = Sets u e n i pc pc2
      Fills (typed.text m) t lengths n i pc pc2 = Copies t n i m (first_length lengths) (length (text_or_none (slice_get texts m))) pc pc2
      Fills (typed.in_braces x) t lengths n i pc pc2 = (p1 : ℕ) × One code instruction.Nothing pc p1 × Fills x t lengths n i p1 pc2
      Fills (typed.list all) t lengths n i pc pc2 =
          (p1 : ℕ) × One code instruction.Nothing pc p1 × FillAll all t (first_length lengths) (inner_lengths lengths) n i p1 pc2

      -- k elements or rows of these lengths, the first of which begins at element i (6.7.9p17). Initialisers past the last element have no
      -- code: a typed program has none such
      pub FillAll : Initialisers → IntType → (k : ℕ) → List ℕ → (n i : ℕ) → ℕ → ℕ → Type 0
      FillAll typed.no_initialisers t k lengths n i pc pc2 = Clears t n i (k * elements_in lengths) pc pc2
      FillAll (typed.and_initialiser x more) t zero lengths n i pc pc2 = pc ≡ pc2
      FillAll (typed.and_initialiser x more) t (suc k) lengths n i pc pc2 =
          (p1 : ℕ) × Fills x t lengths n i pc p1 × FillAll more t k lengths n (i + elements_in lengths) p1 pc2
