-- The code of the first values of arrays keeps within its nodes' room, and is fine: a text's takes all that its node has.
use Rattle.std.proofs.Common.{◌≡◌, ℕ, zero, suc, ◌+◌, ◌*◌, ◌<◌, ◌≤◌, ◌^◌, min, max, List, [], ◌∷◌, length, Option, Some, None, Bool, true, false, ◌&&◌, ◌||◌, refl, sym, ap, subst, arith}
use Rattle.std.specs.Prelude.{nat_le, nat_lt, nat_eq, slice_get}
use Rattle.std.proofs.Math.Nat.{max-le}
use Rattle.std.proofs.lemmas.Option.{slice_get_within}
use Rattle.ctypes.specs.declared.types.IntType.{IntType}
use Rattle.ctypes.specs.declared.types.IntType.TheVariants as ty
use Rattle.ctypes.specs.Types.{bytes_of}
use Rattle.typing_spec.specs.Types.{ObjectType, same_type, elements_in}
use Rattle.typing_spec.specs.Program as typed
use Rattle.typing_spec.specs.Program.{Value, Initialiser, Initialisers}
use Rattle.typing_spec.specs.Nodes.{type_of_value, value_nodes, initialiser_nodes, initialisers_nodes}
use Rattle.typing_spec.specs.Initialisers.{is_character}
use Rattle.typing_spec.specs.WellTyped.{some_number, value_is_typed, text_fits, initialisers_in, initialiser_is_typed, initialisers_are_typed, definition_is_typed}
use Rattle.csem.specs.Statements.{text_or_none}
use Rattle.tac_code.specs.Designated.{in_initialiser, in_initialisers}
use Rattle.tac_code.specs.Spans.{widest_initial, widest_initials}
use Rattle.tac_code.specs.declared.code.Operand.{Operand}
use Rattle.tac_code.specs.declared.code.Operand.TheVariants as operand
use Rattle.tac_code.specs.declared.code.Target.TheVariants as target
use Rattle.tac_code.specs.declared.code.Place.TheVariants as place
use Rattle.tac_code.specs.declared.code.Instruction.TheVariants as instruction
use Rattle.tac_code.specs.Code.{scalar_type, type_if_scalar}
use Rattle.tac_code.specs.Costs.{fetch_bytes, scale_bytes}
use Rattle.lower_wf.proofs.Same.{type_is}
use Rattle.lower_correct.specs.Values.{keeps, writes_none, operand_of, Nowhere, mode_of}
use Rattle.lower_correct.specs.Places.{cuts}
use Rattle.lower_correct.specs.Code.{Puts}
use Rattle.lower_correct.specs.Initialisers.{GoesOn, ClearsTo, CopiesTo, CopiesFirst, Clears, ClearsRest, Copies, Sets, Fills, FillAll}
use Rattle.lower_correct.specs.Bodies.{InitialisesObject, Initialises}
use Rattle.lower_correct.proofs.Words.{left_true, right_true, differ}
use Rattle.lower_bounds.specs.inside.Rooms.{room_of}
use Rattle.lower_bounds.proofs.Numbers.{some_inside}
use Rattle.lower_bounds.proofs.Grounds.{Ground, sizes, HasNumber, OperandFine}
use Rattle.lower_bounds.proofs.Bytes.{fetch_le}
use Rattle.lower_bounds.proofs.Stretches.{Within, one, one_fine, none, join, settle, aimed}
use Rattle.lower_bounds.proofs.Operands.{operand_fine, mode_lands, mode_aims, waits, rests_fine}
use Rattle.lower_bounds.proofs.Expressions.{free}
use Rattle.lower_bounds.proofs.Parts.{on, le_holds, left_wide, right_wide, whole, effect_within, nothing, word_within}

-- ---- positions

four_on : (a b c d e : ℕ) → a + 1 ≡ b → b + 1 ≡ c → c + 1 ≡ d → d + 1 ≡ e → a ≤ e
four_on a b c d e h1 h2 h3 h4 = omega (arith, h1, h2, h3, h4)

two_on : (a b c : ℕ) → a + 1 ≡ b → b + 1 ≡ c → a ≤ c
two_on a b c h1 h2 = omega (arith, h1, h2)

-- ---- room

zero_small : 0 < 2 ^ 32
zero_small = omega arith

one_small : 1 < 2 ^ 32
one_small = omega arith

-- the nearest element: no shift where it has one byte
element_room : (t : IntType) → room_of (instruction.Element t (target.Temporary 2) (operand.Temporary 1) (operand.Temporary 0)) + 120 ≤ 128
element_room ty.Bool = omega arith
element_room ty.Char = omega arith
element_room ty.SChar = omega arith
element_room ty.UChar = omega arith
element_room ty.Short = omega arith
element_room ty.UShort = omega arith
element_room ty.Int = omega arith
element_room ty.UInt = omega arith
element_room ty.Long = omega arith
element_room ty.ULong = omega arith

one_byte : (t : IntType) → is_character t ≡ true → bytes_of t ≡ 1
one_byte ty.Bool h = absurd (differ h)
one_byte ty.Char h = refl
one_byte ty.SChar h = refl
one_byte ty.UChar h = refl
one_byte ty.Short h = absurd (differ h)
one_byte ty.UShort h = absurd (differ h)
one_byte ty.Int h = absurd (differ h)
one_byte ty.UInt h = absurd (differ h)
one_byte ty.Long h = absurd (differ h)
one_byte ty.ULong h = absurd (differ h)

near_room : (b : ℕ) → b ≡ 1 → max 4 (0 + (0 + (scale_bytes b + 0))) + 124 ≤ 128
near_room b e = subst (λ n. max 4 (0 + (0 + (scale_bytes n + 0))) + 124 ≤ 128) (sym e) (omega arith)

-- a conversion into a register
converted : (x : ℕ) → x ≤ 12 → x + (8 + 0) ≤ 20
converted x h = omega (arith, h)

convert_room : (u : IntType) (x : Operand) → room_of (instruction.Convert u (target.Temporary 0) x) ≤ 20
convert_room u x = max-le (let e : 4 ≤ 20 = omega arith in e) (converted (fetch_bytes x) (fetch_le x))

left_room : (r : ℕ) → r ≤ 20 → r + 108 ≤ 128
left_room r h = omega (arith, h)

clear_room : (s d : ℕ) → d + 44 ≤ s → 128 * (1 + (1 + 1)) + d ≤ 128 * 1 + (s + (116 + 96))
clear_room s d h = omega (arith, h)

put_room : (e : ℕ) → 128 * (e + 1) + 0 ≤ 128 * e + (32 + 96)
put_room e = omega arith

braces_room : (n : ℕ) → 128 * (1 + n) + 0 ≤ 128 * (n + 1) + (124 + 0)
braces_room n = omega arith

list_room : (n : ℕ) → 128 * (1 + (n + 1)) + 0 ≤ 128 * (n + 1) + (124 + 56)
list_room n = omega arith

part_room : (i n : ℕ) → 128 * (i + (n + 1)) + 56 ≤ 128 * (i + n + 1) + (0 + 56)
part_room i n = omega arith

filled_room : (n : ℕ) → 128 * n + 64 ≤ 128 * (n + 1) + 0
filled_room n = omega arith

-- ---- elements and rows

none_left : (n : ℕ) → n + 1 ≤ 0 → ⊥
none_left n h = omega (arith, h)

-- the first row, and the k rows after it
first_row : (i k e c : ℕ) → i + suc k * e ≤ c → i + e ≤ c
first_row i k e c h = let sum : suc k * e ≡ e + k * e = grind arith in omega (arith, h, sum)

next_rows : (i k e c : ℕ) → i + suc k * e ≤ c → i + e + k * e ≤ c
next_rows i k e c h = let sum : suc k * e ≡ e + k * e = grind arith in omega (arith, h, sum)

first_there : (i e c : ℕ) → i + e ≤ c → 0 < e → i < c
first_there i e c h s = omega (arith, h, s)

from_first : (c : ℕ) → 0 + c ≤ c
from_first c = omega arith

text_length : (n i c : ℕ) → i + n * 1 ≤ c → n ≤ c
text_length n i c h = omega (arith, h)

least_small : (n m : ℕ) → n < 2 ^ 32 → min n m < 2 ^ 32
least_small n m h = omega (arith, h)

small_part : (n c : ℕ) → n ≤ c → c < 2 ^ 32 → n < 2 ^ 32
small_part n c h s = omega (arith, h, s)

fewer_initials : (n k : ℕ) → n + 1 ≤ suc k → n ≤ k
fewer_initials n k h = omega (arith, h)

text_there : (t : IntType) (n : ℕ) (texts : List (List ℕ)) (m : ℕ) (o : Option (List ℕ)) → slice_get texts m ≡ o → text_fits t (n ∷ []) o ≡ true
    → (is_character t ≡ true) × (m < length texts)
text_there t n texts m None e h = absurd (differ h)
text_there t n texts m (Some text) e h = (left_true (is_character t) (nat_le (length text) (n + 1)) h, slice_get_within texts m text e)

module _ (z : Ground) where
  abbrev V : Value → Bool
  V e = value_is_typed z.source z.function e

  abbrev N : Value → Bool
  N e = some_number (type_of_value e)

  -- ---- loops, whose operands are registers

  low : (j : ℕ) → j < 8 → j < z.bound
  low j h = let r = z.registers in omega (arith, h, r)

  low0 : 0 < z.bound
  low0 = low 0 (omega arith)

  low1 : 1 < z.bound
  low1 = low 1 (omega arith)

  low2 : 2 < z.bound
  low2 = low 2 (omega arith)

  low3 : 3 < z.bound
  low3 = low 3 (omega arith)

  low4 : 4 < z.bound
  low4 = low 4 (omega arith)

  goes_on_within : {A : Type 0} (c top pc pc2 : ℕ) → c < 2 ^ 32 → (A → top ≤ z.limit) → GoesOn z.code c top pc pc2 → Within z A 1 96 pc pc2
  goes_on_within c top pc pc2 small aims i =
      settle z 1 96 (omega arith) (join z (one_fine z _ 112 pc i.0 i.1 (omega arith) (λ a. (low0, low0, one_small)))
      (one_fine z _ 112 i.0 pc2 i.2 (omega arith) (λ a. (low0, small, aims a))))

  clears_to_within : (t : IntType) (s d c top pc2 : ℕ)
      → room_of (instruction.Element t (target.Temporary 2) (operand.Temporary 1) (operand.Temporary 0)) + s ≤ 128 → d + 44 ≤ s → c < 2 ^ 32
      → ClearsTo z.code t c top pc2 → Within z (pc2 ≤ z.limit) 1 d top pc2
  clears_to_within t s d c top pc2 room left small i =
      let forward = four_on top i.0 i.1 i.4.0 pc2 i.2.next i.3.next i.4.1.next i.4.2.next in
      settle z 1 d (clear_room s d left) (join z (one_fine z _ s top i.0 i.2 room (λ a. (low2, low1, low0)))
      (join z (one_fine z _ 116 i.0 i.1 i.3 (omega arith) (λ a. (zero_small, low2)))
      (goes_on_within c top i.1 pc2 small (λ a. on top pc2 z.limit forward a) i.4)))

  copies_to_within : (t : IntType) (c top pc2 : ℕ) → is_character t ≡ true → c < 2 ^ 32 → CopiesTo z.code t c top pc2 → Within z (pc2 ≤ z.limit) 1 80 top pc2
  copies_to_within t c top pc2 character small i =
      let forward = on top i.3 pc2 (four_on top i.0 i.1 i.2 i.3 i.4.next i.5.next i.6.next i.7.next) (two_on i.3 i.8.0 pc2 i.8.1.next i.8.2.next) in
      settle z 1 80 (omega arith) (join z (one_fine z _ 124 top i.0 i.4 (omega arith) (λ a. (low3, low2, low0)))
      (join z (one_fine z _ 124 i.0 i.1 i.5 (omega arith) (λ a. (low3, low3)))
      (join z (one_fine z _ 124 i.1 i.2 i.6 (near_room (bytes_of t) (one_byte t character)) (λ a. (low4, low1, low0)))
      (join z (one_fine z _ 124 i.2 i.3 i.7 (omega arith) (λ a. (low3, low4)))
      (goes_on_within c top i.3 pc2 small (λ a. on top pc2 z.limit forward a) i.8)))))

  first_within : (t : IntType) (c top pc2 : ℕ) → is_character t ≡ true → c < 2 ^ 32 → CopiesFirst z.code t c top pc2 → Within z (pc2 ≤ z.limit) 1 80 top pc2
  first_within t zero top pc2 character small i = settle z 1 80 (omega arith) (none z top pc2 i)
  first_within t (suc c) top pc2 character small i = copies_to_within t (suc c) top pc2 character small i

  rest_within : (b : Bool) (t : IntType) (c pc pc2 : ℕ) → is_character t ≡ true → c < 2 ^ 32 → ClearsRest z.code b t c pc pc2
      → Within z (pc2 ≤ z.limit) 1 80 pc pc2
  rest_within true t c pc pc2 character small i = clears_to_within t 124 80 c pc pc2 (near_room (bytes_of t) (one_byte t character)) (omega arith) small i
  rest_within false t c pc pc2 character small i = settle z 1 80 (omega arith) (none z pc pc2 i)

  -- ---- an array, number n

  module _ (n : ℕ) (o : ObjectType) (at : slice_get z.function.objects n ≡ Some o) (array : scalar_type (Some o) ≡ None)
      (small : elements_in o.lengths < 2 ^ 32) where
    has : (i : ℕ) → i < elements_in o.lengths → HasNumber z n i o.element
    has i lt = (o, at, array, lt, refl)

    clears_within : (c i pc pc2 : ℕ) → i + c ≤ elements_in o.lengths → Clears z.code o.element n i c pc pc2 → Within z (pc2 ≤ z.limit) 1 56 pc pc2
    clears_within zero i pc pc2 le h = settle z 1 56 (omega arith) (none z pc pc2 h)
    clears_within (suc zero) i pc pc2 le h =
        settle z 1 56 (omega arith) (one z _ 100 pc pc2 h (omega arith) (λ a. (zero_small, has i (first_there i 1 (elements_in o.lengths) le (omega arith)))))
    clears_within (suc (suc c)) i pc pc2 le h =
        let loop = clears_to_within o.element 120 76 (suc (suc c)) h.1 pc2 (element_room o.element) (omega arith)
        (small_part (suc (suc c)) (elements_in o.lengths) (let e : suc (suc c) ≤ elements_in o.lengths = omega (arith, le) in e) small) h.4 in
        settle z 1 56 (omega arith) (join z (one_fine z _ 120 pc h.0 h.2 (omega arith) (λ a. (low0, zero_small)))
        (join z (one_fine z _ 116 h.0 h.1 h.3 (omega arith)
        (λ a. (low1, has i (first_there i (suc (suc c)) (elements_in o.lengths) le (omega arith))))) loop))

    copies_within : (i m count characters pc pc2 : ℕ) → is_character o.element ≡ true → i < elements_in o.lengths → m < length z.source.literals
        → count < 2 ^ 32 → Copies z.code o.element n i m count characters pc pc2 → Within z (pc2 ≤ z.limit) 1 0 pc pc2
    copies_within i m count characters pc pc2 character lt there few h =
        let last = rest_within (nat_lt characters count) o.element count h.4 pc2 character few h.10 in
        let loop = first_within o.element (min count characters) h.3 h.4 character (least_small count characters few) h.9 in
        settle z 1 0 (omega arith) (join z (nothing z pc h.0 h.5) (join z (one_fine z _ 120 h.0 h.1 h.6 (omega arith) (λ a. (low0, zero_small)))
        (join z (one_fine z _ 116 h.1 h.2 h.7 (omega arith) (λ a. (low1, has i lt)))
        (join z (one_fine z _ 120 h.2 h.3 h.8 (omega arith) (λ a. (low2, there)))
        (join z (aimed z (λ a. on h.4 pc2 z.limit last.forward a) loop) last)))))

    -- a value, converted by way of a register
    puts_within : {A : Type 0} (b : Bool) (u : IntType) (x : Operand) (i pc pc2 : ℕ) → OperandFine z x → HasNumber z n i u
        → Puts z.code b u x (place.Element n i u) Nowhere 0 pc pc2 → Within z A 1 96 pc pc2
    puts_within true u x i pc pc2 fx fi h = settle z 1 96 (omega arith) (join z (one z _ 100 pc h.0 h.1 (omega arith) (λ a. (fx, fi))) (none z h.0 pc2 h.2))
    puts_within false u x i pc pc2 fx fi h =
        let small = left_room (room_of (instruction.Convert u (target.Temporary 0) x)) (convert_room u x) in
        settle z 1 96 (omega arith) (join z (one_fine z _ 108 pc h.0 h.2 small (λ a. (low0, fx)))
        (join z (one_fine z _ 116 h.0 h.1 h.3 (omega arith) (λ a. (low0, fi))) (none z h.1 pc2 h.4)))

    sets_within : (u : IntType) (e : Value) (i pc pc2 : ℕ) → V e ≡ true → in_initialiser z.source (typed.one_value u e) ≡ true → value_nodes e + 1 ≤ z.slots
        → HasNumber z n i u → Sets z.code z.source.literals (sizes z) u e n i pc pc2 → Within z (pc2 ≤ z.limit) (value_nodes e) 0 pc pc2
    sets_within u e i pc pc2 h d w fi s =
        let x = operand_of e 0 0 in
        let stays = waits z e writes_none false 0 0 (rests_fine z e h) in
        let last = puts_within (cuts u Nowhere || keeps u e) u x i s.0 pc2 (operand_fine z x 0 0 (free z e 0 0 (whole z e w)) stays) fi s.2 in
        settle z (value_nodes e) 0 (put_room (value_nodes e)) (join z
        (aimed z (λ a. (on s.0 pc2 z.limit last.forward a, mode_aims z x)) (effect_within z e (mode_of x) pc s.0 h d w (mode_lands z x 0 0 stays) s.1)) last)

    mutual
      fills_within : (x : Initialiser) (lengths : List ℕ) (i pc pc2 : ℕ) → initialiser_is_typed z.source z.function o.element lengths x ≡ true
          → in_initialiser z.source x ≡ true → widest_initial x + 1 ≤ z.slots → i + elements_in lengths ≤ elements_in o.lengths → 0 < elements_in lengths
          → Fills z.code z.source.literals (sizes z) x o.element lengths n i pc pc2 → Within z (pc2 ≤ z.limit) (initialiser_nodes x) 0 pc pc2
      fills_within (typed.one_value u e) lengths i pc pc2 h d w le some s =
          let h2 = right_true (same_type o.element u) (nat_eq (length lengths) 0 && (V e && N e)) h in
          let he = left_true (V e) (N e) (right_true (nat_eq (length lengths) 0) (V e && N e) h2) in
          let same = type_is o.element u (left_true (same_type o.element u) (nat_eq (length lengths) 0 && (V e && N e)) h) in
          sets_within u e i pc pc2 he d w (subst (HasNumber z n i) same (has i (first_there i (elements_in lengths) (elements_in o.lengths) le some))) s
      fills_within (typed.text m) [] i pc pc2 h d w le some s = absurd (differ h)
      fills_within (typed.text m) (k ∷ []) i pc pc2 h d w le some s =
          let is = text_there o.element k z.source.literals m (slice_get z.source.literals m) refl h in
          copies_within i m k (length (text_or_none (slice_get z.source.literals m))) pc pc2 is.0
          (first_there i (elements_in (k ∷ [])) (elements_in o.lengths) le some) is.1
          (small_part k (elements_in o.lengths) (text_length k i (elements_in o.lengths) le) small) s
      fills_within (typed.text m) (k ∷ j ∷ lengths) i pc pc2 h d w le some s = absurd (differ h)
      fills_within (typed.in_braces x) lengths i pc pc2 h d w le some s =
          settle z (initialiser_nodes x + 1) 0 (braces_room (initialiser_nodes x)) (join z (nothing z pc s.0 s.1)
          (fills_within x lengths i s.0 pc2 h d w le some s.2))
      fills_within (typed.list all) [] i pc pc2 h d w le some s = absurd (differ h)
      fills_within (typed.list all) (k ∷ lengths) i pc pc2 h d w le some s =
          let few = nat_le (initialisers_in all) k in
          let rows = initialisers_are_typed z.source z.function o.element lengths all in
          settle z (initialisers_nodes all + 1) 0 (list_room (initialisers_nodes all)) (join z (nothing z pc s.0 s.1)
          (fill_all_within all k lengths i s.0 pc2 (right_true few rows h) d w (le_holds (initialisers_in all) k (left_true few rows h)) le
          (some_inside k (elements_in lengths) some) s.2))

      -- k elements or rows of these lengths, no fewer than there are first values
      fill_all_within : (all : Initialisers) (k : ℕ) (lengths : List ℕ) (i pc pc2 : ℕ) → initialisers_are_typed z.source z.function o.element lengths all ≡ true
          → in_initialisers z.source all ≡ true → widest_initials all + 1 ≤ z.slots → initialisers_in all ≤ k
          → i + k * elements_in lengths ≤ elements_in o.lengths → 0 < elements_in lengths
          → FillAll z.code z.source.literals (sizes z) all o.element k lengths n i pc pc2 → Within z (pc2 ≤ z.limit) (initialisers_nodes all + 1) 56 pc pc2
      fill_all_within typed.no_initialisers k lengths i pc pc2 h d w few le some s = clears_within (k * elements_in lengths) i pc pc2 le s
      fill_all_within (typed.and_initialiser x more) zero lengths i pc pc2 h d w few le some s = absurd (none_left (initialisers_in more) few)
      fill_all_within (typed.and_initialiser x more) (suc k) lengths i pc pc2 h d w few le some s =
          let this = initialiser_is_typed z.source z.function o.element lengths x in
          let others = initialisers_are_typed z.source z.function o.element lengths more in
          let ix = in_initialiser z.source x in
          let im = in_initialisers z.source more in
          let rest = fill_all_within more k lengths (i + elements_in lengths) s.0 pc2 (right_true this others h) (right_true ix im d)
          (right_wide (widest_initial x) (widest_initials more) z.slots w) (fewer_initials (initialisers_in more) k few)
          (next_rows i k (elements_in lengths) (elements_in o.lengths) le) some s.2 in
          settle z (initialiser_nodes x + initialisers_nodes more + 1) 56 (part_room (initialiser_nodes x) (initialisers_nodes more)) (join z
          (aimed z (λ a. on s.0 pc2 z.limit rest.forward a)
          (fills_within x lengths i pc s.0 (left_true this others h) (left_true ix im d) (left_wide (widest_initial x) (widest_initials more) z.slots w)
          (first_row i k (elements_in lengths) (elements_in o.lengths) le) some s.1)) rest)

  -- ---- definitions

  object_within : (lengths : List ℕ) (x : Initialiser) (n : ℕ) (o : ObjectType) (pc pc2 : ℕ) → o.lengths ≡ lengths → slice_get z.function.objects n ≡ Some o
      → initialiser_is_typed z.source z.function o.element o.lengths x ≡ true → in_initialiser z.source x ≡ true → widest_initial x + 1 ≤ z.slots
      → InitialisesObject z.code z.source z.function o.element lengths x n pc pc2 → Within z (pc2 ≤ z.limit) (initialiser_nodes x + 1) 64 pc pc2
  object_within [] x n o pc pc2 e at h d w s = word_within z x n o pc pc2 at h d w s
  object_within (k ∷ lengths) x n o pc pc2 e at h d w s =
      let has = z.filled n o at in
      settle z (initialiser_nodes x + 1) 64 (filled_room (initialiser_nodes x))
      (fills_within n o at (ap (λ l. type_if_scalar l o.element) e) has.1 x (k ∷ lengths) 0 pc pc2
      (subst (λ l. initialiser_is_typed z.source z.function o.element l x ≡ true) e h) d w
      (subst (λ l. 0 + elements_in l ≤ elements_in o.lengths) e (from_first (elements_in o.lengths))) (subst (λ l. 0 < elements_in l) e has.0) s)

  pub defined_within : (x : Initialiser) (n : ℕ) (o : Option ObjectType) (pc pc2 : ℕ) → slice_get z.function.objects n ≡ o
      → definition_is_typed z.source z.function o x ≡ true → in_initialiser z.source x ≡ true → widest_initial x + 1 ≤ z.slots
      → Initialises z.code z.source z.function o x n pc pc2 → Within z (pc2 ≤ z.limit) (initialiser_nodes x + 1) 64 pc pc2
  defined_within x n None pc pc2 at h d w s = absurd (differ h)
  defined_within x n (Some o) pc pc2 at h d w s = object_within o.lengths x n o pc pc2 refl at h d w s
