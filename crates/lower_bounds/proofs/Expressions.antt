-- The code of an expression keeps within its nodes' room, and is fine.
use Rattle.std.proofs.Common.{◌≡◌, ℕ, ◌+◌, ◌<◌, ◌≤◌, ◌^◌, ◌-◌, List, [], ◌∷◌, length, Option, Some, None, Bool, true, false, not, ◌&&◌, refl, sym, subst, arith}
use Rattle.std.specs.Prelude.{slice_get}
use Rattle.ctypes.specs.declared.types.IntType.{IntType}
use Rattle.ctypes.specs.declared.operators.BinOp.TheVariants as op
use Rattle.tree.specs.declared.expression.PrefixOp.TheVariants as prefix
use Rattle.typing_spec.specs.Types.{ParameterType, number, elements, FunctionType, same_type}
use Rattle.typing_spec.specs.Program as typed
use Rattle.typing_spec.specs.Program.{Place, Value, Arguments, Callee}
use Rattle.typing_spec.specs.Nodes.{type_of_value, type_of_place, place_nodes, value_nodes, argument_nodes}
use Rattle.typing_spec.specs.WellTyped.{some_number, same_none, is_scalar, is_array, callee_type, params_of, call_fits, place_is_typed, value_is_typed, arguments_are_typed, rows_alike, rows_of}
use Rattle.csem.specs.Machine.{choose}
use Rattle.tac_code.specs.Designated.{in_place, in_value, in_arguments}
use Rattle.tac_code.specs.declared.code.Operand.TheVariants as operand
use Rattle.tac_code.specs.declared.code.Reading.TheVariants as reading
use Rattle.lower_correct.specs.Values.{calls, arguments_call, writes, arguments_write, writes_none, keeps, reading_of, operand_of, waits_in, free_temporary, free_kept, Mode, Nowhere, To, If, mode_of}
use Rattle.lower_correct.specs.Places.{target_for, found}
use Rattle.lower_correct.specs.Code.{zero_word, Finds, Into, Passes}
use Rattle.lower_correct.proofs.Words.{left_true, right_true, differ}
use Rattle.lower_bounds.proofs.Numbers.{inner, only, first, first3, second3, third3, of_both, less, beside, beside_argument, two, two_beside, third, some_node, from_zero, few, same_le, past_two, on, row_room, array_room, counted_first, counted, zero_small, ones_small}
use Rattle.lower_bounds.proofs.Grounds.{Ground, sizes, OperandFine, ModeLands, Aims}
use Rattle.lower_bounds.proofs.Stretches.{Within, none, join, settle, aimed}
use Rattle.lower_bounds.proofs.Operands.{Free, operand_fine, target_fine, mode_lands, mode_aims, waits, more_temporaries, more_kept, read_fine, write_fine, rests_fine}
use Rattle.lower_bounds.proofs.Leaves.{constantly_within}
use Rattle.lower_bounds.proofs.Changes.{CalleeFine, loads_within}
use Rattle.lower_bounds.proofs.Spots.{some_place, some_value, has_rows, free_beside, NamedFine, array_fine, memory_fine, found_fine, lands_for, more_temporaries_at, more_kept_at}
use Rattle.lower_bounds.proofs.Memory.{nothing, hands_over_within, element_within}
use Rattle.lower_bounds.proofs.Nodes.{temporary_beside, slot_beside, chosen_le, read_within, assigned_within, compound_within, stepped_within, same_within, signed_within, binary_within, jumps_within, truth_within, chosen_within, sequence_within, cast_within, discarded_within, call_within}

module _ (z : Ground) where
  abbrev V : Value → Bool
  V e = value_is_typed z.source z.function e

  abbrev N : Value → Bool
  N e = some_number (type_of_value e)

  abbrev P : Place → Bool
  P place = place_is_typed z.source z.function place

  abbrev D : Place → Bool
  D place = in_place z.source place

  abbrev E : Value → Bool
  E e = in_value z.source e

  abbrev R : Arguments → Bool
  R more = in_arguments z.source more

  abbrev S : IntType → Place → Bool
  S u place = is_scalar u (type_of_place z.source z.function place)

  stored : (u : IntType) (place : Place) (e : Value) → (P place && (S u place && (V e && N e))) ≡ true → V e ≡ true
  stored u place e h = left_true (V e) (N e) (right_true (S u place) (V e && N e) (right_true (P place) (S u place && (V e && N e)) h))

  left_of : (a b : Value) → ((V a && N a) && (V b && N b)) ≡ true → V a ≡ true
  left_of a b h = left_true (V a) (N a) (left_true (V a && N a) (V b && N b) h)

  right_of : (a b : Value) → ((V a && N a) && (V b && N b)) ≡ true → V b ≡ true
  right_of a b h = left_true (V b) (N b) (right_true (V a && N a) (V b && N b) h)

  -- ---- n temporaries from t on, and n slots from k on

  abbrev pub Fits : ℕ → ℕ → ℕ → Type 0
  Fits n t k = (t + n ≤ z.bound) × (k + n ≤ z.slots)

  fewer : (n m t k : ℕ) → m ≤ n → Fits n t k → Fits m t k
  fewer n m t k h f = (less t n m z.bound h f.0, less k n m z.slots h f.1)

  pub free : (e : Value) (t k : ℕ) → Fits (value_nodes e) t k → Free z t k
  free e t k f = fewer (value_nodes e) 1 t k (some_value e) f

  -- there is room in addition to a place, and for a temporary in addition to both
  fits_beside : (place : Place) (c : Bool) (t k n : ℕ) → Fits (place_nodes place + n + 1) t k → Fits n (temporary_beside place c t k) (slot_beside place c t k)
  fits_beside place c t k n f = (
    beside t (temporary_beside place c t k) (place_nodes place) n z.bound (more_temporaries_at z (found place c t k) t) f.0,
    beside k (slot_beside place c t k) (place_nodes place) n z.slots (more_kept_at z (found place c t k) k) f.1,
  )

  third_free : (place : Place) (e : Value) (c : Bool) (t k : ℕ) → Fits (place_nodes place + value_nodes e + 1) t k
      → free_temporary (operand_of e (temporary_beside place c t k) (slot_beside place c t k)) (temporary_beside place c t k) < z.bound
  third_free place e c t k f =
      let t2 = temporary_beside place c t k in
      let x = operand_of e t2 (slot_beside place c t k) in
      third (free_temporary x t2) t2 t (place_nodes place) (value_nodes e) z.bound (more_temporaries z x t2) (more_temporaries_at z (found place c t k) t)
      (some_place place) (some_value e) f.0

  -- ---- the callee

  callee_number : (n : ℕ) (o : Option typed.Function) (u : Option IntType) (used : Bool) → slice_get z.source.functions n ≡ o
      → call_fits u used (elim o as (λ x. Option FunctionType) [ None ↦ None | Some g ↦ Some g.type ]) ≡ true
      → length (params_of (elim o as (λ x. Option FunctionType) [ None ↦ None | Some g ↦ Some g.type ])) ≤ z.bound → CalleeFine z (typed.function n)
  callee_number n None u used e h le = absurd (differ h)
  callee_number n (Some g) u used e h le = let c = z.callees n g e in (c.0, subst (λ w. w ≤ z.bound) (sym c.1) le)

  callee_fine : (callee : Callee) (u : Option IntType) (used : Bool) → call_fits u used (callee_type z.source callee) ≡ true
      → length (params_of (callee_type z.source callee)) ≤ z.bound → CalleeFine z callee
  callee_fine (typed.function n) u used h le = callee_number n (slice_get z.source.functions n) u used refl h le
  callee_fine typed.get_byte u used h le = tt
  callee_fine typed.put_byte u used h le = tt
  callee_fine typed.exit u used h le = tt
  callee_fine (typed.missing name) u used h le = tt

  abbrev A : List ParameterType → Arguments → Bool
  A ps more = arguments_are_typed z.source z.function ps more

  argument_value : (t u : IntType) (e : Value) (b : Bool) → (same_type t u && ((V e && N e) && b)) ≡ true → V e ≡ true
  argument_value t u e b h = left_true (V e) (N e) (left_true (V e && N e) b (right_true (same_type t u) ((V e && N e) && b) h))

  argument_rest : (t u : IntType) (e : Value) (b : Bool) → (same_type t u && ((V e && N e) && b)) ≡ true → b ≡ true
  argument_rest t u e b h = right_true (V e && N e) b (right_true (same_type t u) ((V e && N e) && b) h)

  parameters_few : (ps : List ParameterType) (args : Arguments) → arguments_are_typed z.source z.function ps args ≡ true → length ps ≤ argument_nodes args
  parameters_few [] typed.no_arguments h = let e : 0 ≤ 0 = omega arith in e
  parameters_few (number t ∷ ps) (typed.and_number u e more) h =
      counted (length ps) (value_nodes e) (argument_nodes more) (some_value e) (parameters_few ps more (argument_rest t u e (A ps more) h))
  parameters_few (elements t ∷ ps) (typed.and_array a more) h =
      counted (length ps) (place_nodes a) (argument_nodes more) (some_place a)
      (parameters_few ps more (right_true (rows_alike t (rows_of (type_of_place z.source z.function a))) (A ps more) (right_true (P a) (rows_alike t (rows_of (type_of_place z.source z.function a)) && A ps more) h)))
  parameters_few [] (typed.and_number u e more) h = absurd (differ h)
  parameters_few [] (typed.and_array a more) h = absurd (differ h)
  parameters_few (number t ∷ ps) typed.no_arguments h = absurd (differ h)
  parameters_few (number t ∷ ps) (typed.and_array a more) h = absurd (differ h)
  parameters_few (elements t ∷ ps) typed.no_arguments h = absurd (differ h)
  parameters_few (elements t ∷ ps) (typed.and_number u e more) h = absurd (differ h)

  held_fine : (e : Value) (t k : ℕ) → V e ≡ true → Fits (value_nodes e) t k → OperandFine z (operand_of e t k)
  held_fine e t k h f = operand_fine z (operand_of e t k) t k (free e t k f) (waits z e writes_none false t k (rests_fine z e h))

  -- ---- all expressions

  mutual
    pub into_within : (e : Value) (m : Mode) (t k pc pc2 : ℕ) → value_is_typed z.source z.function e ≡ true → in_value z.source e ≡ true
        → Fits (value_nodes e) t k → ModeLands z m t k → Into z.code (sizes z) e m t k pc pc2
        → Within z (Aims z m pc2) (value_nodes e) 32 pc pc2
    into_within (typed.constant u v) m t k pc pc2 h d f l i = settle z 1 32 (omega arith) (constantly_within z m v t k pc pc2 l f i)
    into_within (typed.read u place) m t k pc pc2 h d f l i =
        let hp = left_true (P place) (S u place) h in
        let fr = free (typed.read u place) t k f in
        read_within z u place m t k pc pc2 (read_fine z u place h) (some_place place) l fr
        (λ none. let there = memory_fine z place hp d none in
        (λ y y2 i2. find_within place false t k y y2 hp d there f i2, found_fine z place false t k fr there)) i
    into_within (typed.assigned at u place e) m t k pc pc2 h d f l i =
        let t2 = temporary_beside place (calls e) t k in
        let k2 = slot_beside place (calls e) t k in
        let hp = left_true (P place) (S u place && (V e && N e)) h in
        let he = stored u place e h in
        let dp = left_true (D place) (E e) d in
        let de = right_true (D place) (E e) d in
        let fr = free (typed.assigned at u place e) t k f in
        let fp = fewer (place_nodes place + value_nodes e + 1) (place_nodes place) t k (first (place_nodes place) (value_nodes e)) f in
        let fe = fewer (place_nodes place + value_nodes e + 1) (value_nodes e) t k (inner (place_nodes place) (value_nodes e)) f in
        let fb = fits_beside place (calls e) t k (value_nodes e) f in
        assigned_within z at u place e m t k pc pc2 (write_fine z u place (V e && N e) h) (rests_fine z e he) (some_place place) l fr (free e t2 k2 fb)
        (λ n y y2 l2 i2. into_within e n t k y y2 he de fe l2 i2) (λ n y y2 l2 i2. into_within e n t2 k2 y y2 he de fb l2 i2)
        (λ none. let there = memory_fine z place hp dp none in
        (λ y y2 i2. find_within place (calls e) t k y y2 hp dp there fp i2, found_fine z place (calls e) t k fr there)) i
    into_within (typed.compound at o u of place e) m t k pc pc2 h d f l i =
        let t2 = temporary_beside place (calls e) t k in
        let k2 = slot_beside place (calls e) t k in
        let hp = left_true (P place) (S u place && (V e && N e)) h in
        let he = stored u place e h in
        let dp = left_true (D place) (E e) d in
        let de = right_true (D place) (E e) d in
        let fr = free (typed.compound at o u of place e) t k f in
        let fp = fewer (place_nodes place + value_nodes e + 1) (place_nodes place) t k (first (place_nodes place) (value_nodes e)) f in
        let fe = fewer (place_nodes place + value_nodes e + 1) (value_nodes e) t k (inner (place_nodes place) (value_nodes e)) f in
        let fb = fits_beside place (calls e) t k (value_nodes e) f in
        compound_within z at o u of place e m t k pc pc2 (write_fine z u place (V e && N e) h) (rests_fine z e he) (some_place place) l fr (free e t2 k2 fb)
        (third_free place e (calls e) t k f) (λ n y y2 l2 i2. into_within e n t k y y2 he de fe l2 i2)
        (λ n y y2 l2 i2. into_within e n t2 k2 y y2 he de fb l2 i2)
        (λ none. let there = memory_fine z place hp dp none in
        (λ y y2 i2. find_within place (calls e) t k y y2 hp dp there fp i2, found_fine z place (calls e) t k fr there)) i
    into_within (typed.stepped at moment o u of place) m t k pc pc2 h d f l i =
        let hp = left_true (P place) (S u place) h in
        let fr = free (typed.stepped at moment o u of place) t k f in
        let fp = fewer (place_nodes place + 1) (place_nodes place) t k (only (place_nodes place)) f in
        stepped_within z at moment o u of place m t k pc pc2 (read_fine z u place h) (some_place place) l fr
        (two t (place_nodes place) z.bound (some_place place) f.0)
        (two_beside (temporary_beside place false t k) t (place_nodes place) z.bound (free_beside place false t k) f.0)
        (λ none. let there = memory_fine z place hp d none in
        (λ y y2 i2. find_within place false t k y y2 hp d there fp i2, found_fine z place false t k fr there)) i
    into_within (typed.unary at prefix.Plus u e) m t k pc pc2 h d f l i =
        let he = left_true (V e) (N e) h in
        let fe = fewer (value_nodes e + 1) (value_nodes e) t k (only (value_nodes e)) f in
        same_within z e m m t k pc i.0 pc2 (λ a. a) l (λ n y y2 l2 i2. into_within e n t k y y2 he d fe l2 i2) i.1 i.2
    into_within (typed.unary at prefix.Minus u e) m t k pc pc2 h d f l i =
        let he = left_true (V e) (N e) h in
        let fe = fewer (value_nodes e + 1) (value_nodes e) t k (only (value_nodes e)) f in
        signed_within z e op.Sub (reading_of u) zero_word (operand_of e t k) m t k pc i.0 i.1 pc2 (rests_fine z e he) l (free e t k fe)
        (λ n y y2 l2 i2. into_within e n t k y y2 he d fe l2 i2) zero_small (held_fine e t k he fe) i.2 i.3 i.4
    into_within (typed.unary at prefix.Complement u e) m t k pc pc2 h d f l i =
        let he = left_true (V e) (N e) h in
        let fe = fewer (value_nodes e + 1) (value_nodes e) t k (only (value_nodes e)) f in
        signed_within z e op.BitXor (reading_of u) (operand_of e t k) (operand.Constant (2 ^ 32 - 1)) m t k pc i.0 i.1 pc2 (rests_fine z e he) l (free e t k fe)
        (λ n y y2 l2 i2. into_within e n t k y y2 he d fe l2 i2) (held_fine e t k he fe) ones_small i.2 i.3 i.4
    into_within (typed.unary at prefix.Not u e) (If sense to) t k pc pc2 h d f l i =
        let he = left_true (V e) (N e) h in
        let fe = fewer (value_nodes e + 1) (value_nodes e) t k (only (value_nodes e)) f in
        same_within z e (If sense to) (If (not sense) to) t k pc i.0 pc2 (λ a. a) tt (λ n y y2 l2 i2. into_within e n t k y y2 he d fe l2 i2) i.1 i.2
    into_within (typed.unary at prefix.Not u e) Nowhere t k pc pc2 h d f l i =
        let he = left_true (V e) (N e) h in
        let fe = fewer (value_nodes e + 1) (value_nodes e) t k (only (value_nodes e)) f in
        signed_within z e op.Equal reading.Signed (operand_of e t k) zero_word Nowhere t k pc i.0 i.1 pc2 (rests_fine z e he) l (free e t k fe)
        (λ n y y2 l2 i2. into_within e n t k y y2 he d fe l2 i2) (held_fine e t k he fe) zero_small i.2 i.3 i.4
    into_within (typed.unary at prefix.Not u e) (To g) t k pc pc2 h d f l i =
        let he = left_true (V e) (N e) h in
        let fe = fewer (value_nodes e + 1) (value_nodes e) t k (only (value_nodes e)) f in
        signed_within z e op.Equal reading.Signed (operand_of e t k) zero_word (To g) t k pc i.0 i.1 pc2 (rests_fine z e he) l (free e t k fe)
        (λ n y y2 l2 i2. into_within e n t k y y2 he d fe l2 i2) (held_fine e t k he fe) zero_small i.2 i.3 i.4
    into_within (typed.binary at o u a b) m t k pc pc2 h d f l i =
        let x = waits_in a (writes b) (calls b) t k in
        let t2 = free_temporary x t in
        let k2 = free_kept x k in
        let ha = left_of a b h in
        let hb = right_of a b h in
        let fa = fewer (value_nodes a + value_nodes b + 1) (value_nodes a) t k (first (value_nodes a) (value_nodes b)) f in
        let fb : Fits (value_nodes b) t2 k2 =
        (beside t t2 (value_nodes a) (value_nodes b) z.bound (more_temporaries z x t) f.0, beside k k2 (value_nodes a) (value_nodes b) z.slots (more_kept z x k) f.1) in
        binary_within z at o u a b m t k pc pc2 (rests_fine z a ha) (rests_fine z b hb) l (free a t k fa) (free b t2 k2 fb)
        (λ n y y2 l2 i2. into_within a n t k y y2 ha (left_true (E a) (E b) d) fa l2 i2)
        (λ n y y2 l2 i2. into_within b n t2 k2 y y2 hb (right_true (E a) (E b) d) fb l2 i2) i
    into_within (typed.both_true a b) (If sense to) t k pc pc2 h d f l i =
        let fa = fewer (value_nodes a + value_nodes b + 1) (value_nodes a) t k (first (value_nodes a) (value_nodes b)) f in
        let fb = fewer (value_nodes a + value_nodes b + 1) (value_nodes b) t k (inner (value_nodes a) (value_nodes b)) f in
        jumps_within z a b false sense to (choose sense pc2 to) t k pc i.0 i.1 pc2
        (λ n y y2 l2 i2. into_within a n t k y y2 (left_of a b h) (left_true (E a) (E b) d) fa l2 i2)
        (λ n y y2 l2 i2. into_within b n t k y y2 (right_of a b h) (right_true (E a) (E b) d) fb l2 i2)
        (λ p q. chosen_le sense pc2 to z.limit p q) i.2 i.3 i.4
    into_within (typed.both_true a b) Nowhere t k pc pc2 h d f l i =
        let fa = fewer (value_nodes a + value_nodes b + 1) (value_nodes a) t k (first (value_nodes a) (value_nodes b)) f in
        let fb = fewer (value_nodes a + value_nodes b + 1) (value_nodes b) t k (inner (value_nodes a) (value_nodes b)) f in
        truth_within z a b Nowhere false i.3 t k pc i.0 i.1 i.2 i.3 pc2 (same_le i.3) l (free a t k fa)
        (λ n y y2 l2 i2. into_within a n t k y y2 (left_of a b h) (left_true (E a) (E b) d) fa l2 i2)
        (λ n y y2 l2 i2. into_within b n t k y y2 (right_of a b h) (right_true (E a) (E b) d) fb l2 i2) i.4 i.5 i.6 i.7
    into_within (typed.both_true a b) (To g) t k pc pc2 h d f l i =
        let fa = fewer (value_nodes a + value_nodes b + 1) (value_nodes a) t k (first (value_nodes a) (value_nodes b)) f in
        let fb = fewer (value_nodes a + value_nodes b + 1) (value_nodes b) t k (inner (value_nodes a) (value_nodes b)) f in
        truth_within z a b (To g) false i.3 t k pc i.0 i.1 i.2 i.3 pc2 (same_le i.3) l (free a t k fa)
        (λ n y y2 l2 i2. into_within a n t k y y2 (left_of a b h) (left_true (E a) (E b) d) fa l2 i2)
        (λ n y y2 l2 i2. into_within b n t k y y2 (right_of a b h) (right_true (E a) (E b) d) fb l2 i2) i.4 i.5 i.6 i.7
    into_within (typed.one_true a b) (If sense to) t k pc pc2 h d f l i =
        let fa = fewer (value_nodes a + value_nodes b + 1) (value_nodes a) t k (first (value_nodes a) (value_nodes b)) f in
        let fb = fewer (value_nodes a + value_nodes b + 1) (value_nodes b) t k (inner (value_nodes a) (value_nodes b)) f in
        jumps_within z a b true sense to (choose sense to pc2) t k pc i.0 i.1 pc2
        (λ n y y2 l2 i2. into_within a n t k y y2 (left_of a b h) (left_true (E a) (E b) d) fa l2 i2)
        (λ n y y2 l2 i2. into_within b n t k y y2 (right_of a b h) (right_true (E a) (E b) d) fb l2 i2)
        (λ p q. chosen_le sense to pc2 z.limit q p) i.2 i.3 i.4
    into_within (typed.one_true a b) Nowhere t k pc pc2 h d f l i =
        let fa = fewer (value_nodes a + value_nodes b + 1) (value_nodes a) t k (first (value_nodes a) (value_nodes b)) f in
        let fb = fewer (value_nodes a + value_nodes b + 1) (value_nodes b) t k (inner (value_nodes a) (value_nodes b)) f in
        let last = i.7 in
        truth_within z a b Nowhere true i.2 t k pc i.0 i.1 i.2 i.3 pc2 (past_two i.2 last.0 i.3 last.1.next last.2.next) l (free a t k fa)
        (λ n y y2 l2 i2. into_within a n t k y y2 (left_of a b h) (left_true (E a) (E b) d) fa l2 i2)
        (λ n y y2 l2 i2. into_within b n t k y y2 (right_of a b h) (right_true (E a) (E b) d) fb l2 i2) i.4 i.5 i.6 i.7
    into_within (typed.one_true a b) (To g) t k pc pc2 h d f l i =
        let fa = fewer (value_nodes a + value_nodes b + 1) (value_nodes a) t k (first (value_nodes a) (value_nodes b)) f in
        let fb = fewer (value_nodes a + value_nodes b + 1) (value_nodes b) t k (inner (value_nodes a) (value_nodes b)) f in
        let last = i.7 in
        truth_within z a b (To g) true i.2 t k pc i.0 i.1 i.2 i.3 pc2 (past_two i.2 last.0 i.3 last.1.next last.2.next) l (free a t k fa)
        (λ n y y2 l2 i2. into_within a n t k y y2 (left_of a b h) (left_true (E a) (E b) d) fa l2 i2)
        (λ n y y2 l2 i2. into_within b n t k y y2 (right_of a b h) (right_true (E a) (E b) d) fb l2 i2) i.4 i.5 i.6 i.7
    into_within (typed.chosen (Some u) c a b) m t k pc pc2 h d f l i =
        chosen_within z (Some u) c a b m t k pc pc2 l
        (λ n y y2 l2 i2. into_within c n t k y y2 (left_true (V c) (N c) (left_true (V c && N c) ((V a && N a) && (V b && N b)) h))
        (left_true (E c) (E a && E b) d) (fewer (value_nodes c + value_nodes a + value_nodes b + 1) (value_nodes c) t k
        (first3 (value_nodes c) (value_nodes a) (value_nodes b)) f) l2 i2)
        (λ n y y2 l2 i2. into_within a n t k y y2 (left_of a b (right_true (V c && N c) ((V a && N a) && (V b && N b)) h))
        (left_true (E a) (E b) (right_true (E c) (E a && E b) d))
        (fewer (value_nodes c + value_nodes a + value_nodes b + 1) (value_nodes a) t k (second3 (value_nodes c) (value_nodes a) (value_nodes b)) f) l2 i2)
        (λ n y y2 l2 i2. into_within b n t k y y2 (right_of a b (right_true (V c && N c) ((V a && N a) && (V b && N b)) h))
        (right_true (E a) (E b) (right_true (E c) (E a && E b) d))
        (fewer (value_nodes c + value_nodes a + value_nodes b + 1) (value_nodes b) t k (third3 (value_nodes c) (value_nodes a) (value_nodes b)) f) l2 i2) i
    into_within (typed.chosen None c a b) m t k pc pc2 h d f l i =
        let na = same_none (type_of_value a) in
        let nb = same_none (type_of_value b) in
        let h2 = right_true (V c && N c) (V a && (na && (V b && nb))) h in
        chosen_within z None c a b m t k pc pc2 l
        (λ n y y2 l2 i2. into_within c n t k y y2 (left_true (V c) (N c) (left_true (V c && N c) (V a && (na && (V b && nb))) h))
        (left_true (E c) (E a && E b) d) (fewer (value_nodes c + value_nodes a + value_nodes b + 1) (value_nodes c) t k
        (first3 (value_nodes c) (value_nodes a) (value_nodes b)) f) l2 i2)
        (λ n y y2 l2 i2. into_within a n t k y y2 (left_true (V a) (na && (V b && nb)) h2) (left_true (E a) (E b) (right_true (E c) (E a && E b) d))
        (fewer (value_nodes c + value_nodes a + value_nodes b + 1) (value_nodes a) t k (second3 (value_nodes c) (value_nodes a) (value_nodes b)) f) l2 i2)
        (λ n y y2 l2 i2. into_within b n t k y y2 (left_true (V b) nb (right_true na (V b && nb) (right_true (V a) (na && (V b && nb)) h2)))
        (right_true (E a) (E b) (right_true (E c) (E a && E b) d))
        (fewer (value_nodes c + value_nodes a + value_nodes b + 1) (value_nodes b) t k (third3 (value_nodes c) (value_nodes a) (value_nodes b)) f) l2 i2) i
    into_within (typed.sequence a b) m t k pc pc2 h d f l i =
        let fa = fewer (value_nodes a + value_nodes b + 1) (value_nodes a) t k (first (value_nodes a) (value_nodes b)) f in
        let fb = fewer (value_nodes a + value_nodes b + 1) (value_nodes b) t k (inner (value_nodes a) (value_nodes b)) f in
        sequence_within z a b m t k pc pc2 l
        (λ n y y2 l2 i2. into_within a n t k y y2 (left_true (V a) (V b) h) (left_true (E a) (E b) d) fa l2 i2)
        (λ n y y2 l2 i2. into_within b n t k y y2 (right_true (V a) (V b) h) (right_true (E a) (E b) d) fb l2 i2) i
    into_within (typed.cast u e) m t k pc pc2 h d f l i =
        let he = left_true (V e) (N e) h in
        let fe = fewer (value_nodes e + 1) (value_nodes e) t k (only (value_nodes e)) f in
        cast_within z u e m t k pc pc2 (rests_fine z e he) l (free e t k fe) (λ n y y2 l2 i2. into_within e n t k y y2 he d fe l2 i2) i
    into_within (typed.discarded e) m t k pc pc2 h d f l i =
        let fe = fewer (value_nodes e + 1) (value_nodes e) t k (only (value_nodes e)) f in
        discarded_within z e m t k pc pc2 l (free e t k fe) (λ n y y2 l2 i2. into_within e n t k y y2 h d fe l2 i2) i
    into_within (typed.call at callee result used arguments) m t k pc pc2 h d f l i =
        let ps = params_of (callee_type z.source callee) in
        let typed_arguments = left_true (A ps arguments) (call_fits result used (callee_type z.source callee)) h in
        let c = callee_fine callee result used (right_true (A ps arguments) (call_fits result used (callee_type z.source callee)) h)
        (few (length ps) (argument_nodes arguments) t z.bound (parameters_few ps arguments typed_arguments) f.0) in
        call_within z at callee result used arguments m t k pc pc2 l (free (typed.call at callee result used arguments) t k f) c
        (λ y y2 i2. passes_within arguments ps 0 k y y2 typed_arguments d (
          from_zero t (argument_nodes arguments) z.bound f.0,
          less k (argument_nodes arguments + 1) (argument_nodes arguments) z.slots
              (only (argument_nodes arguments)) f.1,
        ) i2) i

    -- where the name of the place found denotes something that exists
    pub find_within : (place : Place) (c : Bool) (t k pc pc2 : ℕ) → place_is_typed z.source z.function place ≡ true → in_place z.source place ≡ true
        → NamedFine z place
        → Fits (place_nodes place) t k → Finds z.code (sizes z) place c t k pc pc2 → Within z (pc2 ≤ z.limit) (place_nodes place) 124 pc pc2
    find_within (typed.named at what) c t k pc pc2 h d n f i = nothing z pc pc2 i
    find_within (typed.element at array index) c t k pc pc2 h d n f i =
        let b = calls index in
        let t2 = temporary_beside array b t k in
        let k2 = slot_beside array b t k in
        let x = operand_of index t2 k2 in
        let is = is_array (type_of_place z.source z.function array) in
        let ha = left_true (P array) (is && (V index && N index)) h in
        let h2 = right_true (P array) (is && (V index && N index)) h in
        let hi = left_true (V index) (N index) (right_true is (V index && N index) h2) in
        let da = left_true (D array) (E index) d in
        let di = right_true (D array) (E index) d in
        let fr = fewer (place_nodes array + value_nodes index + 1) 1 t k (some_node (place_nodes array + value_nodes index)) f in
        let fa = fewer (place_nodes array + value_nodes index + 1) (place_nodes array) t k (first (place_nodes array) (value_nodes index)) f in
        let fi = fits_beside array b t k (value_nodes index) f in
        let s = waits z index writes_none false t2 k2 (rests_fine z index hi) in
        let there = array_fine z array ha da (left_true is (V index && N index) h2) in
        element_within z array index b t k t2 k2 (free_temporary x t2) (sizes z (typed.element at array index)) (found array b t k)
        (target_for c t k) x pc i.0 i.1 i.2 pc2
        (λ y y2 i2. find_within array b t k y y2 ha da there fa i2) (λ m y y2 l2 i2. into_within index m t2 k2 y y2 hi di fi l2 i2) (mode_lands z x t2 k2 s)
        (target_fine z (target_for c t k) t k fr (lands_for z c t k)) (found_fine z array b t k fr there) (operand_fine z x t2 k2 (free index t2 k2 fi) s)
        (third_free array index b t k f) (z.sized at array index) i.3 i.4 i.5 i.6

    pub passes_within : (arguments : Arguments) (ps : List ParameterType) (t k pc pc2 : ℕ) → arguments_are_typed z.source z.function ps arguments ≡ true
        → in_arguments z.source arguments ≡ true → Fits (argument_nodes arguments) t k
        → Passes z.code (sizes z) arguments t k pc pc2 → Within z (pc2 ≤ z.limit) (argument_nodes arguments) 0 pc pc2
    passes_within typed.no_arguments ps t k pc pc2 h d f i = none z pc pc2 i
    passes_within (typed.and_array array more) [] t k pc pc2 h d f i = absurd (differ h)
    passes_within (typed.and_array array more) (number v ∷ ps) t k pc pc2 h d f i = absurd (differ h)
    passes_within (typed.and_array array more) (elements v ∷ ps) t k pc pc2 h d f i =
        let b = arguments_call more in
        let rows = rows_alike v (rows_of (type_of_place z.source z.function array)) in
        let ha = left_true (P array) (rows && A ps more) h in
        let h2 = right_true (P array) (rows && A ps more) h in
        let da = left_true (D array) (R more) d in
        let fa = fewer (place_nodes array + argument_nodes more) (place_nodes array) t k (of_both (place_nodes array) (argument_nodes more)) f in
        let fm : Fits (argument_nodes more) (t + 1) (slot_beside array b t k) = (
          beside_argument t (t + 1) (place_nodes array) (argument_nodes more) z.bound (some_place array) (same_le (t + 1)) f.0,
          beside_argument k (slot_beside array b t k) (place_nodes array) (argument_nodes more) z.slots (some_place array)
              (more_kept_at z (found array b t k) k) f.1,
        ) in
        let fr = fewer (place_nodes array + argument_nodes more) 1 t k (counted_first (place_nodes array) (argument_nodes more) (some_place array)) f in
        let there = array_fine z array ha da (has_rows v (type_of_place z.source z.function array) (left_true rows (A ps more) h2)) in
        let last = hands_over_within z (found array b t k) t i.1 pc2 (found_fine z array b t k fr there)
        (let g = fr.0 in let below : t < z.bound = omega (arith, g) in below) i.4 in
        let rest = passes_within more ps (t + 1) (slot_beside array b t k) i.0 i.1 (right_true rows (A ps more) h2) (right_true (D array) (R more) d) fm i.3 in
        settle z (place_nodes array + argument_nodes more) 0 (array_room (place_nodes array) (argument_nodes more))
        (join z (aimed z (λ a. on i.0 pc2 z.limit (on i.0 i.1 pc2 rest.forward last.forward) a) (find_within array b t k pc i.0 ha da there fa i.2))
        (join z (aimed z (λ a. on i.1 pc2 z.limit last.forward a) rest) last))
    passes_within (typed.and_number u e more) [] t k pc pc2 h d f i = absurd (differ h)
    passes_within (typed.and_number u e more) (elements v ∷ ps) t k pc pc2 h d f i = absurd (differ h)
    passes_within (typed.and_number u e more) (number v ∷ ps) t k pc pc2 h d f i =
        let o = waits_in e (arguments_write more) (arguments_call more) t k in
        let he = argument_value v u e (A ps more) h in
        let fe = fewer (value_nodes e + argument_nodes more) (value_nodes e) t k (of_both (value_nodes e) (argument_nodes more)) f in
        let fm : Fits (argument_nodes more) (t + 1) (free_kept o k) = (
          beside_argument t (t + 1) (value_nodes e) (argument_nodes more) z.bound (some_value e) (same_le (t + 1)) f.0,
          beside_argument k (free_kept o k) (value_nodes e) (argument_nodes more) z.slots (some_value e) (more_kept z o k) f.1,
        ) in
        let s = waits z e (arguments_write more) (arguments_call more) t k (rests_fine z e he) in
        let fr = free e t k fe in
        let last = loads_within z (keeps u e) u o t i.1 pc2 (operand_fine z o t k fr s) (let g = fr.0 in let below : t < z.bound = omega (arith, g) in below) i.4 in
        let rest = passes_within more ps (t + 1) (free_kept o k) i.0 i.1 (argument_rest v u e (A ps more) h) (right_true (E e) (R more) d) fm i.3 in
        settle z (value_nodes e + argument_nodes more) 0 (row_room (value_nodes e) (argument_nodes more))
        (join z (aimed z (λ a. (on i.0 pc2 z.limit (on i.0 i.1 pc2 rest.forward last.forward) a, mode_aims z o))
        (into_within e (mode_of o) t k pc i.0 he (left_true (E e) (R more) d) fe (mode_lands z o t k s) i.2))
        (join z (aimed z (λ a. on i.1 pc2 z.limit last.forward a) rest) last))
