-- The code follows each expression, for each use of its value.
use Rattle.std.proofs.Common.{◌≡◌, ℕ, ◌+◌, List, [], ◌∷◌, Option, Some, None, Bool, true, false, ◌&&◌, pos, refl, sym, ap, ◌∙◌, subst}
use Rattle.ctypes.specs.declared.types.IntType.{IntType}
use Rattle.ctypes.specs.declared.types.IntType.TheVariants as ty
use Rattle.ctypes.specs.Types.{IsValueOf, converted}
use Rattle.ctypes.proofs.Uses.{converted_fits}
use Rattle.tree.specs.declared.expression.PrefixOp.TheVariants as prefix
use Rattle.typing_spec.specs.Types.{ParameterType, number, elements, same_type}
use Rattle.typing_spec.specs.Program as typed
use Rattle.typing_spec.specs.Program.{Callee, Place, Arguments, Function, Value as Expression}
use Rattle.typing_spec.specs.Nodes.{type_of_value, type_of_place, type_of_storage}
use Rattle.typing_spec.specs.WellTyped.{is_scalar, some_number, same_none, callee_type, params_of, call_fits, place_is_typed, value_is_typed, arguments_are_typed, is_array, rows_of, rows_alike}
use Rattle.csem.specs.Expressions.{Calling}
use Rattle.csem.specs.Machine.{choose}
use Rattle.tac_code.specs.Code.{Program, function_at}
use Rattle.lower_wf.specs.Asked.{is_wide, gives, value_is_asked, arguments_are_asked, place_is_asked}
use Rattle.lower_correct.specs.Values.{calls, arguments_call, writes, arguments_write, extent, keeps, or_int, waits_in, free_temporary, free_kept, Mode, Nowhere, To, If}
use Rattle.lower_correct.specs.Code.{Into, Passes, Finds}
use Rattle.lower_correct.specs.Places.{found, free_temporary_at, free_kept_at}
use Rattle.lower_correct.proofs.Finding.{FindsDo, has_type, named_found, element_found}
use Rattle.lower_correct.proofs.Placed.{placed_read, placed_assigned, placed_compound, placed_stepped, PlaceInMemory, array_in_memory, rows_in_memory}
use Rattle.lower_correct.proofs.Handing.{array_row}
use Rattle.lower_correct.proofs.Words.{ranged, is_value, left_true, right_true, differ}
use Rattle.lower_correct.proofs.Standing.{sizes, IsCode}
use Rattle.lower_correct.proofs.Goods.{IsFreeFor, Suits}
use Rattle.lower_correct.proofs.Leaves.{IntoDoes, constant_does}
use Rattle.lower_correct.proofs.Operators.{DoesAt, wide_stays, suits_through, plus_does, minus_does, complement_does, not_does, not_jumps, cast_does, binary_does}
use Rattle.lower_correct.proofs.Choices.{sequence_does, discarded_does, both_value, both_jumps, one_value, one_jumps}
use Rattle.lower_correct.proofs.Arms.{chosen_does, same_chosen}
use Rattle.lower_correct.proofs.Passing.{AreFor, RowDoes, CallsDo, Wanted, none_row, number_row}
use Rattle.lower_correct.proofs.Calling.{function_does, get_byte_does, put_byte_does, exit_does}
use Rattle.lower_correct.proofs.Typing.{same_type_is, call_is, call_result}

pub zero_fits : (t : Option IntType) → IsValueOf (or_int t) (pos 0)
zero_fits t = subst (IsValueOf (or_int t)) (zero_converted (or_int t)) (converted_fits (or_int t) (pos 0))
  where
    zero_converted : (t : IntType) → converted t (pos 0) ≡ pos 0
    zero_converted ty.Bool = refl
    zero_converted ty.Char = refl
    zero_converted ty.SChar = refl
    zero_converted ty.UChar = refl
    zero_converted ty.Short = refl
    zero_converted ty.UShort = refl
    zero_converted ty.Int = refl
    zero_converted ty.UInt = refl
    zero_converted ty.Long = refl
    zero_converted ty.ULong = refl

module _ (p : typed.Program) (tf : Function) (call : Calling) (q : Program) (deep f : ℕ) (same : IsCode p tf q f)
    (ok : CallsDo p call q deep f) where
  -- ---- parts that are typed and whose simulation is needed

  pub wanted_any : (m : Mode) (b : Bool) → b ≡ true → Wanted p call q deep f m b
  wanted_any Nowhere b h = tt
  wanted_any (To g) b h = h
  wanted_any (If sense to) b h = h

  -- a part whose value is used
  number_does : (e : Expression) (t k : ℕ)
      → ((m : Mode) (pc pc2 : ℕ) → value_is_typed p tf e ≡ true → value_is_asked e ≡ true → Wanted p call q deep f m (gives e) → IsFreeFor m t k
      → Suits p q f m (extent e) → Into (function_at q f).code (sizes p f) e m t k pc pc2 → IntoDoes p call q deep f e m t k pc pc2)
      → (value_is_typed p tf e && some_number (type_of_value e)) ≡ true → (value_is_asked e && gives e) ≡ true → DoesAt p call q deep f e t k
  number_does e t k does ht ha m pc pc2 fr su i =
      does m pc pc2 (left_true (value_is_typed p tf e) (some_number (type_of_value e)) ht) (left_true (value_is_asked e) (gives e) ha)
      (wanted_any m (gives e) (right_true (value_is_asked e) (gives e) ha)) fr su i

  wanted_left : (m : Mode) (a b : Bool) → Wanted p call q deep f m (a && b) → Wanted p call q deep f m a
  wanted_left Nowhere a b h = tt
  wanted_left (To g) a b h = left_true a b h
  wanted_left (If sense to) a b h = left_true a b h

  wanted_right : (m : Mode) (a b : Bool) → Wanted p call q deep f m (a && b) → Wanted p call q deep f m b
  wanted_right Nowhere a b h = tt
  wanted_right (To g) a b h = right_true a b h
  wanted_right (If sense to) a b h = right_true a b h

  are_for : (ps : List ParameterType) (args : Arguments) (t k pc pc2 : ℕ) → arguments_are_typed p tf ps args ≡ true
      → Passes (function_at q f).code (sizes p f) args t k pc pc2 → AreFor ps args
  are_for [] typed.no_arguments t k pc pc2 h i = tt
  are_for (number u ∷ ps) (typed.and_number z e more) t k pc pc2 h i = (
    same_type_is u z (left_true (same_type u z) ((value_is_typed p tf e && some_number (type_of_value e)) && arguments_are_typed p tf ps more) h),
    are_for ps more (t + 1) (free_kept (waits_in e (arguments_write more) (arguments_call more) t k) k) i.0 i.1
        (right_true (value_is_typed p tf e && some_number (type_of_value e)) (arguments_are_typed p tf ps more)
        (right_true (same_type u z) ((value_is_typed p tf e && some_number (type_of_value e)) && arguments_are_typed p tf ps more) h)) i.3,
  )
  are_for (elements u ∷ ps) (typed.and_array array more) t k pc pc2 h i =
      are_for ps more (t + 1) (free_kept_at (found array (arguments_call more) t k) k) i.0 i.1
      (right_true (rows_alike u (rows_of (type_of_place p tf array))) (arguments_are_typed p tf ps more)
      (right_true (place_is_typed p tf array) (rows_alike u (rows_of (type_of_place p tf array)) && arguments_are_typed p tf ps more) h)) i.3
  are_for [] (typed.and_number u e more) t k pc pc2 h i = absurd (differ h)
  are_for [] (typed.and_array array more) t k pc pc2 h i = absurd (differ h)
  are_for (number u ∷ ps) typed.no_arguments t k pc pc2 h i = absurd (differ h)
  are_for (number u ∷ ps) (typed.and_array array more) t k pc pc2 h i = absurd (differ h)
  are_for (elements u ∷ ps) typed.no_arguments t k pc pc2 h i = absurd (differ h)
  are_for (elements u ∷ ps) (typed.and_number z e more) t k pc pc2 h i = absurd (differ h)

  mutual
    pub into_does : (e : Expression) (m : Mode) (t k pc pc2 : ℕ) → value_is_typed p tf e ≡ true → value_is_asked e ≡ true → Wanted p call q deep f m (gives e)
        → IsFreeFor m t k → Suits p q f m (extent e)
        → Into (function_at q f).code (sizes p f) e m t k pc pc2 → IntoDoes p call q deep f e m t k pc pc2
    into_does (typed.constant u v) m t k pc pc2 ht ha w fr su h =
        constant_does p call q deep f u v m t k pc pc2 fr su (is_value u v ht) h
    into_does (typed.read u place) m t k pc pc2 ht ha w fr su h =
        placed_read p tf call q deep f same u place m t k pc pc2 ht
        (λ y z hm i. find_does place false t k y z (left_true (place_is_typed p tf place) (is_scalar u (type_of_place p tf place)) ht) ha hm i) fr su h
    into_does (typed.assigned at u place e) m t k pc pc2 ht ha w fr su h =
        let scalar = is_scalar u (type_of_place p tf place) in
        let typed_e = value_is_typed p tf e && some_number (type_of_value e) in
        placed_assigned p tf call q deep f same at u place e m t k pc pc2 ht
        (λ y z hm i. find_does place (calls e) t k y z (left_true (place_is_typed p tf place) (scalar && typed_e) ht)
        (left_true (place_is_asked place) (value_is_asked e && gives e) ha) hm i)
        (λ t2 k2. number_does e t2 k2 (λ n y z. into_does e n t2 k2 y z) (right_true scalar typed_e (right_true (place_is_typed p tf place) (scalar && typed_e) ht))
        (right_true (place_is_asked place) (value_is_asked e && gives e) ha)) fr su h
    into_does (typed.compound at o u of place e) m t k pc pc2 ht ha w fr su h =
        let scalar = is_scalar u (type_of_place p tf place) in
        let typed_e = value_is_typed p tf e && some_number (type_of_value e) in
        let a1 = right_true (is_wide of) (place_is_asked place && (value_is_asked e && gives e)) ha in
        placed_compound p tf call q deep f same at o u of place e m t k pc pc2 ht (left_true (is_wide of) (place_is_asked place && (value_is_asked e && gives e)) ha)
        (λ y z hm i. find_does place (calls e) t k y z (left_true (place_is_typed p tf place) (scalar && typed_e) ht)
        (left_true (place_is_asked place) (value_is_asked e && gives e) a1) hm i)
        (λ t2 k2. number_does e t2 k2 (λ n y z. into_does e n t2 k2 y z) (right_true scalar typed_e (right_true (place_is_typed p tf place) (scalar && typed_e) ht))
        (right_true (place_is_asked place) (value_is_asked e && gives e) a1)) fr su h
    into_does (typed.stepped at moment o u of place) m t k pc pc2 ht ha w fr su h =
        placed_stepped p tf call q deep f same at moment o u of place m t k pc pc2 ht (left_true (is_wide of) (place_is_asked place) ha)
        (λ y z hm i. find_does place false t k y z (left_true (place_is_typed p tf place) (is_scalar u (type_of_place p tf place)) ht)
        (right_true (is_wide of) (place_is_asked place) ha) hm i) fr su h
    into_does (typed.unary at prefix.Plus u e) m t k pc pc2 ht ha w fr su h =
        plus_does p call q deep f at u e m t k pc pc2 (left_true (is_wide u) (value_is_asked e && gives e) ha)
        (number_does e t k (λ n y z. into_does e n t k y z)
        ht
        (right_true (is_wide u) (value_is_asked e && gives e) ha)) fr
        su h
    into_does (typed.unary at prefix.Minus u e) m t k pc pc2 ht ha w fr su h =
        minus_does p call q deep f at u e m t k pc pc2 (left_true (is_wide u) (value_is_asked e && gives e) ha)
        (number_does e t k (λ n y z. into_does e n t k y z)
        ht
        (right_true (is_wide u) (value_is_asked e && gives e) ha)) fr
        su h
    into_does (typed.unary at prefix.Complement u e) m t k pc pc2 ht ha w fr su h =
        complement_does p call q deep f at u e m t k pc pc2 (left_true (is_wide u) (value_is_asked e && gives e) ha)
        (number_does e t k (λ n y z. into_does e n t k y z)
        ht
        (right_true (is_wide u) (value_is_asked e && gives e) ha)) fr
        su h
    into_does (typed.unary at prefix.Not u e) Nowhere t k pc pc2 ht ha w fr su h =
        not_does p call q deep f at u e Nowhere t k pc h.0 h.1 pc2 (left_true (is_wide u) (value_is_asked e && gives e) ha)
        (number_does e t k (λ n y z. into_does e n t k y z)
        ht
        (right_true (is_wide u) (value_is_asked e && gives e) ha)) fr
        su h.2 h.3 h.4
    into_does (typed.unary at prefix.Not u e) (To g) t k pc pc2 ht ha w fr su h =
        not_does p call q deep f at u e (To g) t k pc h.0 h.1 pc2 (left_true (is_wide u) (value_is_asked e && gives e) ha)
        (number_does e t k (λ n y z. into_does e n t k y z)
        ht
        (right_true (is_wide u) (value_is_asked e && gives e) ha)) fr
        su h.2 h.3 h.4
    into_does (typed.unary at prefix.Not u e) (If sense to) t k pc pc2 ht ha w fr su h =
        not_jumps p call q deep f at u e sense to t k pc h.0 pc2 (left_true (is_wide u) (value_is_asked e && gives e) ha)
        (number_does e t k (λ n y z. into_does e n t k y z)
        ht
        (right_true (is_wide u) (value_is_asked e && gives e) ha)) h.1
        h.2
    into_does (typed.binary at o u a b) m t k pc pc2 ht ha w fr su h =
        binary_does p call q deep f at o u a b m t k (left_true (is_wide u) ((value_is_asked a && gives a) && (value_is_asked b && gives b)) ha) fr su pc pc2
        (number_does a t k (λ n y z. into_does a n t k y z)
        (left_true (value_is_typed p tf a && some_number (type_of_value a)) (value_is_typed p tf b && some_number (type_of_value b)) ht)
        (left_true (value_is_asked a && gives a) (value_is_asked b && gives b) (right_true (is_wide u) ((value_is_asked a && gives a) && (value_is_asked b && gives b)) ha)))
        (number_does b (free_temporary (waits_in a (writes b) (calls b) t k) t) (free_kept (waits_in a (writes b) (calls b) t k) k) (λ n y z. into_does b n (free_temporary (waits_in a (writes b) (calls b) t k) t) (free_kept (waits_in a (writes b) (calls b) t k) k) y z)
        (right_true (value_is_typed p tf a && some_number (type_of_value a)) (value_is_typed p tf b && some_number (type_of_value b)) ht)
        (right_true (value_is_asked a && gives a) (value_is_asked b && gives b) (right_true (is_wide u) ((value_is_asked a && gives a) && (value_is_asked b && gives b)) ha))) h
    into_does (typed.both_true a b) Nowhere t k pc pc2 ht ha w fr su h =
        both_value p call q deep f a b t k Nowhere pc h.0 h.1 h.2 h.3 pc2 fr su refl h.4
        (into_does a (If false h.3) t k h.0 h.1 (left_true (value_is_typed p tf a) (some_number (type_of_value a))
        (left_true (value_is_typed p tf a && some_number (type_of_value a)) (value_is_typed p tf b && some_number (type_of_value b)) ht))
        (left_true (value_is_asked a) (gives a) (left_true (value_is_asked a && gives a) (value_is_asked b && gives b) ha))
        (right_true (value_is_asked a) (gives a) (left_true (value_is_asked a && gives a) (value_is_asked b && gives b) ha)) tt tt h.5)
        (into_does b (If false h.3) t k h.1 h.2 (left_true (value_is_typed p tf b) (some_number (type_of_value b))
        (right_true (value_is_typed p tf a && some_number (type_of_value a)) (value_is_typed p tf b && some_number (type_of_value b)) ht))
        (left_true (value_is_asked b) (gives b) (right_true (value_is_asked a && gives a) (value_is_asked b && gives b) ha))
        (right_true (value_is_asked b) (gives b) (right_true (value_is_asked a && gives a) (value_is_asked b && gives b) ha)) tt tt h.6) h.7
    into_does (typed.both_true a b) (To g) t k pc pc2 ht ha w fr su h =
        both_value p call q deep f a b t k (To g) pc h.0 h.1 h.2 h.3 pc2 fr su refl h.4
        (into_does a (If false h.3) t k h.0 h.1 (left_true (value_is_typed p tf a) (some_number (type_of_value a))
        (left_true (value_is_typed p tf a && some_number (type_of_value a)) (value_is_typed p tf b && some_number (type_of_value b)) ht))
        (left_true (value_is_asked a) (gives a) (left_true (value_is_asked a && gives a) (value_is_asked b && gives b) ha))
        (right_true (value_is_asked a) (gives a) (left_true (value_is_asked a && gives a) (value_is_asked b && gives b) ha)) tt tt h.5)
        (into_does b (If false h.3) t k h.1 h.2 (left_true (value_is_typed p tf b) (some_number (type_of_value b))
        (right_true (value_is_typed p tf a && some_number (type_of_value a)) (value_is_typed p tf b && some_number (type_of_value b)) ht))
        (left_true (value_is_asked b) (gives b) (right_true (value_is_asked a && gives a) (value_is_asked b && gives b) ha))
        (right_true (value_is_asked b) (gives b) (right_true (value_is_asked a && gives a) (value_is_asked b && gives b) ha)) tt tt h.6) h.7
    into_does (typed.both_true a b) (If sense to) t k pc pc2 ht ha w fr su h =
        both_jumps p call q deep f a b t k sense to pc h.0 h.1 pc2 h.2
        (into_does a (If false (choose sense pc2 to)) t k h.0 h.1
        (left_true (value_is_typed p tf a) (some_number (type_of_value a))
        (left_true (value_is_typed p tf a && some_number (type_of_value a)) (value_is_typed p tf b && some_number (type_of_value b)) ht))
        (left_true (value_is_asked a) (gives a) (left_true (value_is_asked a && gives a) (value_is_asked b && gives b) ha))
        (right_true (value_is_asked a) (gives a) (left_true (value_is_asked a && gives a) (value_is_asked b && gives b) ha)) tt tt h.3)
        (into_does b (If sense to) t k h.1 pc2 (left_true (value_is_typed p tf b) (some_number (type_of_value b))
        (right_true (value_is_typed p tf a && some_number (type_of_value a)) (value_is_typed p tf b && some_number (type_of_value b)) ht))
        (left_true (value_is_asked b) (gives b) (right_true (value_is_asked a && gives a) (value_is_asked b && gives b) ha))
        (right_true (value_is_asked b) (gives b) (right_true (value_is_asked a && gives a) (value_is_asked b && gives b) ha)) tt tt h.4)
    into_does (typed.one_true a b) Nowhere t k pc pc2 ht ha w fr su h =
        one_value p call q deep f a b t k Nowhere pc h.0 h.1 h.2 h.3 pc2 fr su refl h.4
        (into_does a (If true h.2) t k h.0 h.1 (left_true (value_is_typed p tf a) (some_number (type_of_value a))
        (left_true (value_is_typed p tf a && some_number (type_of_value a)) (value_is_typed p tf b && some_number (type_of_value b)) ht))
        (left_true (value_is_asked a) (gives a) (left_true (value_is_asked a && gives a) (value_is_asked b && gives b) ha))
        (right_true (value_is_asked a) (gives a) (left_true (value_is_asked a && gives a) (value_is_asked b && gives b) ha)) tt tt h.5)
        (into_does b (If false h.3) t k h.1 h.2 (left_true (value_is_typed p tf b) (some_number (type_of_value b))
        (right_true (value_is_typed p tf a && some_number (type_of_value a)) (value_is_typed p tf b && some_number (type_of_value b)) ht))
        (left_true (value_is_asked b) (gives b) (right_true (value_is_asked a && gives a) (value_is_asked b && gives b) ha))
        (right_true (value_is_asked b) (gives b) (right_true (value_is_asked a && gives a) (value_is_asked b && gives b) ha)) tt tt h.6) h.7
    into_does (typed.one_true a b) (To g) t k pc pc2 ht ha w fr su h =
        one_value p call q deep f a b t k (To g) pc h.0 h.1 h.2 h.3 pc2 fr su refl h.4
        (into_does a (If true h.2) t k h.0 h.1 (left_true (value_is_typed p tf a) (some_number (type_of_value a))
        (left_true (value_is_typed p tf a && some_number (type_of_value a)) (value_is_typed p tf b && some_number (type_of_value b)) ht))
        (left_true (value_is_asked a) (gives a) (left_true (value_is_asked a && gives a) (value_is_asked b && gives b) ha))
        (right_true (value_is_asked a) (gives a) (left_true (value_is_asked a && gives a) (value_is_asked b && gives b) ha)) tt tt h.5)
        (into_does b (If false h.3) t k h.1 h.2 (left_true (value_is_typed p tf b) (some_number (type_of_value b))
        (right_true (value_is_typed p tf a && some_number (type_of_value a)) (value_is_typed p tf b && some_number (type_of_value b)) ht))
        (left_true (value_is_asked b) (gives b) (right_true (value_is_asked a && gives a) (value_is_asked b && gives b) ha))
        (right_true (value_is_asked b) (gives b) (right_true (value_is_asked a && gives a) (value_is_asked b && gives b) ha)) tt tt h.6) h.7
    into_does (typed.one_true a b) (If sense to) t k pc pc2 ht ha w fr su h =
        one_jumps p call q deep f a b t k sense to pc h.0 h.1 pc2 h.2
        (into_does a (If true (choose sense to pc2)) t k h.0 h.1
        (left_true (value_is_typed p tf a) (some_number (type_of_value a))
        (left_true (value_is_typed p tf a && some_number (type_of_value a)) (value_is_typed p tf b && some_number (type_of_value b)) ht))
        (left_true (value_is_asked a) (gives a) (left_true (value_is_asked a && gives a) (value_is_asked b && gives b) ha))
        (right_true (value_is_asked a) (gives a) (left_true (value_is_asked a && gives a) (value_is_asked b && gives b) ha)) tt tt h.3)
        (into_does b (If sense to) t k h.1 pc2 (left_true (value_is_typed p tf b) (some_number (type_of_value b))
        (right_true (value_is_typed p tf a && some_number (type_of_value a)) (value_is_typed p tf b && some_number (type_of_value b)) ht))
        (left_true (value_is_asked b) (gives b) (right_true (value_is_asked a && gives a) (value_is_asked b && gives b) ha))
        (right_true (value_is_asked b) (gives b) (right_true (value_is_asked a && gives a) (value_is_asked b && gives b) ha)) tt tt h.4)
    into_does (typed.chosen (Some u) c a b) m t k pc pc2 ht ha w fr su h =
        chosen_does p call q deep f (Some u) c a b m t k
        (λ e v hv. same_chosen p call q deep f u m v (left_true (is_wide u) ((value_is_asked c && gives c) && (value_is_asked a && value_is_asked b)) ha)
        (ranged (extent e) v hv)) (λ v. converted_fits u v) pc h.0 h.1 h.2 h.3 pc2 h.4
        (into_does c (If false h.3) t k h.0 h.1 (left_true (value_is_typed p tf c) (some_number (type_of_value c))
        (left_true (value_is_typed p tf c && some_number (type_of_value c))
        ((value_is_typed p tf a && some_number (type_of_value a)) && (value_is_typed p tf b && some_number (type_of_value b))) ht))
        (left_true (value_is_asked c) (gives c) (left_true (value_is_asked c && gives c) (value_is_asked a && value_is_asked b)
        (right_true (is_wide u) ((value_is_asked c && gives c) && (value_is_asked a && value_is_asked b)) ha)))
        (right_true (value_is_asked c) (gives c)
        (left_true (value_is_asked c && gives c) (value_is_asked a && value_is_asked b)
        (right_true (is_wide u) ((value_is_asked c && gives c) && (value_is_asked a && value_is_asked b)) ha))) tt tt h.5)
        (into_does a m t k h.1 h.2 (left_true (value_is_typed p tf a) (some_number (type_of_value a))
        (left_true (value_is_typed p tf a && some_number (type_of_value a)) (value_is_typed p tf b && some_number (type_of_value b))
        (right_true (value_is_typed p tf c && some_number (type_of_value c))
        ((value_is_typed p tf a && some_number (type_of_value a)) && (value_is_typed p tf b && some_number (type_of_value b))) ht)))
        (left_true (value_is_asked a) (value_is_asked b)
        (right_true (value_is_asked c && gives c) (value_is_asked a && value_is_asked b)
        (right_true (is_wide u) ((value_is_asked c && gives c) && (value_is_asked a && value_is_asked b)) ha)))
        (wanted_left m (gives a) (gives b) w) fr
        (suits_through p call q deep f m u (extent a)
        (wide_stays u (extent a) (left_true (is_wide u)
        ((value_is_asked c && gives c) && (value_is_asked a && value_is_asked b)) ha)) su) h.6) h.7
        (into_does b m t k h.3 pc2 (left_true (value_is_typed p tf b) (some_number (type_of_value b))
        (right_true (value_is_typed p tf a && some_number (type_of_value a)) (value_is_typed p tf b && some_number (type_of_value b))
        (right_true (value_is_typed p tf c && some_number (type_of_value c))
        ((value_is_typed p tf a && some_number (type_of_value a)) && (value_is_typed p tf b && some_number (type_of_value b))) ht)))
        (right_true (value_is_asked a) (value_is_asked b)
        (right_true (value_is_asked c && gives c) (value_is_asked a && value_is_asked b)
        (right_true (is_wide u) ((value_is_asked c && gives c) && (value_is_asked a && value_is_asked b)) ha)))
        (wanted_right m (gives a) (gives b) w) fr
        (suits_through p call q deep f m u (extent b)
        (wide_stays u (extent b) (left_true (is_wide u)
        ((value_is_asked c && gives c) && (value_is_asked a && value_is_asked b)) ha)) su) h.8)
    into_does (typed.chosen None c a b) Nowhere t k pc pc2 ht ha w fr su h =
        chosen_does p call q deep f None c a b Nowhere t k (λ e v hv. tt) (λ v. zero_fits None) pc h.0 h.1 h.2 h.3 pc2 h.4
        (into_does c (If false h.3) t k h.0 h.1 (left_true (value_is_typed p tf c) (some_number (type_of_value c))
        (left_true (value_is_typed p tf c && some_number (type_of_value c))
        (value_is_typed p tf a && (same_none (type_of_value a) && (value_is_typed p tf b && same_none (type_of_value b)))) ht))
        (left_true (value_is_asked c) (gives c) (left_true (value_is_asked c && gives c) (value_is_asked a && value_is_asked b) ha))
        (right_true (value_is_asked c) (gives c) (left_true (value_is_asked c && gives c) (value_is_asked a && value_is_asked b) ha)) tt tt h.5)
        (into_does a Nowhere t k h.1 h.2 (left_true (value_is_typed p tf a)
        (same_none (type_of_value a) && (value_is_typed p tf b && same_none (type_of_value b)))
        (right_true (value_is_typed p tf c && some_number (type_of_value c))
        (value_is_typed p tf a && (same_none (type_of_value a) && (value_is_typed p tf b && same_none (type_of_value b)))) ht))
        (left_true (value_is_asked a) (value_is_asked b) (right_true (value_is_asked c && gives c) (value_is_asked a && value_is_asked b) ha))
        tt tt tt h.6) h.7
        (into_does b Nowhere t k h.3 pc2 (left_true (value_is_typed p tf b) (same_none (type_of_value b))
        (right_true (same_none (type_of_value a)) (value_is_typed p tf b && same_none (type_of_value b))
        (right_true (value_is_typed p tf a) (same_none (type_of_value a) && (value_is_typed p tf b && same_none (type_of_value b)))
        (right_true (value_is_typed p tf c && some_number (type_of_value c))
        (value_is_typed p tf a && (same_none (type_of_value a) && (value_is_typed p tf b && same_none (type_of_value b)))) ht))))
        (right_true (value_is_asked a) (value_is_asked b)
        (right_true (value_is_asked c && gives c) (value_is_asked a && value_is_asked b) ha)) tt tt tt h.8)
    into_does (typed.chosen None c a b) (To g) t k pc pc2 ht ha w fr su h =
        absurd (differ w)
    into_does (typed.chosen None c a b) (If sense to) t k pc pc2 ht ha w fr su h =
        absurd (differ w)
    into_does (typed.sequence a b) m t k pc pc2 ht ha w fr su h =
        sequence_does p call q deep f a b m t k pc h.0 h.1 pc2 h.2
        (into_does a Nowhere t k h.0 h.1 (left_true (value_is_typed p tf a) (value_is_typed p tf b) ht) (left_true (value_is_asked a) (value_is_asked b) ha)
        tt tt tt h.3)
        (into_does b m t k h.1 pc2 (right_true (value_is_typed p tf a) (value_is_typed p tf b) ht) (right_true (value_is_asked a) (value_is_asked b) ha) w fr su
        h.4)
    into_does (typed.cast u e) m t k pc pc2 ht ha w fr su h =
        cast_does p call q deep f (keeps u e) u e m t k pc h.0 pc2 refl
        (number_does e t k (λ n y z. into_does e n t k y z)
        ht
        ha) fr su h.1 h.2
    into_does (typed.discarded e) m t k pc pc2 ht ha w fr su h =
        discarded_does p call q deep f e m t k pc h.0 h.1 pc2 h.2 (into_does e Nowhere t k h.0 h.1 ht ha tt tt tt h.3) fr su h.4
    into_does (typed.call at (typed.function g) result used args) m t k pc pc2 ht ha w fr su h =
        let c = call_is p (typed.function g) result used (callee_type p (typed.function g)) refl
        (right_true (arguments_are_typed p tf (params_of (callee_type p (typed.function g))) args)
        (call_fits result used (callee_type p (typed.function g))) ht) in
        let typed_args : arguments_are_typed p tf c.type.parameters args ≡ true =
        ap (λ o. arguments_are_typed p tf (params_of o) args) (sym c.has)
        ∙ (left_true (arguments_are_typed p tf (params_of (callee_type p (typed.function g))) args)
        (call_fits result used (callee_type p (typed.function g))) ht) in
        function_does p call q deep f at result used args m t k fr su g c.type pc h.0 h.1 h.4.0 pc2 ok c.has
        (are_for c.type.parameters args 0 k h.0 h.1 typed_args h.3) c.gives w (zero_fits result) h.2
        (row_does c.type.parameters args 0 k h.0 h.1 typed_args ha h.3) h.4.1 h.4.2
    into_does (typed.call at typed.get_byte result used args) m t k pc pc2 ht ha w fr su h =
        get_byte_does p call q deep f at result used args m t k fr su pc h.0 h.1 h.4.0 pc2
        (call_result result used (record { result = Some ty.Int; constant = false; parameters = [] })
        (right_true (arguments_are_typed p tf (params_of (callee_type p typed.get_byte)) args) (call_fits result used (callee_type p typed.get_byte))
        ht)) h.2
        (row_does [] args 0 k h.0 h.1 (left_true (arguments_are_typed p tf (params_of (callee_type p typed.get_byte)) args)
        (call_fits result used (callee_type p typed.get_byte)) ht) ha h.3) h.4.1 h.4.2
    into_does (typed.call at typed.put_byte result used args) m t k pc pc2 ht ha w fr su h =
        put_byte_does p call q deep f at result used args m t k fr su pc h.0 h.1 h.4.0 pc2 (zero_fits result) h.2
        (row_does (number ty.Int ∷ []) args 0 k h.0 h.1
        (left_true (arguments_are_typed p tf (params_of (callee_type p typed.put_byte)) args) (call_fits result used (callee_type p typed.put_byte)) ht)
        ha h.3) h.4.1 h.4.2
    into_does (typed.call at typed.exit result used args) m t k pc pc2 ht ha w fr su h =
        exit_does p call q deep f at result used args m t k fr su pc h.0 h.1 pc2 h.2
        (row_does (number ty.Int ∷ []) args 0 k h.0 h.1
        (left_true (arguments_are_typed p tf (params_of (callee_type p typed.exit)) args) (call_fits result used (callee_type p typed.exit)) ht) ha h.3)
        h.4
    into_does (typed.call at (typed.missing name) result used args) m t k pc pc2 ht ha w fr su h =
        absurd (differ (right_true (arguments_are_typed p tf (params_of (callee_type p (typed.missing name))) args)
        (call_fits result used (callee_type p (typed.missing name))) ht))

    -- a place in memory
    pub find_does : (a : Place) (c : Bool) (t k pc pc2 : ℕ) → place_is_typed p tf a ≡ true → place_is_asked a ≡ true → PlaceInMemory p tf call q deep f same a
        → Finds (function_at q f).code (sizes p f) a c t k pc pc2 → FindsDo p tf call q deep f same a c t k pc pc2
    find_does (typed.named at what) c t k pc pc2 ht ha hm h =
        named_found p tf call q deep f same at what c t k pc pc2 hm (has_type (type_of_storage p tf what) ht) h
    find_does (typed.element at array index) c t k pc pc2 ht ha hm h =
        let index_typed = value_is_typed p tf index && some_number (type_of_value index) in
        let h1 = right_true (place_is_typed p tf array) (is_array (type_of_place p tf array) && index_typed) ht in
        let an_array = left_true (is_array (type_of_place p tf array)) index_typed h1 in
        let a1 = right_true (place_is_asked array) (value_is_asked index && gives index) ha in
        element_found p tf call q deep f same at array index c t k an_array pc pc2
        (λ y z i2. find_does array (calls index) t k y z (left_true (place_is_typed p tf array) (is_array (type_of_place p tf array) && index_typed) ht)
        (left_true (place_is_asked array) (value_is_asked index && gives index) ha) (array_in_memory p tf call q deep f same array an_array) i2)
        (number_does index (free_temporary_at (found array (calls index) t k) t) (free_kept_at (found array (calls index) t k) k) (λ n y z. into_does index n (free_temporary_at (found array (calls index) t k) t) (free_kept_at (found array (calls index) t k) k) y z)
        (right_true (is_array (type_of_place p tf array)) index_typed h1)
        a1) h

    pub row_does : (ps : List ParameterType) (args : Arguments) (t k pc pc2 : ℕ) → arguments_are_typed p tf ps args ≡ true → arguments_are_asked args ≡ true
        → Passes (function_at q f).code (sizes p f) args t k pc pc2 → RowDoes p call q deep f ps args t k pc pc2
    row_does [] typed.no_arguments t k pc pc2 ht ha h = none_row p call q deep f t k pc pc2 h
    row_does (number u ∷ ps) (typed.and_number z e more) t k pc pc2 ht ha h =
        number_row p call q deep f u z ps e more t k pc h.0 h.1 pc2
        (same_type_is u z (left_true (same_type u z) ((value_is_typed p tf e && some_number (type_of_value e)) && arguments_are_typed p tf ps more) ht))
        (λ n y zz fr2 su2 i2. into_does e n t k y zz
        (left_true (value_is_typed p tf e) (some_number (type_of_value e))
        (left_true (value_is_typed p tf e && some_number (type_of_value e)) (arguments_are_typed p tf ps more)
        (right_true (same_type u z) ((value_is_typed p tf e && some_number (type_of_value e)) && arguments_are_typed p tf ps more) ht)))
        (left_true (value_is_asked e) (gives e) (left_true (value_is_asked e && gives e) (arguments_are_asked more) ha))
        (wanted_any n (gives e) (right_true (value_is_asked e) (gives e)
        (left_true (value_is_asked e && gives e) (arguments_are_asked more) ha))) fr2 su2 i2) h.2
        (row_does ps more (t + 1) (free_kept (waits_in e (arguments_write more) (arguments_call more) t k) k) h.0 h.1
        (right_true (value_is_typed p tf e && some_number (type_of_value e)) (arguments_are_typed p tf ps more)
        (right_true (same_type u z) ((value_is_typed p tf e && some_number (type_of_value e)) && arguments_are_typed p tf ps more) ht))
        (right_true (value_is_asked e && gives e) (arguments_are_asked more) ha) h.3) h.4
    row_does (elements u ∷ ps) (typed.and_array array more) t k pc pc2 ht ha h =
        let rows = rows_alike u (rows_of (type_of_place p tf array)) in
        let h1 = right_true (place_is_typed p tf array) (rows && arguments_are_typed p tf ps more) ht in
        array_row p tf call q deep f same u ps array more t k pc h.0 h.1 pc2 (left_true rows (arguments_are_typed p tf ps more) h1)
        (find_does array (arguments_call more) t k pc h.0 (left_true (place_is_typed p tf array) (rows && arguments_are_typed p tf ps more) ht)
        (left_true (place_is_asked array) (arguments_are_asked more) ha)
        (rows_in_memory p tf call q deep f same u array (left_true rows (arguments_are_typed p tf ps more) h1)) h.2)
        (row_does ps more (t + 1) (free_kept_at (found array (arguments_call more) t k) k) h.0 h.1 (right_true rows (arguments_are_typed p tf ps more) h1)
        (right_true (place_is_asked array) (arguments_are_asked more) ha) h.3) h.4
    row_does [] (typed.and_number u e more) t k pc pc2 ht ha h = absurd (differ ht)
    row_does [] (typed.and_array array more) t k pc pc2 ht ha h = absurd (differ ht)
    row_does (number u ∷ ps) typed.no_arguments t k pc pc2 ht ha h = absurd (differ ht)
    row_does (number u ∷ ps) (typed.and_array array more) t k pc pc2 ht ha h = absurd (differ ht)
    row_does (elements u ∷ ps) typed.no_arguments t k pc pc2 ht ha h = absurd (differ ht)
    row_does (elements u ∷ ps) (typed.and_number z e more) t k pc pc2 ht ha h = absurd (differ ht)
