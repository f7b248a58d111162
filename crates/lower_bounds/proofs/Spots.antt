-- Where lvalues and arrays of a typed program are found: the objects that they name exist.
use Rattle.std.proofs.Common.{◌≡◌, ℕ, zero, suc, ◌+◌, ◌<◌, ◌≤◌, List, [], ◌∷◌, length, map, Option, Some, None, Bool, true, false, refl, ap, ◌∙◌, arith}
use Rattle.std.specs.Prelude.{nat_lt, slice_get}
use Rattle.std.proofs.lemmas.Option.{slice_get_within}
use Rattle.std.proofs.lemmas.Bool.Decides.{nat_tests}
use Rattle.ctypes.specs.declared.types.IntType.{IntType}
use Rattle.typing_spec.specs.Types.{ObjectType, DeclaredType, complete, unknown_size, ParameterType, number, elements, inner_type}
use Rattle.typing_spec.specs.Program as typed
use Rattle.typing_spec.specs.Program.{Storage, Static, Place, Value}
use Rattle.typing_spec.specs.Nodes.{text_type, object_type, reference_in, type_of_place, place_nodes, value_nodes, argument_nodes}
use Rattle.typing_spec.specs.WellTyped.{is_array, rows_of, rows_alike, place_is_typed}
use Rattle.tac_code.specs.Costs.{array_parameters}
use Rattle.tac_code.specs.Designated.{is_defined, in_place}
use Rattle.tac_code.specs.Lowered.{kind_of}
use Rattle.tac_code.specs.declared.code.Place.{Place as Spot}
use Rattle.tac_code.specs.declared.code.Place.TheVariants as place
use Rattle.tac_code.specs.Code.{scalar_type, type_if_scalar}
use Rattle.lower_correct.specs.Values.{object_of}
use Rattle.lower_correct.specs.Places.{target_for, named_spot, found, free_temporary_at, free_kept_at}
use Rattle.lower_correct.proofs.Words.{differ}
use Rattle.lower_bounds.proofs.Grounds.{Ground, SpotFine, Lands, StaysAt}
use Rattle.lower_bounds.proofs.Operands.{Free, operand_fine, more_temporaries, more_kept}

-- ---- there is a node in each

some : (n : ℕ) → 1 ≤ n + 1
some n = omega arith

pub some_place : (place : Place) → 1 ≤ place_nodes place
some_place (typed.named at what) = let e : 1 ≤ 1 = omega arith in e
some_place (typed.element at a i) = some (place_nodes a + value_nodes i)

pub some_value : (e : Value) → 1 ≤ value_nodes e
some_value (typed.constant t v) = let e : 1 ≤ 1 = omega arith in e
some_value (typed.read u place) = some_place place
some_value (typed.assigned at u place e) = some (place_nodes place + value_nodes e)
some_value (typed.compound at o u of place e) = some (place_nodes place + value_nodes e)
some_value (typed.stepped at moment o u of place) = some (place_nodes place)
some_value (typed.unary at o u e) = some (value_nodes e)
some_value (typed.binary at o u a b) = some (value_nodes a + value_nodes b)
some_value (typed.both_true a b) = some (value_nodes a + value_nodes b)
some_value (typed.one_true a b) = some (value_nodes a + value_nodes b)
some_value (typed.chosen u c a b) = some (value_nodes c + value_nodes a + value_nodes b)
some_value (typed.sequence a b) = some (value_nodes a + value_nodes b)
some_value (typed.cast u e) = some (value_nodes e)
some_value (typed.discarded e) = some (value_nodes e)
some_value (typed.call at callee result used arguments) = some (argument_nodes arguments)

-- ---- the object that a name denotes

abbrev Has : Option DeclaredType → Bool
Has o = elim o as (λ x. Bool) [ None ↦ false | Some t ↦ true ]

some_more : (n : ℕ) → 0 < suc n
some_more n = omega arith

next_lt : (n m : ℕ) → n < m → suc n < suc m
next_lt n m h = omega (arith, h)

parameter_below : (ps : List ParameterType) (n : ℕ) → Has (reference_in ps n) ≡ true → n < array_parameters (map kind_of ps)
parameter_below [] n h = absurd (differ h)
parameter_below (number t ∷ ps) n h = parameter_below ps n h
parameter_below (elements t ∷ ps) zero h = some_more (array_parameters (map kind_of ps))
parameter_below (elements t ∷ ps) (suc n) h = next_lt n (array_parameters (map kind_of ps)) (parameter_below ps n h)

literal_below : (texts : List (List ℕ)) (n : ℕ) (o : Option (List ℕ)) → slice_get texts n ≡ o → Has (text_type o) ≡ true → n < length texts
literal_below texts n None e h = absurd (differ h)
literal_below texts n (Some text) e h = slice_get_within texts n text e

static_there : (os : List Static) (n : ℕ) (o : Option Static) → slice_get os n ≡ o → is_defined o ≡ true
    → (x : Static) × (slice_get os n ≡ Some x) × (x.defined ≡ true)
static_there os n None e h = absurd (differ h)
static_there os n (Some x) e h = (x, e, h)

no_scalar : (lengths : List ℕ) (t : IntType) → nat_lt 0 (length lengths) ≡ true → type_if_scalar lengths t ≡ None
no_scalar [] t h = absurd (differ h)
no_scalar (n ∷ lengths) t h = refl

array_there : (os : List ObjectType) (n : ℕ) (o : Option ObjectType) → slice_get os n ≡ o → is_array (object_type o) ≡ true
    → (n < length os) × (scalar_type (slice_get os n) ≡ None)
array_there os n None e h = absurd (differ h)
array_there os n (Some t) e h = (slice_get_within os n t e, ap scalar_type e ∙ no_scalar t.lengths t.element h)

some_length : (n : ℕ) → nat_lt 0 (suc n) ≡ true
some_length n = grind (arith, nat_tests)

-- an object that has rows is an array
rows_by : (t : ObjectType) (e : IntType) (c : Bool) (lengths : List ℕ) → rows_alike t (inner_type e c lengths) ≡ true → nat_lt 0 (length lengths) ≡ true
rows_by t e c [] h = absurd (differ h)
rows_by t e c (n ∷ lengths) h = some_length (length lengths)

pub has_rows : (t : ObjectType) (T : Option DeclaredType) → rows_alike t (rows_of T) ≡ true → is_array T ≡ true
has_rows t None h = absurd (differ h)
has_rows t (Some (unknown_size u)) h = refl
has_rows t (Some (complete u)) h = rows_by t u.element u.constant u.lengths h

same : (t : ℕ) → t ≤ t
same t = omega arith

nodes_beside : (t a i : ℕ) → 1 ≤ a → 1 ≤ i → t + 1 + 1 ≤ t + (a + i + 1)
nodes_beside t a i x y = omega (arith, x, y)

fewer_beside : (t a i : ℕ) → t + 1 ≤ t + (a + i + 1)
fewer_beside t a i = omega arith

pub free_beside : (a : Place) (c : Bool) (t k : ℕ) → free_temporary_at (found a c t k) t + 1 ≤ t + place_nodes a
free_beside (typed.named at (typed.literal n)) c t k = same (t + 1)
free_beside (typed.named at (typed.static n)) c t k = same (t + 1)
free_beside (typed.named at (typed.automatic n)) c t k = same (t + 1)
free_beside (typed.named at (typed.parameter n)) c t k = same (t + 1)
free_beside (typed.element at a i) true t k = fewer_beside t (place_nodes a) (value_nodes i)
free_beside (typed.element at a i) false t k = nodes_beside t (place_nodes a) (value_nodes i) (some_place a) (some_value i)

no_more : (t : ℕ) → t ≤ t + 1
no_more t = omega arith

module _ (z : Ground) where
  abbrev P : Place → Bool
  P a = place_is_typed z.source z.function a

  abbrev D : Place → Bool
  D a = in_place z.source a

  -- the name of a value in memory
  abbrev pub NamedFine : Place → Type 0
  NamedFine (typed.named at what) = SpotFine z (named_spot what)
  NamedFine (typed.element at array index) = Unit {0}

  pub array_fine : (a : Place) → P a ≡ true → D a ≡ true → is_array (type_of_place z.source z.function a) ≡ true → NamedFine a
  array_fine (typed.named at (typed.literal n)) h d r = literal_below z.source.literals n (slice_get z.source.literals n) refl h
  array_fine (typed.named at (typed.static n)) h d r = static_there z.source.statics n (slice_get z.source.statics n) refl d
  array_fine (typed.named at (typed.automatic n)) h d r = array_there z.function.objects n (slice_get z.function.objects n) refl r
  array_fine (typed.named at (typed.parameter n)) h d r = parameter_below z.function.type.parameters n h
  array_fine (typed.element at array index) h d r = tt

  pub memory_fine : (a : Place) → P a ≡ true → D a ≡ true → object_of a ≡ None → NamedFine a
  memory_fine (typed.named at (typed.literal n)) h d r = literal_below z.source.literals n (slice_get z.source.literals n) refl h
  memory_fine (typed.named at (typed.static n)) h d r = static_there z.source.statics n (slice_get z.source.statics n) refl d
  memory_fine (typed.named at (typed.automatic n)) h d r = absurd (let no_such : ⊥ = cc in no_such)
  memory_fine (typed.named at (typed.parameter n)) h d r = parameter_below z.function.type.parameters n h
  memory_fine (typed.element at array index) h d r = tt

  -- ---- where it is found

  found_stays : (a : Place) (c : Bool) (t k : ℕ) → NamedFine a → StaysAt z (found a c t k) t k
  found_stays (typed.named at (typed.literal n)) c t k h = h
  found_stays (typed.named at (typed.static n)) c t k h = h
  found_stays (typed.named at (typed.automatic n)) c t k h = h
  found_stays (typed.named at (typed.parameter n)) c t k h = h
  found_stays (typed.element at a i) true t k h = same k
  found_stays (typed.element at a i) false t k h = same t

  spot_fine : (a : Spot) (t k : ℕ) → Free z t k → StaysAt z a t k → SpotFine z a
  spot_fine (place.Literal n) t k f s = s
  spot_fine (place.Static n) t k f s = s
  spot_fine (place.Array n) t k f s = s
  spot_fine (place.Element n i u) t k f s = s
  spot_fine (place.At o) t k f s = operand_fine z o t k f s

  pub found_fine : (a : Place) (c : Bool) (t k : ℕ) → Free z t k → NamedFine a → SpotFine z (found a c t k)
  found_fine a c t k f h = spot_fine (found a c t k) t k f (found_stays a c t k h)

  pub lands_for : (c : Bool) (t k : ℕ) → Lands z (target_for c t k) t k
  lands_for true t k = same k
  lands_for false t k = same t

  pub more_temporaries_at : (a : Spot) (t : ℕ) → free_temporary_at a t ≤ t + 1
  more_temporaries_at (place.Literal n) t = no_more t
  more_temporaries_at (place.Static n) t = no_more t
  more_temporaries_at (place.Array n) t = no_more t
  more_temporaries_at (place.Element n i u) t = no_more t
  more_temporaries_at (place.At o) t = more_temporaries z o t

  pub more_kept_at : (a : Spot) (k : ℕ) → free_kept_at a k ≤ k + 1
  more_kept_at (place.Literal n) k = no_more k
  more_kept_at (place.Static n) k = no_more k
  more_kept_at (place.Array n) k = no_more k
  more_kept_at (place.Element n i u) k = no_more k
  more_kept_at (place.At o) k = more_kept z o k
