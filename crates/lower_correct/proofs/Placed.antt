-- Reads and writes, by whether the place is an operand or is in memory.
use Rattle.std.proofs.Common.{◌≡◌, ℕ, Bool, true, false, ◌&&◌, refl, sym, subst}
use Rattle.std.specs.Prelude.{slice_get}
use Rattle.srcset.specs.declared.refusal.Pos.{Pos}
use Rattle.ctypes.specs.declared.types.IntType.{IntType}
use Rattle.ctypes.specs.declared.operators.BinOp.{BinOp}
use Rattle.tree.specs.declared.expression.StepOp.{StepOp}
use Rattle.typing_spec.specs.Types.{ObjectType}
use Rattle.typing_spec.specs.Program as typed
use Rattle.typing_spec.specs.Program.{Moment, Place, Function, Value as Expression}
use Rattle.typing_spec.specs.Nodes.{type_of_value, type_of_place, object_type}
use Rattle.typing_spec.specs.WellTyped.{is_array, is_scalar, rows_of, rows_alike, some_number, place_is_typed, value_is_typed}
use Rattle.csem.specs.Expressions.{Calling}
use Rattle.tac_code.specs.Code.{Program, function_at}
use Rattle.lower_wf.specs.Asked.{is_wide}
use Rattle.lower_correct.specs.Values.{calls, Mode}
use Rattle.lower_correct.specs.Places.{found, free_temporary_at, free_kept_at}
use Rattle.lower_correct.specs.Code.{Finds, Into}
use Rattle.lower_correct.proofs.Words.{left_true, right_true}
use Rattle.lower_correct.proofs.Standing.{sizes, IsCode}
use Rattle.lower_correct.proofs.Goods.{IsFreeFor, Suits}
use Rattle.lower_correct.proofs.Leaves.{IsNumber, IntoDoes, read_does, assign_does}
use Rattle.lower_correct.proofs.Changing.{compound_does}
use Rattle.lower_correct.proofs.Stepping.{step_does}
use Rattle.lower_correct.proofs.Operators.{DoesAt}
use Rattle.lower_correct.proofs.Typing.{number_is}
use Rattle.lower_correct.proofs.Finding.{InMemory, FindsDo}
use Rattle.lower_correct.proofs.Accesses.{get_does}
use Rattle.lower_correct.proofs.Assigning.{assigned_does, compound_memory}
use Rattle.lower_correct.proofs.Advancing.{step_memory}
use Rattle.lower_correct.proofs.Handing.{rows_of_array}

module _ (p : typed.Program) (tf : Function) (call : Calling) (q : Program) (deep f : ℕ) (same : IsCode p tf q f) where
  -- ---- places

  abbrev pub PlaceInMemory : Place → Type 0
  PlaceInMemory (typed.named at what) = InMemory p tf call q deep f same what
  PlaceInMemory (typed.element at array index) = Unit {0}

  pub array_in_memory : (a : Place) → is_array (type_of_place p tf a) ≡ true → PlaceInMemory a
  array_in_memory (typed.named at (typed.literal n)) h = tt
  array_in_memory (typed.named at (typed.static n)) h = tt
  array_in_memory (typed.named at (typed.automatic n)) h = h
  array_in_memory (typed.named at (typed.parameter n)) h = tt
  array_in_memory (typed.element at array index) h = tt

  pub rows_in_memory : (u : ObjectType) (a : Place) → rows_alike u (rows_of (type_of_place p tf a)) ≡ true → PlaceInMemory a
  rows_in_memory u a h = array_in_memory a (rows_of_array u (type_of_place p tf a) h)

  abbrev pub FindsFor : Place → Bool → ℕ → ℕ → Type 0
  FindsFor a c t k = (pc pc2 : ℕ) → PlaceInMemory a → Finds (function_at q f).code (sizes p f) a c t k pc pc2 → FindsDo p tf call q deep f same a c t k pc pc2

  abbrev P : Place → Bool
  P place = place_is_typed p tf place

  abbrev S : IntType → Place → Bool
  S u place = is_scalar u (type_of_place p tf place)

  abbrev N : Expression → Bool
  N e = value_is_typed p tf e && some_number (type_of_value e)

  -- an automatic object
  number_at : (x : ℕ) (u : IntType) → is_scalar u (object_type (slice_get tf.objects x)) ≡ true → IsNumber (function_at q f).objects x u
  number_at x u h = subst (λ l. IsNumber l x u) (sym same.objects) (number_is tf.objects x u (slice_get tf.objects x) refl h)

  scalar_of : (u : IntType) (place : Place) (b : Bool) → (P place && (S u place && b)) ≡ true → S u place ≡ true
  scalar_of u place b h = left_true (S u place) b (right_true (P place) (S u place && b) h)

  -- ---- reads

  pub placed_read : (u : IntType) (place : Place) (m : Mode) (t k pc pc2 : ℕ) → (P place && S u place) ≡ true → FindsFor place false t k → IsFreeFor m t k
      → Suits p q f m u → Into (function_at q f).code (sizes p f) (typed.read u place) m t k pc pc2 → IntoDoes p call q deep f (typed.read u place) m t k pc pc2
  placed_read u (typed.named at (typed.automatic x)) m t k pc pc2 ht finds fr su h =
      read_does p call q deep f at x u m t k pc pc2
      (number_at x u (right_true (P (typed.named at (typed.automatic x))) (S u (typed.named at (typed.automatic x))) ht)) fr su h
  placed_read u (typed.named at (typed.literal x)) m t k pc pc2 ht finds fr su h =
      let a = typed.named at (typed.literal x) in
      get_does p tf call q deep f same a u m t k pc h.0 pc2 refl (right_true (P a) (S u a) ht) fr su (finds pc h.0 tt h.1) h.2
  placed_read u (typed.named at (typed.static x)) m t k pc pc2 ht finds fr su h =
      let a = typed.named at (typed.static x) in
      get_does p tf call q deep f same a u m t k pc h.0 pc2 refl (right_true (P a) (S u a) ht) fr su (finds pc h.0 tt h.1) h.2
  placed_read u (typed.named at (typed.parameter x)) m t k pc pc2 ht finds fr su h =
      let a = typed.named at (typed.parameter x) in
      get_does p tf call q deep f same a u m t k pc h.0 pc2 refl (right_true (P a) (S u a) ht) fr su (finds pc h.0 tt h.1) h.2
  placed_read u (typed.element at array index) m t k pc pc2 ht finds fr su h =
      let a = typed.element at array index in
      get_does p tf call q deep f same a u m t k pc h.0 pc2 refl (right_true (P a) (S u a) ht) fr su (finds pc h.0 tt h.1) h.2

  -- ---- assignments

  pub placed_assigned : (at : Pos) (u : IntType) (place : Place) (e : Expression) (m : Mode) (t k pc pc2 : ℕ) → (P place && (S u place && N e)) ≡ true
      → FindsFor place (calls e) t k → ((t2 k2 : ℕ) → DoesAt p call q deep f e t2 k2) → IsFreeFor m t k → Suits p q f m u
      → Into (function_at q f).code (sizes p f) (typed.assigned at u place e) m t k pc pc2 → IntoDoes p call q deep f (typed.assigned at u place e) m t k pc pc2
  placed_assigned at u (typed.named at2 (typed.automatic x)) e m t k pc pc2 ht finds does fr su h =
      assign_does p call q deep f at at2 u x e m t k pc pc2 (number_at x u (scalar_of u (typed.named at2 (typed.automatic x)) (N e) ht)) fr su (does t k) h
  placed_assigned at u (typed.named at2 (typed.literal x)) e m t k pc pc2 ht finds does fr su h =
      let a = typed.named at2 (typed.literal x) in
      assigned_does p tf call q deep f same at a u e m t k refl (scalar_of u a (N e) ht) fr su pc h.0 h.1 h.2 pc2 (finds h.0 h.1 tt h.4)
      (does (free_temporary_at (found a (calls e) t k) t) (free_kept_at (found a (calls e) t k) k)) h.3 h.5 h.6
  placed_assigned at u (typed.named at2 (typed.static x)) e m t k pc pc2 ht finds does fr su h =
      let a = typed.named at2 (typed.static x) in
      assigned_does p tf call q deep f same at a u e m t k refl (scalar_of u a (N e) ht) fr su pc h.0 h.1 h.2 pc2 (finds h.0 h.1 tt h.4)
      (does (free_temporary_at (found a (calls e) t k) t) (free_kept_at (found a (calls e) t k) k)) h.3 h.5 h.6
  placed_assigned at u (typed.named at2 (typed.parameter x)) e m t k pc pc2 ht finds does fr su h =
      let a = typed.named at2 (typed.parameter x) in
      assigned_does p tf call q deep f same at a u e m t k refl (scalar_of u a (N e) ht) fr su pc h.0 h.1 h.2 pc2 (finds h.0 h.1 tt h.4)
      (does (free_temporary_at (found a (calls e) t k) t) (free_kept_at (found a (calls e) t k) k)) h.3 h.5 h.6
  placed_assigned at u (typed.element at2 array index) e m t k pc pc2 ht finds does fr su h =
      let a = typed.element at2 array index in
      assigned_does p tf call q deep f same at a u e m t k refl (scalar_of u a (N e) ht) fr su pc h.0 h.1 h.2 pc2 (finds h.0 h.1 tt h.4)
      (does (free_temporary_at (found a (calls e) t k) t) (free_kept_at (found a (calls e) t k) k)) h.3 h.5 h.6

  pub placed_compound : (at : Pos) (o : BinOp) (u of : IntType) (place : Place) (e : Expression) (m : Mode) (t k pc pc2 : ℕ)
      → (P place && (S u place && N e)) ≡ true → is_wide of ≡ true
      → FindsFor place (calls e) t k → ((t2 k2 : ℕ) → DoesAt p call q deep f e t2 k2) → IsFreeFor m t k → Suits p q f m u
      → Into (function_at q f).code (sizes p f) (typed.compound at o u of place e) m t k pc pc2
      → IntoDoes p call q deep f (typed.compound at o u of place e) m t k pc pc2
  placed_compound at o u of (typed.named at2 (typed.automatic x)) e m t k pc pc2 ht hof finds does fr su h =
      compound_does p call q deep f at at2 o u of x e m t k hof (number_at x u (scalar_of u (typed.named at2 (typed.automatic x)) (N e) ht)) fr su pc pc2
      (does t k) h
  placed_compound at o u of (typed.named at2 (typed.literal x)) e m t k pc pc2 ht hof finds does fr su h =
      let a = typed.named at2 (typed.literal x) in
      compound_memory p tf call q deep f same at o u of a e m t k refl (scalar_of u a (N e) ht) hof fr su pc h.0 h.1 h.2 h.3 pc2 (finds h.0 h.1 tt h.5)
      (does (free_temporary_at (found a (calls e) t k) t) (free_kept_at (found a (calls e) t k) k)) h.4 h.6 h.7 h.8
  placed_compound at o u of (typed.named at2 (typed.static x)) e m t k pc pc2 ht hof finds does fr su h =
      let a = typed.named at2 (typed.static x) in
      compound_memory p tf call q deep f same at o u of a e m t k refl (scalar_of u a (N e) ht) hof fr su pc h.0 h.1 h.2 h.3 pc2 (finds h.0 h.1 tt h.5)
      (does (free_temporary_at (found a (calls e) t k) t) (free_kept_at (found a (calls e) t k) k)) h.4 h.6 h.7 h.8
  placed_compound at o u of (typed.named at2 (typed.parameter x)) e m t k pc pc2 ht hof finds does fr su h =
      let a = typed.named at2 (typed.parameter x) in
      compound_memory p tf call q deep f same at o u of a e m t k refl (scalar_of u a (N e) ht) hof fr su pc h.0 h.1 h.2 h.3 pc2 (finds h.0 h.1 tt h.5)
      (does (free_temporary_at (found a (calls e) t k) t) (free_kept_at (found a (calls e) t k) k)) h.4 h.6 h.7 h.8
  placed_compound at o u of (typed.element at2 array index) e m t k pc pc2 ht hof finds does fr su h =
      let a = typed.element at2 array index in
      compound_memory p tf call q deep f same at o u of a e m t k refl (scalar_of u a (N e) ht) hof fr su pc h.0 h.1 h.2 h.3 pc2 (finds h.0 h.1 tt h.5)
      (does (free_temporary_at (found a (calls e) t k) t) (free_kept_at (found a (calls e) t k) k)) h.4 h.6 h.7 h.8

  -- ---- steps

  pub placed_stepped : (at : Pos) (moment : Moment) (o : StepOp) (u of : IntType) (place : Place) (m : Mode) (t k pc pc2 : ℕ)
      → (P place && S u place) ≡ true → is_wide of ≡ true → FindsFor place false t k → IsFreeFor m t k → Suits p q f m u
      → Into (function_at q f).code (sizes p f) (typed.stepped at moment o u of place) m t k pc pc2
      → IntoDoes p call q deep f (typed.stepped at moment o u of place) m t k pc pc2
  placed_stepped at moment o u of (typed.named at2 (typed.automatic x)) m t k pc pc2 ht hof finds fr su h =
      step_does p call q deep f at at2 o u of x t k hof
      (number_at x u (right_true (P (typed.named at2 (typed.automatic x))) (S u (typed.named at2 (typed.automatic x))) ht)) moment m pc pc2 fr su h
  placed_stepped at moment o u of (typed.named at2 (typed.literal x)) m t k pc pc2 ht hof finds fr su h =
      let a = typed.named at2 (typed.literal x) in
      step_memory p tf call q deep f same at o u of a t k refl (right_true (P a) (S u a) ht) hof moment m pc h.0 h.1 h.2 pc2 fr su (finds h.0 h.1 tt h.4)
      h.3 h.5 h.6
  placed_stepped at moment o u of (typed.named at2 (typed.static x)) m t k pc pc2 ht hof finds fr su h =
      let a = typed.named at2 (typed.static x) in
      step_memory p tf call q deep f same at o u of a t k refl (right_true (P a) (S u a) ht) hof moment m pc h.0 h.1 h.2 pc2 fr su (finds h.0 h.1 tt h.4)
      h.3 h.5 h.6
  placed_stepped at moment o u of (typed.named at2 (typed.parameter x)) m t k pc pc2 ht hof finds fr su h =
      let a = typed.named at2 (typed.parameter x) in
      step_memory p tf call q deep f same at o u of a t k refl (right_true (P a) (S u a) ht) hof moment m pc h.0 h.1 h.2 pc2 fr su (finds h.0 h.1 tt h.4)
      h.3 h.5 h.6
  placed_stepped at moment o u of (typed.element at2 array index) m t k pc pc2 ht hof finds fr su h =
      let a = typed.element at2 array index in
      step_memory p tf call q deep f same at o u of a t k refl (right_true (P a) (S u a) ht) hof moment m pc h.0 h.1 h.2 pc2 fr su (finds h.0 h.1 tt h.4)
      h.3 h.5 h.6
