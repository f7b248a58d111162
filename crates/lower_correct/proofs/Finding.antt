-- The code finds lvalues and arrays in memory (ISO/IEC 9899:2011 6.3.2.1, 6.5.2.1), if it follows their indices.
use Rattle.std.proofs.Common.{◌≡◌, inl, inr, ℕ, zero, suc, ◌+◌, ◌*◌, ◌<◌, ◌≤◌, List, [], ◌∷◌, length, map, Option, Some, None, Bool, true, false, ◌||◌, ℤ, pos, negsuc, refl, sym, ap, ◌∙◌, subst, arith}
use Rattle.std.specs.Prelude.{◌%◌, ◌^◌, nat_lt, slice_get, option_map}
use Rattle.std.proofs.lemmas.Int.{ints}
use Rattle.std.proofs.lemmas.Bool.Decides.{nat_tests}
use Rattle.srcset.specs.declared.refusal.Pos.{Pos}
use Rattle.ctypes.specs.declared.types.IntType.{IntType}
use Rattle.ctypes.specs.declared.operators.Undef.TheVariants.{U5}
use Rattle.ctypes.specs.Types.{bytes_of}
use Rattle.typing_spec.specs.Types.{ObjectType, DeclaredType, complete, unknown_size, ParameterType, number, elements, elements_in}
use Rattle.typing_spec.specs.Program as typed
use Rattle.typing_spec.specs.Program.{Storage, Place, Function, Value as Expression}
use Rattle.typing_spec.specs.Nodes.{text_type, static_type, object_type, reference_in, type_of_storage, row_type, type_of_place}
use Rattle.typing_spec.specs.WellTyped.{is_array}
use Rattle.csem.specs.Store.{Reference, whole, into, tree_at, length_of}
use Rattle.csem.specs.Machine as machine
use Rattle.csem.specs.Machine.{Run, Goes, Stops, then_do, tick, choose, undefined, or_first, designated, subscripted}
use Rattle.csem.specs.Expressions.{Calling, evaluate, find}
use Rattle.tac_code.specs.declared.code.Operand.{Operand}
use Rattle.tac_code.specs.declared.code.Operand.TheVariants as operand
use Rattle.tac_code.specs.declared.code.Target.{Target}
use Rattle.tac_code.specs.declared.code.Target.TheVariants as target
use Rattle.tac_code.specs.declared.code.Place.{Place as Spot}
use Rattle.tac_code.specs.declared.code.Place.TheVariants as place
use Rattle.tac_code.specs.declared.code.Instruction.TheVariants as instruction
use Rattle.tac_code.specs.Code.{Program, function_at, scalar_type, type_if_scalar}
use Rattle.tac_code.specs.Run.{reference, Call, State, running, reference_in as reference_of_value, word_for, array_if}
use Rattle.lower_correct.specs.Values.{calls, place_calls, writes, place_writes, writes_none, pending, at_rest, constant_or, rests_in, constant_of, extent, operand_of, free_temporary, mode_of}
use Rattle.lower_correct.specs.Places.{size_of_type, target_for, named_spot, found, free_temporary_at, free_kept_at}
use Rattle.lower_correct.specs.Code.{One, Parts, PartsNamed, Finds}
use Rattle.lower_correct.proofs.Words.{Ranged, ranged, differ}
use Rattle.lower_correct.proofs.Steps.{Reaches, reaches_on, stays, goes, Sim, sim_then, sim_move, tick_in, halts}
use Rattle.lower_correct.proofs.Stores.{World, all_types, Refers, RefersToRows, Fine, After, after_on, own_at, before_it, behind, below_length, length_mapped, fine_later, after_later, after_since}
use Rattle.lower_correct.proofs.Standing.{Scratch, here, Holds, set_same, set_other, does_nothing, literal_type, types_below, first_automatic, rows_of, parameters_of, world, sizes, type_at, IsCode}
use Rattle.lower_correct.proofs.Memory.{put_reference, IsAside, IsAt, got_mapped, length_there, refers_into, does_address, does_part}
use Rattle.lower_correct.proofs.Goods.{Keeps, keeps_all, keeps_on, free_more, Good, mode_free, mode_suits, held}
use Rattle.lower_correct.proofs.Leaves.{or_left, or_right}
use Rattle.lower_correct.proofs.Operators.{DoesAt}

-- ---- the type's constraints on a reference

abbrev pub RefersAs : World → Reference → Option DeclaredType → Type 0
RefersAs W r None = ⊥
RefersAs W r (Some (complete t)) = Refers W r t.element t.lengths
RefersAs W r (Some (unknown_size t)) = (n : ℕ) × Refers W r t.element (n ∷ t.lengths)

-- an array leads to its rows
record Rows (W : World) (r : Reference) (T : Option DeclaredType) : Type 0 where
  count : ℕ
  element : IntType
  lengths : List ℕ
  refers : Refers W r element (count ∷ lengths)
  inner : (i : ℕ) → i < count → RefersAs W (into r i) (row_type T)
  bytes : size_of_type (row_type T) ≡ bytes_of element * elements_in lengths

rows_of_complete : (W : World) (r : Reference) (t : IntType) (c : Bool) (l : List ℕ) → nat_lt 0 (length l) ≡ true → Refers W r t l
    → Rows W r (Some (complete (record { element = t; constant = c; lengths = l })))
rows_of_complete W r t c [] ha h = absurd (differ ha)
rows_of_complete W r t c (n ∷ l) ha h = record {
  count = n;
  element = t;
  lengths = l;
  refers = h;
  inner = λ i lt. refers_into W r t n i l h lt;
  bytes = refl;
}

rows_there : (W : World) (r : Reference) (T : Option DeclaredType) → is_array T ≡ true → RefersAs W r T → Rows W r T
rows_there W r None ha h = absurd h
rows_there W r (Some (complete t)) ha h = rows_of_complete W r t.element t.constant t.lengths ha h
rows_there W r (Some (unknown_size t)) ha h = record {
  count = h.0;
  element = t.element;
  lengths = t.lengths;
  refers = h.1;
  inner = λ i lt. refers_into W r t.element h.0 i t.lengths h.1 lt;
  bytes = refl;
}

-- ---- objects that have a name

globals_below : (q : Program) (ws : List Call) (i : ℕ) (o : ObjectType) → slice_get (types_below q []) i ≡ Some o → slice_get (types_below q ws) i ≡ Some o
globals_below q [] i o e = e
globals_below q (c ∷ ws) i o e =
    let more = globals_below q ws i o e in
    before_it (types_below q ws) (function_at q c.function).objects i (below_length (types_below q ws) i o more) ∙ more

param_option : Option ObjectType → Option DeclaredType
param_option None = None
param_option (Some t) = Some (unknown_size t)

param_type : (ps : List ParameterType) (n : ℕ) → reference_in ps n ≡ param_option (slice_get (rows_of ps) n)
unfolding param_option
param_type [] n = refl
param_type (number t ∷ ps) n = param_type ps n
param_type (elements t ∷ ps) zero = refl
param_type (elements t ∷ ps) (suc n) = param_type ps n

-- it has a type
abbrev pub HasType : Option DeclaredType → Type 0
HasType None = ⊥
HasType (Some t) = Unit {0}

pub has_type : (T : Option DeclaredType) → elim T as (λ x. Bool) [ None ↦ false | Some t ↦ true ] ≡ true → HasType T
has_type None h = absurd (differ h)
has_type (Some t) h = tt

pub not_scalar : (l : List ℕ) (t : IntType) → nat_lt 0 (length l) ≡ true → type_if_scalar l t ≡ None
not_scalar [] t h = absurd (differ h)
not_scalar (n ∷ l) t h = refl

not_empty : (l : List ℕ) → nat_lt 0 (length l) ≡ true → l ≡ [] → ⊥
not_empty [] h e = differ h
not_empty (n ∷ l) h e = cc

module _ (p : typed.Program) (tf : Function) (call : Calling) (q : Program) (deep f : ℕ) (is : IsCode p tf q f) where
  -- an automatic object that is found is an array
  abbrev pub InMemory : Storage → Type 0
  InMemory (typed.literal n) = Unit {0}
  InMemory (typed.static n) = Unit {0}
  InMemory (typed.automatic n) = is_array (object_type (slice_get tf.objects n)) ≡ true
  InMemory (typed.parameter n) = Unit {0}

  global_at : (ws : List Call) (i : ℕ) (o : ObjectType) → slice_get (types_below q []) i ≡ Some o → slice_get (all_types (world p q f ws)) i ≡ Some o
  global_at ws i o e =
      let there = globals_below q ws i o e in
      before_it (types_below q ws) (function_at q f).objects i (below_length (types_below q ws) i o there) ∙ there

  pub literal_refers : (ws : List Call) (n : ℕ) (o : Option (List ℕ)) → slice_get p.literals n ≡ o → HasType (text_type o)
      → RefersAs (world p q f ws) (whole n) (text_type o)
  literal_refers ws n None e h = absurd h
  literal_refers ws n (Some text) e h =
      let e2 : slice_get q.literals n ≡ Some text = ap (λ l. slice_get l n) is.literals ∙ e in
      let lt = below_length q.literals n text e2 in
      let there = got_mapped literal_type q.literals n text e2 in
      record {
        object = literal_type text;
        at = global_at ws n (literal_type text)
            (before_it (map literal_type q.literals) (map (λ o. o.type) q.statics) n (below_length (map literal_type q.literals) n (literal_type text) there)
            ∙ there);
        element = refl;
        leads = refl;
        memory = inl (let z : n < length q.literals + length q.statics = omega (arith, lt) in z);
      }

  static_refers : (ws : List Call) (n : ℕ) (o : Option typed.Static) → slice_get p.statics n ≡ o → HasType (static_type o)
      → RefersAs (world p q f ws) (whole (length p.literals + n)) (static_type o)
  static_refers ws n None e h = absurd h
  static_refers ws n (Some x) e h =
      let e2 : slice_get q.statics n ≡ Some x = ap (λ l. slice_get l n) is.statics ∙ e in
      let lt = below_length q.statics n x e2 in
      let count = ap length is.literals in
      let counted = length_mapped literal_type q.literals in
      record {
        object = x.type;
        at = global_at ws (length p.literals + n) x.type
            (ap (slice_get (types_below q []))
            (let z : length p.literals + n ≡ length (map literal_type q.literals) + n = omega (arith, count, counted) in z)
            ∙ (behind (map literal_type q.literals) (map (λ o. o.type) q.statics) n ∙ got_mapped (λ o. o.type) q.statics n x e2));
        element = refl;
        leads = refl;
        memory = inl (let z : length p.literals + n < length q.literals + length q.statics = omega (arith, lt, count) in z);
      }

  -- the object that a name or a string literal designates
  record Named (what : Storage) (now : Scratch) (ws : List Call) (s : machine.State) : Type 0 where
    holds : IsAt p q f (named_spot what) (designated p what s) now s
    refers : RefersAs (world p q f ws) (designated p what s) (type_of_storage p tf what)

  automatic_named : (n : ℕ) (now : Scratch) (ws : List Call) (s : machine.State) (o : Option ObjectType) → slice_get tf.objects n ≡ o
      → is_array (object_type o) ≡ true → Fine (world p q f ws) s
      → IsAt p q f (place.Array n) (whole (s.base + n)) now s × RefersAs (world p q f ws) (whole (s.base + n)) (object_type o)
  automatic_named n now ws s None e ha fine = absurd (differ ha)
  automatic_named n now ws s (Some t) e ha fine =
      let e2 : slice_get (function_at q f).objects n ≡ Some t = ap (λ l. slice_get l n) is.objects ∙ e in (
        ap (λ x. array_if (scalar_type x) x (whole (s.base + n))) e2
            ∙ ap (λ x. array_if x (Some t) (whole (s.base + n))) (not_scalar t.lengths t.element ha),
        record {
          object = t;
          at = own_at (world p q f ws) s n t fine e2;
          element = refl;
          leads = refl;
          memory = inr (not_empty t.lengths ha);
        },
      )

  parameter_named : (n : ℕ) (W : World) (s : machine.State) (o : Option ObjectType) → HasType (param_option o)
      → ((t : ObjectType) → o ≡ Some t → RefersToRows W t (slice_get s.arrays n))
      → (reference_of_value (option_map reference (slice_get s.arrays n)) ≡ Some (or_first (slice_get s.arrays n)))
      × RefersAs W (or_first (slice_get s.arrays n)) (param_option o)
  unfolding param_option
  parameter_named n W s None h each = absurd h
  parameter_named n W s (Some t) h each = by_array (slice_get s.arrays n) (each t refl)
    where
      by_array : (x : Option Reference) → RefersToRows W t x
          → (reference_of_value (option_map reference x) ≡ Some (or_first x)) × RefersAs W (or_first x) (Some (unknown_size t))
      by_array None g = absurd g
      by_array (Some r) g = (refl, g)

  named_is : (what : Storage) (now : Scratch) (ws : List Call) (s : machine.State) → InMemory what → HasType (type_of_storage p tf what)
      → Fine (world p q f ws) s → Named what now ws s
  named_is (typed.literal n) now ws s hm ht fine = record { holds = refl; refers = literal_refers ws n (slice_get p.literals n) refl ht }
  named_is (typed.static n) now ws s hm ht fine = record {
    holds = ap (λ l. Some (whole (length l + n))) is.literals;
    refers = static_refers ws n (slice_get p.statics n) refl ht;
  }
  named_is (typed.automatic n) now ws s hm ht fine =
      let h = automatic_named n now ws s (slice_get tf.objects n) refl hm fine in record { holds = h.0; refers = h.1 }
  named_is (typed.parameter n) now ws s hm ht fine =
      let same = param_type tf.type.parameters n in
      let h = parameter_named n (world p q f ws) s (slice_get (rows_of tf.type.parameters) n) (subst HasType same ht)
      (λ t e. fine.arrays n t (ap (λ o. slice_get (rows_of (parameters_of o)) n) is.function ∙ e)) in
      record { holds = h.0; refers = subst (RefersAs (world p q f ws) (or_first (slice_get s.arrays n))) (sym same) h.1 }

  -- ---- the result of finding

  pub record Found (a : Place) (c : Bool) (t k pc2 : ℕ) (before : machine.State) (old : Scratch) (ws : List Call) (r : Reference) (s : machine.State)
      (z : State) : Type 0 where
    pub now : Scratch
    pub at : z ≡ here f pc2 now ws s
    pub holds : IsAt p q f (found a c t k) r now s
    pub refers : RefersAs (world p q f ws) r (type_of_place p tf a)
    pub keeps : Keeps (place_calls a) t k old now
    pub fine : Fine (world p q f ws) s
    pub after : After (first_automatic q) (place_writes a) before s

  abbrev pub FindsDo : Place → Bool → ℕ → ℕ → ℕ → ℕ → Type 0
  FindsDo a c t k pc pc2 = (s : machine.State) (now : Scratch) (ws : List Call) → s.clock ≤ deep → Fine (world p q f ws) s
      → Sim q 40 (60 * s.clock) s.clock (here f pc now ws s) (Found a c t k pc2 s now ws) (find p call a s)

  pub named_found : (at : Pos) (what : Storage) (c : Bool) (t k pc pc2 : ℕ) → InMemory what → HasType (type_of_storage p tf what)
      → One (function_at q f).code instruction.Nothing pc pc2 → FindsDo (typed.named at what) c t k pc pc2
  named_found at what c t k pc pc2 hm ht o s now ws le fine =
      tick_in q 40 (Found (typed.named at what) c t k pc2 s now ws) (here f pc now ws s) (here f pc2 now ws s) s 0 (60 * s.clock)
      (λ s. Goes (designated p what s) s) (omega arith) refl refl (does_nothing q f pc pc2 now ws s o)
      (λ n lt.
      let s1 : machine.State = record s { clock = n } in
      let fine1 = fine_later (world p q f ws) s n fine in
      let h = named_is what now ws s1 hm ht fine1 in
      goes q 40 (Found (typed.named at what) c t k pc2 s now ws (designated p what s1)) (60 * n + 60 + 0) n 0 0 (here f pc2 now ws s) (here f pc2 now ws s1) s1
      (stays q (here f pc2 now ws s)) (omega arith) (omega arith)
      (record {
        now = now;
        at = refl;
        holds = h.holds;
        refers = h.refers;
        keeps = keeps_all false t k now;
        fine = fine1;
        after = after_later (λ x. false) s n;
      }))

  -- it is still found where something else was evaluated, which calls or not
  pub stays_found : (a : Place) (c : Bool) (t k : ℕ) (r : Reference) (old now : Scratch) (w : ℕ → Bool) (s s2 : machine.State)
      → Keeps c (free_temporary_at (found a c t k) t) (free_kept_at (found a c t k) k) old now → After (first_automatic q) w s s2
      → IsAt p q f (found a c t k) r old s → IsAt p q f (found a c t k) r now s2
  stays_found (typed.named at (typed.literal n)) c t k r old now w s s2 h l e = e
  stays_found (typed.named at (typed.static n)) c t k r old now w s s2 h l e = e
  stays_found (typed.named at (typed.automatic n)) c t k r old now w s s2 h l e =
      let x = slice_get (function_at q f).objects n in ap (λ b. array_if (scalar_type x) x (whole (b + n))) l.base ∙ e
  stays_found (typed.named at (typed.parameter n)) c t k r old now w s s2 h l e =
      ap (λ x. reference_of_value (option_map reference (slice_get x n))) l.arrays ∙ e
  stays_found (typed.element at a i) true t k r old now w s s2 h l e = ap reference_of_value (h.kept k (omega arith)) ∙ e
  stays_found (typed.element at a i) false t k r old now w s s2 h l e = ap reference_of_value (h.temporaries refl t (omega arith)) ∙ e

  pub free_more_at : (a : Spot) (t k : ℕ) → (t ≤ free_temporary_at a t) × (k ≤ free_kept_at a k)
  free_more_at (place.Literal n) t k = (omega arith, omega arith)
  free_more_at (place.Static n) t k = (omega arith, omega arith)
  free_more_at (place.Array n) t k = (omega arith, omega arith)
  free_more_at (place.Element n i u) t k = (omega arith, omega arith)
  free_more_at (place.At o) t k = free_more p q f o t k

  -- ---- elements and rows

  pub keeps_reference : (j : ℕ) (r : Reference) (b : Bool) (t k : ℕ) (old now : Scratch) → t ≤ j → Keeps b t k old now
      → Keeps b t k old (put_reference (target.Temporary j) r now)
  keeps_reference j r b t k old now le h = record {
    temporaries = λ e i lt. set_other now.temporaries j i (reference r) (λ m. let z : ⊥ = omega (arith, le, lt, m) in z) ∙ h.temporaries e i lt;
    kept = h.kept;
  }

  keeps_target : (c : Bool) (r : Reference) (b : Bool) (t k : ℕ) (old now : Scratch) → Keeps b t k old now
      → Keeps b t k old (put_reference (target_for c t k) r now)
  keeps_target true r b t k old now h = record {
    temporaries = h.temporaries;
    kept = λ i lt. set_other now.kept k i (reference r) (λ m. let z : ⊥ = omega (arith, lt, m) in z) ∙ h.kept i lt;
  }
  keeps_target false r b t k old now h = keeps_reference t r b t k old now (let le : t ≤ t = omega arith in le) h

  at_target : (c : Bool) (t k : ℕ) (r : Reference) (now : Scratch) (s : machine.State)
      → IsAt p q f (place.At (pending c t k)) r (put_reference (target_for c t k) r now) s
  at_target true t k r now s = ap reference_of_value (set_same now.kept k (reference r))
  at_target false t k r now s = ap reference_of_value (set_same now.temporaries t (reference r))

  is_aside : (c : Bool) (t k : ℕ) → IsAside (target_for c t k)
  is_aside true t k = tt
  is_aside false t k = tt

  -- an operand and a further temporary that is free
  beside : (n : Option ℤ) (x : Option ℕ) (t k w : ℕ) (r : Reference) (now : Scratch) (s : machine.State)
      → Holds q f (constant_or n (at_rest x writes_none (pending false t k))) w now s
      → Holds q f (constant_or n (at_rest x writes_none (pending false t k))) w
      (put_reference (target.Temporary (free_temporary (constant_or n (at_rest x writes_none (pending false t k))) t)) r now) s
  beside (Some v) x t k w r now s h = h
  beside None None t k w r now s h = set_other now.temporaries (t + 1) t (reference r) (λ m. let z : ⊥ = omega (arith, m) in z) ∙ h
  beside None (Some x) t k w r now s h = h

  record Parted (g : Target) (j pc2 : ℕ) (r : Reference) (now : Scratch) (ws : List Call) (s : machine.State) (z : State) : Type 0 where
    steps : ℕ
    cost : ℕ
    now2 : Scratch
    reaches : Reaches q z steps cost (running (here f pc2 (put_reference g r now2) ws s))
    small : cost ≤ 19
    keeps : (b : Bool) (t k : ℕ) (old : Scratch) → t ≤ j → Keeps b t k old now → Keeps b t k old now2

  named_parts : (a : Spot) (g : Target) (o : Operand) (size n i : ℕ) (rest : List ℕ) (t : IntType) (r : Reference) (j pc pc2 : ℕ) (now : Scratch)
      (ws : List Call) (s : machine.State)
      → PartsNamed (function_at q f).code a g o size j pc pc2 → IsAt p q f a r now s
      → Holds q f o i (put_reference (target.Temporary j) r now) s → Refers (world p q f ws) r t (n ∷ rest) → Fine (world p q f ws) s → i < n
      → size ≡ bytes_of t * elements_in rest → IsAside g → Parted g j pc2 (into r i) now ws s (here f pc now ws s)
  named_parts a g o size n i rest t r j pc pc2 now ws s h ha h2 hr fine lt hs hg =
      let now2 = put_reference (target.Temporary j) r now in
      record {
        steps = 1 + 1;
        cost = 6 + 13;
        now2 = now2;
        reaches = reaches_on q (here f pc now ws s) (here f h.0 now2 ws s) 1 6 1 13 (running (here f pc2 (put_reference g (into r i) now2) ws s))
            (does_address p q f (target.Temporary j) a r pc h.0 now ws s h.1 ha tt)
            (does_part p q f g (operand.Temporary j) o size n i rest t r h.0 pc2 now2 ws s h.2
            (ap reference_of_value (set_same now.temporaries j (reference r))) h2 hr fine lt hs hg);
        small = omega arith;
        keeps = λ b t k old le n. keeps_reference j r b t k old now le n;
      }

  parts_do : (a : Spot) (g : Target) (o : Operand) (size n i : ℕ) (rest : List ℕ) (t : IntType) (r : Reference) (j pc pc2 : ℕ) (now : Scratch) (ws : List Call)
      (s : machine.State)
      → Parts (function_at q f).code a g o size j pc pc2 → IsAt p q f a r now s → Holds q f o i now s
      → Holds q f o i (put_reference (target.Temporary j) r now) s → Refers (world p q f ws) r t (n ∷ rest) → Fine (world p q f ws) s → i < n
      → size ≡ bytes_of t * elements_in rest → IsAside g → Parted g j pc2 (into r i) now ws s (here f pc now ws s)
  parts_do (place.At x) g o size n i rest t r j pc pc2 now ws s h ha h1 h2 hr fine lt hs hg = record {
    steps = 1;
    cost = 13;
    now2 = now;
    reaches = does_part p q f g x o size n i rest t r pc pc2 now ws s h ha h1 hr fine lt hs hg;
    small = omega arith;
    keeps = λ b t k old le n. n;
  }
  parts_do (place.Literal x) g o size n i rest t r j pc pc2 now ws s h ha h1 h2 hr fine lt hs hg =
      named_parts (place.Literal x) g o size n i rest t r j pc pc2 now ws s h ha h2 hr fine lt hs hg
  parts_do (place.Static x) g o size n i rest t r j pc pc2 now ws s h ha h1 h2 hr fine lt hs hg =
      named_parts (place.Static x) g o size n i rest t r j pc pc2 now ws s h ha h2 hr fine lt hs hg
  parts_do (place.Array x) g o size n i rest t r j pc pc2 now ws s h ha h1 h2 hr fine lt hs hg =
      named_parts (place.Array x) g o size n i rest t r j pc pc2 now ws s h ha h2 hr fine lt hs hg
  parts_do (place.Element x y u) g o size n i rest t r j pc pc2 now ws s h ha h1 h2 hr fine lt hs hg =
      named_parts (place.Element x y u) g o size n i rest t r j pc pc2 now ws s h ha h2 hr fine lt hs hg

  module _ (at : Pos) (array : Place) (index : Expression) (c : Bool) (t k : ℕ) (ha : is_array (type_of_place p tf array) ≡ true) where
    abbrev where_found : Spot
    where_found = found array (calls index) t k

    abbrev t2 : ℕ
    t2 = free_temporary_at where_found t

    abbrev k2 : ℕ
    k2 = free_kept_at where_found k

    -- the index has its value: the part is made
    part_last : (n p3 pc2 : ℕ) (before : machine.State) (old now2 now3 : Scratch) (ws : List Call) (r : Reference) (v : ℤ) (s2 s3 : machine.State)
        → Parts (function_at q f).code where_found (target_for c t k) (operand_of index t2 k2) (sizes p f (typed.element at array index))
        (free_temporary (operand_of index t2 k2) t2) p3 pc2
        → IsAt p q f where_found r now3 s3 → Holds q f (operand_of index t2 k2) (word_for v) now3 s3 → Ranged v
        → RefersAs (world p q f ws) r (type_of_place p tf array) → Keeps (place_calls array) t k old now2 → Keeps (calls index) t2 k2 now2 now3
        → Fine (world p q f ws) s3 → After (first_automatic q) (place_writes array) (record before { clock = n }) s2
        → After (first_automatic q) (writes index) s2 s3
        → Sim q 40 (60 * s3.clock + 114) s3.clock (here f p3 now3 ws s3) (Found (typed.element at array index) c t k pc2 before old ws)
        (subscripted at r v s3)
    part_last n p3 pc2 before old now2 now3 ws r (negsuc v) s2 s3 i ha2 hi rv hr k1 kk fine a1 a2 =
        halts q (60 * s3.clock + 114) (here f p3 now3 ws s3) s3 refl refl
    part_last n p3 pc2 before old now2 now3 ws r (pos v) s2 s3 i ha2 hi rv hr k1 kk fine a1 a2 =
        by_bound (nat_lt v (length_of (tree_at s3.store r))) refl
      where
        rows : Rows (world p q f ws) r (type_of_place p tf array)
        rows = rows_there (world p q f ws) r (type_of_place p tf array) ha hr

        bytes : sizes p f (typed.element at array index) ≡ bytes_of rows.element * elements_in rows.lengths
        bytes = ap (λ o. size_of_type (type_at p o (typed.element at array index))) is.function ∙ rows.bytes

        small : word_for (pos v) ≡ v
        small = let h = rv.1 in let z : v % 2 ^ 32 ≡ v = omega (arith, ints, h) in z

        by_bound : (b : Bool) → nat_lt v (length_of (tree_at s3.store r)) ≡ b
            → Sim q 40 (60 * s3.clock + 114) s3.clock (here f p3 now3 ws s3) (Found (typed.element at array index) c t k pc2 before old ws)
            (choose b (Goes (into r v) s3) (undefined U5 at s3))
        by_bound false e = halts q (60 * s3.clock + 114) (here f p3 now3 ws s3) s3 refl refl
        by_bound true e =
            let count = length_there (world p q f ws) r rows.element rows.count rows.lengths s3 fine rows.refers in
            let lt : v < rows.count = less e count in
            let j = free_temporary (operand_of index t2 k2) t2 in
            let more = free_more_at where_found t k in
            let more2 = free_more p q f (operand_of index t2 k2) t2 k2 in
            let hi2 : Holds q f (operand_of index t2 k2) v now3 s3 = subst (λ w. Holds q f (operand_of index t2 k2) w now3 s3) small hi in
            let l = parts_do where_found (target_for c t k) (operand_of index t2 k2) (sizes p f (typed.element at array index)) rows.count v rows.lengths
            rows.element r j p3 pc2 now3 ws s3 i ha2 hi2 (beside (constant_of index) (rests_in index) t2 k2 v r now3 s3 hi2) rows.refers fine lt bytes
            (is_aside c t k) in
            let k3 : Keeps (place_calls array || calls index) t k old now3 =
            keeps_on (place_calls array || calls index) (place_calls array) (calls index) t k t k t2 k2 old now2 now3
            (or_left (place_calls array) (calls index)) (or_right (place_calls array) (calls index)) (omega arith) more.0 (omega arith) more.1 k1 kk in
            goes q 40 (Found (typed.element at array index) c t k pc2 before old ws (into r v)) (60 * s3.clock + 114) s3.clock l.steps l.cost
            (here f p3 now3 ws s3) (here f pc2 (put_reference (target_for c t k) (into r v) l.now2) ws s3) s3 l.reaches (let h = l.small in omega (arith, h))
            (omega arith)
            (record {
              now = put_reference (target_for c t k) (into r v) l.now2;
              at = refl;
              holds = at_target c t k (into r v) l.now2 s3;
              refers = rows.inner v lt;
              keeps = keeps_target c (into r v) (place_calls array || calls index) t k old l.now2
                  (l.keeps (place_calls array || calls index) t k old (let a = more.0 in let b = more2.0 in omega (arith, a, b)) k3);
              fine = fine;
              after = after_on (λ x. place_writes array x || writes index x) (place_writes array) (writes index) before s2 s3
                  (λ x h. or_left (place_writes array x) (writes index x) h) (λ x h. or_right (place_writes array x) (writes index x) h)
                  (after_since (place_writes array) before s2 n a1) a2;
            })
          where
            less : (b : nat_lt v (length_of (tree_at s3.store r)) ≡ true) → length_of (tree_at s3.store r) ≡ rows.count → v < rows.count
            less b count = let z : v < length_of (tree_at s3.store r) = grind (arith, nat_tests, b) in omega (arith, z, count)

    pub element_found : (pc pc2 : ℕ)
        → ((p1 p2 : ℕ) → Finds (function_at q f).code (sizes p f) array (calls index) t k p1 p2 → FindsDo array (calls index) t k p1 p2)
        → DoesAt p call q deep f index t2 k2 → Finds (function_at q f).code (sizes p f) (typed.element at array index) c t k pc pc2
        → FindsDo (typed.element at array index) c t k pc pc2
    element_found pc pc2 da di h s now ws le fine =
        let i = operand_of index t2 k2 in
        let Result2 = Found (typed.element at array index) c t k pc2 s now ws in
        let last : Reference → ℤ → machine.State → Run Reference = λ r v s. subscripted at r v s in
        tick_in q 40 Result2 (here f pc now ws s) (here f h.0 now ws s) s 0 (60 * s.clock)
        (λ s. then_do (find p call array s) (λ r s. then_do (evaluate p call index s) (last r))) (omega arith) refl refl (does_nothing q f pc h.0 now ws s h.3)
        (λ n lt.
        let s1 : machine.State = record s { clock = n } in
        sim_then q 40 40 (Found array (calls index) t k h.1 s1 now ws) Result2 (60 * n) 100 (60 * n + 60 + 0) n (here f h.0 now ws s) (find p call array s1)
        (λ r s. then_do (evaluate p call index s) (last r)) (omega arith) (omega arith)
        (da h.0 h.1 h.4 s1 now ws (omega (arith, le, lt)) (fine_later (world p q f ws) s n fine))
        (λ r s2 z lt2 fa.
        sim_move q 40 Result2 (60 * s2.clock + 100) s2.clock z (here f h.1 fa.now ws s2) (then_do (evaluate p call index s2) (last r)) fa.at
        (sim_then q 14 40 (Good p q f index (mode_of i) t2 k2 h.2 s2 fa.now ws) Result2 (60 * s2.clock) 114 (60 * s2.clock + 100) s2.clock
        (here f h.1 fa.now ws s2) (evaluate p call index s2) (last r) (omega arith) (omega arith)
        (di (mode_of i) h.1 h.2 (mode_free p q f (constant_of index) (rests_in index) writes_none false t2 k2)
        (mode_suits p q f (constant_of index) (rests_in index) writes_none false t2 k2 (extent index)) h.5 s2 fa.now ws (omega (arith, le, lt, lt2)) fa.fine)
        (λ v s3 z3 lt3 gi.
        let hb = held p q f index writes_none false t2 k2 h.2 s2 fa.now ws v s3 z3 gi in
        sim_move q 40 Result2 (60 * s3.clock + 114) s3.clock z3 (here f h.2 hb.now ws s3) (last r v s3) hb.at
        (part_last n h.2 pc2 s now fa.now hb.now ws r v s2 s3 h.6
        (stays_found array (calls index) t k r fa.now hb.now (writes index) s2 s3 hb.known.keeps hb.known.after fa.holds) hb.holds
        (ranged (extent index) v hb.known.value) fa.refers fa.keeps hb.known.keeps hb.known.fine fa.after hb.known.after)))))
