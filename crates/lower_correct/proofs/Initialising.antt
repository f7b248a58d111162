-- The code follows definitions: objects that are no arrays, and arrays (ISO/IEC 9899:2011 6.7.9).
use Rattle.std.proofs.Common.{◌≡◌, ℕ, zero, suc, ◌+◌, ◌-◌, ◌*◌, ◌^◌, ◌<◌, ◌≤◌, List, [], ◌∷◌, ◌++◌, Option, Some, None, true, false, ◌&&◌, refl, sym, ap, ◌∙◌, subst, arith}
use Rattle.std.specs.Prelude.{nat_eq, nat_le, nat_lt, length, slice_get}
use Rattle.std.proofs.lemmas.Bool.Decides.{nat_tests}
use Rattle.ctypes.specs.declared.types.IntType.{IntType}
use Rattle.ctypes.specs.declared.types.IntType.TheVariants as ty
use Rattle.ctypes.specs.Types.{converted, bytes_of}
use Rattle.typing_spec.specs.Types.{ObjectType, same_type, elements_in, size_of_object}
use Rattle.typing_spec.specs.Expressions.{object_limit}
use Rattle.typing_spec.specs.Initialisers.{is_character}
use Rattle.typing_spec.specs.Program as typed
use Rattle.typing_spec.specs.Program.{Function, Initialiser, Initialisers, Value as Expression}
use Rattle.typing_spec.specs.Nodes.{type_of_value}
use Rattle.typing_spec.specs.WellTyped.{some_number, value_is_typed, number_is_typed, text_fits, initialisers_in, initialiser_is_typed, initialisers_are_typed, definition_is_typed}
use Rattle.csem.specs.Store.{Reference, whole}
use Rattle.csem.specs.Machine as machine
use Rattle.csem.specs.Machine.{Run, Goes, then_do, tick, ticks, stored}
use Rattle.csem.specs.Expressions.{Calling, evaluate}
use Rattle.csem.specs.Statements.{clear, characters, first_length, text_or_none, renewed, initialise, initialise_all, define_object}
use Rattle.tac_code.specs.declared.code.Target.TheVariants as target
use Rattle.tac_code.specs.declared.code.Instruction.TheVariants as instruction
use Rattle.tac_code.specs.Code.{Program, function_at}
use Rattle.tac_code.specs.Run.{Call, State}
use Rattle.lower_wf.specs.Asked.{gives, value_is_asked, initialiser_is_asked, initialisers_are_asked, is_sized}
use Rattle.lower_correct.specs.Values.{writes_none, rests_in, constant_of, extent, keeps, operand_of, mode_of}
use Rattle.lower_correct.specs.Places.{size_of_type, size_of_place}
use Rattle.lower_correct.specs.Code.{One, Converts, Into}
use Rattle.lower_correct.specs.Initialisers.{Clears, Copies, Sets, Fills, FillAll}
use Rattle.lower_correct.specs.Bodies.{InitialisesWord, InitialisesObject, Initialises}
use Rattle.lower_correct.proofs.Words.{left_true, right_true, differ}
use Rattle.lower_correct.proofs.Steps.{Sim, sim_then, sim_map, sim_move, tick_in}
use Rattle.lower_correct.proofs.Shapes.{Leads}
use Rattle.lower_correct.proofs.Zeros.{number, leads_on, number_on}
use Rattle.lower_correct.proofs.Stores.{Fine, After, after_on, after_later, fine_later}
use Rattle.lower_correct.proofs.Standing.{Scratch, here, does_nothing, first_automatic, world, type_at, sizes, IsCode}
use Rattle.lower_correct.proofs.Goods.{mode_free, mode_suits}
use Rattle.lower_correct.proofs.Leaves.{IsNumber, scalar_is, converts_does}
use Rattle.lower_correct.proofs.Operators.{DoesAt}
use Rattle.lower_correct.proofs.Passing.{CallsDo}
use Rattle.lower_correct.proofs.Typing.{no_length, same_type_is}
use Rattle.lower_correct.proofs.Expressions.{wanted_any, into_does}
use Rattle.lower_correct.proofs.Flows.{writes_all, StandsAt, Runs}
use Rattle.lower_correct.proofs.Blocks.{BeginsAt, value_begins, braces_begin, define_runs}
use Rattle.lower_correct.proofs.Stretches.{done, times_less, IsArray, clears_do}
use Rattle.lower_correct.proofs.Texts.{copies_do}
use Rattle.lower_correct.proofs.Setting.{sets_do}

-- ---- sizes

has_elements : (o : ObjectType) → is_sized o ≡ true → 0 < elements_in o.lengths
has_elements o h = less (left_true (nat_lt 0 (elements_in o.lengths)) (nat_le (size_of_object o) object_limit) h)
  where
    less : nat_lt 0 (elements_in o.lengths) ≡ true → 0 < elements_in o.lengths
    less e = grind (arith, nat_tests)

-- no more elements than bytes
has_bytes : (t : IntType) → 1 ≤ bytes_of t
has_bytes ty.Bool = omega arith
has_bytes ty.Char = omega arith
has_bytes ty.SChar = omega arith
has_bytes ty.UChar = omega arith
has_bytes ty.Short = omega arith
has_bytes ty.UShort = omega arith
has_bytes ty.Int = omega arith
has_bytes ty.UInt = omega arith
has_bytes ty.Long = omega arith
has_bytes ty.ULong = omega arith

is_small : (o : ObjectType) → is_sized o ≡ true → elements_in o.lengths < 2 ^ 32
is_small o h =
    let le = less (right_true (nat_lt 0 (elements_in o.lengths)) (nat_le (size_of_object o) object_limit) h) in
    let more = times_less 1 (bytes_of o.element) (elements_in o.lengths) (has_bytes o.element) in
    omega (arith, le, more)
  where
    less : nat_le (size_of_object o) object_limit ≡ true → bytes_of o.element * elements_in o.lengths ≤ 1048576
    less e = grind (arith, nat_tests)

no_product : (n e : ℕ) → 0 < n * e → 0 < e
no_product n zero h = absurd (let z : n * 0 ≡ 0 = grind arith in omega (arith, h, z))
no_product n (suc e) h = omega arith

-- each part has elements where the whole has
part_has : (path l rest : List ℕ) → Leads path l rest → 0 < elements_in l → 0 < elements_in rest
part_has [] l rest lead h = subst (λ z. 0 < elements_in z) lead h
part_has (i ∷ path) [] rest lead h = absurd lead
part_has (i ∷ path) (n ∷ l) rest lead h = part_has path l rest lead.1 (no_product n (elements_in l) h)

less_is : {a b : ℕ} → nat_le a b ≡ true → a ≤ b
less_is {a} {b} h = grind (arith, nat_tests)

-- ---- elements of rows one after the other

from_first : (m e : ℕ) → m + 0 * e ≡ m
from_first m e = let z : 0 * e ≡ 0 = grind arith in omega (arith, z)

next_row : (m j e i : ℕ) → m + j * e ≡ i → m + suc j * e ≡ i + e
next_row m j e i h = let z : suc j * e ≡ e + j * e = grind arith in omega (arith, z, h)

-- each object has bytes, and not too many
abbrev pub AreSized : Function → Type 0
AreSized tf = (n : ℕ) (o : ObjectType) → slice_get tf.objects n ≡ Some o → is_sized o ≡ true

module _ (p : typed.Program) (tf : Function) (call : Calling) (q : Program) (deep f : ℕ) (same : IsCode p tf q f)
    (ok : CallsDo p call q deep f) where
  -- function f is tf
  pub sized : (P : (typed.Place → ℕ) → Type 0) → P (size_of_place p tf) → P (sizes p f)
  sized P h = subst (λ o. P (λ a. size_of_type (type_at p o a))) (sym same.function) h

  pub does_at : (e : Expression) (t k : ℕ) → value_is_typed p tf e ≡ true → (value_is_asked e && gives e) ≡ true → DoesAt p call q deep f e t k
  does_at e t k ht ha m a z fr su i =
      into_does p tf call q deep f same ok e m t k a z ht (left_true (value_is_asked e) (gives e) ha)
      (wanted_any p tf call q deep f same ok m (gives e) (right_true (value_is_asked e) (gives e) ha)) fr su i

  word_begins : (i : Initialiser) (t : ObjectType) (x b pc pc2 : ℕ) → t.lengths ≡ [] → slice_get (function_at q f).objects x ≡ Some t
      → initialiser_is_typed p tf t.element t.lengths i ≡ true → initialiser_is_asked i ≡ true
      → InitialisesWord (function_at q f).code p tf i x pc pc2
      → BeginsAt p call q deep f tf.type.result (initialise p call i t.element t.lengths (whole (b + x))) b pc pc2
  word_begins (typed.one_value u e) t x b pc pc2 el at ht ha h =
      let h1 = right_true (same_type t.element u) (nat_eq (length t.lengths) 0 && number_is_typed p tf e) ht in
      let num : IsNumber (function_at q f).objects x u =
      record {
        type = t;
        at = at;
        element = same_type_is t.element u
            (left_true (same_type t.element u) (nat_eq (length t.lengths) 0 && number_is_typed p tf e) ht);
        lengths = no_length t.lengths (left_true (nat_eq (length t.lengths) 0) (number_is_typed p tf e) h1);
      } in
      value_begins p call q deep f tf.type.result u e x b pc h.0 pc2 num
      (converts_does p call q deep f (keeps u e) e u (target.Object x) 0 0 pc h.0 refl (scalar_is (function_at q f).objects x u num) tt
      (does_at e 0 0 (left_true (value_is_typed p tf e) (some_number (type_of_value e)) (right_true (nat_eq (length t.lengths) 0) (number_is_typed p tf e) h1))
      ha) (sized (λ size. Converts (function_at q f).code (keeps u e) (λ m a z. Into (function_at q f).code size e m 0 0 a z) u (operand_of e 0 0) (target.Object x) pc h.0) h.1)) h.2
  word_begins (typed.text n) t x b pc pc2 el at ht ha h = absurd (differ (subst (λ l. initialiser_is_typed p tf t.element l (typed.text n) ≡ true) el ht))
  word_begins (typed.in_braces i) t x b pc pc2 el at ht ha h =
      braces_begin p call q deep f tf.type.result (initialise p call i t.element t.lengths (whole (b + x))) b pc h.0 pc2 h.1
      (word_begins i t x b h.0 pc2 el at ht ha h.2)
  word_begins (typed.list all) t x b pc pc2 el at ht ha h = absurd (differ (subst (λ l. initialiser_is_typed p tf t.element l (typed.list all) ≡ true) el ht))

  -- ---- arrays

  -- a part that may take no tick, which leaves a few instructions to the next part
  abbrev RestAt : (machine.State → Run (Unit {0})) → (b pc pc2 : ℕ) → Type 0
  RestAt r b pc pc2 = (s : machine.State) (now : Scratch) (ws : List Call) → s.base ≡ b → s.clock ≤ deep → Fine (world p q f ws) s
      → Sim q 14 (60 * s.clock + 14) s.clock (here f pc now ws s) (λ u. StandsAt p call q deep f tf.type.result pc2 s ws) (r s)

  -- from an earlier state, with fewer instructions left
  stands_since : (hi hi2 pc pc2 : ℕ) (before s : machine.State) (now : Scratch) (ws : List Call) (r : Run (Unit {0})) → After (first_automatic q) writes_all before s
      → hi ≤ hi2 → Sim q 14 hi s.clock (here f pc now ws s) (λ u. StandsAt p call q deep f tf.type.result pc2 s ws) r
      → Sim q 14 hi2 s.clock (here f pc now ws s) (λ u. StandsAt p call q deep f tf.type.result pc2 before ws) r
  stands_since hi hi2 pc pc2 before s now ws r after le l =
      sim_map q 14 14 (λ u. StandsAt p call q deep f tf.type.result pc2 s ws) (λ u. StandsAt p call q deep f tf.type.result pc2 before ws) hi hi2 s.clock
      (here f pc now ws s) r le (omega (arith, le)) l
      (λ u s2 z g. record {
        now = g.now;
        at = g.at;
        fine = g.fine;
        after = after_on writes_all writes_all writes_all before s s2 (λ x e. e) (λ x e. e) after g.after;
      })

  list_begins : (ri : machine.State → Run (Unit {0})) (b pc p1 pc2 : ℕ) → One (function_at q f).code instruction.Nothing pc p1 → RestAt ri b p1 pc2
      → BeginsAt p call q deep f tf.type.result (λ s. tick s ri) b pc pc2
  list_begins ri b pc p1 pc2 o di s now ws eb le fine =
      tick_in q 14 (λ u. StandsAt p call q deep f tf.type.result pc2 s ws) (here f pc now ws s) (here f p1 now ws s) s 8 (60 * s.clock + 8) ri (omega arith) refl refl
      (does_nothing q f pc p1 now ws s o)
      (λ k lt.
      let s1 : machine.State = record s { clock = k } in
      stands_since (60 * k + 14) (60 * k + 60 + 8) p1 pc2 s s1 now ws (ri s1) (after_later writes_all s k) (omega arith)
      (di s1 now ws eb (omega (arith, le, lt)) (fine_later (world p q f ws) s k fine)))

  parts_begin : (ra rb : machine.State → Run (Unit {0})) (b pc p1 pc2 : ℕ) → BeginsAt p call q deep f tf.type.result ra b pc p1 → RestAt rb b p1 pc2
      → RestAt (λ s. then_do (ra s) (λ u s. rb s)) b pc pc2
  parts_begin ra rb b pc p1 pc2 da db s now ws eb le fine =
      let Good1 : Unit {0} → machine.State → State → Type 0 = λ u. StandsAt p call q deep f tf.type.result p1 s ws in
      let Good2 : Unit {0} → machine.State → State → Type 0 = λ u. StandsAt p call q deep f tf.type.result pc2 s ws in
      sim_then q 14 14 Good1 Good2 (60 * s.clock + 8) 14 (60 * s.clock + 14) s.clock (here f pc now ws s) (ra s) (λ u s. rb s) (omega arith) (omega arith)
      (da s now ws eb le fine)
      (λ u s2 z lt g.
      sim_move q 14 Good2 (60 * s2.clock + 14) s2.clock z (here f p1 g.now ws s2) (rb s2) g.at
      (stands_since (60 * s2.clock + 14) (60 * s2.clock + 14) p1 pc2 s s2 g.now ws (rb s2) g.after (omega arith)
      (db s2 g.now ws (g.after.base ∙ eb) (omega (arith, le, lt)) g.fine)))

  module _ (n : ℕ) (o : ObjectType) (is : IsArray q f n o) (sizes_up : 0 < elements_in o.lengths) where
    -- a part that may begin anywhere in it
    abbrev part_at : ℕ → List ℕ → Reference
    part_at b path = record { object = b + n; path = path }

    text_begins : (rest path : List ℕ) (found : Option (List ℕ)) (i m b pc pc2 : ℕ) → slice_get p.literals m ≡ found → text_fits o.element rest found ≡ true
        → Leads path o.lengths rest → number o.lengths path ≡ i
        → Copies (function_at q f).code o.element n i m (first_length rest) (length (text_or_none found)) pc pc2
        → BeginsAt p call q deep f tf.type.result (λ s. tick s (λ s. then_do (ticks (first_length rest) s) (λ u s.
        Goes done (characters o.element (first_length rest) 0 (text_or_none found) (part_at b path) s)))) b pc pc2
    text_begins [] path found i m b pc pc2 em ht lead ei h s now ws eb le fine = absurd (differ ht)
    text_begins (count ∷ []) path None i m b pc pc2 em ht lead ei h s now ws eb le fine = absurd (differ ht)
    text_begins (count ∷ k ∷ rest) path found i m b pc pc2 em ht lead ei h s now ws eb le fine = absurd (differ ht)
    text_begins (count ∷ []) path (Some text) i m b pc pc2 em ht lead ei h s now ws eb le fine =
        let some : 0 < count = let up = part_has path o.lengths (count ∷ []) lead sizes_up in omega (arith, up) in
        subst (λ b. Sim q 14 (60 * s.clock + 8) s.clock (here f pc now ws s) (λ u. StandsAt p call q deep f tf.type.result pc2 s ws)
        (tick s (λ s. then_do (ticks count s) (λ u s. Goes done (characters o.element count 0 text (part_at b path) s))))) eb
        (copies_do p tf call q deep f same tf.type.result n o is ws path count m text em (left_true (is_character o.element) (nat_le (length text) (count + 1)) ht) lead
        pc pc2 some (subst (λ j. Copies (function_at q f).code o.element n j m count (length text) pc pc2) (sym ei) h) s now fine)

    value_sets : (u : IntType) (e : Expression) (rest path : List ℕ) (i b pc pc2 : ℕ) → rest ≡ [] → Leads path o.lengths rest → number o.lengths path ≡ i
        → o.element ≡ u → value_is_typed p tf e ≡ true → (value_is_asked e && gives e) ≡ true
        → Sets (function_at q f).code p.literals (size_of_place p tf) u e n i pc pc2
        → BeginsAt p call q deep f tf.type.result
        (λ s. then_do (evaluate p call e s) (λ v s. tick s (λ s. Goes done (stored (part_at b path) (converted u v) s)))) b pc pc2
    value_sets u e rest path i b pc pc2 er lead ei eu ht ha h s now ws eb le fine =
        subst (λ b. Sim q 14 (60 * s.clock + 8) s.clock (here f pc now ws s) (λ y. StandsAt p call q deep f tf.type.result pc2 s ws)
        (then_do (evaluate p call e s) (λ v s. tick s (λ s. Goes done (stored (part_at b path) (converted u v) s))))) eb
        (sets_do p tf call q deep f same tf.type.result n o is u e path i pc h.0 pc2 eu (subst (λ l. Leads path o.lengths l) er lead) ei
        (does_at e 0 0 ht ha (mode_of (operand_of e 0 0)) pc h.0 (mode_free p q f (constant_of e) (rests_in e) writes_none false 0 0)
        (mode_suits p q f (constant_of e) (rests_in e) writes_none false 0 0 (extent e))
        (sized (λ size. Into (function_at q f).code size e (mode_of (operand_of e 0 0)) 0 0 pc h.0) h.1)) h.2 s now ws le fine)

    rest_clears : (path : List ℕ) (count : ℕ) (inner : List ℕ) (k j i b pc pc2 : ℕ) → Leads path o.lengths (count ∷ inner) → j + k ≤ count
        → number o.lengths path + j * elements_in inner ≡ i → Clears (function_at q f).code o.element n i (k * elements_in inner) pc pc2
        → RestAt (clear k j inner (part_at b path)) b pc pc2
    rest_clears path count inner k j i b pc pc2 lead within ei h s now ws eb le fine =
        subst (λ b. Sim q 14 (60 * s.clock + 14) s.clock (here f pc now ws s) (λ u. StandsAt p call q deep f tf.type.result pc2 s ws)
        (clear k j inner (part_at b path) s)) eb
        (clears_do p call q deep f tf.type.result n o is ws path count inner k j lead within pc pc2
        (subst (λ m. Clears (function_at q f).code o.element n m (k * elements_in inner) pc pc2) (sym ei) h) s now fine)

    mutual
      fills_begin : (x : Initialiser) (rest path : List ℕ) (i b pc pc2 : ℕ) → Leads path o.lengths rest → number o.lengths path ≡ i
          → initialiser_is_typed p tf o.element rest x ≡ true → initialiser_is_asked x ≡ true
          → Fills (function_at q f).code p.literals (size_of_place p tf) x o.element rest n i pc pc2
          → BeginsAt p call q deep f tf.type.result (initialise p call x o.element rest (part_at b path)) b pc pc2
      fills_begin (typed.one_value u e) rest path i b pc pc2 lead ei ht ha h =
          let h1 = right_true (same_type o.element u) (nat_eq (length rest) 0 && number_is_typed p tf e) ht in
          value_sets u e rest path i b pc pc2 (no_length rest (left_true (nat_eq (length rest) 0) (number_is_typed p tf e) h1)) lead ei
          (same_type_is o.element u (left_true (same_type o.element u) (nat_eq (length rest) 0 && number_is_typed p tf e) ht))
          (left_true (value_is_typed p tf e) (some_number (type_of_value e)) (right_true (nat_eq (length rest) 0) (number_is_typed p tf e) h1)) ha h
      fills_begin (typed.text m) rest path i b pc pc2 lead ei ht ha h =
          text_begins rest path (slice_get p.literals m) i m b pc pc2 refl ht lead ei h
      fills_begin (typed.in_braces x) rest path i b pc pc2 lead ei ht ha h =
          braces_begin p call q deep f tf.type.result (initialise p call x o.element rest (part_at b path)) b pc h.0 pc2 h.1
          (fills_begin x rest path i b h.0 pc2 lead ei ht ha h.2)
      fills_begin (typed.list all) [] path i b pc pc2 lead ei ht ha h = absurd (differ ht)
      fills_begin (typed.list all) (count ∷ inner) path i b pc pc2 lead ei ht ha h =
          let few = nat_le (initialisers_in all) count in
          list_begins (initialise_all p call all o.element count 0 inner (part_at b path)) b pc h.0 pc2 h.1
          (all_begin all path count inner count 0 i b h.0 pc2 lead (omega arith) (less_is (left_true few (initialisers_are_typed p tf o.element inner all) ht))
          (from_first (number o.lengths path) (elements_in inner) ∙ ei) (right_true few (initialisers_are_typed p tf o.element inner all) ht) ha h.2)

      all_begin : (all : Initialisers) (path : List ℕ) (count : ℕ) (inner : List ℕ) (k j i b pc pc2 : ℕ) → Leads path o.lengths (count ∷ inner) → j + k ≤ count
          → initialisers_in all ≤ k → number o.lengths path + j * elements_in inner ≡ i → initialisers_are_typed p tf o.element inner all ≡ true
          → initialisers_are_asked all ≡ true
          → FillAll (function_at q f).code p.literals (size_of_place p tf) all o.element k inner n i pc pc2
          → RestAt (initialise_all p call all o.element k j inner (part_at b path)) b pc pc2
      all_begin typed.no_initialisers path count inner k j i b pc pc2 lead within few ei ht ha h = rest_clears path count inner k j i b pc pc2 lead within ei h
      all_begin (typed.and_initialiser x more) path count inner zero j i b pc pc2 lead within few ei ht ha h = absurd (omega (arith, few))
      all_begin (typed.and_initialiser x more) path count inner (suc k) j i b pc pc2 lead within few ei ht ha h =
          let typed_x = initialiser_is_typed p tf o.element inner x in
          let typed_more = initialisers_are_typed p tf o.element inner more in
          let less : suc k - 1 ≡ k = omega arith in
          subst (λ m. RestAt (λ s. then_do (initialise p call x o.element inner (part_at b (path ++ j ∷ [])) s)
          (λ u s. initialise_all p call more o.element m (suc j) inner (part_at b path) s)) b pc pc2) (sym less)
          (parts_begin (initialise p call x o.element inner (part_at b (path ++ j ∷ [])))
          (initialise_all p call more o.element k (suc j) inner (part_at b path)) b pc h.0 pc2
          (fills_begin x inner (path ++ j ∷ []) i b pc h.0 (leads_on path o.lengths count j inner lead (omega (arith, within, few)))
          (number_on path o.lengths count j inner lead ∙ ei) (left_true typed_x typed_more ht) (left_true (initialiser_is_asked x) (initialisers_are_asked more) ha) h.1)
          (all_begin more path count inner k (suc j) (i + elements_in inner) b h.0 pc2 lead (omega (arith, within, few)) (omega (arith, few))
          (next_row (number o.lengths path) j (elements_in inner) i ei) (right_true typed_x typed_more ht)
          (right_true (initialiser_is_asked x) (initialisers_are_asked more) ha) h.2))

  module _ (room : AreSized tf) where
    object_begins : (lengths : List ℕ) (t : ObjectType) → t.lengths ≡ lengths → (i : Initialiser) (x b pc pc2 : ℕ) → slice_get (function_at q f).objects x ≡ Some t
        → initialiser_is_typed p tf t.element t.lengths i ≡ true → initialiser_is_asked i ≡ true
        → InitialisesObject (function_at q f).code p tf t.element lengths i x pc pc2
        → BeginsAt p call q deep f tf.type.result (initialise p call i t.element t.lengths (whole (b + x))) b pc pc2
    object_begins [] t el i x b pc pc2 at ht ha h = word_begins i t x b pc pc2 el at ht ha h
    object_begins (k ∷ lengths) t el i x b pc pc2 at ht ha h =
        let fit = room x t (sym (ap (λ l. slice_get l x) same.objects) ∙ at) in
        fills_begin x t (record { at = at; is_array = λ e. no_lengths k lengths (sym el ∙ e); small = is_small t fit }) (has_elements t fit) i t.lengths [] 0 b pc pc2 refl
        (first_number t.lengths) ht ha
        (subst (λ l. Fills (function_at q f).code p.literals (size_of_place p tf) i t.element l x 0 pc pc2) (sym el) h)
      where
        no_lengths : (k : ℕ) (lengths : List ℕ) → k ∷ lengths ≡ [] → ⊥
        no_lengths k lengths e = cc

        first_number : (l : List ℕ) → number l [] ≡ 0
        first_number [] = refl
        first_number (k ∷ l) = refl

    pub define_at : (o : Option ObjectType) (n : ℕ) (i : Initialiser) (out again pc p1 pc2 : ℕ) → slice_get (function_at q f).objects n ≡ o
        → definition_is_typed p tf o i ≡ true → initialiser_is_asked i ≡ true
        → One (function_at q f).code (instruction.Forget n 1) pc p1 → Initialises (function_at q f).code p tf o i n p1 pc2
        → Runs p call q deep f tf.type.result (λ s. tick s (λ s. define_object p call (function_at q f).objects o n i (renewed (function_at q f).objects n s))) pc
        pc2 out again
    define_at None n i out again pc p1 pc2 at ht ha i1 i2 = absurd (differ ht)
    define_at (Some t) n i out again pc p1 pc2 at ht ha i1 i2 =
        define_runs p call q deep f tf.type.result (λ b. initialise p call i t.element t.lengths (whole (b + n))) n pc p1 pc2 out again i1
        (λ b. object_begins t.lengths t refl i n b p1 pc2 at ht ha i2)
