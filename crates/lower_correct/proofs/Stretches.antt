-- The code follows the clearing of elements of an array, a tick for each (ISO/IEC 9899:2011 6.7.9p10, p21).
use Rattle.std.proofs.Common.{◌≡◌, ℕ, zero, suc, ◌+◌, ◌*◌, ◌^◌, ◌<◌, ◌≤◌, List, [], ◌∷◌, Option, Some, pos, inr, refl, sym, ap, ◌∙◌, subst, arith}
use Rattle.std.specs.Prelude.{slice_get}
use Rattle.ctypes.specs.declared.types.IntType.{IntType}
use Rattle.ctypes.specs.Types.{IsValueOf}
use Rattle.typing_spec.specs.Types.{ObjectType, elements_in}
use Rattle.typing_spec.specs.Program as typed
use Rattle.csem.specs.Store.{Tree, Element, Reference, whole, put}
use Rattle.csem.specs.Machine as machine
use Rattle.csem.specs.Machine.{Run, Goes, then_do, ticks}
use Rattle.csem.specs.Expressions.{Calling}
use Rattle.csem.specs.Statements.{zeros}
use Rattle.tac_code.specs.declared.code.Target.TheVariants as target
use Rattle.tac_code.specs.declared.code.Place.TheVariants as place
use Rattle.tac_code.specs.Code.{Program, function_at}
use Rattle.tac_code.specs.Run.{Call, State, running, path_of}
use Rattle.lower_correct.specs.Code.{zero_word}
use Rattle.lower_correct.specs.Initialisers.{Clears}
use Rattle.lower_correct.proofs.Steps.{Reaches, reaches_on, stays, goes, Sim, sim_after, sim_move}
use Rattle.lower_correct.proofs.Shapes.{HasShape, Leads}
use Rattle.lower_correct.proofs.Elements.{path_there, first_within}
use Rattle.lower_correct.proofs.Written.{written, is_written}
use Rattle.lower_correct.proofs.Zeros.{number, first_is, zeros_are_written}
use Rattle.lower_correct.proofs.Filling.{with_object, put_itself, put_element, zeros_state}
use Rattle.lower_correct.proofs.Stores.{Refers, Fine, fine_changed, fine_later, after_store, after_since, tree_is, own_at, own_fits, own_apart}
use Rattle.lower_correct.proofs.Standing.{Scratch, here, put_scratch, does_move, world}
use Rattle.lower_correct.proofs.Memory.{put_reference, held_word, does_address, does_store, is_at_element}
use Rattle.lower_correct.proofs.Turning.{Array}
use Rattle.lower_correct.proofs.Clearing.{tick_then, clears}
use Rattle.lower_correct.proofs.Expressions.{zero_fits}
use Rattle.lower_correct.proofs.Flows.{writes_all, StandsAt}

-- ---- rows within rows

pub times_less : (a b e : ℕ) → a ≤ b → a * e ≤ b * e
times_less zero b e h = let z : 0 * e ≡ 0 = grind arith in omega (arith, z)
times_less (suc a) zero e h = absurd (omega (arith, h))
times_less (suc a) (suc b) e h =
    let more = times_less a b e (omega (arith, h)) in
    let one : suc a * e ≡ e + a * e = grind arith in
    let two : suc b * e ≡ e + b * e = grind arith in
    omega (arith, more, one, two)

pub rows_within : (i k n e : ℕ) → i + k ≤ n → i * e + k * e ≤ n * e
rows_within i k n e h =
    let all = times_less (i + k) n e h in
    let sum : (i + k) * e ≡ i * e + k * e = grind arith in
    omega (arith, all, sum)

abbrev pub done : Unit {0}
done = tt

-- object n of the call is an array of this type
pub record IsArray (q : Program) (f n : ℕ) (o : ObjectType) : Type 0 where
  pub at : slice_get (function_at q f).objects n ≡ Some o
  pub is_array : o.lengths ≡ [] → ⊥
  pub small : elements_in o.lengths < 2 ^ 32

module _ (p : typed.Program) (call : Calling) (q : Program) (deep f : ℕ) (result : Option IntType) (n : ℕ) (o : ObjectType) (is : IsArray q f n o) (ws : List Call) where
  -- the former value of the array, and element `first` of it
  pub record Old (s : machine.State) (first : ℕ) : Type 0 where
    pub tree : Tree
    pub there : slice_get s.store (s.base + n) ≡ Some tree
    pub shape : HasShape o.element o.lengths tree
    pub path : List ℕ
    pub path_is : path_of tree first ≡ Some path
    pub leads : Leads path o.lengths []
    pub number : number o.lengths path ≡ first

  pub old_at : (s : machine.State) (first : ℕ) → Fine (world p q f ws) s → first < elements_in o.lengths → Old s first
  old_at s first fine lt =
      let old = tree_is o (slice_get s.store (s.base + n)) (own_fits (world p q f ws) s n o fine is.at) in
      let way = path_there o.element o.lengths old.0 first old.2 lt in
      record {
        tree = old.0;
        there = old.1;
        shape = old.2;
        path = way.path;
        path_is = way.is;
        leads = way.leads;
        number = sym (first_is o.element way.path o.lengths [] old.0 old.2 way.leads) ∙ way.first;
      }

  abbrev pub array_of : (s : machine.State) (first : ℕ) → Fine (world p q f ws) s → Old s first → Array p q f ws s o.element first
  array_of s first fine old = record {
    object = s.base + n;
    type = o;
    at = own_at (world p q f ws) s n o fine is.at;
    element = refl;
    is_array = is.is_array;
    no_literal = own_apart (world p q f ws) s n fine;
    tree = old.tree;
    there = old.there;
    path = old.path;
    leads = old.leads;
    number = old.number;
  }

  pub refers_to : (s : machine.State) (path rest : List ℕ) → Fine (world p q f ws) s → Leads path o.lengths rest
      → Refers (world p q f ws) (record { object = s.base + n; path = path }) o.element rest
  refers_to s path rest fine lead =
      record { object = o; at = own_at (world p q f ws) s n o fine is.at; element = refl; leads = lead; memory = inr is.is_array }

  -- the array as a tree, k ticks being left
  abbrev pub with_array : machine.State → (k : ℕ) → Tree → machine.State
  with_array s k tree = record s { clock = k; store = with_object s.store (s.base + n) tree }

  pub stands_changed : (s : machine.State) (k pc : ℕ) (now : Scratch) (tree : Tree) → Fine (world p q f ws) s → HasShape o.element o.lengths tree
      → StandsAt p call q deep f result pc s ws (with_array s k tree) (here f pc now ws (with_array s k tree))
  stands_changed s k pc now tree fine shape =
      let W = world p q f ws in
      let s1 : machine.State = record s { clock = k } in
      let fine1 = fine_later W s k fine in record {
        now = now;
        at = refl;
        fine = fine_changed W (whole (s.base + n)) o o.lengths tree s1 (own_at W s n o fine is.at) refl shape (own_apart W s n fine) fine1;
        after = after_since writes_all s (with_array s k tree) k
            (after_store W writes_all (whole (s.base + n)) o.element o.lengths tree s1 fine1 (refers_to s [] o.lengths fine refl));
      }

  -- it is where the abstract machine goes on
  pub ends_changed : (s z : machine.State) (k pc hi : ℕ) (now : Scratch) (tree : Tree) → Fine (world p q f ws) s → HasShape o.element o.lengths tree
      → with_array s k tree ≡ z → 60 * k + 14 ≤ hi
      → Sim q 14 hi k (here f pc now ws (with_array s k tree)) (λ u. StandsAt p call q deep f result pc s ws) (Goes done z)
  ends_changed s z k pc hi now tree fine shape e h =
      let t = here f pc now ws (with_array s k tree) in
      subst (λ z. Sim q 14 hi k t (λ u. StandsAt p call q deep f result pc s ws) (Goes done z)) e
      (goes q 14 (StandsAt p call q deep f result pc s ws) hi k 0 0 t t (with_array s k tree) (stays q t) (omega (arith, h)) (omega arith)
      (stands_changed s k pc now tree fine shape))

  -- rows from number i on of a part become zero
  module _ (path : List ℕ) (count : ℕ) (inner : List ℕ) (k i : ℕ) (lead : Leads path o.lengths (count ∷ inner)) (within : i + k ≤ count) where
    abbrev pub first : ℕ
    first = number o.lengths path + i * elements_in inner

    abbrev last : ℕ → Unit {0} → machine.State → Run (Unit {0})
    last b u s = Goes done (zeros k i (record { object = b; path = path }) s)

    fits : (s : machine.State) (tree : Tree) → HasShape o.element o.lengths tree → first + k * elements_in inner ≤ elements_in o.lengths
    fits s tree shape =
        let part = first_within o.element path o.lengths (count ∷ inner) tree shape lead in
        let start = first_is o.element path o.lengths (count ∷ inner) tree shape lead in
        let rows = rows_within i k count (elements_in inner) within in
        omega (arith, part, start, rows)

    zero_is : IsValueOf o.element (pos 0)
    zero_is = zero_fits (Some o.element)

    all_cleared : (s : machine.State) (tree : Tree) (k2 : ℕ) → slice_get s.store (s.base + n) ≡ Some tree → HasShape o.element o.lengths tree
        → with_array s k2 (written tree first (k * elements_in inner) (λ j. pos 0))
        ≡ zeros k i (record { object = s.base + n; path = path }) (record s { clock = k2 })
    all_cleared s tree k2 there shape =
        ap (λ t. with_array s k2 t) (zeros_are_written o.element path o.lengths count inner k i tree shape lead within zero_is (fits s tree shape))
        ∙ sym (zeros_state o.element o.lengths count inner k i (record { object = s.base + n; path = path }) (record s { clock = k2 }) tree there shape lead within
        zero_is)

    clears_by : (c pc pc2 : ℕ) → c ≡ k * elements_in inner → Clears (function_at q f).code o.element n first c pc pc2
        → (s : machine.State) (now : Scratch) → Fine (world p q f ws) s
        → Sim q 14 (60 * s.clock + 14) s.clock (here f pc now ws s) (λ u. StandsAt p call q deep f result pc2 s ws) (then_do (ticks c s) (last (s.base + n)))
    clears_by zero pc pc2 ec h s now fine =
        let old = tree_is o (slice_get s.store (s.base + n)) (own_fits (world p q f ws) s n o fine is.at) in
        let tree = old.0 in
        let same : written tree first (k * elements_in inner) (λ j. pos 0) ≡ tree = ap (λ c. written tree first c (λ j. pos 0)) (sym ec) in
        let e : with_array s s.clock tree ≡ zeros k i (record { object = s.base + n; path = path }) s =
        ap (λ t. with_array s s.clock t) (sym same) ∙ all_cleared s tree s.clock old.1 old.2 in
        sim_move q 14 (λ u. StandsAt p call q deep f result pc2 s ws) (60 * s.clock + 14) s.clock (here f pc now ws s) (here f pc2 now ws (with_array s s.clock tree))
        (last (s.base + n) done s)
        (ap (λ m. here f m now ws s) h ∙ ap (λ store. here f pc2 now ws (record s { store = store })) (sym (put_itself s.store (s.base + n) tree old.1)))
        (ends_changed s (zeros k i (record { object = s.base + n; path = path }) s) s.clock pc2 (60 * s.clock + 14) now tree fine old.2 e (omega arith))
    clears_by (suc zero) pc pc2 ec h s now fine =
        let W = world p q f ws in
        let Good2 : Unit {0} → machine.State → State → Type 0 = λ u. StandsAt p call q deep f result pc2 s ws in
        let shaped = tree_is o (slice_get s.store (s.base + n)) (own_fits W s n o fine is.at) in
        let room = fits s shaped.0 shaped.2 in
        let old = old_at s first fine (omega (arith, room, ec)) in
        let r : Reference = record { object = s.base + n; path = old.path } in
        let none : first + 0 ≡ first = omega arith in
        let w = is_written o.element o.lengths old.tree first 1 (λ j. pos 0) old.shape (omega (arith, room, ec)) (λ j lt. zero_is) in
        let new = written old.tree first 1 (λ j. pos 0) in
        let there : put s.store r (Element (Some (pos 0))) ≡ with_object s.store (s.base + n) new =
        ap (λ store. put store r (Element (Some (pos 0)))) (sym (put_itself s.store (s.base + n) old.tree old.there))
        ∙ put_element s.store (s.base + n) old.tree old.tree (first + 0) old.path (pos 0) old.there (ap (path_of old.tree) none ∙ old.path_is) in
        let step = does_store p q f o.element zero_word (place.Element n first o.element) r 0 (pos 0) pc pc2 now ws s h refl
        (is_at_element p q f n first o.element o old.tree old.path now s is.at refl old.there old.path_is) (refers_to s old.path [] fine old.leads) fine
        (own_apart W s n fine) (held_word o.element (pos 0) zero_is) in
        let step2 : Reaches q (here f pc now ws s) 1 7 (running (here f pc2 now ws (with_array s s.clock new))) =
        subst (λ store. Reaches q (here f pc now ws s) 1 7 (running (here f pc2 now ws (record s { store = store })))) there step in
        tick_then q Good2 s.clock (here f pc now ws s) s 14 (ticks 0) (last (s.base + n)) refl refl
        (λ k2 lt. sim_after q 14 Good2 (60 * k2 + 60 + 14) (suc k2) (60 * k2 + 14) k2 1 7 (here f pc now ws s) (here f pc2 now ws (with_array s k2 new))
        (last (s.base + n) done (record s { clock = k2 })) step2 (omega arith) (omega arith)
        (ends_changed s (zeros k i (record { object = s.base + n; path = path }) (record s { clock = k2 })) k2 pc2 (60 * k2 + 14) now new fine w.shape
        (ap (λ c. with_array s k2 (written old.tree first c (λ j. pos 0))) ec ∙ all_cleared s old.tree k2 old.there old.shape) (omega arith)))
    clears_by (suc (suc c)) pc pc2 ec h s now fine =
        let W = world p q f ws in
        let Good2 : Unit {0} → machine.State → State → Type 0 = λ u. StandsAt p call q deep f result pc2 s ws in
        let shaped = tree_is o (slice_get s.store (s.base + n)) (own_fits W s n o fine is.at) in
        let room = fits s shaped.0 shaped.2 in
        let old = old_at s first fine (omega (arith, room, ec)) in
        let r : Reference = record { object = s.base + n; path = old.path } in
        let a = array_of s first fine old in
        let w = is_written o.element o.lengths old.tree first (suc (suc c)) (λ j. pos 0) old.shape (omega (arith, room, ec)) (λ j lt. zero_is) in
        let now1 = put_scratch (target.Temporary 0) 0 now in
        let now2 = put_reference (target.Temporary 1) r now1 in
        let z = here f h.1 now2 ws (with_array s s.clock old.tree) in
        let one = does_move q f (target.Temporary 0) zero_word 0 pc h.0 now ws s h.2 refl tt in
        let two = does_address p q f (target.Temporary 1) (place.Element n first o.element) r h.0 h.1 now1 ws s h.3
        (is_at_element p q f n first o.element o old.tree old.path now1 s is.at refl old.there old.path_is) tt in
        let both : Reaches q (here f pc now ws s) 2 12 (running z) =
        subst (λ store. Reaches q (here f pc now ws s) 2 12 (running (here f h.1 now2 ws (record s { store = store }))))
        (sym (put_itself s.store (s.base + n) old.tree old.there))
        (reaches_on q (here f pc now ws s) (here f h.0 now1 ws s) 1 6 1 6 (running (here f h.1 now2 ws s)) one two) in
        sim_after q 14 Good2 (60 * s.clock + 14) s.clock (60 * s.clock + 2) s.clock 2 12 (here f pc now ws s) z
        (then_do (ticks (suc (suc c)) s) (last (s.base + n))) both (omega arith) (omega arith)
        (clears p q f ws o.element first (suc (suc c)) h.1 pc2 h.4 (let small = is.small in omega (arith, room, ec, small)) (λ j. pos 0) (λ j. zero_is) zero_is 0
        (λ j le. refl) (suc c) 0 now2 s a 2 Good2 (last (s.base + n)) (omega arith) (omega arith) (omega (arith, room, ec)) old.shape fine
        (record { count = refl; base = refl })
        (λ k2 now3 same. ends_changed s (zeros k i (record { object = s.base + n; path = path }) (record s { clock = k2 })) k2 pc2 (60 * k2 + 21 + 2) now3
        (written old.tree first (suc (suc c)) (λ j. pos 0)) fine w.shape
        (ap (λ c. with_array s k2 (written old.tree first c (λ j. pos 0))) ec ∙ all_cleared s old.tree k2 old.there old.shape) (omega arith)))

    pub clears_do : (pc pc2 : ℕ) → Clears (function_at q f).code o.element n first (k * elements_in inner) pc pc2 → (s : machine.State) (now : Scratch)
        → Fine (world p q f ws) s
        → Sim q 14 (60 * s.clock + 14) s.clock (here f pc now ws s) (λ u. StandsAt p call q deep f result pc2 s ws)
        (then_do (ticks (k * elements_in inner) s) (last (s.base + n)))
    clears_do pc pc2 h s now fine = clears_by (k * elements_in inner) pc pc2 refl h s now fine
