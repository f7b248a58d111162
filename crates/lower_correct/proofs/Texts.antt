-- The code follows a string literal that an array begins with (ISO/IEC 9899:2011 6.7.9p14).
use Rattle.std.proofs.Common.{◌≡◌, ℕ, zero, suc, ◌+◌, ◌-◌, ◌*◌, ◌<◌, ◌≤◌, min, List, [], ◌∷◌, length, Option, Some, Bool, true, false, not, ℤ, pos, refl, sym, ap, ◌∙◌, subst, arith}
use Rattle.std.specs.Prelude.{slice_get, nat_lt}
use Rattle.std.proofs.lemmas.Bool.Decides.{nat_tests}
use Rattle.ctypes.specs.declared.types.IntType.{IntType}
use Rattle.ctypes.specs.declared.types.IntType.TheVariants as ty
use Rattle.ctypes.specs.Types.{IsValueOf}
use Rattle.ctypes.proofs.Uses.{converted_fits}
use Rattle.typing_spec.specs.Types.{ObjectType, elements_in}
use Rattle.typing_spec.specs.Initialisers.{is_character}
use Rattle.typing_spec.specs.Program as typed
use Rattle.typing_spec.specs.Program.{Function}
use Rattle.csem.specs.Store.{Tree, Reference, whole}
use Rattle.csem.specs.Machine as machine
use Rattle.csem.specs.Machine.{Run, Goes, then_do, tick, ticks}
use Rattle.csem.specs.Expressions.{Calling}
use Rattle.csem.specs.Statements.{characters}
use Rattle.tac_code.specs.declared.code.Target.TheVariants as target
use Rattle.tac_code.specs.declared.code.Place.TheVariants as place
use Rattle.tac_code.specs.Code.{Program, function_at}
use Rattle.tac_code.specs.Run.{Call, State, running}
use Rattle.lower_correct.specs.Places.{is_truth}
use Rattle.lower_correct.specs.Code.{zero_word}
use Rattle.lower_correct.specs.Initialisers.{CopiesFirst, ClearsRest, Copies}
use Rattle.lower_correct.proofs.Words.{differ}
use Rattle.lower_correct.proofs.Steps.{Reaches, reaches_on, Sim, sim_after, sim_map, sim_move, tick_in}
use Rattle.lower_correct.proofs.Shapes.{HasShape, Leads}
use Rattle.lower_correct.proofs.Elements.{first_within}
use Rattle.lower_correct.proofs.Written.{IsWritten, written, is_written}
use Rattle.lower_correct.proofs.Zeros.{number, first_is, same_written}
use Rattle.lower_correct.proofs.Filling.{put_itself, character, text_rows, texted, characters_state}
use Rattle.lower_correct.proofs.Stores.{Fine, fine_later, after_since, tree_is, own_fits}
use Rattle.lower_correct.proofs.Standing.{Scratch, here, put_scratch, does_nothing, does_move, world, IsCode}
use Rattle.lower_correct.proofs.Memory.{put_reference, does_address, is_at_element}
use Rattle.lower_correct.proofs.Turning.{Counts}
use Rattle.lower_correct.proofs.Clearing.{later, clears}
use Rattle.lower_correct.proofs.Copying.{past_letters, beyond, beyond_is, CopyCounts, copies}
use Rattle.lower_correct.proofs.Expressions.{zero_fits}
use Rattle.lower_correct.proofs.Flows.{writes_all, StandsAt}
use Rattle.lower_correct.proofs.Stretches.{done, IsArray, Old, old_at, array_of, with_array, ends_changed}

letters_fit : (t : IntType) (text : List ℕ) (j : ℕ) → IsValueOf t (character t text j)
letters_fit t [] j = zero_fits (Some t)
letters_fit t (c ∷ text) zero = converted_fits t (pos c)
letters_fit t (c ∷ text) (suc j) = letters_fit t text j

no_truth : (t : IntType) → is_character t ≡ true → not (is_truth t) ≡ true
no_truth ty.Bool h = absurd (differ h)
no_truth ty.Char h = refl
no_truth ty.SChar h = refl
no_truth ty.UChar h = refl
no_truth ty.Short h = refl
no_truth ty.UShort h = refl
no_truth ty.Int h = refl
no_truth ty.UInt h = refl
no_truth ty.Long h = refl
no_truth ty.ULong h = refl

-- how many characters have room
fewer : (count l c : ℕ) → min count l ≡ c → nat_lt l count ≡ true → c ≡ l
fewer count l c e h = grind (arith, nat_tests)

all_of_it : (count l c : ℕ) → min count l ≡ c → nat_lt l count ≡ false → c ≡ count
all_of_it count l c e h = grind (arith, nat_tests)

within_both : (count l c : ℕ) → min count l ≡ c → (c ≤ count) × (c ≤ l)
within_both count l c e = (omega (arith, e), omega (arith, e))

module _ (p : typed.Program) (tf : Function) (call : Calling) (q : Program) (deep f : ℕ) (same : IsCode p tf q f) (result : Option IntType) (n : ℕ) (o : ObjectType)
    (is : IsArray q f n o) (ws : List Call) (path : List ℕ) (count m : ℕ) (text : List ℕ) (text_is : slice_get p.literals m ≡ Some text)
    (chars : is_character o.element ≡ true) (lead : Leads path o.lengths (count ∷ [])) where
  abbrev first : ℕ
  first = number o.lengths path

  abbrev give : ℕ → ℤ
  give = character o.element text

  abbrev last : ℕ → Unit {0} → machine.State → Run (Unit {0})
  last b u s = Goes done (characters o.element count 0 text (record { object = b; path = path }) s)

  abbrev array_with : machine.State → (k : ℕ) → Tree → machine.State
  array_with s k tree = with_array p call q deep f result n o is ws s k tree

  room : (tree : Tree) → HasShape o.element o.lengths tree → first + count ≤ elements_in o.lengths
  room tree shape =
      let part : _ ≤ elements_in o.lengths = first_within o.element path o.lengths (count ∷ []) tree shape lead in
      let start = first_is o.element path o.lengths (count ∷ []) tree shape lead in
      omega (arith, part, start)

  all_copied : (s : machine.State) (tree : Tree) (k2 : ℕ) → slice_get s.store (s.base + n) ≡ Some tree → HasShape o.element o.lengths tree
      → array_with s k2 (written tree first count give) ≡ characters o.element count 0 text (record { object = s.base + n; path = path }) (record s { clock = k2 })
  all_copied s tree k2 there shape =
      let rows = text_rows path o.element count 0 text tree in
      let none : first + 0 ≡ first = omega arith in
      let code = is_written o.element o.lengths tree first count give shape (room tree shape) (λ j lt. letters_fit o.element text j) in
      let meaning : IsWritten o.element o.lengths tree rows first count give =
      subst (λ i. IsWritten o.element o.lengths tree rows i count give) none
      (texted o.element path o.lengths count count 0 text tree shape lead (omega arith) (letters_fit o.element text)) in
      ap (λ t. array_with s k2 t) (same_written o.element o.lengths tree (written tree first count give) rows first count give code meaning)
      ∙ sym (characters_state o.element o.lengths count count 0 text (record { object = s.base + n; path = path }) (record s { clock = k2 }) tree there shape lead
      (omega arith) (letters_fit o.element text))

  abbrev Ended : ℕ → machine.State → Unit {0} → machine.State → State → Type 0
  Ended pc2 s u = StandsAt p call q deep f result pc2 s ws

  -- c characters are copied; the rest of the row becomes zero
  module _ (s : machine.State) (fine : Fine (world p q f ws) s) (old : Old p call q deep f result n o is ws s (number o.lengths path)) where
    all_there : (k2 pc2 hi : ℕ) (now : Scratch) → 60 * k2 + 14 ≤ hi
        → Sim q 14 hi k2 (here f pc2 now ws (array_with s k2 (written old.tree first count give))) (Ended pc2 s) (last (s.base + n) done (record s { clock = k2 }))
    all_there k2 pc2 hi now h =
        let w = is_written o.element o.lengths old.tree first count give old.shape (room old.tree old.shape) (λ j lt. letters_fit o.element text j) in
        ends_changed p call q deep f result n o is ws s
        (characters o.element count 0 text (record { object = s.base + n; path = path }) (record s { clock = k2 })) k2 pc2 hi now
        (written old.tree first count give) fine w.shape (all_copied s old.tree k2 old.there old.shape) h

    rest_does : (b : Bool) (c r rest pc2 k2 : ℕ) (now : Scratch) → c + r ≡ count → nat_lt (length text) count ≡ b → (b ≡ true → c ≡ length text)
        → (b ≡ false → c ≡ count)
        → ClearsRest (function_at q f).code b o.element count rest pc2
        → Counts p q f ws s o.element first (array_of p call q deep f result n o is ws s first fine old) give c now (array_with s k2 (written old.tree first c give))
        → Sim q 14 (60 * k2 + 50) k2 (here f rest now ws (array_with s k2 (written old.tree first c give))) (Ended pc2 s)
        (then_do (ticks r (record s { clock = k2 })) (last (s.base + n)))
    rest_does true c zero rest pc2 k2 now e eb ht hf i has = absurd (let less = ht refl in impossible less)
      where
        impossible : c ≡ length text → ⊥
        impossible less = grind (arith, nat_tests)
    rest_does true c (suc r) rest pc2 k2 now e eb ht hf i has =
        let W = world p q f ws in
        let s1 : machine.State = record s { clock = k2 } in
        let t = o.element in
        let fit = room old.tree old.shape in
        clears p q f ws t first count rest pc2 i (let small = is.small in omega (arith, fit, small)) give (letters_fit t text) (zero_fits (Some t)) (length text)
        (past_letters t text) r c now s1 (later p q f ws t first s k2 (array_of p call q deep f result n o is ws s first fine old)) 50 (Ended pc2 s)
        (last (s.base + n)) (let less = ht refl in omega (arith, less)) e fit old.shape (fine_later W s k2 fine) (record { count = has.count; base = has.base })
        (λ k3 now3 kept. all_there k3 pc2 (60 * k3 + 21 + 50) now3 (omega arith))
    rest_does false c (suc r) rest pc2 k2 now e eb ht hf i has = absurd (let all = hf refl in let z : ⊥ = omega (arith, all, e) in z)
    rest_does false c zero rest pc2 k2 now e eb ht hf i has =
        let all = hf refl in
        sim_move q 14 (Ended pc2 s) (60 * k2 + 50) k2 (here f rest now ws (array_with s k2 (written old.tree first c give)))
        (here f pc2 now ws (array_with s k2 (written old.tree first count give))) (last (s.base + n) done (record s { clock = k2 }))
        (ap (λ m. here f m now ws (array_with s k2 (written old.tree first c give))) i
        ∙ ap (λ c. here f pc2 now ws (array_with s k2 (written old.tree first c give))) all)
        (all_there k2 pc2 (60 * k2 + 50) now (omega arith))

    all_does : (c top rest pc2 : ℕ) (now : Scratch) → min count (length text) ≡ c → CopiesFirst (function_at q f).code o.element c top rest
        → ClearsRest (function_at q f).code (nat_lt (length text) count) o.element count rest pc2
        → CopyCounts p q f (record { object = s.base + n; path = old.path }) m 0 now s
        → Sim q 14 (60 * s.clock + 50) s.clock (here f top now ws (array_with s s.clock old.tree)) (Ended pc2 s) (then_do (ticks count s) (last (s.base + n)))
    all_does zero top rest pc2 now e i1 i2 has =
        sim_move q 14 (Ended pc2 s) (60 * s.clock + 50) s.clock (here f top now ws (array_with s s.clock old.tree)) (here f rest now ws (array_with s s.clock old.tree))
        (then_do (ticks count s) (last (s.base + n))) (ap (λ m. here f m now ws (array_with s s.clock old.tree)) i1)
        (rest_does (nat_lt (length text) count) 0 count rest pc2 s.clock now (omega arith) refl (fewer count (length text) 0 e) (all_of_it count (length text) 0 e) i2
        (record { count = has.count; base = has.base }))
    all_does (suc c) top rest pc2 now e i1 i2 has =
        let t = o.element in
        let fit = room old.tree old.shape in
        let both = within_both count (length text) (suc c) e in
        let r = count - suc c in
        let left = beyond_is c r in
        let sum : suc (beyond c r) ≡ count = omega (arith, left, both.0) in
        subst (λ x. Sim q 14 (60 * s.clock + 50) s.clock (here f top now ws (array_with s s.clock old.tree)) (Ended pc2 s) (then_do (ticks x s) (last (s.base + n)))) sum
        (copies p tf call q deep f same ws t first m text text_is (no_truth t chars) (suc c) top rest i1
        (let small = is.small in omega (arith, fit, small, both.0)) both.1 (letters_fit t text) c r 0 now s
        (array_of p call q deep f result n o is ws s first fine old) 50 (Ended pc2 s) (last (s.base + n)) (omega arith) (omega (arith, fit, both.0)) old.shape fine
        (record { count = has.count; base = has.base; text = has.text })
        (λ k2 now2 has2. rest_does (nat_lt (length text) count) (suc c) r rest pc2 k2 now2 (omega (arith, both.0)) refl (fewer count (length text) (suc c) e)
        (all_of_it count (length text) (suc c) e) i2 (record { count = has2.count; base = has2.base })))

  pub copies_do : (pc pc2 : ℕ) → 0 < count → Copies (function_at q f).code o.element n first m count (length text) pc pc2 → (s : machine.State) (now : Scratch)
      → Fine (world p q f ws) s
      → Sim q 14 (60 * s.clock + 8) s.clock (here f pc now ws s) (Ended pc2 s) (tick s (λ s1. then_do (ticks count s1) (last (s.base + n))))
  copies_do pc pc2 some h s now fine =
      tick_in q 14 (Ended pc2 s) (here f pc now ws s) (here f h.0 now ws s) s 8 (60 * s.clock + 8) (λ s1. then_do (ticks count s1) (last (s.base + n))) (omega arith)
      refl refl (does_nothing q f pc h.0 now ws s h.5)
      (λ k lt.
      let W = world p q f ws in
      let s1 : machine.State = record s { clock = k } in
      let fine1 = fine_later W s k fine in
      let old = old_at p call q deep f result n o is ws s1 first fine1 (starts s1 fine1) in
      let r : Reference = record { object = s.base + n; path = old.path } in
      let now1 = put_scratch (target.Temporary 0) 0 now in
      let now2 = put_reference (target.Temporary 1) r now1 in
      let now3 = put_reference (target.Temporary 2) (whole m) now2 in
      let z = here f h.3 now3 ws (array_with s1 k old.tree) in
      let one = does_move q f (target.Temporary 0) zero_word 0 h.0 h.1 now ws s h.6 refl tt in
      let two = does_address p q f (target.Temporary 1) (place.Element n first o.element) r h.1 h.2 now1 ws s h.7
      (is_at_element p q f n first o.element o old.tree old.path now1 s is.at refl old.there old.path_is) tt in
      let three = does_address p q f (target.Temporary 2) (place.Literal m) (whole m) h.2 h.3 now2 ws s h.8 refl tt in
      let all : Reaches q (here f h.0 now ws s) 3 18 (running z) =
      subst (λ store. Reaches q (here f h.0 now ws s) 3 18 (running (here f h.3 now3 ws (record s { store = store }))))
      (sym (put_itself s.store (s.base + n) old.tree old.there))
      (reaches_on q (here f h.0 now ws s) (here f h.1 now1 ws s) 1 6 2 12 (running (here f h.3 now3 ws s)) one
      (reaches_on q (here f h.1 now1 ws s) (here f h.2 now2 ws s) 1 6 1 6 (running (here f h.3 now3 ws s)) two three)) in
      sim_after q 14 (Ended pc2 s) (60 * k + 60 + 8) k (60 * k + 50) k 3 18 (here f h.0 now ws s) z (then_do (ticks count s1) (last (s.base + n))) all
      (omega arith) (omega arith)
      (sim_map q 14 14 (Ended pc2 s1) (Ended pc2 s) (60 * k + 50) (60 * k + 50) k z (then_do (ticks count s1) (last (s.base + n))) (omega arith) (omega arith)
      (all_does s1 fine1 old (min count (length text)) h.3 h.4 pc2 now3 refl h.9 h.10 (record { count = refl; base = refl; text = refl }))
      (λ u s2 z2 g. record { now = g.now; at = g.at; fine = g.fine; after = after_since writes_all s s2 k g.after })))
    where
      starts : (s1 : machine.State) → Fine (world p q f ws) s1 → first < elements_in o.lengths
      starts s1 fine1 =
          let old = tree_is o (slice_get s1.store (s1.base + n)) (own_fits (world p q f ws) s1 n o fine1 is.at) in
          let fit = room old.0 old.2 in
          omega (arith, fit, some)
