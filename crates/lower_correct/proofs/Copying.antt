-- The loop that copies a string literal to elements of an array, a tick for each character (ISO/IEC 9899:2011 6.7.9p14).
use Rattle.std.proofs.Common.{◌≡◌, ℕ, zero, suc, ◌+◌, ◌-◌, ◌*◌, ◌^◌, ◌<◌, ◌≤◌, List, [], ◌∷◌, length, Some, true, false, not, pos, refl, sym, ap, ◌∙◌, subst, arith}
use Rattle.std.specs.Prelude.{slice_get, option_map, nat_lt, if◌then◌else◌}
use Rattle.ctypes.specs.declared.types.IntType.{IntType}
use Rattle.ctypes.specs.declared.types.IntType.TheVariants as ty
use Rattle.ctypes.specs.Types.{IsValueOf, converted}
use Rattle.typing_spec.specs.Types.{elements_in}
use Rattle.typing_spec.specs.Program as typed
use Rattle.typing_spec.specs.Program.{Function}
use Rattle.csem.specs.Store.{Element, Reference, whole, part_of, at_path, value_of, value_at, put, characters_of, literal_object}
use Rattle.csem.specs.Machine as machine
use Rattle.csem.specs.Machine.{Run, then_do, ticks}
use Rattle.csem.specs.Expressions.{Calling}
use Rattle.tac_code.specs.declared.code.Operand.TheVariants as operand
use Rattle.tac_code.specs.declared.code.Target.TheVariants as target
use Rattle.tac_code.specs.declared.code.Place.TheVariants as place
use Rattle.tac_code.specs.declared.code.Reading.TheVariants as reading
use Rattle.tac_code.specs.declared.code.Operation.TheVariants as operation
use Rattle.tac_code.specs.declared.code.Comparison.TheVariants as comparison
use Rattle.tac_code.specs.Code.{Program, function_at}
use Rattle.tac_code.specs.Run.{Call, State, running, word, word_for, operate, holds, path_of, path_in, first_of}
use Rattle.lower_correct.specs.Places.{is_truth}
use Rattle.lower_correct.specs.Initialisers.{CopiesTo}
use Rattle.lower_correct.proofs.Words.{ranged}
use Rattle.lower_correct.proofs.Steps.{Reaches, reaches_on, Sim, sim_after, sim_move}
use Rattle.lower_correct.proofs.Shapes.{HasShape, value_in}
use Rattle.lower_correct.proofs.Elements.{no_less, if_false, path_there}
use Rattle.lower_correct.proofs.Written.{set_no, written, is_written}
use Rattle.lower_correct.proofs.Zeros.{first_is}
use Rattle.lower_correct.proofs.Filling.{character, with_object, got_object, put_element}
use Rattle.lower_correct.proofs.Stores.{Refers, Fine, fine_changed, fine_later}
use Rattle.lower_correct.proofs.Standing.{Scratch, here, put_scratch, set_same, Holds, does_compute, does_branch, world, IsCode}
use Rattle.lower_correct.proofs.Memory.{IsAt, put_reference, tree_there, refers_into, does_element, does_load, does_store}
use Rattle.lower_correct.proofs.Counting.{adds_one, less_is}
use Rattle.lower_correct.proofs.Turning.{Array, reached, refers}
use Rattle.lower_correct.proofs.Clearing.{tick_then, is_less, not_less, later}
use Rattle.lower_correct.proofs.Finding.{literal_refers}
use Rattle.lower_correct.proofs.Accesses.{held_cut}

-- ---- the characters of a literal

abbrev letter : List ℕ → ℕ → ℕ
letter [] j = 0
letter (c ∷ text) zero = c
letter (c ∷ text) (suc j) = letter text j

letter_there : (text : List ℕ) (j : ℕ) → j < length text → part_of (characters_of text) j ≡ Some (Element (Some (pos (letter text j))))
letter_there [] j lt = absurd (omega (arith, lt))
letter_there (c ∷ text) zero lt = refl
letter_there (c ∷ text) (suc j) lt = letter_there text j (omega (arith, lt))

given_letter : (t : IntType) (text : List ℕ) (j : ℕ) → j < length text → character t text j ≡ converted t (pos (letter text j))
given_letter t [] j lt = absurd (omega (arith, lt))
given_letter t (c ∷ text) zero lt = refl
given_letter t (c ∷ text) (suc j) lt = given_letter t text j (omega (arith, lt))

pub past_letters : (t : IntType) (text : List ℕ) (j : ℕ) → length text ≤ j → character t text j ≡ pos 0
past_letters t [] j le = refl
past_letters t (c ∷ text) zero le = absurd (omega (arith, le))
past_letters t (c ∷ text) (suc j) le = past_letters t text j (omega (arith, le))

letter_path : (text : List ℕ) (k j : ℕ) → j < length text → path_in (characters_of text) k j ≡ Some ((k + j) ∷ [])
letter_path [] k j lt = absurd (omega (arith, lt))
letter_path (c ∷ text) k zero lt = ap (λ n. Some (n ∷ [])) (let z : k ≡ k + 0 = omega arith in z)
letter_path (c ∷ text) k (suc j) lt =
    if_false (nat_lt (suc j) 1) (option_map (λ path. k ∷ path) (path_of (Element (Some (pos c))) (suc j))) (path_in (characters_of text) (suc k) (suc j - 1))
    (no_less (suc j) 1 (omega arith))
    ∙ (ap (path_in (characters_of text) (suc k)) (let z : suc j - 1 ≡ j = omega arith in z)
    ∙ (letter_path text (suc k) j (omega (arith, lt)) ∙ ap (λ n. Some (n ∷ [])) (let z : suc k + j ≡ k + suc j = omega arith in z)))

-- ---- n ticks, and r

abbrev pub beyond : (n r : ℕ) → ℕ
beyond zero r = r
beyond (suc n) r = suc (beyond n r)

pub beyond_is : (n r : ℕ) → beyond n r ≡ n + r
beyond_is zero r = omega arith
beyond_is (suc n) r = let e = beyond_is n r in omega (arith, e)

-- ---- a turn

-- temporary 0 counts, temporary 1 has the reference of the first element, temporary 2 that of literal m
pub record CopyCounts (p : typed.Program) (q : Program) (f : ℕ) (first : Reference) (m j : ℕ) (now : Scratch) (z : machine.State) : Type 0 where
  pub count : Holds q f (operand.Temporary 0) j now z
  pub base : IsAt p q f (place.At (operand.Temporary 1)) first now z
  pub text : IsAt p q f (place.At (operand.Temporary 2)) (whole m) now z

-- a character in place of its reference
abbrev loaded : (from : Reference) (w : ℕ) → Scratch → Scratch
loaded from w now = put_scratch (target.Temporary 3) w (put_reference (target.Temporary 3) from now)

module _ (p : typed.Program) (tf : Function) (call : Calling) (q : Program) (deep f : ℕ) (is : IsCode p tf q f) (ws : List Call) (t : IntType) (first : ℕ)
    (m : ℕ) (text : List ℕ) (there_is : slice_get p.literals m ≡ Some text) (no_truth : not (is_truth t) ≡ true) where
  module _ (s : machine.State) (a : Array p q f ws s t first) where
    abbrev pub copied : ℕ → machine.State
    copied j = reached p q f ws s t first a (character t text) j

    abbrev pub first_one : Reference
    first_one = record { object = a.object; path = a.path }

    record Turned (j c top pc2 : ℕ) (z : State) : Type 0 where
      now2 : Scratch
      reaches : Reaches q z 6 59 (running (here f (if nat_lt (suc j) c then top else pc2) now2 ws (copied (suc j))))
      counts : CopyCounts p q f first_one m (suc j) now2 (copied (suc j))

    turn : (j c top pc2 : ℕ) (now : Scratch) → CopiesTo (function_at q f).code t c top pc2 → CopyCounts p q f first_one m j now (copied j)
        → HasShape t a.type.lengths (written a.tree first j (character t text)) → first + j < elements_in a.type.lengths → j < length text
        → Fine (world p q f ws) (copied j) → operate operation.Add reading.Unsigned j 1 ≡ Some (suc j)
        → holds comparison.Less reading.Unsigned (suc j) c ≡ nat_lt (suc j) c → Turned j c top pc2 (here f top now ws (copied j))
    turn j c top pc2 now i has shape lt small fine adds less =
        let W = world p q f ws in
        let tree = written a.tree first j (character t text) in
        let s1 = copied j in
        let there : slice_get s1.store a.object ≡ Some tree = got_object s.store a.object a.tree tree a.there in
        let way = path_there t a.type.lengths tree (first + j) shape lt in
        let r : Reference = record { object = a.object; path = way.path } in
        let start : first_of tree a.path ≡ first = first_is t a.path a.type.lengths [] tree shape a.leads ∙ a.number in
        let found : path_of tree (first_of tree a.path + j) ≡ Some way.path = ap (λ n. path_of tree (n + j)) start ∙ way.is in
        let v = pos (letter text j) in
        let from : Reference = record { object = m; path = j ∷ [] } in
        let literal : Refers W (whole m) ty.Char (length text ∷ []) = literal_refers p tf call q deep f is ws m (Some text) there_is tt in
        let inside : Refers W from ty.Char [] = refers_into W (whole m) ty.Char (length text) j [] literal small in
        let kept : slice_get s1.store m ≡ Some (literal_object text) = fine.literals m text (ap (λ l. slice_get l m) is.literals ∙ there_is) in
        let none_first : 0 + j ≡ j = omega arith in
        let path_is : path_of (literal_object text) (first_of (literal_object text) [] + j) ≡ Some (j ∷ []) =
        ap (path_in (characters_of text) 0) none_first ∙ (letter_path text 0 j small ∙ ap (λ n. Some (n ∷ [])) none_first) in
        let is_letter : value_at s1.store from ≡ Some v =
        ap (λ o. value_of (at_path o (j ∷ []))) kept ∙ ap value_of (letter_there text j small) in
        let sub = tree_there W from ty.Char [] s1 fine inside in
        let fits : IsValueOf ty.Char v = value_in ty.Char [] sub.tree v sub.has (ap value_of (sym sub.is) ∙ is_letter) in
        let now1 = put_reference (target.Temporary 3) from now in
        let one = does_element p q f ty.Char (target.Temporary 3) (operand.Temporary 2) (operand.Temporary 0) (whole m) (length text ∷ []) (literal_object text) j
        (j ∷ []) top i.0 now ws s1 i.4 has.text has.count literal kept path_is tt in
        let two = does_load p q f ty.Char (target.Temporary 3) (place.At (operand.Temporary 3)) from v i.0 i.1 now1 ws s1 i.5 (third_set from now s1) inside is_letter tt in
        let now2 = put_scratch (target.Temporary 3) (word_for v) now1 in
        let three = does_element p q f t (target.Temporary 4) (operand.Temporary 1) (operand.Temporary 0) first_one [] tree j way.path i.1 i.2 now2 ws s1 i.6
        (base_stays from (word_for v) now s1 has.base) (count_stays j from (word_for v) now s1 has.count)
        (refers p q f ws s t first a (character t text) a.path a.leads) there found tt in
        let now3 = put_reference (target.Temporary 4) r now2 in
        let store = put s1.store r (Element (Some (converted t v))) in
        let four = does_store p q f t (operand.Temporary 3) (place.At (operand.Temporary 4)) r (word_for v) (converted t v) i.2 i.3 now3 ws s1 i.7
        (letter_stays (word_for v) r now1 s1) (fourth_set r now2 s1) (refers p q f ws s t first a (character t text) way.path way.leads) fine a.no_literal
        (held_cut t v no_truth (ranged ty.Char v fits)) in
        let same : store ≡ with_object s.store a.object (written a.tree first (suc j) (character t text)) =
        put_element s.store a.object a.tree tree (first + j) way.path (converted t v) a.there way.is
        ∙ ap (λ v. with_object s.store a.object (set_no tree (first + j) v)) (sym (given_letter t text j small)) in
        let s2 = copied (suc j) in
        let four2 : Reaches q (here f i.2 now3 ws s1) 1 7 (running (here f i.3 now3 ws s2)) =
        subst (λ store. Reaches q (here f i.2 now3 ws s1) 1 7 (running (here f i.3 now3 ws (record s { store = store })))) same four in
        let now4 = put_scratch (target.Temporary 0) (suc j) now3 in
        let five = does_compute q f operation.Add reading.Unsigned (target.Temporary 0) (operand.Temporary 0) (operand.Constant 1) j 1 (suc j) i.3 i.8.0 now3 ws s2
        i.8.1 (counted j from (word_for v) r now s1 s2 has.count) refl adds tt in
        let six = does_branch q f comparison.Less reading.Unsigned (operand.Temporary 0) (operand.Constant c) top (suc j) c (nat_lt (suc j) c) i.8.0 pc2 now4 ws s2
        i.8.2 (set_same now3.temporaries 0 (word (suc j))) refl less in
        let end = running (here f (if nat_lt (suc j) c then top else pc2) now4 ws s2) in
        record {
          now2 = now4;
          reaches = reaches_on q (here f top now ws s1) (here f i.0 now1 ws s1) 1 13 5 46 end one
              (reaches_on q (here f i.0 now1 ws s1) (here f i.1 now2 ws s1) 1 7 4 39 end two
              (reaches_on q (here f i.1 now2 ws s1) (here f i.2 now3 ws s1) 1 13 3 26 end three
              (reaches_on q (here f i.2 now3 ws s1) (here f i.3 now3 ws s2) 1 7 2 19 end four2
              (reaches_on q (here f i.3 now3 ws s2) (here f i.8.0 now4 ws s2) 1 11 1 8 end five six))));
          counts = record {
            count = set_same now3.temporaries 0 (word (suc j));
            base = base_last (suc j) from (word_for v) r now s1 s2 has.base;
            text = text_last (suc j) from (word_for v) r now s1 s2 has.text;
          };
        }
      where
        third_set : (r : Reference) (now : Scratch) (z : machine.State) → IsAt p q f (place.At (operand.Temporary 3)) r (put_reference (target.Temporary 3) r now) z
        third_set r now z = refl

        fourth_set : (r : Reference) (now : Scratch) (z : machine.State) → IsAt p q f (place.At (operand.Temporary 4)) r (put_reference (target.Temporary 4) r now) z
        fourth_set r now z = refl

        base_stays : (from : Reference) (w : ℕ) (now : Scratch) (z : machine.State) → IsAt p q f (place.At (operand.Temporary 1)) first_one now z
            → IsAt p q f (place.At (operand.Temporary 1)) first_one (loaded from w now) z
        base_stays from w now z h = h

        count_stays : (j : ℕ) (from : Reference) (w : ℕ) (now : Scratch) (z : machine.State) → Holds q f (operand.Temporary 0) j now z
            → Holds q f (operand.Temporary 0) j (loaded from w now) z
        count_stays j from w now z h = h

        letter_stays : (w : ℕ) (r : Reference) (now : Scratch) (z : machine.State)
            → Holds q f (operand.Temporary 3) w (put_reference (target.Temporary 4) r (put_scratch (target.Temporary 3) w now)) z
        letter_stays w r now z = refl

        counted : (j : ℕ) (from : Reference) (w : ℕ) (r : Reference) (now : Scratch) (z z2 : machine.State) → Holds q f (operand.Temporary 0) j now z
            → Holds q f (operand.Temporary 0) j (put_reference (target.Temporary 4) r (loaded from w now)) z2
        counted j from w r now z z2 h = h

        base_last : (k : ℕ) (from : Reference) (w : ℕ) (r : Reference) (now : Scratch) (z z2 : machine.State)
            → IsAt p q f (place.At (operand.Temporary 1)) first_one now z
            → IsAt p q f (place.At (operand.Temporary 1)) first_one (put_scratch (target.Temporary 0) k (put_reference (target.Temporary 4) r (loaded from w now))) z2
        base_last k from w r now z z2 h = h

        text_last : (k : ℕ) (from : Reference) (w : ℕ) (r : Reference) (now : Scratch) (z z2 : machine.State)
            → IsAt p q f (place.At (operand.Temporary 2)) (whole m) now z
            → IsAt p q f (place.At (operand.Temporary 2)) (whole m) (put_scratch (target.Temporary 0) k (put_reference (target.Temporary 4) r (loaded from w now))) z2
        text_last k from w r now z z2 h = h

  -- ---- the loop: c characters, then r ticks are left

  module _ (c top pc2 : ℕ) (i : CopiesTo (function_at q f).code t c top pc2) (small : c < 2 ^ 32) (enough : c ≤ length text)
      (hv : (j : ℕ) → IsValueOf t (character t text j)) where
    turned : (j : ℕ) (now : Scratch) (s : machine.State) (a : Array p q f ws s t first) → j < c → first + c ≤ elements_in a.type.lengths
        → HasShape t a.type.lengths a.tree → Fine (world p q f ws) s → CopyCounts p q f (first_one s a) m j now (copied s a j)
        → Turned s a j c top pc2 (here f top now ws (copied s a j))
    turned j now s a lt room shape fine has =
        let w = is_written t a.type.lengths a.tree first j (character t text) shape (omega (arith, lt, room)) (λ k less. hv k) in
        let fine2 : Fine (world p q f ws) (copied s a j) =
        fine_changed (world p q f ws) (whole a.object) a.type a.type.lengths (written a.tree first j (character t text)) s a.at refl
        (subst (λ u. HasShape u a.type.lengths (written a.tree first j (character t text))) (sym a.element) w.shape) a.no_literal fine in
        turn s a j c top pc2 now i has w.shape (omega (arith, lt, room)) (omega (arith, lt, enough)) fine2
        (adds_one j (omega (arith, lt, small))) (less_is (suc j) c (omega (arith, lt, small)) small)

    pub copies : {B : Type 0} (n r j : ℕ) (now : Scratch) (s : machine.State) (a : Array p q f ws s t first) (extra : ℕ)
        (Good : B → machine.State → State → Type 0) (go : Unit {0} → machine.State → Run B)
        → j + suc n ≡ c → first + c ≤ elements_in a.type.lengths → HasShape t a.type.lengths a.tree → Fine (world p q f ws) s
        → CopyCounts p q f (first_one s a) m j now (copied s a j)
        → ((k : ℕ) (now2 : Scratch) → CopyCounts p q f (first_one s a) m c now2 (copied s a c)
        → Sim q 14 (60 * k + extra) k (here f pc2 now2 ws (copied s a c)) Good (then_do (ticks r (record s { clock = k })) go))
        → Sim q 14 (60 * s.clock + extra) s.clock (here f top now ws (copied s a j)) Good (then_do (ticks (suc (beyond n r)) s) go)
    copies zero r j now s a extra Good go e room shape fine has next =
        let u = turned j now s a (omega (arith, e)) room shape fine has in
        let out : nat_lt (suc j) c ≡ false = not_less (suc j) c (omega (arith, e)) in
        let all : suc j ≡ c = omega (arith, e) in
        let z = here f top now ws (copied s a j) in
        let v = here f pc2 u.now2 ws (copied s a (suc j)) in
        let reaches : Reaches q z 6 59 (running v) =
        subst (λ b. Reaches q z 6 59 (running (here f (if b then top else pc2) u.now2 ws (copied s a (suc j))))) out u.reaches in
        tick_then q Good s.clock z s extra (ticks r) go refl refl (λ k lt.
        sim_after q 14 Good (60 * k + 60 + extra) (suc k) (60 * k + extra) k 6 59 z v (then_do (ticks r (record s { clock = k })) go) reaches
        (omega arith) (omega arith)
        (sim_move q 14 Good (60 * k + extra) k v (here f pc2 u.now2 ws (copied s a c)) (then_do (ticks r (record s { clock = k })) go)
        (ap (λ m. here f pc2 u.now2 ws (copied s a m)) all)
        (next k u.now2 (subst (λ n. CopyCounts p q f (first_one s a) m n u.now2 (copied s a n)) all u.counts))))
    copies (suc n) r j now s a extra Good go e room shape fine has next =
        let u = turned j now s a (omega (arith, e)) room shape fine has in
        let out : nat_lt (suc j) c ≡ true = is_less (suc j) c (omega (arith, e)) in
        let z = here f top now ws (copied s a j) in
        let v = here f top u.now2 ws (copied s a (suc j)) in
        let reaches : Reaches q z 6 59 (running v) =
        subst (λ b. Reaches q z 6 59 (running (here f (if b then top else pc2) u.now2 ws (copied s a (suc j))))) out u.reaches in
        tick_then q Good s.clock z s extra (ticks (suc (beyond n r))) go refl refl (λ k lt.
        let s1 : machine.State = record s { clock = k } in
        sim_after q 14 Good (60 * k + 60 + extra) (suc k) (60 * k + extra) k 6 59 z v (then_do (ticks (suc (beyond n r)) s1) go) reaches
        (omega arith) (omega arith)
        (copies n r (suc j) u.now2 s1 (later p q f ws t first s k a) extra Good go (omega (arith, e)) room shape (fine_later (world p q f ws) s k fine)
        (record { count = u.counts.count; base = u.counts.base; text = u.counts.text }) (λ l now2 has2. next l now2 (record { count = has2.count; base = has2.base; text = has2.text }))))
