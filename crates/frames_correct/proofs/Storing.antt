-- Elements that are loaded and stored.
use Rattle.std.proofs.Common.{◌≡◌, ◌≢◌, ◌⊎◌, inl, inr, ⊎_elim, ℕ, zero, suc, ◌+◌, ◌%◌, ◌^◌, ◌<◌, ◌≤◌, List, [], ◌∷◌, length, Option, Some, Bool, true, false, refl, sym, ap, ◌∙◌, subst, arith, eqb}
use Rattle.std.specs.Prelude.{slice_get, ◌&&◌, ℤ, if◌then◌else◌}
use Rattle.std.proofs.lemmas.Bool.{cases_lt}
use Rattle.std.proofs.lemmas.Bool.Decides.{nat_tests}
use Rattle.ctypes.specs.declared.types.IntType.{IntType}
use Rattle.ctypes.specs.Types.{bytes_of}
use Rattle.typing_spec.specs.Types.{size_of_object}
use Rattle.csem.specs.Store.{Element, Store, Reference, at_path, tree_at, value_at, put_at, put_in}
use Rattle.tac_code.specs.declared.code.Operand.{Operand}
use Rattle.tac_code.specs.declared.code.Target.{Target}
use Rattle.tac_code.specs.declared.code.Place.{Place}
use Rattle.tac_code.specs.declared.code.Instruction.TheVariants as instruction
use Rattle.tac_code.specs.Code.{Program}
use Rattle.tac_code.specs.Run as tac
use Rattle.tac_code.specs.Run.{State, Value, word, Progress, running, word_for, held_by, value, word_at, reference_to, element_type, is_type, is_element, may_write, gives_word, with_number, where_true, open_calls, loaded, stored, next, ◌>>=◌}
use Rattle.tac_code.specs.Sound.{OperandFits, TargetFits, PlaceFits, AreBytes}
use Rattle.frames_code.specs.declared.code.Width.{Width}
use Rattle.frames_code.specs.Code as flat_code
use Rattle.frames_code.specs.Run as flat
use Rattle.frames_code.specs.Run.{Bytes, Memory, size_of, fits, element_in, with_element, memory, with_memory, with_frames, changed_among}
use Rattle.frames.specs.Layout.{layout_of, starts_of}
use Rattle.frames.specs.Translated.{operand_of, target_of, location_of, width_of, translated}
use Rattle.frames_correct.specs.Matched.{Spot, FramesHold, Matched, Alike, Leads, InPlace, AllInPlace, AllShow, ElementsInPlace, spots, offset_at, list_in, offset_in}
use Rattle.frames_correct.proofs.Lists.{same_some, bool_cases, both_true, same_place}
use Rattle.frames_correct.proofs.Trees.{put_shaped}
use Rattle.frames_correct.proofs.Stores.{put_other, put_same, put_length}
use Rattle.frames_correct.proofs.Spots.{orderly}
use Rattle.frames_correct.proofs.Memory.{memory_same, memory_other, changed_cons}
use Rattle.csem.specs.History.{trace_of}
use Rattle.frames_correct.proofs.Frames.{WordsStay, frames_stay, frames_put}
use Rattle.frames_correct.proofs.Values.{word_small, word_shows}
use Rattle.frames_correct.proofs.Targets.{bound, tested, found, given, goes_to, lists_stay}
use Rattle.frames_correct.proofs.Places.{xs, the, place_there, type_is}
use Rattle.frames_correct.proofs.Ground.{IsMadeOf}
use Rattle.frames_correct.proofs.Accesses.{type_known, IsElementOf, element_of, element_fits, value_there, element_there, put_lies, other_lies}

then_true : (p : Program) (f : flat_code.Program) (a : Progress) (b : Bool) (r : flat.Progress) → b ≡ true → Alike p f a r → Alike p f a (if b then r else flat.stuck)
then_true p f a true r e h = h
then_true p f a false r e h = absurd (let z : ⊥ = cc in z)

-- the list and the place that a reference names
abbrev pub named : List Spot → Reference → flat.Reference
named here r = record { list = list_in (slice_get here r.object); offset = offset_in (slice_get here r.object) r.path }

pub named_is : (here : List Spot) (r : Reference) (x : Spot) → slice_get here r.object ≡ Some x → named here r ≡ record { list = x.list; offset = offset_at x r.path }
named_is here r x e = ap (λ (o : Option Spot). record { list = list_in o; offset = offset_in o r.path }) e

module _ (q : Program) (f : flat_code.Program) (g : IsMadeOf q f) (t : State) (s : flat.State) (m : Matched q f t s) where
  aligned : (r : Reference) (l : Leads (xs q f g t s m) r) → l.spot.offset % 4 ≡ 0
  aligned r l = (orderly q (open_calls t)).aligned r.object l.spot l.spot_is

  -- ---- loads

  loads_at : (e : IntType) (d : Target) (r : Reference) (l : Leads (xs q f g t s m) r) → TargetFits (the q f g t s m) d
      → Alike q f (loaded q t e d r) (flat.loaded f s (width_of e) (target_of (layout_of (the q f g t s m)) d) (record { list = l.spot.list; offset = offset_at l.spot r.path }))
  loads_at e d r l fd =
      let x = l.spot in
      let o = offset_at x r.path in
      let to = target_of (layout_of (the q f g t s m)) d in
      let in_place = m.in_place r.object x l.spot_is l.in_bytes in
      let R = flat.loaded f s (width_of e) to (record { list = x.list; offset = o }) in
      let go : ℤ → Progress = λ v. gives_word q d t (word_for v) in
      let last : Memory → flat.Progress = λ list. flat.◌>>=◌ (element_in (width_of e) list.bytes o) (flat.gives_word to s) in
      tested q f (is_type e (element_type q t r)) (value_at t.store r >>= go) R (λ ek.
      bound q f (value_at t.store r) go R (λ v ev.
      let kind : e ≡ x.type.element = type_known e x.type.element (element_type q t r) (type_is q t r x l.spot_is) ek in
      let there : at_path (Some in_place.tree) r.path ≡ Some (Element (Some v)) = ap (λ z. at_path z r.path) (sym in_place.tree_is) ∙ value_there (tree_at t.store r) v ev in
      let one = element_of x in_place.tree r.path (Some v) (aligned r l) in_place.shaped there in
      let fit : fits (width_of e) o in_place.list ≡ true = ap (λ k. fits (width_of k) o in_place.list) kind ∙ element_fits x r.path in_place.list one in_place.first in_place.past in
      let read : element_in (width_of e) in_place.list.bytes o ≡ Some (word_for v) = ap (λ k. element_in (width_of k) in_place.list.bytes o) kind ∙ in_place.elements r.path v there in
      found q f (go v) (memory f s x.list) in_place.list (λ list. if fits (width_of e) o list then last list else flat.stuck) in_place.list_is
      (then_true q f (go v) (fits (width_of e) o in_place.list) (last in_place.list) fit
      (found q f (go v) (element_in (width_of e) in_place.list.bytes o) (word_for v) (flat.gives_word to s) read
      (given q f t s m d (word (word_for v)) flat.unset fd (word_small v))))))

  pub does_load : (e : IntType) (d : Target) (p : Place) → TargetFits (the q f g t s m) d → PlaceFits q (the q f g t s m) p
      → Alike q f (tac.act q t (instruction.Load e d p)) (flat.act f s (translated (starts_of q) (layout_of (the q f g t s m)) (instruction.Load e d p)))
  does_load e d p fd fp =
      let lay = layout_of (the q f g t s m) in
      let here = xs q f g t s m in
      let last : flat.Reference → flat.Progress = flat.loaded f s (width_of e) (target_of lay d) in
      bound q f (reference_to q t p) (loaded q t e d) (flat.act f s (translated (starts_of q) lay (instruction.Load e d p))) (λ r er.
      let h = place_there q f g t s m p r fp er in
      found q f (loaded q t e d r) (flat.place f s (location_of (starts_of q) lay p)) (named here r) last h.is
      (subst (λ z. Alike q f (loaded q t e d r) (last z)) (sym (named_is here r h.leads.spot h.leads.spot_is)) (loads_at e d r h.leads fd)))

  -- ---- stores

  -- the state with other bytes in a list
  with_frames_matched : (t2 : State) (s2 : flat.State) (gs : List flat.Frame) (head : flat.Frame) (tail : List flat.Frame) → gs ≡ head ∷ tail → FramesHold q (t2.call ∷ t2.waiting) gs t2.store → AllShow (spots q (open_calls t2)) t2.temporaries s2.temporaries → length t2.store ≡ length (spots q (open_calls t2))
      → AllInPlace (spots q (open_calls t2)) t2.store (memory f (with_frames s2 gs)) → s2.input ≡ t2.input → AreBytes t2.input → s2.trace ≡ trace_of t2.history → Matched q f t2 (with_frames s2 gs)
  with_frames_matched t2 s2 [] head tail e frames temporaries count in_place input bytes trace = absurd (let z : ⊥ = cc in z)
  with_frames_matched t2 s2 (h ∷ gs) head tail e frames temporaries count in_place input bytes trace = record { frames = frames; temporaries = temporaries; count = count; in_place = in_place; input = input; bytes = bytes; trace = trace }

  with_memory_matched : (t2 : State) (s2 : flat.State) (l : ℕ) (b : Bytes) → FramesHold q (t2.call ∷ t2.waiting) (s2.frame ∷ s2.waiting) t2.store → AllShow (spots q (open_calls t2)) t2.temporaries s2.temporaries → length t2.store ≡ length (spots q (open_calls t2))
      → AllInPlace (spots q (open_calls t2)) t2.store (memory f (with_memory f s2 l b)) → s2.input ≡ t2.input → AreBytes t2.input → s2.trace ≡ trace_of t2.history → Matched q f t2 (with_memory f s2 l b)
  with_memory_matched t2 s2 zero b frames temporaries count in_place input bytes trace = record { frames = frames; temporaries = temporaries; count = count; in_place = in_place; input = input; bytes = bytes; trace = trace }
  with_memory_matched t2 s2 (suc l) b frames temporaries count in_place input bytes trace =
      let c = changed_cons f s2.frame s2.waiting (suc l) b in
      with_frames_matched t2 s2 (changed_among f (s2.frame ∷ s2.waiting) (suc l) b) c.head c.tail c.is (frames_put q f (t2.call ∷ t2.waiting) (s2.frame ∷ s2.waiting) t2.store (suc l) b frames) temporaries count in_place input bytes trace

  module _ (r : Reference) (l : Leads (xs q f g t s m) r) (old : Option ℤ) (eo : tree_at t.store r ≡ Some (Element old)) (v : ℤ) (w : ℕ) (small : w < 2 ^ 32) (held : held_by l.spot.type.element w ≡ Some v) where
    abbrev x : Spot
    x = l.spot

    abbrev o : ℕ
    o = offset_at l.spot r.path

    abbrev wd : Width
    wd = width_of l.spot.type.element

    abbrev in_place : InPlace l.spot (slice_get t.store r.object) (memory f s l.spot.list)
    in_place = m.in_place r.object l.spot l.spot_is l.in_bytes

    abbrev bytes2 : Bytes
    bytes2 = with_element wd in_place.list.bytes o w

    abbrev store2 : Store
    store2 = put_in t.store r.object r.path (Element (Some v))

    there : at_path (Some in_place.tree) r.path ≡ Some (Element old)
    there = ap (λ z. at_path z r.path) (sym in_place.tree_is) ∙ eo

    one : IsElementOf l.spot r.path
    one = element_of l.spot in_place.tree r.path old (aligned r l) in_place.shaped there

    n2 : Matched q f (next t) (flat.next s)
    n2 = goes_to q f t s m (t.call.at + 1) (s.frame.at + 1) flat.unset (omega (arith, m.frames.0.at))

    abbrev s2 : flat.State
    s2 = with_memory f (flat.next s) l.spot.list bytes2

    list_before : memory f (flat.next s) l.spot.list ≡ Some in_place.list
    list_before = lists_stay q f t s m (record s.frame { at = s.frame.at + 1 }) s.temporaries flat.unset s.input s.trace refl refl l.spot.list ∙ in_place.list_is

    -- the object itself
    this_lies : InPlace l.spot (slice_get store2 r.object) (memory f s2 l.spot.list)
    this_lies = record {
      tree = put_at r.path (Element (Some v)) in_place.tree;
      tree_is = put_same t.store r.object r.path (Element (Some v)) in_place.tree in_place.tree_is;
      shaped = put_shaped l.spot.type.lengths in_place.tree r.path old (Some v) in_place.shaped there;
      list = record in_place.list { bytes = bytes2 };
      list_is = memory_same f (flat.next s) l.spot.list in_place.list bytes2 list_before;
      first = in_place.first;
      past = in_place.past;
      elements = put_lies l.spot in_place.tree in_place.list.bytes r.path old v w (aligned r l) in_place.shaped in_place.elements there small held;
    }

    before_or_behind : (n : ℕ) (y : Spot) → slice_get (xs q f g t s m) n ≡ Some y → y.in_bytes ≡ true → y.list ≡ l.spot.list → r.object ≢ n → (o + bytes_of l.spot.type.element ≤ y.offset) ⊎ (y.offset + size_of_object y.type ≤ o)
    before_or_behind n y ey by same ne =
        let order = orderly q (open_calls t) in
        let room = one.room in
        ⊎_elim
        (λ lt. let end = order.apart r.object n l.spot y lt l.spot_is ey l.in_bytes by (sym same) in inl (omega (arith, end, room)))
        (λ ge. let lt : n < r.object = omega (arith, ge, ne) in let end = order.apart n r.object y l.spot lt ey l.spot_is by l.in_bytes same in inr (omega (arith, end)))
        (cases_lt r.object n)

    other_in_list : (n : ℕ) (y : Spot) → slice_get (xs q f g t s m) n ≡ Some y → y.in_bytes ≡ true → r.object ≢ n → y.list ≡ l.spot.list → InPlace y (slice_get store2 n) (memory f s2 y.list)
    other_in_list n y ey by ne same =
        let old_lie = m.in_place n y ey by in
        let lists : old_lie.list ≡ in_place.list = same_some old_lie.list in_place.list (sym old_lie.list_is ∙ (ap (memory f s) same ∙ in_place.list_is)) in
        let elements : ElementsInPlace y old_lie.tree in_place.list.bytes = subst (λ (z : Memory). ElementsInPlace y old_lie.tree z.bytes) lists old_lie.elements in
        record {
          tree = old_lie.tree;
          tree_is = put_other t.store r.object n r.path (Element (Some v)) ne ∙ old_lie.tree_is;
          shaped = old_lie.shaped;
          list = record in_place.list { bytes = bytes2 };
          list_is = ap (memory f s2) same ∙ memory_same f (flat.next s) l.spot.list in_place.list bytes2 list_before;
          first = subst (λ (z : Memory). z.first ≤ y.offset) lists old_lie.first;
          past = subst (λ (z : Memory). y.offset + size_of_object y.type ≤ z.past) lists old_lie.past;
          elements = other_lies l.spot y old_lie.tree in_place.list.bytes o w ((orderly q (open_calls t)).aligned n y ey) old_lie.shaped elements (before_or_behind n y ey by same ne);
        }

    in_other_list : (n : ℕ) (y : Spot) → slice_get (xs q f g t s m) n ≡ Some y → y.in_bytes ≡ true → r.object ≢ n → y.list ≢ l.spot.list → InPlace y (slice_get store2 n) (memory f s2 y.list)
    in_other_list n y ey by ne apart =
        let old_lie = n2.in_place n y ey by in
        record {
          tree = old_lie.tree;
          tree_is = put_other t.store r.object n r.path (Element (Some v)) ne ∙ old_lie.tree_is;
          shaped = old_lie.shaped;
          list = old_lie.list;
          list_is = memory_other f (flat.next s) l.spot.list y.list bytes2 apart ∙ old_lie.list_is;
          first = old_lie.first;
          past = old_lie.past;
          elements = old_lie.elements;
        }

    all_lie : AllInPlace (xs q f g t s m) store2 (memory f s2)
    all_lie n y ey by =
        bool_cases (eqb r.object n)
        (λ e.
        let same : r.object ≡ n = grind (arith, nat_tests) in
        let spot : l.spot ≡ y = same_place (xs q f g t s m) r.object n l.spot y same l.spot_is ey in
        subst (λ z. InPlace z (slice_get store2 n) (memory f s2 z.list)) spot (subst (λ k. InPlace l.spot (slice_get store2 k) (memory f s2 l.spot.list)) same this_lies))
        (λ e.
        let ne : r.object ≢ n = grind (arith, nat_tests) in
        bool_cases (eqb y.list l.spot.list)
        (λ h. other_in_list n y ey by ne (grind (arith, nat_tests)))
        (λ h. in_other_list n y ey by ne (grind (arith, nat_tests))))

    words : WordsStay (xs q f g t s m) t.store store2
    words n y ey out =
        put_other t.store r.object n r.path (Element (Some v)) (λ e.
        let spot : l.spot ≡ y = same_place (xs q f g t s m) r.object n l.spot y e l.spot_is ey in
        let both : true ≡ false = sym l.in_bytes ∙ (ap (λ (z : Spot). z.in_bytes) spot ∙ out) in
        let z : ⊥ = cc in z)

    stored_matched : Matched q f (with_number r v (next t)) s2
    stored_matched =
        with_memory_matched (with_number r v (next t)) (flat.next s) l.spot.list bytes2
        (frames_stay q ((next t).call ∷ t.waiting) ((flat.next s).frame ∷ s.waiting) t.store store2 words n2.frames)
        n2.temporaries (put_length t.store r.object r.path (Element (Some v)) ∙ m.count) all_lie m.input m.bytes m.trace

  stores_at : (e : IntType) (w : ℕ) (r : Reference) (l : Leads (xs q f g t s m) r) → w < 2 ^ 32
      → Alike q f (stored q t e w r) (flat.stored f s (width_of e) w (record { list = l.spot.list; offset = offset_at l.spot r.path }))
  stores_at e w r l small =
      let k = offset_at l.spot r.path in
      let old_lie = m.in_place r.object l.spot l.spot_is l.in_bytes in
      let R = flat.stored f s (width_of e) w (record { list = l.spot.list; offset = k }) in
      let go : ℤ → Progress = λ v. running (with_number r v (next t)) in
      let last : Memory → flat.Progress = λ list. flat.running (with_memory f (flat.next s) l.spot.list (with_element (width_of e) list.bytes k w)) in
      tested q f (is_type e (element_type q t r) && (may_write q r && is_element (tree_at t.store r))) (held_by e w >>= go) R (λ et.
      bound q f (held_by e w) go R (λ v ev.
      let tests = both_true (is_type e (element_type q t r)) (may_write q r && is_element (tree_at t.store r)) et in
      let more = both_true (may_write q r) (is_element (tree_at t.store r)) tests.1 in
      let kind : e ≡ l.spot.type.element = type_known e l.spot.type.element (element_type q t r) (type_is q t r l.spot l.spot_is) tests.0 in
      let an = element_there (tree_at t.store r) more.1 in
      let there : at_path (Some old_lie.tree) r.path ≡ Some (Element an.old) = ap (λ z. at_path z r.path) (sym old_lie.tree_is) ∙ an.is in
      let one_more = element_of l.spot old_lie.tree r.path an.old (aligned r l) old_lie.shaped there in
      let fit : fits (width_of e) k old_lie.list ≡ true = ap (λ z. fits (width_of z) k old_lie.list) kind ∙ element_fits l.spot r.path old_lie.list one_more old_lie.first old_lie.past in
      let held : held_by l.spot.type.element w ≡ Some v = ap (λ z. held_by z w) (sym kind) ∙ ev in
      found q f (go v) (memory f s l.spot.list) old_lie.list (λ list. if fits (width_of e) k list then last list else flat.stuck) old_lie.list_is
      (then_true q f (go v) (fits (width_of e) k old_lie.list) (last old_lie.list) fit
      (subst (λ z. Matched q f (with_number r v (next t)) (with_memory f (flat.next s) l.spot.list (with_element (width_of z) old_lie.list.bytes k w))) (sym kind)
      (stored_matched r l an.old an.is v w small held)))))

  pub does_store : (e : IntType) (x : Operand) (p : Place) → OperandFits (the q f g t s m) x → PlaceFits q (the q f g t s m) p
      → Alike q f (tac.act q t (instruction.Store e x p)) (flat.act f s (translated (starts_of q) (layout_of (the q f g t s m)) (instruction.Store e x p)))
  does_store e x p fx fp =
      let lay = layout_of (the q f g t s m) in
      let here = xs q f g t s m in
      let at : flat.Progress = flat.act f s (translated (starts_of q) lay (instruction.Store e x p)) in
      let last : ℕ → flat.Reference → flat.Progress = λ a. flat.stored f s (width_of e) a in
      bound q f (word_at t x) (λ a. reference_to q t p >>= stored q t e a) at (λ a ea.
      let hx = word_shows q f t s m x a fx ea in
      found q f (reference_to q t p >>= stored q t e a) (flat.word_at s (operand_of lay x)) a (λ b. flat.◌>>=◌ (flat.place f s (location_of (starts_of q) lay p)) (last b)) hx.is
      (bound q f (reference_to q t p) (stored q t e a) (flat.◌>>=◌ (flat.place f s (location_of (starts_of q) lay p)) (last a)) (λ r er.
      let h = place_there q f g t s m p r fp er in
      found q f (stored q t e a r) (flat.place f s (location_of (starts_of q) lay p)) (named here r) (last a) h.is
      (subst (λ z. Alike q f (stored q t e a r) (last a z)) (sym (named_is here r h.leads.spot h.leads.spot_is)) (stores_at e a r h.leads hx.small)))))
