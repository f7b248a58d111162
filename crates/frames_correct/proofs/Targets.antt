-- A target that is set.
use Rattle.std.proofs.Common.{◌≡◌, ◌≢◌, ⊎_elim, ℕ, zero, suc, ◌+◌, ◌<◌, List, [], ◌∷◌, length, Option, Some, None, Bool, true, false, refl, sym, ap, ◌∙◌, subst, arith, eqb}
use Rattle.std.specs.Prelude.{slice_get, ℤ}
use Rattle.std.proofs.lemmas.Bool.{cases_lt}
use Rattle.std.proofs.lemmas.Bool.Decides.{nat_tests}
use Rattle.ctypes.specs.declared.types.IntType.{IntType}
use Rattle.csem.specs.Store.{Element, Store, whole, value_at, value_of, put_in}
use Rattle.tac_code.specs.declared.code.Target.{Target}
use Rattle.tac_code.specs.declared.code.Target.TheVariants as target
use Rattle.tac_code.specs.Code.{Program, Function, function_at, scalar_type}
use Rattle.tac_code.specs.Run as tac
use Rattle.tac_code.specs.Run.{State, Call, Value, word, reference, Values, Progress, running, stuck, with_at, word_for, number_of, is_word_of, word_of, own, own_type, open_calls, next, with_number, gives, where_true, ◌>>=◌}
use Rattle.tac_code.specs.Sound.{TargetFits}
use Rattle.frames_code.specs.Code as flat_code
use Rattle.frames_code.specs.Run as flat
use Rattle.csem_events.specs.Events.{Event}
use Rattle.frames.specs.Layout.{layout_of}
use Rattle.frames.specs.Translated.{target_of}
use Rattle.frames.specs.Laws.{cell}
use Rattle.frames.proofs.Apart.{words_are_apart, words_come_first}
use Rattle.frames_correct.specs.Matched.{Spot, FrameHolds, Matched, Alike, Good, shown, spots}
use Rattle.frames_correct.proofs.Lists.{same_some, bool_cases, some_below, same_place, got_below}
use Rattle.frames_correct.proofs.Bytes.{set_here, set_elsewhere}
use Rattle.frames_correct.proofs.Stores.{put_other, put_same, put_length}
use Rattle.frames_correct.proofs.Frames.{functions_of, WordsStay, frames_stay, scalar_spot, all_lie_by}
use Rattle.frames_correct.proofs.Values.{show_set, show_off, word_known}

-- ---- continuations of a value that may be absent, or of a test

pub bound : {A : Type 0} (q : Program) (f : flat_code.Program) (o : Option A) (go : A → Progress) (r : flat.Progress) → ((x : A) → o ≡ Some x → Alike q f (go x) r) → Alike q f (o >>= go) r
bound q f None go r each = tt
bound q f (Some x) go r each = each x refl

pub tested : (q : Program) (f : flat_code.Program) (b : Bool) (p : Progress) (r : flat.Progress) → (b ≡ true → Alike q f p r) → Alike q f (where_true b p) r
tested q f true p r each = each refl
tested q f false p r each = tt

pub found : {A : Type 0} (q : Program) (f : flat_code.Program) (p : Progress) (o : Option A) (x : A) (go : A → flat.Progress) → o ≡ Some x → Alike q f p (go x) → Alike q f p (flat.◌>>=◌ o go)
found q f p o x go e h = subst (λ z. Alike q f p (flat.◌>>=◌ z go)) (sym e) h

-- ---- states where the next instruction is another

-- these arguments
abbrev pub at_next : flat.State → flat.Values → flat.State
at_next s a = record s { frame = record s.frame { at = s.frame.at + 1 }; arguments = a }

module _ (q : Program) (f : flat_code.Program) (t : State) (s : flat.State) (m : Matched q f t s) where
  abbrev pub the : Function
  the = function_at q t.call.function

  abbrev pub xs : List Spot
  xs = spots q (open_calls t)

  abbrev pub first : ℕ
  first = length (spots q (functions_of t.waiting))

  -- the frame on top elsewhere in its code
  pub moved : (a b : ℕ) → b ≡ length the.parameters + a → FrameHolds q xs first (record t.call { at = a }) (record s.frame { at = b }) t.store
  moved a b e = let h = m.frames.0 in
      record { function = h.function; at = e; base = h.base; kept = h.kept; few = h.few; arrays = h.arrays; objects = h.objects }

  pub lists_stay : (fr : flat.Frame) (temporaries arguments : flat.Values) (input : List ℕ) (trace : List Event) → fr.function ≡ s.frame.function → fr.area ≡ s.frame.area → (l : ℕ)
      → flat.memory f (record s { frame = fr; temporaries = temporaries; arguments = arguments; input = input; trace = trace }) l ≡ flat.memory f s l
  lists_stay fr temporaries arguments input trace ef ea zero = refl
  lists_stay fr temporaries arguments input trace ef ea (suc l) =
      ap (λ g. flat.memory_among f (record fr { function = g } ∷ s.waiting) (suc l)) ef ∙ ap (λ b. flat.memory_among f (record fr { function = s.frame.function; area = b } ∷ s.waiting) (suc l)) ea

  pub goes_to : (a b : ℕ) (arguments : flat.Values) → b ≡ length the.parameters + a → Matched q f (tac.goes_to t a) (record s { frame = record s.frame { at = b }; arguments = arguments })
  goes_to a b arguments e = record {
    frames = (moved a b e, m.frames.1);
    temporaries = m.temporaries;
    count = m.count;
    in_place = all_lie_by xs t.store t.store (flat.memory f s) (flat.memory f (record s { frame = record s.frame { at = b }; arguments = arguments })) (λ n x ex bx. refl) (lists_stay (record s.frame { at = b }) s.temporaries arguments s.input s.trace refl refl) m.in_place;
    input = m.input;
    bytes = m.bytes;
    trace = m.trace;
  }

  on : s.frame.at + 1 ≡ length the.parameters + (t.call.at + 1)
  on = omega (arith, m.frames.0.at)

  -- temporary k
  to_temporary : (k : ℕ) (v : Value) (a : flat.Values) → Good xs v → Matched q f (record (next t) { temporaries = with_at t.temporaries k v }) (record (at_next s a) { temporaries = flat.with_at s.temporaries k (shown xs v) })
  to_temporary k v a good = record {
    frames = (moved (t.call.at + 1) (s.frame.at + 1) on, m.frames.1);
    temporaries = show_set xs t.temporaries s.temporaries (λ j. j) k v good (λ i j ne. ne) m.temporaries;
    count = m.count;
    in_place = all_lie_by xs t.store t.store (flat.memory f s) (flat.memory f (record (at_next s a) { temporaries = flat.with_at s.temporaries k (shown xs v) })) (λ n x ex bx. refl) (lists_stay (record s.frame { at = s.frame.at + 1 }) (flat.with_at s.temporaries k (shown xs v)) a s.input s.trace refl refl) m.in_place;
    input = m.input;
    bytes = m.bytes;
    trace = m.trace;
  }

  -- a slot
  to_slot : (k : ℕ) (v : Value) (a : flat.Values) → Good xs v
      → Matched q f (record t { call = record t.call { at = t.call.at + 1; kept = with_at t.call.kept k v } }) (record (at_next s a) { frame = record s.frame { at = s.frame.at + 1; cells = flat.with_at s.frame.cells ((layout_of the).slots + k) (shown xs v) } })
  to_slot k v a good =
      let h = m.frames.0 in
      let cells = flat.with_at s.frame.cells ((layout_of the).slots + k) (shown xs v) in
      let frame : FrameHolds q xs first (record t.call { at = t.call.at + 1; kept = with_at t.call.kept k v }) (record s.frame { at = s.frame.at + 1; cells = cells }) t.store = record {
        function = h.function;
        at = on;
        base = h.base;
        kept = show_set xs t.call.kept s.frame.cells (λ j. (layout_of the).slots + j) k v good (λ i j ne e. ne (omega (arith, e))) h.kept;
        few = h.few;
        arrays = λ n r er. show_off xs s.frame.cells ((layout_of the).slots + k) ((layout_of the).references + n) (reference r) (shown xs v) (λ e. omega (arith, e, h.few, some_below t.call.arrays n r er)) (h.arrays n r er);
        objects = λ n ty z et ez. set_elsewhere s.frame.cells ((layout_of the).slots + k) (shown xs v) (cell the n) (λ e. omega (arith, e, words_come_first the n ty et)) ∙ h.objects n ty z et ez;
      } in
      record {
        frames = (frame, m.frames.1);
        temporaries = m.temporaries;
        count = m.count;
        in_place = all_lie_by xs t.store t.store (flat.memory f s) (flat.memory f (record (at_next s a) { frame = record s.frame { at = s.frame.at + 1; cells = cells } })) (λ n x ex bx. refl) (lists_stay (record s.frame { at = s.frame.at + 1; cells = cells }) s.temporaries a s.input s.trace refl refl) m.in_place;
        input = m.input;
        bytes = m.bytes;
        trace = m.trace;
      }

  -- ---- an object of the call that is no array

  module _ (n : ℕ) (ty : IntType) (et : scalar_type (slice_get the.objects n) ≡ Some ty) (new : Option ℤ) where
    abbrev store2 : Store
    store2 = put_in t.store (t.call.base + n) [] (Element new)

    at_is : t.call.base + n ≡ first + n
    at_is = ap (λ b. b + n) m.frames.0.base

    pub bytes_stay : (i : ℕ) (x : Spot) → slice_get xs i ≡ Some x → x.in_bytes ≡ true → slice_get store2 i ≡ slice_get t.store i
    bytes_stay i x ex bx =
        put_other t.store (t.call.base + n) i [] (Element new) (λ e.
        let own = scalar_spot q t.call.function (functions_of t.waiting) n ty et in
        let same : own.spot ≡ x = same_place xs (first + n) i own.spot x (sym at_is ∙ e) own.is ex in
        let both : true ≡ false = sym bx ∙ (ap (λ (z : Spot). z.in_bytes) (sym same) ∙ own.in_bytes) in
        let z : ⊥ = cc in z)

    pub words_stay : WordsStay (spots q (functions_of t.waiting)) t.store store2
    words_stay i x ex out =
        let low = some_below (spots q (functions_of t.waiting)) i x ex in
        put_other t.store (t.call.base + n) i [] (Element new) (λ e. omega (arith, e, at_is, low))

    pub other_words : (k : ℕ) → n ≢ k → value_at store2 (whole (t.call.base + k)) ≡ value_at t.store (whole (t.call.base + k))
    other_words k ne = ap value_of (put_other t.store (t.call.base + n) (t.call.base + k) [] (Element new) (λ e. ne (omega (arith, e))))

    pub this_word : value_at store2 (whole (t.call.base + n)) ≡ new
    this_word =
        let own = scalar_spot q t.call.function (functions_of t.waiting) n ty et in
        let low = some_below xs (first + n) own.spot own.is in
        let old = got_below t.store (t.call.base + n) (omega (arith, at_is, low, m.count)) in
        ap value_of (put_same t.store (t.call.base + n) [] (Element new) old.element old.is)

  cells_apart : (n k : ℕ) (ty u : IntType) → scalar_type (slice_get the.objects n) ≡ Some ty → scalar_type (slice_get the.objects k) ≡ Some u → n ≢ k → cell the k ≢ cell the n
  cells_apart n k ty u et eu ne e =
      ⊎_elim (λ lt. omega (arith, e, words_are_apart the n k ty u lt et eu))
      (λ ge. let lt : k < n = omega (arith, ge, (λ (x : n ≡ k). ne x)) in omega (arith, e, words_are_apart the k n u ty lt eu et))
      (cases_lt n k)

  to_object : (n w : ℕ) (ty : IntType) (a : flat.Values) → scalar_type (slice_get the.objects n) ≡ Some ty → is_word_of ty w ≡ true
      → Matched q f (with_number (own t n) (number_of ty w) (next t)) (record (at_next s a) { frame = record s.frame { at = s.frame.at + 1; cells = flat.with_at s.frame.cells (cell the n) (flat.word w) } })
  to_object n w ty a et ew =
      let h = m.frames.0 in
      let new : Option ℤ = Some (number_of ty w) in
      let cells = flat.with_at s.frame.cells (cell the n) (flat.word w) in
      let store = put_in t.store (t.call.base + n) [] (Element new) in
      let is : word_for (number_of ty w) ≡ w = grind (arith, nat_tests) in
      let first_of = words_come_first the n ty et in
      let frame : FrameHolds q xs first (record t.call { at = t.call.at + 1 }) (record s.frame { at = s.frame.at + 1; cells = cells }) store = record {
        function = h.function;
        at = on;
        base = h.base;
        kept = λ k v ek. show_off xs s.frame.cells (cell the n) ((layout_of the).slots + k) v (flat.word w) (λ e. omega (arith, e, first_of)) (h.kept k v ek);
        few = h.few;
        arrays = λ k r er. show_off xs s.frame.cells (cell the n) ((layout_of the).references + k) (reference r) (flat.word w) (λ e. omega (arith, e, first_of)) (h.arrays k r er);
        objects = λ k u z eu ez.
            bool_cases (eqb n k)
            (λ b.
            let same : n ≡ k = grind (arith, nat_tests) in
            let there : value_at store (whole (t.call.base + n)) ≡ Some z = ap (λ i. value_at store (whole (t.call.base + i))) same ∙ ez in
            let number : number_of ty w ≡ z = same_some (number_of ty w) z (sym (this_word n ty et new) ∙ there) in
            ap (λ i. cells (cell the i)) (sym same) ∙ (set_here s.frame.cells (cell the n) (flat.word w) ∙ ap (λ i. Some (flat.word i)) (sym is ∙ ap word_for number)))
            (λ b.
            let ne : n ≢ k = grind (arith, nat_tests) in
            set_elsewhere s.frame.cells (cell the n) (flat.word w) (cell the k) (cells_apart n k ty u et eu ne) ∙ h.objects k u z eu (sym (other_words n ty et new k ne) ∙ ez));
      } in
      record {
        frames = (frame, frames_stay q t.waiting s.waiting t.store store (words_stay n ty et new) m.frames.1);
        temporaries = m.temporaries;
        count = put_length t.store (t.call.base + n) [] (Element new) ∙ m.count;
        in_place = all_lie_by xs t.store store (flat.memory f s) (flat.memory f (record (at_next s a) { frame = record s.frame { at = s.frame.at + 1; cells = cells } })) (bytes_stay n ty et new) (lists_stay (record s.frame { at = s.frame.at + 1; cells = cells }) s.temporaries a s.input s.trace refl refl) m.in_place;
        input = m.input;
        bytes = m.bytes;
        trace = m.trace;
      }

  object_given : (n : ℕ) (v : Value) (a : flat.Values) → TargetFits the (target.Object n) → Alike q f (gives q (target.Object n) t v) (flat.running (flat.set (target_of (layout_of the) (target.Object n)) (shown xs v) (at_next s a)))
  object_given n v a fit =
      let r = flat.running (flat.set (target_of (layout_of the) (target.Object n)) (shown xs v) (at_next s a)) in
      let go : IntType → ℕ → Progress = λ ty w. where_true (is_word_of ty w) (running (with_number (own t n) (number_of ty w) (next t))) in
      bound q f (scalar_type (own_type q t n)) (λ ty. word_of v >>= go ty) r (λ ty et.
      bound q f (word_of v) (go ty) r (λ w ev.
      tested q f (is_word_of ty w) (running (with_number (own t n) (number_of ty w) (next t))) r (λ ew.
      let is : v ≡ word w = same_some v (word w) (word_known (Some v) w ev) in
      subst (λ z. Matched q f (with_number (own t n) (number_of ty w) (next t)) (flat.set (target_of (layout_of the) (target.Object n)) (shown xs z) (at_next s a))) (sym is) (to_object n w ty a et ew))))

  -- ---- any target

  pub given : (d : Target) (v : Value) (a : flat.Values) → TargetFits the d → Good xs v → Alike q f (gives q d t v) (flat.running (flat.set (target_of (layout_of the) d) (shown xs v) (at_next s a)))
  given (target.Temporary k) v a fit good = to_temporary k v a good
  given (target.Kept k) v a fit good = to_slot k v a good
  given (target.Object n) v a fit good = object_given n v a fit
