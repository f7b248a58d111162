-- Objects of the call that become indeterminate.
use Rattle.std.proofs.Common.{◌≡◌, ◌≢◌, ℕ, zero, suc, ◌+◌, ◌<◌, ◌≤◌, List, [], ◌∷◌, length, Option, Some, None, refl, sym, ap, ◌∙◌, subst, arith, eqb}
use Rattle.std.specs.Prelude.{slice_get, ℤ}
use Rattle.std.proofs.lemmas.Bool.Decides.{nat_tests}
use Rattle.typing_spec.specs.Types.{ObjectType}
use Rattle.csem.specs.Store.{Tree, value_of, put_in, filled, indeterminate}
use Rattle.csem.specs.Statements.{new_object}
use Rattle.tac_code.specs.declared.code.Instruction.TheVariants as instruction
use Rattle.tac_code.specs.Code.{Program, Function, function_at}
use Rattle.tac_code.specs.Run as tac
use Rattle.tac_code.specs.Run.{State, word_for, forgotten, open_calls}
use Rattle.frames_code.specs.Code as flat_code
use Rattle.frames_code.specs.Run as flat
use Rattle.frames.specs.Layout.{Starts, layout_of}
use Rattle.frames.specs.Translated.{translated}
use Rattle.frames_correct.specs.Matched.{Spot, FrameHolds, Matched, Alike, Shaped, InPlace, spots}
use Rattle.frames_correct.proofs.Lists.{bool_cases, some_below, same_place, got_below}
use Rattle.frames_correct.proofs.Trees.{filled_shaped, filled_none}
use Rattle.frames_correct.proofs.Stores.{put_other, put_same, put_length}
use Rattle.frames_correct.proofs.Spots.{own_spot}
use Rattle.frames_correct.proofs.Frames.{functions_of, frames_stay}
use Rattle.frames_correct.proofs.Targets.{goes_to}

pub no_value : (ls : List ℕ) (z : ℤ) → value_of (Some (filled None ls)) ≡ Some z → ⊥
no_value [] z e = cc
no_value (n ∷ ls) z e = cc

-- an object of that type at that place, with no values
pub fresh_lies : (x : Spot) (t : ObjectType) (o : Option Tree) (m : Option flat.Memory) → x.type ≡ t → InPlace x o m → InPlace x (Some (indeterminate t)) m
fresh_lies x t o m e h = record {
  tree = indeterminate t;
  tree_is = refl;
  shaped = subst (λ (z : ObjectType). Shaped z.lengths (indeterminate t)) (sym e) (filled_shaped None t.lengths);
  list = h.list;
  list_is = h.list_is;
  first = h.first;
  past = h.past;
  elements = λ path v ev. absurd (filled_none t.lengths path v ev);
}

module _ (q : Program) (f : flat_code.Program) (t : State) (s : flat.State) (m : Matched q f t s) where
  abbrev the : Function
  the = function_at q t.call.function

  abbrev xs : List Spot
  xs = spots q (open_calls t)

  -- one object
  forgets_one : (n : ℕ) → n < length the.objects → Matched q f (record t { store = put_in t.store (t.call.base + n) [] (new_object (slice_get the.objects n)) }) s
  forgets_one n lt =
      let got = got_below the.objects n lt in
      let h = m.frames.0 in
      let own = own_spot q t.call.function (functions_of t.waiting) n got.element got.is in
      let new = new_object (slice_get the.objects n) in
      let at_is : t.call.base + n ≡ length (spots q (functions_of t.waiting)) + n = ap (λ b. b + n) h.base in
      let here : slice_get xs (t.call.base + n) ≡ Some own.spot = ap (slice_get xs) at_is ∙ own.is in
      let store2 = put_in t.store (t.call.base + n) [] new in
      let old = got_below t.store (t.call.base + n) (omega (arith, m.count, some_below xs (t.call.base + n) own.spot here)) in
      let now : slice_get store2 (t.call.base + n) ≡ Some new = put_same t.store (t.call.base + n) [] new old.element old.is in
      let is_new : new ≡ indeterminate got.element = ap new_object got.is in
      let frame : FrameHolds q xs (length (spots q (functions_of t.waiting))) t.call s.frame store2 = record {
        function = h.function;
        at = h.at;
        base = h.base;
        kept = h.kept;
        few = h.few;
        arrays = h.arrays;
        objects = λ k u z eu ez.
            bool_cases (eqb n k)
            (λ b.
            let same : n ≡ k = grind (arith, nat_tests) in
            let there : value_of (slice_get store2 (t.call.base + n)) ≡ Some z = ap (λ i. value_of (slice_get store2 (t.call.base + i))) same ∙ ez in
            let value : value_of (Some (indeterminate got.element)) ≡ Some z = ap (λ o. value_of (Some o)) (sym is_new) ∙ (ap value_of (sym now) ∙ there) in
            absurd (no_value got.element.lengths z value))
            (λ b.
            let ne : n ≢ k = grind (arith, nat_tests) in
            let stays : slice_get store2 (t.call.base + k) ≡ slice_get t.store (t.call.base + k) = put_other t.store (t.call.base + n) (t.call.base + k) [] new (λ e. ne (omega (arith, e))) in
            h.objects k u z eu (ap value_of (sym stays) ∙ ez));
      } in
      record {
        frames = (frame, frames_stay q t.waiting s.waiting t.store store2 (λ i x ex out. put_other t.store (t.call.base + n) i [] new (λ e. omega (arith, e, at_is, some_below (spots q (functions_of t.waiting)) i x ex))) m.frames.1);
        temporaries = m.temporaries;
        count = put_length t.store (t.call.base + n) [] new ∙ m.count;
        in_place = λ i x ex bx.
            bool_cases (eqb (t.call.base + n) i)
            (λ b.
            let same : t.call.base + n ≡ i = grind (arith, nat_tests) in
            let spot : own.spot ≡ x = same_place xs (t.call.base + n) i own.spot x same here ex in
            let kind : x.type ≡ got.element = ap (λ (z : Spot). z.type) (sym spot) ∙ own.type_is in
            let there : slice_get store2 i ≡ Some (indeterminate got.element) = ap (slice_get store2) (sym same) ∙ (now ∙ ap Some is_new) in
            subst (λ o. InPlace x o (flat.memory f s x.list)) (sym there) (fresh_lies x got.element (slice_get t.store i) (flat.memory f s x.list) kind (m.in_place i x ex bx)))
            (λ b.
            let ne : t.call.base + n ≢ i = grind (arith, nat_tests) in
            subst (λ o. InPlace x o (flat.memory f s x.list)) (sym (put_other t.store (t.call.base + n) i [] new ne)) (m.in_place i x ex bx));
        input = m.input;
        bytes = m.bytes;
        trace = m.trace;
      }

-- k objects
forgets : (q : Program) (f : flat_code.Program) (t : State) (s : flat.State) (n k : ℕ) → Matched q f t s → n + k ≤ length (function_at q t.call.function).objects
    → Matched q f (record t { store = forgotten (function_at q t.call.function).objects t.call.base n k t.store }) s
forgets q f t s n zero m le = m
forgets q f t s n (suc k) m le =
    forgets q f (record t { store = put_in t.store (t.call.base + n) [] (new_object (slice_get (function_at q t.call.function).objects n)) }) s (suc n) k (forgets_one q f t s m n (omega (arith, le))) (omega (arith, le))

-- no temporary has a value
unsets : (q : Program) (f : flat_code.Program) (t : State) (s : flat.State) → Matched q f t s → Matched q f (record t { temporaries = tac.unset }) s
unsets q f t s m = record {
  frames = m.frames;
  temporaries = λ k v ek. absurd (let z : ⊥ = cc in z);
  count = m.count;
  in_place = m.in_place;
  input = m.input;
  bytes = m.bytes;
  trace = m.trace;
}

pub does_forget : (q : Program) (f : flat_code.Program) (t : State) (s : flat.State) (m : Matched q f t s) (u : Starts) (n k : ℕ) → n + k ≤ length (function_at q t.call.function).objects
    → Alike q f (tac.act q t (instruction.Forget n k)) (flat.act f s (translated u (layout_of (function_at q t.call.function)) (instruction.Forget n k)))
does_forget q f t s m u n k le =
    let on : s.frame.at + 1 ≡ length (function_at q t.call.function).parameters + (t.call.at + 1) = omega (arith, m.frames.0.at) in
    forgets q f (record (tac.next t) { temporaries = tac.unset }) (flat.past s) n k (unsets q f (tac.next t) (flat.past s) (goes_to q f t s m (t.call.at + 1) (s.frame.at + 1) s.arguments on)) le
