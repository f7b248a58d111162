-- A call that begins.
use Rattle.std.proofs.Common.{◌≡◌, ◌≢◌, ⊎_elim, ℕ, zero, suc, ◌+◌, ◌<◌, ◌≤◌, List, [], ◌∷◌, ◌++◌, length, drop, map, Option, Some, None, Bool, true, false, refl, sym, ap, ◌∙◌, subst, arith, eqb}
use Rattle.std.specs.Prelude.{slice_get, not}
use Rattle.std.proofs.lemmas.Bool.{cases_lt}
use Rattle.std.proofs.lemmas.Bool.Decides.{nat_tests}
use Rattle.ctypes.specs.declared.types.IntType.{IntType}
use Rattle.typing_spec.specs.Types.{ObjectType, size_of_object}
use Rattle.csem.specs.Store.{Tree, Reference, value_of, indeterminate}
use Rattle.csem.specs.History.{Entered}
use Rattle.tac_code.specs.declared.code.Parameter.{Parameter}
use Rattle.tac_code.specs.declared.code.Parameter.TheVariants as parameter
use Rattle.tac_code.specs.Code.{Program, Function, function_at, scalar_type}
use Rattle.tac_code.specs.Costs.{array_parameters}
use Rattle.tac_code.specs.Run as tac
use Rattle.tac_code.specs.Run.{State, Call, Value, Values, word, reference, word_in, reference_in, word_for, number_object, numbers_in, arrays_in, words_in, open_calls}
use Rattle.frames_code.specs.Code as flat_code
use Rattle.frames_code.specs.Code.{frame_bytes, area_home}
use Rattle.frames_code.specs.Run as flat
use Rattle.frames_code.specs.Run.{Frame, Memory, memory, memory_among, name_of, arrays}
use Rattle.frames.specs.Layout.{is_scalar, layout_of, bytes_in, starts_of}
use Rattle.frames.specs.Translated.{moves_from, translated}
use Rattle.frames.proofs.Apart.{words_are_apart, words_come_first}
use Rattle.frames_correct.specs.Matched.{Spot, Piece, FrameHolds, FramesHold, Matched, InPlace, AllInPlace, Shaped, function_for, stack_bytes, spots, spots_from, own_piece}
use Rattle.frames_correct.proofs.Lists.{same_some, some_below, get_left, get_right, get_map, get_drop, length_drop, length_both, length_map, IsBehind, get_in_both, got_below, from_map}
use Rattle.frames_correct.proofs.Trees.{filled_shaped, filled_none}
use Rattle.frames_correct.proofs.Memory.{among_here, among_later}
use Rattle.frames_correct.proofs.Spots.{all_bytes, placed, length_spots, in_list, orderly, own_roomy, frame_some}
use Rattle.frames_correct.proofs.Frames.{scalar_in, frames_stay, lies_by, leads_more, shown_more}
use Rattle.frames_correct.proofs.Targets.{moved}
use Rattle.frames_correct.proofs.Forgetting.{no_value}
use Rattle.frames_correct.proofs.Moving.{moving, home, Moved, joined, is_number, moves}
use Rattle.frames_correct.proofs.Ground.{IsMadeOf, name_is}

-- ---- the arguments

pub numbers_scalar : (ps : List Parameter) (os : List ObjectType) (values : Values) (k : ℕ) (numbers : List Tree) → numbers_in ps os values k ≡ Some numbers → (i : ℕ) → i < length numbers → (t : IntType) × (scalar_type (slice_get os i) ≡ Some t)
numbers_scalar [] os values k numbers e i lt = let none : 0 ≡ length numbers = ap length (same_some [] numbers e) in absurd (omega (arith, none, lt))
numbers_scalar (parameter.Array ∷ ps) os values k numbers e i lt = numbers_scalar ps os values (suc k) numbers e i lt
numbers_scalar (parameter.Number ∷ ps) [] values k numbers e i lt = absurd (let z : ⊥ = cc in z)
numbers_scalar (parameter.Number ∷ ps) (o ∷ os) values k numbers e zero lt =
    let j = joined (number_object (scalar_type (Some o)) (word_in (values k))) (numbers_in ps os values (suc k)) numbers e in
    let w = is_number (scalar_type (Some o)) (word_in (values k)) j.head j.head_is in
    (w.type, w.type_is)
numbers_scalar (parameter.Number ∷ ps) (o ∷ os) values k numbers e (suc i) lt =
    let j = joined (number_object (scalar_type (Some o)) (word_in (values k))) (numbers_in ps os values (suc k)) numbers e in
    let size : suc (length j.tail) ≡ length numbers = ap length j.is in
    numbers_scalar ps os values (suc k) j.tail j.tail_is i (omega (arith, size, lt))

pub numbers_few : (ps : List Parameter) (os : List ObjectType) (values : Values) (k : ℕ) (numbers : List Tree) → numbers_in ps os values k ≡ Some numbers → length numbers ≤ length os
numbers_few [] os values k numbers e = let none : 0 ≡ length numbers = ap length (same_some [] numbers e) in omega (arith, none)
numbers_few (parameter.Array ∷ ps) os values k numbers e = numbers_few ps os values (suc k) numbers e
numbers_few (parameter.Number ∷ ps) [] values k numbers e = absurd (let z : ⊥ = cc in z)
numbers_few (parameter.Number ∷ ps) (o ∷ os) values k numbers e =
    let j = joined (number_object (scalar_type (Some o)) (word_in (values k))) (numbers_in ps os values (suc k)) numbers e in
    let size : suc (length j.tail) ≡ length numbers = ap length j.is in
    omega (arith, size, numbers_few ps os values (suc k) j.tail j.tail_is)

pub arrays_count : (ps : List Parameter) (values : Values) (k : ℕ) (all : List Reference) → arrays_in ps values k ≡ Some all → length all ≡ array_parameters ps
arrays_count [] values k all e = sym (ap length (same_some [] all e))
arrays_count (parameter.Number ∷ ps) values k all e = arrays_count ps values (suc k) all e
arrays_count (parameter.Array ∷ ps) values k all e =
    let j = joined (reference_in (values k)) (arrays_in ps values (suc k)) all e in
    sym (ap length j.is) ∙ ap suc (arrays_count ps values (suc k) j.tail j.tail_is)

-- ---- the new objects

abbrev pub new_ones : List Tree → List ObjectType → List Tree
new_ones numbers os = numbers ++ map indeterminate (drop (length numbers) os)

pub new_count : (numbers : List Tree) (os : List ObjectType) → length numbers ≤ length os → length (new_ones numbers os) ≡ length os
new_count numbers os le =
    length_both numbers (map indeterminate (drop (length numbers) os)) ∙ (ap (λ k. length numbers + k) (length_map indeterminate (drop (length numbers) os)) ∙ length_drop (length numbers) os le)

pub new_number : (numbers : List Tree) (os : List ObjectType) (i : ℕ) → i < length numbers → slice_get (new_ones numbers os) i ≡ slice_get numbers i
new_number numbers os i lt =
    let g = got_below numbers i lt in
    get_left numbers (map indeterminate (drop (length numbers) os)) i g.element g.is ∙ sym g.is

new_behind : (numbers : List Tree) (os : List ObjectType) (j : ℕ) (u : ObjectType) → slice_get os (length numbers + j) ≡ Some u → slice_get (new_ones numbers os) (length numbers + j) ≡ Some (indeterminate u)
new_behind numbers os j u e =
    get_right numbers (map indeterminate (drop (length numbers) os)) j ∙ get_map indeterminate (drop (length numbers) os) j u (get_drop (length numbers) os j ∙ e)

pub record IsSum (a k : ℕ) : Type 0 where
  pub rest : ℕ
  pub sum : a + rest ≡ k

pub as_sum : (a k : ℕ) → a ≤ k → IsSum a k
as_sum zero k le = record { rest = k; sum = omega arith }
as_sum (suc a) zero le = absurd (omega (arith, le))
as_sum (suc a) (suc k) le = let more = as_sum a k (omega (arith, le)) in record { rest = more.rest; sum = omega (arith, more.sum) }

pub new_fresh : (numbers : List Tree) (os : List ObjectType) (i : ℕ) (u : ObjectType) → length numbers ≤ i → slice_get os i ≡ Some u → slice_get (new_ones numbers os) i ≡ Some (indeterminate u)
new_fresh numbers os i u le e =
    let s = as_sum (length numbers) i le in
    subst (λ k. slice_get (new_ones numbers os) k ≡ Some (indeterminate u)) s.sum (new_behind numbers os s.rest u (ap (slice_get os) s.sum ∙ e))

-- ---- the lists

own_bytes : (os : List ObjectType) → all_bytes (map own_piece os) ≡ bytes_in os
own_bytes [] = refl
own_bytes (o ∷ os) = ap (λ k. (own_piece o).size + k) (own_bytes os)

-- a new array, with no values
pub fresh_own : (list : ℕ) (fn : flat_code.Function) (os : List ObjectType) → bytes_in os ≡ fn.area → (i : ℕ) (x : Spot) → slice_get (spots_from list (area_home fn) (map own_piece os)) i ≡ Some x → x.in_bytes ≡ true
    → (o : Option Tree) → ((u : ObjectType) → slice_get os i ≡ Some u → is_scalar u.lengths ≡ false → o ≡ Some (indeterminate u)) → (mo : Option Memory) → mo ≡ Some (arrays fn flat.unset) → InPlace x o mo
fresh_own list fn os area i x e b o tree mo is =
    let p = placed list (area_home fn) (map own_piece os) i x e in
    let u = from_map own_piece os i p.piece p.piece_is in
    let kind : x.type ≡ u.from = ap (λ (z : Spot). z.type) (sym p.is) ∙ ap (λ (z : Piece). z.type) (sym u.is) in
    let in_bytes : not (is_scalar u.from.lengths) ≡ true = ap (λ (z : Piece). z.in_bytes) u.is ∙ (ap (λ (z : Spot). z.in_bytes) p.is ∙ b) in
    let offset : p.offset ≡ x.offset = ap (λ (z : Spot). z.offset) p.is in
    let room = (own_roomy os i p.piece p.piece_is).room (ap (λ (z : Spot). z.in_bytes) p.is ∙ b) in
    let size : size_of_object p.piece.type ≡ size_of_object x.type = ap (λ (z : Spot). size_of_object z.type) p.is in
    record {
      tree = indeterminate u.from;
      tree_is = tree u.from u.from_is (not_true (is_scalar u.from.lengths) in_bytes);
      shaped = subst (λ (z : ObjectType). Shaped z.lengths (indeterminate u.from)) (sym kind) (filled_shaped None u.from.lengths);
      list = arrays fn flat.unset;
      list_is = is;
      first = omega (arith, p.above, offset);
      past = omega (arith, p.below, offset, room, size, own_bytes os, area);
      elements = λ path v ev. absurd (filled_none u.from.lengths path v ev);
    }
  where
    not_true : (c : Bool) → not c ≡ true → c ≡ false
    not_true true h = absurd (let z : ⊥ = cc in z)
    not_true false h = refl

above_top : (p : flat_code.Program) (s : flat.State) (g at : ℕ) (cells : flat.Values) (l : ℕ) → l ≢ name_of p (moving s g at cells).frame (moving s g at cells).waiting → memory p (moving s g at cells) l ≡ memory p s l
above_top p s g at cells zero ne = refl
above_top p s g at cells (suc l) ne =
    let u = moving s g at cells in
    let other : eqb (name_of p u.frame u.waiting) (suc l) ≡ false = grind (arith, nat_tests) in
    among_later p u.frame u.waiting (suc l) other

on_top : (p : flat_code.Program) (s : flat.State) (g at : ℕ) (cells : flat.Values) (l : ℕ) → l ≡ name_of p (moving s g at cells).frame (moving s g at cells).waiting → 0 < l → memory p (moving s g at cells) l ≡ Some (arrays (flat.function_at p g) flat.unset)
on_top p s g at cells zero e some = absurd (omega (arith, some))
on_top p s g at cells (suc l) e some =
    let u = moving s g at cells in
    let here : eqb (name_of p u.frame u.waiting) (suc l) ≡ true = grind (arith, nat_tests) in
    among_here p u.frame u.waiting (suc l) here

module _ (q : Program) (f : flat_code.Program) (g : IsMadeOf q f) (t : State) (s : flat.State) (m : Matched q f t s) (n : ℕ) (numbers : List Tree) (references : List Reference)
    (en : numbers_in (function_at q n).parameters (function_at q n).objects t.temporaries 0 ≡ Some numbers) (er : arrays_in (function_at q n).parameters t.temporaries 0 ≡ Some references) where
  abbrev callee : Function
  callee = function_at q n

  abbrev before : List Spot
  before = spots q (open_calls t)

  abbrev own : List Spot
  own = spots_from (stack_bytes q (n ∷ open_calls t)) (area_home (function_for q n)) (map own_piece callee.objects)

  abbrev new : List Tree
  new = new_ones numbers callee.objects

  few : length numbers ≤ length callee.objects
  few = numbers_few callee.parameters callee.objects t.temporaries 0 numbers en

  scalar : (i : ℕ) → i < length numbers → (u : IntType) × (scalar_type (slice_get callee.objects i) ≡ Some u)
  scalar = numbers_scalar callee.parameters callee.objects t.temporaries 0 numbers en

  pub arguments_moved : Moved f s before n (layout_of callee) 0 0 0 (length callee.parameters) numbers references flat.unset
  arguments_moved =
      moves f s before n (layout_of callee) (length numbers) (λ i j lt below. words_are_apart callee i j (scalar i (omega (arith, lt, below))).0 (scalar j below).0 lt (scalar i (omega (arith, lt, below))).1 (scalar j below).1)
      (λ i below. words_come_first callee i (scalar i below).0 (scalar i below).1) t.temporaries m.temporaries callee.parameters callee.objects 0 0 0 numbers references flat.unset en er (omega arith)
      (λ i x ex. ap (slice_get (flat.function_at f n).code) (let sum : 0 + i ≡ i = omega arith in sum) ∙ (ap (λ (h : flat_code.Function). slice_get h.code i) (g.functions n)
      ∙ get_left (moves_from (layout_of callee) 0 0 0 callee.parameters) (map (translated (starts_of q) (layout_of callee)) callee.code) i x ex))

  abbrev pub begun_state : State
  begun_state = record t {
    call = record { function = n; at = 0; kept = tac.unset; base = length t.store; arrays = references };
    temporaries = tac.unset;
    waiting = record t.call { at = t.call.at + 1 } ∷ t.waiting;
    store = t.store ++ new;
    history = Entered n (words_in callee.parameters t.temporaries 0) ∷ t.history;
  }

  name : name_of f (moving s n 0 flat.unset).frame (moving s n 0 flat.unset).waiting ≡ stack_bytes q (n ∷ open_calls t)
  name = ap (λ h. frame_bytes h + name_of f s.frame s.waiting) (g.functions n) ∙ ap (λ k. frame_bytes (function_for q n) + k) (name_is q f g t s m)

  old_tree : (i : ℕ) (x : Spot) → slice_get before i ≡ Some x → slice_get (t.store ++ new) i ≡ slice_get t.store i
  old_tree i x e = let got = got_below t.store i (omega (arith, m.count, some_below before i x e)) in get_left t.store new i got.element got.is ∙ sym got.is

  new_tree : (i : ℕ) → slice_get (t.store ++ new) (length t.store + i) ≡ slice_get new i
  new_tree i = get_right t.store new i

  module _ (cells : flat.Values) (at : ℕ) where
    abbrev s2 : flat.State
    s2 = moving s n at cells

    old_lies : (i : ℕ) (x : Spot) → slice_get before i ≡ Some x → x.in_bytes ≡ true → InPlace x (slice_get (t.store ++ new) i) (memory f s2 x.list)
    old_lies i x e b =
        let low = (orderly q (open_calls t)).low i x e in
        lies_by x (slice_get t.store i) (slice_get (t.store ++ new) i) (memory f s x.list) (memory f s2 x.list) (old_tree i x e)
        (above_top f s n at cells x.list (λ h. omega (arith, h, low, name, frame_some (function_for q n)))) (m.in_place i x e b)

    new_lies : (i : ℕ) (x : Spot) → slice_get own i ≡ Some x → x.in_bytes ≡ true → InPlace x (slice_get new i) (memory f s2 x.list)
    new_lies i x e b =
        let list = in_list (stack_bytes q (n ∷ open_calls t)) (area_home (function_for q n)) (map own_piece callee.objects) i x e in
        let memory_is : memory f s2 x.list ≡ Some (arrays (function_for q n) flat.unset) =
        on_top f s n at cells x.list (sym list ∙ sym name) (omega (arith, list, frame_some (function_for q n))) ∙ ap (λ (h : flat_code.Function). Some (arrays h flat.unset)) (g.functions n) in
        fresh_own (stack_bytes q (n ∷ open_calls t)) (function_for q n) callee.objects refl i x e b (slice_get new i)
        (λ u eu array.
        ⊎_elim
        (λ lt.
        let sc = scalar_in callee.objects i (scalar i lt).0 (scalar i lt).1 in
        let same : sc.object ≡ u = same_some sc.object u (sym sc.object_is ∙ eu) in
        absurd (let both : true ≡ false = sym sc.scalar ∙ (ap (λ (z : ObjectType). is_scalar z.lengths) same ∙ array) in let z : ⊥ = cc in z))
        (λ ge. new_fresh numbers callee.objects i u ge eu)
        (cases_lt i (length numbers)))
        (memory f s2 x.list) memory_is

    all_lie : AllInPlace (spots q (n ∷ open_calls t)) (t.store ++ new) (memory f s2)
    all_lie i x e b =
        ⊎_elim (λ old. old_lies i x old b)
        (λ (h : IsBehind before own i x).
        let there : slice_get (t.store ++ new) i ≡ slice_get new h.number = ap (slice_get (t.store ++ new)) (let sum : i ≡ length t.store + h.number = omega (arith, h.sum, m.count) in sum) ∙ new_tree h.number in
        lies_by x (slice_get new h.number) (slice_get (t.store ++ new) i) (memory f s2 x.list) (memory f s2 x.list) there refl (new_lies h.number x h.is b))
        (get_in_both before own i x e)

  -- the call's own frame
  own_frame : (h : Moved f s before n (layout_of callee) 0 0 0 (length callee.parameters) numbers references flat.unset)
      → FrameHolds q (spots q (n ∷ open_calls t)) (length before) begun_state.call (record { function = n; at = 0 + length callee.parameters; cells = h.cells2; area = flat.unset }) (t.store ++ new)
  own_frame h = record {
    function = refl;
    at = omega arith;
    base = m.count;
    kept = λ k v ek. absurd (let z : ⊥ = cc in z);
    few = arrays_count callee.parameters t.temporaries 0 references er;
    arrays = λ i r ei.
        let old = h.references i r ei in
        let there : h.cells2 ((layout_of callee).references + i) ≡ h.cells2 ((layout_of callee).references + (0 + i)) = ap (λ k. h.cells2 ((layout_of callee).references + k)) (let sum : i ≡ 0 + i = omega arith in sum) in
        (leads_more before own r old.0, there ∙ (old.1 ∙ ap Some (sym (shown_more before own r old.0))));
    objects = λ i u z eu ez.
        let in_new : value_of (slice_get new i) ≡ Some z = ap value_of (sym (new_tree i)) ∙ ez in
        ⊎_elim
        (λ lt.
        let number : value_of (slice_get numbers i) ≡ Some z = ap value_of (sym (new_number numbers callee.objects i lt)) ∙ in_new in
        ap (λ k. h.cells2 (home (layout_of callee) k)) (let sum : i ≡ 0 + i = omega arith in sum) ∙ h.objects i z number)
        (λ ge.
        let sc = scalar_in callee.objects i u eu in
        let fresh = new_fresh numbers callee.objects i sc.object ge sc.object_is in
        absurd (no_value sc.object.lengths z (ap value_of (sym fresh) ∙ in_new)))
        (cases_lt i (length numbers));
  }

  pub begun_matched : (h : Moved f s before n (layout_of callee) 0 0 0 (length callee.parameters) numbers references flat.unset) → Matched q f begun_state (moving s n (0 + length callee.parameters) h.cells2)
  begun_matched h =
      let at = 0 + length callee.parameters in
      let counts : length (t.store ++ new) ≡ length t.store + length callee.objects = length_both t.store new ∙ ap (λ k. length t.store + k) (new_count numbers callee.objects few) in
      let pieces : length own ≡ length callee.objects = length_spots (stack_bytes q (n ∷ open_calls t)) (area_home (function_for q n)) (map own_piece callee.objects) ∙ length_map own_piece callee.objects in
      let on : s.frame.at + 1 ≡ length (function_at q t.call.function).parameters + (t.call.at + 1) = omega (arith, m.frames.0.at) in
      let waiting : FramesHold q (record t.call { at = t.call.at + 1 } ∷ t.waiting) (record s.frame { at = s.frame.at + 1 } ∷ s.waiting) t.store = (moved q f t s m (t.call.at + 1) (s.frame.at + 1) on, m.frames.1) in
      record {
        frames = (own_frame h, frames_stay q (record t.call { at = t.call.at + 1 } ∷ t.waiting) (record s.frame { at = s.frame.at + 1 } ∷ s.waiting) t.store (t.store ++ new) (λ i x e out. old_tree i x e) waiting);
        temporaries = λ k v ek. absurd (let z : ⊥ = cc in z);
        count = omega (arith, counts, pieces, m.count, length_both before own);
        in_place = all_lie h.cells2 at;
        input = m.input;
        bytes = m.bytes;
        trace = m.trace;
      }
