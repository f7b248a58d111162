-- As a program begins.
use Rattle.std.proofs.Common.{◌≡◌, ⊎_elim, ℕ, zero, suc, ◌+◌, ◌<◌, List, [], ◌∷◌, ◌++◌, length, map, Some, true, refl, sym, ap, ◌∙◌, subst, arith, eqb}
use Rattle.std.specs.Prelude.{slice_get}
use Rattle.std.proofs.lemmas.Bool.Decides.{nat_tests}
use Rattle.csem.specs.Store.{value_of, indeterminate, literal_object, static_object}
use Rattle.tac_code.specs.declared.code.Parameter.{Parameter}
use Rattle.tac_code.specs.Code.{Program, Function, function_at}
use Rattle.tac_code.specs.Costs.{array_parameters}
use Rattle.tac_code.specs.Run.{State, first_store, start}
use Rattle.tac_code.specs.Sound.{AreBytes}
use Rattle.frames_code.specs.Code as flat_code
use Rattle.frames_code.specs.Code.{frame_bytes, area_home}
use Rattle.frames_code.specs.Run as flat
use Rattle.frames_code.specs.Run.{Memory, memory, arrays, name_of}
use Rattle.frames.specs.Data.{data_of}
use Rattle.frames_correct.specs.Matched.{Spot, FrameHolds, Matched, InPlace, AllInPlace, function_for, stack_bytes, spots, spots_from, literal_piece, static_piece, own_piece}
use Rattle.frames_correct.proofs.Lists.{get_left, get_right, get_map, length_both, length_map, IsBehind, get_in_both}
use Rattle.frames_correct.proofs.Spots.{length_spots, in_list, frame_some}
use Rattle.frames_correct.proofs.Memory.{among_here}
use Rattle.frames_correct.proofs.Frames.{scalar_in}
use Rattle.frames_correct.proofs.Forgetting.{no_value}
use Rattle.frames_correct.proofs.Calling.{fresh_own}
use Rattle.frames_correct.proofs.Data.{first_lies}
use Rattle.frames_correct.proofs.Ground.{IsMadeOf}

first_count : (q : Program) → length (first_store q) ≡ length (spots q [])
first_count q =
    length_both (map literal_object q.literals) (map static_object q.statics)
    ∙ (let e : length (map literal_object q.literals) + length (map static_object q.statics) ≡ length (map literal_piece q.literals ++ map static_piece q.statics) =
    omega (arith, length_map literal_object q.literals, length_map static_object q.statics, length_map literal_piece q.literals, length_map static_piece q.statics, length_both (map literal_piece q.literals) (map static_piece q.statics)) in e)
    ∙ sym (length_spots 0 16 (map literal_piece q.literals ++ map static_piece q.statics))

-- a list that contains objects before the run is that of the statics
first_list : (q : Program) (n : ℕ) (x : Spot) → slice_get (spots q []) n ≡ Some x → 0 ≡ x.list
first_list q n x e = in_list 0 16 (map literal_piece q.literals ++ map static_piece q.statics) n x e

on_top : (p : flat_code.Program) (s : flat.State) (l : ℕ) → l ≡ name_of p s.frame s.waiting → 0 < l → memory p s l ≡ Some (arrays (flat.function_at p s.frame.function) s.frame.area)
on_top p s zero e some = absurd (omega (arith, some))
on_top p s (suc l) e some =
    let here : eqb (name_of p s.frame s.waiting) (suc l) ≡ true = grind (arith, nat_tests) in
    among_here p s.frame s.waiting (suc l) here

module _ (q : Program) (f : flat_code.Program) (g : IsMadeOf q f) (input : List ℕ) (bytes : AreBytes input) where
  abbrev main : Function
  main = function_at q q.main

  abbrev t : State
  t = start q input

  abbrev s : flat.State
  s = flat.start f input

  abbrev own : List Spot
  own = spots_from (stack_bytes q (q.main ∷ [])) (area_home (function_for q q.main)) (map own_piece main.objects)

  main_is : flat.function_at f f.main ≡ function_for q q.main
  main_is = g.functions f.main ∙ ap (function_for q) g.main

  name : name_of f s.frame s.waiting ≡ stack_bytes q (q.main ∷ [])
  name = ap (λ (h : flat_code.Function). frame_bytes h + 0) main_is

  new_tree : (i : ℕ) → slice_get t.store (length (first_store q) + i) ≡ slice_get (map indeterminate main.objects) i
  new_tree i = get_right (first_store q) (map indeterminate main.objects) i

  abbrev statics_in : List ℕ → Memory
  statics_in bs = record { bytes = slice_get bs; first = 0; past = length bs }

  old_lies : (i : ℕ) (x : Spot) → slice_get (spots q []) i ≡ Some x → x.in_bytes ≡ true → InPlace x (slice_get t.store i) (memory f s x.list)
  old_lies i x e b =
      let in_place = first_lies q g.sound i x e b in
      record {
        tree = in_place.tree;
        tree_is = get_left (first_store q) (map indeterminate main.objects) i in_place.tree in_place.tree_is;
        shaped = in_place.shaped;
        list = record { bytes = slice_get (data_of q); first = 0; past = length (data_of q) };
        list_is = ap (memory f s) (sym (first_list q i x e)) ∙ ap (λ bs. Some (statics_in bs)) g.statics;
        first = omega arith;
        past = in_place.past;
        elements = in_place.elements;
      }

  new_lies : (i : ℕ) (x : Spot) → slice_get own i ≡ Some x → x.in_bytes ≡ true → InPlace x (slice_get (map indeterminate main.objects) i) (memory f s x.list)
  new_lies i x e b =
      let list = in_list (stack_bytes q (q.main ∷ [])) (area_home (function_for q q.main)) (map own_piece main.objects) i x e in
      fresh_own (stack_bytes q (q.main ∷ [])) (function_for q q.main) main.objects refl i x e b (slice_get (map indeterminate main.objects) i) (λ u eu array. get_map indeterminate main.objects i u eu) (memory f s x.list)
      (on_top f s x.list (sym list ∙ sym name) (omega (arith, list, frame_some (function_for q q.main))) ∙ ap (λ (h : flat_code.Function). Some (arrays h flat.unset)) main_is)

  all_lie : AllInPlace (spots q (q.main ∷ [])) t.store (memory f s)
  all_lie i x e b =
      ⊎_elim (λ old. old_lies i x old b)
      (λ (h : IsBehind (spots q []) own i x).
      let place : i ≡ length (first_store q) + h.number = omega (arith, h.sum, first_count q) in
      let there : slice_get t.store i ≡ slice_get (map indeterminate main.objects) h.number = ap (slice_get t.store) place ∙ new_tree h.number in
      subst (λ o. InPlace x o (memory f s x.list)) (sym there) (new_lies h.number x h.is b))
      (get_in_both (spots q []) own i x e)

  main_frame : FrameHolds q (spots q (q.main ∷ [])) (length (spots q [])) t.call s.frame t.store
  main_frame = record {
    function = g.main;
    at = let none : 0 ≡ length main.parameters = ap (λ (ps : List Parameter). length ps) (sym g.sound.main_takes_nothing) in omega (arith, none);
    base = first_count q;
    kept = λ k v ek. absurd (let z : ⊥ = cc in z);
    few = ap array_parameters (sym g.sound.main_takes_nothing);
    arrays = λ n r er. absurd (let z : ⊥ = cc in z);
    objects = λ n ty z ety ez.
        let sc = scalar_in main.objects n ty ety in
        let fresh : slice_get t.store (length (first_store q) + n) ≡ Some (indeterminate sc.object) = new_tree n ∙ get_map indeterminate main.objects n sc.object sc.object_is in
        absurd (no_value sc.object.lengths z (ap value_of (sym fresh) ∙ ez));
  }

  pub start_matched : Matched q f t s
  start_matched = record {
    frames = (main_frame, tt);
    temporaries = λ k v ek. absurd (let z : ⊥ = cc in z);
    count = omega (arith, first_count q, length_both (first_store q) (map indeterminate main.objects), length_both (spots q []) own, length_map indeterminate main.objects, length_spots (stack_bytes q (q.main ∷ [])) (area_home (function_for q q.main)) (map own_piece main.objects), length_map own_piece main.objects);
    in_place = all_lie;
    input = refl;
    bytes = bytes;
    trace = refl;
  }
