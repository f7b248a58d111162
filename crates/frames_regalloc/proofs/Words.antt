-- The words that a step of a renumbered program reads and writes.
use Rattle.std.proofs.Common.{◌≡◌, ℕ, zero, suc, ◌+◌, List, [], ◌∷◌, length, map, Option, Some, Bool, true, false, refl, sym, ap, ◌∙◌}
use Rattle.std.specs.Prelude.{◌==◌, if◌then◌else◌}
use Rattle.std.proofs.lemmas.Bool.{eqb-true, eqb-false, eq-eqb, ne_eqb}
use Rattle.frames_code.specs.declared.code.Operand.{Operand}
use Rattle.frames_code.specs.declared.code.Operand.TheVariants as operand
use Rattle.frames_code.specs.declared.code.Target.{Target}
use Rattle.frames_code.specs.declared.code.Target.TheVariants as target
use Rattle.frames_code.specs.declared.code.Base.{Base}
use Rattle.frames_code.specs.declared.code.Base.TheVariants as base
use Rattle.frames_code.specs.declared.code.Location.{Location}
use Rattle.frames_code.specs.declared.code.Location.TheVariants as location
use Rattle.frames_code.specs.Code.{Program, area_home, frame_bytes}
use Rattle.frames_code.specs.Run.{Value, Values, Bytes, Frame, State, Reference, Memory, with_at, value, word_in, set, place, base_of, indexed, reference_in, function_at, bytes_of, name_of, arrays, memory_among, memory, changed_among, with_frames, with_memory}
use Rattle.frames_regalloc.specs.Renumbered.{renumbered_operand, renumbered_target, renumbered_location, renumbered_function}
use Rattle.frames_regalloc.specs.Laws.{moved_frame, moved}

-- each function of q is that of p, its words renumbered
pub record Alike (p q : Program) (to from : ℕ → ℕ → ℕ) : Type 0 where
  pub at : (k : ℕ) → function_at q k ≡ renumbered_function (to k) (function_at q k).resident (function_at p k)
  pub from_to : (k c : ℕ) → from k (to k c) ≡ c
  pub to_from : (k c : ℕ) → to k (from k c) ≡ c
  pub statics : q.statics ≡ p.statics
  pub main : q.main ≡ p.main

abbrev statics_memory : Bytes → List ℕ → Memory
statics_memory b xs = record { bytes = b; first = 0; past = length xs }

abbrev reference_to : (list offset : ℕ) → Reference
reference_to list offset = record { list = list; offset = offset }

same_test : (a b c d : ℕ) → (a ≡ b → c ≡ d) → (c ≡ d → a ≡ b) → (a == b) ≡ (c == d)
same_test a b c d f g = on (a == b) refl
  where
    on : (t : Bool) → (a == b) ≡ t → (a == b) ≡ (c == d)
    on true e = e ∙ sym (eq-eqb c d (f (eqb-true a b e)))
    on false e = e ∙ sym (ne_eqb c d (λ h. eqb-false a b e (g h)))

module _ (p q : Program) (to from : ℕ → ℕ → ℕ) (r : Alike p q to from) where
  abbrev mf : Frame → Frame
  mf = moved_frame from

  -- ---- frames and lists of bytes

  bytes_at : (k : ℕ) → frame_bytes (function_at q k) ≡ frame_bytes (function_at p k)
  bytes_at k = ap frame_bytes (r.at k)

  home_at : (k : ℕ) → area_home (function_at q k) ≡ area_home (function_at p k)
  home_at k = ap area_home (r.at k)

  arrays_at : (k : ℕ) (b : Bytes) → arrays (function_at q k) b ≡ arrays (function_at p k) b
  arrays_at k b = ap (λ f. arrays f b) (r.at k)

  pub bytes_same : (fs : List Frame) → bytes_of q (map mf fs) ≡ bytes_of p fs
  bytes_same [] = refl
  bytes_same (f ∷ fs) = ap (λ n. n + bytes_of q (map mf fs)) (bytes_at f.function) ∙ ap (λ n. frame_bytes (function_at p f.function) + n) (bytes_same fs)

  name_same : (f : Frame) (fs : List Frame) → name_of q (mf f) (map mf fs) ≡ name_of p f fs
  name_same f fs = bytes_same (f ∷ fs)

  memory_in : (fs : List Frame) (l : ℕ) → memory_among q (map mf fs) l ≡ memory_among p fs l
  memory_in [] l = refl
  memory_in (f ∷ fs) l =
      ap (λ n. if n == l then Some (arrays (function_at q f.function) f.area) else memory_among q (map mf fs) l) (name_same f fs)
      ∙ ap (λ (m : Memory). if name_of p f fs == l then Some m else memory_among q (map mf fs) l) (arrays_at f.function f.area)
      ∙ ap (λ (m : Option Memory). if name_of p f fs == l then Some (arrays (function_at p f.function) f.area) else m) (memory_in fs l)

  pub memory_same : (s : State) (l : ℕ) → memory q (moved from s) l ≡ memory p s l
  memory_same s zero = ap (λ (xs : List ℕ). Some (statics_memory s.statics xs)) r.statics
  memory_same s (suc l) = memory_in (s.frame ∷ s.waiting) (suc l)

  map_either : (t : Bool) (xs ys : List Frame) → (if t then map mf xs else map mf ys) ≡ map mf (if t then xs else ys)
  map_either true xs ys = refl
  map_either false xs ys = refl

  changed_in : (fs : List Frame) (l : ℕ) (b : Bytes) → changed_among q (map mf fs) l b ≡ map mf (changed_among p fs l b)
  changed_in [] l b = refl
  changed_in (f ∷ fs) l b =
      ap (λ n. if n == l then record (mf f) { area = b } ∷ map mf fs else mf f ∷ changed_among q (map mf fs) l b) (name_same f fs)
      ∙ ap (λ (gs : List Frame). if name_of p f fs == l then record (mf f) { area = b } ∷ map mf fs else mf f ∷ gs) (changed_in fs l b)
      ∙ map_either (name_of p f fs == l) (record f { area = b } ∷ fs) (f ∷ changed_among p fs l b)

  frames_put : (s : State) (fs : List Frame) → with_frames (moved from s) (map mf fs) ≡ moved from (with_frames s fs)
  frames_put s [] = refl
  frames_put s (f ∷ fs) = refl

  pub memory_put : (s : State) (l : ℕ) (b : Bytes) → with_memory q (moved from s) l b ≡ moved from (with_memory p s l b)
  memory_put s zero b = refl
  memory_put s (suc l) b = ap (with_frames (moved from s)) (changed_in (s.frame ∷ s.waiting) (suc l) b) ∙ frames_put s (changed_among p (s.frame ∷ s.waiting) (suc l) b)

  -- ---- operands, locations, targets

  pub value_same : (s : State) (x : Operand) → value (moved from s) (renumbered_operand (to s.frame.function) x) ≡ value s x
  value_same s (operand.Temporary k) = refl
  value_same s (operand.Cell c) = ap s.frame.cells (r.from_to s.frame.function c)
  value_same s (operand.Constant v) = refl
  value_same s (operand.Argument k) = refl

  base_same : (s : State) (b : Base) → base_of q (moved from s) b ≡ base_of p s b
  base_same s (base.Statics o) = refl
  base_same s (base.Frame o) =
      ap (λ n. reference_to n (area_home (function_at q s.frame.function) + o)) (name_same s.frame s.waiting)
      ∙ ap (λ n. reference_to (name_of p s.frame s.waiting) (n + o)) (home_at s.frame.function)

  pub place_same : (s : State) (l : Location) → place q (moved from s) (renumbered_location (to s.frame.function) l) ≡ place p s l
  place_same s (location.Statics o) = refl
  place_same s (location.Frame o) =
      ap (λ n. Some (reference_to n (area_home (function_at q s.frame.function) + o))) (name_same s.frame s.waiting)
      ∙ ap (λ n. Some (reference_to (name_of p s.frame s.waiting) (n + o))) (home_at s.frame.function)
  place_same s (location.At x) = ap reference_in (value_same s x)
  place_same s (location.Indexed b y size) =
      ap (λ r. indexed r size (word_in (value (moved from s) (renumbered_operand (to s.frame.function) y)))) (base_same s b)
      ∙ ap (λ v. indexed (base_of p s b) size (word_in v)) (value_same s y)

  -- the number of a word is the new one just where the word is that
  word_is : (k c j : ℕ) → (j == to k c) ≡ (from k j == c)
  word_is k c j = same_test j (to k c) (from k j) c (λ e. ap (from k) e ∙ r.from_to k c) (λ e. sym (r.to_from k j) ∙ ap (to k) e)

  cells_put : (k c : ℕ) (v : Value) (cells : Values) → with_at (λ j. cells (from k j)) (to k c) v ≡ (λ j. with_at cells c v (from k j))
  cells_put k c v cells =
      let each : (j : ℕ) → with_at (λ i. cells (from k i)) (to k c) v j ≡ with_at cells c v (from k j) =
      λ j. ap (λ t. if t then Some v else cells (from k j)) (word_is k c j) in
      λ i j. each j i

  pub target_set : (s : State) (d : Target) (v : Value) → set (renumbered_target (to s.frame.function) d) v (moved from s) ≡ moved from (set d v s)
  target_set s (target.Temporary k) v = refl
  target_set s (target.Cell c) v =
      ap (λ (m : Values). record (moved from s) { frame = record (moved from s).frame { cells = m } }) (cells_put s.frame.function c v s.frame.cells)
