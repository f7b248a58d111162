-- A program of simplified functions does what the program does, at no more cost, and is as sound.
use Rattle.std.proofs.Common.{◌≡◌, ◌≤◌, ℕ, zero, suc, ◌+◌, List, [], ◌∷◌, length, map, Option, Some, None, refl, sym, ap, ◌∙◌, subst, arith}
use Rattle.std.specs.Prelude.{slice_get, sum_by}
use Rattle.std.proofs.lemmas.List.Sums.{sum_by-cons}
use Rattle.frames_code.specs.declared.code.Instruction.{Instruction}
use Rattle.frames_code.specs.Code.{Function, Program, frame_bytes}
use Rattle.frames_code.specs.Run.{function_at}
use Rattle.frames_code.specs.Sound.{FunctionFits, IsSoundProgram, places_of}
use Rattle.frames_opt.specs.declared.facts.Known.{Known}
use Rattle.frames.specs.Costs.{code_bytes}
use Rattle.frames_opt.specs.Simplified.{IsSimplified}
use Rattle.frames_opt.specs.declared.room.Room.{Room}
use Rattle.frames_opt.specs.declared.rows.Row.{Row}
use Rattle.frames_opt.specs.inside.Facts.{nothing, room_of}
use Rattle.frames_opt.specs.layer.Functions.{IsSimplerCode, stayed, improved, AreSimpler}
use Rattle.frames_opt.proofs.Alike.{with_code}
use Rattle.frames_opt.proofs.Runs.{Position, IsSimpler, runs, costs}
use Rattle.frames_opt.proofs.Positions.{known_at, position, same_position, start_known}
use Rattle.frames_opt.proofs.AtCalls.{at_calls}
use Rattle.frames_opt.proofs.Fitting.{code_length, function_fits}

-- ---- functions

abbrev known_in : (room : Room) (old new : List Instruction) → IsSimplerCode room old new → ℕ → List Known
known_in room old new (stayed e) = λ k. nothing
known_in room old new (improved c) = known_at room c.marks old c.are c.states c.right

abbrev states_in : (room : Room) (old new : List Instruction) → IsSimplerCode room old new → List Row
states_in room old new (stayed e) = []
states_in room old new (improved c) = c.states

position_in : (room : Room) (old new : List Instruction) (c : IsSimplerCode room old new) (i : ℕ) (x : Instruction) → slice_get old i ≡ Some x → Position room (known_in room old new c) (states_in room old new c) new i x
position_in room old new (stayed e) i x h = subst (λ m. Position room (λ k. nothing) [] m i x) (sym e) (same_position room old i x h)
position_in room old new (improved c) i x h =
    subst (λ m. Position room (known_at room c.marks old c.are c.states c.right) c.states m i x) (sym c.is) (position room c.marks old c.are c.states c.right i x h)

start_in : (room : Room) (old new : List Instruction) (c : IsSimplerCode room old new) → known_in room old new c 0 ≡ nothing
start_in room old new (stayed e) = refl
start_in room old new (improved c) = start_known room c.marks old

-- ---- functions by their numbers

abbrev known_of : (fs gs : List Function) → AreSimpler fs gs → ℕ → ℕ → List Known
known_of [] [] each k = λ i. nothing
known_of [] (g ∷ gs) each k = λ i. nothing
known_of (f ∷ fs) [] each k = λ i. nothing
known_of (f ∷ fs) (g ∷ gs) each zero = known_in (room_of f) f.code g.code each.0.code
known_of (f ∷ fs) (g ∷ gs) each (suc k) = known_of fs gs each.1 k

abbrev states_of : (fs gs : List Function) → AreSimpler fs gs → ℕ → List Row
states_of [] [] each k = []
states_of [] (g ∷ gs) each k = []
states_of (f ∷ fs) [] each k = []
states_of (f ∷ fs) (g ∷ gs) each zero = states_in (room_of f) f.code g.code each.0.code
states_of (f ∷ fs) (g ∷ gs) each (suc k) = states_of fs gs each.1 k

start_of : (fs gs : List Function) (each : AreSimpler fs gs) (k : ℕ) → known_of fs gs each k 0 ≡ nothing
start_of [] [] each k = refl
start_of [] (g ∷ gs) each k = absurd each
start_of (f ∷ fs) [] each k = absurd each
start_of (f ∷ fs) (g ∷ gs) each zero = start_in (room_of f) f.code g.code each.0.code
start_of (f ∷ fs) (g ∷ gs) each (suc k) = start_of fs gs each.1 k

-- both have a function of this number, or neither has
abbrev IsPair : (ℕ → List Known) → List Row → Option Function → Option Function → Type 0
IsPair kn states None None = Unit {0}
IsPair kn states None (Some g) = ⊥
IsPair kn states (Some f) None = ⊥
IsPair kn states (Some f) (Some g) = (g ≡ with_code f g.code) × (length g.code ≡ length f.code) × ((i : ℕ) (x : Instruction) → slice_get f.code i ≡ Some x → Position (room_of f) kn states g.code i x)

pair_at : (fs gs : List Function) (each : AreSimpler fs gs) (k : ℕ) → IsPair (known_of fs gs each k) (states_of fs gs each k) (slice_get fs k) (slice_get gs k)
pair_at [] [] each k = tt
pair_at [] (g ∷ gs) each k = absurd each
pair_at (f ∷ fs) [] each k = absurd each
pair_at (f ∷ fs) (g ∷ gs) each zero = (each.0.is, code_length (room_of f) f.code g.code each.0.code, position_in (room_of f) f.code g.code each.0.code)
pair_at (f ∷ fs) (g ∷ gs) each (suc k) = pair_at fs gs each.1 k

module _ (p q : Program) (each : AreSimpler p.functions q.functions) (same_statics : q.statics ≡ p.statics) (same_main : q.main ≡ p.main) where
  abbrev kn : ℕ → ℕ → List Known
  kn = known_of p.functions q.functions each

  abbrev states : ℕ → List Row
  states = states_of p.functions q.functions each

  sized_at : (k : ℕ) (o o2 : Option Function) → slice_get p.functions k ≡ o → slice_get q.functions k ≡ o2 → IsPair (kn k) (states k) o o2 → function_at q k ≡ with_code (function_at p k) (function_at q k).code
  sized_at k None None e e2 is = rw (e, e2) refl
  sized_at k None (Some g) e e2 is = absurd is
  sized_at k (Some f) None e e2 is = absurd is
  sized_at k (Some f) (Some g) e e2 is = rw (e, e2) is.0

  position_at : (k : ℕ) (o o2 : Option Function) → slice_get p.functions k ≡ o → slice_get q.functions k ≡ o2 → IsPair (kn k) (states k) o o2
      → (i : ℕ) (x : Instruction) → slice_get (function_at p k).code i ≡ Some x → Position (room_of (function_at p k)) (kn k) (states k) (function_at q k).code i x
  position_at k None None e e2 is i x h = let none : (function_at p k).code ≡ [] = rw e refl in let no : None ≡ Some x = ap (λ xs. slice_get xs i) (sym none) ∙ h in absurd (let z : ⊥ = cc in z)
  position_at k None (Some g) e e2 is i x h = absurd is
  position_at k (Some f) None e e2 is i x h = absurd is
  position_at k (Some f) (Some g) e e2 is i x h =
      let first : function_at p k ≡ f = rw e refl in
      let second : function_at q k ≡ g = rw e2 refl in
      let held : slice_get f.code i ≡ Some x = ap (λ (d : Function). slice_get d.code i) (sym first) ∙ h in
      let one : Position (room_of f) (kn k) (states k) (function_at q k).code i x = subst (λ (d : Function). Position (room_of f) (kn k) (states k) d.code i x) (sym second) (is.2 i x held) in
      subst (λ (d : Function). Position (room_of d) (kn k) (states k) (function_at q k).code i x) (sym first) one

  count_at : (k : ℕ) (o o2 : Option Function) → slice_get p.functions k ≡ o → slice_get q.functions k ≡ o2 → IsPair (kn k) (states k) o o2 → length (function_at q k).code ≡ length (function_at p k).code
  count_at k None None e e2 is = rw (e, e2) refl
  count_at k None (Some g) e e2 is = absurd is
  count_at k (Some f) None e e2 is = absurd is
  count_at k (Some f) (Some g) e e2 is = rw (e, e2) is.1

  simpler : IsSimpler p q kn states
  simpler = record {
    sized = record {
      at = λ k. sized_at k (slice_get p.functions k) (slice_get q.functions k) refl refl (pair_at p.functions q.functions each k);
      statics = same_statics;
    };
    main = same_main;
    starts = start_of p.functions q.functions each;
    count = λ k. count_at k (slice_get p.functions k) (slice_get q.functions k) refl refl (pair_at p.functions q.functions each k);
    each = λ k. position_at k (slice_get p.functions k) (slice_get q.functions k) refl refl (pair_at p.functions q.functions each k);
  }

-- ---- frames, soundness

frames_in : (fs gs : List Function) → AreSimpler fs gs → map frame_bytes gs ≡ map frame_bytes fs
frames_in [] [] each = refl
frames_in [] (g ∷ gs) each = absurd each
frames_in (f ∷ fs) [] each = absurd each
frames_in (f ∷ fs) (g ∷ gs) each = ap (λ n. n ∷ map frame_bytes gs) (ap frame_bytes each.0.is) ∙ ap (λ (ns : List ℕ). frame_bytes f ∷ ns) (frames_in fs gs each.1)

all_fit : (n : ℕ) (fs gs : List Function) → AreSimpler fs gs → ((k : ℕ) (f : Function) → slice_get fs k ≡ Some f → FunctionFits n f) → (k : ℕ) (g : Function) → slice_get gs k ≡ Some g → FunctionFits n g
all_fit n [] [] r fit k g e = absurd (let x : ⊥ = cc in x)
all_fit n [] (y ∷ ys) r fit k g e = absurd r
all_fit n (x ∷ xs) [] r fit k g e = absurd r
all_fit n (x ∷ xs) (y ∷ ys) r fit zero g e = let same : y ≡ g = cc in subst (FunctionFits n) same (function_fits n x y r.0 (fit zero x refl))
all_fit n (x ∷ xs) (y ∷ ys) r fit (suc k) g e = all_fit n xs ys r.1 (λ j. fit (suc j)) k g e

same_count : (fs gs : List Function) → AreSimpler fs gs → length gs ≡ length fs
same_count [] [] r = refl
same_count [] (g ∷ gs) r = absurd r
same_count (f ∷ fs) [] r = absurd r
same_count (f ∷ fs) (g ∷ gs) r = ap suc (same_count fs gs r.1)

same_places : (fs gs : List Function) → AreSimpler fs gs → places_of gs ≡ places_of fs
same_places [] [] r = refl
same_places [] (g ∷ gs) r = absurd r
same_places (f ∷ fs) [] r = absurd r
same_places (f ∷ fs) (g ∷ gs) r =
    let one : length g.code ≡ length f.code = code_length (room_of f) f.code g.code r.0.code in
    omega (arith, one, same_places fs gs r.1, sum_by-cons (λ (h : Function). length h.code + 1) f fs, sum_by-cons (λ (h : Function). length h.code + 1) g gs)

stays_sound : (p q : Program) → AreSimpler p.functions q.functions → q.statics ≡ p.statics → q.main ≡ p.main → IsSoundProgram p → IsSoundProgram q
stays_sound p q each statics main sound =
    let count = same_count p.functions q.functions each in
    let places = same_places p.functions q.functions each in
    record {
      has_main = omega (arith, count, main, sound.has_main);
      each = λ k g e. subst (λ n. FunctionFits n g) (sym count) (all_fit (length p.functions) p.functions q.functions each sound.each k g e);
      statics = subst (λ xs. length xs ≤ 0x10000000) (sym statics) sound.statics;
      countable = omega (arith, count, places, sound.countable);
    }

bytes_in : (fs gs : List Function) → AreSimpler fs gs → (k : ℕ) (f g : Function) → slice_get fs k ≡ Some f → slice_get gs k ≡ Some g → sum_by code_bytes g.code ≤ sum_by code_bytes f.code
bytes_in [] gs r k f g e e2 = absurd (let x : ⊥ = cc in x)
bytes_in (x ∷ xs) [] r k f g e e2 = absurd r
bytes_in (x ∷ xs) (y ∷ ys) r zero f g e e2 =
    let one : x ≡ f = cc in
    let two : y ≡ g = cc in
    let first : sum_by code_bytes x.code ≡ sum_by code_bytes f.code = ap (λ (h : Function). sum_by code_bytes h.code) one in
    let second : sum_by code_bytes y.code ≡ sum_by code_bytes g.code = ap (λ (h : Function). sum_by code_bytes h.code) two in
    omega (arith, first, second, r.0.bytes)
bytes_in (x ∷ xs) (y ∷ ys) r (suc k) f g e e2 = bytes_in xs ys r.1 k f g e e2

pub is_simplified : (p q : Program) → AreSimpler p.functions q.functions → q.statics ≡ p.statics → q.main ≡ p.main → IsSimplified p q
is_simplified p q each statics main =
    let r = simpler p q each statics main in
    let known = known_of p.functions q.functions each in
    let states = states_of p.functions q.functions each in
    record {
      runs = runs p q known states r;
      at_calls = at_calls p q known states r;
      costs = costs p q known states r;
      frames = frames_in p.functions q.functions each;
      bytes = bytes_in p.functions q.functions each;
      sound = stays_sound p q each statics main;
      statics = statics;
      main = main;
    }
