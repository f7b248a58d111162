-- A program of functions whose constants were hoisted does what the program does, at no more cost, and is as sound.
use Rattle.std.proofs.Common.{◌≡◌, ◌≤◌, ◌<◌, ◌⊎◌, inl, inr, ⊎_elim, ℕ, zero, suc, ◌+◌, ◌*◌, ◌^◌, List, [], ◌∷◌, length, map, Option, Some, None, Bool, true, false, refl, sym, ap, ◌∙◌, subst, arith}
use Rattle.std.specs.Prelude.{◌==◌, if◌then◌else◌, nat_lt, slice_get}
use Rattle.std.proofs.lemmas.Bool.{lt-ltb}
use Rattle.std.proofs.lemmas.Option.{slice_get_within}
use Rattle.std.proofs.lemmas.List.Sums.{sum_by-cons}
use Rattle.frames_code.specs.declared.code.Operand.{Operand}
use Rattle.frames_code.specs.declared.code.Operand.TheVariants as operand
use Rattle.frames_code.specs.declared.code.Target.{Target}
use Rattle.frames_code.specs.declared.code.Target.TheVariants as target
use Rattle.frames_code.specs.declared.code.Base.{Base}
use Rattle.frames_code.specs.declared.code.Base.TheVariants as base
use Rattle.frames_code.specs.declared.code.Location.{Location}
use Rattle.frames_code.specs.declared.code.Location.TheVariants as location
use Rattle.frames_code.specs.declared.code.Instruction.{Instruction}
use Rattle.frames_code.specs.declared.code.Instruction.TheVariants as instruction
use Rattle.frames_code.specs.Code.{Function, Program, area_home, frame_bytes}
use Rattle.frames_code.specs.Costs.{entry_cost, entry_cost_of}
use Rattle.frames_code.specs.Run.{function_at}
use Rattle.frames_code.specs.Sound.{OperandFits, TargetFits, BaseFits, IndexFits, LocationFits, InstructionFits, FunctionFits, IsSoundProgram, places_of}
use Rattle.frames.specs.Costs.{function_bytes, function_bytes_in}
use Rattle.frames_hoist.specs.declared.homes.Home.{Home}
use Rattle.frames_hoist.specs.declared.homes.Home.TheVariants as home_of
use Rattle.frames_hoist.specs.Optimised.{IsOptimised}
use Rattle.frames_hoist.specs.layer.Hoisting.{held_in, put_in, is_nothing, word_for, from_pool, with_pool, put_word, hoisted_one, next_filled, hoisted, filled_at}
use Rattle.frames_hoist.specs.layer.Functions.{words_more, with_code, with_words, HasPlaces, HasRoom, IsPooled, IsHoistedFunction, stayed, pooled, AreHoisted}
use Rattle.frames_hoist.proofs.Agreeing.{Position, AreAlike}
use Rattle.frames_hoist.proofs.Placing.{no_item, nowhere, fill, fill_few, count, position, same_position, hoisted_length}
use Rattle.frames_hoist.proofs.Running.{runs, costs, at_calls}

-- ---- one function

pub entry_least : (f : Function) → entry_cost_of f ≤ entry_cost
entry_least f = on (nat_lt (frame_bytes f) 0x800)
  where
    on : (b : Bool) → (if b then 16 else entry_cost) ≤ entry_cost
    on true = omega arith
    on false = omega arith

abbrev pool_in : (f g : Function) → IsHoistedFunction f g → List ℕ
pool_in f g (stayed e) = []
pool_in f g (pooled h) = h.pool

abbrev home_in : (f g : Function) → IsHoistedFunction f g → Home
home_in f g (stayed e) = nowhere
home_in f g (pooled h) = h.home

abbrev fill_in : (f g : Function) → IsHoistedFunction f g → ℕ → ℕ
fill_in f g (stayed e) = λ i. 0
fill_in f g (pooled h) = fill f g h

-- what a function and the one that was made of it have in common
record IsPair (home : Home) (pool : List ℕ) (fill : ℕ → ℕ) (f g : Function) : Type 0 where
  pub frame : frame_bytes g ≡ frame_bytes f
  pub area : g.area ≡ f.area
  pub result : g.gives ≡ f.gives
  pub arrays : (f.area ≡ 0) ⊎ (area_home g ≡ area_home f)
  pub start : fill 0 ≡ 0
  pub paid : entry_cost_of g + 6 * length pool ≤ entry_cost
  pub counted : length g.code ≡ length f.code
  pub few : (i : ℕ) → fill i ≤ length pool
  pub each : (i : ℕ) (x : Instruction) → slice_get f.code i ≡ Some x → Position home pool fill f g i x

same_pair : (f : Function) → IsPair nowhere [] (λ i. 0) f f
same_pair f = record {
  frame = refl;
  area = refl;
  result = refl;
  arrays = inr refl;
  start = refl;
  paid = (let a = entry_least f in omega (arith, a));
  counted = refl;
  few = λ i. omega arith;
  each = same_position f;
}

filled_zero : (f g : Function) (h : IsPooled f g) → fill f g h 0 ≡ 0
filled_zero f g h = on f.code
  where
    on : (xs : List Instruction) → filled_at (length h.pool) h.start 0 0 xs 0 ≡ 0
    on [] = refl
    on (x ∷ xs) = refl

-- the arrays of a frame stay where they are, if it has any
arrays_stay : (f : Function) (h : Home) (n : ℕ) → HasPlaces f h n → (f.area ≡ 0) ⊎ (area_home (with_code f h n f.code) ≡ area_home f)
arrays_stay f (home_of.Words c) n places = inl places.0
arrays_stay f (home_of.Temporaries t) n places = inr (omega arith)

pooled_pair : (f g : Function) (h : IsPooled f g) → IsPair h.home h.pool (fill f g h) f g
pooled_pair f g h = record {
  frame = ap frame_bytes h.is ∙ h.room.frame;
  area = ap (λ (x : Function). x.area) h.is;
  result = ap (λ (x : Function). x.gives) h.is;
  arrays = subst (λ (z : Function). (f.area ≡ 0) ⊎ (area_home z ≡ area_home f)) (sym h.is) (arrays_stay f h.home (length h.pool) h.room.places);
  start = filled_zero f g h;
  paid = (
      let near : nat_lt (frame_bytes g) 0x800 ≡ true = ap (λ n. nat_lt n 0x800) (ap frame_bytes h.is ∙ h.room.frame) ∙ lt-ltb (frame_bytes f) 0x800 h.room.near in
      let e : entry_cost_of g ≡ 16 = ap (λ b. if b then 16 else entry_cost) near in
      (let few = h.room.few in omega (arith, e, few)));
  counted = count f g h;
  few = fill_few f g h;
  each = position f g h;
}

pair_in : (f g : Function) (h : IsHoistedFunction f g) → IsPair (home_in f g h) (pool_in f g h) (fill_in f g h) f g
pair_in f g (stayed e) = subst (IsPair nowhere [] (λ i. 0) f) (sym e) (same_pair f)
pair_in f g (pooled h) = pooled_pair f g h

-- ---- functions by their numbers

abbrev homes_of : (fs gs : List Function) → AreHoisted fs gs → ℕ → Home
homes_of [] [] each k = nowhere
homes_of [] (g ∷ gs) each k = nowhere
homes_of (f ∷ fs) [] each k = nowhere
homes_of (f ∷ fs) (g ∷ gs) each zero = home_in f g each.0
homes_of (f ∷ fs) (g ∷ gs) each (suc k) = homes_of fs gs each.1 k

abbrev pools_of : (fs gs : List Function) → AreHoisted fs gs → ℕ → List ℕ
pools_of [] [] each k = []
pools_of [] (g ∷ gs) each k = []
pools_of (f ∷ fs) [] each k = []
pools_of (f ∷ fs) (g ∷ gs) each zero = pool_in f g each.0
pools_of (f ∷ fs) (g ∷ gs) each (suc k) = pools_of fs gs each.1 k

abbrev fills_of : (fs gs : List Function) → AreHoisted fs gs → ℕ → ℕ → ℕ
fills_of [] [] each k = λ i. 0
fills_of [] (g ∷ gs) each k = λ i. 0
fills_of (f ∷ fs) [] each k = λ i. 0
fills_of (f ∷ fs) (g ∷ gs) each zero = fill_in f g each.0
fills_of (f ∷ fs) (g ∷ gs) each (suc k) = fills_of fs gs each.1 k

abbrev no_function : Function
no_function = record { code = []; cells = 0; resident = 0; area = 0; outgoing = 0; gives = false }

-- both have a function of this number, or neither has
abbrev ArePair : Home → List ℕ → (ℕ → ℕ) → Option Function → Option Function → Type 0
ArePair home pool fill None None = IsPair home pool fill no_function no_function
ArePair home pool fill None (Some g) = ⊥
ArePair home pool fill (Some f) None = ⊥
ArePair home pool fill (Some f) (Some g) = IsPair home pool fill f g

pair_at : (fs gs : List Function) (each : AreHoisted fs gs) (k : ℕ) → ArePair (homes_of fs gs each k) (pools_of fs gs each k) (fills_of fs gs each k) (slice_get fs k) (slice_get gs k)
pair_at [] [] each k = same_pair no_function
pair_at [] (g ∷ gs) each k = absurd each
pair_at (f ∷ fs) [] each k = absurd each
pair_at (f ∷ fs) (g ∷ gs) each zero = pair_in f g each.0
pair_at (f ∷ fs) (g ∷ gs) each (suc k) = pair_at fs gs each.1 k

module _ (p q : Program) (each : AreHoisted p.functions q.functions) (same_statics : q.statics ≡ p.statics) (same_main : q.main ≡ p.main) where
  abbrev homes : ℕ → Home
  homes = homes_of p.functions q.functions each

  abbrev pools : ℕ → List ℕ
  pools = pools_of p.functions q.functions each

  abbrev fills : ℕ → ℕ → ℕ
  fills = fills_of p.functions q.functions each

  pair_of : (k : ℕ) (o o2 : Option Function) → slice_get p.functions k ≡ o → slice_get q.functions k ≡ o2 → ArePair (homes k) (pools k) (fills k) o o2 → IsPair (homes k) (pools k) (fills k) (function_at p k) (function_at q k)
  pair_of k None None e e2 is = rw (e, e2) is
  pair_of k None (Some g) e e2 is = absurd is
  pair_of k (Some f) None e e2 is = absurd is
  pair_of k (Some f) (Some g) e e2 is = rw (e, e2) is

  pair : (k : ℕ) → IsPair (homes k) (pools k) (fills k) (function_at p k) (function_at q k)
  pair k = pair_of k (slice_get p.functions k) (slice_get q.functions k) refl refl (pair_at p.functions q.functions each k)

  alike : AreAlike p q homes pools fills
  alike = record {
    statics = same_statics;
    main = same_main;
    frames = λ k. (pair k).frame;
    areas = λ k. (pair k).area;
    results = λ k. (pair k).result;
    arrays = λ k. (pair k).arrays;
    starts = λ k. (pair k).start;
    paid = λ k. (pair k).paid;
    count = λ k. (pair k).counted;
    few = λ k. (pair k).few;
    each = λ k. (pair k).each;
  }

-- ---- frames, bytes

frames_in : (fs gs : List Function) → AreHoisted fs gs → map frame_bytes gs ≡ map frame_bytes fs
frames_in [] [] each = refl
frames_in [] (g ∷ gs) each = absurd each
frames_in (f ∷ fs) [] each = absurd each
frames_in (f ∷ fs) (g ∷ gs) each =
    ap (λ n. n ∷ map frame_bytes gs) (pair_in f g each.0).frame ∙ ap (λ (ns : List ℕ). frame_bytes f ∷ ns) (frames_in fs gs each.1)

bytes_of_one : (f g : Function) → IsHoistedFunction f g → function_bytes_in g ≤ function_bytes f
bytes_of_one f g (stayed e) =
    let a = entry_least f in
    let same : function_bytes_in g ≡ function_bytes_in f = ap function_bytes_in e in
    omega (arith, a, same)
bytes_of_one f g (pooled h) = h.bytes

bytes_in : (fs gs : List Function) → AreHoisted fs gs → (k : ℕ) (f g : Function) → slice_get fs k ≡ Some f → slice_get gs k ≡ Some g → function_bytes_in g ≤ function_bytes f
bytes_in [] gs r k f g e e2 = absurd (no_item k f e)
bytes_in (x ∷ xs) [] r k f g e e2 = absurd r
bytes_in (x ∷ xs) (y ∷ ys) r zero f g e e2 =
    let one : x ≡ f = cc in
    let two : y ≡ g = cc in
    subst (λ (h : Function). function_bytes_in h ≤ function_bytes f) two (subst (λ (h : Function). function_bytes_in y ≤ function_bytes h) one (bytes_of_one x y r.0))
bytes_in (x ∷ xs) (y ∷ ys) r (suc k) f g e e2 = bytes_in xs ys r.1 k f g e e2

-- ---- soundness

-- a place of a constant is one that the function has
held_fits : (f : Function) (h : Home) (pool : List ℕ) (start : ℕ) → HasPlaces f h (length pool) → (n : ℕ) → n < length pool → OperandFits (with_words f h pool start) (held_in h n)
held_fits f (home_of.Words c) pool start places n lt = let same = places.1 in omega (arith, same, lt)
held_fits f (home_of.Temporaries t) pool start places n lt = omega (arith, places, lt)

place_fits : (f : Function) (h : Home) (pool : List ℕ) (start : ℕ) → HasPlaces f h (length pool) → (n : ℕ) → n < length pool → TargetFits (with_words f h pool start) (put_in h n)
place_fits f (home_of.Words c) pool start places n lt = let same = places.1 in omega (arith, same, lt)
place_fits f (home_of.Temporaries t) pool start places n lt = omega (arith, places, lt)

registers_few : (f : Function) (h : Home) (n : ℕ) → HasPlaces f h n → f.resident ≤ 12 → (with_code f h n f.code).resident ≤ 12
registers_few f (home_of.Words c) n places few = places.2
registers_few f (home_of.Temporaries t) n places few = few

registers_within : (f : Function) (h : Home) (n : ℕ) → f.resident ≤ f.cells → (with_code f h n f.code).resident ≤ f.cells + words_more h n
registers_within f (home_of.Words c) n all = omega arith
registers_within f (home_of.Temporaries t) n all = omega (arith, all)

module _ (n : ℕ) (f : Function) (h : Home) (pool : List ℕ) (start : ℕ) (words : (k w : ℕ) → slice_get pool k ≡ Some w → w < 2 ^ 32) (room : HasRoom f h (length pool)) where
  abbrev g : Function
  g = with_words f h pool start

  operand_fits : (x : Operand) → OperandFits f x → OperandFits g x
  operand_fits (operand.Temporary k) e = e
  operand_fits (operand.Cell c) e = omega (arith, e)
  operand_fits (operand.Constant v) e = e
  operand_fits (operand.Argument k) e = e

  target_fits : (d : Target) → TargetFits f d → TargetFits g d
  target_fits (target.Temporary k) e = e
  target_fits (target.Cell c) e = omega (arith, e)

  words_near : area_home g ≤ 0x800
  words_near = let same = room.frame in let near = room.near in omega (arith, same, near)

  base_fits : (b : Base) → BaseFits f b → BaseFits g b
  base_fits (base.Statics o) e = e
  base_fits (base.Frame o) e =
      let within = e.0 in
      let near = e.1 in
      (within, ⊎_elim (λ none. absurd (omega (arith, none, within))) (λ same. omega (arith, same, near)) (arrays_stay f h (length pool) room.places))

  index_fits : (y : Operand) → IndexFits f y → IndexFits g y
  index_fits (operand.Temporary k) e = e
  index_fits (operand.Cell c) e = omega (arith, e)
  index_fits (operand.Constant v) e = absurd e
  index_fits (operand.Argument k) e = absurd e

  location_fits : (l : Location) → LocationFits f l → LocationFits g l
  location_fits (location.Statics o) e = e
  location_fits (location.Frame o) e = e
  location_fits (location.At x) e = operand_fits x e
  location_fits (location.Indexed b y size) e = (base_fits b e.0, index_fits y e.1, e.2, words_near)

  word_fits : (k : ℕ) (xs : List ℕ) (v : ℕ) → k + length xs ≤ length pool → v < 2 ^ 32 → OperandFits g (word_for h k xs v)
  word_fits k [] v le e = e
  word_fits k (w ∷ xs) v le e = on (w == v) (word_fits (k + 1) xs v (omega (arith, le)) e)
    where
      on : (b : Bool) → OperandFits g (word_for h (k + 1) xs v) → OperandFits g (if b then held_in h k else word_for h (k + 1) xs v)
      on true more = held_fits f h pool start room.places k (omega (arith, le))
      on false more = more

  from_fits : (x : Operand) → OperandFits f x → OperandFits g (from_pool h pool x)
  from_fits (operand.Temporary k) e = e
  from_fits (operand.Cell c) e = omega (arith, e)
  from_fits (operand.Constant v) e = word_fits 0 pool v (omega arith) e
  from_fits (operand.Argument k) e = e

  jump_fits : (to : ℕ) → to < length f.code → to < length g.code
  jump_fits to e = let same = hoisted_length h pool start 0 0 f.code in omega (arith, e, same)

  with_fits : (x : Instruction) → InstructionFits n f x → InstructionFits n g (with_pool h pool x)
  with_fits instruction.Nothing e = tt
  with_fits (instruction.Move d x) e = (target_fits d e.0, from_fits x e.1)
  with_fits (instruction.Compute o d x y) e = (target_fits d e.0, from_fits x e.1, from_fits y e.2)
  with_fits (instruction.Convert c d x) e = (target_fits d e.0, operand_fits x e.1)
  with_fits (instruction.Load w d l) e = (target_fits d e.0, location_fits l e.1)
  with_fits (instruction.Store w x l) e = (from_fits x e.0, location_fits l e.1)
  with_fits (instruction.Address d l) e = (target_fits d e.0, location_fits l e.1)
  with_fits (instruction.Element d x y size) e = (target_fits d e.0, operand_fits x e.1, operand_fits y e.2, e.3)
  with_fits (instruction.Jump to) e = jump_fits to e
  with_fits (instruction.Branch t x y to) e = (from_fits x e.0, from_fits y e.1, jump_fits to e.2)
  with_fits (instruction.Call h) e = e
  with_fits instruction.PutByte e = tt
  with_fits instruction.GetByte e = tt
  with_fits instruction.Exit e = tt
  with_fits instruction.Return e = tt

  plain_fits : (x : Instruction) → InstructionFits n f x → InstructionFits n g x
  plain_fits instruction.Nothing e = tt
  plain_fits (instruction.Move d x) e = (target_fits d e.0, operand_fits x e.1)
  plain_fits (instruction.Compute o d x y) e = (target_fits d e.0, operand_fits x e.1, operand_fits y e.2)
  plain_fits (instruction.Convert c d x) e = (target_fits d e.0, operand_fits x e.1)
  plain_fits (instruction.Load w d l) e = (target_fits d e.0, location_fits l e.1)
  plain_fits (instruction.Store w x l) e = (operand_fits x e.0, location_fits l e.1)
  plain_fits (instruction.Address d l) e = (target_fits d e.0, location_fits l e.1)
  plain_fits (instruction.Element d x y size) e = (target_fits d e.0, operand_fits x e.1, operand_fits y e.2, e.3)
  plain_fits (instruction.Jump to) e = jump_fits to e
  plain_fits (instruction.Branch t x y to) e = (operand_fits x e.0, operand_fits y e.1, jump_fits to e.2)
  plain_fits (instruction.Call h) e = e
  plain_fits instruction.PutByte e = tt
  plain_fits instruction.GetByte e = tt
  plain_fits instruction.Exit e = tt
  plain_fits instruction.Return e = tt

  put_fits : (k : ℕ) (o : Option ℕ) → slice_get pool k ≡ o → InstructionFits n g (put_word h k o)
  put_fits k None e = tt
  put_fits k (Some w) e = let lt = slice_get_within pool k w e in (place_fits f h pool start room.places k lt, words k w e)

  one_fits : (k m : ℕ) (x : Instruction) → InstructionFits n f x → InstructionFits n g (hoisted_one h pool start k m x)
  one_fits k m x e = on (nat_lt k start) (is_nothing x)
    where
      on : (a b : Bool) → InstructionFits n g (if a then (if b then put_word h m (slice_get pool m) else x) else with_pool h pool x)
      on true true = put_fits m (slice_get pool m) refl
      on true false = plain_fits x e
      on false b = with_fits x e

  all_fit : (k m : ℕ) (xs : List Instruction) → ((i : ℕ) (x : Instruction) → slice_get xs i ≡ Some x → InstructionFits n f x) → (i : ℕ) (y : Instruction) → slice_get (hoisted h pool start k m xs) i ≡ Some y → InstructionFits n g y
  all_fit k m [] all i y e = absurd (no_item i y e)
  all_fit k m (x ∷ xs) all zero y e = let same : hoisted_one h pool start k m x ≡ y = cc in subst (InstructionFits n g) same (one_fits k m x (all 0 x refl))
  all_fit k m (x ∷ xs) all (suc i) y e = all_fit (k + 1) (next_filled (length pool) start k m x) xs (λ j. all (suc j)) i y e

function_fits : (n : ℕ) (f g : Function) → IsHoistedFunction f g → FunctionFits n f → FunctionFits n g
function_fits n f g (stayed e) fits = subst (FunctionFits n) (sym e) fits
function_fits n f g (pooled h) fits =
    let same : frame_bytes (with_words f h.home h.pool h.start) ≡ frame_bytes f = h.room.frame in
    let whole : FunctionFits n (with_words f h.home h.pool h.start) = record {
      small = (let a = fits.small in omega (arith, a, same));
      few = registers_few f h.home (length h.pool) h.room.places fits.few;
      all = registers_within f h.home (length h.pool) fits.all;
      each = all_fit n f h.home h.pool h.start h.words h.room 0 0 f.code fits.each;
    } in
    subst (FunctionFits n) (sym h.is) whole

each_fits : (n : ℕ) (fs gs : List Function) → AreHoisted fs gs → ((k : ℕ) (f : Function) → slice_get fs k ≡ Some f → FunctionFits n f) → (k : ℕ) (g : Function) → slice_get gs k ≡ Some g → FunctionFits n g
each_fits n [] [] r fit k g e = absurd (no_item k g e)
each_fits n [] (y ∷ ys) r fit k g e = absurd r
each_fits n (x ∷ xs) [] r fit k g e = absurd r
each_fits n (x ∷ xs) (y ∷ ys) r fit zero g e = let same : y ≡ g = cc in subst (FunctionFits n) same (function_fits n x y r.0 (fit zero x refl))
each_fits n (x ∷ xs) (y ∷ ys) r fit (suc k) g e = each_fits n xs ys r.1 (λ j. fit (suc j)) k g e

same_count : (fs gs : List Function) → AreHoisted fs gs → length gs ≡ length fs
same_count [] [] r = refl
same_count [] (g ∷ gs) r = absurd r
same_count (f ∷ fs) [] r = absurd r
same_count (f ∷ fs) (g ∷ gs) r = ap suc (same_count fs gs r.1)

same_places : (fs gs : List Function) → AreHoisted fs gs → places_of gs ≡ places_of fs
same_places [] [] r = refl
same_places [] (g ∷ gs) r = absurd r
same_places (f ∷ fs) [] r = absurd r
same_places (f ∷ fs) (g ∷ gs) r =
    let one : length g.code ≡ length f.code = (pair_in f g r.0).counted in
    omega (arith, one, same_places fs gs r.1, sum_by-cons (λ (h : Function). length h.code + 1) f fs, sum_by-cons (λ (h : Function). length h.code + 1) g gs)

stays_sound : (p q : Program) → AreHoisted p.functions q.functions → q.statics ≡ p.statics → q.main ≡ p.main → IsSoundProgram p → IsSoundProgram q
stays_sound p q each statics main sound =
    let count = same_count p.functions q.functions each in
    let places = same_places p.functions q.functions each in
    record {
      has_main = omega (arith, count, main, sound.has_main);
      each = λ k g e. subst (λ n. FunctionFits n g) (sym count) (each_fits (length p.functions) p.functions q.functions each sound.each k g e);
      statics = subst (λ xs. length xs ≤ 0x10000000) (sym statics) sound.statics;
      countable = omega (arith, count, places, sound.countable);
    }

pub is_optimised : (p q : Program) → AreHoisted p.functions q.functions → q.statics ≡ p.statics → q.main ≡ p.main → IsOptimised p q
is_optimised p q each statics main =
    let r = alike p q each statics main in
    let home = homes_of p.functions q.functions each in
    let pool = pools_of p.functions q.functions each in
    let filled_by = fills_of p.functions q.functions each in
    record {
      runs = runs p q home pool filled_by r;
      at_calls = at_calls p q home pool filled_by r;
      costs = costs p q home pool filled_by r;
      frames = frames_in p.functions q.functions each;
      bytes = bytes_in p.functions q.functions each;
      sound = stays_sound p q each statics main;
      statics = statics;
      main = main;
    }
