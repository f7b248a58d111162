-- A program of functions with words in temporaries does what the program does, at no more cost, and is as sound.
use Rattle.std.proofs.Common.{◌≡◌, ◌≤◌, ◌<◌, inl, inr, ℕ, zero, suc, ◌+◌, List, [], ◌∷◌, length, map, Option, Some, None, Bool, true, false, refl, sym, ap, ◌∙◌, subst, arith}
use Rattle.std.specs.Prelude.{◌==◌, ◌&&◌, if◌then◌else◌, nat_lt, max, sum_by, slice_get}
use Rattle.std.specs.List.{list_all}
use Rattle.std.proofs.lemmas.Bool.{ltb-true}
use Rattle.std.proofs.lemmas.List.{length-map}
use Rattle.std.proofs.lemmas.List.Sums.{sum_by-cons}
use Rattle.frames_code.specs.declared.code.Operand.{Operand}
use Rattle.frames_code.specs.declared.code.Operand.TheVariants as operand
use Rattle.frames_code.specs.declared.code.Target.{Target}
use Rattle.frames_code.specs.declared.code.Target.TheVariants as target
use Rattle.frames_code.specs.declared.code.Base.{Base}
use Rattle.frames_code.specs.declared.code.Base.TheVariants as base
use Rattle.frames_code.specs.declared.code.Location.{Location}
use Rattle.frames_code.specs.declared.code.Location.TheVariants as location
use Rattle.frames_code.specs.declared.code.Instruction.{Instruction}
use Rattle.frames_code.specs.declared.code.Instruction.TheVariants as instruction
use Rattle.frames_code.specs.Code.{Function, Program, frame_bytes}
use Rattle.frames_code.specs.Costs.{entry_cost_of}
use Rattle.frames_code.specs.Run.{function_at}
use Rattle.frames_code.specs.Sound.{OperandFits, TargetFits, BaseFits, IndexFits, LocationFits, InstructionFits, FunctionFits, IsSoundProgram, places_of}
use Rattle.frames.specs.Costs.{temporary_bytes, fetch_bytes, keep_bytes, move_bytes, reach_bytes, reference_bytes, code_bytes, function_bytes_in}
use Rattle.frames_leaf.specs.Allocated.{IsAllocated}
use Rattle.frames_leaf.specs.layer.Moving.{names_below, writes_below, lies_below, is_leaf, home_of, operand_in, target_in, moved_operand, moved_target, moved_location, moved}
use Rattle.frames_leaf.specs.layer.Functions.{with_code, IsLeafAllocated, stayed, changed, AreLeafAllocated}
use Rattle.frames_leaf.proofs.Agreeing.{OperandNamed, TargetNamed, LocationNamed, IsNamed, AreAlike}
use Rattle.frames_leaf.proofs.Running.{runs, costs, at_calls}

-- ---- tests

abbrev IsNo : Bool → Type 0
IsNo true = ⊥
IsNo false = Unit {0}

not_true : false ≡ true → ⊥
not_true e = subst IsNo e tt

left_true : (a b : Bool) → (a && b) ≡ true → a ≡ true
left_true true b e = refl
left_true false b e = absurd (not_true e)

right_true : (a b : Bool) → (a && b) ≡ true → b ≡ true
right_true true b e = e
right_true false b e = absurd (not_true e)

no_item : {A : Type 0} (i : ℕ) (x : A) → slice_get [] i ≡ Some x → ⊥
no_item i x e = cc

all_at : {A : Type 0} (f : A → Bool) (xs : List A) (i : ℕ) (x : A) → list_all f xs ≡ true → slice_get xs i ≡ Some x → f x ≡ true
all_at f [] i x h e = absurd (no_item i x e)
all_at f (y ∷ ys) zero x h e = let same : y ≡ x = cc in ap f (sym same) ∙ left_true (f y) (list_all f ys) h
all_at f (y ∷ ys) (suc i) x h e = all_at f ys i x (right_true (f y) (list_all f ys) h) e

-- ---- what an instruction of a leaf function names

module _ (t : ℕ) (words : List ℕ) (some : 0 < t) where
  operand_named : (x : Operand) → names_below t x ≡ true → OperandNamed t words x
  operand_named (operand.Temporary k) e = inr (ltb-true k t e)
  operand_named (operand.Cell c) e = tt
  operand_named (operand.Constant v) e = tt
  operand_named (operand.Argument k) e = tt

  target_named : (d : Target) → writes_below t d ≡ true → TargetNamed t words d
  target_named (target.Temporary k) e = inr (ltb-true k t e)
  target_named (target.Cell c) e = tt

  location_named : (l : Location) → lies_below t l ≡ true → LocationNamed t words l
  location_named (location.Statics o) e = tt
  location_named (location.Frame o) e = tt
  location_named (location.At x) e = operand_named x e
  location_named (location.Indexed b y size) e = operand_named y e

  leaf_named : (x : Instruction) → is_leaf t x ≡ true → IsNamed t words x
  leaf_named instruction.Nothing e = tt
  leaf_named (instruction.Move d x) e = (target_named d (left_true (writes_below t d) (names_below t x) e), operand_named x (right_true (writes_below t d) (names_below t x) e))
  leaf_named (instruction.Compute o d x y) e =
      let more = right_true (writes_below t d) (names_below t x && names_below t y) e in
      (target_named d (left_true (writes_below t d) (names_below t x && names_below t y) e), operand_named x (left_true (names_below t x) (names_below t y) more), operand_named y (right_true (names_below t x) (names_below t y) more))
  leaf_named (instruction.Convert c d x) e = (target_named d (left_true (writes_below t d) (names_below t x) e), operand_named x (right_true (writes_below t d) (names_below t x) e))
  leaf_named (instruction.Load w d l) e = (target_named d (left_true (writes_below t d) (lies_below t l) e), location_named l (right_true (writes_below t d) (lies_below t l) e))
  leaf_named (instruction.Store w x l) e = (operand_named x (left_true (names_below t x) (lies_below t l) e), location_named l (right_true (names_below t x) (lies_below t l) e))
  leaf_named (instruction.Address d l) e = (target_named d (left_true (writes_below t d) (lies_below t l) e), location_named l (right_true (writes_below t d) (lies_below t l) e))
  leaf_named (instruction.Element d x y size) e =
      let more = right_true (writes_below t d) (names_below t x && names_below t y) e in
      (target_named d (left_true (writes_below t d) (names_below t x && names_below t y) e), operand_named x (left_true (names_below t x) (names_below t y) more), operand_named y (right_true (names_below t x) (names_below t y) more))
  leaf_named (instruction.Jump to) e = tt
  leaf_named (instruction.Branch b x y to) e = (operand_named x (left_true (names_below t x) (names_below t y) e), operand_named y (right_true (names_below t x) (names_below t y) e))
  leaf_named (instruction.Call f) e = absurd (not_true e)
  leaf_named instruction.PutByte e = absurd (not_true e)
  leaf_named instruction.GetByte e = absurd (not_true e)
  leaf_named instruction.Exit e = inr some
  leaf_named instruction.Return e = inr some

-- ---- a function that stays

operand_plain : (x : Operand) → OperandNamed 0 [] x
operand_plain (operand.Temporary k) = inl refl
operand_plain (operand.Cell c) = tt
operand_plain (operand.Constant v) = tt
operand_plain (operand.Argument k) = tt

target_plain : (d : Target) → TargetNamed 0 [] d
target_plain (target.Temporary k) = inl refl
target_plain (target.Cell c) = tt

location_plain : (l : Location) → LocationNamed 0 [] l
location_plain (location.Statics o) = tt
location_plain (location.Frame o) = tt
location_plain (location.At x) = operand_plain x
location_plain (location.Indexed b y size) = operand_plain y

plain_named : (x : Instruction) → IsNamed 0 [] x
plain_named instruction.Nothing = tt
plain_named (instruction.Move d x) = (target_plain d, operand_plain x)
plain_named (instruction.Compute o d x y) = (target_plain d, operand_plain x, operand_plain y)
plain_named (instruction.Convert c d x) = (target_plain d, operand_plain x)
plain_named (instruction.Load w d l) = (target_plain d, location_plain l)
plain_named (instruction.Store w x l) = (operand_plain x, location_plain l)
plain_named (instruction.Address d l) = (target_plain d, location_plain l)
plain_named (instruction.Element d x y size) = (target_plain d, operand_plain x, operand_plain y)
plain_named (instruction.Jump to) = tt
plain_named (instruction.Branch b x y to) = (operand_plain x, operand_plain y)
plain_named (instruction.Call f) = refl
plain_named instruction.PutByte = refl
plain_named instruction.GetByte = refl
plain_named instruction.Exit = inl refl
plain_named instruction.Return = inl refl

operand_same : (x : Operand) → moved_operand 0 [] x ≡ x
operand_same (operand.Temporary k) = refl
operand_same (operand.Cell c) = refl
operand_same (operand.Constant v) = refl
operand_same (operand.Argument k) = refl

target_same : (d : Target) → moved_target 0 [] d ≡ d
target_same (target.Temporary k) = refl
target_same (target.Cell c) = refl

location_same : (l : Location) → moved_location 0 [] l ≡ l
location_same (location.Statics o) = refl
location_same (location.Frame o) = refl
location_same (location.At x) = ap location.At (operand_same x)
location_same (location.Indexed b y size) = ap (λ z. location.Indexed b z size) (operand_same y)

plain_same : (x : Instruction) → moved 0 [] x ≡ x
plain_same instruction.Nothing = refl
plain_same (instruction.Move d x) = rw (target_same d, operand_same x) refl
plain_same (instruction.Compute o d x y) = rw (target_same d, operand_same x, operand_same y) refl
plain_same (instruction.Convert c d x) = rw (target_same d, operand_same x) refl
plain_same (instruction.Load w d l) = rw (target_same d, location_same l) refl
plain_same (instruction.Store w x l) = rw (operand_same x, location_same l) refl
plain_same (instruction.Address d l) = rw (target_same d, location_same l) refl
plain_same (instruction.Element d x y size) = rw (target_same d, operand_same x, operand_same y) refl
plain_same (instruction.Jump to) = refl
plain_same (instruction.Branch b x y to) = rw (operand_same x, operand_same y) refl
plain_same (instruction.Call f) = refl
plain_same instruction.PutByte = refl
plain_same instruction.GetByte = refl
plain_same instruction.Exit = refl
plain_same instruction.Return = refl

all_same : (xs : List Instruction) → map (moved 0 []) xs ≡ xs
all_same [] = refl
all_same (x ∷ xs) = ap (λ y. y ∷ map (moved 0 []) xs) (plain_same x) ∙ ap (λ (ys : List Instruction). x ∷ ys) (all_same xs)

-- ---- one function

abbrev first_in : (f g : Function) → IsLeafAllocated f g → ℕ
first_in f g (stayed e) = 0
first_in f g (changed h) = h.first

abbrev words_in : (f g : Function) → IsLeafAllocated f g → List ℕ
words_in f g (stayed e) = []
words_in f g (changed h) = h.words

record IsPair (t : ℕ) (words : List ℕ) (f g : Function) : Type 0 where
  pub is : g ≡ with_code f (map (moved t words) f.code)
  pub named : (i : ℕ) (x : Instruction) → slice_get f.code i ≡ Some x → IsNamed t words x

same_pair : (f : Function) → IsPair 0 [] f f
same_pair f = record { is = ap (with_code f) (sym (all_same f.code)); named = λ i x e. plain_named x }

pair_in : (f g : Function) (h : IsLeafAllocated f g) → IsPair (first_in f g h) (words_in f g h) f g
pair_in f g (stayed e) = subst (IsPair 0 [] f) (sym e) (same_pair f)
pair_in f g (changed h) = record { is = h.is; named = λ i x e. leaf_named h.first h.words h.past_result x (all_at (is_leaf h.first) f.code i x h.leaf e) }

-- ---- functions by their numbers

abbrev firsts_of : (fs gs : List Function) → AreLeafAllocated fs gs → ℕ → ℕ
firsts_of [] [] each k = 0
firsts_of [] (g ∷ gs) each k = 0
firsts_of (f ∷ fs) [] each k = 0
firsts_of (f ∷ fs) (g ∷ gs) each zero = first_in f g each.0
firsts_of (f ∷ fs) (g ∷ gs) each (suc k) = firsts_of fs gs each.1 k

abbrev words_of : (fs gs : List Function) → AreLeafAllocated fs gs → ℕ → List ℕ
words_of [] [] each k = []
words_of [] (g ∷ gs) each k = []
words_of (f ∷ fs) [] each k = []
words_of (f ∷ fs) (g ∷ gs) each zero = words_in f g each.0
words_of (f ∷ fs) (g ∷ gs) each (suc k) = words_of fs gs each.1 k

abbrev no_function : Function
no_function = record { code = []; cells = 0; resident = 0; area = 0; outgoing = 0; gives = false }

-- both have a function of this number, or neither has
abbrev ArePair : ℕ → List ℕ → Option Function → Option Function → Type 0
ArePair t words None None = IsPair t words no_function no_function
ArePair t words None (Some g) = ⊥
ArePair t words (Some f) None = ⊥
ArePair t words (Some f) (Some g) = IsPair t words f g

pair_at : (fs gs : List Function) (each : AreLeafAllocated fs gs) (k : ℕ) → ArePair (firsts_of fs gs each k) (words_of fs gs each k) (slice_get fs k) (slice_get gs k)
pair_at [] [] each k = same_pair no_function
pair_at [] (g ∷ gs) each k = absurd each
pair_at (f ∷ fs) [] each k = absurd each
pair_at (f ∷ fs) (g ∷ gs) each zero = pair_in f g each.0
pair_at (f ∷ fs) (g ∷ gs) each (suc k) = pair_at fs gs each.1 k

module _ (p q : Program) (each : AreLeafAllocated p.functions q.functions) (same_statics : q.statics ≡ p.statics) (same_main : q.main ≡ p.main) where
  abbrev firsts : ℕ → ℕ
  firsts = firsts_of p.functions q.functions each

  abbrev words : ℕ → List ℕ
  words = words_of p.functions q.functions each

  pair_of : (k : ℕ) (o o2 : Option Function) → slice_get p.functions k ≡ o → slice_get q.functions k ≡ o2 → ArePair (firsts k) (words k) o o2 → IsPair (firsts k) (words k) (function_at p k) (function_at q k)
  pair_of k None None e e2 is = rw (e, e2) is
  pair_of k None (Some g) e e2 is = absurd is
  pair_of k (Some f) None e e2 is = absurd is
  pair_of k (Some f) (Some g) e e2 is = rw (e, e2) is

  pair : (k : ℕ) → IsPair (firsts k) (words k) (function_at p k) (function_at q k)
  pair k = pair_of k (slice_get p.functions k) (slice_get q.functions k) refl refl (pair_at p.functions q.functions each k)

  alike : AreAlike p q firsts words
  alike = record { statics = same_statics; main = same_main; at = λ k. (pair k).is; each = λ k. (pair k).named }

-- ---- frames, bytes

frames_in : (fs gs : List Function) → AreLeafAllocated fs gs → map frame_bytes gs ≡ map frame_bytes fs
frames_in [] [] each = refl
frames_in [] (g ∷ gs) each = absurd each
frames_in (f ∷ fs) [] each = absurd each
frames_in (f ∷ fs) (g ∷ gs) each = ap (λ n. n ∷ map frame_bytes gs) (ap frame_bytes (pair_in f g each.0).is) ∙ ap (λ (ns : List ℕ). frame_bytes f ∷ ns) (frames_in fs gs each.1)

temporary_least : (k : ℕ) → temporary_bytes k ≤ 12
temporary_least k = on (nat_lt k 8)
  where
    on : (b : Bool) → (if b then 0 else 12) ≤ 12
    on true = omega arith
    on false = omega arith

module _ (t : ℕ) (words : List ℕ) where
  word_fetched : (c : ℕ) (o : Option ℕ) → fetch_bytes (operand_in c o) ≤ 12
  word_fetched c None = omega arith
  word_fetched c (Some k) = temporary_least k

  word_kept : (c : ℕ) (o : Option ℕ) → keep_bytes (target_in c o) ≤ 12
  word_kept c None = omega arith
  word_kept c (Some k) = temporary_least k

  fetched : (x : Operand) → fetch_bytes (moved_operand t words x) ≤ fetch_bytes x
  fetched (operand.Temporary k) = omega arith
  fetched (operand.Cell c) = word_fetched c (home_of t words c)
  fetched (operand.Constant v) = omega arith
  fetched (operand.Argument k) = omega arith

  kept : (d : Target) → keep_bytes (moved_target t words d) ≤ keep_bytes d
  kept (target.Temporary k) = omega arith
  kept (target.Cell c) = word_kept c (home_of t words c)

  most : (a b c : ℕ) → a ≤ b → max c a ≤ max c b
  most a b c le = omega (arith, le)

  moved_less : (d : Target) (x : Operand) → move_bytes (moved_target t words d) (moved_operand t words x) ≤ move_bytes d x
  moved_less d x =
      let a = fetched x in
      let b = kept d in
      most (fetch_bytes (moved_operand t words x) + keep_bytes (moved_target t words d)) (fetch_bytes x + keep_bytes d) 4 (omega (arith, a, b))

  reached_less : (l : Location) → reach_bytes (moved_location t words l) ≤ reach_bytes l
  reached_less (location.Statics o) = omega arith
  reached_less (location.Frame o) = omega arith
  reached_less (location.At x) = fetched x
  reached_less (location.Indexed b y size) = let a = fetched y in omega (arith, a)

  referred_less : (d : Target) (l : Location) → reference_bytes (moved_target t words d) (moved_location t words l) ≤ reference_bytes d l
  referred_less d (location.Statics o) = let b = kept d in omega (arith, b)
  referred_less d (location.Frame o) = let b = kept d in omega (arith, b)
  referred_less d (location.At x) = moved_less d x
  referred_less d (location.Indexed b y size) = let a = fetched y in let c = kept d in omega (arith, a, c)

  code_less : (x : Instruction) → code_bytes (moved t words x) ≤ code_bytes x
  code_less instruction.Nothing = omega arith
  code_less (instruction.Move d x) = moved_less d x
  code_less (instruction.Compute o d x y) = let a = fetched x in let b = fetched y in let c = kept d in omega (arith, a, b, c)
  code_less (instruction.Convert c d x) = let a = fetched x in let b = kept d in omega (arith, a, b)
  code_less (instruction.Load w d l) = let a = reached_less l in let b = kept d in omega (arith, a, b)
  code_less (instruction.Store w x l) = let a = fetched x in let b = reached_less l in omega (arith, a, b)
  code_less (instruction.Address d l) = referred_less d l
  code_less (instruction.Element d x y size) = let a = fetched x in let b = fetched y in let c = kept d in omega (arith, a, b, c)
  code_less (instruction.Jump to) = omega arith
  code_less (instruction.Branch b x y to) = let a = fetched x in let c = fetched y in omega (arith, a, c)
  code_less (instruction.Call f) = omega arith
  code_less instruction.PutByte = omega arith
  code_less instruction.GetByte = omega arith
  code_less instruction.Exit = omega arith
  code_less instruction.Return = omega arith

  all_less : (xs : List Instruction) → sum_by code_bytes (map (moved t words) xs) ≤ sum_by code_bytes xs
  all_less [] = omega arith
  all_less (x ∷ xs) =
      let a = code_less x in
      let b = all_less xs in
      omega (arith, a, b, sum_by-cons code_bytes x xs, sum_by-cons code_bytes (moved t words x) (map (moved t words) xs))

bytes_of_one : (f g : Function) → IsLeafAllocated f g → function_bytes_in g ≤ function_bytes_in f
bytes_of_one f g h =
    let pair = pair_in f g h in
    let t = first_in f g h in
    let words = words_in f g h in
    let entry : entry_cost_of g ≡ entry_cost_of f = ap entry_cost_of pair.is in
    let code : sum_by code_bytes g.code ≡ sum_by code_bytes (map (moved t words) f.code) = ap (λ (x : Function). sum_by code_bytes x.code) pair.is in
    let less = all_less t words f.code in
    omega (arith, entry, code, less)

bytes_in : (fs gs : List Function) → AreLeafAllocated fs gs → (k : ℕ) (f g : Function) → slice_get fs k ≡ Some f → slice_get gs k ≡ Some g → function_bytes_in g ≤ function_bytes_in f
bytes_in [] gs r k f g e e2 = absurd (no_item k f e)
bytes_in (x ∷ xs) [] r k f g e e2 = absurd r
bytes_in (x ∷ xs) (y ∷ ys) r zero f g e e2 =
    let one : x ≡ f = cc in
    let two : y ≡ g = cc in
    subst (λ (h : Function). function_bytes_in h ≤ function_bytes_in f) two (subst (λ (h : Function). function_bytes_in y ≤ function_bytes_in h) one (bytes_of_one x y r.0))
bytes_in (x ∷ xs) (y ∷ ys) r (suc k) f g e e2 = bytes_in xs ys r.1 k f g e e2

-- ---- soundness

within : (t : ℕ) (words : List ℕ) (c u : ℕ) → home_of t words c ≡ Some u → u < t + length words
within t [] c u e = absurd (let z : ⊥ = cc in z)
within t (w ∷ words) c u e = on (within (t + 1) words c u) (w == c) refl
  where
    same_some : (a b : ℕ) → Some a ≡ Some b → a ≡ b
    same_some a b h = cc

    on : (home_of (t + 1) words c ≡ Some u → u < t + 1 + length words) → (b : Bool) → (w == c) ≡ b → u < t + suc (length words)
    on later true g = let same : t ≡ u = same_some t u (ap (λ b. if b then Some t else home_of (t + 1) words c) (sym g) ∙ e) in omega (arith, same)
    on later false g = let lt = later (ap (λ b. if b then Some t else home_of (t + 1) words c) (sym g) ∙ e) in omega (arith, lt)

module _ (n : ℕ) (f : Function) (t : ℕ) (words : List ℕ) (few : t + length words ≤ 8) where
  abbrev g : Function
  g = with_code f (map (moved t words) f.code)

  word_fits : (c : ℕ) (o : Option ℕ) → home_of t words c ≡ o → c < f.cells → OperandFits g (operand_in c o)
  word_fits c None e le = le
  word_fits c (Some u) e le = let lt = within t words c u e in omega (arith, lt, few)

  home_fits : (c : ℕ) (o : Option ℕ) → home_of t words c ≡ o → c < f.cells → TargetFits g (target_in c o)
  home_fits c None e le = le
  home_fits c (Some u) e le = let lt = within t words c u e in omega (arith, lt, few)

  operand_fits : (x : Operand) → OperandFits f x → OperandFits g (moved_operand t words x)
  operand_fits (operand.Temporary k) e = e
  operand_fits (operand.Cell c) e = word_fits c (home_of t words c) refl e
  operand_fits (operand.Constant v) e = e
  operand_fits (operand.Argument k) e = e

  target_fits : (d : Target) → TargetFits f d → TargetFits g (moved_target t words d)
  target_fits (target.Temporary k) e = e
  target_fits (target.Cell c) e = home_fits c (home_of t words c) refl e

  base_fits : (b : Base) → BaseFits f b → BaseFits g b
  base_fits (base.Statics o) e = e
  base_fits (base.Frame o) e = e

  index_in : (c : ℕ) (o : Option ℕ) → home_of t words c ≡ o → c < f.cells → IndexFits g (operand_in c o)
  index_in c None e le = le
  index_in c (Some u) e le = let lt = within t words c u e in omega (arith, lt, few)

  index_fits : (y : Operand) → IndexFits f y → IndexFits g (moved_operand t words y)
  index_fits (operand.Temporary k) e = e
  index_fits (operand.Cell c) e = index_in c (home_of t words c) refl e
  index_fits (operand.Constant v) e = absurd e
  index_fits (operand.Argument k) e = absurd e

  location_fits : (l : Location) → LocationFits f l → LocationFits g (moved_location t words l)
  location_fits (location.Statics o) e = e
  location_fits (location.Frame o) e = e
  location_fits (location.At x) e = operand_fits x e
  location_fits (location.Indexed b y size) e = (base_fits b e.0, index_fits y e.1, e.2, e.3)

  jump_fits : (to : ℕ) → to < length f.code → to < length g.code
  jump_fits to e = let same = length-map f.code (moved t words) in omega (arith, e, same)

  moved_fits : (x : Instruction) → InstructionFits n f x → InstructionFits n g (moved t words x)
  moved_fits instruction.Nothing e = tt
  moved_fits (instruction.Move d x) e = (target_fits d e.0, operand_fits x e.1)
  moved_fits (instruction.Compute o d x y) e = (target_fits d e.0, operand_fits x e.1, operand_fits y e.2)
  moved_fits (instruction.Convert c d x) e = (target_fits d e.0, operand_fits x e.1)
  moved_fits (instruction.Load w d l) e = (target_fits d e.0, location_fits l e.1)
  moved_fits (instruction.Store w x l) e = (operand_fits x e.0, location_fits l e.1)
  moved_fits (instruction.Address d l) e = (target_fits d e.0, location_fits l e.1)
  moved_fits (instruction.Element d x y size) e = (target_fits d e.0, operand_fits x e.1, operand_fits y e.2, e.3)
  moved_fits (instruction.Jump to) e = jump_fits to e
  moved_fits (instruction.Branch b x y to) e = (operand_fits x e.0, operand_fits y e.1, jump_fits to e.2)
  moved_fits (instruction.Call h) e = e
  moved_fits instruction.PutByte e = tt
  moved_fits instruction.GetByte e = tt
  moved_fits instruction.Exit e = tt
  moved_fits instruction.Return e = tt

  all_fit : (xs : List Instruction) → ((i : ℕ) (x : Instruction) → slice_get xs i ≡ Some x → InstructionFits n f x) → (i : ℕ) (y : Instruction) → slice_get (map (moved t words) xs) i ≡ Some y → InstructionFits n g y
  all_fit [] all i y e = absurd (no_item i y e)
  all_fit (x ∷ xs) all zero y e = let same : moved t words x ≡ y = cc in subst (InstructionFits n g) same (moved_fits x (all 0 x refl))
  all_fit (x ∷ xs) all (suc i) y e = all_fit xs (λ j. all (suc j)) i y e

function_fits : (n : ℕ) (f g : Function) → IsLeafAllocated f g → FunctionFits n f → FunctionFits n g
function_fits n f g (stayed e) fits = subst (FunctionFits n) (sym e) fits
function_fits n f g (changed h) fits =
    let whole : FunctionFits n (with_code f (map (moved h.first h.words) f.code)) = record {
      small = fits.small;
      few = fits.few;
      all = fits.all;
      each = all_fit n f h.first h.words h.registers f.code fits.each;
    } in
    subst (FunctionFits n) (sym h.is) whole

each_fits : (n : ℕ) (fs gs : List Function) → AreLeafAllocated fs gs → ((k : ℕ) (f : Function) → slice_get fs k ≡ Some f → FunctionFits n f) → (k : ℕ) (g : Function) → slice_get gs k ≡ Some g → FunctionFits n g
each_fits n [] [] r fit k g e = absurd (no_item k g e)
each_fits n [] (y ∷ ys) r fit k g e = absurd r
each_fits n (x ∷ xs) [] r fit k g e = absurd r
each_fits n (x ∷ xs) (y ∷ ys) r fit zero g e = let same : y ≡ g = cc in subst (FunctionFits n) same (function_fits n x y r.0 (fit zero x refl))
each_fits n (x ∷ xs) (y ∷ ys) r fit (suc k) g e = each_fits n xs ys r.1 (λ j. fit (suc j)) k g e

same_count : (fs gs : List Function) → AreLeafAllocated fs gs → length gs ≡ length fs
same_count [] [] r = refl
same_count [] (g ∷ gs) r = absurd r
same_count (f ∷ fs) [] r = absurd r
same_count (f ∷ fs) (g ∷ gs) r = ap suc (same_count fs gs r.1)

code_count : (f g : Function) → IsLeafAllocated f g → length g.code ≡ length f.code
code_count f g h = ap (λ (x : Function). length x.code) (pair_in f g h).is ∙ length-map f.code (moved (first_in f g h) (words_in f g h))

same_places : (fs gs : List Function) → AreLeafAllocated fs gs → places_of gs ≡ places_of fs
same_places [] [] r = refl
same_places [] (g ∷ gs) r = absurd r
same_places (f ∷ fs) [] r = absurd r
same_places (f ∷ fs) (g ∷ gs) r =
    let one : length g.code ≡ length f.code = code_count f g r.0 in
    omega (arith, one, same_places fs gs r.1, sum_by-cons (λ (h : Function). length h.code + 1) f fs, sum_by-cons (λ (h : Function). length h.code + 1) g gs)

stays_sound : (p q : Program) → AreLeafAllocated p.functions q.functions → q.statics ≡ p.statics → q.main ≡ p.main → IsSoundProgram p → IsSoundProgram q
stays_sound p q each statics main sound =
    let count = same_count p.functions q.functions each in
    let places = same_places p.functions q.functions each in
    record {
      has_main = omega (arith, count, main, sound.has_main);
      each = λ k g e. subst (λ n. FunctionFits n g) (sym count) (each_fits (length p.functions) p.functions q.functions each sound.each k g e);
      statics = subst (λ xs. length xs ≤ 0x10000000) (sym statics) sound.statics;
      countable = omega (arith, count, places, sound.countable);
    }

pub is_allocated : (p q : Program) → AreLeafAllocated p.functions q.functions → q.statics ≡ p.statics → q.main ≡ p.main → IsAllocated p q
is_allocated p q each statics main =
    let r = alike p q each statics main in
    let first = firsts_of p.functions q.functions each in
    let words = words_of p.functions q.functions each in
    record {
      runs = runs p q first words r;
      at_calls = at_calls p q first words r;
      costs = costs p q first words r;
      frames = frames_in p.functions q.functions each;
      bytes = bytes_in p.functions q.functions each;
      sound = stays_sound p q each statics main;
      statics = statics;
      main = main;
    }
