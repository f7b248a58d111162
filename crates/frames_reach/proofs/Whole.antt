-- A program without unreachable code is simplified.
use Rattle.std.proofs.Common.{◌≡◌, ◌≤◌, ℕ, zero, suc, ◌+◌, List, [], ◌∷◌, length, map, Some, None, Bool, true, false, refl, sym, ap, ◌∙◌, subst, arith}
use Rattle.std.specs.Prelude.{slice_get, sum_by, if◌then◌else◌}
use Rattle.std.proofs.lemmas.List.Sums.{sum_by-cons}
use Rattle.frames_code.specs.declared.code.Instruction.{Instruction}
use Rattle.frames_code.specs.declared.code.Instruction.TheVariants as instruction
use Rattle.frames_code.specs.Code.{Function, Program, frame_bytes}
use Rattle.frames_code.specs.Run.{function_at}
use Rattle.frames_code.specs.Sound.{InstructionFits, FunctionFits, IsSoundProgram, places_of}
use Rattle.frames.specs.Costs.{code_bytes}
use Rattle.frames_opt.specs.Simplified.{IsSimplified}
use Rattle.frames_opt.specs.layer.Functions.{with_code}
use Rattle.frames_opt.proofs.Alike.{left_true, right_true}
use Rattle.frames_reach.specs.layer.Functions.{is_marked, leads, is_right, are_right, kept, all_kept, IsReachedFunction, AreReached}
use Rattle.frames_reach.proofs.Running.{IsReached, runs, costs, at_calls}

-- ---- code

-- instruction k + i, where the marks of the first are those of number k
right_at : (marks : List Bool) (k : ℕ) (xs : List Instruction) → are_right marks k xs ≡ true → (i : ℕ) (x : Instruction) → slice_get xs i ≡ Some x → is_right marks (k + i) x ≡ true
right_at marks k [] right i x e = absurd (let no : ⊥ = cc in no)
right_at marks k (y ∷ ys) right zero x e =
    let same : y ≡ x = cc in
    let here : k ≡ k + 0 = omega arith in
    subst (λ j. is_right marks j x ≡ true) here (subst (λ z. is_right marks k z ≡ true) same (left_true (is_right marks k y) (are_right marks (k + 1) ys) right))
right_at marks k (y ∷ ys) right (suc i) x e =
    let there : (k + 1) + i ≡ k + suc i = omega arith in
    subst (λ j. is_right marks j x ≡ true) there (right_at marks (k + 1) ys (right_true (is_right marks k y) (are_right marks (k + 1) ys) right) i x e)

leads_where : (marks : List Bool) (k : ℕ) (x : Instruction) → is_right marks k x ≡ true → is_marked marks k ≡ true → leads marks k x ≡ true
leads_where marks k x right marked = ap (λ t. if t then leads marks k x else true) (sym marked) ∙ right

kept_same : (marks : List Bool) (k : ℕ) (x : Instruction) → is_marked marks k ≡ true → kept marks k x ≡ x
kept_same marks k x marked = ap (λ t. if t then x else instruction.Nothing) marked

same_at : (marks : List Bool) (k : ℕ) (xs : List Instruction) (i : ℕ) → is_marked marks (k + i) ≡ true → slice_get (all_kept marks k xs) i ≡ slice_get xs i
same_at marks k [] i marked = refl
same_at marks k (x ∷ xs) zero marked =
    let here : k + 0 ≡ k = omega arith in
    ap Some (kept_same marks k x (subst (λ j. is_marked marks j ≡ true) here marked))
same_at marks k (x ∷ xs) (suc i) marked =
    let there : k + suc i ≡ (k + 1) + i = omega arith in
    same_at marks (k + 1) xs i (subst (λ j. is_marked marks j ≡ true) there marked)

pub length_same : (marks : List Bool) (k : ℕ) (xs : List Instruction) → length (all_kept marks k xs) ≡ length xs
length_same marks k [] = refl
length_same marks k (x ∷ xs) = ap suc (length_same marks (k + 1) xs)

-- ---- bytes

kept_bytes : (marks : List Bool) (k : ℕ) (x : Instruction) → code_bytes (kept marks k x) ≤ code_bytes x
kept_bytes marks k x = on (is_marked marks k)
  where
    on : (t : Bool) → code_bytes (if t then x else instruction.Nothing) ≤ code_bytes x
    on true = omega arith
    on false = omega arith

all_bytes : (marks : List Bool) (k : ℕ) (xs : List Instruction) → sum_by code_bytes (all_kept marks k xs) ≤ sum_by code_bytes xs
all_bytes marks k [] = omega arith
all_bytes marks k (x ∷ xs) =
    omega (arith, kept_bytes marks k x, all_bytes marks (k + 1) xs, sum_by-cons code_bytes x xs, sum_by-cons code_bytes (kept marks k x) (all_kept marks (k + 1) xs))

-- ---- soundness

kept_fits : (n : ℕ) (f : Function) (marks : List Bool) (k : ℕ) (x : Instruction) → InstructionFits n f x → InstructionFits n f (kept marks k x)
kept_fits n f marks k x fit = on (is_marked marks k)
  where
    on : (t : Bool) → InstructionFits n f (if t then x else instruction.Nothing)
    on true = fit
    on false = tt

all_fit_in : (n : ℕ) (f : Function) (marks : List Bool) (k : ℕ) (xs : List Instruction) → ((i : ℕ) (x : Instruction) → slice_get xs i ≡ Some x → InstructionFits n f x)
    → (i : ℕ) (y : Instruction) → slice_get (all_kept marks k xs) i ≡ Some y → InstructionFits n f y
all_fit_in n f marks k [] fit i y e = absurd (let no : ⊥ = cc in no)
all_fit_in n f marks k (x ∷ xs) fit zero y e = let same : kept marks k x ≡ y = cc in subst (InstructionFits n f) same (kept_fits n f marks k x (fit 0 x refl))
all_fit_in n f marks k (x ∷ xs) fit (suc i) y e = all_fit_in n f marks (k + 1) xs (λ j. fit (suc j)) i y e

-- an instruction that fits a function fits one with as many instructions
fits_other : (n : ℕ) (f : Function) (code : List Instruction) → length code ≡ length f.code → (x : Instruction) → InstructionFits n f x → InstructionFits n (with_code f code) x
fits_other n f code same instruction.Nothing fit = fit
fits_other n f code same (instruction.Move d x) fit = fit
fits_other n f code same (instruction.Compute o d x y) fit = fit
fits_other n f code same (instruction.Convert c d x) fit = fit
fits_other n f code same (instruction.Load w d l) fit = fit
fits_other n f code same (instruction.Store w x l) fit = fit
fits_other n f code same (instruction.Address d l) fit = fit
fits_other n f code same (instruction.Element d x y size) fit = fit
fits_other n f code same (instruction.Jump to) fit = omega (arith, same, fit)
fits_other n f code same (instruction.Branch t x y to) fit = (fit.0, fit.1, omega (arith, same, fit.2))
fits_other n f code same (instruction.Call g) fit = fit
fits_other n f code same instruction.PutByte fit = fit
fits_other n f code same instruction.GetByte fit = fit
fits_other n f code same instruction.Exit fit = fit
fits_other n f code same instruction.Return fit = fit

kept_function_fits : (n : ℕ) (f : Function) (marks : List Bool) → FunctionFits n f → FunctionFits n (with_code f (all_kept marks 0 f.code))
kept_function_fits n f marks fit = record {
  small = fit.small;
  few = fit.few;
  all = fit.all;
  each = λ i y e. fits_other n f (all_kept marks 0 f.code) (length_same marks 0 f.code) y (all_fit_in n f marks 0 f.code fit.each i y e);
}

function_is : (f g : Function) (c : IsReachedFunction f g) → g ≡ with_code f (all_kept c.code.marks 0 f.code)
function_is f g c = c.is ∙ ap (with_code f) c.code.is

function_fits : (n : ℕ) (f g : Function) → IsReachedFunction f g → FunctionFits n f → FunctionFits n g
function_fits n f g c fit = subst (FunctionFits n) (sym (function_is f g c)) (kept_function_fits n f c.code.marks fit)

code_length : (f g : Function) → IsReachedFunction f g → length g.code ≡ length f.code
code_length f g c = ap length c.code.is ∙ length_same c.code.marks 0 f.code

-- ---- functions by their numbers

abbrev marks_of : (fs gs : List Function) → AreReached fs gs → ℕ → List Bool
marks_of [] [] each k = []
marks_of [] (g ∷ gs) each k = []
marks_of (f ∷ fs) [] each k = []
marks_of (f ∷ fs) (g ∷ gs) each zero = each.0.code.marks
marks_of (f ∷ fs) (g ∷ gs) each (suc k) = marks_of fs gs each.1 k

start_of : (fs gs : List Function) (each : AreReached fs gs) (k : ℕ) → is_marked (marks_of fs gs each k) 0 ≡ true
start_of [] [] each k = refl
start_of [] (g ∷ gs) each k = absurd each
start_of (f ∷ fs) [] each k = absurd each
start_of (f ∷ fs) (g ∷ gs) each zero = each.0.code.first
start_of (f ∷ fs) (g ∷ gs) each (suc k) = start_of fs gs each.1 k

-- what is asked of two functions of one number
pub record IsPair (marks : List Bool) (f g : Function) : Type 0 where
  pub is : g ≡ with_code f g.code
  pub same : (i : ℕ) → is_marked marks i ≡ true → slice_get g.code i ≡ slice_get f.code i
  pub right : (i : ℕ) (x : Instruction) → is_marked marks i ≡ true → slice_get f.code i ≡ Some x → leads marks i x ≡ true

pair_of : (f g : Function) (c : IsReachedFunction f g) → IsPair c.code.marks f g
pair_of f g c = record {
  is = c.is;
  same = λ i marked.
      let here : i ≡ 0 + i = omega arith in
      ap (λ xs. slice_get xs i) c.code.is ∙ same_at c.code.marks 0 f.code i (subst (λ j. is_marked c.code.marks j ≡ true) here marked);
  right = λ i x marked e.
      let here : 0 + i ≡ i = omega arith in
      leads_where c.code.marks i x (subst (λ j. is_right c.code.marks j x ≡ true) here (right_at c.code.marks 0 f.code c.code.right i x e)) marked;
}

no_pair : (f : Function) → f.code ≡ [] → IsPair [] f f
no_pair f none = record {
  is = refl;
  same = λ i marked. refl;
  right = λ i x marked e. let no : None ≡ Some x = ap (λ xs. slice_get xs i) (sym none) ∙ e in absurd (let z : ⊥ = cc in z);
}

module _ (statics_p statics_q : List ℕ) (main_p main_q : ℕ) where
  abbrev one : List Function → Program
  one fs = record { functions = fs; statics = statics_p; main = main_p }

  abbrev two : List Function → Program
  two gs = record { functions = gs; statics = statics_q; main = main_q }

  pair_at : (fs gs : List Function) (each : AreReached fs gs) (k : ℕ) → IsPair (marks_of fs gs each k) (function_at (one fs) k) (function_at (two gs) k)
  pair_at [] [] each k = no_pair (function_at (one []) k) refl
  pair_at [] (g ∷ gs) each k = absurd each
  pair_at (f ∷ fs) [] each k = absurd each
  pair_at (f ∷ fs) (g ∷ gs) each zero = pair_of f g each.0
  pair_at (f ∷ fs) (g ∷ gs) each (suc k) = pair_at fs gs each.1 k

reached : (p q : Program) (each : AreReached p.functions q.functions) → q.statics ≡ p.statics → q.main ≡ p.main → IsReached p q (marks_of p.functions q.functions each)
reached p q each statics main =
    let pair = pair_at p.statics q.statics p.main q.main p.functions q.functions each in
    record {
      sized = record { at = λ k. (pair k).is; statics = statics };
      main = main;
      starts = start_of p.functions q.functions each;
      same = λ k. (pair k).same;
      right = λ k. (pair k).right;
    }

-- ---- programs

frames_in : (fs gs : List Function) → AreReached fs gs → map frame_bytes gs ≡ map frame_bytes fs
frames_in [] [] each = refl
frames_in [] (g ∷ gs) each = absurd each
frames_in (f ∷ fs) [] each = absurd each
frames_in (f ∷ fs) (g ∷ gs) each = ap (λ n. n ∷ map frame_bytes gs) (ap frame_bytes each.0.is) ∙ ap (λ (ns : List ℕ). frame_bytes f ∷ ns) (frames_in fs gs each.1)

bytes_in : (fs gs : List Function) → AreReached fs gs → (k : ℕ) (f g : Function) → slice_get fs k ≡ Some f → slice_get gs k ≡ Some g → sum_by code_bytes g.code ≤ sum_by code_bytes f.code
bytes_in [] gs r k f g e e2 = absurd (let x : ⊥ = cc in x)
bytes_in (x ∷ xs) [] r k f g e e2 = absurd r
bytes_in (x ∷ xs) (y ∷ ys) r zero f g e e2 =
    let one : x ≡ f = cc in
    let two : y ≡ g = cc in
    let first : sum_by code_bytes x.code ≡ sum_by code_bytes f.code = ap (λ (h : Function). sum_by code_bytes h.code) one in
    let second : sum_by code_bytes y.code ≡ sum_by code_bytes g.code = ap (λ (h : Function). sum_by code_bytes h.code) two in
    let made : sum_by code_bytes y.code ≡ sum_by code_bytes (all_kept r.0.code.marks 0 x.code) = ap (sum_by code_bytes) r.0.code.is in
    omega (arith, first, second, made, all_bytes r.0.code.marks 0 x.code)
bytes_in (x ∷ xs) (y ∷ ys) r (suc k) f g e e2 = bytes_in xs ys r.1 k f g e e2

all_fit : (n : ℕ) (fs gs : List Function) → AreReached fs gs → ((k : ℕ) (f : Function) → slice_get fs k ≡ Some f → FunctionFits n f) → (k : ℕ) (g : Function) → slice_get gs k ≡ Some g → FunctionFits n g
all_fit n [] [] r fit k g e = absurd (let x : ⊥ = cc in x)
all_fit n [] (y ∷ ys) r fit k g e = absurd r
all_fit n (x ∷ xs) [] r fit k g e = absurd r
all_fit n (x ∷ xs) (y ∷ ys) r fit zero g e = let same : y ≡ g = cc in subst (FunctionFits n) same (function_fits n x y r.0 (fit zero x refl))
all_fit n (x ∷ xs) (y ∷ ys) r fit (suc k) g e = all_fit n xs ys r.1 (λ j. fit (suc j)) k g e

same_count : (fs gs : List Function) → AreReached fs gs → length gs ≡ length fs
same_count [] [] r = refl
same_count [] (g ∷ gs) r = absurd r
same_count (f ∷ fs) [] r = absurd r
same_count (f ∷ fs) (g ∷ gs) r = ap suc (same_count fs gs r.1)

same_places : (fs gs : List Function) → AreReached fs gs → places_of gs ≡ places_of fs
same_places [] [] r = refl
same_places [] (g ∷ gs) r = absurd r
same_places (f ∷ fs) [] r = absurd r
same_places (f ∷ fs) (g ∷ gs) r =
    let one : length g.code ≡ length f.code = code_length f g r.0 in
    omega (arith, one, same_places fs gs r.1, sum_by-cons (λ (h : Function). length h.code + 1) f fs, sum_by-cons (λ (h : Function). length h.code + 1) g gs)

stays_sound : (p q : Program) → AreReached p.functions q.functions → q.statics ≡ p.statics → q.main ≡ p.main → IsSoundProgram p → IsSoundProgram q
stays_sound p q each statics main sound =
    let count = same_count p.functions q.functions each in
    let places = same_places p.functions q.functions each in
    record {
      has_main = omega (arith, count, main, sound.has_main);
      each = λ k g e. subst (λ n. FunctionFits n g) (sym count) (all_fit (length p.functions) p.functions q.functions each sound.each k g e);
      statics = subst (λ xs. length xs ≤ 0x10000000) (sym statics) sound.statics;
      countable = omega (arith, count, places, sound.countable);
    }

pub reached_is_simplified : (p q : Program) → AreReached p.functions q.functions → q.statics ≡ p.statics → q.main ≡ p.main → IsSimplified p q
reached_is_simplified p q each statics main =
    let marks = marks_of p.functions q.functions each in
    let r = reached p q each statics main in
    record {
      runs = runs p q marks r;
      at_calls = at_calls p q marks r;
      costs = costs p q marks r;
      frames = frames_in p.functions q.functions each;
      bytes = bytes_in p.functions q.functions each;
      sound = stays_sound p q each statics main;
      statics = statics;
      main = main;
    }
