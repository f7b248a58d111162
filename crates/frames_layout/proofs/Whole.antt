-- A program whose functions are laid out anew does what the program does.
use Rattle.std.proofs.Common.{◌≡◌, ◌≤◌, ◌<◌, ℕ, zero, suc, ◌+◌, ◌-◌, ◌*◌, List, [], ◌∷◌, length, map, Option, Some, None, Bool, true, false, refl, sym, ap, ◌∙◌, subst, arith}
use Rattle.std.specs.Prelude.{slice_get, sum_by, if◌then◌else◌, ◌&&◌, option_map}
use Rattle.std.proofs.lemmas.List.Sums.{sum_by-cons}
use Rattle.std.proofs.lemmas.List.{length-map}
use Rattle.std.proofs.lemmas.Option.{slice_get-map, slice_get_within}
use Rattle.frames_code.specs.declared.code.Instruction.{Instruction}
use Rattle.frames_code.specs.declared.code.Instruction.TheVariants as instruction
use Rattle.frames_code.specs.Code.{Function, Program, frame_bytes}
use Rattle.frames_code.specs.Costs.{spent}
use Rattle.frames_code.specs.Run.{State, unset, running, run, start, function_at}
use Rattle.frames_code.specs.Sound.{InstructionFits, FunctionFits, IsSoundProgram, places_of}
use Rattle.frames_opt.specs.Simplified.{IsDefined}
use Rattle.frames_opt.specs.layer.Functions.{with_code}
use Rattle.frames_opt.proofs.Alike.{left_true, right_true}
use Rattle.frames_layout.specs.declared.plan.Stand.{Stand}
use Rattle.frames_layout.specs.LaidOut.{pace, HasDone, HasComeFrom, IsLaidOut}
use Rattle.frames_layout.specs.declared.walks.Onward.{Onward}
use Rattle.frames_layout.specs.layer.Plans.{onward_at, holds_in, walks, most_onward, led_to, led_if, made, all_made, owed, comes, is_plain, leads_as, jumps_as, fits, all_fit}
use Rattle.frames_layout.specs.layer.Functions.{IsPlanned, IsLaidOutCode, stayed, planned, AreLaidOut}
use Rattle.frames_layout.proofs.Moving.{over, same_some}
use Rattle.frames_layout.proofs.Fitting.{FitsIn}
use Rattle.frames_layout.proofs.Stepping.{IsLaid, Stands}
use Rattle.frames_layout.proofs.Running.{follow_all, come, from_came}
use Rattle.frames_layout.proofs.Checked.{held, At, owes, each_fits, begins_at}
use Rattle.frames_layout.proofs.Staying.{Same, none_owed, each_stays}

-- ---- one function

abbrev at_in : (old new : List Instruction) → IsLaidOutCode old new → ℕ → ℕ → Type 0
at_in old new (stayed is) = Same
at_in old new (planned c) = At c.plan

abbrev owes_in : (old new : List Instruction) → IsLaidOutCode old new → ℕ → Bool
owes_in old new (stayed is) = none_owed
owes_in old new (planned c) = owes c.plan

start_in : (old new : List Instruction) (c : IsLaidOutCode old new) → at_in old new c 0 0 × (owes_in old new c 0 ≡ false)
start_in old new (stayed is) = (refl, refl)
start_in old new (planned c) = begins_at old c.plan c.first

each_in : (old new : List Instruction) (c : IsLaidOutCode old new) (j k : ℕ) (x : Instruction) → at_in old new c j k → slice_get old k ≡ Some x → FitsIn old new (at_in old new c) (owes_in old new c) j k x
each_in old new (stayed is) j k x at e = each_stays old new is j k x at e
each_in old new (planned c) j k x at e = subst (λ (d : List Instruction). FitsIn old d (At c.plan) (owes c.plan) j k x) (sym c.is) (each_fits old c.plan c.right j k x at e)

-- ---- functions by their numbers

abbrev at_of : (fs gs : List Function) → AreLaidOut fs gs → ℕ → ℕ → ℕ → Type 0
at_of [] [] each n = Same
at_of [] (g ∷ gs) each n = Same
at_of (f ∷ fs) [] each n = Same
at_of (f ∷ fs) (g ∷ gs) each zero = at_in f.code g.code each.0.0
at_of (f ∷ fs) (g ∷ gs) each (suc n) = at_of fs gs each.1 n

abbrev owes_of : (fs gs : List Function) → AreLaidOut fs gs → ℕ → ℕ → Bool
owes_of [] [] each n = none_owed
owes_of [] (g ∷ gs) each n = none_owed
owes_of (f ∷ fs) [] each n = none_owed
owes_of (f ∷ fs) (g ∷ gs) each zero = owes_in f.code g.code each.0.0
owes_of (f ∷ fs) (g ∷ gs) each (suc n) = owes_of fs gs each.1 n

start_of : (fs gs : List Function) (each : AreLaidOut fs gs) (n : ℕ) → at_of fs gs each n 0 0 × (owes_of fs gs each n 0 ≡ false)
start_of [] [] each n = (refl, refl)
start_of [] (g ∷ gs) each n = absurd each
start_of (f ∷ fs) [] each n = absurd each
start_of (f ∷ fs) (g ∷ gs) each zero = start_in f.code g.code each.0.0
start_of (f ∷ fs) (g ∷ gs) each (suc n) = start_of fs gs each.1 n

module _ (statics_p statics_q : List ℕ) (main_p main_q : ℕ) where
  abbrev one : List Function → Program
  one fs = record { functions = fs; statics = statics_p; main = main_p }

  abbrev two : List Function → Program
  two gs = record { functions = gs; statics = statics_q; main = main_q }

  each_of : (fs gs : List Function) (each : AreLaidOut fs gs) (n j k : ℕ) (x : Instruction) → at_of fs gs each n j k → slice_get (function_at (one fs) n).code k ≡ Some x
      → FitsIn (function_at (one fs) n).code (function_at (two gs) n).code (at_of fs gs each n) (owes_of fs gs each n) j k x
  each_of [] [] each n j k x at e = absurd (let z : ⊥ = cc in z)
  each_of [] (g ∷ gs) each n j k x at e = absurd each
  each_of (f ∷ fs) [] each n j k x at e = absurd each
  each_of (f ∷ fs) (g ∷ gs) each zero j k x at e = each_in f.code g.code each.0.0 j k x at e
  each_of (f ∷ fs) (g ∷ gs) each (suc n) j k x at e = each_of fs gs each.1 n j k x at e

  sized_of : (fs gs : List Function) (each : AreLaidOut fs gs) (n : ℕ) → function_at (two gs) n ≡ with_code (function_at (one fs) n) (function_at (two gs) n).code
  sized_of [] [] each n = refl
  sized_of [] (g ∷ gs) each n = absurd each
  sized_of (f ∷ fs) [] each n = absurd each
  sized_of (f ∷ fs) (g ∷ gs) each zero = each.0.1
  sized_of (f ∷ fs) (g ∷ gs) each (suc n) = sized_of fs gs each.1 n

-- ---- soundness

comes_within : (code : List Instruction) (plan : List Stand) (before k j : ℕ) → comes code plan before k j ≡ true → j < length plan
comes_within code plan before k j e =
    let h = held (λ (x : Stand). walks code most_onward (owed x.is_owed - before) x.old k) (slice_get plan j) e in
    slice_get_within plan j h.it h.is

module _ (n : ℕ) (f : Function) (code : List Instruction) where
  -- where the new code is as long as the plan
  kept_fits : (plan : List Stand) (j : ℕ) (e : Stand) → length code ≡ length plan → (x : Instruction) → leads_as f.code plan j e x ≡ true → InstructionFits n f x → InstructionFits n (with_code f code) (led_to e.place x)
  kept_fits plan j e same instruction.Nothing h fit = tt
  kept_fits plan j e same (instruction.Move d x) h fit = fit
  kept_fits plan j e same (instruction.Compute o d x y) h fit = fit
  kept_fits plan j e same (instruction.Convert c d x) h fit = fit
  kept_fits plan j e same (instruction.Load w d l) h fit = fit
  kept_fits plan j e same (instruction.Store w x l) h fit = fit
  kept_fits plan j e same (instruction.Address d l) h fit = fit
  kept_fits plan j e same (instruction.Element d x y size) h fit = fit
  kept_fits plan j e same (instruction.Jump to) h fit = omega (arith, same, comes_within f.code plan (owed e.is_owed) to e.place h)
  kept_fits plan j e same (instruction.Branch t x y to) h fit =
      let there : comes f.code plan (owed e.is_owed) to e.place ≡ true = right_true (comes f.code plan (owed e.is_owed) (e.old + 1) (j + 1)) (comes f.code plan (owed e.is_owed) to e.place) h in
      (fit.0, fit.1, omega (arith, same, comes_within f.code plan (owed e.is_owed) to e.place there))
  kept_fits plan j e same (instruction.Call g) h fit = fit
  kept_fits plan j e same instruction.PutByte h fit = tt
  kept_fits plan j e same instruction.GetByte h fit = tt
  kept_fits plan j e same instruction.Exit h fit = tt
  kept_fits plan j e same instruction.Return h fit = tt

  made_fits : (plan : List Stand) (j : ℕ) (e : Stand) → length code ≡ length plan → ((i : ℕ) (x : Instruction) → slice_get f.code i ≡ Some x → InstructionFits n f x) → fits f.code plan j e ≡ true
      → InstructionFits n (with_code f code) (made f.code e)
  made_fits plan j e same fit h = on e.is_jump refl h
    where
      on : (b : Bool) → e.is_jump ≡ b → (if b then jumps_as f.code plan e else holds_in (leads_as f.code plan j e) (slice_get f.code e.old)) ≡ true
          → InstructionFits n (with_code f code) (made f.code e)
      on true jump g =
          let w = held (λ (w : Onward). comes f.code plan w.jumps w.to e.place) (onward_at f.code e.old) (right_true e.is_owed (holds_in (λ (w : Onward). comes f.code plan w.jumps w.to e.place) (onward_at f.code e.old)) g) in
          let within : e.place < length code = omega (arith, same, comes_within f.code plan w.it.jumps w.it.to e.place w.holds) in
          subst (InstructionFits n (with_code f code)) (sym (ap (λ b. if b then instruction.Jump e.place else led_if e.place (slice_get f.code e.old)) jump)) within
      on false kept g =
          let x = held (leads_as f.code plan j e) (slice_get f.code e.old) g in
          let is : made f.code e ≡ led_to e.place x.it =
          ap (λ b. if b then instruction.Jump e.place else led_if e.place (slice_get f.code e.old)) kept ∙ ap (led_if e.place) x.is in
          subst (InstructionFits n (with_code f code)) (sym is) (kept_fits plan j e same x.it x.holds (fit e.old x.it x.is))

  all_made_fit : (plan : List Stand) (j : ℕ) (es : List Stand) → length code ≡ length plan → ((i : ℕ) (x : Instruction) → slice_get f.code i ≡ Some x → InstructionFits n f x) → all_fit f.code plan j es ≡ true
      → (i : ℕ) (y : Instruction) → slice_get (all_made f.code es) i ≡ Some y → InstructionFits n (with_code f code) y
  all_made_fit plan j [] same fit h i y e = absurd (let z : ⊥ = cc in z)
  all_made_fit plan j (x ∷ xs) same fit h zero y e =
      let is : made f.code x ≡ y = cc in
      subst (InstructionFits n (with_code f code)) is (made_fits plan j x same fit (left_true (fits f.code plan j x) (all_fit f.code plan (j + 1) xs) h))
  all_made_fit plan j (x ∷ xs) same fit h (suc i) y e = all_made_fit plan (j + 1) xs same fit (right_true (fits f.code plan j x) (all_fit f.code plan (j + 1) xs) h) i y e

planned_fits : (n : ℕ) (f : Function) (plan : List Stand) → all_fit f.code plan 0 plan ≡ true → FunctionFits n f → FunctionFits n (with_code f (all_made f.code plan))
planned_fits n f plan right fit = record {
  small = fit.small;
  few = fit.few;
  all = fit.all;
  each = all_made_fit n f (all_made f.code plan) plan 0 plan (length-map plan (made f.code)) fit.each right;
}

code_fits : (n : ℕ) (f : Function) (code : List Instruction) → IsLaidOutCode f.code code → FunctionFits n f → FunctionFits n (with_code f code)
code_fits n f code (stayed is) fit = subst (λ (d : List Instruction). FunctionFits n (with_code f d)) (sym is) fit
code_fits n f code (planned c) fit = subst (λ (d : List Instruction). FunctionFits n (with_code f d)) (sym c.is) (planned_fits n f c.plan c.right fit)

code_few : (old new : List Instruction) → IsLaidOutCode old new → length new ≤ length old
code_few old new (stayed is) = let same : length new ≡ length old = ap length is in omega (arith, same)
code_few old new (planned c) = let same : length new ≡ length c.plan = ap length c.is ∙ length-map c.plan (made old) in omega (arith, same, c.few)

frames_in : (fs gs : List Function) → AreLaidOut fs gs → map frame_bytes gs ≡ map frame_bytes fs
frames_in [] [] each = refl
frames_in [] (g ∷ gs) each = absurd each
frames_in (f ∷ fs) [] each = absurd each
frames_in (f ∷ fs) (g ∷ gs) each = ap (λ n. n ∷ map frame_bytes gs) (ap frame_bytes each.0.1) ∙ ap (λ (ns : List ℕ). frame_bytes f ∷ ns) (frames_in fs gs each.1)

all_functions_fit : (n : ℕ) (fs gs : List Function) → AreLaidOut fs gs → ((k : ℕ) (f : Function) → slice_get fs k ≡ Some f → FunctionFits n f) → (k : ℕ) (g : Function) → slice_get gs k ≡ Some g → FunctionFits n g
all_functions_fit n [] [] r fit k g e = absurd (let x : ⊥ = cc in x)
all_functions_fit n [] (y ∷ ys) r fit k g e = absurd r
all_functions_fit n (x ∷ xs) [] r fit k g e = absurd r
all_functions_fit n (x ∷ xs) (y ∷ ys) r fit zero g e =
    let same : y ≡ g = cc in
    subst (FunctionFits n) same (subst (FunctionFits n) (sym r.0.1) (code_fits n x y.code r.0.0 (fit zero x refl)))
all_functions_fit n (x ∷ xs) (y ∷ ys) r fit (suc k) g e = all_functions_fit n xs ys r.1 (λ j. fit (suc j)) k g e

same_count : (fs gs : List Function) → AreLaidOut fs gs → length gs ≡ length fs
same_count [] [] r = refl
same_count [] (g ∷ gs) r = absurd r
same_count (f ∷ fs) [] r = absurd r
same_count (f ∷ fs) (g ∷ gs) r = ap suc (same_count fs gs r.1)

few_places : (fs gs : List Function) → AreLaidOut fs gs → places_of gs ≤ places_of fs
few_places [] [] r = omega arith
few_places [] (g ∷ gs) r = absurd r
few_places (f ∷ fs) [] r = absurd r
few_places (f ∷ fs) (g ∷ gs) r =
    omega (arith, code_few f.code g.code r.0.0, few_places fs gs r.1, sum_by-cons (λ (h : Function). length h.code + 1) f fs, sum_by-cons (λ (h : Function). length h.code + 1) g gs)

stays_sound : (p q : Program) → AreLaidOut p.functions q.functions → q.statics ≡ p.statics → q.main ≡ p.main → IsSoundProgram p → IsSoundProgram q
stays_sound p q each statics main sound =
    let count = same_count p.functions q.functions each in
    let places = few_places p.functions q.functions each in
    record {
      has_main = omega (arith, count, main, sound.has_main);
      each = λ k g e. subst (λ n. FunctionFits n g) (sym count) (all_functions_fit (length p.functions) p.functions q.functions each sound.each k g e);
      statics = subst (λ xs. length xs ≤ 0x10000000) (sym statics) sound.statics;
      countable = omega (arith, count, places, sound.countable);
    }

-- ---- programs

module _ (p q : Program) (each : AreLaidOut p.functions q.functions) (statics : q.statics ≡ p.statics) (main : q.main ≡ p.main) where
  abbrev at : ℕ → ℕ → ℕ → Type 0
  at = at_of p.functions q.functions each

  abbrev owe : ℕ → ℕ → Bool
  owe = owes_of p.functions q.functions each

  laid : IsLaid p q at owe
  laid = record {
    sized = record { at = sized_of p.statics q.statics p.main q.main p.functions q.functions each; statics = statics };
    main = main;
    starts = λ f. (start_of p.functions q.functions each f).0;
    fresh = λ f. (start_of p.functions q.functions each f).1;
    each = each_of p.statics q.statics p.main q.main p.functions q.functions each;
  }

  abbrev started : ℕ → List ℕ → List ℕ → State
  started m xs input = record {
    frame = record { function = m; at = 0; cells = unset; area = unset };
    temporaries = unset;
    arguments = unset;
    waiting = [];
    statics = slice_get xs;
    input = input;
    trace = [];
  }

  start_is : (input : List ℕ) → start q input ≡ over 0 unset [] (start p input)
  start_is input = ap (λ m. started m q.statics input) main ∙ ap (λ (xs : List ℕ). started p.main xs input) statics

  start_stands : (input : List ℕ) → Stands p q at owe (start p input) 0 unset []
  start_stands input = record {
    at = (start_of p.functions q.functions each p.main).0;
    more = λ k v e. e;
    waits = tt;
    clear = λ e. let never : false ≡ true = sym (start_of p.functions q.functions each p.main).1 ∙ e in absurd (let z : ⊥ = cc in z);
  }

  does : (n : ℕ) (input : List ℕ) → IsDefined (run p n (start p input)) → HasDone p q n 0 (start p input) (start q input)
  does n input defined =
      let h = follow_all p q at owe laid n n (omega arith) (start p input) 0 unset [] (start_stands input) defined in
      let none : owed (owe p.main 0) ≡ 0 = ap owed (start_of p.functions q.functions each p.main).1 in
      subst (λ t. HasDone p q n 0 (start p input) t) (sym (start_is input)) (subst (λ m. HasDone p q n m (start p input) (over 0 unset [] (start p input))) none h)

  comes_from : (k m : ℕ) (input : List ℕ) (v : State) → pace * k + 1 ≤ m → IsDefined (run p m (start p input)) → run q k (start q input) ≡ running v → HasComeFrom p q k (start p input) v
  comes_from k m input v le defined e =
      let here : run q k (over 0 unset [] (start p input)) ≡ running v = sym (ap (run q k) (start_is input)) ∙ e in
      let came = come p q at owe laid k m (start p input) 0 unset [] (start_stands input) v (omega (arith, le)) defined here in
      from_came p q at owe laid k m (start p input) v came le defined

pub laid_out : (p q : Program) → AreLaidOut p.functions q.functions → q.statics ≡ p.statics → q.main ≡ p.main → IsLaidOut p q
laid_out p q each statics main = record {
  does = does p q each statics main;
  comes = comes_from p q each statics main;
  frames = frames_in p.functions q.functions each;
  sound = stays_sound p q each statics main;
  statics = statics;
  main = main;
}
