-- A program with words in temporaries runs as the program does, at no more cost.
use Rattle.std.proofs.Common.{◌≡◌, ◌≤◌, inl, ℕ, zero, suc, ◌+◌, List, [], ◌∷◌, map, Option, Some, None, refl, sym, ap, ◌∙◌, subst, arith}
use Rattle.std.specs.Prelude.{slice_get, option_map}
use Rattle.std.proofs.lemmas.Option.{slice_get-map}
use Rattle.frames_code.specs.declared.code.Instruction.{Instruction}
use Rattle.frames_code.specs.declared.code.Instruction.TheVariants as instruction
use Rattle.frames_code.specs.Code.{Program}
use Rattle.frames_code.specs.Costs.{entry_cost_of, cost_in, cost_in_if, cost_on, next_of, spent_in, spent_with_entry}
use Rattle.frames_code.specs.Run.{Value, Values, Frame, State, Progress, running, ended, stuck, unset, act, step, run, start, goes_on, active, function_at, ◌>>=◌}
use Rattle.frames_opt.specs.Simplified.{DoesTheSame, IsDefined, IsAtCall}
use Rattle.frames_leaf.specs.layer.Moving.{moved}
use Rattle.frames_leaf.proofs.Agreeing.{AreAlike, rest_of, under, over, Agree, Match}
use Rattle.frames_leaf.proofs.Acting.{act_match, result_is}

functions_under : (fs : List Frame) (ds : List Values) → map (λ (f : Frame). f.function) (under fs ds) ≡ map (λ (f : Frame). f.function) fs
functions_under [] ds = refl
functions_under (f ∷ fs) ds = ap (λ (ns : List ℕ). f.function ∷ ns) (functions_under fs (rest_of ds))

active_same : (u d : Values) (ds : List Values) (s : State) → active (over u d ds s) ≡ active s
active_same u d ds s = ap (λ (ns : List ℕ). s.frame.function ∷ ns) (functions_under s.waiting ds)

same_running : (s t : State) → running s ≡ running t → s ≡ t
same_running s t e = cc

-- no other instruction becomes one of these
call_stays : (t : ℕ) (words : List ℕ) (x : Instruction) (g : ℕ) → moved t words x ≡ instruction.Call g → x ≡ instruction.Call g
call_stays t words instruction.Nothing g e = absurd (let z : ⊥ = cc in z)
call_stays t words (instruction.Move d x) g e = absurd (let z : ⊥ = cc in z)
call_stays t words (instruction.Compute o d x y) g e = absurd (let z : ⊥ = cc in z)
call_stays t words (instruction.Convert k d x) g e = absurd (let z : ⊥ = cc in z)
call_stays t words (instruction.Load w d l) g e = absurd (let z : ⊥ = cc in z)
call_stays t words (instruction.Store w x l) g e = absurd (let z : ⊥ = cc in z)
call_stays t words (instruction.Address d l) g e = absurd (let z : ⊥ = cc in z)
call_stays t words (instruction.Element d x y size) g e = absurd (let z : ⊥ = cc in z)
call_stays t words (instruction.Jump to) g e = absurd (let z : ⊥ = cc in z)
call_stays t words (instruction.Branch b x y to) g e = absurd (let z : ⊥ = cc in z)
call_stays t words (instruction.Call f) g e = e
call_stays t words instruction.PutByte g e = absurd (let z : ⊥ = cc in z)
call_stays t words instruction.GetByte g e = absurd (let z : ⊥ = cc in z)
call_stays t words instruction.Exit g e = absurd (let z : ⊥ = cc in z)
call_stays t words instruction.Return g e = absurd (let z : ⊥ = cc in z)

return_stays : (t : ℕ) (words : List ℕ) (x : Instruction) → moved t words x ≡ instruction.Return → x ≡ instruction.Return
return_stays t words instruction.Nothing e = absurd (let z : ⊥ = cc in z)
return_stays t words (instruction.Move d x) e = absurd (let z : ⊥ = cc in z)
return_stays t words (instruction.Compute o d x y) e = absurd (let z : ⊥ = cc in z)
return_stays t words (instruction.Convert k d x) e = absurd (let z : ⊥ = cc in z)
return_stays t words (instruction.Load w d l) e = absurd (let z : ⊥ = cc in z)
return_stays t words (instruction.Store w x l) e = absurd (let z : ⊥ = cc in z)
return_stays t words (instruction.Address d l) e = absurd (let z : ⊥ = cc in z)
return_stays t words (instruction.Element d x y size) e = absurd (let z : ⊥ = cc in z)
return_stays t words (instruction.Jump to) e = absurd (let z : ⊥ = cc in z)
return_stays t words (instruction.Branch b x y to) e = absurd (let z : ⊥ = cc in z)
return_stays t words (instruction.Call f) e = absurd (let z : ⊥ = cc in z)
return_stays t words instruction.PutByte e = absurd (let z : ⊥ = cc in z)
return_stays t words instruction.GetByte e = absurd (let z : ⊥ = cc in z)
return_stays t words instruction.Exit e = absurd (let z : ⊥ = cc in z)
return_stays t words instruction.Return e = refl

module _ (p q : Program) (first : ℕ → ℕ) (words : ℕ → List ℕ) (r : AreAlike p q first words) where
  abbrev Matches : Progress → Progress → Type 0
  Matches = Match first words

  entry_same : (k : ℕ) → entry_cost_of (function_at q k) ≡ entry_cost_of (function_at p k)
  entry_same k = ap entry_cost_of (r.at k)

  cost_same : (t : ℕ) (list : List ℕ) (x : Instruction) → cost_in q (moved t list x) ≡ cost_in p x
  cost_same t list instruction.Nothing = refl
  cost_same t list (instruction.Move d x) = refl
  cost_same t list (instruction.Compute o d x y) = refl
  cost_same t list (instruction.Convert k d x) = refl
  cost_same t list (instruction.Load w d l) = refl
  cost_same t list (instruction.Store w x l) = refl
  cost_same t list (instruction.Address d l) = refl
  cost_same t list (instruction.Element d x y size) = refl
  cost_same t list (instruction.Jump to) = refl
  cost_same t list (instruction.Branch b x y to) = refl
  cost_same t list (instruction.Call f) = ap (λ n. 2 + n) (entry_same f)
  cost_same t list instruction.PutByte = refl
  cost_same t list instruction.GetByte = refl
  cost_same t list instruction.Exit = refl
  cost_same t list instruction.Return = refl

  -- ---- one step

  module _ (s : State) (u d : Values) (ds : List Values) (agree : Agree first words s u d ds) where
    abbrev t : State
    t = over u d ds s

    abbrev k : ℕ
    k = s.frame.function

    abbrev i : ℕ
    i = s.frame.at

    next_same : next_of q t ≡ option_map (moved (first k) (words k)) (next_of p s)
    next_same = ap (λ f. slice_get f.code i) (r.at k) ∙ slice_get-map (moved (first k) (words k)) (function_at p k).code i

    module _ (x : Instruction) (is : slice_get (function_at p k).code i ≡ Some x) where
      abbrev done : Instruction
      done = moved (first k) (words k) x

      done_is : next_of q t ≡ Some done
      done_is = next_same ∙ ap (option_map (moved (first k) (words k))) is

      matches : Matches (act p s x) (act q t done)
      matches = act_match p q first words r s u d ds agree x (r.each k i x is)

      step_first : step p s ≡ act p s x
      unfolding step
      step_first = ap (λ o. o >>= act p s) is

      step_second : step q t ≡ act q t done
      unfolding step
      step_second = ap (λ o. o >>= act q t) done_is

      cost_next : cost_in_if q (next_of q t) ≡ cost_in_if p (next_of p s)
      cost_next = ap (cost_in_if q) done_is ∙ (cost_same (first k) (words k) x ∙ ap (cost_in_if p) (sym is))

    none_first : slice_get (function_at p k).code i ≡ None → step p s ≡ stuck
    unfolding step
    none_first e = ap (λ o. o >>= act p s) e

  -- ---- n steps

  abbrev Goal : ℕ → Type 0
  Goal n = (s : State) (u d : Values) (ds : List Values) → Agree first words s u d ds → DoesTheSame (run p n s) (run q n (over u d ds s))

  goes_alike : (n : ℕ) (x z : Progress) → Matches x z → Goal n → DoesTheSame (goes_on x (run p n)) (goes_on z (run q n))
  goes_alike n (running s) z m more = subst (λ w. DoesTheSame (run p n s) (goes_on w (run q n))) (sym m.is) (more s m.others m.cells m.below m.agree)
  goes_alike n (ended status input trace) z m more = subst (λ w. DoesTheSame (ended status input trace) (goes_on w (run q n))) (sym m) refl
  goes_alike n stuck z m more = tt

  run_alike : (n : ℕ) → Goal n
  run_alike zero s u d ds agree = (refl, refl, active_same u d ds s)
  run_alike (suc n) s u d ds agree = on (run_alike n) (slice_get (function_at p s.frame.function).code s.frame.at) refl
    where
      on : Goal n → (o : Option Instruction) → slice_get (function_at p s.frame.function).code s.frame.at ≡ o → DoesTheSame (goes_on (step p s) (run p n)) (goes_on (step q (over u d ds s)) (run q n))
      on later None e = subst (λ w. DoesTheSame (goes_on w (run p n)) (goes_on (step q (over u d ds s)) (run q n))) (sym (none_first s u d ds agree e)) tt
      on later (Some x) e =
          let z = moved (first s.frame.function) (words s.frame.function) x in
          let here = goes_alike n (act p s x) (act q (over u d ds s) z) (matches s u d ds agree x e) later in
          let second : DoesTheSame (goes_on (act p s x) (run p n)) (goes_on (step q (over u d ds s)) (run q n)) =
          subst (λ w. DoesTheSame (goes_on (act p s x) (run p n)) (goes_on w (run q n))) (sym (step_second s u d ds agree x e)) here in
          subst (λ w. DoesTheSame (goes_on w (run p n)) (goes_on (step q (over u d ds s)) (run q n))) (sym (step_first s u d ds agree x e)) second

  -- ---- costs

  abbrev Less : ℕ → Type 0
  Less n = (s : State) (u d : Values) (ds : List Values) → Agree first words s u d ds → IsDefined (run p n s) → spent_in q n (over u d ds s) ≤ spent_in p n s

  goes_less : (n : ℕ) (x z : Progress) → Matches x z → Less n → IsDefined (goes_on x (run p n)) → cost_on z (spent_in q n) ≤ cost_on x (spent_in p n)
  goes_less n (running s) z m more defined = subst (λ w. cost_on w (spent_in q n) ≤ spent_in p n s) (sym m.is) (more s m.others m.cells m.below m.agree defined)
  goes_less n (ended status input trace) z m more defined = subst (λ w. cost_on w (spent_in q n) ≤ 0) (sym m) (let le : 0 ≤ 0 = omega arith in le)
  goes_less n stuck z m more defined = absurd defined

  spent_less : (n : ℕ) → Less n
  spent_less zero s u d ds agree defined = omega arith
  spent_less (suc n) s u d ds agree defined = on (spent_less n) (slice_get (function_at p s.frame.function).code s.frame.at) refl
    where
      on : Less n → (o : Option Instruction) → slice_get (function_at p s.frame.function).code s.frame.at ≡ o
          → cost_in_if q (next_of q (over u d ds s)) + cost_on (step q (over u d ds s)) (spent_in q n) ≤ cost_in_if p (next_of p s) + cost_on (step p s) (spent_in p n)
      on later None e = absurd (subst (λ w. IsDefined (goes_on w (run p n))) (none_first s u d ds agree e) defined)
      on later (Some x) e =
          let z = moved (first s.frame.function) (words s.frame.function) x in
          let start = step_first s u d ds agree x e in
          let more : cost_on (act q (over u d ds s) z) (spent_in q n) ≤ cost_on (act p s x) (spent_in p n) =
          goes_less n (act p s x) (act q (over u d ds s) z) (matches s u d ds agree x e) later (subst (λ w. IsDefined (goes_on w (run p n))) start defined) in
          let one : cost_on (step p s) (spent_in p n) ≡ cost_on (act p s x) (spent_in p n) = ap (λ w. cost_on w (spent_in p n)) start in
          let two : cost_on (step q (over u d ds s)) (spent_in q n) ≡ cost_on (act q (over u d ds s) z) (spent_in q n) = ap (λ w. cost_on w (spent_in q n)) (step_second s u d ds agree x e) in
          let three = cost_next s u d ds agree x e in
          omega (arith, more, one, two, three)

  -- ---- the states that the two runs have come to

  pub record Reached (s : State) (z : Progress) : Type 0 where
    pub others : Values
    pub cells : Values
    pub below : List Values
    pub is : z ≡ running (over others cells below s)
    pub agree : Agree first words s others cells below

  abbrev Reach : ℕ → Type 0
  Reach n = (s : State) (u d : Values) (ds : List Values) → Agree first words s u d ds → (s2 : State) → run p n s ≡ running s2 → Reached s2 (run q n (over u d ds s))

  goes_to_it : (n : ℕ) (x z : Progress) → Matches x z → Reach n → (s2 : State) → goes_on x (run p n) ≡ running s2 → Reached s2 (goes_on z (run q n))
  goes_to_it n (running s) z m more s2 e = subst (λ w. Reached s2 (goes_on w (run q n))) (sym m.is) (more s m.others m.cells m.below m.agree s2 e)
  goes_to_it n (ended status input trace) z m more s2 e = absurd (let no : ⊥ = cc in no)
  goes_to_it n stuck z m more s2 e = absurd (let no : ⊥ = cc in no)

  reach : (n : ℕ) → Reach n
  reach zero s u d ds agree s2 e = subst (λ v. Reached v (running (over u d ds s))) (same_running s s2 e) (record { others = u; cells = d; below = ds; is = refl; agree = agree })
  reach (suc n) s u d ds agree s2 e = on (reach n) (slice_get (function_at p s.frame.function).code s.frame.at) refl
    where
      on : Reach n → (o : Option Instruction) → slice_get (function_at p s.frame.function).code s.frame.at ≡ o → Reached s2 (goes_on (step q (over u d ds s)) (run q n))
      on later None h =
          let no : stuck ≡ running s2 = sym (ap (λ w. goes_on w (run p n)) (none_first s u d ds agree h)) ∙ e in
          absurd (let z : ⊥ = cc in z)
      on later (Some x) h =
          let z = moved (first s.frame.function) (words s.frame.function) x in
          let start : goes_on (act p s x) (run p n) ≡ running s2 = sym (ap (λ w. goes_on w (run p n)) (step_first s u d ds agree x h)) ∙ e in
          let here = goes_to_it n (act p s x) (act q (over u d ds s) z) (matches s u d ds agree x h) later s2 start in
          subst (λ w. Reached s2 (goes_on w (run q n))) (sym (step_second s u d ds agree x h)) here

  -- ---- calls and returns

  module _ (s : State) (u d : Values) (ds : List Values) (agree : Agree first words s u d ds) where
    abbrev list : List ℕ
    list = words s.frame.function

    abbrev at : ℕ
    at = first s.frame.function

    -- the next instruction of the second is y, which the first has too
    met : (y : Instruction) → ((x : Instruction) → moved at list x ≡ y → x ≡ y) → (o : Option Instruction) → next_of p s ≡ o → next_of q (over u d ds s) ≡ Some y → next_of p s ≡ Some y
    met y stays None e h =
        let no : None ≡ Some y = sym (next_same s u d ds agree ∙ ap (option_map (moved at list)) e) ∙ h in
        absurd (let z : ⊥ = cc in z)
    met y stays (Some x) e h =
        let both : Some (moved at list x) ≡ Some y = sym (next_same s u d ds agree ∙ ap (option_map (moved at list)) e) ∙ h in
        let same : moved at list x ≡ y = cc in
        e ∙ ap Some (stays x same)

    at_call : IsAtCall p q s (over u d ds s)
    at_call = record {
      calls = λ g e.
          let same = met (instruction.Call g) (λ x h. call_stays at list x g h) (next_of p s) refl e in
          (same, λ j v h. agree.temporaries j (inl (r.each s.frame.function s.frame.at (instruction.Call g) same)) ∙ h);
      returns = λ e.
          let same = met instruction.Return (λ x h. return_stays at list x h) (next_of p s) refl e in
          (same, λ v h. result_is p q first words r s u d ds agree (r.each s.frame.function s.frame.at instruction.Return same) ∙ h);
    }

  -- ---- from the beginning

  abbrev started : ℕ → List ℕ → List ℕ → State
  started main statics input = record {
    frame = record { function = main; at = 0; cells = unset; area = unset };
    temporaries = unset;
    arguments = unset;
    waiting = [];
    statics = slice_get statics;
    input = input;
    trace = [];
  }

  start_same : (input : List ℕ) → start q input ≡ over unset unset [] (start p input)
  start_same input = ap (λ m. started m q.statics input) r.main ∙ ap (λ (xs : List ℕ). started p.main xs input) r.statics

  none_set : (c : ℕ) (w : Value) → unset c ≡ Some w → ⊥
  none_set c w e = let z : ⊥ = cc in z

  start_agrees : (input : List ℕ) → Agree first words (start p input) unset unset []
  start_agrees input = record { cells = λ c w e. absurd (none_set c w e); temporaries = λ j n. refl; waiting = tt }

  pub runs : (n : ℕ) (input : List ℕ) → DoesTheSame (run p n (start p input)) (run q n (start q input))
  runs n input = subst (λ s. DoesTheSame (run p n (start p input)) (run q n s)) (sym (start_same input)) (run_alike n (start p input) unset unset [] (start_agrees input))

  pub costs : (n : ℕ) (input : List ℕ) → IsDefined (run p n (start p input)) → spent_with_entry q n (start q input) ≤ spent_with_entry p n (start p input)
  costs n input defined =
      let a : spent_in q n (start q input) ≤ spent_in p n (start p input) =
      subst (λ s. spent_in q n s ≤ spent_in p n (start p input)) (sym (start_same input)) (spent_less n (start p input) unset unset [] (start_agrees input) defined) in
      let b : entry_cost_of (function_at q q.main) ≡ entry_cost_of (function_at p p.main) = ap (λ m. entry_cost_of (function_at q m)) r.main ∙ entry_same p.main in
      omega (arith, a, b)

  pub at_calls : (n : ℕ) (input : List ℕ) (s t : State) → run p n (start p input) ≡ running s → run q n (start q input) ≡ running t → IsAtCall p q s t
  at_calls n input s t e h =
      let reached : Reached s (run q n (start q input)) = subst (λ v. Reached s (run q n v)) (sym (start_same input)) (reach n (start p input) unset unset [] (start_agrees input) s e) in
      subst (IsAtCall p q s) (same_running (over reached.others reached.cells reached.below s) t (sym reached.is ∙ h)) (at_call s reached.others reached.cells reached.below reached.agree)
