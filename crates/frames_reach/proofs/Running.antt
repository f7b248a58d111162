-- A program without unreachable code runs just as the program does.
use Rattle.std.proofs.Common.{◌≡◌, ◌≤◌, ℕ, zero, suc, ◌+◌, List, [], Option, Some, None, Bool, true, refl, sym, ap, ◌∙◌, subst, arith}
use Rattle.std.specs.Prelude.{slice_get}
use Rattle.frames_code.specs.declared.code.Instruction.{Instruction}
use Rattle.frames_code.specs.Code.{Program}
use Rattle.frames_code.specs.Costs.{cost_if, cost_on, next_of, spent}
use Rattle.frames_code.specs.Run.{State, Progress, running, ended, stuck, unset, act, step, run, start, goes_on, function_at, ◌>>=◌}
use Rattle.frames_opt.specs.Simplified.{DoesTheSame, IsDefined, IsAtCall, RunsAlike, CallsAlike}
use Rattle.frames_opt.proofs.Acts.{bind_same}
use Rattle.frames_opt.proofs.Stands.{Sat}
use Rattle.frames_opt.proofs.Alike.{Sized}
use Rattle.frames_reach.specs.layer.Functions.{is_marked, leads}
use Rattle.frames_reach.proofs.Acting.{act_same, result_same}
use Rattle.frames_reach.proofs.Leading.{Stands, act_stands}

-- function for function the same where the marks say that a run may come
pub record IsReached (p q : Program) (marks : ℕ → List Bool) : Type 0 where
  pub sized : Sized p q
  pub main : q.main ≡ p.main
  pub starts : (k : ℕ) → is_marked (marks k) 0 ≡ true
  pub same : (k i : ℕ) → is_marked (marks k) i ≡ true → slice_get (function_at q k).code i ≡ slice_get (function_at p k).code i
  pub right : (k i : ℕ) (x : Instruction) → is_marked (marks k) i ≡ true → slice_get (function_at p k).code i ≡ Some x → leads (marks k) i x ≡ true

does_the_same : (x : Progress) → DoesTheSame x x
does_the_same (running s) = (refl, refl, refl)
does_the_same (ended status input trace) = refl
does_the_same stuck = tt

same_running : (s t : State) → running s ≡ running t → s ≡ t
same_running s t e = cc

module _ (p q : Program) (marks : ℕ → List Bool) (r : IsReached p q marks) where
  abbrev Good : State → Type 0
  Good = Stands marks

  next_same : (s : State) → Good s → next_of q s ≡ next_of p s
  next_same s good = r.same s.frame.function s.frame.at good.0

  step_same : (s : State) → Good s → step q s ≡ step p s
  unfolding step
  step_same s good = ap (λ o. o >>= act q s) (next_same s good) ∙ bind_same (next_of p s) (act q s) (act p s) (act_same p q r.sized s)

  acts_well : (s : State) → Good s → (o : Option Instruction) → next_of p s ≡ o → Sat Good (o >>= act p s)
  acts_well s good None e = tt
  acts_well s good (Some x) e = act_stands marks p r.starts s good.1 x (r.right s.frame.function s.frame.at x good.0 e)

  step_stands : (s : State) → Good s → Sat Good (step p s)
  unfolding step
  step_stands s good = acts_well s good (next_of p s) refl

  goes_same : (n : ℕ) (x : Progress) → Sat Good x → ((s : State) → Good s → run q n s ≡ run p n s) → goes_on x (run q n) ≡ goes_on x (run p n)
  goes_same n (running s) good more = more s good
  goes_same n (ended status input trace) good more = refl
  goes_same n stuck good more = refl

  run_same : (n : ℕ) (s : State) → Good s → run q n s ≡ run p n s
  run_same zero s good = refl
  run_same (suc n) s good = ap (λ x. goes_on x (run q n)) (step_same s good) ∙ goes_same n (step p s) (step_stands s good) (run_same n)

  goes_well : (n : ℕ) (x : Progress) → Sat Good x → ((s : State) → Good s → Sat Good (run p n s)) → Sat Good (goes_on x (run p n))
  goes_well n (running s) good more = more s good
  goes_well n (ended status input trace) good more = tt
  goes_well n stuck good more = tt

  run_stands : (n : ℕ) (s : State) → Good s → Sat Good (run p n s)
  run_stands zero s good = good
  run_stands (suc n) s good = goes_well n (step p s) (step_stands s good) (run_stands n)

  costs_same : (n : ℕ) (x : Progress) → Sat Good x → ((s : State) → Good s → spent q n s ≡ spent p n s) → cost_on x (spent q n) ≡ cost_on x (spent p n)
  costs_same n (running s) good more = more s good
  costs_same n (ended status input trace) good more = refl
  costs_same n stuck good more = refl

  spent_same : (n : ℕ) (s : State) → Good s → spent q n s ≡ spent p n s
  spent_same zero s good = refl
  spent_same (suc n) s good =
      ap (λ o. cost_if o + cost_on (step q s) (spent q n)) (next_same s good)
      ∙ ap (λ x. cost_if (next_of p s) + cost_on x (spent q n)) (step_same s good)
      ∙ ap (λ m. cost_if (next_of p s) + m) (costs_same n (step p s) (step_stands s good) (spent_same n))

  -- ---- from the start

  abbrev started : ℕ → List ℕ → List ℕ → State
  started main statics input = record {
    frame = record { function = main; at = 0; cells = unset; area = unset };
    temporaries = unset;
    arguments = unset;
    waiting = [];
    statics = slice_get statics;
    input = input;
    trace = [];
  }

  start_same : (input : List ℕ) → start q input ≡ start p input
  start_same input = ap (λ m. started m q.statics input) r.main ∙ ap (λ (xs : List ℕ). started p.main xs input) r.sized.statics

  start_stands : (input : List ℕ) → Good (start p input)
  start_stands input = (r.starts p.main, tt)

  whole_same : (n : ℕ) (input : List ℕ) → run q n (start q input) ≡ run p n (start p input)
  whole_same n input = ap (run q n) (start_same input) ∙ run_same n (start p input) (start_stands input)

  pub runs : RunsAlike p q
  runs n input = subst (DoesTheSame (run p n (start p input))) (sym (whole_same n input)) (does_the_same (run p n (start p input)))

  pub costs : (n : ℕ) (input : List ℕ) → IsDefined (run p n (start p input)) → spent q n (start q input) ≤ spent p n (start p input)
  costs n input defined =
      let same : spent q n (start q input) ≡ spent p n (start p input) = ap (spent q n) (start_same input) ∙ spent_same n (start p input) (start_stands input) in
      omega (arith, same)

  at_call : (s : State) → Good s → IsAtCall p q s s
  at_call s good = record {
    calls = λ g e. (sym (next_same s good) ∙ e, λ k v h. h);
    returns = λ e. (sym (next_same s good) ∙ e, λ v h. result_same p q r.sized s ∙ h);
  }

  pub at_calls : CallsAlike p q
  at_calls n input s t e f =
      let same : s ≡ t = same_running s t (sym e ∙ (sym (whole_same n input) ∙ f)) in
      subst (IsAtCall p q s) same (at_call s (subst (Sat Good) e (run_stands n (start p input) (start_stands input))))
