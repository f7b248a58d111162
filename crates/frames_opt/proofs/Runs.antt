-- A program that was made simpler runs as the program does, at no more cost.
use Rattle.std.proofs.Common.{◌≡◌, ◌≤◌, ◌⊎◌, ⊎_elim, ℕ, zero, suc, ◌+◌, List, [], length, Option, Some, None, Bool, true, false, refl, sym, ap, ◌∙◌, subst, arith}
use Rattle.std.specs.Prelude.{slice_get}
use Rattle.frames_code.specs.declared.code.Instruction.{Instruction}
use Rattle.frames_code.specs.declared.code.Instruction.TheVariants as instruction
use Rattle.frames_code.specs.Code.{Program}
use Rattle.frames_code.specs.Costs.{cost, cost_if, cost_on, next_of, spent}
use Rattle.frames_code.specs.Run.{Values, State, Progress, running, ended, stuck, unset, act, step, run, start, goes_on, function_at, ◌>>=◌}
use Rattle.frames_opt.specs.declared.facts.Known.{Known}
use Rattle.frames_opt.specs.Simplified.{DoesTheSame, IsDefined}
use Rattle.frames_opt.specs.declared.room.Room.{Room}
use Rattle.frames_opt.specs.inside.Facts.{nothing, room_of}
use Rattle.frames_opt.specs.inside.Rules.{simpler}
use Rattle.frames_opt.specs.declared.statuses.Status.{Status}
use Rattle.frames_opt.specs.declared.rows.Row.{Row}
use Rattle.frames_opt.specs.inside.Liveness.{written, is_written, reads}
use Rattle.frames_opt.specs.inside.Sweep.{status_at, is_same, accepts, offer, placed, leads_on, is_given_up, leads, behind_it}
use Rattle.frames_opt.proofs.Acts.{Holds, name_in, home_in, Follows, follows_same, act_follows}
use Rattle.frames_opt.proofs.Stands.{Sat, Flow, Stands, act_stands, nothing_holds}
use Rattle.frames_opt.proofs.Alike.{Sized, over, Agree, Match}
use Rattle.frames_opt.proofs.Steps.{Calm, now_in, calm_in, act_alike, left_out_alike}

-- it stays, with an index in place of a reference: it reads only what is the same, and each temporary may be what it is behind it; in a function that has a
-- result or not
pub record Kept (gives : Bool) (states : List Row) (i : ℕ) (half done : Instruction) : Type 0 where
  pub is : done ≡ placed states i half
  pub same : (k : ℕ) → reads gives (status_at states i k) k half ≡ true → is_same (status_at states i k) ≡ true
  pub right : (k : ℕ) → leads states i half k (behind_it k half (status_at states i k)) ≡ true

-- it is left out: what it writes is given up
pub record LeftOut (room : Room) (offered : Known) (states : List Row) (i : ℕ) (half done : Instruction) : Type 0 where
  pub is : done ≡ instruction.Nothing
  pub number : ℕ
  pub writes : written half ≡ Some number
  pub stays : (k : ℕ) → is_written k half ≡ false → accepts (status_at states (i + 1) k) (status_at states i k) ≡ true
  pub given_up : is_given_up (status_at states (i + 1) number) (status_at states i number) offered (leads_on room number (status_at states i number) half) ≡ true

-- instruction i, which is x in the program: simplified by the known facts, and in the end
pub record Position (room : Room) (kn : ℕ → List Known) (states : List Row) (new : List Instruction) (i : ℕ) (x : Instruction) : Type 0 where
  pub half : Instruction
  pub done : Instruction
  pub done_is : slice_get new i ≡ Some done
  pub by : (half ≡ x) ⊎ (half ≡ simpler room.area (kn i) x)
  pub flow : Flow room kn (Calm states) i half
  pub out : Kept room.gives states i half done ⊎ LeftOut room (offer room (kn i) half) states i half done
  pub cheap : cost done ≤ cost x

pub record IsSimpler (p q : Program) (kn : ℕ → ℕ → List Known) (states : ℕ → List Row) : Type 0 where
  pub sized : Sized p q
  pub main : q.main ≡ p.main
  pub starts : (k : ℕ) → kn k 0 ≡ nothing
  pub count : (k : ℕ) → length (function_at q k).code ≡ length (function_at p k).code
  pub each : (k i : ℕ) (x : Instruction) → slice_get (function_at p k).code i ≡ Some x → Position (room_of (function_at p k)) (kn k) (states k) (function_at q k).code i x

module _ (p q : Program) (kn : ℕ → ℕ → List Known) (states : ℕ → List Row) (simple : IsSimpler p q kn states) where
  -- what the temporaries are before the next instruction
  abbrev now : State → ℕ → Status
  now = now_in p states

  abbrev Good : State → Type 0
  Good = Stands p kn (calm_in p states)

  abbrev Agrees : State → Values → Values → Type 0
  Agrees s u a = Agree (name_in p s) (home_in p s) (now s) s u a

  stands_before : (x y : Progress) → Follows x y → Sat Good y → Sat Good x
  stands_before (running s) y f h = subst (Sat Good) f.is h
  stands_before (ended status input trace) y f h = tt
  stands_before stuck y f h = tt

  match_before : (x y z : Progress) → Follows x y → Match p now y z → Match p now x z
  match_before (running s) y z f m =
      let g : Match p now (running (record s { arguments = f.given })) z = subst (λ w. Match p now w z) f.is m in
      record { others = g.others; given = g.given; is = g.is; agree = record { temporaries = g.agree.temporaries; arguments = λ k v e. g.agree.arguments k v (f.more k v e) } }
  match_before (ended status input trace) y z f m = subst (λ w. Match p now w z) f m
  match_before stuck y z f m = tt

  module _ (s : State) (u a : Values) (good : Good s) (agree : Agrees s u a) where
    abbrev t : State
    t = over u a s

    abbrev k : ℕ
    k = s.frame.function

    abbrev i : ℕ
    i = s.frame.at

    module _ (x : Instruction) (is : slice_get (function_at p k).code i ≡ Some x) where
      abbrev c : Position (room_of (function_at p k)) (kn k) (states k) (function_at q k).code i x
      c = simple.each k i x is

      follows : Follows (act p s x) (act p s c.half)
      follows =
          ⊎_elim (λ e. follows_same (act p s x) (act p s c.half) (ap (act p s) e))
          (λ e. subst (λ y. Follows (act p s x) (act p s y)) (sym e) (act_follows p s (kn k i) good.0 (function_at p k).area x)) c.by

      stands : Sat Good (act p s x)
      stands = stands_before (act p s x) (act p s c.half) follows (act_stands p kn (calm_in p states) simple.starts s good c.half c.flow)

      alike : Match p now (act p s c.half) (act q t c.done)
      alike =
          ⊎_elim
          (λ e. subst (λ w. Match p now (act p s c.half) (act q t w)) (sym e.is) (act_alike p q simple.sized states s u a kn good.1 c.half agree (record { same = e.same; right = e.right })))
          (λ d. subst (λ w. Match p now (act p s c.half) (act q t w)) (sym d.is) (left_out_alike p q simple.sized states s u a (room_of (function_at p k)) (kn k i) good.0 c.half d.number agree d.stays d.writes d.given_up))
          c.out

      matches : Match p now (act p s x) (act q t c.done)
      matches = match_before (act p s x) (act p s c.half) (act q t c.done) follows alike

      step_first : step p s ≡ act p s x
      unfolding step
      step_first = ap (λ o. o >>= act p s) is

      step_second : step q t ≡ act q t c.done
      unfolding step
      step_second = ap (λ o. o >>= act q t) c.done_is

      less : cost_if (next_of q t) ≤ cost_if (next_of p s)
      less =
          let one : cost_if (next_of p s) ≡ cost x = ap cost_if is in
          let two : cost_if (next_of q t) ≡ cost c.done = ap cost_if c.done_is in
          omega (arith, one, two, c.cheap)

    none_first : slice_get (function_at p k).code i ≡ None → step p s ≡ stuck
    unfolding step
    none_first e = ap (λ o. o >>= act p s) e

  abbrev Goal : ℕ → Type 0
  Goal n = (s : State) (u a : Values) → Good s → Agrees s u a → DoesTheSame (run p n s) (run q n (over u a s))

  goes_alike : (n : ℕ) (x z : Progress) → Match p now x z → Sat Good x → Goal n → DoesTheSame (goes_on x (run p n)) (goes_on z (run q n))
  goes_alike n (running s) z m g more = subst (λ w. DoesTheSame (run p n s) (goes_on w (run q n))) (sym m.is) (more s m.others m.given g m.agree)
  goes_alike n (ended status input trace) z m g more = subst (λ w. DoesTheSame (ended status input trace) (goes_on w (run q n))) (sym m) refl
  goes_alike n stuck z m g more = tt

  pub run_alike : (n : ℕ) → Goal n
  run_alike zero s u a good agree = (refl, refl, refl)
  run_alike (suc n) s u a good agree = on (run_alike n) (slice_get (function_at p s.frame.function).code s.frame.at) refl
    where
      on : Goal n → (o : Option Instruction) → slice_get (function_at p s.frame.function).code s.frame.at ≡ o → DoesTheSame (goes_on (step p s) (run p n)) (goes_on (step q (over u a s)) (run q n))
      on later None e = subst (λ w. DoesTheSame (goes_on w (run p n)) (goes_on (step q (over u a s)) (run q n))) (sym (none_first s u a good agree e)) tt
      on later (Some x) e =
          let z = (simple.each s.frame.function s.frame.at x e).done in
          let here = goes_alike n (act p s x) (act q (over u a s) z) (matches s u a good agree x e) (stands s u a good agree x e) later in
          let second : DoesTheSame (goes_on (act p s x) (run p n)) (goes_on (step q (over u a s)) (run q n)) =
          subst (λ w. DoesTheSame (goes_on (act p s x) (run p n)) (goes_on w (run q n))) (sym (step_second s u a good agree x e)) here in
          subst (λ w. DoesTheSame (goes_on w (run p n)) (goes_on (step q (over u a s)) (run q n))) (sym (step_first s u a good agree x e)) second

  abbrev Less : ℕ → Type 0
  Less n = (s : State) (u a : Values) → Good s → Agrees s u a → IsDefined (run p n s) → spent q n (over u a s) ≤ spent p n s

  goes_less : (n : ℕ) (x z : Progress) → Match p now x z → Sat Good x → Less n → IsDefined (goes_on x (run p n)) → cost_on z (spent q n) ≤ cost_on x (spent p n)
  goes_less n (running s) z m g more defined = subst (λ w. cost_on w (spent q n) ≤ spent p n s) (sym m.is) (more s m.others m.given g m.agree defined)
  goes_less n (ended status input trace) z m g more defined = subst (λ w. cost_on w (spent q n) ≤ 0) (sym m) (let le : 0 ≤ 0 = omega arith in le)
  goes_less n stuck z m g more defined = absurd defined

  pub spent_less : (n : ℕ) → Less n
  spent_less zero s u a good agree defined = omega arith
  spent_less (suc n) s u a good agree defined = on (spent_less n) (slice_get (function_at p s.frame.function).code s.frame.at) refl
    where
      on : Less n → (o : Option Instruction) → slice_get (function_at p s.frame.function).code s.frame.at ≡ o
          → cost_if (next_of q (over u a s)) + cost_on (step q (over u a s)) (spent q n) ≤ cost_if (next_of p s) + cost_on (step p s) (spent p n)
      on later None e = absurd (subst (λ w. IsDefined (goes_on w (run p n))) (none_first s u a good agree e) defined)
      on later (Some x) e =
          let z = (simple.each s.frame.function s.frame.at x e).done in
          let first = step_first s u a good agree x e in
          let second = step_second s u a good agree x e in
          let more : cost_on (act q (over u a s) z) (spent q n) ≤ cost_on (act p s x) (spent p n) =
          goes_less n (act p s x) (act q (over u a s) z) (matches s u a good agree x e) (stands s u a good agree x e) later (subst (λ w. IsDefined (goes_on w (run p n))) first defined) in
          let one : cost_on (step p s) (spent p n) ≡ cost_on (act p s x) (spent p n) = ap (λ w. cost_on w (spent p n)) first in
          let two : cost_on (step q (over u a s)) (spent q n) ≡ cost_on (act q (over u a s) z) (spent q n) = ap (λ w. cost_on w (spent q n)) second in
          omega (arith, more, one, two, less s u a good agree x e)

  -- the states that the two runs have come to
  pub record Reached (s : State) (z : Progress) : Type 0 where
    pub others : Values
    pub given : Values
    pub is : z ≡ running (over others given s)
    pub agree : Agrees s others given

  abbrev Reach : ℕ → Type 0
  Reach n = (s : State) (u a : Values) → Good s → Agrees s u a → (s2 : State) → run p n s ≡ running s2 → Reached s2 (run q n (over u a s))

  goes_to_it : (n : ℕ) (x z : Progress) → Match p now x z → Sat Good x → Reach n → (s2 : State) → goes_on x (run p n) ≡ running s2 → Reached s2 (goes_on z (run q n))
  goes_to_it n (running s) z m g more s2 e = subst (λ w. Reached s2 (goes_on w (run q n))) (sym m.is) (more s m.others m.given g m.agree s2 e)
  goes_to_it n (ended status input trace) z m g more s2 e = absurd (let no : ⊥ = cc in no)
  goes_to_it n stuck z m g more s2 e = absurd (let no : ⊥ = cc in no)

  same_running : (s s2 : State) → running s ≡ running s2 → s ≡ s2
  same_running s s2 e = cc

  pub reach : (n : ℕ) → Reach n
  reach zero s u a good agree s2 e = subst (λ v. Reached v (running (over u a s))) (same_running s s2 e) (record { others = u; given = a; is = refl; agree = agree })
  reach (suc n) s u a good agree s2 e = on (reach n) (slice_get (function_at p s.frame.function).code s.frame.at) refl
    where
      on : Reach n → (o : Option Instruction) → slice_get (function_at p s.frame.function).code s.frame.at ≡ o → Reached s2 (goes_on (step q (over u a s)) (run q n))
      on later None h =
          let no : stuck ≡ running s2 = sym (ap (λ w. goes_on w (run p n)) (none_first s u a good agree h)) ∙ e in
          absurd (let z : ⊥ = cc in z)
      on later (Some x) h =
          let z = (simple.each s.frame.function s.frame.at x h).done in
          let first : goes_on (act p s x) (run p n) ≡ running s2 = sym (ap (λ w. goes_on w (run p n)) (step_first s u a good agree x h)) ∙ e in
          let here = goes_to_it n (act p s x) (act q (over u a s) z) (matches s u a good agree x h) (stands s u a good agree x h) later s2 first in
          subst (λ w. Reached s2 (goes_on w (run q n))) (sym (step_second s u a good agree x h)) here

  abbrev started : ℕ → List ℕ → List ℕ → State
  started main statics input = record {
    frame = record { function = main; at = 0; cells = unset; area = unset };
    temporaries = unset;
    arguments = unset;
    waiting = [];
    statics = slice_get statics;
    input = input;
    trace = [];
  }

  pub start_same : (input : List ℕ) → start q input ≡ over unset unset (start p input)
  start_same input = ap (λ m. started m q.statics input) simple.main ∙ ap (λ (xs : List ℕ). started p.main xs input) simple.sized.statics

  start_stands : (input : List ℕ) → Good (start p input)
  start_stands input = (subst (λ f. Holds (name_in p (start p input)) (home_in p (start p input)) f unset unset) (sym (simple.starts p.main)) (nothing_holds (name_in p (start p input)) (home_in p (start p input)) unset unset), tt)

  start_agrees : (input : List ℕ) → Agrees (start p input) unset unset
  start_agrees input = record { temporaries = λ j. refl; arguments = λ j v e. e }

  pub reached : (n : ℕ) (input : List ℕ) (s : State) → run p n (start p input) ≡ running s → Reached s (run q n (start q input))
  reached n input s e =
      subst (λ t. Reached s (run q n t)) (sym (start_same input)) (reach n (start p input) unset unset (start_stands input) (start_agrees input) s e)

  pub runs : (n : ℕ) (input : List ℕ) → DoesTheSame (run p n (start p input)) (run q n (start q input))
  runs n input =
      subst (λ s. DoesTheSame (run p n (start p input)) (run q n s)) (sym (start_same input)) (run_alike n (start p input) unset unset (start_stands input) (start_agrees input))

  pub costs : (n : ℕ) (input : List ℕ) → IsDefined (run p n (start p input)) → spent q n (start q input) ≤ spent p n (start p input)
  costs n input defined =
      subst (λ s. spent q n s ≤ spent p n (start p input)) (sym (start_same input)) (spent_less n (start p input) unset unset (start_stands input) (start_agrees input) defined)
