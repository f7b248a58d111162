-- Steps of three-address code with their costs, and the relation of following a run of the abstract machine.
use Rattle.std.proofs.Common.{◌≡◌, ℕ, zero, suc, ◌+◌, ◌*◌, ◌<◌, ◌≤◌, List, Bool, true, false, refl, sym, ap, ◌∙◌, subst, arith}
use Rattle.csem.specs.History.{Entry}
use Rattle.csem.specs.Machine as machine
use Rattle.csem.specs.Machine.{Run, Goes, Stops, Ended, Undefined, TicksUsed, then_do, choose, undefined, tick, tick_of}
use Rattle.srcset.specs.declared.refusal.Pos.{Pos}
use Rattle.ctypes.specs.declared.operators.Undef.{Undef}
use Rattle.tac_code.specs.Code.{Program}
use Rattle.tac_code.specs.Run.{State, Progress, running, ended, stuck, goes_on, run, step, instruction_at}
use Rattle.tac_code.specs.Costs.{cost_if, cost_on, spent}

-- ---- steps

on_both : (r : Progress) (f g h : State → Progress) → ((u : State) → f u ≡ goes_on (g u) h) → goes_on r f ≡ goes_on (goes_on r g) h
on_both (running u) f g h e = e u
on_both (ended status input history) f g h e = refl
on_both stuck f g h e = refl

run_plus : (q : Program) (j k : ℕ) (t : State) → run q (j + k) t ≡ goes_on (run q j t) (run q k)
run_plus q zero k t = let e : 0 + k ≡ k = omega arith in ap (λ n. run q n t) e
run_plus q (suc j) k t =
    let e : suc j + k ≡ suc (j + k) = omega arith in
    ap (λ n. run q n t) e ∙ on_both (step q t) (run q (j + k)) (run q j) (run q k) (λ u. run_plus q j k u)

cost_both : (r : Progress) (f g w : State → ℕ) (h : State → Progress) → ((u : State) → f u ≡ g u + cost_on (h u) w)
    → cost_on r f ≡ cost_on r g + cost_on (goes_on r h) w
cost_both (running u) f g w h e = e u
cost_both (ended status input history) f g w h e = omega arith
cost_both stuck f g w h e = omega arith

spent_plus : (q : Program) (j k : ℕ) (t : State) → spent q (j + k) t ≡ spent q j t + cost_on (run q j t) (spent q k)
spent_plus q zero k t = let e : 0 + k ≡ k = omega arith in ap (λ n. spent q n t) e ∙ omega arith
spent_plus q (suc j) k t =
    let e : suc j + k ≡ suc (j + k) = omega arith in
    let h = cost_both (step q t) (spent q (j + k)) (spent q j) (spent q k) (run q j) (λ u. spent_plus q j k u) in
    ap (λ n. spent q n t) e ∙ omega (arith, h)

-- j steps from t, at a cost of c, give r
pub record Reaches (q : Program) (t : State) (j c : ℕ) (r : Progress) : Type 0 where
  pub by : run q j t ≡ r
  pub spends : spent q j t ≡ c

pub reaches_on : (q : Program) (t u : State) (j c k b : ℕ) (r : Progress) → Reaches q t j c (running u) → Reaches q u k b r → Reaches q t (j + k) (c + b) r
reaches_on q t u j c k b r l m =
    let h : cost_on (run q j t) (spent q k) ≡ b = ap (λ x. cost_on x (spent q k)) l.by ∙ m.spends in
    let g = spent_plus q j k t in
    record { by = run_plus q j k t ∙ (ap (λ x. goes_on x (run q k)) l.by ∙ m.by); spends = omega (arith, g, h, l.spends) }

pub stays : (q : Program) (t : State) → Reaches q t 0 0 (running t)
stays q t = record { by = refl; spends = refl }

no_more : (q : Program) (r : Progress) → goes_on r (run q zero) ≡ r
no_more q (running u) = refl
no_more q (ended status input history) = refl
no_more q stuck = refl

free_after : (q : Program) (r : Progress) → cost_on r (spent q zero) ≡ 0
free_after q (running u) = refl
free_after q (ended status input history) = refl
free_after q stuck = refl

pub one_step : (q : Program) (t : State) (c : ℕ) (r : Progress) → step q t ≡ r → cost_if q (instruction_at q t) ≡ c → Reaches q t 1 c r
one_step q t c r e h =
    let free = free_after q (step q t) in
    record { by = no_more q (step q t) ∙ e; spends = omega (arith, h, free) }

-- steps from a state that is another
pub from : (q : Program) (t t1 : State) (j c : ℕ) (r : Progress) → t ≡ t1 → Reaches q t1 j c r → Reaches q t j c r
from q t t1 j c r e l = subst (λ x. Reaches q x j c r) (sym e) l

-- ---- following

-- the code reaches a point where a run goes on: at most 60 a tick, with `slack` to spare
pub record GoesTo (q : Program) (slack hi lo : ℕ) (t : State) (Good : machine.State → State → Type 0) (s : machine.State) : Type 0 where
  pub j : ℕ
  pub c : ℕ
  pub u : State
  pub reaches : Reaches q t j c (running u)
  pub within : c + 60 * s.clock + slack ≤ hi
  pub progress : lo ≤ s.clock + j
  pub good : Good s u

-- it ends as the run does
pub record EndsAt (q : Program) (hi : ℕ) (t : State) (status : ℕ) (input : List ℕ) (history : List Entry) : Type 0 where
  pub j : ℕ
  pub c : ℕ
  pub reaches : Reaches q t j c (ended status input history)
  pub within : c ≤ hi

-- it has done the same where the ticks are used
pub record PausesAt (q : Program) (hi lo : ℕ) (t : State) (s : machine.State) : Type 0 where
  pub j : ℕ
  pub c : ℕ
  pub u : State
  pub reaches : Reaches q t j c (running u)
  pub within : c ≤ hi
  pub progress : lo ≤ j
  pub history : u.history ≡ s.history
  pub input : u.input ≡ s.input

-- it has done the same where the run meets undefined behaviour, perhaps amid a tick
pub record HaltsAt (q : Program) (hi : ℕ) (t : State) (s : machine.State) : Type 0 where
  pub j : ℕ
  pub c : ℕ
  pub u : State
  pub reaches : Reaches q t j c (running u)
  pub within : c ≤ hi
  pub history : u.history ≡ s.history
  pub input : u.input ≡ s.input

-- the code follows a run: `hi` bounds the cost and 60 times the ticks left, `lo` is at most the steps and the ticks left
abbrev pub Sim : {A : Type 0} → Program → ℕ → ℕ → ℕ → State → (A → machine.State → State → Type 0) → Run A → Type 0
Sim q slack hi lo t Good (Goes a s) = GoesTo q slack hi lo t (Good a) s
Sim q slack hi lo t Good (Stops (Ended status) s) = EndsAt q hi t status s.input s.history
Sim q slack hi lo t Good (Stops (Undefined act at) s) = HaltsAt q hi t s
Sim q slack hi lo t Good (Stops TicksUsed s) = PausesAt q hi lo t s

-- no step where the same is done already
pub halts : (q : Program) (hi : ℕ) (t : State) (s : machine.State) → t.history ≡ s.history → t.input ≡ s.input → HaltsAt q hi t s
halts q hi t s e1 e2 = record { j = 0; c = 0; u = t; reaches = stays q t; within = omega arith; history = e1; input = e2 }

-- steps first
pub sim_after : {A : Type 0} (q : Program) (slack : ℕ) (Good : A → machine.State → State → Type 0) (hi lo hi2 lo2 j c : ℕ) (t u : State) (r : Run A)
    → Reaches q t j c (running u) → hi2 + c ≤ hi → lo ≤ lo2 + j → Sim q slack hi2 lo2 u Good r → Sim q slack hi lo t Good r
sim_after q slack Good hi lo hi2 lo2 j c t u (Goes a s) l h1 h2 r = record {
  j = j + r.j;
  c = c + r.c;
  u = r.u;
  reaches = reaches_on q t u j c r.j r.c (running r.u) l r.reaches;
  within = omega (arith, r.within);
  progress = omega (arith, r.progress);
  good = r.good;
}
sim_after q slack Good hi lo hi2 lo2 j c t u (Stops (Ended status) s) l h1 h2 r =
    record { j = j + r.j; c = c + r.c; reaches = reaches_on q t u j c r.j r.c (ended status s.input s.history) l r.reaches; within = omega (arith, r.within) }
sim_after q slack Good hi lo hi2 lo2 j c t u (Stops (Undefined act at) s) l h1 h2 r = record {
  j = j + r.j;
  c = c + r.c;
  u = r.u;
  reaches = reaches_on q t u j c r.j r.c (running r.u) l r.reaches;
  within = omega (arith, r.within);
  history = r.history;
  input = r.input;
}
sim_after q slack Good hi lo hi2 lo2 j c t u (Stops TicksUsed s) l h1 h2 r = record {
  j = j + r.j;
  c = c + r.c;
  u = r.u;
  reaches = reaches_on q t u j c r.j r.c (running r.u) l r.reaches;
  within = omega (arith, r.within);
  progress = omega (arith, r.progress);
  history = r.history;
  input = r.input;
}

-- one run after another: the first leaves its slack to the second
pub sim_then : {A B : Type 0} (q : Program) (slack slack2 : ℕ) (Good : A → machine.State → State → Type 0) (Good2 : B → machine.State → State → Type 0)
    (hi more hi2 lo : ℕ) (t : State) (r : Run A) (go : A → machine.State → Run B)
    → hi ≤ hi2 → hi + more ≤ hi2 + slack → Sim q slack hi lo t Good r
    → ((a : A) (s : machine.State) (u : State) → 60 * s.clock + slack ≤ hi → Good a s u → Sim q slack2 (60 * s.clock + more) s.clock u Good2 (go a s))
    → Sim q slack2 hi2 lo t Good2 (then_do r go)
sim_then q slack slack2 Good Good2 hi more hi2 lo t (Goes a s) go h1 h2 l next =
    sim_after q slack2 Good2 hi2 lo (60 * s.clock + more) s.clock l.j l.c t l.u (go a s) l.reaches (omega (arith, l.within)) l.progress
    (next a s l.u (omega (arith, l.within)) l.good)
sim_then q slack slack2 Good Good2 hi more hi2 lo t (Stops (Ended status) s) go h1 h2 l next =
    record { j = l.j; c = l.c; reaches = l.reaches; within = omega (arith, l.within) }
sim_then q slack slack2 Good Good2 hi more hi2 lo t (Stops (Undefined act at) s) go h1 h2 l next =
    record { j = l.j; c = l.c; u = l.u; reaches = l.reaches; within = omega (arith, l.within); history = l.history; input = l.input }
sim_then q slack slack2 Good Good2 hi more hi2 lo t (Stops TicksUsed s) go h1 h2 l next = record {
  j = l.j;
  c = l.c;
  u = l.u;
  reaches = l.reaches;
  within = omega (arith, l.within);
  progress = l.progress;
  history = l.history;
  input = l.input;
}

-- the same with another fact, and looser bounds
pub sim_map : {A : Type 0} (q : Program) (slack slack2 : ℕ) (Good Good2 : A → machine.State → State → Type 0) (hi hi2 lo : ℕ) (t : State) (r : Run A)
    → hi ≤ hi2 → hi + slack2 ≤ hi2 + slack → Sim q slack hi lo t Good r → ((a : A) (s : machine.State) (u : State) → Good a s u → Good2 a s u)
    → Sim q slack2 hi2 lo t Good2 r
sim_map q slack slack2 Good Good2 hi hi2 lo t (Goes a s) h h2 l next = record {
  j = l.j;
  c = l.c;
  u = l.u;
  reaches = l.reaches;
  within = omega (arith, l.within);
  progress = l.progress;
  good = next a s l.u l.good;
}
sim_map q slack slack2 Good Good2 hi hi2 lo t (Stops (Ended status) s) h h2 l next =
    record { j = l.j; c = l.c; reaches = l.reaches; within = omega (arith, l.within) }
sim_map q slack slack2 Good Good2 hi hi2 lo t (Stops (Undefined act at) s) h h2 l next =
    record { j = l.j; c = l.c; u = l.u; reaches = l.reaches; within = omega (arith, l.within); history = l.history; input = l.input }
sim_map q slack slack2 Good Good2 hi hi2 lo t (Stops TicksUsed s) h h2 l next = record {
  j = l.j;
  c = l.c;
  u = l.u;
  reaches = l.reaches;
  within = omega (arith, l.within);
  progress = l.progress;
  history = l.history;
  input = l.input;
}

pub sim_move : {A : Type 0} (q : Program) (slack : ℕ) (Good : A → machine.State → State → Type 0) (hi lo : ℕ) (t u : State) (r : Run A)
    → t ≡ u → Sim q slack hi lo u Good r → Sim q slack hi lo t Good r
sim_move q slack Good hi lo t u r e l = subst (λ x. Sim q slack hi lo x Good r) (sym e) l

pub goes : (q : Program) (slack : ℕ) (Good : machine.State → State → Type 0) (hi lo j c : ℕ) (t u : State) (s : machine.State)
    → Reaches q t j c (running u) → c + 60 * s.clock + slack ≤ hi → lo ≤ s.clock + j → Good s u → GoesTo q slack hi lo t Good s
goes q slack Good hi lo j c t u s l h1 h2 g = record { j = j; c = c; u = u; reaches = l; within = h1; progress = h2; good = g }

-- one more tick, at whatever state has done the same
sim_tick_at : {A : Type 0} (q : Program) (slack : ℕ) (Good : A → machine.State → State → Type 0) (n : ℕ) (t : State) (s : machine.State) (extra : ℕ)
    (go : machine.State → Run A)
    → t.history ≡ s.history → t.input ≡ s.input
    → ((k : ℕ) → k < n → Sim q slack (60 * k + 60 + extra) (suc k) t Good (go (record s { clock = k })))
    → Sim q slack (60 * n + extra) n t Good (tick_of n s go)
sim_tick_at q slack Good zero t s extra go e1 e2 next =
    record { j = 0; c = 0; u = t; reaches = stays q t; within = omega arith; progress = omega arith; history = e1; input = e2 }
sim_tick_at q slack Good (suc n) t s extra go e1 e2 next =
    sim_after q slack Good (60 * suc n + extra) (suc n) (60 * n + 60 + extra) (suc n) 0 0 t t (go (record s { clock = n })) (stays q t) (omega arith)
    (omega arith) (next n (omega arith))

pub sim_tick : {A : Type 0} (q : Program) (slack : ℕ) (Good : A → machine.State → State → Type 0) (t : State) (s : machine.State) (extra : ℕ)
    (go : machine.State → Run A)
    → t.history ≡ s.history → t.input ≡ s.input
    → ((k : ℕ) → k < s.clock → Sim q slack (60 * k + 60 + extra) (suc k) t Good (go (record s { clock = k })))
    → Sim q slack (60 * s.clock + extra) s.clock t Good (tick s go)
sim_tick q slack Good t s extra go e1 e2 next = sim_tick_at q slack Good s.clock t s extra go e1 e2 next

-- a few steps after a run
pub sim_more : {A : Type 0} (q : Program) (slack slack2 : ℕ) (Good Good2 : A → machine.State → State → Type 0) (hi more hi2 lo : ℕ) (t : State) (r : Run A)
    → hi ≤ hi2 → hi + more ≤ hi2 + slack → Sim q slack hi lo t Good r
    → ((a : A) (s : machine.State) (u : State) → 60 * s.clock + slack ≤ hi → Good a s u → GoesTo q slack2 (60 * s.clock + more) s.clock u (Good2 a) s)
    → Sim q slack2 hi2 lo t Good2 r
sim_more q slack slack2 Good Good2 hi more hi2 lo t (Goes a s) h1 h2 l next =
    sim_after q slack2 Good2 hi2 lo (60 * s.clock + more) s.clock l.j l.c t l.u (Goes a s) l.reaches (omega (arith, l.within)) l.progress
    (next a s l.u (omega (arith, l.within)) l.good)
sim_more q slack slack2 Good Good2 hi more hi2 lo t (Stops (Ended status) s) h1 h2 l next =
    record { j = l.j; c = l.c; reaches = l.reaches; within = omega (arith, l.within) }
sim_more q slack slack2 Good Good2 hi more hi2 lo t (Stops (Undefined act at) s) h1 h2 l next =
    record { j = l.j; c = l.c; u = l.u; reaches = l.reaches; within = omega (arith, l.within); history = l.history; input = l.input }
sim_more q slack slack2 Good Good2 hi more hi2 lo t (Stops TicksUsed s) h1 h2 l next = record {
  j = l.j;
  c = l.c;
  u = l.u;
  reaches = l.reaches;
  within = omega (arith, l.within);
  progress = l.progress;
  history = l.history;
  input = l.input;
}

-- a run that meets undefined behaviour has done the same, and the code makes no step
pub undefined_or : {A : Type 0} (q : Program) (slack : ℕ) (Good : A → machine.State → State → Type 0) (hi lo : ℕ) (t : State) (b : Bool) (act : Undef)
    (at : Pos) (s : machine.State) (r : Run A)
    → t.history ≡ s.history → t.input ≡ s.input → Sim q slack hi lo t Good r → Sim q slack hi lo t Good (choose b (undefined act at s) r)
undefined_or q slack Good hi lo t true act at s r e1 e2 l = halts q hi t s e1 e2
undefined_or q slack Good hi lo t false act at s r e1 e2 l = l

-- a tick, and a free instruction
pub tick_in : {A : Type 0} (q : Program) (slack : ℕ) (Good : A → machine.State → State → Type 0) (t u : State) (s : machine.State) (extra hi : ℕ)
    (go : machine.State → Run A)
    → 60 * s.clock + extra ≤ hi → t.history ≡ s.history → t.input ≡ s.input → Reaches q t 1 0 (running u)
    → ((k : ℕ) → k < s.clock → Sim q slack (60 * k + 60 + extra) k u Good (go (record s { clock = k })))
    → Sim q slack hi s.clock t Good (tick s go)
tick_in q slack Good t u s extra hi go h e1 e2 l next =
    sim_map q slack slack Good Good (60 * s.clock + extra) hi s.clock t (tick s go) h (omega (arith, h))
    (sim_tick q slack Good t s extra go e1 e2 (λ k lt.
    sim_after q slack Good (60 * k + 60 + extra) (suc k) (60 * k + 60 + extra) k 1 0 t u (go (record s { clock = k })) l (omega arith) (omega arith)
    (next k lt)))
    (λ a s2 w g. g)

-- a tick and one instruction that ends it
pub tick_ends : {A : Type 0} (q : Program) (slack : ℕ) (Good : A → machine.State → State → Type 0) (t : State) (s : machine.State) (go : machine.State → Run A)
    → t.history ≡ s.history → t.input ≡ s.input → ((k : ℕ) → k < s.clock → Sim q slack (60 * k + 60) (suc k) t Good (go (record s { clock = k })))
    → Sim q slack (60 * s.clock) s.clock t Good (tick s go)
tick_ends q slack Good t s go e1 e2 next =
    sim_map q slack slack Good Good (60 * s.clock + 0) (60 * s.clock) s.clock t (tick s go) (omega arith) (omega arith)
    (sim_tick q slack Good t s 0 go e1 e2 (λ k lt.
    sim_map q slack slack Good Good (60 * k + 60) (60 * k + 60 + 0) (suc k) t (go (record s { clock = k })) (omega arith) (omega arith) (next k lt)
    (λ a s2 w g. g)))
    (λ a s2 w g. g)

-- the same within the first part
find_at : {A B : Type 0} (q : Program) (slack : ℕ) (Good : B → machine.State → State → Type 0) (n : ℕ) (t u : State) (s : machine.State) (extra : ℕ)
    (inner : machine.State → Run A) (go : A → machine.State → Run B)
    → t.history ≡ s.history → t.input ≡ s.input → Reaches q t 1 0 (running u)
    → ((k : ℕ) → k < n → Sim q slack (60 * k + 60 + extra) k u Good (then_do (inner (record s { clock = k })) go))
    → Sim q slack (60 * n + extra) n t Good (then_do (tick_of n s inner) go)
find_at q slack Good zero t u s extra inner go e1 e2 l next =
    record { j = 0; c = 0; u = t; reaches = stays q t; within = omega arith; progress = omega arith; history = e1; input = e2 }
find_at q slack Good (suc n) t u s extra inner go e1 e2 l next =
    sim_after q slack Good (60 * suc n + extra) (suc n) (60 * n + 60 + extra) n 1 0 t u (then_do (inner (record s { clock = n })) go) l (omega arith)
    (omega arith) (next n (omega arith))

pub find_in : {A B : Type 0} (q : Program) (slack : ℕ) (Good : B → machine.State → State → Type 0) (t u : State) (s : machine.State) (extra hi : ℕ)
    (inner : machine.State → Run A) (go : A → machine.State → Run B)
    → 60 * s.clock + extra ≤ hi → t.history ≡ s.history → t.input ≡ s.input → Reaches q t 1 0 (running u)
    → ((k : ℕ) → k < s.clock → Sim q slack (60 * k + 60 + extra) k u Good (then_do (inner (record s { clock = k })) go))
    → Sim q slack hi s.clock t Good (then_do (tick s inner) go)
find_in q slack Good t u s extra hi inner go h e1 e2 l next =
    sim_map q slack slack Good Good (60 * s.clock + extra) hi s.clock t (then_do (tick s inner) go) h (omega (arith, h))
    (find_at q slack Good s.clock t u s extra inner go e1 e2 l next) (λ a s2 w g. g)
