-- Whole runs.
use Rattle.std.proofs.Common.{◌≡◌, ⊎_elim, ℕ, zero, suc, ◌+◌, ◌≤◌, List, ◌∷◌, refl, sym, ap, ◌∙◌, subst, arith}
use Rattle.std.proofs.lemmas.Bool.{cases_lt}
use Rattle.csem.specs.History.{Entry}
use Rattle.tac_code.specs.Code.{Program}
use Rattle.tac_code.specs.Costs as tac_costs
use Rattle.tac_code.specs.Run as tac
use Rattle.tac_code.specs.Run.{State, Progress, running, ended, stuck, step, run, instruction_at}
use Rattle.frames_code.specs.Code as flat_code
use Rattle.frames_code.specs.Costs as flat_costs
use Rattle.frames_code.specs.Run as flat
use Rattle.frames_correct.specs.Matched.{Matched, Alike}
use Rattle.frames_correct.proofs.Ground.{IsMadeOf}
use Rattle.frames_correct.proofs.Calling.{as_sum}
use Rattle.frames_correct.specs.Laws.{HasCallsOf, Comes, Follows, FlatRunsCompose}
use Rattle.frames_correct.proofs.Steps.{same_running, calls_of, step_follows}

-- ---- consecutive flat runs

assoc : (p : flat_code.Program) (r : flat.Progress) (go more : flat.State → flat.Progress) → flat.goes_on (flat.goes_on r go) more ≡ flat.goes_on r (λ s. flat.goes_on (go s) more)
assoc p (flat.running s) go more = refl
assoc p (flat.ended status input trace) go more = refl
assoc p flat.stuck go more = refl

goes_same : (r : flat.Progress) (go more : flat.State → flat.Progress) → ((s : flat.State) → go s ≡ more s) → flat.goes_on r go ≡ flat.goes_on r more
goes_same (flat.running s) go more each = each s
goes_same (flat.ended status input trace) go more each = refl
goes_same flat.stuck go more each = refl

pub run_both : FlatRunsCompose
run_both p zero n s = ap (λ i. flat.run p i s) (let e : 0 + n ≡ n = omega arith in e)
run_both p (suc k) n s =
    ap (λ i. flat.run p i s) (let e : suc k + n ≡ suc (k + n) = omega arith in e)
    ∙ (goes_same (flat.step p s) (flat.run p (k + n)) (λ u. flat.goes_on (flat.run p k u) (flat.run p n)) (run_both p k n)
    ∙ sym (assoc p (flat.step p s) (flat.run p k) (flat.run p n)))

costs_both : (p : flat_code.Program) (k n : ℕ) (r : flat.Progress) → ((s : flat.State) → flat_costs.spent p (k + n) s ≡ flat_costs.spent p k s + flat_costs.cost_on (flat.run p k s) (flat_costs.spent p n))
    → flat_costs.cost_on r (flat_costs.spent p (k + n)) ≡ flat_costs.cost_on r (flat_costs.spent p k) + flat_costs.cost_on (flat.goes_on r (flat.run p k)) (flat_costs.spent p n)
costs_both p k n (flat.running s) each = each s
costs_both p k n (flat.ended status input trace) each = refl
costs_both p k n flat.stuck each = refl

pub spent_both : (p : flat_code.Program) (k n : ℕ) (s : flat.State) → flat_costs.spent p (k + n) s ≡ flat_costs.spent p k s + flat_costs.cost_on (flat.run p k s) (flat_costs.spent p n)
spent_both p zero n s = ap (λ i. flat_costs.spent p i s) (let e : 0 + n ≡ n = omega arith in e) ∙ (let e : flat_costs.spent p n s ≡ 0 + flat_costs.spent p n s = omega arith in e)
spent_both p (suc k) n s =
    ap (λ i. flat_costs.spent p i s) (let e : suc k + n ≡ suc (k + n) = omega arith in e)
    ∙ (let more = costs_both p k n (flat.step p s) (spent_both p k n) in omega (arith, more))

-- ---- a run of three-address code, and that of its flat code

-- at one of the first run's steps so far, its calls
pub record CallsAt (q : Program) (f : flat_code.Program) (t : State) (n : ℕ) (u : flat.State) : Type 0 where
  pub at : ℕ
  pub below : at ≤ n
  pub state : State
  pub is : run q at t ≡ running state
  pub calls : HasCallsOf q f state u

abbrev pub IsBelow : ℕ → ℕ → Progress → Type 0
IsBelow n m (running t) = n ≤ m
IsBelow n m (ended status input history) = Unit {0}
IsBelow n m stuck = Unit {0}

pub record Along (q : Program) (f : flat_code.Program) (t : State) (s : flat.State) (n : ℕ) (r : Progress) : Type 0 where
  pub count : ℕ
  pub below : IsBelow n count r
  pub alike : Alike q f r (flat.run f count s)
  pub costs : flat_costs.spent f count s ≤ tac_costs.spent q n t
  pub calls : (j : ℕ) (u : flat.State) → j ≤ count → flat.run f j s ≡ flat.running u → CallsAt q f t n u

-- a stuck run promises nothing
abbrev pub GoesAlong : Program → flat_code.Program → State → flat.State → ℕ → Progress → Type 0
GoesAlong q f t s n stuck = Unit {0}
GoesAlong q f t s n (running u) = Along q f t s n (running u)
GoesAlong q f t s n (ended status input history) = Along q f t s n (ended status input history)

module _ (q : Program) (f : flat_code.Program) (g : IsMadeOf q f) where
  here : (t : State) (n : ℕ) (u : flat.State) → HasCallsOf q f t u → CallsAt q f t n u
  here t n u e = record { at = 0; below = omega arith; state = t; is = refl; calls = e }

  goes_nowhere : (t : State) (s : flat.State) → Matched q f t s → Along q f t s 0 (running t)
  goes_nowhere t s m = record {
    count = 0;
    below = omega arith;
    alike = m;
    costs = omega arith;
    calls = each;
  }
    where
      each : (j : ℕ) (u : flat.State) → j ≤ 0 → flat.run f j s ≡ flat.running u → CallsAt q f t 0 u
      each zero u le e = here t 0 u (subst (HasCallsOf q f t) (same_running s u e) (calls_of q f g t s m))
      each (suc j) u le e = absurd (omega (arith, le))

  -- the first step ends
  ends_at_once : (t : State) (s : flat.State) (n status : ℕ) (input : List ℕ) (history : List Entry) → step q t ≡ ended status input history → Comes q f t s (tac_costs.cost_if q (instruction_at q t)) (ended status input history)
      → Along q f t s (suc n) (ended status input history)
  ends_at_once t s n status input history e c =
      let rest : tac_costs.cost_on (step q t) (tac_costs.spent q n) ≡ 0 = ap (λ r. tac_costs.cost_on r (tac_costs.spent q n)) e in
      record {
        count = c.count;
        below = tt;
        alike = c.alike;
        costs = omega (arith, c.costs, rest);
        calls = λ j u le ej. ⊎_elim (λ same. here t (suc n) u same) (λ x. absurd x) (c.calls j u le ej);
      }

  pub record IsThere (t2 : State) (r : flat.Progress) : Type 0 where
    pub state : flat.State
    pub is : r ≡ flat.running state
    pub matched : Matched q f t2 state

  pub there : (t2 : State) (r : flat.Progress) → Alike q f (running t2) r → IsThere t2 r
  there t2 (flat.running s2) h = record { state = s2; is = refl; matched = h }
  there t2 (flat.ended status input trace) h = absurd h
  there t2 flat.stuck h = absurd h

  module _ (t t2 : State) (s s2 : flat.State) (n : ℕ) (e : step q t ≡ running t2) (c : Comes q f t s (tac_costs.cost_if q (instruction_at q t)) (running t2)) (es : flat.run f c.count s ≡ flat.running s2) where
    further : (k : ℕ) → flat.run f (c.count + k) s ≡ flat.run f k s2
    further k = run_both f c.count k s ∙ ap (λ r. flat.goes_on r (flat.run f k)) es

    costs_further : (k : ℕ) → flat_costs.spent f k s2 ≤ tac_costs.spent q n t2 → flat_costs.spent f (c.count + k) s ≤ tac_costs.spent q (suc n) t
    costs_further k le =
        let both = spent_both f c.count k s in
        let rest : flat_costs.cost_on (flat.run f c.count s) (flat_costs.spent f k) ≡ flat_costs.spent f k s2 = ap (λ r. flat_costs.cost_on r (flat_costs.spent f k)) es in
        let more : tac_costs.cost_on (step q t) (tac_costs.spent q n) ≡ tac_costs.spent q n t2 = ap (λ r. tac_costs.cost_on r (tac_costs.spent q n)) e in
        omega (arith, both, rest, more, c.costs, le)

    one_later : (u : flat.State) → CallsAt q f t2 n u → CallsAt q f t (suc n) u
    one_later u h = record { at = suc h.at; below = omega (arith, h.below); state = h.state; is = ap (λ r. tac.goes_on r (run q h.at)) e ∙ h.is; calls = h.calls }

    second : (u : flat.State) → HasCallsOf q f t2 u → CallsAt q f t (suc n) u
    second u same = record { at = 1; below = omega arith; state = t2; is = ap (λ r. tac.goes_on r (run q zero)) e; calls = same }

    calls_further : (k : ℕ) → ((j : ℕ) (u : flat.State) → j ≤ k → flat.run f j s2 ≡ flat.running u → CallsAt q f t2 n u) → (j : ℕ) (u : flat.State) → j ≤ c.count + k → flat.run f j s ≡ flat.running u → CallsAt q f t (suc n) u
    calls_further k each j u le ej =
        ⊎_elim
        (λ lt. ⊎_elim (λ same. here t (suc n) u same) (λ same. second u same) (c.calls j u (omega (arith, lt)) ej))
        (λ ge.
        let sum = as_sum c.count j ge in
        one_later u (each sum.rest u (omega (arith, sum.sum, le)) (sym (further sum.rest) ∙ (ap (λ i. flat.run f i s) sum.sum ∙ ej))))
        (cases_lt j c.count)

    below_more : (k : ℕ) (r : Progress) → IsBelow n k r → IsBelow (suc n) (c.count + k) r
    below_more k (running u) le = omega (arith, c.some, le)
    below_more k (ended status input history) le = tt
    below_more k stuck le = tt

    along_more : (r : Progress) → Along q f t2 s2 n r → Along q f t s (suc n) r
    along_more r h = record {
      count = c.count + h.count;
      below = below_more h.count r h.below;
      alike = subst (Alike q f r) (sym (further h.count)) h.alike;
      costs = costs_further h.count h.costs;
      calls = calls_further h.count h.calls;
    }

    pub more : (r : Progress) → GoesAlong q f t2 s2 n r → GoesAlong q f t s (suc n) r
    more (running u) h = along_more (running u) h
    more (ended status input history) h = along_more (ended status input history) h
    more stuck h = tt

  goes_further : (n : ℕ) (t : State) (s : flat.State) → ((t2 : State) (s2 : flat.State) → Matched q f t2 s2 → GoesAlong q f t2 s2 n (run q n t2)) → (r : Progress) → step q t ≡ r → Follows q f t s (tac_costs.cost_if q (instruction_at q t)) r
      → GoesAlong q f t s (suc n) (tac.goes_on r (run q n))
  goes_further n t s each stuck e h = tt
  goes_further n t s each (ended status input history) e h = ends_at_once t s n status input history e h
  goes_further n t s each (running t2) e c =
      let at = there t2 (flat.run f c.count s) c.alike in
      more t t2 s at.state n e c at.is (run q n t2) (each t2 at.state at.matched)

  pub goes_along : (n : ℕ) (t : State) (s : flat.State) → Matched q f t s → GoesAlong q f t s n (run q n t)
  goes_along zero t s m = goes_nowhere t s m
  goes_along (suc n) t s m = goes_further n t s (goes_along n) (step q t) refl (step_follows q f g t s m)
