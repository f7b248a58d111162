-- A run, and one step more.
use Rattle.std.specs.Prelude.{suc}
use Rattle.std.proofs.Common.{ℕ, List, [], ◌∷◌, ◌++◌, Option, ◌≡◌, ◌≢◌, ◌<◌, ◌≤◌, ◌+◌, ◌-◌, ap, ◌∙◌, refl, subst, sym, arith}
use Rattle.io_ports.specs.Port.{PortView}
use Rattle.rv32.specs.Step.{Machine}
use Rattle.sim.proofs.Composing.{rvrun-add}
use Rattle.sim.specs.Runs.{World, Running, Ended, Trapped, rvrun, goes_on}
use Rattle.sim.specs.Meets.{At, RunMeets}
use Rattle.sim.specs.declared.machine.Outcome.{Outcome}
use Rattle.sim.specs.declared.machine.Outcome.TheVariants as outcome
use Rattle.traced_run.specs.declared.tracing.TraceEnd.TheVariants.{Stopped}
use Rattle.traced_run.specs.Traced.{machine_in, machines_of, TracesUntil, TracesMachines}

-- k steps from where j lead to
rvrun_on : (j k n : ℕ) (w v : World) → rvrun j w ≡ Running v → n ≡ j + k → rvrun n w ≡ rvrun k v
rvrun_on j k n w v h e = ap (λ m. rvrun m w) e ∙ rvrun-add j k w ∙ ap (λ p. goes_on p (rvrun k)) h

-- the outcome of a run of n steps from v is that of k + n steps from where k lead to v
pub behind : (o : Option (List ℕ)) (w v : World) (k n : ℕ) (x : Outcome) (m : Machine) (port : PortView) → rvrun k w ≡ Running v
    → RunMeets o v n x m port → RunMeets o w (k + n) x m port
behind o w v k n outcome.Budget m port r t = (t.0, rvrun_on k n (k + n) w v r refl ∙ t.1, t.2)
behind o w v k n (outcome.Ended s) m port r t = (t.0, rvrun_on k n (k + n) w v r refl ∙ t.1, t.2)
behind o w v k n (outcome.Trapped pc c) m port r t = (t.0, rvrun_on k n (k + n) w v r refl ∙ t.1, t.2, t.3)
behind o w v k n (outcome.Port x) m port r t =
    let lt = t.1.1 in
    (k + t.0, (t.1.0, omega arith, rvrun_on k t.0 (k + t.0) w v r refl ∙ t.1.2, t.1.3))

-- where it does not go on, each longer run has the same outcome
pub stays : (o : Option (List ℕ)) (w : World) (n max : ℕ) (x : Outcome) (m : Machine) (port : PortView) → n ≤ max → x ≢ outcome.Budget
    → RunMeets o w n x m port → RunMeets o w max x m port
stays o w n max outcome.Budget m port le ends t = absurd (ends refl)
stays o w n max (outcome.Ended s) m port le ends t =
    (t.0, ap (λ i. rvrun i w) (omega arith) ∙ rvrun-add n (max - n) w ∙ ap (λ p. goes_on p (rvrun (max - n))) t.1, t.2)
stays o w n max (outcome.Trapped pc c) m port le ends t =
    (t.0, ap (λ i. rvrun i w) (omega arith) ∙ rvrun-add n (max - n) w ∙ ap (λ p. goes_on p (rvrun (max - n))) t.1, t.2, t.3)
stays o w n max (outcome.Port x) m port le ends t =
    let lt = t.1.1 in
    (t.0, (t.1.0, omega arith, t.1.2, t.1.3))

-- a step that goes on, after k that went on
pub goes : (o : Option (List ℕ)) (w v : World) (k : ℕ) (x : Outcome) (m : Machine) (port : PortView) → rvrun k w ≡ Running v → x ≡ outcome.Budget
    → RunMeets o v 1 x m port → (u : World) × (rvrun (k + 1) w ≡ Running u) × At o u m port
goes o w v k x m port r e t =
    let P : Outcome → Type 0 = λ y. RunMeets o w (k + 1) y m port in
    subst P e (behind o w v k 1 x m port r t)

-- a property of the machines up to a step holds of all, where the run stopped there
pub until : (T : List Machine → Type 0) (o : Option (List ℕ)) (w : World) (max : ℕ) (x : Outcome) (m : Machine) (port : PortView) → x ≢ outcome.Budget
    → TracesUntil T o w max x m port → TracesMachines T o w max (Stopped x) m port
until T o w max outcome.Budget m port ends t = absurd (ends refl)
until T o w max (outcome.Ended s) m port ends t = t
until T o w max (outcome.Trapped pc c) m port ends t = t
until T o w max (outcome.Port x) m port ends t = t

-- one machine more
pub one_more : (T : List Machine → Type 0) (k : ℕ) (w v : World) (m : Machine) → rvrun k w ≡ Running v → m ≡ v.machine
    → T (machines_of k w ++ (m ∷ [])) → T (machines_of (k + 1) w)
one_more T k w v m r e t =
    let next : suc k ≡ k + 1 = omega arith in
    subst (λ (n : ℕ). T (machines_of n w)) next (subst (λ (n : Machine). T (machines_of k w ++ (n ∷ []))) (e ∙ sym (ap machine_in r)) t)
