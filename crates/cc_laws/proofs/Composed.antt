-- Runs one after another.
use Rattle.std.proofs.Common.{◌≡◌, ℕ, ◌+◌, refl, ap, ◌∙◌}
use Rattle.sim.specs.Runs.{World, Progress, Running, Ended, Trapped, rvrun, goes_on, tick_of}
use Rattle.sim.proofs.Composing.{rvrun-add}

pub rvrun_on : (j k n : ℕ) (w v : World) → rvrun j w ≡ Running v → n ≡ j + k → rvrun n w ≡ rvrun k v
rvrun_on j k n w v h e = ap (λ m. rvrun m w) e ∙ rvrun-add j k w ∙ ap (λ p. goes_on p (rvrun k)) h

only_running : (p : Progress) → goes_on p Running ≡ p
only_running (Running x) = refl
only_running (Ended s x) = refl
only_running (Trapped c x) = refl

-- one more step
pub rvrun_more : (k : ℕ) (w v : World) → rvrun k w ≡ Running v → rvrun (k + 1) w ≡ tick_of v
rvrun_more k w v h = rvrun_on k 1 (k + 1) w v h refl ∙ only_running (tick_of v)
