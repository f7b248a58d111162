-- A run beside the run from the same machine with more permissions: they do the same until a load or a store is refused.
use Rattle.std.proofs.Common.{◌≡◌, ◌⊎◌, inl, inr, ℕ, zero, suc, ◌+◌, refl, sym, ap, ◌∙◌, subst, arith}
use Rattle.rv32.specs.declared.state.Cause.{Cause}
use Rattle.rv32.specs.Space.{Space}
use Rattle.sim.specs.Runs.{World, Progress, Running, Ended, Trapped, tick_of, goes_on, rvrun}
use Rattle.select_exec.specs.Laws.{trace_of, IsEndOf}
use Rattle.select_exec.proofs.Keeping.{runs_keep}
use Rattle.cc_laws.specs.Laws.{IsInside}
use Rattle.cc_laws.proofs.Permissions as kept
use Rattle.cc_laws.proofs.Permissions.{world_of, tick_permits}
use Rattle.cc_laws.proofs.Steps.{inside_now}
use Rattle.cc_laws.proofs.Loosening.{loose_world, loose_progress, NeverTrapped, Allows, tick_loose, permits_further}
use Rattle.cc_laws.proofs.Faults.{IsFault, tick_only}

-- what s permits, t permits, and the executable bytes are the same
pub record Widens (s t : Space) : Type 0 where
  pub allows : Allows s t
  pub executes : (a : ℕ) → t.can_execute a ≡ s.can_execute a

widens_further : (s u t : Space) → kept.Permits s u → Widens s t → Widens u t
widens_further s u t k w = record { allows = permits_further s u t k w.allows; executes = λ a. w.executes a ∙ sym (k.can_execute a) }

-- the run has trapped when the other went on, having done what that had done so far
pub record IsRefused (t : Space) (k : ℕ) (w : World) : Type 0 where
  pub reason : Cause
  pub world : World
  pub traps : rvrun k w ≡ Trapped reason world
  pub fault : IsFault reason
  pub inside : IsInside t world.machine
  pub before : IsEndOf world.trace (trace_of (rvrun k (loose_world t w)))

abbrev pub IsSame : Space → ℕ → World → Type 0
IsSame t k w = rvrun k (loose_world t w) ≡ loose_progress t (rvrun k w)

trap_stays : (k : ℕ) (x : Progress) → NeverTrapped (goes_on x (rvrun k)) → NeverTrapped x
trap_stays k x h c v e = h c v (ap (λ y. goes_on y (rvrun k)) e)

module _ (t : Space) where
  refused_here : (k : ℕ) (w : World) (c : Cause) (v : World) → Widens w.machine.space t → tick_of w ≡ Trapped c v → NeverTrapped (rvrun (suc k) (loose_world t w)) → IsRefused t (suc k) w
  refused_here k w c v al e h =
      let wide = loose_world t w in
      let goes : NeverTrapped (tick_of wide) = trap_stays k (tick_of wide) h in
      let found = tick_only t w al.allows al.executes c v e goes in
      let now : IsInside wide.machine.space wide.machine = inside_now wide goes in
      let inside : IsInside t w.machine = record { fetches = now.fetches; loads = now.loads; stores = now.stores; gets = now.gets; puts = now.puts } in
      let none : 0 + suc k ≡ suc k = omega arith in
      let traps : rvrun (suc k) w ≡ Trapped c w = ap (λ x. goes_on x (rvrun k)) e ∙ ap (Trapped c) found.1 in
      record {
        reason = c;
        world = w;
        traps = traps;
        fault = found.0;
        inside = inside;
        before = subst (λ j. IsEndOf wide.trace (trace_of (rvrun j wide))) none (runs_keep 0 (suc k) wide).0;
      }

  mutual_step : (k : ℕ) (w : World) (x : Progress) → tick_of w ≡ x → Widens w.machine.space t → NeverTrapped (rvrun (suc k) (loose_world t w))
      → ((v : World) → Widens v.machine.space t → NeverTrapped (rvrun k (loose_world t v)) → IsSame t k v ⊎ IsRefused t k v)
      → IsSame t (suc k) w ⊎ IsRefused t (suc k) w
  mutual_step k w (Running v) e al h each =
      let none : NeverTrapped (tick_of w) = λ c u f. let both = sym e ∙ f in cc in
      let wide : tick_of (loose_world t w) ≡ Running (loose_world t v) = tick_loose t w al.allows none ∙ ap (loose_progress t) e in
      let on : rvrun (suc k) (loose_world t w) ≡ rvrun k (loose_world t v) = ap (λ y. goes_on y (rvrun k)) wide in
      let own : rvrun (suc k) w ≡ rvrun k v = ap (λ y. goes_on y (rvrun k)) e in
      let space : kept.Permits w.machine.space v.machine.space = subst (λ y. kept.Permits w.machine.space (world_of y).machine.space) e (tick_permits w) in
      elim (each v (widens_further w.machine.space v.machine.space t space al) (subst NeverTrapped on h)) [
        | inl same ↦ inl (on ∙ same ∙ ap (loose_progress t) (sym own))
        | inr r ↦ inr (record { reason = r.reason; world = r.world; traps = own ∙ r.traps; fault = r.fault; inside = r.inside; before = subst (λ y. IsEndOf r.world.trace (trace_of y)) (sym on) r.before })
      ]
  mutual_step k w (Ended status v) e al h each =
      let none : NeverTrapped (tick_of w) = λ c u f. let both = sym e ∙ f in cc in
      let wide : tick_of (loose_world t w) ≡ Ended status (loose_world t v) = tick_loose t w al.allows none ∙ ap (loose_progress t) e in
      inl (ap (λ y. goes_on y (rvrun k)) wide ∙ ap (loose_progress t) (sym (ap (λ y. goes_on y (rvrun k)) e)))
  mutual_step k w (Trapped c v) e al h each = inr (refused_here k w c v al e h)

  pub same_or_refused : (k : ℕ) (w : World) → Widens w.machine.space t → NeverTrapped (rvrun k (loose_world t w)) → IsSame t k w ⊎ IsRefused t k w
  same_or_refused zero w al h = inl refl
  same_or_refused (suc k) w al h = mutual_step k w (tick_of w) refl al h (same_or_refused k)
