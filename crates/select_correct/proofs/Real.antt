-- The table's machine follows flat code: from a program's entry on.
use Rattle.std.proofs.Common.{◌≡◌, ◌<◌, ◌^◌, ℕ, List, [], refl, sym, ap, ◌∙◌, subst, arith}
use Rattle.memory_map.specs.MemoryMap.{stack_end}
use Rattle.csem_events.specs.Events.{Event}
use Rattle.sim.specs.Runs as machine
use Rattle.frames_code.specs.Run.{State, running, start}
use Rattle.select_exec.specs.Light.{Light, Go, Done, Fell, light_run}
use Rattle.select_exec.specs.Whole.{Permits, fixed}
use Rattle.select_exec.specs.Worlds.{world, Follows}
use Rattle.select_exec.proofs.Worlds.{real_follows}
use Rattle.select_exec.proofs.Placing.{after_items}
use Rattle.select.specs.Program.{program_items}
use Rattle.select_correct.specs.Laws.{AreBytes}
use Rattle.select_correct.specs.Matches.{Ground, Ready, Matched, Matches, HasRoom, address}
use Rattle.select_correct.specs.Costs.{least_spent}
use Rattle.select_correct.specs.Runs.{slack, ground_at, StandsWith, MachineGoesOn, MachineEnds}
use Rattle.select_correct.specs.Standing.{StandsAt, MachineStands, StepStands}
use Rattle.select_correct.proofs.Progress.{progresses, times_more}
use Rattle.select_correct.proofs.Frames.{sum_is}
use Rattle.select_correct.proofs.Inputs.{Reads, whole, whole_once, flat_reads, machine_reads, Has, Kept, run_keeps}
use Rattle.select_correct.proofs.Steps.{BytesLeft, bytes_last, step_follows}
use Rattle.select_correct.proofs.Laying.{is_ready}
use Rattle.select_correct.proofs.Standing.{stands_with}
use Rattle.select_correct.proofs.Whole.{comes_to, ends, unwatched}

-- the world of a run that goes on
pub record Shown (G : Ground) (s : State) (x : machine.Progress) : Type 0 where
  pub world : machine.World
  pub is : x ≡ machine.Running world
  pub stands : StandsWith G.program G.env s world

pub shown : (P : Permits) (G : Ground) (s : State) (m : Light) (x : machine.Progress) → Ready G → G.sp ≡ stack_end → Matches G (running s) m → Follows P m x → Shown G s x
shown P G s (Go r at b i h) x ready top q f = record { world = world P f.list at b i h; is = f.is; stands = stands_with P G s f.list r at b i h ready top q.0 q.1 q.2 f.shows }
shown P G s (Done status h) x ready top q f = absurd q
shown P G s (Fell h) x ready top q f = absurd q

last : (P : Permits) (status : ℕ) (trace : List Event) (m : Light) (x : machine.Progress) → m ≡ Done status trace → Follows P m x → (w : machine.World) × (x ≡ machine.Ended status w) × (w.trace ≡ trace)
last P status trace m x e f = subst (λ y. Follows P y x) e f

pub goes_on : MachineGoesOn
goes_on P low apart p env floor data_at base e r b list input q shows bytes n s over rooms =
    let F = fixed P b in
    let G = ground_at p F env floor data_at base r b in
    let one = after_items F.text env data_at (program_items p) base e q.aligned q.stands in
    let c = comes_to p F env floor data_at base e r b input q bytes n rooms in
    let real = real_follows P low apart list r base b input [] shows (omega (arith, one.on, q.low)) c.j in
    let x = machine.rvrun c.j (world P list base b input []) in
    let w = shown P G s (light_run F c.j (Go r base b input [])) x (is_ready p F env floor data_at base e r b q) refl (subst (λ y. Matches G y (light_run F c.j (Go r base b input []))) over c.good) real in
    (c.j, w.world, times_more (slack p) (least_spent p n (start p input)) c.j n (progresses p n (start p input) s over) (omega (arith, c.some)), c.within, w.is, w.stands)

pub ends_so : MachineEnds
ends_so P low apart p env floor data_at base e r b list input q shows bytes n status left trace over rooms =
    let F = fixed P b in
    let one = after_items F.text env data_at (program_items p) base e q.aligned q.stands in
    let c = ends p F env floor data_at base e r b input q bytes n status left trace over rooms in
    let real = real_follows P low apart list r base b input [] shows (omega (arith, one.on, q.low)) c.j in
    let begin = world P list base b input [] in
    let w = last P status trace (light_run F c.j (Go r base b input [])) (machine.rvrun c.j begin) c.good real in
    let there : Reads input w.0.input w.0.trace = subst (Has input) w.1 (machine_reads input c.j begin refl) in
    let here : whole trace w.0.input ≡ input = subst (λ h. whole h w.0.input ≡ input) w.2 there in
    let flat : whole trace left ≡ input = subst (Kept (Reads input)) over (flat_reads p n (start p input) input refl) in
    (c.j, w.0, c.within, w.1, w.2, whole_once trace w.0.input left (here ∙ sym flat))

-- ---- in the middle of a run

stands_at : (P : Permits) (G : Ground) (s : State) (m : Light) (x : machine.Progress) → Ready G → G.sp ≡ stack_end → AreBytes s.input → Matches G (running s) m → Follows P m x → StandsAt P G s x
stands_at P G s (Go r at b i h) x ready top bytes q f =
    let here = address G s.frame.function s.frame.at in
    let m : Matched G s r here b = subst (λ z. Matched G s r z b) q.0.at_is q.0 in
    let sum = sum_is G ready s r here b m in
    record {
      list = f.list;
      r = r;
      b = b;
      is = f.is ∙ ap (λ z. machine.Running (world P f.list z b i h)) q.0.at_is ∙ ap (λ z. machine.Running (world P f.list here b z h)) q.1 ∙ ap (λ z. machine.Running (world P f.list here b s.input z)) q.2;
      shows = f.shows;
      small = subst (λ z. z < 2 ^ 32) q.0.at_is f.small;
      matched = m;
      sum = omega (arith, sum);
      stands = stands_with P G s f.list r here b s.input s.trace ready top m refl refl f.shows;
      input = bytes;
    }
stands_at P G s (Done status h) x ready top bytes q f = absurd q
stands_at P G s (Fell h) x ready top bytes q f = absurd q

pub stands : MachineStands
stands P low apart p env floor data_at base e r b list input q shows bytes n s over rooms =
    let F = fixed P b in
    let G = ground_at p F env floor data_at base r b in
    let light = light_run F in
    let one = after_items F.text env data_at (program_items p) base e q.aligned q.stands in
    let c = comes_to p F env floor data_at base e r b input q bytes n rooms in
    let real = real_follows P low apart list r base b input [] shows (omega (arith, one.on, q.low)) c.j in
    let left : AreBytes s.input = subst (Kept BytesLeft) over (run_keeps BytesLeft p bytes_last n (start p input) bytes) in (
      c.j,
      stands_at P G s (light c.j (Go r base b input [])) (machine.rvrun c.j (world P list base b input [])) (is_ready p F env floor data_at base e r b q) refl left
          (subst (λ y. Matches G y (light c.j (Go r base b input []))) over c.good) real,
    )

pub step_stands : StepStands
step_stands P low apart p env floor data_at base r0 b0 b ready s t list r shows small m bytes e room =
    let F = fixed P b in
    let G = ground_at p F env floor data_at base r0 b0 in
    let here = address G s.frame.function s.frame.at in
    let c = step_follows G s r b ready m (unwatched G (omega arith) (omega arith) (running s)) bytes (subst (HasRoom G) (sym e) room) in
    let light = light_run F c.j (Go r here b s.input s.trace) in
    let real = real_follows P low apart list r here b s.input s.trace shows small c.j in
    let to = shown P G t light (machine.rvrun c.j (world P list here b s.input s.trace)) ready refl (subst (λ y. Matches G y light) e c.good) real in
    (c.j, to.world, to.is, to.stands)
