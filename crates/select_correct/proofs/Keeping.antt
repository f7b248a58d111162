-- Each call of a flat program keeps the stack pointer and s0 to s11 on the table's machine.
use Rattle.std.proofs.Common.{◌≡◌, ℕ, ◌+◌, ◌^◌, ◌<◌, ◌≤◌, List, ◌∷◌, [], Some, true, false, refl, sym, ap, ◌∙◌, subst, arith}
use Rattle.std.specs.Prelude.{nat_lt}
use Rattle.std.proofs.lemmas.Bool.{ltb-true}
use Rattle.rv32.specs.Step.{register}
use Rattle.csem_events.specs.Events.{Event}
use Rattle.sim.specs.Runs as machine
use Rattle.frames_code.specs.declared.code.Instruction.TheVariants as instruction
use Rattle.frames_code.specs.Code.{Program}
use Rattle.frames_code.specs.Costs.{next_of}
use Rattle.frames_code.specs.Run.{word, State, running, entered, function_at, bytes_of, run, start}
use Rattle.select_exec.specs.Light.{Fixed, Light, Go, Done, Fell, light_run}
use Rattle.select_exec.specs.Whole.{Permits, fixed}
use Rattle.select_exec.specs.Worlds.{Registers, world, Follows}
use Rattle.select_exec.proofs.Bridge.{bool_cases}
use Rattle.select_exec.proofs.Steps.{run_plus}
use Rattle.select_exec.proofs.Worlds.{real_follows}
use Rattle.select_exec.proofs.Placing.{after_items}
use Rattle.select.specs.Selected.{kept}
use Rattle.select.specs.Program.{program_items}
use Rattle.select_correct.specs.Matches.{Ground, Matched, Matches, HasRoom, address}
use Rattle.select_correct.specs.Laws.{AreBytes}
use Rattle.select_correct.specs.Runs.{Laid, IsWithin, IsBack, StandsWith, BackFrom, slack, ground_at, MachineCallsKeep}
use Rattle.select_correct.proofs.Registers.{kept_above}
use Rattle.select_correct.proofs.Inputs.{Kept, run_keeps}
use Rattle.select_correct.proofs.Steps.{BytesLeft, bytes_last}
use Rattle.select_correct.proofs.Laying.{is_ready}
use Rattle.select_correct.specs.Costs.{least_spent, step_cost, most_spent}
use Rattle.select_correct.proofs.Progress.{progresses, times_more}
use Rattle.select_correct.proofs.Standing.{register_shown, stands_with}
use Rattle.select_correct.proofs.Whole.{comes_to}
use Rattle.select_correct.proofs.Watching.{each_call_keeps}

pub kept_low : (j : ℕ) → j < 12 → kept j < 32
kept_low j lt = bool_cases (nat_lt j 2) (λ t. rw t (omega (arith, ltb-true j 2 t))) (λ t. rw t (omega (arith, lt)))

-- the world after the call, where the light machine is, and its registers compared with those at the call
record Behind (t : State) (before : machine.World) (y : machine.Progress) (back : ℕ) : Type 0 where
  pub world : machine.World
  pub is : y ≡ machine.Running world
  pub back_from : BackFrom t back before world

behind : (P : Permits) (G : Ground) (r : ℕ → ℕ) (at : ℕ) (b : ℕ → ℕ) (i : List ℕ) (h : List Event) (list : List ℕ) (t : State) (m : Light) (y : machine.Progress) (back : ℕ) → Registers list r → IsBack G r t back m → Follows P m y
    → Behind t (world P list at b i h) y back
behind P G r at b i h list t (Go r2 at2 b2 i2 h2) y back shows q g =
    let now : (k : ℕ) → 0 < k → k < 32 → register (world P g.list at2 b2 i2 h2).machine k ≡ r2 k = register_shown P g.list r2 at2 b2 i2 h2 g.shows in
    let same : (k : ℕ) → 0 < k → k < 32 → r2 k ≡ r k → register (world P g.list at2 b2 i2 h2).machine k ≡ register (world P list at b i h).machine k = λ k pos lt e.
    now k pos lt ∙ (e ∙ sym (register_shown P list r at b i h shows k pos lt)) in
    record {
      world = world P g.list at2 b2 i2 h2;
      is = g.is;
      back_from = record {
        pc = q.0;
        sp = same 2 (omega arith) (omega arith) q.1;
        file = λ j lt. same (kept j) (omega (arith, kept_above j)) (kept_low j lt) (q.2 j);
        result = λ x e. now 10 (omega arith) (omega arith) ∙ q.3 (word x) e;
        trace = q.5;
        input = q.4;
      };
    }
behind P G r at b i h list t (Done status h2) y back shows q g = absurd q
behind P G r at b i h list t (Fell h2) y back shows q g = absurd q

-- both worlds
record Both (p : Program) (env : ℕ → ℕ) (s t : State) (x y : machine.Progress) (back : ℕ) : Type 0 where
  pub before : machine.World
  pub before_is : x ≡ machine.Running before
  pub stands : StandsWith p env s before
  pub after : Behind t before y back

module _ (P : Permits) (low : (a : ℕ) → P.can_execute a ≡ true → a < 2 ^ 31) (apart : (a : ℕ) → P.can_execute a ≡ true → P.can_write a ≡ false) (p : Program) (env : ℕ → ℕ) (floor data_at base e : ℕ) (r b : ℕ → ℕ) (list input : List ℕ) (q : Laid p (fixed P b) env floor data_at base e r b) (shows : Registers list r) where
  abbrev F : Fixed
  F = fixed P b

  abbrev G : Ground
  G = ground_at p F env floor data_at base r b

  abbrev begin : Light
  begin = Go r base b input []

  abbrev real : ℕ → machine.Progress
  real k = machine.rvrun k (world P list base b input [])

  really : (k : ℕ) → Follows P (light_run F k begin) (real k)
  really k =
      let one = after_items F.text env data_at (program_items p) base e q.aligned q.stands in
      real_follows P low apart list r base b input [] shows (omega (arith, one.on, q.low)) k

  from_call : (k f n : ℕ) (s t : State) (m : Light) → light_run F k begin ≡ m → Matches G (running s) m → AreBytes s.input → next_of p s ≡ Some (instruction.Call f) → run p n (entered s f) ≡ running t → next_of p t ≡ Some instruction.Return
      → bytes_of p t.waiting ≡ bytes_of p (s.frame ∷ s.waiting) → ((j : ℕ) → j ≤ n → HasRoom G (run p j (entered s f))) → ((j : ℕ) → j ≤ n → IsWithin p s (run p j (entered s f)))
      → (j : ℕ) × (0 < j) × (j ≤ step_cost p (function_at p s.frame.function) (instruction.Call f) + most_spent p n (entered s f) + step_cost p (function_at p t.frame.function) instruction.Return) × Both p env s t (real k) (real (k + j)) (address G s.frame.function (s.frame.at + 1))
  from_call k f n s t (Go r1 at b1 i h) em w bytes es over et same rooms within =
      let here = address G s.frame.function s.frame.at in
      let back = address G s.frame.function (s.frame.at + 1) in
      let ready = is_ready p F env floor data_at base e r b q in
      let m1 = subst (λ x. Matched G s r1 x b1) w.0.at_is w.0 in
      let c = each_call_keeps G s t f n r1 b1 ready m1 bytes es over et same rooms within in
      let there : Go r1 at b1 i h ≡ Go r1 here b1 s.input s.trace = ap (λ x. Go r1 x b1 i h) w.0.at_is ∙ (ap (λ x. Go r1 here b1 x h) w.1 ∙ ap (Go r1 here b1 s.input) w.2) in
      let first : light_run F k begin ≡ Go r1 here b1 s.input s.trace = em ∙ there in
      let second : light_run F (k + c.j) begin ≡ light_run F c.j (Go r1 here b1 s.input s.trace) = run_plus F k c.j begin ∙ ap (light_run F c.j) first in
      let f1 : Follows P (Go r1 here b1 s.input s.trace) (real k) = subst (λ x. Follows P x (real k)) first (really k) in
      let f2 : Follows P (light_run F c.j (Go r1 here b1 s.input s.trace)) (real (k + c.j)) = subst (λ x. Follows P x (real (k + c.j))) second (really (k + c.j)) in (
        c.j,
        omega (arith, c.some),
        c.within,
        record {
          before = world P f1.list here b1 s.input s.trace;
          before_is = f1.is;
          stands = stands_with P G s f1.list r1 here b1 s.input s.trace ready refl m1 refl refl f1.shows;
          after = behind P G r1 here b1 s.input s.trace f1.list t (light_run F c.j (Go r1 here b1 s.input s.trace)) (real (k + c.j)) back f1.shows c.good f2;
        },
      )
  from_call k f n s t (Done status h) em w bytes es over et same rooms within = absurd w
  from_call k f n s t (Fell h) em w bytes es over et same rooms within = absurd w

pub calls_keep : MachineCallsKeep
calls_keep P low apart p env floor data_at base e r b list input q shows bytes n m f s t over es later et same rooms inner within =
    let F = fixed P b in
    let G = ground_at p F env floor data_at base r b in
    let c = comes_to p F env floor data_at base e r b input q bytes n rooms in
    let m1 = light_run F c.j (Go r base b input []) in
    let left : AreBytes s.input = subst (Kept BytesLeft) over (run_keeps BytesLeft p bytes_last n (start p input) bytes) in
    let z = from_call P low apart p env floor data_at base e r b list input q shows c.j f m s t m1 refl (subst (λ x. Matches G x m1) over c.good) left es later et same inner within in
    let more = times_more (slack p) (least_spent p n (start p input)) c.j n (progresses p n (start p input) s over) (omega (arith, c.some)) in
    (c.j, z.0, z.3.before, z.3.after.world, more, c.within, z.1, z.2, z.3.before_is, z.3.stands, z.3.after.is, z.3.after.back_from)
