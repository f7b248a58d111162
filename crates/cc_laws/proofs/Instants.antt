-- Instants at which the file and the abstract machine have done the same.
use Rattle.std.proofs.Common.{◌≡◌, ◌⊎◌, inl, inr, ◌<◌, ℕ, ◌+◌, ◌-◌, ◌*◌, List, reverse, refl, sym, ap, ◌∙◌, subst, arith}
use Rattle.std.proofs.Math.Nat.{lt_of_mul-lt-mul_left}
use Rattle.sim.specs.Runs as sim
use Rattle.sim.specs.Runs.{World, Progress, Running}
use Rattle.select_exec.proofs.Keeping.{runs_keep}
use Rattle.typing_spec.specs.Program.{Program}
use Rattle.csem.specs.Machine.{Ending, Ended, Undefined, TicksUsed, Stops}
use Rattle.csem.specs.Meaning.{cstep, answer, ending_of, last_of}
use Rattle.sim.specs.Runs.{start_world}
use Rattle.loader.specs.File.{Image}
use Rattle.cc_backend.specs.Runs.{RunsAs, IsInput, HasDone}
use Rattle.cc_laws.specs.Laws.{IsDefined, StaysDefined, run_of, done_in}
use Rattle.cc_laws.specs.Frames.{RunsWithinFrames, StaysWithinFrames}
use Rattle.cc_laws.proofs.Clock.{run_stops}

-- the file goes on after k instructions, having done what the abstract machine has within n ticks
pub record GoesOn (image : Image) (p : Program) (input : List ℕ) (n k : ℕ) : Type 0 where
  pub world : World
  pub runs : run_of image input k ≡ Running world
  pub same : done_in (run_of image input k) ≡ (answer n p input).trace

-- or both have ended
pub record HasEnded (image : Image) (p : Program) (input : List ℕ) (n k : ℕ) : Type 0 where
  pub status : ℕ
  pub world : World
  pub runs : run_of image input k ≡ sim.Ended status world
  pub ends : (answer n p input).ending ≡ Ended status
  pub same : done_in (run_of image input k) ≡ (answer n p input).trace

abbrev pub Stands : Image → Program → List ℕ → (n k : ℕ) → Type 0
Stands image p input n k = GoesOn image p input n k ⊎ HasEnded image p input n k

pub same_at : (image : Image) (p : Program) (input : List ℕ) (n k : ℕ) → Stands image p input n k → done_in (run_of image input k) ≡ (answer n p input).trace
same_at image p input n k (inl g) = g.same
same_at image p input n k (inr e) = e.same

-- The file from this image does what the abstract machine does on this input, which meets no undefined behaviour: the stack suffices, by weights or by frames.
pub record Serves (p : Program) (image : Image) (input : List ℕ) : Type 0 where
  pub defined : (n : ℕ) → IsDefined (answer n p input).ending
  pub ends : (n status : ℕ) → cstep n p input ≡ Stops (Ended status) (last_of (cstep n p input))
      → (k : ℕ) × (w : World) × (run_of image input k ≡ sim.Ended status w) × HasDone (last_of (cstep n p input)) w
  pub slack : ℕ
  pub goes_on : (n : ℕ) → cstep n p input ≡ Stops TicksUsed (last_of (cstep n p input))
      → (k : ℕ) × (w : World) × (n < slack * k) × (run_of image input k ≡ Running w) × HasDone (last_of (cstep n p input)) w

pub by_weights : (stack : ℕ) (p : Program) (frames file : List ℕ) (r : RunsAs stack p frames file) (input : List ℕ) → IsInput input → StaysDefined stack p input → Serves p r.image input
by_weights stack p frames file r input bytes fine = record {
  defined = λ n. (fine n).0;
  ends = λ n status stops.
      let found = r.ends input bytes n status (last_of (cstep n p input)) stops (fine n).1 in
      (found.0, found.1, found.3.0, found.3.1);
  slack = r.slack;
  goes_on = λ n stops.
      let found = r.goes_on input bytes n (last_of (cstep n p input)) stops (fine n).1 in
      (found.0, found.1, found.3.0, found.3.1.0, found.3.1.1);
}

pub by_frames : (stack : ℕ) (p : Program) (frames : List ℕ) (image : Image) (input : List ℕ) → RunsWithinFrames stack p frames image input → StaysWithinFrames stack frames p input → Serves p image input
by_frames stack p frames image input r fine = record {
  defined = λ n. (fine n).0;
  ends = λ n status stops.
      let found = r.ends n status (last_of (cstep n p input)) stops (fine n).1 in
      (found.0, found.1, found.3.0, found.3.1);
  slack = r.slack;
  goes_on = λ n stops.
      let found = r.goes_on n (last_of (cstep n p input)) stops (fine n).1 in
      (found.0, found.1, found.3.0, found.3.1.0, found.3.1.1);
}

module _ (p : Program) (image : Image) (input : List ℕ) (m : Serves p image input) where
  -- n ticks such that n < slack * k, or after which both have ended
  abbrev At : ℕ → Type 0
  At n = ((k : ℕ) × (n < m.slack * k) × GoesOn image p input n k) ⊎ ((k : ℕ) × HasEnded image p input n k)

  at_ending : (n : ℕ) (e : Ending) → ending_of (cstep n p input) ≡ e → IsDefined e → cstep n p input ≡ Stops e (last_of (cstep n p input)) → At n
  at_ending n (Ended status) ends ok stops =
      let found = m.ends n status stops in
      inr (
        found.0,
        record {
          status = status;
          world = found.1;
          runs = found.2;
          ends = ends;
          same = ap done_in found.2 ∙ ap reverse found.3.0;
        },
      )
  at_ending n (Undefined act at) ends ok stops = absurd ok
  at_ending n TicksUsed ends ok stops =
      let found = m.goes_on n stops in
      inl (
        found.0,
        found.2,
        record {
          world = found.1;
          runs = found.3;
          same = ap done_in found.3 ∙ ap reverse found.4.0;
        },
      )

  at_ticks : (n : ℕ) → At n
  at_ticks n = at_ending n (ending_of (cstep n p input)) refl (m.defined n) (run_stops n p input)

  pub at_some : (n : ℕ) → (k : ℕ) × Stands image p input n k
  at_some n = elim (at_ticks n) [ inl g ↦ (g.0, inl g.2) | inr e ↦ (e.0, inr e.1) ]

  ended_later : (n k j : ℕ) → HasEnded image p input n k → HasEnded image p input n (j + k)
  ended_later n k j e =
      let order : j + k ≡ k + j = omega arith in
      let stays = ap (run_of image input) order ∙ (runs_keep k j (start_world image input)).1 e.status e.world e.runs in
      record {
        status = e.status;
        world = e.world;
        runs = stays;
        ends = e.ends;
        same = ap done_in (stays ∙ sym e.runs) ∙ e.same;
      }

  -- there is such a number after any k instructions
  behind : (k : ℕ) → At (m.slack * k) → (j : ℕ) × Stands image p input (m.slack * k) (k + j)
  behind k (inl g) =
      let past = lt_of_mul-lt-mul_left m.slack {m = k} {n = g.0} g.1 in
      let whole : g.0 ≡ k + (g.0 - k) = omega (arith, past) in
      (g.0 - k, inl (subst (GoesOn image p input (m.slack * k)) whole g.2))
  behind k (inr e) = (e.0, inr (ended_later (m.slack * k) e.0 k e.1))

  pub at_later : (k : ℕ) → (n : ℕ) × (j : ℕ) × Stands image p input n (k + j)
  at_later k = let found = behind k (at_ticks (m.slack * k)) in (m.slack * k, found.0, found.1)
