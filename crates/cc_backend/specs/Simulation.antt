-- Forward simulation, with its cost: one system does all that another does, in one form for each step of the way from a program to its file.
use Rattle.std.specs.Prelude.{◌≤◌, ℕ, ◌+◌, ◌*◌, List}
use Rattle.csem_events.specs.Events.{Event}
use Rattle.csem.specs.History.{sum_of}

-- of a run that goes on: its trace, the newest event first, its remaining input, and the active calls, the innermost first
pub record Doing : Type 0 where
  pub trace : List Event
  pub input : List ℕ
  pub calls : List ℕ

-- of a run that has ended: its status, its trace and its remaining input
pub record Done : Type 0 where
  pub status : ℕ
  pub trace : List Event
  pub input : List ℕ

-- A system on one input: whether it goes on so, or has ended so, after a number of steps, or has come so far where it meets undefined behaviour within that number;
-- whether these calls were active at a moment on the way there; and the cost of the steps, in instructions of the machine.
pub record System : Type 1 where
  pub Goes : ℕ → Doing → Type 0
  pub Halts : ℕ → Doing → Type 0
  pub Ends : ℕ → Done → Type 0
  pub Calls : ℕ → List ℕ → Type 0
  pub cost : ℕ → ℕ

-- the calls that were active on the way never weighed more together
abbrev pub AreWithin : (weight : ℕ → ℕ) (limit : ℕ) → System → ℕ → Type 0
AreWithin weight limit system n = (calls : List ℕ) → system.Calls n calls → sum_of weight calls ≤ limit

-- how much more the second system may cost than the first, where they go on and where they end; the greatest number of steps of the first for one of the
-- second; and the least number of steps that the second makes
pub record Terms : Type 0 where
  pub more : ℕ
  pub more_at_end : ℕ
  pub slack : ℕ
  pub least : ℕ

-- Whatever is seen of the first system, where its calls are within a limit, is seen of the second, also where the first meets undefined behaviour; and each moment
-- of the second has the calls of a moment of the first.
pub record Simulates (terms : Terms) (weight : ℕ → ℕ) (limit : ℕ) (first second : System) : Type 0 where
  pub goes_on : (n : ℕ) (x : Doing) → first.Goes n x → AreWithin weight limit first n
      → (k : ℕ) × (n ≤ terms.slack * k) × (terms.least ≤ k) × (second.cost k ≤ first.cost n + terms.more) × second.Goes k x
      × ((calls : List ℕ) → second.Calls k calls → first.Calls n calls)
  pub halts : (n : ℕ) (x : Doing) → first.Halts n x → AreWithin weight limit first n
      → (k : ℕ) × (second.cost k ≤ first.cost n + terms.more) × second.Halts k x
      × ((calls : List ℕ) → second.Calls k calls → first.Calls n calls)
  pub ends : (n : ℕ) (x : Done) → first.Ends n x → AreWithin weight limit first n
      → (k : ℕ) × (second.cost k ≤ first.cost n + terms.more_at_end) × second.Ends k x
      × ((calls : List ℕ) → second.Calls k calls → first.Calls n calls)

-- step for step, at no more cost
abbrev pub step_for_step : Terms
step_for_step = record { more = 0; more_at_end = 0; slack = 1; least = 0 }

-- the terms of two together
abbrev pub both : Terms → Terms → Terms
both s t = record { more = s.more + t.more; more_at_end = s.more_at_end + t.more_at_end; slack = s.slack * t.slack; least = t.least }

-- where a second system does all that the first does, and a third all that the second does, the third does all that the first does
abbrev pub Compose : Type 1
Compose =
    (s t : Terms) (weight : ℕ → ℕ) (limit : ℕ) (first second third : System) → Simulates s weight limit first second → Simulates t weight limit second third
    → Simulates (both s t) weight limit first third
