-- Flat code in step with the three-address code that it was made of.
use Rattle.std.specs.Prelude.{◌≡◌, ◌⊎◌, ◌≤◌, ◌<◌, ℕ, List, ◌+◌}
use Rattle.tac_code.specs.Code.{Program}
use Rattle.tac_code.specs.Costs.{cost_if}
use Rattle.tac_code.specs.Sound.{IsSoundProgram, AreBytes}
use Rattle.tac_code.specs.Run as tac_run
use Rattle.tac_code.specs.Run.{State, Progress, running, ended, stuck, step, instruction_at, open_calls}
use Rattle.frames_code.specs.Code as flat
use Rattle.frames_code.specs.Costs.{spent}
use Rattle.frames_code.specs.Run as flat_run
use Rattle.frames_code.specs.Run.{active}
use Rattle.frames.specs.Translated.{flat_program}
use Rattle.frames.specs.Flattened.{IsAtCall, InStep, IsFlattened}
use Rattle.frames_correct.specs.Matched.{Matched, Alike}

-- a state of flat code has the calls of one of three-address code, and calls or returns next only where this does
abbrev pub HasCallsOf : Program → flat.Program → State → flat_run.State → Type 0
HasCallsOf q f t u = (active u ≡ open_calls t) × IsAtCall q f t u

-- those after a step
abbrev pub HasCallsAfter : Program → flat.Program → Progress → flat_run.State → Type 0
HasCallsAfter q f (running t) u = HasCallsOf q f t u
HasCallsAfter q f (ended status input history) u = ⊥
HasCallsAfter q f stuck u = ⊥

-- flat code reaches, in at least one step and within a cost, a state that is alike, and has the calls of the one state or of the other
pub record Comes (q : Program) (f : flat.Program) (t : State) (s : flat_run.State) (cost : ℕ) (r : Progress) : Type 0 where
  pub count : ℕ
  pub some : 0 < count
  pub alike : Alike q f r (flat_run.run f count s)
  pub costs : spent f count s ≤ cost
  pub calls : (j : ℕ) (u : flat_run.State) → j ≤ count → flat_run.run f j s ≡ flat_run.running u → HasCallsOf q f t u ⊎ HasCallsAfter q f r u

-- a stuck run promises nothing
abbrev pub Follows : Program → flat.Program → State → flat_run.State → ℕ → Progress → Type 0
Follows q f t s cost stuck = Unit {0}
Follows q f t s cost (running u) = Comes q f t s cost (running u)
Follows q f t s cost (ended status input history) = Comes q f t s cost (ended status input history)

-- one step of three-address code is the steps of its translation: for a call with those that move the arguments
abbrev pub StepFollows : Type 0
StepFollows = (q : Program) → IsSoundProgram q → (t : State) (s : flat_run.State) → Matched q (flat_program q) t s
    → Follows q (flat_program q) t s (cost_if q (instruction_at q t)) (step q t)

-- at their starts, the two states match
abbrev pub StartsMatched : Type 0
StartsMatched = (q : Program) → IsSoundProgram q → (input : List ℕ) → AreBytes input → Matched q (flat_program q) (tac_run.start q input) (flat_run.start (flat_program q) input)

-- the flat program of each sound program is in step with it
abbrev pub FlatIsInStep : Type 0
FlatIsInStep = (q : Program) → IsSoundProgram q → (input : List ℕ) → AreBytes input → InStep q (flat_program q) input

-- and is the flattening that is specified
abbrev pub FlatIsFlattened : Type 0
FlatIsFlattened = (q : Program) → IsSoundProgram q → IsFlattened q (flat_program q)

-- k steps of flat code and then n are one run of k + n
abbrev pub FlatRunsCompose : Type 0
FlatRunsCompose = (p : flat.Program) (k n : ℕ) (s : flat_run.State) → flat_run.run p (k + n) s ≡ flat_run.goes_on (flat_run.run p k s) (flat_run.run p n)
