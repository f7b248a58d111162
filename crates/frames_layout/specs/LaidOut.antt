-- The relation of a flat program to one whose code is laid out anew: jumps are threaded, and what does nothing is gone. It does the same in fewer steps.
use Rattle.std.specs.Prelude.{◌≡◌, ◌≤◌, ℕ, ◌+◌, ◌*◌, List, map}
use Rattle.frames_code.specs.Code.{Program, frame_bytes}
use Rattle.frames_code.specs.Costs.{spent}
use Rattle.frames_code.specs.Run.{State, Progress, running, run, start, active}
use Rattle.frames_code.specs.Sound.{IsSoundProgram}
use Rattle.frames_opt.specs.Simplified.{DoesTheSame, IsDefined, IsAtCall}

-- the most steps of the first program for one of the second
abbrev pub pace : ℕ
pace = 65

abbrev pub IsRunning : Progress → Type 0
IsRunning (running s) = Unit {0}
IsRunning _ = ⊥

-- Where the first program, from s, is after n steps, the second, from t, is after some: it has done the same, has cost no more but what it may, and had only calls active that
-- the first had.
pub record HasDone (p q : Program) (n may : ℕ) (s t : State) : Type 0 where
  pub steps : ℕ
  pub same : DoesTheSame (run p n s) (run q steps t)
  pub fast : IsRunning (run p n s) → n ≤ pace * steps
  pub cheap : spent q steps t ≤ spent p n s + may
  pub calls : (i : ℕ) (v : State) → i ≤ steps → run q i t ≡ running v → (h : ℕ) × ((w : State) × ((h ≤ n) × ((run p h s ≡ running w) × (active v ≡ active w))))

-- The second program comes to v, from t, after k steps; the first has come to such a state from s.
pub record HasComeFrom (p q : Program) (k : ℕ) (s : State) (v : State) : Type 0 where
  pub steps : ℕ
  pub state : State
  pub slow : steps ≤ pace * k
  pub is : run p steps s ≡ running state
  pub calls : active v ≡ active state
  pub at_call : IsAtCall p q state v

pub record IsLaidOut (p q : Program) : Type 0 where
  pub does : (n : ℕ) (input : List ℕ) → IsDefined (run p n (start p input)) → HasDone p q n 0 (start p input) (start q input)
  pub comes : (k m : ℕ) (input : List ℕ) (v : State) → pace * k + 1 ≤ m → IsDefined (run p m (start p input)) → run q k (start q input) ≡ running v → HasComeFrom p q k (start p input) v
  pub frames : map frame_bytes q.functions ≡ map frame_bytes p.functions
  pub sound : IsSoundProgram p → IsSoundProgram q
  pub statics : q.statics ≡ p.statics
  pub main : q.main ≡ p.main
