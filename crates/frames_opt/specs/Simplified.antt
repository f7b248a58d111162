-- The relation of a flat program to another that it simulates, at no more cost.
use Rattle.std.specs.Prelude.{◌≡◌, ◌≤◌, ℕ, List, map, slice_get, sum_by, Some}
use Rattle.frames_code.specs.declared.code.Instruction.TheVariants as instruction
use Rattle.frames_code.specs.Code.{Function, Program, frame_bytes}
use Rattle.frames_code.specs.Run.{Value, State, Progress, running, ended, stuck, run, start, active, result_of}
use Rattle.frames_code.specs.Costs.{next_of, spent}
use Rattle.frames_code.specs.Sound.{IsSoundProgram}
use Rattle.frames.specs.Costs.{code_bytes}

-- the second matches the first, which promises nothing where it is stuck
abbrev pub DoesTheSame : Progress → Progress → Type 0
DoesTheSame (running s) (running t) = (t.trace ≡ s.trace) × (t.input ≡ s.input) × (active t ≡ active s)
DoesTheSame (running s) (ended status input trace) = ⊥
DoesTheSame (running s) stuck = ⊥
DoesTheSame (ended status input trace) r = r ≡ ended status input trace
DoesTheSame stuck r = Unit {0}

abbrev pub IsDefined : Progress → Type 0
IsDefined (running s) = Unit {0}
IsDefined (ended status input trace) = Unit {0}
IsDefined stuck = ⊥

-- what the first has in a temporary, the second has there
abbrev pub HasItsValues : State → State → Type 0
HasItsValues s t = (k : ℕ) (v : Value) → s.temporaries k ≡ Some v → t.temporaries k ≡ Some v

-- what the first passes to its caller, the second does
abbrev pub HasItsResult : Program → Program → State → State → Type 0
HasItsResult p q s t = (v : Value) → result_of p s ≡ Some v → result_of q t ≡ Some v

-- where the second is about to call a function, the first is too, with the same in its temporaries; and to return, with the same result
pub record IsAtCall (p q : Program) (s t : State) : Type 0 where
  pub calls : (g : ℕ) → next_of q t ≡ Some (instruction.Call g) → (next_of p s ≡ Some (instruction.Call g)) × HasItsValues s t
  pub returns : next_of q t ≡ Some instruction.Return → (next_of p s ≡ Some instruction.Return) × HasItsResult p q s t

abbrev pub RunsAlike : (p q : Program) → Type 0
RunsAlike p q = (n : ℕ) (input : List ℕ) → DoesTheSame (run p n (start p input)) (run q n (start q input))

abbrev pub CallsAlike : (p q : Program) → Type 0
CallsAlike p q = (n : ℕ) (input : List ℕ) (s t : State) → run p n (start p input) ≡ running s → run q n (start q input) ≡ running t → IsAtCall p q s t

-- program q is p made simpler: after each number of steps it has done the same, has the same calls active, and has cost no more; its frames have the
-- same bytes, and the code of each function no more; it calls and returns only where p does
pub record IsSimplified (p q : Program) : Type 0 where
  pub runs : RunsAlike p q
  pub at_calls : CallsAlike p q
  pub costs : (n : ℕ) (input : List ℕ) → IsDefined (run p n (start p input)) → spent q n (start q input) ≤ spent p n (start p input)
  pub frames : map frame_bytes q.functions ≡ map frame_bytes p.functions
  pub bytes : (k : ℕ) (f g : Function) → slice_get p.functions k ≡ Some f → slice_get q.functions k ≡ Some g → sum_by code_bytes g.code ≤ sum_by code_bytes f.code
  pub sound : IsSoundProgram p → IsSoundProgram q
  pub statics : q.statics ≡ p.statics
  pub main : q.main ≡ p.main

-- what does the same as what does the same as a program does the same as the program
abbrev pub AlikeInTurn : Type 0
AlikeInTurn = (p q r : Program) → RunsAlike p q → CallsAlike p q → RunsAlike q r → CallsAlike q r → RunsAlike p r × CallsAlike p r

-- and is defined where it is
abbrev pub DefinedAlike : Type 0
DefinedAlike = (p q : Program) → RunsAlike p q → (n : ℕ) (input : List ℕ) → IsDefined (run p n (start p input)) → IsDefined (run q n (start q input))
