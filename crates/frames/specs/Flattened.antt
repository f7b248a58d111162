-- The relation between three-address code and flat code that does the same: the contract of flattening.
use Rattle.std.specs.Prelude.{◌≡◌, ◌≤◌, ℕ, true, List, length, is_some, slice_get, Some}
use Rattle.csem.specs.History.{Entry, trace_of}
use Rattle.frames_code.specs.Code as flat
use Rattle.frames_code.specs.Costs.{next_of}
use Rattle.frames_code.specs.Run as flat_run
use Rattle.frames_code.specs.Sound as flat_sound
use Rattle.frames_code.specs.declared.code.Instruction.TheVariants as flat_instruction
use Rattle.tac_code.specs.Code as tac
use Rattle.tac_code.specs.Run as tac_run
use Rattle.tac_code.specs.declared.code.Instruction.TheVariants as instruction
use Rattle.tac_code.specs.Costs as tac_costs
use Rattle.tac_code.specs.Sound.{AreBytes}
use Rattle.frames.specs.Data.{data_of}
use Rattle.frames.specs.Costs as flat_costs

-- the two runs, after n and m steps
abbrev pub before : tac.Program → List ℕ → ℕ → tac_run.Progress
before q input n = tac_run.run q n (tac_run.start q input)

abbrev pub behind : flat.Program → List ℕ → ℕ → flat_run.Progress
behind f input m = flat_run.run f m (flat_run.start f input)

-- the flat state s has the trace, the input left and the active calls of the three-address state t
abbrev pub IsAt : flat_run.State → tac_run.State → Type 0
IsAt s t = (s.trace ≡ trace_of t.history) × (s.input ≡ t.input) × (flat_run.active s ≡ tac_run.open_calls t)

-- no more is spent
abbrev pub CostsNoMore : tac.Program → flat.Program → List ℕ → (n m : ℕ) → Type 0
CostsNoMore q f input n m =
    flat_costs.spent_in_all f m (flat_run.start f input) ≤ tac_costs.spent_in_all q n (tac_run.start q input)

-- each word in a temporary of three-address code is in that of flat code
abbrev pub HasItsWords : flat_run.State → tac_run.State → Type 0
HasItsWords s t = (k w : ℕ) → t.temporaries k ≡ Some (tac_run.word w) → s.temporaries k ≡ Some (flat_run.word w)

-- the result, where the function has one: that is in temporary 0 of three-address code
abbrev pub HasItsResult : tac.Program → flat.Program → flat_run.State → tac_run.State → Type 0
HasItsResult q f s t =
    is_some (tac.function_at q t.call.function).result ≡ true
    → (w : ℕ) → t.temporaries 0 ≡ Some (tac_run.word w) → flat_run.result_of f s ≡ Some (flat_run.word w)

-- where flat code is about to call a function, three-address code is too, with the same words in its temporaries; and to return, with the same result
pub record IsAtCall (q : tac.Program) (f : flat.Program) (t : tac_run.State) (s : flat_run.State) : Type 0 where
  pub calls : (g : ℕ) → next_of f s ≡ Some (flat_instruction.Call g) → (tac_run.instruction_at q t ≡ Some (instruction.Call g)) × HasItsWords s t
  pub returns : next_of f s ≡ Some flat_instruction.Return → (tac_run.instruction_at q t ≡ Some instruction.Return) × HasItsResult q f s t

-- at each of m steps the calls, those that are active and one that begins or ends next, are those of the first run at one of its n
abbrev pub HasItsCalls : tac.Program → flat.Program → List ℕ → (n m : ℕ) → Type 0
HasItsCalls q f input n m = (j : ℕ) (s : flat_run.State) → j ≤ m → behind f input j ≡ flat_run.running s →
    (i : ℕ) × (i ≤ n) × ((t : tac_run.State) × (before q input i ≡ tac_run.running t) × (flat_run.active s ≡ tac_run.open_calls t) × IsAtCall q f t s)

-- for each n where three-address code is not stuck; one step is at least one
pub record InStep (q : tac.Program) (f : flat.Program) (input : List ℕ) : Type 0 where
  pub goes_on : (n : ℕ) (t : tac_run.State) → before q input n ≡ tac_run.running t →
      (m : ℕ) × (n ≤ m) × ((s : flat_run.State) × (behind f input m ≡ flat_run.running s) × IsAt s t) ×
      CostsNoMore q f input n m × HasItsCalls q f input n m
  pub ends : (n status : ℕ) (left : List ℕ) (history : List Entry) → before q input n ≡ tac_run.ended status left history →
      (m : ℕ) × (behind f input m ≡ flat_run.ended status left (trace_of history)) × CostsNoMore q f input n m × HasItsCalls q f input n m

-- function h is g's code: its frame takes no more of the stack, and its code no more bytes
pub record IsCodeOf (g : tac.Function) (h : flat.Function) : Type 0 where
  pub frame : flat.frame_bytes h ≤ tac_costs.call_bytes g
  pub code : flat_costs.function_bytes h ≤ tac_costs.function_bytes g

-- the postcondition of flattening
pub record IsFlattened (q : tac.Program) (f : flat.Program) : Type 0 where
  pub sound : flat_sound.IsSoundProgram f
  pub in_step : (input : List ℕ) → AreBytes input → InStep q f input
  pub statics : f.statics ≡ data_of q
  pub main : f.main ≡ q.main
  pub count : length f.functions ≡ length q.functions
  pub each : (k : ℕ) (g : tac.Function) (h : flat.Function) → slice_get q.functions k ≡ Some g → slice_get f.functions k ≡ Some h → IsCodeOf g h
