-- The way from a typed program to its file, a simulation for each step: the abstract machine, three-address code, flat code, flat code optimised, flat
-- code with its words under other numbers, and the machine of the table from the file's image.
use Rattle.std.specs.Prelude.{◌≡◌, ◌≤◌, ◌<◌, ℕ, ◌+◌, ◌*◌, ◌%◌, List, map, length, slice_get}
use Rattle.srcset.specs.declared.refusal.Pos.{Pos}
use Rattle.ctypes.specs.declared.operators.Undef.{Undef}
use Rattle.rv32.specs.Step.{register}
use Rattle.memory_map.specs.MemoryMap.{stack_end}
use Rattle.loader.specs.File.{Image}
use Rattle.elf_out.specs.Layout.{Parts}
use Rattle.elf_out.specs.Program.{program_image}
use Rattle.sim.specs.Runs as sim
use Rattle.sim.specs.Runs.{World, rvrun, start_world}
use Rattle.typing_spec.specs.Program as typed
use Rattle.csem.specs.History.{Entry, trace_of, active, weight_in, sum_of}
use Rattle.csem.specs.Laws.{Grows}
use Rattle.csem.specs.Machine as machine
use Rattle.csem.specs.Machine.{Stops, Ended, Undefined, TicksUsed}
use Rattle.csem.specs.Meaning.{cstep, last_of}
use Rattle.tac_code.specs.Code as tac
use Rattle.tac_code.specs.Run as tac_run
use Rattle.tac_code.specs.Costs as tac_costs
use Rattle.tac_code.specs.Sound.{AreBytes}
use Rattle.tac_code.specs.Lowered.{IsLowered}
use Rattle.frames_code.specs.Code as flat
use Rattle.frames_code.specs.Code.{frame_bytes}
use Rattle.frames_code.specs.Run as flat_run
use Rattle.frames.specs.Costs as flat_costs
use Rattle.frames.specs.Flattened.{IsFlattened, before, behind}
use Rattle.frames_code.specs.Costs.{spent_with_entry}
use Rattle.frames_opt.specs.Simplified.{IsSimplified}
use Rattle.frames_layout.specs.LaidOut.{pace, IsLaidOut}
use Rattle.frames_hoist.specs.Optimised.{IsOptimised}
use Rattle.frames_regalloc.specs.Renumbered.{IsRenumbered}
use Rattle.select_correct.specs.Runs.{slack}
use Rattle.cc_backend.specs.Better.{IsBetter}
use Rattle.cc_backend.specs.FlatImages.{IsImageOf}
use Rattle.cc_backend.specs.Runs.{bytes_or_none}
use Rattle.cc_backend.specs.Simulation.{Doing, Done, System, Terms, Simulates, step_for_step, both}

-- the stack pointer is a multiple of 16, and lies below the stack's end by just the frames of these calls
abbrev pub StandsBelow : (frames calls : List ℕ) → World → Type 0
StandsBelow frames calls w = (register w.machine 2 % 16 ≡ 0) × (register w.machine 2 + sum_of (λ g. bytes_or_none (slice_get frames g)) calls ≡ stack_end)

-- ---- the systems: where the abstract machine meets undefined behaviour, the others have come so far and go on in some way

-- the abstract machine: a step is a tick, which may cost 60 instructions
abbrev pub of_program : typed.Program → List ℕ → System
of_program p input = record {
  Goes = λ n x. (s : machine.State) × (cstep n p input ≡ Stops TicksUsed s) × (trace_of s.history ≡ x.trace) × (s.input ≡ x.input) × (active s.history ≡ x.calls);
  Halts = λ n x. (act : Undef) × (at : Pos) × (s : machine.State) × (cstep n p input ≡ Stops (Undefined act at) s) × (trace_of s.history ≡ x.trace) × (s.input ≡ x.input) × (active s.history ≡ x.calls);
  Ends = λ n x. (s : machine.State) × (cstep n p input ≡ Stops (Ended x.status) s) × (trace_of s.history ≡ x.trace) × (s.input ≡ x.input);
  Calls = λ n calls. (history : List Entry) × Grows history (last_of (cstep n p input)).history × (active history ≡ calls);
  cost = λ n. 60 * n + 60;
}

-- three-address code, which goes on so after n steps
abbrev pub TacGoes : tac.Program → List ℕ → ℕ → Doing → Type 0
TacGoes q input n x = (t : tac_run.State) × (before q input n ≡ tac_run.running t) × (trace_of t.history ≡ x.trace) × (t.input ≡ x.input) × (tac_run.open_calls t ≡ x.calls)

abbrev pub of_tac : tac.Program → List ℕ → System
of_tac q input = record {
  Goes = TacGoes q input;
  Halts = TacGoes q input;
  Ends = λ n x. (history : List Entry) × (before q input n ≡ tac_run.ended x.status x.input history) × (trace_of history ≡ x.trace);
  Calls = λ n calls. (k : ℕ) × (t : tac_run.State) × (k ≤ n) × (before q input k ≡ tac_run.running t) × (tac_run.open_calls t ≡ calls);
  cost = λ n. tac_costs.spent_in_all q n (tac_run.start q input);
}

-- flat code, which goes on so after n steps
abbrev pub FlatGoes : flat.Program → List ℕ → ℕ → Doing → Type 0
FlatGoes f input n x = (s : flat_run.State) × (behind f input n ≡ flat_run.running s) × (s.trace ≡ x.trace) × (s.input ≡ x.input) × (flat_run.active s ≡ x.calls)

abbrev pub FlatEnds : flat.Program → List ℕ → ℕ → Done → Type 0
FlatEnds f input n x = behind f input n ≡ flat_run.ended x.status x.input x.trace

abbrev pub FlatCalls : flat.Program → List ℕ → ℕ → List ℕ → Type 0
FlatCalls f input n calls = (k : ℕ) × (s : flat_run.State) × (k ≤ n) × (behind f input k ≡ flat_run.running s) × (flat_run.active s ≡ calls)

-- as flattening makes it: each call costs as if it had the greatest frame
abbrev pub of_plain : flat.Program → List ℕ → System
of_plain f input = record {
  Goes = FlatGoes f input;
  Halts = FlatGoes f input;
  Ends = FlatEnds f input;
  Calls = FlatCalls f input;
  cost = λ n. flat_costs.spent_in_all f n (flat_run.start f input);
}

-- optimised: a call costs by the size of the frame of the function called
abbrev pub of_flat : flat.Program → List ℕ → System
of_flat f input = record {
  Goes = FlatGoes f input;
  Halts = FlatGoes f input;
  Ends = FlatEnds f input;
  Calls = FlatCalls f input;
  cost = λ n. spent_with_entry f n (flat_run.start f input);
}

-- the machine of the table from an image, which goes on so after k instructions: a step is an instruction; the stack pointer lies below the stack's end by just
-- the frames of the active calls, of which nothing is said on the way
abbrev pub ImageGoes : (frames : List ℕ) → Image → List ℕ → ℕ → Doing → Type 0
ImageGoes frames image input k x = (w : World) × (rvrun k (start_world image input) ≡ sim.Running w) × (w.trace ≡ x.trace) × (w.input ≡ x.input) × StandsBelow frames x.calls w

abbrev pub of_image : (frames : List ℕ) → Image → List ℕ → System
of_image frames image input = record {
  Goes = ImageGoes frames image input;
  Halts = ImageGoes frames image input;
  Ends = λ k x. (w : World) × (rvrun k (start_world image input) ≡ sim.Ended x.status w) × (w.trace ≡ x.trace) × (w.input ≡ x.input);
  Calls = λ k calls. ⊥;
  cost = λ k. k;
}

-- ---- the steps

abbrev pub TacSimulatesProgram : Type 0
TacSimulatesProgram =
    (weight : ℕ → ℕ) (limit : ℕ) (p : typed.Program) (q : tac.Program) (input : List ℕ) → IsLowered p q → AreBytes input
    → Simulates step_for_step weight limit (of_program p input) (of_tac q input)

abbrev pub FlatSimulatesTac : Type 0
FlatSimulatesTac =
    (weight : ℕ → ℕ) (limit : ℕ) (q : tac.Program) (f : flat.Program) (input : List ℕ) → IsFlattened q f → AreBytes input
    → Simulates step_for_step weight limit (of_tac q input) (of_plain f input)

abbrev pub SimplifiedSimulatesFlat : Type 0
SimplifiedSimulatesFlat =
    (weight : ℕ → ℕ) (limit : ℕ) (f g : flat.Program) (input : List ℕ) → IsSimplified f g
    → Simulates step_for_step weight limit (of_plain f input) (of_plain g input)

-- in fewer steps
abbrev pub anew : Terms
anew = record { more = 0; more_at_end = 0; slack = pace; least = 0 }

abbrev pub LaidOutSimulatesFlat : Type 0
LaidOutSimulatesFlat =
    (weight : ℕ → ℕ) (limit : ℕ) (f g : flat.Program) (input : List ℕ) → IsLaidOut f g
    → Simulates anew weight limit (of_plain f input) (of_plain g input)

abbrev pub OptimisedSimulatesFlat : Type 0
OptimisedSimulatesFlat =
    (weight : ℕ → ℕ) (limit : ℕ) (f g : flat.Program) (input : List ℕ) → IsOptimised f g
    → Simulates step_for_step weight limit (of_plain f input) (of_flat g input)

abbrev pub RenumberedSimulatesFlat : Type 0
RenumberedSimulatesFlat =
    (weight : ℕ → ℕ) (limit : ℕ) (f g : flat.Program) (input : List ℕ) → IsRenumbered f g
    → Simulates step_for_step weight limit (of_flat f input) (of_flat g input)

-- 6 instructions before main, and 2 after it; no more steps in a row are without items than the program has places
abbrev pub into_file : flat.Program → Terms
into_file f = record { more = 6; more_at_end = 8; slack = slack f; least = 1 }

-- where each frame is within the weight of its function, and the calls within the image's stack
abbrev pub ImageSimulatesFlat : Type 0
ImageSimulatesFlat =
    (weight : ℕ → ℕ) (f : flat.Program) (parts : Parts) (input : List ℕ) → IsImageOf f parts → AreBytes input
    → ((g : ℕ) → g < length f.functions → frame_bytes (flat_run.function_at f g) ≤ weight g)
    → Simulates (into_file f) weight parts.stack (of_flat f input) (of_image (map frame_bytes f.functions) (program_image parts) input)

-- ---- the way

-- how flat code is made of a program, form by form
pub record IsMadeOf (p : typed.Program) (f : flat.Program) : Type 0 where
  pub code : tac.Program
  pub lowered : IsLowered p code
  pub plain : flat.Program
  pub flattened : IsFlattened code plain
  pub simpler : flat.Program
  pub better : IsBetter plain simpler
  pub renumbered : IsRenumbered simpler f

abbrev pub into_flat : Terms
into_flat = both step_for_step (both step_for_step (both step_for_step (both anew (both step_for_step step_for_step))))

abbrev pub FlatSimulatesProgram : Type 0
FlatSimulatesProgram =
    (weight : ℕ → ℕ) (limit : ℕ) (p : typed.Program) (f : flat.Program) (input : List ℕ) → IsMadeOf p f → AreBytes input
    → Simulates into_flat weight limit (of_program p input) (of_flat f input)

abbrev pub FileSimulatesProgram : Type 0
FileSimulatesProgram =
    (p : typed.Program) (f : flat.Program) (parts : Parts) (input : List ℕ) → IsMadeOf p f → IsImageOf f parts → AreBytes input
    → Simulates (both into_flat (into_file f)) (weight_in p) parts.stack (of_program p input) (of_image (map frame_bytes f.functions) (program_image parts) input)
