-- The calling convention of the code of an image, and where all frames of flat code's run fit the stack.
use Rattle.std.specs.Prelude.{◌≡◌, ◌≤◌, ℕ, suc, ◌+◌, ◌*◌, List, length}
use Rattle.memory_map.specs.MemoryMap.{text_start, data_start}
use Rattle.elf_out.specs.Layout.{Parts}
use Rattle.elf_out.specs.Program.{program_image}
use Rattle.sim.specs.Runs.{rvrun, start_world}
use Rattle.typing_spec.specs.Program as typed
use Rattle.csem.specs.History.{weight_in, greatest_sum}
use Rattle.csem.specs.Machine as machine
use Rattle.csem.specs.Machine.{Stops, Ended, TicksUsed}
use Rattle.csem.specs.Meaning.{cstep}
use Rattle.frames_code.specs.Code.{Program}
use Rattle.frames_code.specs.Run.{State, running, entered, run, start}
use Rattle.frames_layout.specs.LaidOut.{pace}
use Rattle.select_correct.specs.Laws.{AreBytes}
use Rattle.select_correct.specs.Convention.{KeepsConvention, ComesToCall, behind_call}
use Rattle.cc_backend.specs.FlatImages.{IsImageOf, FitStack}
use Rattle.cc_backend.specs.Made.{IsFlatCodeOf}

-- all frames of m steps from c fit the stack
abbrev pub FitsFor : (stack : ℕ) → Program → (c : State) → ℕ → Type 0
FitsFor stack p c m = (j : ℕ) → j ≤ m → FitStack stack p (run p j c)

-- Each call that a flat program's run reaches, with the stack fitting up to there, keeps the calling convention on the machine that runs its image, as long as
-- all frames fit the stack ..
abbrev pub ImageCallsKeepConvention : Type 0
ImageCallsKeepConvention =
    (p : Program) (parts : Parts) (input : List ℕ) → (q : IsImageOf p parts) → AreBytes input
    → (n f : ℕ) (s : State) → ComesToCall p input n f s → FitsFor parts.stack p (start p input) (suc n)
    → KeepsConvention p q.assembled.env (data_start (length parts.text)) (λ k. rvrun k (start_world (program_image parts) input))
    (q.assembled.env f) (behind_call p q.assembled.env s) (entered s f) (FitsFor parts.stack p (entered s f))

-- .. and so does main, which the program's first 16 bytes call
abbrev pub ImageMainKeepsConvention : Type 0
ImageMainKeepsConvention =
    (p : Program) (parts : Parts) (input : List ℕ) → (q : IsImageOf p parts) → AreBytes input
    → FitStack parts.stack p (running (start p input))
    → KeepsConvention p q.assembled.env (data_start (length parts.text)) (λ k. rvrun k (start_world (program_image parts) input))
    (q.assembled.env p.main) (text_start + 24) (start p input) (FitsFor parts.stack p (start p input))

-- The frames of the calls that are active in a run of a program's flat code are never more than the greatest sum of weights that the abstract machine reports:
-- not in its first steps, one for so many ticks that were used, and not at all, where that has ended.
abbrev pub FramesAreWeighed : Type 0
FramesAreWeighed =
    (p : typed.Program) (f : Program) (input : List ℕ) → IsFlatCodeOf p f → AreBytes input
    → ((n : ℕ) (s : machine.State) → cstep n p input ≡ Stops TicksUsed s
    → (k : ℕ) → pace * k ≤ n → FitStack (greatest_sum (weight_in p) s.history) f (run f k (start f input)))
    × ((n status : ℕ) (s : machine.State) → cstep n p input ≡ Stops (Ended status) s
    → (k : ℕ) → FitStack (greatest_sum (weight_in p) s.history) f (run f k (start f input)))
