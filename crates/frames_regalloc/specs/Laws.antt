-- A program whose words have other numbers does the same at the same cost, and is as sound.
use Rattle.std.specs.Prelude.{◌≡◌, ℕ, zero, suc, List, [], ◌∷◌, map, Some}
use Rattle.frames_code.specs.declared.code.Instruction.TheVariants as instruction
use Rattle.frames_code.specs.Code.{Function, Program, frame_bytes}
use Rattle.frames_code.specs.Run.{Frame, State, Progress, running, ended, stuck, run, start, result_of}
use Rattle.frames_code.specs.Costs.{next_of, spent_with_entry}
use Rattle.frames_code.specs.Sound.{IsSoundProgram}
use Rattle.frames_regalloc.specs.Renumbered.{AreRenumbered, IsRenumbered}

-- which word a number was, in each function
abbrev pub words_of : (fs gs : List Function) → AreRenumbered fs gs → ℕ → ℕ → ℕ
words_of [] [] each k c = c
words_of [] (g ∷ gs) each k c = c
words_of (f ∷ fs) [] each k c = c
words_of (f ∷ fs) (g ∷ gs) each zero c = each.0.from c
words_of (f ∷ fs) (g ∷ gs) each (suc k) c = words_of fs gs each.1 k c

-- the words of frames under their new numbers; all else is the same
abbrev pub moved_frame : (ℕ → ℕ → ℕ) → Frame → Frame
moved_frame from f = record f { cells = λ c. f.cells (from f.function c) }

abbrev pub moved : (ℕ → ℕ → ℕ) → State → State
moved from s = record s { frame = moved_frame from s.frame; waiting = map (moved_frame from) s.waiting }

abbrev pub moved_progress : (ℕ → ℕ → ℕ) → Progress → Progress
moved_progress from (running s) = running (moved from s)
moved_progress from (ended status input trace) = ended status input trace
moved_progress from stuck = stuck

-- the same run, step by step, but for the numbers of words
abbrev pub RunsAlike : Type 0
RunsAlike = (p q : Program) → (same : IsRenumbered p q) → (n : ℕ) (input : List ℕ)
    → run q n (start q input) ≡ moved_progress (words_of p.functions q.functions same.functions) (run p n (start p input))

-- It calls and returns only where the program does; the temporaries are the same there, as in each state, and so is the result.
abbrev pub CallsAlike : Type 0
CallsAlike = (p q : Program) → (same : IsRenumbered p q) → (s : State)
    → ((g : ℕ) → next_of q (moved (words_of p.functions q.functions same.functions) s) ≡ Some (instruction.Call g) → next_of p s ≡ Some (instruction.Call g))
    × (next_of q (moved (words_of p.functions q.functions same.functions) s) ≡ Some instruction.Return
    → (next_of p s ≡ Some instruction.Return) × (result_of q (moved (words_of p.functions q.functions same.functions) s) ≡ result_of p s))

-- with the entry of main, where the size of each frame is known
abbrev pub CostsAlike : Type 0
CostsAlike = (p q : Program) → IsRenumbered p q → (n : ℕ) (input : List ℕ) → spent_with_entry q n (start q input) ≡ spent_with_entry p n (start p input)

abbrev pub FramesAlike : Type 0
FramesAlike = (p q : Program) → IsRenumbered p q → map frame_bytes q.functions ≡ map frame_bytes p.functions

abbrev pub StaysSound : Type 0
StaysSound = (p q : Program) → IsRenumbered p q → IsSoundProgram p → IsSoundProgram q
