-- The theorem about the compiler with no premise left, for programs that were verified.
use Rattle.std.specs.Prelude.{◌≤◌, ℕ, List}
use Rattle.srcset.specs.Files.{Files}
use Rattle.csem.specs.History.{greatest_sum}
use Rattle.csem.specs.Meaning.{answer, cstep, last_of}
use Rattle.cc_backend.specs.Runs.{IsInput}
use Rattle.cc.specs.declared.compiling.Built.{Built}
use Rattle.cc.specs.Made.{IsMade}
use Rattle.cc_laws.specs.Laws.{HasImage}
use Rattle.cc_laws.specs.Frames.{frame_in}
use Rattle.cc_theorem.specs.Theorem.{DoesTheSame}
use Rattle.verify_logic.specs.Whole.{IsDefined}
use Rattle.verify_stack.specs.Bounds.{SumsWithin, StaysWithin}

-- For each file that the compiler answers, where `verify` finds its program defined, and `stack_bound` a bound that is no more than the stack: on every input of
-- bytes the file does all that the abstract machine does and nothing else, ends only as that does, never traps, and the weights of its calls stay within the bound.
abbrev pub VerifiedTheorem : Type 0
VerifiedTheorem =
    (stack most : ℕ) (set : Files) (name : List ℕ) (built : Built) (made : IsMade stack set name built)
    → IsDefined made.compiles.program → StaysWithin most made.compiles.program → most ≤ stack
    → HasImage built.elf.items (λ image. (input : List ℕ) → IsInput input
    → DoesTheSame made.file image input × ((n : ℕ) → (answer n made.compiles.program input).greatest ≤ most))

-- The same, where the bound is one of the frames that are reported of the file, which are never larger than the weights.
abbrev pub VerifiedByFrames : Type 0
VerifiedByFrames =
    (stack most : ℕ) (set : Files) (name : List ℕ) (built : Built) (made : IsMade stack set name built)
    → IsDefined made.compiles.program → SumsWithin (frame_in made.compiles.builds.frames) most made.compiles.program → most ≤ stack
    → HasImage built.elf.items (λ image. (input : List ℕ) → IsInput input
    → DoesTheSame made.file image input
    × ((n : ℕ) → greatest_sum (frame_in made.compiles.builds.frames) (last_of (cstep n made.compiles.program input)).history ≤ most))
