-- What is promised of the file of a program that was verified.
use Rattle.std.specs.Prelude.{◌≤◌, ℕ, List}
use Rattle.srcset.specs.Files.{Files}
use Rattle.srcset.specs.NameTable.{Texts}
use Rattle.typing_spec.specs.Program.{Program}
use Rattle.csem.specs.History.{greatest_sum}
use Rattle.csem.specs.Meaning.{cstep, last_of}
use Rattle.cc_backend.specs.Runs.{IsInput}
use Rattle.cc.specs.declared.compiling.Built.{Built}
use Rattle.cc.specs.Made.{IsMade, MakesProgram}
use Rattle.cc_laws.specs.Laws.{HasImage}
use Rattle.cc_laws.specs.Frames.{frame_in}
use Rattle.cc_theorem.specs.Theorem.{DoesTheSame}
use Rattle.verify_logic.specs.Whole.{IsDefined}
use Rattle.verify_stack.specs.Bounds.{SumsWithin}

-- The file is that of the program, of which nothing undefined is met on any input; the frames of the calls that are active at one time never take more than `most` bytes together,
-- which the stack has.
pub record IsShown (stack : ℕ) (texts : Texts) (p : Program) (built : Built) (most : ℕ) : Type 0 where
  pub makes : MakesProgram stack texts p built
  pub defined : IsDefined p
  pub within : SumsWithin (frame_in makes.builds.frames) most p
  pub fits : most ≤ stack

-- The file is that of the program of the sources, and on every input of bytes it does all that the abstract machine does and nothing else, ends only as that does, and never traps;
-- the frames of its calls stay within the bound, and that within the stack.
pub record IsVerified (stack : ℕ) (set : Files) (name : List ℕ) (built : Built) (most : ℕ) : Type 0 where
  pub made : IsMade stack set name built
  pub fits : most ≤ stack
  pub does : HasImage built.elf.items (λ image. (input : List ℕ) → IsInput input
      → DoesTheSame made.file image input
      × ((n : ℕ) → greatest_sum (frame_in made.compiles.builds.frames) (last_of (cstep n made.compiles.program input)).history ≤ most))
