-- The permissions of the memory of a file made of a program.
use Rattle.std.proofs.Common.{◌≡◌, Ok, refl, sym, subst}
use Rattle.loader.specs.File.{file_image}
use Rattle.elf_out.specs.Layout.{Parts}
use Rattle.elf_out.specs.Program.{program_space, program_image}
use Rattle.elf_out.proofs.Memory.{written_image}
use Rattle.cc_laws.specs.Laws.{IsLaidOut, FilesAreLaidOut}

laid_out : (parts : Parts) → IsLaidOut parts (program_space parts)
unfolding program_space
laid_out parts = record { executes = λ a. refl; reads = λ a. refl; writes = λ a. refl }

pub files_are_laid_out : FilesAreLaidOut
files_are_laid_out stack p file frames made =
    let image = program_image made.parts in
    (image, subst (λ f. file_image f ≡ Ok image) (sym made.file_is) (written_image made.parts made.image_is.size made.image_is.stack.2), (laid_out made.parts, made.stack_is))
