-- Laws of the file.
use Rattle.std.specs.Prelude.{◌≡◌, ◌≤◌, ◌+◌, length, Ok}
use Rattle.loader.specs.File.{file_image}
use Rattle.elf_out.specs.Layout.{Parts}
use Rattle.elf_out.specs.Written.{file_of}
use Rattle.elf_out.specs.Program.{program_image}

-- the image that the format reads of a written file is the intended memory: where text and data are small enough, and the stack is
abbrev pub WrittenIsRead : Type 0
WrittenIsRead = (p : Parts) → length p.text + length p.statics ≤ 117440512 → p.stack ≤ 16777216 → file_image (file_of p) ≡ Ok (program_image p)
